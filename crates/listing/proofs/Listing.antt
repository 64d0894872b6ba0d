-- From the listing of a case that has been read to the outcome of the call on its file. Assumes nothing.
use Prim.Native.Nat.{ℕ, ◌≤◌}
use mathlib.Core.Path.{refl, sym, subst}
use mathlib.Core.List.{List, [], ◌∷◌, ◌++◌}
use lib.ListN.{length}
use Rattle.rack.specs.Listing.{Asked, NextIs}
use Rattle.rack.specs.Layout.{ReadsAs, BreaksAt}
use Rattle.rack.specs.Refusal.{Own, given_run, lent-room, Check, work-room, own, work_room, NetsPass, Question, Refuses, speaks, rests}
use Rattle.std.proofs.Common.{Err}
use Rattle.rack.specs.Refused.{number_of, beside_of}
use Rattle.rack.specs.declared.Refusal.{Refusal}
use Rattle.rack.specs.NetChecks.{pattern_order, product_order}
use Rattle.rack.specs.Outcome.{zeroed}
use Rattle.rack.specs.ListingOutcome.{of_listing, limit_most, GivenBad, NextFits, ListingSays, limit_over, given_bad, next_short, ListingRests, limit_kept, given_fine, ListingIs}
use Rattle.rack.specs.ListingOutcome as outcome
use Rattle.rack.specs.declared.Case.{Case}
use Rattle.rack.specs.declared.Listed.{Listed}
use Rattle.rack.specs.declared.Listed.TheVariants.{Refused}
use Rattle.rack.proofs.OneReading.{one_case}
use Rattle.rack.proofs.OneFirst.{next_one}
use Rattle.rack.proofs.Lift.{layout_rests, lift_refuses, lift_on, passes_accept}
use Rattle.rack.proofs.Answer.{listing_accepts, answer_end}
use Rattle.admit.specs.Admits.{NetsRefuse, of_pattern, of_product}
use Rattle.listing.specs.Barred.{Barred, by_room, by_limit}
use Rattle.listing.specs.CaseListed.{Shown, matching, other, end, short, CaseListed, bad, shown}

module _ (f : List ℕ) (most : ℕ) (asked : Asked) (room work : List ℕ) where
  -- 1, the work room is too short, and 12, the limit is over 24
  pub barred_outcome : {r : Refusal} → Barred (length work) most (Err r) → ListingIs f most asked room work (Refused (number_of r) (beside_of r)) room (zeroed work)
  barred_outcome (by_room h) = outcome.refused (speaks {k = work-room} (h, refl))
  barred_outcome (by_limit r h) = outcome.refused (rests r (speaks (limit_over h)))

  module _ (enough : work_room ≤ length work) (low : most ≤ limit_most) where
    -- 2: the file breaks the layout
    pub broken_file : {p : ℕ} → BreaksAt f p → ListingIs f most asked room work (Refused 2 p) room (zeroed work)
    broken_file b = outcome.refused (rests enough (rests (limit_kept low) (speaks b)))

    module _ {c : Case} (reads : ReadsAs f c) where
      abbrev q : Question
      q = of_listing f work

      abbrev Says : Own → ℕ → Type 0
      Says = ListingSays f most asked room

      abbrev Rests : Own → Type 0
      Rests = ListingRests f most asked room

      -- the listing's checks after 3 to 9
      abbrev own_order : List Check
      own_order = own given_run ∷ own lent-room ∷ []

      -- a refusal after the checks 1, 12 and 2
      after_file : {n m : ℕ} → Refuses q Says Rests (pattern_order ++ (product_order ++ own_order)) n m → ListingIs f most asked room work (Refused n m) room (zeroed work)
      after_file s = outcome.refused (rests enough (rests (limit_kept low) (rests (layout_rests q Says Rests c reads) s)))

      -- 3 to 9
      pub nets_refuse : {n m : ℕ} → NetsRefuse c n m → ListingIs f most asked room work (Refused n m) room (zeroed work)
      nets_refuse (of_pattern s) = after_file (lift_refuses q Says Rests c reads (product_order ++ own_order) s)
      nets_refuse (of_product a s) = after_file (lift_on q Says Rests c reads {more = product_order ++ own_order} a (lift_refuses q Says Rests c reads own_order s))

      module _ (ok : NetsPass c) where
        -- a refusal after the checks 3 to 9
        after_nets : {n m : ℕ} → Refuses q Says Rests own_order n m → ListingIs f most asked room work (Refused n m) room (zeroed work)
        after_nets s = after_file (lift_on q Says Rests c reads {more = own_order} (passes_accept ok) s)

        module _ (good : GivenBad c most asked → ⊥) where
          fits : {r : List ℕ} → NextIs c most asked r → length r ≤ length room → NextFits f most asked room
          fits {r} x h d s p y =
              let e = next_one (subst (λ (g : Case). NextIs g most asked s) (one_case p reads) y) x in
              subst (λ (l : List ℕ). length l ≤ length room) (sym e) h

          shown_outcome : {x : Listed} {a : List ℕ} → Shown c most asked room x a → ListingIs f most asked room work x a (zeroed work)
          shown_outcome (matching x m h) = outcome.matching (listing_accepts reads ok most low asked good room work enough (fits x h)) reads x m
          shown_outcome (other x m h) = outcome.other (listing_accepts reads ok most low asked good room work enough (fits x h)) reads x m
          shown_outcome (end x) = answer_end reads ok most low asked good room work enough x
          shown_outcome (short {r = r} x h) =
              after_nets
              (rests (given_fine (record { case = c; reads = reads; is = good }))
              (speaks (next_short (record { case = c; run = r; reads = reads; next = x; short = h; needed = refl }))))

        -- THE LISTING of a file that reads as c
        pub listing_of : {x : Listed} {a : List ℕ} → CaseListed c most asked room x a → ListingIs f most asked room work x a (zeroed work)
        listing_of (bad b) = after_nets (speaks (given_bad (record { case = c; reads = reads; is = b })))
        listing_of (shown g s) = shown_outcome g s
