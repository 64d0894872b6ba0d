-- From what holds of a case to what the calls answer on a file that reads as it, in rooms that are long enough. Assumes nothing.
use Prim.Native.Nat.{ℕ, ◌<◌, ◌≤◌}
use mathlib.Core.Path.{◌≡◌, sym, ap, ◌∙◌, subst}
use mathlib.Core.Bool.{Bool, true, false}
use mathlib.Core.List.Memᴰ
use mathlib.Core.List.{List, [], ◌∷◌, Memᴰ}
use mathlib.Core.Logic.{◌⊎◌, ⊎_elim}
use native.Mathlib.Omega.{arith}
use lib.ListN.{length}
use lib.Dec.{T}
use Rattle.walks.specs.Below.{pick}
use Rattle.walks.specs.Walk.{walks}
use Rattle.walks.proofs.Closed.{walks_cons}
use Rattle.rack.specs.Follow.{ProductMarking, start, step}
use Rattle.rack.specs.Run.{fires, runs, matches, Explains}
use Rattle.rack.specs.Verdict.{FirstOfKind, NoneExplains, IsFaulty, IsSafe, IsAmbiguous}
use Rattle.rack.specs.Listing.{Asked, after, NextIs, EndIs}
use Rattle.rack.specs.Layout.{ReadsAs}
use Rattle.rack.specs.Refusal.{Own, unexplained, lent-room, given_run, Check, own, work_room, NetsPass, speaks, rests, none, also}
use Rattle.rack.specs.Outcome.{holding, zeroed}
use Rattle.rack.specs.VerdictOutcome.{of_verdict, Fits, RunsFit, VerdictSays, none-explains, VerdictRests, one_explains, runs_fit, VerdictAccepts, VerdictIs, faulty, safe, ambiguous}
use Rattle.rack.specs.VerdictOutcome as judge
use Rattle.rack.specs.ListingOutcome.{of_listing, limit_most, GivenBad, NextFits, ListingSays, ListingRests, limit_kept, given_fine, next_fits, ListingAccepts, ListingIs}
use Rattle.rack.specs.ListingOutcome as list
use Rattle.rack.specs.declared.Case.{Case}
use Rattle.rack.specs.declared.Listed.TheVariants as Listing
use Rattle.rack.specs.declared.Verdict.TheVariants as Verdict
use Rattle.rack.proofs.OneReading.{one_case}
use Rattle.rack.proofs.OneFirst.{first_one}
use Rattle.rack.proofs.Accept.{firable_known}
use Rattle.rack.proofs.Lift.{layout_rests, lift_on, lift_accepts, passes_accept}

-- ---- the verdict

module _ {f : List ℕ} {c : Case} (reads : ReadsAs f c) (ok : NetsPass c) (matching other work : List ℕ) (room : work_room ≤ length work) where
  -- the first run of a kind fits, if one fits that is the first; and where there is none
  fits : (k : Bool) (r lent : List ℕ) → FirstOfKind c k r → length r ≤ length lent → Fits f k lent
  fits k r lent x h d s p y = let e = first_one (subst (λ (g : Case). FirstOfKind g k s) (one_case p reads) y) x in subst (λ (l : List ℕ). length l ≤ length lent) (sym e) h

  fits_none : (k : Bool) (lent : List ℕ) → ((r : List ℕ) → FirstOfKind c k r → ⊥) → Fits f k lent
  fits_none k lent absent d s p y = absurd (absent s (subst (λ (g : Case). FirstOfKind g k s) (one_case p reads) y))

  abbrev Says : Own → ℕ → Type 0
  Says = VerdictSays f matching other

  abbrev Rests : Own → Type 0
  Rests = VerdictRests f matching other

  -- the verdict's checks after the common ones
  abbrev own_order : List Check
  own_order = own unexplained ∷ own lent-room ∷ []

  -- none of the checks speaks where a run explains the log and the rooms are long enough
  pub accepts : (r : List ℕ) → Explains c r → RunsFit f matching other → VerdictAccepts f matching other work
  accepts r x h =
      let q = of_verdict f work in
      also room
      (also (layout_rests q Says Rests c reads)
      (lift_accepts q Says Rests c reads {more = own_order} (passes_accept ok)
      (also (one_explains (record { case = c; reads = reads; is = (r, x) })) (also (runs_fit h) none))))

  true≠false : true ≡ false → ⊥
  true≠false e = let z : ◌≡◌ {A = ℕ} 0 1 = ap (λ (b : Bool). pick b 0 1) e in omega arith

  pub answer_faulty : {r : List ℕ} → IsFaulty c r → length r ≤ length matching
      → VerdictIs f matching other work (record { verdict = Verdict.Faulty; matching = length r; other = 0 }) (holding r matching) other (zeroed work)
  answer_faulty {r} x h =
      faulty
      (accepts r x.shows.explains
      (record { matching_fits = fits true r matching x.shows h; other_fits = fits_none false other (λ s y. true≠false (sym (x.all s y.explains) ∙ y.kind)) }))
      reads x

  pub answer_safe : {s : List ℕ} → IsSafe c s → length s ≤ length other
      → VerdictIs f matching other work (record { verdict = Verdict.Safe; matching = 0; other = length s }) matching (holding s other) (zeroed work)
  answer_safe {s} x h =
      safe
      (accepts s x.shows.explains
      (record { matching_fits = fits_none true matching (λ r y. true≠false (sym y.kind ∙ x.all r y.explains)); other_fits = fits false s other x.shows h }))
      reads x

  pub answer_ambiguous : {r s : List ℕ} → IsAmbiguous c r s → length r ≤ length matching → length s ≤ length other
      → VerdictIs f matching other work (record { verdict = Verdict.Ambiguous; matching = length r; other = length s }) (holding r matching) (holding s other) (zeroed work)
  answer_ambiguous {r} {s} x h k =
      ambiguous (accepts r x.matching.explains (record { matching_fits = fits true r matching x.matching h; other_fits = fits false s other x.other k })) reads x

  pub answer_unexplained : NoneExplains c → VerdictIs f matching other work (record { verdict = Verdict.Refused 10 0; matching = 0; other = 0 }) matching other (zeroed work)
  answer_unexplained x =
      let q = of_verdict f work in
      judge.refused
      (rests room
      (rests (layout_rests q Says Rests c reads)
      (lift_on q Says Rests c reads {more = own_order} (passes_accept ok)
      (speaks (none-explains (record { case = c; reads = reads; is = x }))))))

-- ---- the listing

-- the numbers of a run are transitions of the case
pub run_known : (c : Case) (r : List ℕ) (m : ProductMarking) → T (walks (fires c) (step c) m r) → (t : ℕ) → Memᴰ t r → t < c.arcs.count
run_known c [] m u t h = absurd (Memᴰ.not-nil h)
run_known c (s ∷ r) m u t h =
    let (g, u') = walks_cons (fires c) (step c) m s r u in
    ⊎_elim (λ e. subst (λ (x : ℕ). x < c.arcs.count) (sym e) (firable_known c m.system s g)) (λ k. run_known c r (step c m s) u' t k) (Memᴰ.cases_cons h)

-- a run within the limit that explains is no bad given run
pub given_good : (c : Case) (n : ℕ) (r : List ℕ) → Explains c r → length r ≤ n → GivenBad c n (after r) → ⊥
unfolding runs
given_good c n r x h = ⊎_elim (λ k. omega arith) (λ k. let z = run_known c r (start c) x.run k.0 k.1.0 in omega (arith, z, k.1.1))

module _ {f : List ℕ} {c : Case} (reads : ReadsAs f c) (ok : NetsPass c) (n : ℕ) (low : n ≤ limit_most) (asked : Asked) (good : GivenBad c n asked → ⊥) (room work : List ℕ)
    (enough : work_room ≤ length work) where
  -- none of the checks speaks where the room is long enough
  pub listing_accepts : NextFits f n asked room → ListingAccepts f n asked room work
  listing_accepts h =
      let q = of_listing f work in
      also enough
      (also (limit_kept low)
      (also (layout_rests q (ListingSays f n asked room) (ListingRests f n asked room) c reads)
      (lift_accepts q (ListingSays f n asked room) (ListingRests f n asked room) c reads {more = own given_run ∷ own lent-room ∷ []} (passes_accept ok)
      (also (given_fine (record { case = c; reads = reads; is = good })) (also (next_fits h) none)))))

  pub answer_next : {r : List ℕ} (b : Bool) → NextIs c n asked r → matches c r ≡ b → n ≤ length room
      → ListingIs f n asked room work (pick b (Listing.Matching (length r)) (Listing.Other (length r))) (holding r room) (zeroed work)
  answer_next true x m h = list.matching (listing_accepts (λ d s p y. omega (arith, y.within))) reads x m
  answer_next false x m h = list.other (listing_accepts (λ d s p y. omega (arith, y.within))) reads x m

  pub answer_end : EndIs c n asked → ListingIs f n asked room work Listing.End room (zeroed work)
  answer_end x =
      list.end
      (listing_accepts (λ d s p y. absurd (x s (subst (λ (g : Case). Explains g s) (one_case p reads) y.explains) y.within y.later_than)))
      reads x
