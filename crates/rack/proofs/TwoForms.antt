-- W-205: "Change the stored form, so that work room may fall to 51,200 bytes, and prove that old and new forms stand for the same markings and give equal
-- outcomes where neither gives 1." The outcomes: of every call that is lent work room, with the length that the old form needed and with that of today.
-- (The markings: crates/reach/proofs/Packing.antt and SameNumbers.antt.)
--   verdict_forms_agree, listing_forms_agree   from 57,344 bytes on, where neither form gives 1, both allow the same answers and rooms
--   verdict_forms_equal, listing_forms_equal   the request's sentence: outcomes of the two forms, neither of them 1, are equal
--   verdict_gave_one, listing_gave_one         below 57,344 bytes the old form gave 1
--   verdict_any_room, listing_any_room         from 51,200 bytes on the work room's length does not matter
-- Assumes nothing.
use Prim.Native.Nat.{ℕ, ◌≤◌, ◌<◌}
use mathlib.Core.Path.{◌≡◌, refl, ap, subst}
use mathlib.Core.List.{List}
use native.Mathlib.Omega.{arith}
use lib.ListN.{length}
use Rattle.rack.specs.Listing.{Asked}
use Rattle.rack.specs.Refusal.{Own, Check, work-room, layout, cycle, pattern-count, pattern-cap, two-join, final-left, product-count, system-cap, own}
use Rattle.rack.specs.Refusal.{work_room, Question, Speaks, Silent, speaks, rests, none, also, Refuses, Accepts, verdict_order, listing_order}
use Rattle.rack.specs.Outcome.{zeroed}
use Rattle.rack.specs.VerdictOutcome.{VerdictSays, VerdictRests, VerdictAcceptsIn, VerdictIsIn, VerdictIs, faulty, safe, ambiguous}
use Rattle.rack.specs.VerdictOutcome as judge
use Rattle.rack.specs.ListingOutcome.{ListingSays, ListingRests, ListingAcceptsIn, ListingIsIn, ListingIs}
use Rattle.rack.specs.ListingOutcome as list
use Rattle.rack.specs.declared.Judged.{Judged}
use Rattle.rack.specs.declared.Verdict.TheVariants as Verdict
use Rattle.rack.specs.declared.Listed.{Listed}
use Rattle.rack.specs.declared.Listed.TheVariants as Listing
use Rattle.rack.proofs.OneOutcome.{verdict_one, listing_one}

-- how long the work room had to be while a product marking was stored in 24 bytes
abbrev pub old_room : ℕ
old_room = 57344

-- ---- two questions on one file, each with a work room that is long enough for it

-- they are refused by the same check with the same number beside it, and accepted alike: only what 1 compares is different
module _ (f : List ℕ) (work least work' least' : ℕ) (Says : Own → ℕ → Type 0) (Rests : Own → Type 0) where
  abbrev one : Question
  one = record { file = f; work = work; needed = least }

  abbrev other : Question
  other = record { file = f; work = work'; needed = least' }

  module _ (enough : least ≤ work) (enough' : least' ≤ work') where
    silent_alike : (k : Check) → Silent one Rests k → Silent other Rests k
    silent_alike work-room x = enough'
    silent_alike layout x = x
    silent_alike cycle x = x
    silent_alike pattern-count x = x
    silent_alike pattern-cap x = x
    silent_alike two-join x = x
    silent_alike final-left x = x
    silent_alike product-count x = x
    silent_alike system-cap x = x
    silent_alike (own k) x = x

    speaks_alike : (k : Check) (m : ℕ) → Speaks one Says k m → Speaks other Says k m
    speaks_alike work-room m x = absurd (omega (arith, x.0))
    speaks_alike layout m x = x
    speaks_alike cycle m x = x
    speaks_alike pattern-count m x = x
    speaks_alike pattern-cap m x = x
    speaks_alike two-join m x = x
    speaks_alike final-left m x = x
    speaks_alike product-count m x = x
    speaks_alike system-cap m x = x
    speaks_alike (own k) m x = x

    pub refuses_alike : (ks : List Check) (n m : ℕ) → Refuses one Says Rests ks n m → Refuses other Says Rests ks n m
    refuses_alike ks n m (speaks {k} x) = speaks (speaks_alike k m x)
    refuses_alike ks n m (rests {k} {ks = ls} x u) = rests (silent_alike k x) (refuses_alike ls n m u)

    pub accepts_alike : (ks : List Check) → Accepts one Rests ks → Accepts other Rests ks
    accepts_alike ks none = none
    accepts_alike ks (also {k} {ks = ls} x u) = also (silent_alike k x) (accepts_alike ls u)

-- ---- verdict

module _ (f matching other : List ℕ) where
  -- what a work room of one length may give under one needed length, one of another gives under another, where both are long enough
  verdict_moved : {work work' : List ℕ} {least least' : ℕ} → least ≤ length work → least' ≤ length work' → {x : Judged} {a b w : List ℕ}
      → VerdictIsIn least f matching other work x a b w → VerdictIsIn least' f matching other work' x a b (zeroed work')
  verdict_moved {work} {work'} {least} {least'} h h' = go
    where
      accepted : VerdictAcceptsIn least f matching other work → VerdictAcceptsIn least' f matching other work'
      accepted = accepts_alike f (length work) least (length work') least' (VerdictSays f matching other) (VerdictRests f matching other) h h' verdict_order

      go : {x : Judged} {a b w : List ℕ} → VerdictIsIn least f matching other work x a b w → VerdictIsIn least' f matching other work' x a b (zeroed work')
      go (faulty g p u) = faulty (accepted g) p u
      go (safe g p u) = safe (accepted g) p u
      go (ambiguous g p u) = ambiguous (accepted g) p u
      go (judge.refused {n} {m} g) =
          judge.refused (refuses_alike f (length work) least (length work') least' (VerdictSays f matching other) (VerdictRests f matching other) h h' verdict_order n m g)

  verdict_zeroed : {work : List ℕ} {least : ℕ} {x : Judged} {a b w : List ℕ} → VerdictIsIn least f matching other work x a b w → zeroed work ≡ w
  verdict_zeroed (faulty g p u) = refl
  verdict_zeroed (safe g p u) = refl
  verdict_zeroed (ambiguous g p u) = refl
  verdict_zeroed (judge.refused g) = refl

  -- an outcome that is not 1 has enough work room
  verdict_enough : {work : List ℕ} {least : ℕ} {x : Judged} {a b w : List ℕ} → VerdictIsIn least f matching other work x a b w
      → ((p : ℕ) → x.verdict ≡ Verdict.Refused 1 p → ⊥) → least ≤ length work
  verdict_enough (faulty (also h g) p u) not-1 = h
  verdict_enough (safe (also h g) p u) not-1 = h
  verdict_enough (ambiguous (also h g) p u) not-1 = h
  verdict_enough (judge.refused {m = m} (speaks x)) not-1 = absurd (not-1 m refl)
  verdict_enough (judge.refused (rests h g)) not-1 = h

  module _ {work : List ℕ} where
    -- "equal outcomes where neither gives 1": for a work room of at least 57,344 bytes the old form and the new one hold of the same answers and rooms
    pub verdict_forms_agree : old_room ≤ length work → {x : Judged} {a b w : List ℕ}
        → (VerdictIsIn old_room f matching other work x a b w → VerdictIs f matching other work x a b w)
        × (VerdictIs f matching other work x a b w → VerdictIsIn old_room f matching other work x a b w)
    verdict_forms_agree h {x} {a} {b} = (
      λ v. subst (VerdictIs f matching other work x a b) (verdict_zeroed v) (verdict_moved h (omega (arith, h)) v),
      λ v. subst (VerdictIsIn old_room f matching other work x a b) (verdict_zeroed v) (verdict_moved (omega (arith, h)) h v),
    )

    -- "old and new forms .. give equal outcomes where neither gives 1": an outcome of the old form and one of the new form for one call. It is enough that the
    -- old one is not 1
    pub verdict_forms_equal : {x y : Judged} {a b w a' b' w' : List ℕ} → VerdictIsIn old_room f matching other work x a b w
        → VerdictIs f matching other work y a' b' w' → ((p : ℕ) → x.verdict ≡ Verdict.Refused 1 p → ⊥) → (x ≡ y) × (a ≡ a') × (b ≡ b') × (w ≡ w')
    verdict_forms_equal u v not-1 = verdict_one f matching other work ((verdict_forms_agree (verdict_enough u not-1)).0 u) v

    -- below 57,344 bytes the old form gave 1, with 0 beside it
    pub verdict_gave_one : length work < old_room → {x : Judged} {a b w : List ℕ} → VerdictIsIn old_room f matching other work x a b w
        → x.verdict ≡ Verdict.Refused 1 0
    verdict_gave_one l (faulty (also h g) p u) = absurd (omega (arith, l, h))
    verdict_gave_one l (safe (also h g) p u) = absurd (omega (arith, l, h))
    verdict_gave_one l (ambiguous (also h g) p u) = absurd (omega (arith, l, h))
    verdict_gave_one l (judge.refused (speaks s)) = ap (Verdict.Refused 1) s.1
    verdict_gave_one l (judge.refused (rests h g)) = absurd (omega (arith, l, h))

  -- the outcome does not depend on the work room's length beyond 51,200: one of 51,200 to 57,343 bytes, which gave 1 before, now gives what a longer one gives
  pub verdict_any_room : {work work' : List ℕ} → work_room ≤ length work → work_room ≤ length work' → {x : Judged} {a b : List ℕ}
      → VerdictIs f matching other work x a b (zeroed work) → VerdictIs f matching other work' x a b (zeroed work')
  verdict_any_room h h' v = verdict_moved h h' v

-- ---- listing

module _ (f : List ℕ) (limit : ℕ) (asked : Asked) (room : List ℕ) where
  listing_moved : {work work' : List ℕ} {least least' : ℕ} → least ≤ length work → least' ≤ length work' → {x : Listed} {a w : List ℕ}
      → ListingIsIn least f limit asked room work x a w → ListingIsIn least' f limit asked room work' x a (zeroed work')
  listing_moved {work} {work'} {least} {least'} h h' = go
    where
      accepted : ListingAcceptsIn least f limit asked room work → ListingAcceptsIn least' f limit asked room work'
      accepted = accepts_alike f (length work) least (length work') least' (ListingSays f limit asked room) (ListingRests f limit asked room) h h' listing_order

      go : {x : Listed} {a w : List ℕ} → ListingIsIn least f limit asked room work x a w → ListingIsIn least' f limit asked room work' x a (zeroed work')
      go (list.matching g p u s) = list.matching (accepted g) p u s
      go (list.other g p u s) = list.other (accepted g) p u s
      go (list.end g p u) = list.end (accepted g) p u
      go (list.refused {n} {m} g) =
          list.refused (refuses_alike f (length work) least (length work') least' (ListingSays f limit asked room) (ListingRests f limit asked room) h h' listing_order n m g)

  listing_zeroed : {work : List ℕ} {least : ℕ} {x : Listed} {a w : List ℕ} → ListingIsIn least f limit asked room work x a w → zeroed work ≡ w
  listing_zeroed (list.matching g p u s) = refl
  listing_zeroed (list.other g p u s) = refl
  listing_zeroed (list.end g p u) = refl
  listing_zeroed (list.refused g) = refl

  listing_enough : {work : List ℕ} {least : ℕ} {x : Listed} {a w : List ℕ} → ListingIsIn least f limit asked room work x a w
      → ((p : ℕ) → x ≡ Listing.Refused 1 p → ⊥) → least ≤ length work
  listing_enough (list.matching (also h g) p u s) not-1 = h
  listing_enough (list.other (also h g) p u s) not-1 = h
  listing_enough (list.end (also h g) p u) not-1 = h
  listing_enough (list.refused {m = m} (speaks x)) not-1 = absurd (not-1 m refl)
  listing_enough (list.refused (rests h g)) not-1 = h

  module _ {work : List ℕ} where
    -- "equal outcomes where neither gives 1", of both listing calls: whether they are asked from the start or after a run
    pub listing_forms_agree : old_room ≤ length work → {x : Listed} {a w : List ℕ}
        → (ListingIsIn old_room f limit asked room work x a w → ListingIs f limit asked room work x a w)
        × (ListingIs f limit asked room work x a w → ListingIsIn old_room f limit asked room work x a w)
    listing_forms_agree h {x} {a} = (
      λ v. subst (ListingIs f limit asked room work x a) (listing_zeroed v) (listing_moved h (omega (arith, h)) v),
      λ v. subst (ListingIsIn old_room f limit asked room work x a) (listing_zeroed v) (listing_moved (omega (arith, h)) h v),
    )

    -- "old and new forms .. give equal outcomes where neither gives 1"
    pub listing_forms_equal : {x y : Listed} {a w a' w' : List ℕ} → ListingIsIn old_room f limit asked room work x a w
        → ListingIs f limit asked room work y a' w' → ((p : ℕ) → x ≡ Listing.Refused 1 p → ⊥) → (x ≡ y) × (a ≡ a') × (w ≡ w')
    listing_forms_equal u v not-1 = listing_one f limit asked room work ((listing_forms_agree (listing_enough u not-1)).0 u) v

    -- below 57,344 bytes the old form gave 1, with 0 beside it
    pub listing_gave_one : length work < old_room → {x : Listed} {a w : List ℕ} → ListingIsIn old_room f limit asked room work x a w → x ≡ Listing.Refused 1 0
    listing_gave_one l (list.matching (also h g) p u s) = absurd (omega (arith, l, h))
    listing_gave_one l (list.other (also h g) p u s) = absurd (omega (arith, l, h))
    listing_gave_one l (list.end (also h g) p u) = absurd (omega (arith, l, h))
    listing_gave_one l (list.refused (speaks s)) = ap (Listing.Refused 1) s.1
    listing_gave_one l (list.refused (rests h g)) = absurd (omega (arith, l, h))

  -- the outcome does not depend on the work room's length beyond 51,200
  pub listing_any_room : {work work' : List ℕ} → work_room ≤ length work → work_room ≤ length work' → {x : Listed} {a : List ℕ}
      → ListingIs f limit asked room work x a (zeroed work) → ListingIs f limit asked room work' x a (zeroed work')
  listing_any_room h h' v = listing_moved h h' v
