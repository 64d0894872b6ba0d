-- Marks that spread along the priority pairs of a case mark just what chains of pairs lead down to, and a pair that
-- leads back to itself is a cycle. These laws speak of the case alone. Assumes nothing.
use Prim.Native.Nat.{ℕ, zero, suc, ◌+◌, ◌<◌}
use mathlib.Core.Path.{◌≡◌, refl, sym, ◌∙◌, subst}
use mathlib.Core.Bool.{Bool, true, false, false≢true}
use mathlib.Core.List.{List, [], ◌∷◌}
use native.Mathlib.Nat.{le_of_suc-le-suc, not-suc-le-zero}
use native.Mathlib.Omega.{arith}
use lib.ListN.{length, get_or, set, replicate, length-set, length-replicate}
use lib.Seq.{get_or-set_same, get_or-set_other}
use lib.Dec.{T, ltb, eqb, ltb→lt, lt→ltb, eqb→eq}
use borrow.Author.Tests.{eqb-true, eqb-false, eq-eqb}
use Rattle.walks.specs.Below.{pick}
use Rattle.walks.specs.Walk.{walks, ends}
use Rattle.walks.proofs.Tests.{and_left, and_right, and_both, of_true}
use Rattle.walks.proofs.Closed.{walks_cons, closed_reached, reaches_self, reaches_more}
use Rattle.rack.specs.Refusal.{pair_at, lower_of, PairCycle}
use Rattle.rack.specs.WellFormed.{WellFormed}
use Rattle.rack.specs.declared.Case.{Case}
use Rattle.pattern.specs.Chains.{Down, PairBack, OpenAt}

-- ---- how many places have no mark

unfoldable pub unmarked : List Bool → ℕ
unmarked [] = 0
unmarked (x ∷ l) = pick x 0 1 + unmarked l

-- one mark more is one such place less
pub unmarked_less : (l : List Bool) (i : ℕ) → i < length l → get_or l i false ≡ false → unmarked (set l i true) < unmarked l
unfolding unmarked
unmarked_less [] i h n = absurd (not-suc-le-zero h)
unmarked_less (x ∷ l) zero h n = rw n (omega arith)
unmarked_less (x ∷ l) (suc i) h n = let rec = unmarked_less l i (le_of_suc-le-suc h) n in omega (arith, rec)

-- ---- pairs that lead from a marked transition to one that is not

abbrev pub OpenPair : Case → List Bool → ℕ → Type 0
OpenPair c marks k = (get_or marks (get_or c.pairs.higher k 0) false ≡ true) × (get_or marks (get_or c.pairs.lower k 0) false ≡ false)

-- ---- the pairs of a case

module _ (c : Case) where
  -- the pair k goes from its higher transition
  pub pair_there : (k : ℕ) → k < c.pairs.count → T (pair_at c (get_or c.pairs.higher k 0) k)
  unfolding pair_at
  pair_there k h =
      let u = get_or c.pairs.higher k 0 in
      and_both (ltb k c.pairs.count) (eqb u u) (lt→ltb k c.pairs.count h) (of_true (eqb u u) (eq-eqb u u refl))

  -- where the pair k goes from u, there is a pair k, and its higher transition is u
  pub pair_below : (u k : ℕ) → T (pair_at c u k) → k < c.pairs.count
  unfolding pair_at
  pair_below u k p = ltb→lt k c.pairs.count (and_left (ltb k c.pairs.count) (eqb (get_or c.pairs.higher k 0) u) p)

  pub pair_higher : (u k : ℕ) → T (pair_at c u k) → get_or c.pairs.higher k 0 ≡ u
  unfolding pair_at
  pair_higher u k p = eqb→eq (get_or c.pairs.higher k 0) u (and_right (ltb k c.pairs.count) (eqb (get_or c.pairs.higher k 0) u) p)

-- a case that was read has at most 32 pairs, and each names transitions below 48
module _ {c : Case} (well : WellFormed c) (k : ℕ) (h : k < c.pairs.count) where
  pub lower_low : get_or c.pairs.lower k 0 < 48
  lower_low = omega (arith, well.pairs.lowers.below k h, well.arcs.names.few)

-- ---- marks that spread from one transition

pub record Spread (c : Case) (first : ℕ) (marks : List Bool) : Type 0 where
  pub long : length marks ≡ 48
  pub start : get_or marks first false ≡ true
  pub sound : (u : ℕ) → get_or marks u false ≡ true → Down c first u

-- no mark stands yet
none_marked : (n u : ℕ) → get_or (replicate n false) u false ≡ false
none_marked zero u = refl
none_marked (suc n) zero = refl
none_marked (suc n) (suc u) = none_marked n u

module _ (c : Case) (first : ℕ) where
  -- what is marked after a mark at t was marked before, or is t
  after-mark : (marks : List Bool) (t : ℕ) → ((u : ℕ) → get_or marks u false ≡ true → Down c first u) → Down c first t → (u : ℕ) → get_or (set marks t true) u false ≡ true → Down c first u
  after-mark marks t old new u e = go (eqb u t) refl
    where
      go : (b : Bool) → eqb u t ≡ b → Down c first u
      go true q = subst (Down c first) (sym (eqb-true u t q)) new
      go false q = old u (sym (get_or-set_other marks t u true false (eqb-false u t q)) ∙ e)

  pub spread_start : first < 48 → Spread c first (set (replicate 48 false) first true)
  spread_start h =
      record {
        long = length-set (replicate 48 false) first true ∙ length-replicate {A = Bool} 48 false;
        start = get_or-set_same (replicate 48 false) first true false (omega (arith, length-replicate {A = Bool} 48 false));
        sound = after-mark (replicate 48 false) first (λ u e. absurd (false≢true (sym (none_marked 48 u) ∙ e))) (reaches_self (pair_at c) (lower_of c) first);
      }

module _ {c : Case} {first : ℕ} {marks : List Bool} (x : Spread c first marks) where
  -- where a pair leads from a marked transition is marked next
  pub spread_more : (t : ℕ) → t < 48 → OpenAt c marks t → Spread c first (set marks t true)
  unfolding lower_of
  spread_more t h o =
      let u = get_or c.pairs.higher o.pair 0 in
      let there : T (pair_at c u o.pair) = pair_there c o.pair o.below in
      let reached : Down c first (get_or c.pairs.lower o.pair 0) = reaches_more (pair_at c) (lower_of c) first u o.pair (x.sound u o.marked) there in
      record {
        long = length-set marks t true ∙ x.long;
        start = kept (eqb first t) refl;
        sound = after-mark c first marks t x.sound (subst (Down c first) o.is reached);
      }
    where
      kept : (b : Bool) → eqb first t ≡ b → get_or (set marks t true) first false ≡ true
      kept true q = rw (eqb-true first t q) (get_or-set_same marks t true false (omega (arith, x.long)))
      kept false q = get_or-set_other marks t first true false (eqb-false first t q) ∙ x.start

  -- where no pair leads from a marked transition to another, every transition that is led to is marked
  pub spread_end : ((t : ℕ) → OpenAt c marks t → ⊥) → (v : ℕ) → Down c first v → get_or marks v false ≡ true
  unfolding lower_of
  spread_end shut v r = closed_reached (pair_at c) (lower_of c) (λ u. get_or marks u false ≡ true) closed first v x.start r
    where
      closed : (u k : ℕ) → get_or marks u false ≡ true → T (pair_at c u k) → get_or marks (lower_of c u k) false ≡ true
      closed u k m p = go (get_or marks (get_or c.pairs.lower k 0) false) refl
        where
          go : (b : Bool) → get_or marks (get_or c.pairs.lower k 0) false ≡ b → b ≡ true
          go true q = refl
          go false q =
              absurd
              (shut (get_or c.pairs.lower k 0)
              (record {
                pair = k;
                below = pair_below c u k p;
                marked = rw (pair_higher c u k p) m;
                is = refl;
                fresh = q;
              }))

-- ---- a cycle

module _ (c : Case) where
  -- a pair whose lower transition leads back to its higher one closes a cycle
  pub back_cycle : (k : ℕ) → k < c.pairs.count → PairBack c k → PairCycle c
  unfolding walks ends lower_of
  back_cycle k h back =
      let u = get_or c.pairs.higher k 0 in
      record {
        top = u;
        pair = k;
        rest = back.by;
        chain = and_both (pair_at c u k) (walks (pair_at c) (lower_of c) (lower_of c u k) back.by) (pair_there c k h) back.walked;
        round = back.there;
      }

  -- and in a cycle the first pair leads back
  pub cycle_back : PairCycle c → (k : ℕ) × (k < c.pairs.count) × PairBack c k
  unfolding ends lower_of
  cycle_back r =
      let k = r.pair in
      let (first, rest) = walks_cons (pair_at c) (lower_of c) r.top k r.rest r.chain in
      (k, pair_below c r.top k first, record { by = r.rest; walked = rest; there = r.round ∙ sym (pair_higher c r.top k first) })
