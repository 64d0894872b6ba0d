-- What the table of marks says, as a rule: kinds come in order, and only kinds of which there may be several are passed over or come again.
-- Assumes nothing.
use mathlib.Core.Path.{◌≡◌, sym, ◌∙◌}
use mathlib.Core.Bool.{Bool, true, false, ◌&&◌, ◌||◌}
use Prim.Native.Nat.{ℕ, ◌+◌, ◌≤◌, ◌<◌}
use native.Mathlib.Omega.{arith}
use lib.Dec.{T, leb, eqb}
use borrow.Author.Tests.{leb-true, le-leb}
use Rattle.walks.specs.Below.{pick, implies, all_below}
use Rattle.walks.proofs.Tests.{and_left, and_right, given, is_true, of_true, below_at}
use Rattle.std.proofs.Common.{Option}
use Rattle.rack.specs.Marks.{number_of, follows, can_follow}
use Rattle.rack.specs.declared.Mark.{Mark}
use Rattle.rack.proofs.WellFormed.{stage, comes, by_stage, number_small, stage_small}

-- the kinds of which there may be several: TR, PR, PX, QF
unfoldable pub repeats : ℕ → Bool
repeats m = eqb m 1 || (eqb m 2 || (eqb m 5 || eqb m 6))

-- the last stage at which a kind of number m may come
unfoldable pub reachable : ℕ → ℕ
reachable m = pick (repeats m) (m + 1) m

-- a kind that was passed over is such a kind
skippable : ℕ → ℕ → Bool
skippable s j = implies (leb s j) (repeats j)

ordered : ℕ → ℕ → Bool
ordered s m = leb s (reachable m) && all_below (reachable m) (skippable s)

tested : ℕ → ℕ → Bool
tested s m = implies (comes s m) (ordered s m)

tested_all : ℕ → Bool
tested_all s = all_below 9 (tested s)

computed : T (all_below 10 tested_all)
unfolding all_below tested_all tested ordered skippable reachable repeats follows
computed = tt

-- a kind of number m comes at the stage s
pub record InOrder (s m : ℕ) : Type 0 where
  pub least : s ≤ reachable m
  pub between : (j : ℕ) → s ≤ j → j < reachable m → T (repeats j)

pub in_order : (k : Option Mark) (m : Mark) → can_follow k m ≡ true → InOrder (stage k) (number_of m)
unfolding tested_all tested ordered skippable
in_order k m e =
    let s = stage k in
    let n = number_of m in
    let here : T (comes s n) = of_true (comes s n) (sym (by_stage k m) ∙ e) in
    let o : T (ordered s n) = given (comes s n) (ordered s n) (below_at 9 (tested s) (below_at 10 tested_all computed s (stage_small k)) n (number_small m)) here in
    record {
      least = leb-true s (reachable n) (is_true _ (and_left (leb s (reachable n)) (all_below (reachable n) (skippable s)) o));
      between = λ j u v.
          given (leb s j) (repeats j)
          (below_at (reachable n) (skippable s) (and_right (leb s (reachable n)) (all_below (reachable n) (skippable s)) o) j v)
          (of_true (leb s j) (le-leb s j u));
    }

pub reachable_few : (m : ℕ) → reachable m ≤ m + 1
unfolding reachable
reachable_few m = go (repeats m)
  where
    go : (b : Bool) → pick b (m + 1) m ≤ m + 1
    go true = omega arith
    go false = omega arith
