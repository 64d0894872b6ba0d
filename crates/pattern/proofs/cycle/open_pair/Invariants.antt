-- `pattern::cycle::open_pair` meets its contract. The invariant: no pair passed leads from a marked transition to one
-- that is not. Assumes nothing.
use Prim.Native.Nat.{ℕ, ◌<◌}
use Rattle.pattern.proofs.Chaining.{OpenPair}
use Rattle.pattern.proofs.cycle.open_pair.Given as goal

abbrev pub invariant-loop-k : goal.invariant-loop-k
invariant-loop-k l = (j : ℕ) → j < l.k → OpenPair l.plan l.marks j → ⊥
