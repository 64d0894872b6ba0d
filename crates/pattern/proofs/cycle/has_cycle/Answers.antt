-- `pattern::cycle::has_cycle` meets its contract. Assumes nothing.
use Prim.Native.Nat.{ℕ, ◌<◌}
use mathlib.Core.Path.{◌≡◌}
use mathlib.Core.Bool.{true, false}
use Rattle.std.proofs.Common.{rules}
use Rattle.std.proofs.iter.runs.Sources.{ranges}
use Rattle.walks.specs.Says.{Says}
use Rattle.walks.proofs.Says.{says_same}
use Rattle.pattern.specs.Chains.{PairBack}
use Rattle.pattern.proofs.Asking.{any_says}
use Rattle.pattern.proofs.Chaining.{back_cycle, cycle_back}
use Rattle.pattern.proofs.cycle.has_cycle.Goals as goal

pub returns : goal.returns
returns c =
    let n = c.args.plan.now.pairs.count in
    let some : c.any.result ≡ true → (k : ℕ) × (k < n) × Says true (PairBack c.args.plan.now k) = search (rules, ranges) in
    let none : c.any.result ≡ false → (k : ℕ) → k < n → Says false (PairBack c.args.plan.now k) = search (rules, ranges) in
    says_same (any_says n (PairBack c.args.plan.now) c.any.result some none) (λ h. back_cycle _ h.0 h.1 h.2) (cycle_back _)
