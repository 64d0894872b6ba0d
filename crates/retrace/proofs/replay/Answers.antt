-- `retrace::replay` meets its contract: the firings, whether the marking after them is final, and whether run and log
-- ended together. Assumes nothing.
use Prim.Native.Nat.{ℕ}
use mathlib.Core.Path.{◌≡◌, sym, ◌∙◌}
use mathlib.Core.Bool.{true, false, false≢true}
use borrow.Author.Tests.{ne_eqb}
use lib.Dec.{eqb}
use lib.ListN.{length}
use Rattle.std.proofs.Common.{Some, None, rules}
use Rattle.retrace.proofs.Answering.{position_same, same_position, answers}
use Rattle.retrace.proofs.replay.Goals as goal
use Rattle.retrace.proofs.replay.Goals.{then-done-run, else-done-run}

pub returns : goal.returns
returns c =
    let done = c.fire-done.result in
    let n = c.args.plan.now.log.count in
    let ended : c.if-done-run.explains ≡ true → (done.fired ≡ length c.args.run.now) × (done.at ≡ Some n) = λ e.
    elim c.if-done-run.branch [
      | then-done-run w ↦
          let off : done.at ≡ None → w.is_some_and-explains.result ≡ false = λ q. rw q at w.is_some_and-explains.ensures in
          let on : (i : ℕ) → done.at ≡ Some i → w.is_some_and-explains.result ≡ eqb i n = λ i q. let k = rw q at w.is_some_and-explains.ensures in search rules in
          (w.if-done-run.true, position_same done.at n w.is_some_and-explains.result off on (sym w.explains-is ∙ e))
      | else-done-run w ↦ absurd (false≢true (sym (w.explains-is ∙ ne_eqb done.fired (length c.args.run.now) w.if-done-run.false) ∙ e))
    ] in
    let both : done.fired ≡ length c.args.run.now → done.at ≡ Some n → c.if-done-run.explains ≡ true = λ f i.
    elim c.if-done-run.branch [
      | then-done-run w ↦
          let off : done.at ≡ None → w.is_some_and-explains.result ≡ false = λ q. rw q at w.is_some_and-explains.ensures in
          let on : (i : ℕ) → done.at ≡ Some i → w.is_some_and-explains.result ≡ eqb i n = λ i q. let k = rw q at w.is_some_and-explains.ensures in search rules in
          w.explains-is ∙ same_position done.at n w.is_some_and-explains.result off on i
      | else-done-run w ↦ absurd (w.if-done-run.false f)
    ] in
    answers c.requires.well_formed c.args.run.now c.args.budget done (rw c.from.ensures at c.fire-done.ensures) c.is_final.ensures c.tokens.ensures c.tokens-2.ensures ended both
