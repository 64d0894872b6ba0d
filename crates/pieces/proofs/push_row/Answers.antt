-- `push_row` meets its contract. Assumes nothing.
use Rattle.std.proofs.Common.{rules, ◌≡◌, ℕ, length, arith, length-append, append-nil, append_assoc, sym, ap, ◌∙◌}
use lib.ListN.{get_or}
use Rattle.std.specs.Prelude.{count_by, ◌==◌}
use borrow.Author.Tests.{eq-eqb, ne_eqb}
use Rattle.rack.specs.Writing.{listed, cell}
use Rattle.spelling.proofs.Lengths.{listed_few}
use Rattle.pieces.proofs.Ones.{count_ones, listed_on, listed_off}
use Rattle.pieces.proofs.push_row.Goals as goal
use Rattle.pieces.proofs.push_row.Goals.{then-x-eq1, else-x-eq1}

pub loop-p-init : goal.loop-p-init
unfolding listed
loop-p-init g c = sym (append-nil _)

pub push-requires-then-x-eq1 : goal.push-requires-then-x-eq1
push-requires-then-x-eq1 g c = (search rules, omega (arith, simp length-append at (ap length c.loop-p.invariant), listed_few 0 c.loop-p.p (cell c.args.row.now 0)))

pub loop-p-preserved : goal.loop-p-preserved
loop-p-preserved g c =
    let row : ℕ → ℕ = cell c.args.row.now 0 in
    let here : row c.loop-p.p ≡ get_or c.args.row.now c.loop-p.p 0 = ap (λ (k : ℕ). get_or c.args.row.now k 0) (omega arith) in
    elim c.if-x-eq1.branch [
      | then-x-eq1 w ↦
          let on = listed_on c.loop-p.p row (eq-eqb (row c.loop-p.p) 1 (here ∙ w.if-x-eq1.true)) in
          rw (w.file-is, w.push-then-x-eq1.ensures.items, c.loop-p.invariant, append_assoc, on)
      | else-x-eq1 w ↦
          let off = listed_off c.loop-p.p row (ne_eqb (row c.loop-p.p) 1 (λ e. w.if-x-eq1.false (sym here ∙ e))) in
          rw (w.file-is, ← off) c.loop-p.invariant
    ]

pub returns : goal.returns
returns g c =
    let n : c.count.result ≡ count_by (λ x. x == 1) c.args.row.now = search rules in
    let e : c.loop-p.p ≡ length c.args.row.now = omega arith in
    let ones : length (listed 0 (length c.args.row.now) (cell c.args.row.now 0)) ≡ c.count.result = count_ones c.args.row.now ∙ sym n in
    c.loop-p.invariant ∙ rw (e, c.push.ensures.items, ones) (append_assoc c.args.file.now.items _ _)
