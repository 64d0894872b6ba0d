-- What a file cut at two offsets shows: the log's stretch, at its address. Assumes nothing.
use mathlib.Core.Path.{◌≡◌, sym, ap, ap₂, ◌∙◌, subst}
use mathlib.Core.List.{List, []}
use Prim.Native.Nat.{ℕ, ◌+◌, ◌-◌}
use native.Mathlib.Omega.{arith}
use native.Mathlib.Nat.{add-sub_cancel_left}
use lib.ListN.{take, drop}
use Rattle.rack.specs.Bytes.{part}
use Rattle.rack.specs.Layout.{ReadsAs, BreaksAt}
use Rattle.rack.specs.CaseFileOutcome.{log_offset, log_stretch, Address, LogIs, shown, refused}
use Rattle.rack.specs.declared.Case.{Case}

-- the file cut where its log stands shows the log's stretch, at its address
pub cut_shown : {f : List ℕ} {c : Case} (lent : Address) (from n : ℕ) → from ≡ log_offset f c → n ≡ c.log.count → ReadsAs f c
    → LogIs f lent (take (from + n - from) (drop from f)) (lent.0, from + lent.1)
cut_shown {f} {c} lent from n d e r =
    let bytes = ap (λ (k : ℕ). take k (drop from f)) (add-sub_cancel_left from n) ∙ ap₂ (part f) d e in
    let offset : from + lent.1 ≡ lent.1 + log_offset f c = omega (arith, d) in
    subst (λ (l : List ℕ). LogIs f lent l (lent.0, from + lent.1)) (sym bytes)
    (subst (λ (o : ℕ). LogIs f lent (log_stretch f c) (lent.0, o)) (sym offset) (shown r))

-- the file cut before its first byte is the empty stretch at its front
pub cut_empty : {f : List ℕ} {p : ℕ} (lent : Address) (n : ℕ) → n ≡ 0 → BreaksAt f p → LogIs f lent (take (n - n) (drop n f)) (lent.0, n + lent.1)
cut_empty {f} lent n e b =
    let front : 0 + lent.1 ≡ lent.1 = omega arith in
    subst (λ (k : ℕ). LogIs f lent (take (k - k) (drop k f)) (lent.0, k + lent.1)) (sym e)
    (subst (λ (o : ℕ). LogIs f lent [] (lent.0, o)) (sym front) (refused b))
