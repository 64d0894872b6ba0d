-- There is one first run of a kind, and one next explanation. Assumes nothing.
use Prim.Native.Nat.{ℕ}
use mathlib.Core.Path.{◌≡◌}
use mathlib.Core.Bool.{Bool}
use mathlib.Core.List.{List}
use Rattle.walks.specs.Order.{before}
use Rattle.walks.proofs.Order.{Either, sooner, alike, later, before_total}
use Rattle.rack.specs.Verdict.{FirstOfKind}
use Rattle.rack.specs.Listing.{Asked, NextIs}
use Rattle.rack.specs.declared.Case.{Case}

pub first_one : {c : Case} {k : Bool} {r s : List ℕ} → FirstOfKind c k r → FirstOfKind c k s → r ≡ s
first_one {c} {k} {r} {s} x y = go (before_total r s)
  where
    go : Either before r s → r ≡ s
    go (sooner t) = absurd (y.first r x.explains x.kind t)
    go (alike e) = e
    go (later t) = absurd (x.first s y.explains y.kind t)

pub next_one : {c : Case} {n : ℕ} {asked : Asked} {r s : List ℕ} → NextIs c n asked r → NextIs c n asked s → r ≡ s
next_one {c} {n} {asked} {r} {s} x y = go (before_total r s)
  where
    go : Either before r s → r ≡ s
    go (sooner t) = absurd (y.first r x.explains x.within x.later_than t)
    go (alike e) = e
    go (later t) = absurd (x.first s y.explains y.within y.later_than t)
