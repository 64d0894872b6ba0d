-- Two sentences of 01 on the listing's end: a log longer than the limit gives the end, and so does a case that no run explains. Assumes nothing.
use Prim.Native.Nat.{ℕ, suc, ◌<◌, ◌≤◌}
use mathlib.Core.Path.{ap}
use mathlib.Core.Bool.{Bool, true, false}
use mathlib.Core.List.{List, [], ◌∷◌}
use native.Mathlib.Omega.{arith}
use lib.ListN.{length}
use Rattle.walks.specs.Below.{pick}
use Rattle.rack.specs.Follow.{label_of}
use Rattle.rack.specs.Run.{visible, shown, log_of}
use Rattle.rack.specs.Verdict.{NoneExplains}
use Rattle.rack.specs.Listing.{Asked, EndIs}
use Rattle.rack.specs.declared.Case.{Case}

-- a run shows at most one label for each firing
pub shown_short : (c : Case) (r : List ℕ) → length (shown c r) ≤ length r
unfolding shown
shown_short c [] = omega arith
shown_short c (t ∷ r) = go (visible c t) (shown_short c r)
  where
    go : (b : Bool) → length (shown c r) ≤ length r → length (pick b (label_of c t ∷ shown c r) (shown c r)) ≤ suc (length r)
    go true h = omega arith
    go false h = omega arith

-- "A log longer than the limit gives the end."
pub long_log_ends : (c : Case) (limit : ℕ) (asked : Asked) → limit < length (log_of c) → EndIs c limit asked
long_log_ends c limit asked h s x k l = omega (arith, shown_short c s, ap length x.shows)

-- "A case that no run explains gives the end at once."
pub unexplained_ends : (c : Case) (limit : ℕ) (asked : Asked) → NoneExplains c → EndIs c limit asked
unexplained_ends c limit asked none s x k l = none s x
