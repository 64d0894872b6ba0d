-- What the answers of the checks on priority pairs and pattern say of the case.
-- Assumes nothing.
use Rattle.std.specs.Prelude.{ℕ, ◌≡◌, Bool, List, Option, Some, None, Result, Ok, Err}
use Rattle.rack.specs.NetChecks.{NetRefuses, NetAccepts, pattern_order}
use Rattle.rack.specs.Refused.{number_of, beside_of}
use Rattle.rack.specs.declared.Case.{Case}
use Rattle.rack.specs.declared.Refusal.{Refusal}
use Rattle.rack.specs.declared.SystemTransition.{SystemTransition}
use Rattle.pattern.specs.Chains.{OpenAt}

-- a pair leads from a marked transition to t, which is not marked, or no pair leads so
abbrev pub OpenSays : Case → List Bool → Option SystemTransition → Type 0
OpenSays c marks (Some t) = OpenAt c marks t.0
OpenSays c marks None = (t : ℕ) → OpenAt c marks t → ⊥

-- none of 3 to 7 speaks, or the refusal is the first that does
abbrev pub CheckedSays : Case → Result (Unit {0}) Refusal → Type 0
CheckedSays c (Ok u) = NetAccepts c pattern_order
CheckedSays c (Err r) = NetRefuses c pattern_order (number_of r) × (beside_of r ≡ 0)
