-- What the checks answer where they pass. Assumes nothing.
use Rattle.rack.specs.Refusal.{PatternOver, also}
use Rattle.rack.specs.NetChecks.{NetAccepts, pattern_order}
use Rattle.rack.specs.declared.Case.{Case}

-- where the checks 3 to 7 have passed, no cap is passed in the pattern
pub no_pattern_over : {c : Case} → NetAccepts c pattern_order → PatternOver c → ⊥
no_pattern_over (also a (also b (also d u))) = d
