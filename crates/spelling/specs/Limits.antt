-- The limits of the counts of a case that can be written.
-- Assumes nothing.
use Rattle.std.specs.Prelude.{◌≤◌}
use Rattle.rack.specs.declared.Case.{Case}

-- at most 16 places, 48 transitions, 32 pairs, 8 places and 16 transitions of the pattern, 8 bounds and 40 labels of the log
pub record Limits (c : Case) : Type 0 where
  pub places : c.net.places ≤ 16
  pub arcs : c.arcs.count ≤ 48
  pub pairs : c.pairs.count ≤ 32
  pub pattern : c.pattern.places ≤ 8
  pub links : c.links.count ≤ 16
  pub bounds : c.bounds.count ≤ 8
  pub log : c.log.count ≤ 40
