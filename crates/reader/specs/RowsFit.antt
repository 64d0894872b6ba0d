-- What the slots of a case need of the records before: that the numbers fit the rows.
-- Assumes nothing.
use Rattle.std.specs.Prelude.{◌≤◌}
use Rattle.rack.specs.declared.Case.{Case}

-- the places of both nets fit the rows of their arcs and bounds
pub record RowsFit (c : Case) : Type 0 where
  pub system : c.net.places ≤ 16
  pub pattern : c.pattern.places ≤ 8
