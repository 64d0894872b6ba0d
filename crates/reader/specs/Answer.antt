-- What a refusal of the reader leaves.
-- Assumes nothing.
use Rattle.std.specs.Prelude.{ℕ}
use Rattle.rack.specs.Layout.{case_of_zeros}
use Rattle.rack.specs.declared.Outcome.TheVariants.{Refused}
use Rattle.rack.specs.declared.Reading.{Reading}

-- "A refused read gives the case of all zeros": refusal 2 with its place
abbrev pub refusal : ℕ → Reading
refusal place = record { outcome = Refused 2 place; case = case_of_zeros }
