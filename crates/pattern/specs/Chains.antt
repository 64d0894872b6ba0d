-- Chains of the priority pairs of a case, and marks that spread along them.
-- Assumes nothing.
use Rattle.std.specs.Prelude.{ℕ, ◌<◌, ◌≡◌, Bool, true, false, List, get_or}
use Rattle.walks.specs.Walk.{Reaches}
use Rattle.rack.specs.Refusal.{pair_at, lower_of}
use Rattle.rack.specs.declared.Case.{Case}

-- pairs, perhaps none, lead from the transition u down to v
abbrev pub Down : Case → ℕ → ℕ → Type 0
Down c u v = Reaches (pair_at c) (lower_of c) u v

-- the lower transition of the pair k leads back to its higher one
abbrev pub PairBack : Case → ℕ → Type 0
PairBack c k = Down c (get_or c.pairs.lower k 0) (get_or c.pairs.higher k 0)

-- a pair leads from a marked transition to t, which is not marked
pub record OpenAt (c : Case) (marks : List Bool) (t : ℕ) : Type 0 where
  pub pair : ℕ
  pub below : pair < c.pairs.count
  pub marked : get_or marks (get_or c.pairs.higher pair 0) false ≡ true
  pub is : get_or c.pairs.lower pair 0 ≡ t
  pub fresh : get_or marks t false ≡ false
