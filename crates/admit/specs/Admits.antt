-- What opening a file answers: the plan of its case and the table of its reachable product markings where none of the
-- checks 1 to 9 speaks, else the first that does. Assumes nothing.
use Rattle.std.specs.Prelude.{ℕ, ◌<◌, ◌≤◌, ◌≡◌, List, length, Result, Ok, Err}
use Rattle.rack.specs.Layout.{ReadsAs, BreaksAt}
use Rattle.rack.specs.WellFormed.{WellFormed}
use Rattle.rack.specs.Refusal.{NetsPass}
use Rattle.rack.specs.Refused.{number_of, beside_of}
use Rattle.rack.specs.NetChecks.{NetRefuses, NetAccepts, pattern_order, product_order}
use Rattle.rack.specs.Outcome.{zeroed}
use Rattle.rack.specs.declared.Case.{Case}
use Rattle.rack.specs.declared.Refusal.{Refusal}
use Rattle.reach.specs.Table.{TableOf}

-- ---- the checks 3 to 9 of a case that has been read

-- the first of 3 to 9 that speaks of a case
pub data NetsRefuse (c : Case) : ℕ → ℕ → Type 0 where
  of_pattern : {n : ℕ} → NetRefuses c pattern_order n → NetsRefuse c n 0
  of_product : {n : ℕ} → NetAccepts c pattern_order → NetRefuses c product_order n → NetsRefuse c n 0

-- none speaks, and the first n rows of the room are the reachable product markings
pub record Passes (c : Case) (room : List ℕ) (n : ℕ) : Type 0 where
  pub well : WellFormed c
  pub nets : NetsPass c
  pub table : TableOf c room n

-- ---- a file

-- the file is refused by n, with m beside it: it breaks the layout, or the nets of its case are refused
pub data RefusedFile (f : List ℕ) : ℕ → ℕ → Type 0 where
  of_layout : {p : ℕ} → BreaksAt f p → RefusedFile f 2 p
  of_nets : {c : Case} {n m : ℕ} → ReadsAs f c → NetsRefuse c n m → RefusedFile f n m

-- in a work room of that length, of which `needed` bytes are needed, the first of 1 to 9 that speaks is n, with m
-- beside it
pub data OpenRefuses (f : List ℕ) (needed long : ℕ) : ℕ → ℕ → Type 0 where
  short : long < needed → OpenRefuses f needed long 1 0
  of_refused_file : {n m : ℕ} → needed ≤ long → RefusedFile f n m → OpenRefuses f needed long n m

-- none speaks: the plan is that of the file's case, and the first n rows of the work room are its reachable product
-- markings
pub record OpenedIs (f : List ℕ) (needed : ℕ) (work₀ : List ℕ) (plan : Case) (work : List ℕ) (n : ℕ) : Type 0 where
  pub enough : needed ≤ length work₀
  pub long : length work ≡ length work₀
  pub reads : ReadsAs f plan
  pub passes : Passes plan work n

-- the checks are made; what one of them that speaks has found so far may still stand in the work room
abbrev pub CheckedSays : List ℕ → ℕ → List ℕ → Case → List ℕ → Result ℕ Refusal → Type 0
CheckedSays f needed work₀ plan work (Ok n) = OpenedIs f needed work₀ plan work n
CheckedSays f needed work₀ plan work (Err r) = (length work ≡ length work₀) × OpenRefuses f needed (length work₀) (number_of r) (beside_of r)

abbrev pub OpenSays : List ℕ → ℕ → List ℕ → Case → List ℕ → Result ℕ Refusal → Type 0
OpenSays f needed work₀ plan work (Ok n) = OpenedIs f needed work₀ plan work n
OpenSays f needed work₀ plan work (Err r) = (work ≡ zeroed work₀) × OpenRefuses f needed (length work₀) (number_of r) (beside_of r)
