-- What the verdict takes from the search: of each kind the first explanation, by where the search met its end; or that there is none.
-- Assumes nothing.
use Rattle.std.specs.Prelude.{ℕ, ◌≡◌, ◌≤◌, Bool, List, length, Option, Some, None}
use Rattle.walks.specs.Back.{BackTo}
use Rattle.rack.specs.Run.{Explains, matches}
use Rattle.rack.specs.Keep.{moves, onto}
use Rattle.rack.specs.Verdict.{FirstOfKind}
use Rattle.rack.specs.declared.Case.{Case}
use Rattle.steps.specs.Nodes.{node_at}
use Rattle.search.specs.Nodes.{id_at}
use Rattle.search.specs.GoingBack.{MetAt}
use Rattle.search.specs.declared.Place.{Place}
use Rattle.search.specs.Found.{RunWritten}

-- the first explanation of the kind k is `depth` firings long, and going back from the node at the rank gives it
pub record KindAt (c : Case) (room : List ℕ) (n met : ℕ) (k : Bool) (rank depth : ℕ) : Type 0 where
  pub met_at : MetAt c room n met rank depth
  pub run : List ℕ
  pub first : FirstOfKind c k run
  pub long : length run ≡ depth
  pub only : (w : List ℕ) → BackTo (moves c) (onto c) (λ j. node_at room (id_at room j)) rank w → w ≡ run

-- no explanation is of the kind k
abbrev pub NoneOfKind : Case → Bool → Type 0
NoneOfKind c k = (s : List ℕ) → Explains c s → matches c s ≡ k → ⊥

abbrev pub KindIs : Case → List ℕ → ℕ → ℕ → Bool → Option Place → Type 0
KindIs c room n met k (Some p) = KindAt c room n met k p.rank p.depth
KindIs c room n met k None = NoneOfKind c k

pub record KindSays (c : Case) (room : List ℕ) (n met : ℕ) (k : Bool) (p : Option Place) : Type 0 where
  pub is : KindIs c room n met k p

-- how long the run to the place is, 0 where there is none
abbrev pub run_length : Option Place → ℕ
run_length None = 0
run_length (Some p) = p.depth

-- the run to the place, if there is one, can be written
abbrev pub CanWrite : Case → List ℕ → ℕ → ℕ → Option Place → List ℕ → Type 0
CanWrite c room n met (Some p) out = MetAt c room n met p.rank p.depth × (p.depth ≤ length out)
CanWrite c room n met None out = Unit {0}

pub record ToWrite (c : Case) (room : List ℕ) (n met : ℕ) (p : Option Place) (out : List ℕ) : Type 0 where
  pub is : CanWrite c room n met p out

-- it has been written; where there is none, nothing has changed
abbrev pub IsWritten : Case → List ℕ → Option Place → List ℕ → List ℕ → Type 0
IsWritten c room (Some p) out₀ out = RunWritten c room p.rank out₀ out
IsWritten c room None out₀ out = out ≡ out₀

pub record PlaceWritten (c : Case) (room : List ℕ) (p : Option Place) (out₀ out : List ℕ) : Type 0 where
  pub is : IsWritten c room p out₀ out
