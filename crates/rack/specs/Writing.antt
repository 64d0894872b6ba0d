-- The bytes that a case is written as, and which cases are written.
-- Assumes nothing.
use Rattle.std.specs.Prelude.{ℕ, zero, suc, ◌+◌, ◌*◌, List, [], ◌∷◌, ◌++◌, length, get_or, take, eqb}
use Rattle.walks.specs.Below.{pick}
use Rattle.rack.specs.Layout.{ReadsAs}
use Rattle.rack.specs.declared.Net.{Net}
use Rattle.rack.specs.declared.Arcs.{Arcs}
use Rattle.rack.specs.declared.Pairs.{Pairs}
use Rattle.rack.specs.declared.Observable.{Observable}
use Rattle.rack.specs.declared.Bounds.{Bounds}
use Rattle.rack.specs.declared.Log.{Log}
use Rattle.rack.specs.declared.Case.{Case}

-- those of the n numbers from i at which g is 1
unfoldable pub listed : ℕ → ℕ → (ℕ → ℕ) → List ℕ
listed i zero g = []
listed i (suc n) g = pick (eqb (g i) 1) (i ∷ listed (suc i) n g) (listed (suc i) n g)

-- a list with its length before it
abbrev pub counted : List ℕ → List ℕ
counted l = length l ∷ l

-- the lists of g at 0, 1, .., n - 1, one after the other
unfoldable pub up_to : ℕ → (ℕ → List ℕ) → List ℕ
up_to zero g = []
up_to (suc n) g = up_to n g ++ g n

abbrev pub cell : List ℕ → ℕ → ℕ → ℕ
cell row base p = get_or row (base + p) 0

-- the w places of a row from base on that hold 1, counted
abbrev pub row_bytes : List ℕ → ℕ → ℕ → List ℕ
row_bytes row base w = counted (listed 0 w (cell row base))

unfoldable pub nt_bytes : Net 16 → List ℕ
nt_bytes c = 78 ∷ 84 ∷ c.places ∷ c.cap ∷ take c.places c.first

unfoldable pub tr_bytes : Arcs 48 768 → ℕ → List ℕ
tr_bytes c t = 84 ∷ 82 ∷ get_or c.labels t 0 ∷ row_bytes c.pre (t * 16) 16 ++ row_bytes c.post (t * 16) 16

unfoldable pub pr_bytes : Pairs → ℕ → List ℕ
pr_bytes c k = 80 ∷ 82 ∷ get_or c.higher k 0 ∷ get_or c.lower k 0 ∷ []

unfoldable pub ob_bytes : Observable → List ℕ
ob_bytes c = 79 ∷ 66 ∷ row_bytes c.flags 0 32

unfoldable pub pt_bytes : Net 8 → List ℕ
pt_bytes c = 80 ∷ 84 ∷ c.places ∷ c.cap ∷ take c.places c.first

unfoldable pub px_bytes : Arcs 16 128 → ℕ → List ℕ
px_bytes c k = 80 ∷ 88 ∷ get_or c.labels k 0 ∷ row_bytes c.pre (k * 8) 8 ++ row_bytes c.post (k * 8) 8

-- least and most of one pattern place
abbrev pub bound_pair : Bounds → ℕ → ℕ → List ℕ
bound_pair c g p = get_or c.least (g * 8 + p) 0 ∷ get_or c.most (g * 8 + p) 0 ∷ []

unfoldable pub qf_bytes : ℕ → Bounds → ℕ → List ℕ
qf_bytes places c g = 81 ∷ 70 ∷ up_to places (bound_pair c g)

unfoldable pub lg_bytes : Log → List ℕ
lg_bytes c = 76 ∷ 71 ∷ c.count ∷ take c.count c.labels

abbrev pub en_bytes : List ℕ
en_bytes = 69 ∷ 78 ∷ []

-- the records in the table's order
unfoldable pub bytes_of : Case → List ℕ
bytes_of c =
    nt_bytes c.net
    ++ up_to c.arcs.count (tr_bytes c.arcs)
    ++ up_to c.pairs.count (pr_bytes c.pairs)
    ++ ob_bytes c.observable
    ++ pt_bytes c.pattern
    ++ up_to c.links.count (px_bytes c.links)
    ++ up_to c.bounds.count (qf_bytes c.pattern.places c.bounds)
    ++ lg_bytes c.log
    ++ en_bytes

-- some well_formed file reads as c
pub record Writable (c : Case) : Type 0 where
  pub file : List ℕ
  pub reads : ReadsAs file c
