-- The nine marks, and which may follow which.
-- Assumes nothing.
use Rattle.std.specs.Prelude.{ℕ, ◌+◌, ◌*◌, Bool, List, [], ◌∷◌, Option, Some, None, length, get_or, leb, eqb}
use Rattle.walks.specs.Below.{pick}
use Rattle.rack.specs.Bytes.{byte}
use Rattle.rack.specs.declared.Mark.{Mark}
use Rattle.rack.specs.declared.Mark.TheVariants.{Nt, Tr, Pr, Ob, Pt, Px, Qf, Lg, En}

-- "A record is a two-byte mark, given as two ASCII letters": the kind that the bytes x and y are the mark of
unfoldable pub mark_of : ℕ → ℕ → Option Mark
mark_of x y =
    pick (eqb x 78) (pick (eqb y 84) (Some Nt) None)
    (pick (eqb x 84) (pick (eqb y 82) (Some Tr) None)
    (pick (eqb x 80) (pick (eqb y 82) (Some Pr) (pick (eqb y 84) (Some Pt) (pick (eqb y 88) (Some Px) None)))
    (pick (eqb x 79) (pick (eqb y 66) (Some Ob) None)
    (pick (eqb x 81) (pick (eqb y 70) (Some Qf) None)
    (pick (eqb x 76) (pick (eqb y 71) (Some Lg) None)
    (pick (eqb x 69) (pick (eqb y 78) (Some En) None)
    None))))))

-- the mark that stands at a, if two bytes are left and they are one; None: no mark stands there
abbrev pub mark_found : List ℕ → ℕ → Option Mark
mark_found f a = pick (leb (a + 2) (length f)) (mark_of (byte f a) (byte f (a + 1))) None

-- a kind's row and column in the table
abbrev pub number_of : Mark → ℕ
number_of Nt = 0
number_of Tr = 1
number_of Pr = 2
number_of Ob = 3
number_of Pt = 4
number_of Px = 5
number_of Qf = 6
number_of Lg = 7
number_of En = 8

-- "Records come in the table's order, and which mark may follow which is a fixed table."
-- A row for each kind, a column for each kind that may come next: NT TR PR OB PT PX QF LG EN.
unfoldable pub follows : List ℕ
follows =
    0 ∷ 1 ∷ 1 ∷ 1 ∷ 0 ∷ 0 ∷ 0 ∷ 0 ∷ 0
    ∷ 0 ∷ 1 ∷ 1 ∷ 1 ∷ 0 ∷ 0 ∷ 0 ∷ 0 ∷ 0
    ∷ 0 ∷ 0 ∷ 1 ∷ 1 ∷ 0 ∷ 0 ∷ 0 ∷ 0 ∷ 0
    ∷ 0 ∷ 0 ∷ 0 ∷ 0 ∷ 1 ∷ 0 ∷ 0 ∷ 0 ∷ 0
    ∷ 0 ∷ 0 ∷ 0 ∷ 0 ∷ 0 ∷ 1 ∷ 1 ∷ 0 ∷ 0
    ∷ 0 ∷ 0 ∷ 0 ∷ 0 ∷ 0 ∷ 1 ∷ 1 ∷ 0 ∷ 0
    ∷ 0 ∷ 0 ∷ 0 ∷ 0 ∷ 0 ∷ 0 ∷ 1 ∷ 1 ∷ 0
    ∷ 0 ∷ 0 ∷ 0 ∷ 0 ∷ 0 ∷ 0 ∷ 0 ∷ 0 ∷ 1
    ∷ 0 ∷ 0 ∷ 0 ∷ 0 ∷ 0 ∷ 0 ∷ 0 ∷ 0 ∷ 0
    ∷ []

-- the mark m may stand after the mark k; before the first record no mark stands (None), and NT comes first
abbrev pub can_follow : Option Mark → Mark → Bool
can_follow None m = eqb (number_of m) 0
can_follow (Some k) m = eqb (get_or follows (number_of k * 9 + number_of m) 0) 1
