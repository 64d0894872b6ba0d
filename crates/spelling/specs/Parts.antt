-- The stretches of a file that the writer puts one after the other.
-- Assumes nothing.
use Rattle.std.specs.Prelude.{ℕ, ◌*◌, List, [], ◌∷◌, ◌++◌, get_or, take}
use Rattle.rack.specs.Writing.{row_bytes}
use Rattle.rack.specs.declared.Net.{Net}
use Rattle.rack.specs.declared.Arcs.{Arcs}

-- NT and PT, with the letters of their mark
abbrev pub net_bytes : {n : ℕ} → List ℕ → Net n → List ℕ
net_bytes mark net = mark ++ (net.places ∷ net.cap ∷ take net.places net.first)

-- record t of TR or PX, with the letters of its mark, in rows that are w wide
abbrev pub arc_bytes : List ℕ → ℕ → List ℕ → List ℕ → List ℕ → ℕ → List ℕ
arc_bytes mark w labels pre post t = mark ++ (get_or labels t 0 ∷ row_bytes pre (t * w) w ++ row_bytes post (t * w) w)

abbrev pub arcs_bytes : {m n : ℕ} → List ℕ → ℕ → Arcs m n → ℕ → List ℕ
arcs_bytes mark w arcs = arc_bytes mark w arcs.labels arcs.pre arcs.post

-- the bounds of one place
abbrev pub bounds_at : List ℕ → List ℕ → ℕ → List ℕ
bounds_at least most p = get_or least p 0 ∷ get_or most p 0 ∷ []
