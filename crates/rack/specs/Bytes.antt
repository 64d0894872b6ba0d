-- Bytes of a file: single ones, stretches, counted lists that rise strictly, and rows of 0 and 1.
-- Assumes nothing.
use Rattle.std.specs.Prelude.{ℕ, ◌+◌, ◌-◌, ◌≤◌, ◌<◌, ◌≡◌, Bool, true, ◌&&◌, List, [], ◌∷◌, ◌++◌, length, get_or, take, drop, set, replicate, ltb, leb}

-- the byte at a
abbrev pub byte : List ℕ → ℕ → ℕ
byte f a = get_or f a 0

-- the n bytes from a on
abbrev pub part : List ℕ → ℕ → ℕ → List ℕ
part f a n = take n (drop a f)

abbrev pub at_most : ℕ → ℕ → Bool
at_most cap x = leb x cap

-- "a case in memory has zeros in unused slots": a list filled up with zeros to w
unfoldable pub filled : ℕ → List ℕ → List ℕ
filled w l = l ++ replicate (w - length l) 0

-- l with the elements of x from at on
unfoldable pub put : List ℕ → ℕ → List ℕ → List ℕ
put l at x = take at l ++ (x ++ drop (at + length x) l)

-- "rise strictly": the numbers rise from low on, and each is below b
unfoldable pub rising : ℕ → ℕ → List ℕ → Bool
rising low b [] = true
rising low b (x ∷ xs) = leb low x && (ltb x b && rising (x + 1) b xs)

-- a row with 1 at base + x for each x listed
unfoldable pub marked : ℕ → List ℕ → List ℕ → List ℕ
marked base [] row = row
marked base (x ∷ xs) row = marked base xs (set row (base + x) 1)

-- a count at a, and that many numbers after it
abbrev pub list_at : List ℕ → ℕ → List ℕ
list_at f a = part f (a + 1) (byte f a)

abbrev pub list_end : List ℕ → ℕ → ℕ
list_end f a = a + 1 + byte f a

-- the numbers are all there, rise strictly, and each is below b
pub record ListIs (b : ℕ) (f : List ℕ) (a : ℕ) : Type 0 where
  pub starts : a < length f
  pub ends : list_end f a ≤ length f
  pub rises : rising 0 b (list_at f a) ≡ true
