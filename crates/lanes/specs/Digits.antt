-- A word as digits in some base, the first the highest, and a list packed into words, one row of digits in each.
-- Assumes nothing.
use Rattle.std.specs.Prelude.{ℕ, zero, suc, ◌+◌, ◌*◌, ◌/◌, ◌%◌, ◌<◌, ◌≡◌, List, get_or, eqb}
use Rattle.walks.specs.Below.{pick, table_from}

-- digit p, of the digits 0 to `last`, of a word in base b. Digit 0 is the highest and is not cut off: so a word is known by its digits with no
-- bound on it, and with `last` 0 the one digit is the word itself
unfoldable pub digit : ℕ → ℕ → ℕ → ℕ → ℕ
digit b zero w p = w
digit b (suc last) w p = pick (eqb p (suc last)) (w % b) (digit b last (w / b) p)

-- those digits as a list
unfoldable pub digits : ℕ → ℕ → ℕ → List ℕ
digits b last w = table_from 0 (suc last) (digit b last w)

-- the word of the first n digits f 0, f 1, ..
unfoldable pub word_of : ℕ → ℕ → (ℕ → ℕ) → ℕ
word_of b zero f = 0
word_of b (suc n) f = word_of b n f * b + f n

-- the entries of xs from a place on
unfoldable pub from : List ℕ → ℕ → ℕ → ℕ
from xs a p = get_or xs (a + p) 0

-- entry i of the rows that stand in the words from `at` on, one row of `last` + 1 digits in each word
unfoldable pub entry : ℕ → ℕ → ℕ → List ℕ → ℕ → ℕ
entry b last at ws i = digit b last (get_or ws (at + i / suc last) 0) (i % suc last)

-- those rows as one list of n entries
unfoldable pub rows_of : ℕ → ℕ → ℕ → ℕ → List ℕ → List ℕ
rows_of b last n at ws = table_from 0 n (entry b last at ws)

-- w comes before v: at the first digit at which they differ, w's is the smaller
pub record DigitsBelow (b last w v : ℕ) : Type 0 where
  pub at : ℕ
  pub inside : at < suc last
  pub same : (p : ℕ) → p < at → digit b last w p ≡ digit b last v p
  pub less : digit b last w at < digit b last v at
