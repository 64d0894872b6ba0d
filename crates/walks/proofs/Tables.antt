-- A table of values of a function, entry by entry. Assumes nothing.
use Prim.Native.Nat.{ℕ, zero, suc, ◌+◌, ◌<◌}
use mathlib.Core.Path.{◌≡◌, refl, sym, ap, ap₂, ◌∙◌}
use mathlib.Core.Bool.{Bool, ◌&&◌}
use mathlib.Core.List.{List}
use native.Mathlib.Nat.{not-suc-le-zero, add-zero, le_of_suc-le-suc, suc-add, add-suc, zero-add}
use native.Mathlib.Omega.{arith}
use lib.ListN.{length, get_or}
use lib.Seq.{ext_get_or}
use Rattle.walks.specs.Below.{all_below, table_from}

pub length_table : (i n : ℕ) (f : ℕ → ℕ) → length (table_from i n f) ≡ n
unfolding table_from
length_table i zero f = refl
length_table i (suc n) f = ap suc (length_table (suc i) n f)

pub table_at : (i n : ℕ) (f : ℕ → ℕ) (j : ℕ) → j < n → get_or (table_from i n f) j 0 ≡ f (i + j)
unfolding table_from
table_at i zero f j h = absurd (not-suc-le-zero h)
table_at i (suc n) f zero h = ap f (sym (add-zero i))
table_at i (suc n) f (suc j) h = table_at (suc i) n f j (le_of_suc-le-suc h) ∙ ap f (suc-add i j ∙ sym (add-suc i j))

-- a table from 0 on, and when a list is that table
pub table_entry : (n : ℕ) (f : ℕ → ℕ) (j : ℕ) → j < n → get_or (table_from 0 n f) j 0 ≡ f j
table_entry n f j h = table_at 0 n f j h ∙ ap f (zero-add j)

pub is_table : (n : ℕ) (f : ℕ → ℕ) (l : List ℕ) → length l ≡ n → ((k : ℕ) → k < n → get_or l k 0 ≡ f k) → l ≡ table_from 0 n f
is_table n f l e h =
    ext_get_or 0 l (table_from 0 n f) (e ∙ sym (length_table 0 n f))
    (λ k below.
    let inside : k < n = omega (arith, e) in
    h k inside ∙ sym (table_entry n f k inside))

-- two tables of the same values
pub table_same : (n : ℕ) (f g : ℕ → ℕ) → ((k : ℕ) → k < n → f k ≡ g k) → table_from 0 n f ≡ table_from 0 n g
table_same n f g h = is_table n g (table_from 0 n f) (length_table 0 n f) (λ k l. table_entry n f k l ∙ h k l)

-- two tests that agree below n
pub all_same : (n : ℕ) (f g : ℕ → Bool) → ((k : ℕ) → k < n → f k ≡ g k) → all_below n f ≡ all_below n g
unfolding all_below
all_same zero f g h = refl
all_same (suc n) f g h = ap₂ ◌&&◌ (h n (omega arith)) (all_same n f g (λ k l. h k (omega arith)))
