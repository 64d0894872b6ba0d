-- How the reading of digits stands, and what it comes to. Assumes nothing.
use Prim.Native.Nat.{ℕ, ◌+◌, ◌*◌, ◌-◌, ◌≤◌, ◌<◌}
use mathlib.Core.Path.{◌≡◌, refl, ap, ◌∙◌}
use mathlib.Core.Bool.{Bool, true, false, ◌&&◌, and-false}
use mathlib.Core.List.{List, [], ◌∷◌}
use native.Mathlib.Numerals.{add-one}
use native.Mathlib.Omega.{arith}
use borrow.Author.Tests.{lt-ltb, le-ltb, le-leb, lt-leb, leb-true}
use lib.ListN.{length, get_or, drop, drop_of_length-le}
use lib.Seq.{drop-cons}
use lib.Dec.{leb, ltb}
use Rattle.std.specs.Prelude.{Some, None, IfSome}
use Rattle.std.specs.Char.{is_ascii_digit}
use Rattle.walks.specs.Below.{pick, every}
use Rattle.arguments.specs.Numbers.{is_digit, value_from, spelled}

-- after i digits, which spell v
pub record Spelling (l : List ℕ) (v i : ℕ) : Type 0 where
  pub low : i ≤ length l
  pub digits : every is_digit l ≡ every is_digit (drop i l)
  pub value : value_from 0 l ≡ value_from v (drop i l)

pub spelling_start : (l : List ℕ) → Spelling l 0 0
spelling_start l = record { low = omega arith; digits = refl; value = refl }

-- more digits never make the number smaller
grows : (l : List ℕ) (v : ℕ) → v ≤ value_from v l
unfolding value_from
grows [] v = omega arith
grows (d ∷ r) v = omega (arith, grows r (v * 10 + (d - 48)))

-- no digits, or a number that is over the most
pub spells_none : (l : List ℕ) (most : ℕ) → length l ≡ 0 → None ≡ spelled l most
unfolding spelled
spells_none l most e = rw (le-ltb 0 (length l) (omega (arith, e)))

pub spells_over : {l : List ℕ} {v i : ℕ} → Spelling l v i → (most : ℕ) → most < v → None ≡ spelled l most
unfolding spelled
spells_over {l} {v} {i} s most b = rw (lt-leb (value_from 0 l) most (omega (arith, s.value, grows (drop i l) v)), and-false, and-false)

-- the next byte
module _ {l : List ℕ} {v i : ℕ} (s : Spelling l v i) (h : i < length l) where
  next : drop i l ≡ get_or l i 0 ∷ drop (i + 1) l
  next = drop-cons l i 0 h ∙ rw add-one refl

  pub spelling_more : (w : ℕ) → is_ascii_digit (get_or l i 0) ≡ true → w ≡ v * 10 + (get_or l i 0 - 48) → Spelling l w (i + 1)
  unfolding every value_from is_digit
  spelling_more w e n = rw n record { low = omega arith; digits = s.digits ∙ ap (every is_digit) next ∙ rw e refl; value = s.value ∙ ap (value_from v) next }

  pub spells_other : (most : ℕ) → is_ascii_digit (get_or l i 0) ≡ false → None ≡ spelled l most
  unfolding spelled every is_digit
  spells_other most e = rw (s.digits ∙ ap (every is_digit) next, e, and-false)

  -- a number that is too large already
  pub spells_much : (most : ℕ) → is_ascii_digit (get_or l i 0) ≡ true → most < v * 10 + (get_or l i 0 - 48) → None ≡ spelled l most
  spells_much most e b = spells_over (spelling_more _ e refl) most b

pub spells_all : {l : List ℕ} {v i : ℕ} → Spelling l v i → (most : ℕ) → 0 < length l → length l ≤ i → v ≤ most → Some v ≡ spelled l most
unfolding spelled every value_from
spells_all {l} {v} {i} s most ne h b =
    let gone : drop i l ≡ [] = drop_of_length-le l h in
    let d : every is_digit l ≡ true = s.digits ∙ ap (every is_digit) gone in
    let n : value_from 0 l ≡ v = s.value ∙ ap (value_from v) gone in
    rw (lt-ltb 0 (length l) ne, d, n, le-leb v most b)

-- ---- a number that is found is small enough

pub says_small : (l : List ℕ) (most : ℕ) → IfSome (spelled l most) (λ n. n ≤ most)
unfolding spelled
says_small l most = go (ltb 0 (length l)) (every is_digit l) (leb (value_from 0 l) most) refl
  where
    go : (a b c : Bool) → leb (value_from 0 l) most ≡ c → IfSome (pick (a && (b && c)) (Some (value_from 0 l)) None) (λ n. n ≤ most)
    go true true true q = leb-true (value_from 0 l) most q
    go true true false q = tt
    go true false c q = tt
    go false b c q = tt
