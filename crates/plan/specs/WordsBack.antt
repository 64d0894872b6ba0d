-- A plan's words are got back from the case that they hold. Assumes nothing.
use Prim.Native.Nat.{ℕ, zero, suc, ◌+◌, ◌*◌, ◌/◌, ◌<◌, ◌≤◌}
use mathlib.Core.Path.{◌≡◌, refl, sym, ap, ap₂, ◌∙◌}
use mathlib.Core.List.{List, ◌∷◌, ◌++◌}
use native.Mathlib.Nat.{div-add-mod', zero-mul, zero-add, add-zero, suc-add, add-suc, add-mul, mul-le-mul_right, one-mul}
use native.Mathlib.Omega.{arith}
use lib.ListN.{length, get_or}
use lib.Seq.{ext_get_or}
use Rattle.walks.specs.Below.{table_from}
use Rattle.walks.proofs.Tables.{length_table, table_at, table_entry, is_table}
use Rattle.lanes.specs.Digits.{digit, word_of, from, rows_of}
use Rattle.lanes.proofs.DigitLaws.{digit_last, digit_up, row_at}
use Rattle.rack.specs.declared.Case.{Case}
use Rattle.plan.specs.Plan.{plan_size, planned, words_in, heads, words_of}

-- digits that are the same make the same word
pub word_same : (b n : ℕ) (f g : ℕ → ℕ) → ((i : ℕ) → i < n → f i ≡ g i) → word_of b n f ≡ word_of b n g
unfolding word_of
word_same b zero f g h = refl
word_same b (suc n) f g h = ap₂ (λ (w v : ℕ). w * b + v) (word_same b n f g (λ i l. h i (omega arith))) (h n (omega arith))

-- a word is that of its digits
word_digits : (b last w : ℕ) → word_of b (suc last) (digit b last w) ≡ w
unfolding word_of digit
word_digits b zero w = simp (zero-mul, zero-add)
word_digits b (suc n) w =
    ap₂ (λ (x y : ℕ). x * b + y)
    (word_same b (suc n) (digit b (suc n) w) (digit b n (w / b)) (λ p l. digit_up b n w p (omega arith)) ∙ word_digits b n (w / b))
    (digit_last b n w)
    ∙ div-add-mod' w b

module _ (ws : List ℕ) where
  -- some of the words, from `at` on
  part : ℕ → ℕ → List ℕ
  part at n = table_from at n (λ i. get_or ws i 0)

  -- the words that are read as rows are those that hold them
  rows_words : (b last rows at n : ℕ) → n ≡ rows * suc last → words_in b last rows (rows_of b last n at ws) ≡ part at rows
  unfolding words_in part from
  rows_words b last rows at n e =
      let f = λ (t : ℕ). word_of b (suc last) (from (rows_of b last n at ws) (t * suc last)) in
      ext_get_or 0 (table_from 0 rows f) (part at rows) (length_table 0 rows f ∙ sym (length_table at rows (λ i. get_or ws i 0)))
      (λ t below.
      let inside : t < rows = omega (arith, length_table 0 rows f) in
      let ends : (t + 1) * suc last ≤ rows * suc last = mul-le-mul_right (suc last) (omega arith) in
      table_entry rows f t inside
      ∙ word_same b (suc last) (from (rows_of b last n at ws) (t * suc last)) (digit b last (get_or ws (at + t) 0))
      (λ p l. row_at b last n at ws t p (omega arith) (omega (arith, ends, add-mul t 1 (suc last), one-mul (suc last))))
      ∙ word_digits b last (get_or ws (at + t) 0)
      ∙ sym (table_at at rows (λ i. get_or ws i 0) t inside))

  heads_words : heads (planned ws) ≡ part 242 9
  unfolding planned part table_from
  heads_words = refl

  -- parts that lie one behind the other are one part
  parts : (at n m : ℕ) → part at n ++ part (at + n) m ≡ part at (n + m)
  unfolding part table_from
  parts at zero m = ap₂ (λ (i j : ℕ). table_from i j (λ k. get_or ws k 0)) (add-zero at) (sym (zero-add m))
  parts at (suc n) m =
      let f = λ (k : ℕ). get_or ws k 0 in
      ap (λ (xs : List ℕ). get_or ws at 0 ∷ (part (suc at) n ++ xs)) (ap (λ (i : ℕ). part i m) (add-suc at n ∙ sym (suc-add at n)))
      ∙ ap (λ (xs : List ℕ). get_or ws at 0 ∷ xs) (parts (suc at) n m)
      ∙ sym (ap (λ (j : ℕ). table_from at j f) (suc-add n m))

  join : {xs ys : List ℕ} (at n : ℕ) → xs ≡ part 0 at → ys ≡ part at n → xs ++ ys ≡ part 0 (at + n)
  join at n e h = ap₂ ◌++◌ e (h ∙ ap (λ (i : ℕ). part i n) (sym (zero-add at))) ∙ parts 0 at n

  pub words_back : length ws ≡ plan_size → words_of (planned ws) ≡ ws
  unfolding words_of planned part
  words_back all =
      let inputs = rows_words 16 15 48 0 768 refl in
      let outputs = join 48 48 inputs (rows_words 16 15 48 48 768 refl) in
      let labels = join 96 48 outputs (rows_words 256 0 48 96 48 refl) in
      let higher = join 144 32 labels (rows_words 256 0 32 144 32 refl) in
      let lower = join 176 32 higher (rows_words 256 0 32 176 32 refl) in
      let observable = join 208 32 lower (rows_words 256 0 32 208 32 refl) in
      let first = join 240 1 observable (rows_words 16 15 1 240 16 refl) in
      let link-first = join 241 1 first (rows_words 16 7 1 241 8 refl) in
      let numbers = join 242 9 link-first heads_words in
      let link-inputs = join 251 16 numbers (rows_words 16 7 16 251 128 refl) in
      let link-outputs = join 267 16 link-inputs (rows_words 16 7 16 267 128 refl) in
      let link-labels = join 283 16 link-outputs (rows_words 256 0 16 283 16 refl) in
      let least = join 299 8 link-labels (rows_words 16 7 8 299 64 refl) in
      let most = join 307 8 least (rows_words 16 7 8 307 64 refl) in
      join 315 40 most (rows_words 256 0 40 315 40 refl) ∙ sym (is_table plan_size (λ i. get_or ws i 0) ws all (λ k l. refl))

-- the words of a plan are those of its case
pub words_given : {ws : List ℕ} {c : Case} → planned ws ≡ c → length ws ≡ plan_size → ws ≡ words_of c
words_given {ws} e all = sym (words_back ws all) ∙ ap words_of e
