-- Lists as the reader leaves them: lists that rise, marked rows, lists filled up with zeros, stretches put into a list, each element by
-- element. Assumes nothing.
use Prim.Native.Nat.{ℕ, zero, suc, ◌+◌, ◌*◌, ◌-◌, ◌%◌, ◌≤◌, ◌<◌}
use mathlib.Core.Path.{◌≡◌, refl, sym, ap, ◌∙◌, subst, subst₂}
use mathlib.Core.Bool.{Bool, true, false, ◌&&◌}
use mathlib.Core.List.{List, [], ◌∷◌, ◌++◌}
use native.Mathlib.Nat.{not-suc-le-zero, le_of_suc-le-suc, mul-add-mod_self_right, mod-eq_of_lt}
use native.Mathlib.Omega.{arith}
use lib.ListN.{length, get_or, take, drop, set, replicate, length-append, length-drop, length-set, length-replicate, get_or-append}
use lib.Seq.{take_at, length-take-le, get_or-append-add, get_or-take, get_or-drop, get_or-set_other}
use lib.Dec.{T, leb, ltb, leb→le, ltb→lt}
use borrow.Author.Tests.{ltb-true, ltb-false}
use Rattle.walks.specs.Below.{all_below, every}
use Rattle.walks.proofs.Tests.{and_left, and_right, and_both, is_true, of_true}
use Rattle.rack.specs.Bytes.{part, filled, put, rising, marked}

-- ---- zeros, stretches, tests

pub zeros : (n p : ℕ) → ◌≡◌ {A = ℕ} (get_or (replicate n 0) p 0) 0
zeros zero p = refl
zeros (suc n) zero = refl
zeros (suc n) (suc p) = zeros n p

pub length_part : (f : List ℕ) (a n : ℕ) → a + n ≤ length f → length (part f a n) ≡ n
length_part f a n h = length-take-le n (drop a f) (simp length-drop (omega arith))

-- a test that every element passes is passed by the one at i
pub every_at : (f : ℕ → Bool) (l : List ℕ) → T (every f l) → (i : ℕ) → i < length l → T (f (get_or l i 0))
unfolding every
every_at f [] t i h = absurd (not-suc-le-zero h)
every_at f (x ∷ l) t zero h = and_left (f x) (every f l) t
every_at f (x ∷ l) t (suc i) h = every_at f l (and_right (f x) (every f l) t) i (le_of_suc-le-suc h)

-- a test that passes at every number below n passes at all of them together
pub all_below_lem : (n : ℕ) (f : ℕ → Bool) → ((k : ℕ) → k < n → T (f k)) → T (all_below n f)
unfolding all_below
all_below_lem zero f h = tt
all_below_lem (suc n) f h = and_both (f n) (all_below n f) (h n (omega arith)) (all_below_lem n f (λ k b. h k (omega arith)))

-- two places of rows that are w wide are the same place only in the same column
pub same_column : (w t s p x : ℕ) → p < w → x < w → t * w + p ≡ s * w + x → p ≡ x
same_column w t s p x h k e =
    sym (mod-eq_of_lt h) ∙ sym (mul-add-mod_self_right t w p) ∙ ap (λ (i : ℕ). i % w) e ∙ mul-add-mod_self_right s w x ∙ mod-eq_of_lt k

-- ---- a list that rises

module _ (low b x : ℕ) (l : List ℕ) (r : rising low b (x ∷ l) ≡ true) where
  low_first : T (leb low x && (ltb x b && rising (x + 1) b l))
  unfolding rising
  low_first = of_true _ r

  high_first : T (ltb x b && rising (x + 1) b l)
  high_first = and_right (leb low x) (ltb x b && rising (x + 1) b l) low_first

  pub head_low : low ≤ x
  head_low = leb→le low x (and_left (leb low x) (ltb x b && rising (x + 1) b l) low_first)

  pub head_high : x < b
  head_high = ltb→lt x b (and_left (ltb x b) (rising (x + 1) b l) high_first)

  pub tail_rises : rising (x + 1) b l ≡ true
  tail_rises = is_true _ (and_right (ltb x b) (rising (x + 1) b l) high_first)

-- ---- one store

module _ (P : ℕ → Type 0) where
  pub set_keeps : (l : List ℕ) (i v p : ℕ) → P v → P (get_or l p 0) → P (get_or (set l i v) p 0)
  set_keeps [] i v p new old = old
  set_keeps (x ∷ l) zero v zero new old = new
  set_keeps (x ∷ l) zero v (suc p) new old = old
  set_keeps (x ∷ l) (suc i) v zero new old = old
  set_keeps (x ∷ l) (suc i) v (suc p) new old = set_keeps l i v p new old

  -- ---- a row with 1 at each number of a list
  pub marked-keeps : (base : ℕ) (l d : List ℕ) (p : ℕ) → P 1 → P (get_or d p 0) → P (get_or (marked base l d) p 0)
  unfolding marked
  marked-keeps base [] d p new old = old
  marked-keeps base (x ∷ l) d p new old = marked-keeps base l (set d (base + x) 1) p new (set_keeps d (base + x) 1 p new old)

pub length_marked : (base : ℕ) (l d : List ℕ) → length (marked base l d) ≡ length d
unfolding marked
length_marked base [] d = refl
length_marked base (x ∷ l) d = length_marked base l (set d (base + x) 1) ∙ length-set d (base + x) 1

-- places that the list's numbers do not lead to are as they were
pub marked_other : (base low b : ℕ) (l d : List ℕ) (p : ℕ) → rising low b l ≡ true → ((x : ℕ) → x < b → p ≡ base + x → ⊥) → get_or (marked base l d) p 0 ≡ get_or d p 0
unfolding marked
marked_other base low b [] d p r n = refl
marked_other base low b (x ∷ l) d p r n =
    marked_other base (x + 1) b l (set d (base + x) 1) p (tail_rises low b x l r) n
    ∙ get_or-set_other d (base + x) p 1 0 (n x (head_high low b x l r))

-- ---- a list filled up with zeros

module _ (w : ℕ) (l : List ℕ) where
  pub length-filled : length l ≤ w → length (filled w l) ≡ w
  unfolding filled
  length-filled h = simp (length-append, length-replicate) (omega arith)

  -- the list is read back
  pub filled_back : (n : ℕ) → length l ≡ n → take n (filled w l) ≡ l
  unfolding filled
  filled_back n e = take_at l (replicate (w - length l) 0) n e

  pub filled_in : (i : ℕ) → i < length l → get_or (filled w l) i 0 ≡ get_or l i 0
  unfolding filled
  filled_in i h = get_or-append l (replicate (w - length l) 0) 0 i h

  pub filled_beyond : (i : ℕ) → length l ≤ i → get_or (filled w l) i 0 ≡ 0
  unfolding filled
  filled_beyond i h =
      let e : i ≡ length l + (i - length l) = omega arith in
      ap (λ (j : ℕ). get_or (l ++ replicate (w - length l) 0) j 0) e ∙ get_or-append-add l (replicate (w - length l) 0) (i - length l) 0 ∙ zeros (w - length l) (i - length l)

  pub filled_keeps : (P : ℕ → Type 0) → P 0 → ((i : ℕ) → i < length l → P (get_or l i 0)) → (i : ℕ) → P (get_or (filled w l) i 0)
  filled_keeps P z each i = go (ltb i (length l)) refl
    where
      go : (b : Bool) → ltb i (length l) ≡ b → P (get_or (filled w l) i 0)
      go true e = let h = ltb-true i (length l) e in subst P (sym (filled_in i h)) (each i h)
      go false e = subst P (sym (filled_beyond i (ltb-false i (length l) e))) z

-- ---- a stretch put into a list

-- where i lies, seen from the n places from a on
pub data Spot (a n i : ℕ) : Type 0 where
  before : i < a → Spot a n i
  inside : (j : ℕ) → j < n → i ≡ a + j → Spot a n i
  after : a + n ≤ i → Spot a n i

pub spot : (a n i : ℕ) → Spot a n i
spot a n i = go (ltb i a) refl (ltb i (a + n)) refl
  where
    go : (x : Bool) → ltb i a ≡ x → (y : Bool) → ltb i (a + n) ≡ y → Spot a n i
    go true e y q = before (ltb-true i a e)
    go false e true q = let h = ltb-false i a e in let k = ltb-true i (a + n) q in inside (i - a) (omega arith) (omega arith)
    go false e false q = after (ltb-false i (a + n) q)

module _ (l : List ℕ) (a : ℕ) (x : List ℕ) (fits : a + length x ≤ length l) where
  front : length (take a l) ≡ a
  front = length-take-le a l (omega arith)

  pub length-put : length (put l a x) ≡ length l
  unfolding put
  length-put = simp (length-append, length-drop, front) (omega arith)

  pub put-before : (i : ℕ) → i < a → get_or (put l a x) i 0 ≡ get_or l i 0
  unfolding put
  put-before i h = get_or-append (take a l) (x ++ drop (a + length x) l) 0 i (omega (arith, front)) ∙ get_or-take a l i 0 h

  pub put_inside : (j : ℕ) → j < length x → get_or (put l a x) (a + j) 0 ≡ get_or x j 0
  unfolding put
  put_inside j h =
      let rest = x ++ drop (a + length x) l in
      ap (λ (n : ℕ). get_or (take a l ++ rest) (n + j) 0) (sym front) ∙ get_or-append-add (take a l) rest j 0 ∙ get_or-append x (drop (a + length x) l) 0 j h

  pub put-after : (i : ℕ) → a + length x ≤ i → get_or (put l a x) i 0 ≡ get_or l i 0
  unfolding put
  put-after i h =
      let rest = x ++ drop (a + length x) l in
      let k = i - (a + length x) in
      let e : i ≡ length (take a l) + (length x + k) = omega (arith, front) in
      ap (λ (n : ℕ). get_or (take a l ++ rest) n 0) e
      ∙ get_or-append-add (take a l) rest (length x + k) 0
      ∙ get_or-append-add x (drop (a + length x) l) k 0
      ∙ get_or-drop (a + length x) l k 0
      ∙ ap (λ (n : ℕ). get_or l n 0) (omega arith)

-- what holds between the elements of two lists, and between those of two stretches, holds after these are put into those at one place
pub put_both : (R : ℕ → ℕ → Type 0) (l m : List ℕ) (a : ℕ) (x y : List ℕ) → a + length x ≤ length l → length m ≡ length l → length y ≡ length x
    → ((i : ℕ) → R (get_or l i 0) (get_or m i 0)) → ((j : ℕ) → j < length x → R (get_or x j 0) (get_or y j 0)) → (i : ℕ) → R (get_or (put l a x) i 0) (get_or (put m a y) i 0)
put_both R l m a x y fits lm xy old new i = go (spot a (length x) i)
  where
    fits' : a + length y ≤ length m
    fits' = omega arith

    go : Spot a (length x) i → R (get_or (put l a x) i 0) (get_or (put m a y) i 0)
    go (before h) = subst₂ R (sym (put-before l a x fits i h)) (sym (put-before m a y fits' i h)) (old i)
    go (inside j h e) = rw e (subst₂ R (sym (put_inside l a x fits j h)) (sym (put_inside m a y fits' j (omega arith))) (new j h))
    go (after h) = subst₂ R (sym (put-after l a x fits i h)) (sym (put-after m a y fits' i (omega arith))) (old i)
