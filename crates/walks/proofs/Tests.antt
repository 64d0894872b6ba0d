-- What a passed test tells: the laws of Bools and of the tests of specs/Below.antt.
-- Assumes nothing.
use Prim.Native.Nat.{ℕ, zero, suc, ◌+◌, ◌<◌}
use native.Mathlib.Numerals.{add-one}
use mathlib.Core.Path.{◌≡◌, refl, sym, ap, ap₂, ◌∙◌, subst}
use mathlib.Core.Bool.{Bool, true, false, ◌&&◌, ◌||◌, not, beq, true≢false}
use mathlib.Core.List.{List, [], ◌∷◌}
use mathlib.Core.Logic.{◌⊎◌, inl, inr}
use native.Mathlib.Nat.{not-suc-le-zero}
use native.Mathlib.Omega.{arith}
use lib.ListN.{get_or}
use lib.Dec.{T, eqb, eqb→eq}
use borrow.Author.Tests.{eq-eqb, eqb-true, eqb-false}
use Rattle.walks.specs.Below.{implies, all_below, any_below, same}

pub and_left : (a b : Bool) → T (a && b) → T a
and_left true b t = tt
and_left false b t = t

pub and_right : (a b : Bool) → T (a && b) → T b
and_right true b t = t
and_right false b t = absurd t

pub and_both : (a b : Bool) → T a → T b → T (a && b)
and_both true b s t = t
and_both false b s t = s

pub or_left : (a b : Bool) → T a → T (a || b)
or_left true b t = tt
or_left false b t = absurd t

pub or_right : (a b : Bool) → T b → T (a || b)
or_right true b t = tt
or_right false b t = t

pub or_cases : (a b : Bool) → T (a || b) → T a ⊎ T b
or_cases true b t = inl tt
or_cases false b t = inr t

pub true_or_not : (a : Bool) → T a ⊎ T (not a)
true_or_not true = inl tt
true_or_not false = inr tt

pub given : (a b : Bool) → T (implies a b) → T a → T b
given true b h t = h
given false b h t = absurd t

pub is_true : (b : Bool) → T b → b ≡ true
is_true true t = refl
is_true false t = absurd t

pub of_true : (b : Bool) → b ≡ true → T b
of_true b e = subst T (sym e) tt

-- a test passes at each number below n: it passes at one of them
pub below_at : (n : ℕ) (f : ℕ → Bool) → T (all_below n f) → (k : ℕ) → k < n → T (f k)
unfolding all_below
below_at zero f t k h = absurd (not-suc-le-zero h)
below_at (suc n) f t k h = go (below_at n f (and_right (f n) (all_below n f) t) k) (eqb k n) refl
  where
    go : (k < n → T (f k)) → (b : Bool) → eqb k n ≡ b → T (f k)
    go rec true e = subst (λ (j : ℕ). T (f j)) (sym (eqb-true k n e)) (and_left (f n) (all_below n f) t)
    go rec false e = let ne : k ≡ n → ⊥ = eqb-false k n e in rec (omega (arith, ne))

eqb_self : (x : ℕ) → eqb x x ≡ true
eqb_self x = eq-eqb x x refl

pub same→eq : (a b : List ℕ) → T (same a b) → a ≡ b
unfolding same
same→eq [] [] t = refl
same→eq [] (y ∷ b) t = absurd t
same→eq (x ∷ a) [] t = absurd t
same→eq (x ∷ a) (y ∷ b) t = ap₂ ◌∷◌ (eqb→eq x y (and_left (eqb x y) (same a b) t)) (same→eq a b (and_right (eqb x y) (same a b) t))

same_self : (a : List ℕ) → T (same a a)
unfolding same
same_self [] = tt
same_self (x ∷ a) = and_both (eqb x x) (same a a) (of_true _ (eqb_self x)) (same_self a)

pub eq→same : (a b : List ℕ) → a ≡ b → T (same a b)
eq→same a b e = subst (λ (l : List ℕ). T (same a l)) e (same_self a)

pub beq→eq : (a b : Bool) → T (beq a b) → a ≡ b
beq→eq true true t = refl
beq→eq true false t = absurd t
beq→eq false true t = absurd t
beq→eq false false t = refl

beq_self : (x : Bool) → T (beq x x)
beq_self true = tt
beq_self false = tt

pub eq→beq : (a b : Bool) → a ≡ b → T (beq a b)
eq→beq a b e = subst (λ (x : Bool). T (beq a x)) e (beq_self a)

-- several tests at once, and the one at k
abbrev pub all_of : List Bool → Bool
all_of [] = true
all_of (b ∷ l) = b && all_of l

pub part : (l : List Bool) → T (all_of l) → (k : ℕ) → T (get_or l k true)
part [] t k = tt
part (b ∷ l) t zero = and_left b (all_of l) t
part (b ∷ l) t (suc k) = part l (and_right b (all_of l) t) k

-- the tests over the numbers below a bound, as loops meet them
pub below_none : (f : ℕ → Bool) → all_below 0 f ≡ true
unfolding all_below
below_none f = refl

pub below_more : (n : ℕ) (f : ℕ → Bool) → all_below n f ≡ true → f n ≡ true → all_below (n + 1) f ≡ true
unfolding all_below
below_more n f a e = rw (add-one, e) a

pub below_fails : (n : ℕ) (f : ℕ → Bool) (k : ℕ) → k < n → f k ≡ false → all_below n f ≡ false
below_fails n f k h e = go (all_below n f) refl
  where
    go : (b : Bool) → all_below n f ≡ b → all_below n f ≡ false
    go false q = q
    go true q = absurd (subst T e (below_at n f (of_true (all_below n f) q) k h))

pub any_none : (f : ℕ → Bool) → any_below 0 f ≡ false
unfolding any_below
any_none f = refl

pub any_more : (n : ℕ) (f : ℕ → Bool) → any_below n f ≡ false → f n ≡ false → any_below (n + 1) f ≡ false
unfolding any_below
any_more n f a e = rw (add-one, e) a

pub any_found : (n : ℕ) (f : ℕ → Bool) (k : ℕ) → k < n → f k ≡ true → any_below n f ≡ true
unfolding any_below
any_found zero f k h e = absurd (not-suc-le-zero h)
any_found (suc n) f k h e = go (f n) refl (eqb k n) refl (any_found n f k)
  where
    go : (x : Bool) → f n ≡ x → (y : Bool) → eqb k n ≡ y → (k < n → f k ≡ true → any_below n f ≡ true) → (f n || any_below n f) ≡ true
    go true q y z rec = rw q
    go false q true z rec = absurd (true≢false (sym e ∙ ap f (eqb-true k n z) ∙ q))
    go false q false z rec = let ne : k ≡ n → ⊥ = eqb-false k n z in rw q (rec (omega (arith, ne)) e)
