-- What the readers of the records cite: an answer taken apart, and what `all` answers.
-- Assumes nothing.
use mathlib.Core.Path.{◌≡◌, refl, ap, ap₂, ◌∙◌, subst}
use mathlib.Core.Bool.{Bool, true, false, ◌&&◌}
use mathlib.Core.List.{List, [], ◌∷◌, ◌++◌}
use Prim.Native.Nat.{ℕ, zero, suc, ◌+◌}
use native.Mathlib.Omega.{arith}
use Rattle.std.proofs.Common.{Result, Ok, Err}
use Rattle.std.specs.List.{list_all, range_with_len}
use Rattle.std.proofs.lemmas.List.Recursion.{and_push}
use Rattle.walks.specs.Below.{every, all_below}
use Rattle.records.specs.Answer.{Answers, AnswerSays}
use Rattle.records.specs.declared.Misplaced.{Misplaced}

-- an answer, at the arm that it leads to
pub good : {P : Type 0} {e p : ℕ} {r : Result ℕ Misplaced} {n : ℕ} → Answers P e p r → r ≡ Ok n → P × (n ≡ e)
good {P} {e} {p} a q = subst (AnswerSays P e p) q a.says

pub bad : {P : Type 0} {e p : ℕ} {r : Result ℕ Misplaced} {x : Misplaced} → Answers P e p r → r ≡ Err x → (P → ⊥) × (x.place ≡ p)
bad {P} {e} {p} a q = subst (AnswerSays P e p) q a.says

-- what `all` answers over a list
pub every_is : (p : ℕ → Bool) (l : List ℕ) → list_all p l ≡ every p l
unfolding every
every_is p [] = refl
every_is p (x ∷ l) = ap (λ (b : Bool). p x && b) (every_is p l)

-- and over the numbers below a bound
range_more : (a n : ℕ) → range_with_len a (suc n) ≡ range_with_len a n ++ (a + n) ∷ []
range_more a zero = let z : a ≡ a + 0 = omega arith in ap (λ (k : ℕ). k ∷ []) z
range_more a (suc n) =
    let z : a + 1 + n ≡ a + suc n = omega arith in
    ap (λ (l : List ℕ). a ∷ l) (range_more (a + 1) n ∙ ap (λ (k : ℕ). range_with_len (a + 1) n ++ k ∷ []) z)

and_swap : (a b : Bool) → (a && b) ≡ (b && a)
and_swap true true = refl
and_swap true false = refl
and_swap false true = refl
and_swap false false = refl

pub below_is : (p : ℕ → Bool) (n : ℕ) → list_all p (range_with_len 0 n) ≡ all_below n p
unfolding all_below
below_is p zero = refl
below_is p (suc n) =
    let z : 0 + n ≡ n = omega arith in
    ap (list_all p) (range_more 0 n)
    ∙ and_push (list_all p) p refl (λ _ _. refl) (range_with_len 0 n) (0 + n)
    ∙ ap₂ ◌&&◌ (below_is p n) (ap p z)
    ∙ and_swap (all_below n p) (p n)
