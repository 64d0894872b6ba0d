-- Of a list of checks one is the first to speak, with one number beside it; and it does not speak where none does. Assumes nothing.
use Prim.Native.Nat.{ℕ}
use mathlib.Core.Path.{◌≡◌, refl, sym, ◌∙◌, subst}
use mathlib.Core.List.{List}
use native.Mathlib.Omega.{arith}
use Rattle.walks.proofs.Few.{few_or_many}
use Rattle.rack.specs.Refusal.{Own, Check, work-room, layout, cycle, pattern-count, pattern-cap, two-join, final-left, product-count, system-cap, own}
use Rattle.rack.specs.Refusal.{pattern_most, product_most, Question, OfCase, Speaks, Silent, speaks, rests, also, Refuses, Accepts}
use Rattle.rack.specs.declared.Case.{Case}
use Rattle.rack.proofs.OneReading.{one_case, one_place, reads_or_breaks}

-- a statement and its opposite about the one case that a file reads as
pub against : {f : List ℕ} {P Q : Case → Type 0} → ((c : Case) → P c → Q c → ⊥) → OfCase f P → OfCase f Q → ⊥
against {f} {P} {Q} ban x y = ban x.case x.is (subst Q (one_case y.reads x.reads) y.is)

-- what one_refusal asks of a call's own checks: none both speaks and rests, and the number beside each is one
pub record Apart (Says : Own → ℕ → Type 0) (Rests : Own → Type 0) : Type 0 where
  pub not_both : {k : Own} {m : ℕ} → Says k m → Rests k → ⊥
  pub one_beside : {k : Own} {m n : ℕ} → Says k m → Says k n → m ≡ n

module _ (q : Question) (Says : Own → ℕ → Type 0) (Rests : Own → Type 0) (apart : Apart Says Rests) where
  -- a check does not both speak and rest
  speaks_or_rests : (k : Check) (m : ℕ) → Speaks q Says k m → Silent q Rests k → ⊥
  speaks_or_rests work-room m x y = omega (arith, x.0, y)
  speaks_or_rests layout m x y = reads_or_breaks y.reads x
  speaks_or_rests cycle m x y = against (λ c a b. b a) x.0 y
  speaks_or_rests pattern-count m x y = against (λ c a b. few_or_many pattern_most _ b a) x.0 y
  speaks_or_rests pattern-cap m x y = against (λ c a b. b a) x.0 y
  speaks_or_rests two-join m x y = against (λ c a b. b a) x.0 y
  speaks_or_rests final-left m x y = against (λ c a b. b a) x.0 y
  speaks_or_rests product-count m x y = against (λ c a b. few_or_many product_most _ b a) x.0 y
  speaks_or_rests system-cap m x y = against (λ c a b. b a) x.0 y
  speaks_or_rests (own k) m x y = apart.not_both x y

  -- the number beside a refusal is one
  beside_one : (k : Check) (m n : ℕ) → Speaks q Says k m → Speaks q Says k n → m ≡ n
  beside_one work-room m n x y = x.1 ∙ sym y.1
  beside_one layout m n x y = one_place x y
  beside_one cycle m n x y = x.1 ∙ sym y.1
  beside_one pattern-count m n x y = x.1 ∙ sym y.1
  beside_one pattern-cap m n x y = x.1 ∙ sym y.1
  beside_one two-join m n x y = x.1 ∙ sym y.1
  beside_one final-left m n x y = x.1 ∙ sym y.1
  beside_one product-count m n x y = x.1 ∙ sym y.1
  beside_one system-cap m n x y = x.1 ∙ sym y.1
  beside_one (own k) m n x y = apart.one_beside x y

  -- two refusals of one call are the same
  pub one_refusal : (ks : List Check) (n m n' m' : ℕ) → Refuses q Says Rests ks n m → Refuses q Says Rests ks n' m' → (n ≡ n') × (m ≡ m')
  one_refusal ks n m n' m' (speaks {k} x) (speaks y) = (refl, beside_one k m m' x y)
  one_refusal ks n m n' m' (speaks {k} x) (rests y v) = absurd (speaks_or_rests k m x y)
  one_refusal ks n m n' m' (rests x u) (speaks {k} y) = absurd (speaks_or_rests k m' y x)
  one_refusal ks n m n' m' (rests {ks = ls} x u) (rests y v) = one_refusal ls n m n' m' u v

  -- a call does not both refuse and accept
  pub refuses_or_accepts : (ks : List Check) (n m : ℕ) → Refuses q Says Rests ks n m → Accepts q Rests ks → ⊥
  refuses_or_accepts ks n m (speaks {k} x) (also y v) = speaks_or_rests k m x y
  refuses_or_accepts ks n m (rests {ks = ls} x u) (also y v) = refuses_or_accepts ls n m u v
