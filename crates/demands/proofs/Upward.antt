-- Going up in the order of runs comes to an end within a limit: what holds of a run whenever it holds of all later ones within the limit, holds
-- of every run within it. Assumes nothing.
use Prim.Native.Nat.{ℕ, zero, suc, ◌+◌, ◌≤◌, ◌<◌}
use mathlib.Core.Path.{◌≡◌, refl, sym, ap, ◌∙◌, subst}
use mathlib.Core.List.{List, [], ◌∷◌}
use mathlib.Core.Logic.{⊎_elim}
use native.Mathlib.Omega.{arith}
use lib.ListN.{length}
use lib.Dec.{T}
use Rattle.walks.specs.Order.{smaller, before}
use Rattle.walks.proofs.Order.{smaller_cases, before_cases, no_smaller}
use Rattle.demands.specs.Listings.{Low}

-- ---- runs of one length

module _ (b : ℕ) where
  -- P holds of every run of n numbers below b
  abbrev Long : (List ℕ → Type 0) → ℕ → Type 0
  Long P n = (u : List ℕ) → length u ≡ n → Low b u → P u

  -- P holds of such a run whenever it holds of the larger ones
  abbrev Sinks : ℕ → (List ℕ → Type 0) → Type 0
  Sinks n P = (r : List ℕ) → length r ≡ n → Low b r → ((s : List ℕ) → length s ≡ n → Low b s → T (smaller r s) → P s) → P r

  -- one number more: first along the first number, downwards from b, then along the rest
  one_longer : (n : ℕ) → ((P : List ℕ → Type 0) → Sinks n P → Long P n) → (P : List ℕ → Type 0) → Sinks (suc n) P → (m d : ℕ) → b ≤ d + m → d < b
      → (u : List ℕ) → length u ≡ n → Low b u → P (d ∷ u)
  one_longer n along P sinks zero d h l = absurd (omega arith)
  one_longer n along P sinks (suc m) d h l =
      along (λ u. P (d ∷ u)) (λ u q w rest. sinks (d ∷ u) (ap suc q) (l, w) (larger u rest (λ e x. one_longer n along P sinks m e (omega arith))))
    where
      larger : (u : List ℕ) → ((s : List ℕ) → length s ≡ n → Low b s → T (smaller u s) → P (d ∷ s)) → ((e : ℕ) → d < e → e < b → (s : List ℕ) → length s ≡ n → Low b s → P (e ∷ s))
          → (s : List ℕ) → length s ≡ suc n → Low b s → T (smaller (d ∷ u) s) → P s
      larger u rest more [] z v t = absurd (omega arith)
      larger u rest more (e ∷ s) z v t =
          ⊎_elim (λ (x : d < e). more e x v.0 s (omega arith) v.1)
          (λ (x : (d ≡ e) × T (smaller u s)). subst (λ (y : ℕ). P (y ∷ s)) x.0 (rest s (omega arith) v.1 x.1))
          (smaller_cases d e u s t)

  larger_induction : (n : ℕ) (P : List ℕ → Type 0) → Sinks n P → Long P n
  larger_induction zero P sinks [] e w = sinks [] e w (λ s q v t. absurd (no_smaller s t))
  larger_induction zero P sinks (a ∷ r) e w = absurd (omega arith)
  larger_induction (suc n) P sinks [] e w = absurd (omega arith)
  larger_induction (suc n) P sinks (a ∷ r) e w = one_longer n (larger_induction n) P sinks b a (omega arith) w.0 r (omega arith) w.1

  -- ---- runs of every length up to a limit

  module _ (limit : ℕ) (P : List ℕ → Type 0) (sinks : (r : List ℕ) → length r ≤ limit → Low b r → ((s : List ℕ) → length s ≤ limit → Low b s → T (before r s) → P s) → P r) where
    of_length : (m n : ℕ) → limit < n + m → n ≤ limit → Long P n
    of_length zero n h l = absurd (omega arith)
    of_length (suc m) n h l =
        larger_induction n P
        (λ r q w rest.
        sinks r (omega arith) w
        (λ s k v t.
        ⊎_elim (λ (x : length r < length s). of_length m (length s) (omega arith) k s refl v)
        (λ (x : (length r ≡ length s) × T (smaller r s)). rest s (sym x.0 ∙ q) v x.1)
        (before_cases r s t)))

    pub upward_induction : (r : List ℕ) → length r ≤ limit → Low b r → P r
    upward_induction r l w = of_length (suc limit) (length r) (omega arith) l r refl w
