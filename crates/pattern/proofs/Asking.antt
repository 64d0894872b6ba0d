-- What a chain `any` over the numbers below a bound answers, where its test tells whether a statement holds. Assumes
-- nothing.
use Prim.Native.Nat.{ℕ, ◌<◌}
use mathlib.Core.Path.{◌≡◌, refl}
use mathlib.Core.Bool.{Bool, true, false}
use Rattle.walks.specs.Says.{Says}
use Rattle.walks.proofs.Says.{says_yes, says_no, says_not}

pub any_says : (n : ℕ) (Q : ℕ → Type 0) (r : Bool) → (r ≡ true → (k : ℕ) × (k < n) × Says true (Q k)) → (r ≡ false → (k : ℕ) → k < n → Says false (Q k))
    → Says r ((k : ℕ) × (k < n) × Q k)
any_says n Q true some none = let h = some refl in says_yes (h.0, h.1, h.2.sound refl)
any_says n Q false some none = says_no (λ h. says_not (none refl h.0 h.1) refl h.2)
