-- Laws of a yes or no that tells whether a statement holds. Assumes nothing.
use mathlib.Core.Path.{◌≡◌, refl, sym, ◌∙◌}
use mathlib.Core.Bool.{Bool, true, false, false≢true}
use Rattle.walks.specs.Says.{Says}

pub says_yes : {P : Type 0} → P → Says true P
says_yes p = record { sound = λ _. p; complete = λ _. refl }

pub says_no : {P : Type 0} → (P → ⊥) → Says false P
says_no n = record { sound = λ e. absurd (false≢true e); complete = λ p. absurd (n p) }

pub says_not : {r : Bool} {P : Type 0} → Says r P → r ≡ false → P → ⊥
says_not s e p = false≢true (sym e ∙ s.complete p)

-- of another statement that holds just where this one does
pub says_same : {r : Bool} {P Q : Type 0} → Says r P → (P → Q) → (Q → P) → Says r Q
says_same s to from = record { sound = λ e. to (s.sound e); complete = λ q. s.complete (from q) }
