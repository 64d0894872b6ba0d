-- Records put at the end of a file, one after the other. Assumes nothing.
use mathlib.Core.Path.{◌≡◌, sym, ap, ap₂, ◌∙◌}
use mathlib.Core.List.{List, ◌++◌, append_assoc, append-nil}
use Prim.Native.Nat.{ℕ, ◌+◌, ◌≤◌}
use native.Mathlib.Omega.{arith}
use lib.ListN.{length, length-append}
use Rattle.rack.specs.Writing.{up_to}
use Rattle.spelling.proofs.Repeats.{up_to_snoc}

-- some bytes, and then some more
pub put_then : {file file' : List ℕ} (start l m : List ℕ) → file ≡ start ++ l → file' ≡ file ++ m → file' ≡ start ++ (l ++ m)
put_then start l m e e' = e' ∙ ap (λ (f : List ℕ). f ++ m) e ∙ append_assoc start l m

-- how long a file is then at most
pub put_few : {file' : List ℕ} (file l : List ℕ) (n m : ℕ) → length file ≤ n → file' ≡ file ++ l → length l ≤ m → length file' ≤ n + m
put_few file l n m h e k = omega (arith, ap length e, length-append file l)

-- none yet
pub put_none : (file : List ℕ) (g : ℕ → List ℕ) → file ≡ file ++ up_to 0 g
unfolding up_to
put_none file g = sym (append-nil file)

-- one more
pub put_more : {file file' l : List ℕ} (start : List ℕ) (k : ℕ) (g : ℕ → List ℕ) → file ≡ start ++ up_to k g → file' ≡ file ++ l → l ≡ g k → file' ≡ start ++ up_to (k + 1) g
put_more start k g e e' q = e' ∙ ap₂ ◌++◌ e q ∙ append_assoc start (up_to k g) (g k) ∙ ap (λ (l : List ℕ). start ++ l) (up_to_snoc k g)

-- all
pub put_all : {file : List ℕ} {k n : ℕ} (start : List ℕ) (g : ℕ → List ℕ) → k ≡ n → file ≡ start ++ up_to k g → file ≡ start ++ up_to n g
put_all start g e p = p ∙ ap (λ (k : ℕ). start ++ up_to k g) e
