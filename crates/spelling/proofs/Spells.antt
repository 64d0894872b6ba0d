-- Bytes that stand in a file: what a stretch of it spells, piece by piece.
-- Assumes nothing.
use mathlib.Core.Path.{◌≡◌, refl, sym, ap, ◌∙◌, subst}
use mathlib.Core.List.{List, [], ◌∷◌, ◌++◌, append_assoc, append-nil}
use Prim.Native.Nat.{ℕ, ◌+◌, ◌≤◌, ◌<◌}
use native.Mathlib.Omega.{arith}
use native.Mathlib.Numerals.{add-one}
use lib.ListN.{length, get_or, take}
use lib.Seq.{take-suc, take-add}
use Rattle.rack.specs.Bytes.{byte, part, filled, list_at, list_end, ListIs}
use Rattle.rack.specs.Writing.{counted}
use Rattle.rack.proofs.WellFormedLists.{length_part, filled_back}

-- one element more
pub take_more : (s : List ℕ) (i : ℕ) → i < length s → take i s ++ (get_or s i 0 ∷ []) ≡ take (i + 1) s
take_more s i h = sym (ap (λ (k : ℕ). take k s) (add-one i) ∙ take-suc s i 0 h)

-- l stands in f from a up to b
pub record Spells (f : List ℕ) (a : ℕ) (l : List ℕ) (b : ℕ) : Type 0 where
  pub is : take a f ++ l ≡ take b f

pub then : {f : List ℕ} {a b e : ℕ} {l m : List ℕ} → Spells f a l b → Spells f b m e → Spells f a (l ++ m) e
then {f} {a} {b} {e} {l} {m} s t = record { is = sym (append_assoc (take a f) l m) ∙ ap (λ (x : List ℕ). x ++ m) s.is ∙ t.is }

pub spells_as : {f : List ℕ} {a b : ℕ} {l m : List ℕ} → l ≡ m → Spells f a l b → Spells f a m b
spells_as {f} {a} {b} e s = subst (λ (x : List ℕ). Spells f a x b) e s

pub nothing : (f : List ℕ) (a b : ℕ) → a ≡ b → Spells f a [] b
nothing f a b e = record { is = append-nil (take a f) ∙ ap (λ (k : ℕ). take k f) e }

pub one : (f : List ℕ) (a b x : ℕ) → a + 1 ≡ b → b ≤ length f → byte f a ≡ x → Spells f a (x ∷ []) b
one f a b x q h e =
    record {
      is = ap (λ (x : ℕ). take a f ++ (x ∷ [])) (sym e) ∙ take_more f a (omega arith) ∙ ap (λ (k : ℕ). take k f) q;
    }

pub two : (f : List ℕ) (a b e x y : ℕ) → a + 1 ≡ b → b + 1 ≡ e → e ≤ length f → byte f a ≡ x → byte f b ≡ y → Spells f a (x ∷ y ∷ []) e
two f a b e x y q r h u v = then (one f a b x q (omega arith) u) (one f b e y r h v)

-- a stretch spells itself
pub stretch : (f : List ℕ) (a n : ℕ) → Spells f a (part f a n) (a + n)
stretch f a n = record { is = sym (take-add a n f) }

-- a counted list
pub list_spells : (b : ℕ) (f : List ℕ) (a : ℕ) → ListIs b f a → Spells f a (counted (list_at f a)) (list_end f a)
list_spells b f a w =
    let n : length (list_at f a) ≡ byte f a = length_part f (a + 1) (byte f a) w.ends in
    then (one f a (a + 1) (length (list_at f a)) refl (omega (arith, w.starts)) (sym n)) (stretch f (a + 1) (byte f a))

-- the n bytes from a on, kept in a list that is filled up with zeros
pub kept_spells : (w : ℕ) (f : List ℕ) (a n : ℕ) → a + n ≤ length f → Spells f a (take n (filled w (part f a n))) (a + n)
kept_spells w f a n h = spells_as (sym (filled_back w (part f a n) n (length_part f a n h))) (stretch f a n)
