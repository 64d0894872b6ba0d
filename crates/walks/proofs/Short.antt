-- A shortest walk meets no state twice, so it has fewer moves than there are states. Assumes nothing.
use Prim.Native.Nat.{ℕ, suc, ◌<◌, ◌≤◌}
use mathlib.Core.Path.{◌≡◌, refl, sym, ap, subst}
use mathlib.Core.Bool.{Bool}
use mathlib.Core.List.Memᴰ
use mathlib.Core.List.{List, [], ◌∷◌, Memᴰ}
use mathlib.Core.Logic.{⊎_elim}
use native.Mathlib.Omega.{arith}
use lib.ListN.{length}
use lib.Dec.{T}
use Rattle.walks.specs.Walk.{walks, ends, Reaches}
use Rattle.walks.specs.Few.{Distinct}
use Rattle.walks.proofs.Tests.{and_both}
use Rattle.walks.proofs.Closed.{walks_cons, reaches_self, reaches_more}
use Rattle.walks.proofs.Few.{no_longer}

module _ {A : Type 0} (can : A → ℕ → Bool) (to : A → ℕ → A) where
  -- the states that a walk meets
  trace : A → List ℕ → List A
  trace a [] = a ∷ []
  trace a (t ∷ r) = a ∷ trace (to a t) r

  length_trace : (r : List ℕ) (a : A) → length (trace a r) ≡ suc (length r)
  unfolding trace
  length_trace [] a = refl
  length_trace (t ∷ r) a = ap suc (length_trace r (to a t))

  record Rest (a b : A) (r : List ℕ) : Type 0 where
    rest : List ℕ
    walked : T (walks can to a rest)
    same_end : ends can to a rest ≡ ends can to b r
    no_longer : length rest ≤ length r

  -- from a state that the walk meets, the rest of the walk leads to its end
  rest_from : (r : List ℕ) (a b : A) → T (walks can to b r) → Memᴰ a (trace b r) → Rest a b r
  unfolding trace walks ends
  rest_from [] a b u m = ⊎_elim (λ e. record { rest = []; walked = tt; same_end = e; no_longer = omega arith }) (λ k. absurd (Memᴰ.not-nil k)) (Memᴰ.cases_cons m)
  rest_from (t ∷ r) a b u m =
      ⊎_elim here (λ k. later (rest_from r a (to b t) (walks_cons can to b t r u).1 k)) (Memᴰ.cases_cons m)
    where
      here : a ≡ b → Rest a b (t ∷ r)
      here e =
          record {
            rest = t ∷ r;
            walked = subst (λ (x : A). T (walks can to x (t ∷ r))) (sym e) u;
            same_end = ap (λ (x : A). ends can to x (t ∷ r)) e;
            no_longer = omega arith;
          }

      later : Rest a (to b t) r → Rest a b (t ∷ r)
      later k = record { rest = k.rest; walked = k.walked; same_end = k.same_end; no_longer = omega (arith, k.no_longer) }

  -- no walk with the same end is shorter
  abbrev pub Shortest : A → List ℕ → Type 0
  Shortest a r = (s : List ℕ) → T (walks can to a s) → ends can to a s ≡ ends can to a r → length r ≤ length s

  no_twice : (r : List ℕ) (a : A) → T (walks can to a r) → Shortest a r → Distinct (trace a r)
  unfolding trace walks ends
  no_twice [] a u h = (λ m. Memᴰ.not-nil m, tt)
  no_twice (t ∷ r) a u h =
      let (f, u') = walks_cons can to a t r u in (
        (λ m.
            let k = rest_from r a (to a t) u' m in
            let z : suc (length r) ≤ length k.rest = h k.rest k.walked k.same_end in
            omega (arith, k.no_longer)),
        no_twice r (to a t) u' (λ s w e. let z : suc (length r) ≤ suc (length s) = h (t ∷ s) (and_both (can a t) (walks can to (to a t) s) f w) e in omega arith),
      )

  trace_reached : (r : List ℕ) (a o b : A) → Reaches can to o a → T (walks can to a r) → Memᴰ b (trace a r) → Reaches can to o b
  unfolding trace
  trace_reached [] a o b h u m = ⊎_elim (λ e. subst (Reaches can to o) (sym e) h) (λ k. absurd (Memᴰ.not-nil k)) (Memᴰ.cases_cons m)
  trace_reached (t ∷ r) a o b h u m =
      let (f, u') = walks_cons can to a t r u in
      ⊎_elim (λ e. subst (Reaches can to o) (sym e) h) (trace_reached r (to a t) o b (reaches_more can to o a t h f) u') (Memᴰ.cases_cons m)

  -- a shortest walk has fewer moves than any list that holds every state reached is long
  pub shortest_short : (a : A) (r : List ℕ) → T (walks can to a r) → Shortest a r → (all : List A) → ((b : A) → Reaches can to a b → Memᴰ b all) → length r < length all
  shortest_short a r u h all holds =
      let l = no_longer (trace a r) all (no_twice r a u h) (λ b m. holds b (trace_reached r a a b (reaches_self can to a) u m)) in
      omega (arith, l, length_trace r a)
