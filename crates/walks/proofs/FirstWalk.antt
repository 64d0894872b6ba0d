-- The whole list of a breadth-first search: none of the walks that lead to a state comes before the one that met it, so the first state of a
-- kind was met by the first walk of that kind. Assumes nothing.
use Prim.Native.Nat.{ℕ, ◌+◌, ◌≤◌, ◌<◌}
use mathlib.Core.Path.{◌≡◌, sym, ap, ◌∙◌, subst}
use mathlib.Core.Bool.{Bool}
use mathlib.Core.List.{List, [], ◌∷◌, ◌++◌, append_assoc, append-nil}
use mathlib.Core.Logic.{◌⊎◌, inl, inr, ⊎_elim}
use native.Mathlib.Omega.{arith}
use lib.Dec.{T}
use Rattle.walks.specs.Walk.{walks, ends}
use Rattle.walks.specs.Order.{before}
use Rattle.walks.specs.Queue.{Met, Queue, First, Never}
use Rattle.walks.proofs.Closed.{ends_snoc, walks_cons}
use Rattle.walks.proofs.Grow.{split}
use Rattle.walks.proofs.Order.{before_trans, before_not_self, before_last, before_last_move, empty_before}

-- v comes no later than w
abbrev NoLater : List ℕ → List ℕ → Type 0
NoLater v w = (v ≡ w) ⊎ T (before v w)

module _ {A : Type 0} (can : A → ℕ → Bool) (to : A → ℕ → A) (start : A) where
  -- the state where the walk w ends is in the list, and the walk that met it comes no later
  pub record Reached (row : ℕ → A) (way : ℕ → List ℕ) (n : ℕ) (w : List ℕ) : Type 0 where
    pub at : ℕ
    pub below : at < n
    pub is : row at ≡ ends can to start w
    pub no_later : NoLater (way at) w

module _ {A : Type 0} {can : A → ℕ → Bool} {to : A → ℕ → A} {start : A} where
  module _ {row : ℕ → A} {way : ℕ → List ℕ} {n : ℕ} (q : Queue can to start row way n n 0) where
    -- the move s of row j leads to row k: the walk that met row k goes no later than one to row j with that move
    module _ (w : List ℕ) (s j k : ℕ) (jl : j < n) (r : NoLater (way j) w) (g : T (can (row j) s)) (e : to (row j) s ≡ row k) (m : Met can to row way n 0 k) where
      by_other_row : m.from < j → T (before (way m.from ++ (m.by ∷ [])) (w ++ (s ∷ [])))
      by_other_row x =
          let b = q.sorted m.from j x jl in
          before_last (way m.from) w m.by s
          (⊎_elim (λ (z : way j ≡ w). subst (λ (l : List ℕ). T (before (way m.from) l)) z b) (λ (z : T (before (way j) w)). before_trans (way m.from) (way j) w b z) r)

      by_same_row : m.from ≡ j → m.by ≤ s → NoLater (way m.from ++ (m.by ∷ [])) (w ++ (s ∷ []))
      by_same_row x y =
          subst (λ (f : ℕ). NoLater (way f ++ (m.by ∷ [])) (w ++ (s ∷ []))) (sym x)
          (⊎_elim
          (λ (z : way j ≡ w).
          subst (λ (l : List ℕ). NoLater (l ++ (m.by ∷ [])) (w ++ (s ∷ []))) (sym z)
          (⊎_elim (λ (u : m.by < s). inr (before_last_move w m.by s u)) (λ (u : s ≤ m.by). let v : m.by ≡ s = omega arith in inl (ap (λ (b : ℕ). w ++ (b ∷ [])) v)) (split s m.by)))
          (λ (z : T (before (way j) w)). inr (before_last (way j) w m.by s z))
          r)

      met_no_later : NoLater (way k) (w ++ (s ∷ []))
      met_no_later =
          subst (λ (l : List ℕ). NoLater l (w ++ (s ∷ []))) (sym m.way_is)
          (⊎_elim
          (λ (x : j < m.from). absurd (m.first j s (inl x) g e))
          (λ (x : m.from ≤ j).
          ⊎_elim (λ (y : m.from < j). inr (by_other_row y))
          (λ (y : j ≤ m.from).
          let z : m.from ≡ j = omega arith in
          ⊎_elim (λ (u : s < m.by). absurd (m.first j s (inr (sym z, u)) g e)) (λ (u : m.by ≤ s). by_same_row z u) (split m.by s))
          (split j m.from))
          (split m.from j))

    one_more : (w : List ℕ) (s : ℕ) → Reached can to start row way n w → T (can (ends can to start w) s) → Reached can to start row way n (w ++ (s ∷ []))
    one_more w s r f =
        let g : T (can (row r.at) s) = subst (λ (a : A). T (can a s)) (sym r.is) f in
        let h = q.shut r.at s (inl r.below) g in
        record {
          at = h.at;
          below = h.below;
          is = h.is ∙ ap (λ (a : A). to a s) r.is ∙ sym (ends_snoc can to w start s);
          no_later =
              ⊎_elim (λ (l : h.at < 1). inr (first_row h.at (omega arith)))
              (λ (l : 1 ≤ h.at). met_no_later w s r.at h.at r.below r.no_later g (sym h.is) (q.met h.at l h.below))
              (split 1 h.at);
        }
      where
        first_row : (k : ℕ) → k ≡ 0 → T (before (way k) (w ++ (s ∷ [])))
        first_row k z = subst (λ (l : List ℕ). T (before l (w ++ (s ∷ [])))) (sym (ap way z ∙ q.way_none)) (empty_before w s)

    reached_on : (v w : List ℕ) → Reached can to start row way n w → T (walks can to (ends can to start w) v) → Reached can to start row way n (w ++ v)
    reached_on [] w r u = subst (Reached can to start row way n) (sym (append-nil w)) r
    reached_on (s ∷ v) w r u =
        let (f, u') = walks_cons can to (ends can to start w) s v u in
        subst (Reached can to start row way n) (append_assoc w (s ∷ []) v)
        (reached_on v (w ++ (s ∷ [])) (one_more w s r f) (subst (λ (a : A). T (walks can to a v)) (sym (ends_snoc can to w start s)) u'))

    -- every walk ends in a state of the list, and the walk that met the state comes no later
    pub reached : (w : List ℕ) → T (walks can to start w) → Reached can to start row way n w
    unfolding ends
    reached w u = reached_on w [] (record { at = 0; below = q.some; is = q.starts; no_later = inl q.way_none }) u

    -- THE FIRST WALK: the first state of a kind in the list was met by the first walk of that kind
    pub first_met : (S : A → Type 0) (k : ℕ) → k < n → S (row k) → ((j : ℕ) → j < k → S (row j) → ⊥) → First can to S start (way k)
    first_met S k h x none =
        record {
          walked = q.walked k h;
          there = subst S (sym (q.arrives k h)) x;
          first = λ w u y b.
              let r = reached w u in
              let z : S (row r.at) = subst S (sym r.is) y in
              let back : T (before (way r.at) (way k)) = ⊎_elim (λ e. subst (λ (l : List ℕ). T (before l (way k))) (sym e) b) (λ e. before_trans (way r.at) w (way k) e b) r.no_later in
              ⊎_elim (λ (l : r.at < k). none r.at l z)
              (λ (l : k ≤ r.at).
              ⊎_elim (λ (l' : k < r.at). before_not_self (way k) (before_trans (way k) (way r.at) (way k) (q.sorted k r.at l' r.below) back))
              (λ (l' : r.at ≤ k). let e : r.at ≡ k = omega arith in before_not_self (way k) (subst (λ (j : ℕ). T (before (way j) (way k))) e back))
              (split r.at k))
              (split k r.at);
        }

    -- no state of the list is of the kind: no walk is
    pub never_met : (S : A → Type 0) → ((j : ℕ) → j < n → S (row j) → ⊥) → Never can to S start
    never_met S none w u y = let r = reached w u in none r.at r.below (subst S (sym r.is) y)
