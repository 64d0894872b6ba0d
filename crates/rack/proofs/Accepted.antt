-- What holds in a case that the checks on its nets let pass: at most one pattern transition follows, a match is kept by longer runs, and the
-- caps play no part in the meaning. Assumes nothing.
use Prim.Native.Nat.{ℕ, zero, suc, ◌+◌, ◌<◌}
use mathlib.Core.Path.{◌≡◌, refl, sym, subst}
use mathlib.Core.Bool.{Bool, true, false, ◌&&◌}
use mathlib.Core.List.{List, ◌++◌}
use mathlib.Core.Logic.{◌⊎◌, inl, inr, ⊎_elim}
use native.Mathlib.Nat.{add-suc, suc-add}
use native.Mathlib.Omega.{arith}
use lib.Dec.{T, ltb, eqb, ltb→lt}
use borrow.Author.Tests.{ltb-true}
use Rattle.walks.specs.Below.{pick, first_from}
use Rattle.walks.specs.Walk.{ends}
use Rattle.walks.proofs.Tests.{and_right, and_both, of_true, true_or_not}
use Rattle.walks.proofs.Closed.{closed_holds, closed_reached, reaches_self, reaches_more, ends_append, walks_append}
use Rattle.walks.proofs.Order.{Trio, trio, lower, equal, higher}
use Rattle.rack.specs.Net.{firable, within}
use Rattle.rack.specs.Follow.{ProductMarking, pattern_enabled, pattern_fired, pattern_label, joins, follow, final, label_of, start, step}
use Rattle.rack.specs.Reach.{pattern_goes, PatternReaches, product_within, product_goes, ProductReaches}
use Rattle.rack.specs.Run.{fires, runs, end, matches}
use Rattle.rack.specs.Refusal.{PatternOver, TwoJoin, FinalLeft, SystemOver}
use Rattle.rack.specs.declared.Case.{Case}

-- the smallest number at which a test passes is one at which it passes
pub first_hit : (n i : ℕ) (f : ℕ → Bool) → first_from i n f < i + n → T (f (first_from i n f))
unfolding first_from
first_hit zero i f h = absurd (omega arith)
first_hit (suc n) i f h = go (f i) refl (first_hit n (suc i) f) h
  where
    go : (b : Bool) → f i ≡ b → (first_from (suc i) n f < suc i + n → T (f (first_from (suc i) n f))) → pick b i (first_from (suc i) n f) < i + suc n → T (f (pick b i (first_from (suc i) n f)))
    go true e rec h' = of_true (f i) e
    go false e rec h' = rec (omega (arith, add-suc i n, suc-add i n))

module _ (c : Case) where
  -- the pattern stays, or fires a transition of the label that is enabled
  pub follow_cases : (q : List ℕ) (e : ℕ) → (follow c q e ≡ q) ⊎ ((k : ℕ) × T (joins c q e k) × (follow c q e ≡ pattern_fired c q k))
  unfolding follow
  follow_cases q e =
      go (first_from 0 c.links.count (joins c q e)) (first_hit c.links.count 0 (joins c q e)) (ltb (first_from 0 c.links.count (joins c q e)) c.links.count) refl
    where
      go : (k : ℕ) → (k < 0 + c.links.count → T (joins c q e k)) → (b : Bool) → ltb k c.links.count ≡ b
          → (pick b (pattern_fired c q k) q ≡ q) ⊎ ((j : ℕ) × T (joins c q e j) × (pick b (pattern_fired c q k) q ≡ pattern_fired c q j))
      go k hit false z = inl refl
      go k hit true z = inr (k, hit (omega (arith, ltb-true k c.links.count z)), refl)

  -- what joins is enabled
  pub joins-enabled : (q : List ℕ) (e k : ℕ) → T (joins c q e k) → T (pattern_enabled c q k)
  unfolding joins
  joins-enabled q e k t = and_right (eqb (pattern_label c k) e) (pattern_enabled c q k) t

-- "at most one pattern transition can follow", by refusal 6
pub one_follows : (c : Case) → (TwoJoin c → ⊥) → (q : List ℕ) (e j k : ℕ) → PatternReaches c q → T (joins c q e j) → T (joins c q e k) → j ≡ k
one_follows c none q e j k h a b = go (trio j k)
  where
    go : Trio j k → j ≡ k
    go (lower t) = absurd (none (record { at = q; label = e; one = j; other = k; reachable = h; two = ltb→lt j k t; one_joins = a; other_joins = b }))
    go (equal x) = x
    go (higher t) = absurd (none (record { at = q; label = e; one = k; other = j; reachable = h; two = ltb→lt k j t; one_joins = b; other_joins = a }))

-- a pattern whose first tokens are within its cap stays within it
pub pattern_within : (c : Case) → T (within 8 c.pattern.cap c.pattern.first) → (q : List ℕ) → PatternReaches c q → T (within 8 c.pattern.cap q)
unfolding pattern_goes
pattern_within c small q h =
    closed_reached (pattern_goes c) (pattern_fired c) (λ x. T (within 8 c.pattern.cap x))
    (λ x k w f. and_right (pattern_enabled c x k) (within 8 c.pattern.cap (pattern_fired c x k)) f) c.pattern.first q small h

module _ (c : Case) (kept : PatternOver c → ⊥) where
  -- no cap is passed in the pattern, by refusal 5
  pub pattern_capped : (q : List ℕ) (k : ℕ) → PatternReaches c q → T (pattern_enabled c q k) → T (within 8 c.pattern.cap (pattern_fired c q k))
  pattern_capped q k h e =
      ⊎_elim (λ t. t) (λ t. absurd (kept (record { at = q; by = k; reachable = h; enabled = e; over = t }))) (true_or_not (within 8 c.pattern.cap (pattern_fired c q k)))

  -- the pattern's part of a firing is reachable in the pattern alone
  pub followed : (q : List ℕ) (e : ℕ) → PatternReaches c q → PatternReaches c (follow c q e)
  unfolding pattern_goes
  followed q e h = ⊎_elim (λ z. subst (PatternReaches c) (sym z) h) move (follow_cases c q e)
    where
      move : (k : ℕ) × T (joins c q e k) × (follow c q e ≡ pattern_fired c q k) → PatternReaches c (follow c q e)
      move x =
          let n = joins-enabled c q e x.0 x.1 in
          subst (PatternReaches c) (sym x.2)
          (reaches_more (pattern_goes c) (pattern_fired c) c.pattern.first q x.0 h
          (and_both (pattern_enabled c q x.0) (within 8 c.pattern.cap (pattern_fired c q x.0)) n (pattern_capped q x.0 h n)))

  pub pattern_of_run : (r : List ℕ) → T (runs c r) → PatternReaches c (end c r).pattern
  unfolding runs end step start
  pattern_of_run r u =
      closed_holds (fires c) (step c) (λ m. PatternReaches c m.pattern) (λ m t h f. followed m.pattern (label_of c t) h) r (start c) (reaches_self (pattern_goes c) (pattern_fired c) c.pattern.first) u

  -- "final stays final", by refusal 7
  module _ (stays : FinalLeft c → ⊥) where
    pub final_followed : (q : List ℕ) (e : ℕ) → PatternReaches c q → T (final c q) → T (final c (follow c q e))
    final_followed q e h f = ⊎_elim (λ z. subst (λ (x : List ℕ). T (final c x)) (sym z) f) move (follow_cases c q e)
      where
        move : (k : ℕ) × T (joins c q e k) × (follow c q e ≡ pattern_fired c q k) → T (final c (follow c q e))
        move x =
            subst (λ (y : List ℕ). T (final c y)) (sym x.2)
            (⊎_elim (λ t. t)
            (λ t. absurd (stays (record { at = q; by = x.0; reachable = h; was_final = f; enabled = joins-enabled c q e x.0 x.1; not-final = t })))
            (true_or_not (final c (pattern_fired c q x.0))))

    -- a match is kept by every longer run
    pub match_kept : (r s : List ℕ) → T (runs c (r ++ s)) → T (matches c r) → T (matches c (r ++ s))
    unfolding runs end matches step
    match_kept r s u f =
        let (x, y) = walks_append (fires c) (step c) r s (start c) u in
        subst (λ (m : ProductMarking). T (final c m.pattern)) (sym (ends_append (fires c) (step c) r s (start c)))
        (closed_holds (fires c) (step c) (λ m. PatternReaches c m.pattern × T (final c m.pattern))
        (λ m t h g. (followed m.pattern (label_of c t) h.0, final_followed m.pattern (label_of c t) h.0 h.1))
        s (ends (fires c) (step c) (start c) r) (pattern_of_run r x, f) y).1

  -- "The cap plays no part in the meaning of accepted cases, since refusals 5 and 9 show that it is never passed": what runs reach is what
  -- firings within the caps reach
  module _ (small : T (within 8 c.pattern.cap c.pattern.first)) (under : SystemOver c → ⊥) where
    system_within : (m : ProductMarking) (t : ℕ) → ProductReaches c m → T (firable c m.system t) → T (within 16 c.net.cap (step c m t).system)
    system_within m t h f =
        ⊎_elim (λ y. y) (λ y. absurd (under (record { at = m; by = t; reachable = h; firable_there = f; over = y }))) (true_or_not (within 16 c.net.cap (step c m t).system))

    -- a firing from a reachable product marking whose pattern is reachable alone
    pub one_further : (m : ProductMarking) (t : ℕ) → ProductReaches c m × PatternReaches c m.pattern → T (fires c m t) → ProductReaches c (step c m t) × PatternReaches c (step c m t).pattern
    unfolding step product_goes product_within
    one_further m t h f =
        let q = followed m.pattern (label_of c t) h.1 in (
          reaches_more (product_goes c) (step c) (start c) m t h.0
              (and_both (firable c m.system t) (within 16 c.net.cap (step c m t).system && within 8 c.pattern.cap (step c m t).pattern) f
              (and_both (within 16 c.net.cap (step c m t).system) (within 8 c.pattern.cap (step c m t).pattern) (system_within m t h.0 f) (pattern_within c small (follow c m.pattern (label_of c t)) q))),
          q,
        )

    pub product_of_run : (r : List ℕ) → T (runs c r) → ProductReaches c (end c r)
    unfolding runs end start
    product_of_run r u =
        (closed_holds (fires c) (step c) (λ m. ProductReaches c m × PatternReaches c m.pattern) one_further r (start c)
        (reaches_self (product_goes c) (step c) (start c), reaches_self (pattern_goes c) (pattern_fired c) c.pattern.first) u).0
