-- How long a shown run can be: "No shown run is longer than the count of reachable product markings times (log length + 1), less one".
-- Assumes nothing.
use Prim.Native.Nat.{ℕ, zero, suc, ◌+◌, ◌*◌, ◌<◌, ◌≤◌}
use mathlib.Core.Path.{◌≡◌, refl, sym, ap, ◌∙◌}
use mathlib.Core.Bool.{Bool, true, false}
use mathlib.Core.List.Memᴰ
use mathlib.Core.List.{List, [], ◌∷◌, ◌++◌, Memᴰ}
use mathlib.Core.Logic.{⊎_elim}
use native.Mathlib.Nat.{suc-mul, zero-mul, mul-le-mul}
use native.Mathlib.Omega.{arith}
use lib.ListN.{length, get_or, length-append, length-take}
use lib.Dec.{T, ltb, eqb, ltb→lt}
use Rattle.walks.specs.Below.{pick}
use Rattle.walks.specs.Walk.{Reaches}
use Rattle.walks.specs.Few.{AtMost}
use Rattle.walks.proofs.Tests.{and_left, and_right}
use Rattle.walks.proofs.Closed.{closed_reached, reaches_self}
use Rattle.walks.proofs.Order.{shorter_before, Trio, trio, lower, equal, higher}
use Rattle.walks.proofs.Short.{Shortest, shortest_short}
use Rattle.rack.specs.Net.{within}
use Rattle.rack.specs.Follow.{ProductMarking, label_of, final, start, step, pattern_fired}
use Rattle.rack.specs.Reach.{pattern_goes, PatternReaches, product_goes, ProductReaches}
use Rattle.rack.specs.Run.{fires, end, matches, visible, log_of, Explains}
use Rattle.rack.specs.Keep.{may_silently, due, keeps, next, Node, moves, onto, origin}
use Rattle.rack.specs.Verdict.{FirstOfKind}
use Rattle.rack.specs.Layout.{ReadsAs}
use Rattle.rack.specs.Refusal.{PatternOver, SystemOver, NetsPass}
use Rattle.rack.specs.VerdictOutcome.{VerdictIs, faulty, safe, ambiguous, refused}
use Rattle.rack.specs.declared.Judged.{Judged}
use Rattle.rack.specs.declared.Case.{Case}
use Rattle.rack.proofs.Keep.{explains_kept, kept_explains}
use Rattle.rack.proofs.Accepted.{one_further}
use Rattle.rack.proofs.Lift.{verdict_passes}
use Rattle.rack.proofs.WellFormed.{well_formed}

-- the nodes at one position, and those at the positions below n, with the markings of a list
at_position : ℕ → List ProductMarking → List Node
at_position i [] = []
at_position i (m ∷ l) = record { at = i; mark = m } ∷ at_position i l

positions : ℕ → List ProductMarking → List Node
positions zero l = []
positions (suc n) l = at_position n l ++ positions n l

length_at : (i : ℕ) (l : List ProductMarking) → length (at_position i l) ≡ length l
unfolding at_position
length_at i [] = refl
length_at i (m ∷ l) = ap suc (length_at i l)

length_positions : (n : ℕ) (l : List ProductMarking) → length (positions n l) ≡ n * length l
unfolding positions
length_positions zero l = sym (zero-mul (length l))
length_positions (suc n) l = omega (arith, length-append (at_position n l) (positions n l), length_at n l, length_positions n l, suc-mul n (length l))

in_position : (n : Node) (i : ℕ) (l : List ProductMarking) → n.at ≡ i → Memᴰ n.mark l → Memᴰ n (at_position i l)
unfolding at_position
in_position n i [] e m = absurd (Memᴰ.not-nil m)
in_position n i (x ∷ l) e m = ⊎_elim (λ q. Memᴰ.head (λ j. record { at = e j; mark = q j })) (λ k. Memᴰ.tail (in_position n i l e k)) (Memᴰ.cases_cons m)

in_positions : (n : Node) (k : ℕ) (l : List ProductMarking) → n.at < k → Memᴰ n.mark l → Memᴰ n (positions k l)
unfolding positions
in_positions n zero l h m = absurd (omega arith)
in_positions n (suc k) l h m = go (trio n.at k) (in_positions n k l)
  where
    go : Trio n.at k → (n.at < k → Memᴰ n.mark l → Memᴰ n (positions k l)) → Memᴰ n (at_position k l ++ positions k l)
    go (lower t) rec = Memᴰ.append_right (at_position k l) (rec (ltb→lt n.at k t) m)
    go (equal e) rec = Memᴰ.append_left (positions k l) (in_position n k l e m)
    go (higher t) rec = let z : k < n.at = ltb→lt k n.at t in absurd (omega arith)

-- a node at a position of the log, with a reachable product marking
pub record Inside (c : Case) (n : Node) : Type 0 where
  pub position : n.at ≤ length (log_of c)
  pub product : ProductReaches c n.mark
  pub pattern : PatternReaches c n.mark.pattern

-- a firing that keeps to the log does not go past its end
not-past : (c : Case) (b : Bool) (i t : ℕ) → T (pick b (due c i t) (may_silently c i)) → i ≤ length (log_of c) → pick b (suc i) i ≤ length (log_of c)
unfolding due
not-past c true i t k h = ltb→lt i (length (log_of c)) (and_left (ltb i (length (log_of c))) (eqb (label_of c t) (get_or (log_of c) i 0)) k)
not-past c false i t k h = h

module _ (c : Case) (kept : PatternOver c → ⊥) (small : T (within 8 c.pattern.cap c.pattern.first)) (under : SystemOver c → ⊥) where
  inside_onto : (n : Node) (t : ℕ) → Inside c n → T (moves c n t) → Inside c (onto c n t)
  unfolding moves keeps onto next
  inside_onto n t x f =
      let g = one_further c kept small under n.mark t (x.product, x.pattern) (and_left (fires c n.mark t) (keeps c n.at t) f) in
      record {
        position = not-past c (visible c t) n.at t (and_right (fires c n.mark t) (keeps c n.at t) f) x.position;
        product = g.0;
        pattern = g.1;
      }

  -- every node that is reached is such a node
  pub node_inside : (n : Node) → Reaches (moves c) (onto c) (origin c) n → Inside c n
  unfolding origin start
  node_inside n h =
      closed_reached (moves c) (onto c) (Inside c) inside_onto (origin c) n
      (record { position = omega arith; product = reaches_self (product_goes c) (step c) (start c); pattern = reaches_self (pattern_goes c) (pattern_fired c) c.pattern.first }) h

  -- a first run of a kind is a shortest walk over nodes to its end
  first_shortest : (k : Bool) (r : List ℕ) → FirstOfKind c k r → Shortest (moves c) (onto c) (origin c) r
  unfolding matches end origin
  first_shortest k r x s w e =
      let y = explains_kept c r x.explains in
      let z = kept_explains c s w (ap (λ (n : Node). n.at) e ∙ y.finished) in
      let q = explains_kept c s z in
      let m : end c s ≡ end c r = sym q.same_end ∙ ap (λ (n : Node). n.mark) e ∙ y.same_end in
      go z m (trio (length s) (length r))
    where
      go : Explains c s → end c s ≡ end c r → Trio (length s) (length r) → length r ≤ length s
      go z m (lower t) = absurd (x.first s z (ap (λ (g : ProductMarking). final c g.pattern) m ∙ x.kind) (shorter_before s r (ltb→lt (length s) (length r) t)))
      go z m (equal t) = omega (arith, t)
      go z m (higher t) = omega (arith, ltb→lt (length r) (length s) t)

  -- THE BOUND: with a list of all reachable product markings
  pub shown_run_bound : (k : Bool) (r : List ℕ) → FirstOfKind c k r → (all : List ProductMarking) → ((m : ProductMarking) → ProductReaches c m → Memᴰ m all) → length r < suc (length (log_of c)) * length all
  shown_run_bound k r x all holds =
      let y = explains_kept c r x.explains in
      let n = suc (length (log_of c)) in
      let h =
      shortest_short (moves c) (onto c) (origin c) r y.walked (first_shortest k r x) (positions n all)
      (λ b g. let i = node_inside b g in in_positions b n all (omega (arith, i.position)) (holds b.mark i.product)) in
      omega (arith, h, length_positions n all)

  -- "at most 20,991 firings"
  pub shown_run_most : (k : Bool) (r : List ℕ) → FirstOfKind c k r → AtMost 512 (ProductReaches c) → length (log_of c) ≤ 40 → length r ≤ 20991
  shown_run_most k r x few short =
      let b = shown_run_bound k r x few.all few.holds in
      let m : suc (length (log_of c)) * length few.all ≤ 41 * 512 = mul-le-mul {n₂ = 41} {m₂ = 512} (omega arith) few.few in
      omega (arith, b, m)

-- and so of every verdict: no run that it shows is longer
shown_most : {f : List ℕ} {c : Case} {k : Bool} {r : List ℕ} → ReadsAs f c → NetsPass c → FirstOfKind c k r → length r ≤ 20991
unfolding log_of
shown_most {f} {c} {k} {r} reads ok x =
    let w = well_formed reads in
    let short : length (log_of c) ≤ 40 = omega (arith, length-take c.log.count c.log.labels, w.log.names.few) in
    shown_run_most c ok.pattern_capped w.pattern.tokens_within ok.system_capped k r x ok.few_products short

pub verdict_short : {f matching other work : List ℕ} {x : Judged} {a b w : List ℕ} → VerdictIs f matching other work x a b w → (x.matching ≤ 20991) × (x.other ≤ 20991)
verdict_short (faulty g p u) = (shown_most p (verdict_passes p g) u.shows, omega arith)
verdict_short (safe g p u) = (omega arith, shown_most p (verdict_passes p g) u.shows)
verdict_short (ambiguous g p u) = (shown_most p (verdict_passes p g) u.matching, shown_most p (verdict_passes p g) u.other)
verdict_short (refused g) = (omega arith, omega arith)
