-- The position in the log that a run leads to is the log's end exactly if the run explains the log. Assumes nothing.
use Prim.Native.Nat.{ℕ, ◌≤◌}
use mathlib.Core.Path.{◌≡◌, refl, sym, ap, ◌∙◌}
use mathlib.Core.List.{List, [], ◌∷◌}
use native.Mathlib.Omega.{arith}
use lib.ListN.{length}
use lib.Dec.{T}
use Rattle.std.proofs.Common.{Option, Some, None}
use Rattle.std.proofs.lemmas.Option.{none-some}
use Rattle.walks.specs.Walk.{walks, ends}
use Rattle.walks.proofs.Tests.{and_right, and_both}
use Rattle.walks.proofs.Closed.{walks_cons}
use Rattle.rack.specs.Follow.{label_of, step}
use Rattle.rack.specs.Run.{fires, runs, log_of}
use Rattle.rack.specs.Keep.{keeps, next, Node, moves, onto, origin}
use Rattle.rack.specs.Replay.{explains}
use Rattle.rack.specs.declared.Case.{Case}
use Rattle.rack.proofs.Keep.{explains_kept, kept_explains}
use Rattle.rack.proofs.Decide.{explains_of}
use Rattle.rack.proofs.Replaying.{explains_yes}
use Rattle.engine.specs.Position.{next_position}
use Rattle.engine.proofs.PositionLaws.{Kept, position_kept, position_none}
use Rattle.retrace.specs.Firings.{position_by, keeps_at, position_of}

module _ (c : Case) where
  -- the position where a run from a position leads
  abbrev led : Option ℕ → List ℕ → Option ℕ
  led i r = ends (keeps_at c) (position_by c) i r

  -- once off the log, a run stays off it
  off : (r : List ℕ) → led None r ≡ None
  unfolding ends position_by
  off [] = refl
  off (t ∷ r) = off r

  module _ (long : length (log_of c) ≡ c.log.count) where
    -- ---- a run that leads to the log's end is a walk over nodes to it

    -- one firing on the way to the log's end keeps to the log
    on_way : (i t : ℕ) (r : List ℕ) → i ≤ length (log_of c) → (q : Option ℕ) → q ≡ next_position c (label_of c t) i → led q r ≡ Some (length (log_of c))
        → Kept c long i t (next c i t) × (q ≡ Some (next c i t))
    on_way i t r l None h e = absurd (none-some _ (sym (off r) ∙ e))
    on_way i t r l (Some p) h e = let k = position_kept c long i t p h l in rw (← k.is) (k, refl)

    to_end : (r : List ℕ) (n : Node) → n.at ≤ length (log_of c) → T (walks (fires c) (step c) n.mark r) → led (Some n.at) r ≡ Some (length (log_of c))
        → T (walks (moves c) (onto c) n r) × ((ends (moves c) (onto c) n r).at ≡ length (log_of c))
    unfolding walks ends moves onto position_by
    to_end [] n l u e = (tt, cc)
    to_end (t ∷ r) n l u e =
        let (f, u') = walks_cons (fires c) (step c) n.mark t r u in
        let (k, q) = on_way n.at t r l (next_position c (label_of c t) n.at) refl e in
        let (w, z) = to_end r (onto c n t) k.within u' (ap (λ (j : Option ℕ). led j r) (sym q) ∙ e) in
        (and_both (moves c n t) (walks (moves c) (onto c) (onto c n t) r) (and_both (fires c n.mark t) (keeps c n.at t) f k.keeps_there) w, z)

    -- ---- and such a walk leads to that position

    from_walk : (r : List ℕ) (n : Node) → n.at ≤ length (log_of c) → T (walks (moves c) (onto c) n r) → led (Some n.at) r ≡ Some (ends (moves c) (onto c) n r).at
    unfolding walks ends moves onto position_by
    from_walk [] n l u = refl
    from_walk (t ∷ r) n l u =
        let (g, u') = walks_cons (moves c) (onto c) n t r u in
        go (next_position c (label_of c t) n.at) refl (and_right (fires c n.mark t) (keeps c n.at t) g) (λ l'. from_walk r (onto c n t) l' u')
      where
        go : (q : Option ℕ) → q ≡ next_position c (label_of c t) n.at → T (keeps c n.at t) → ((onto c n t).at ≤ length (log_of c) → led (Some (onto c n t).at) r ≡ Some (ends (moves c) (onto c) (onto c n t) r).at)
            → led q r ≡ Some (ends (moves c) (onto c) (onto c n t) r).at
        go None h x rest = absurd (position_none c long n.at t (sym h) x)
        go (Some p) h x rest = let k = position_kept c long n.at t p h l in rw k.is (rest (omega (arith, k.is, k.within)))

    -- ---- the log's end

    pub position_explains : (r : List ℕ) → T (runs c r) → position_of c r ≡ Some c.log.count → T (explains c r)
    unfolding position_of runs origin
    position_explains r u p =
        let (w, z) = to_end r (origin c) (omega arith) u (p ∙ ap (λ (n : ℕ). Some n) (sym long)) in
        explains_yes c r (kept_explains c r w z)

    pub explains_position : (r : List ℕ) → T (explains c r) → position_of c r ≡ Some c.log.count
    unfolding position_of origin
    explains_position r x =
        let k = explains_kept c r (explains_of c r x) in
        from_walk r (origin c) (omega arith) k.walked ∙ ap (λ (n : ℕ). Some n) (k.finished ∙ long)
