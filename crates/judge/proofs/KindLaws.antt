-- From what the search answers to the first explanation of each kind, and from there to what the verdict shows. Assumes nothing.
use Prim.Native.Nat.{ℕ, ◌<◌, ◌≤◌}
use mathlib.Core.Path.{◌≡◌, refl, sym, ap, ◌∙◌, subst}
use mathlib.Core.Bool.{Bool, true, false}
use mathlib.Core.List.{List, ◌++◌}
use native.Mathlib.Omega.{arith}
use lib.ListN.{length, drop}
use Rattle.walks.proofs.Back.{back_way}
use Rattle.walks.proofs.FirstWalk.{first_met, never_met}
use Rattle.rack.specs.Run.{matches}
use Rattle.rack.specs.Keep.{Goal}
use Rattle.rack.specs.Verdict.{FirstOfKind}
use Rattle.rack.specs.Outcome.{holding}
use Rattle.rack.specs.declared.Case.{Case}
use Rattle.std.specs.Prelude.{Option, Some, None}
use Rattle.rack.specs.declared.Verdict.{Verdict}
use Rattle.rack.proofs.OneFirst.{first_one}
use Rattle.rack.proofs.Nodes.{first_of_nodes, none_of_nodes}
use Rattle.search.specs.Nodes.{Searching}
use Rattle.search.specs.Found.{PlaceSays, SearchSays, RunWritten}
use Rattle.search.specs.declared.Place.{Place}
use Rattle.search.specs.declared.Searched.{Searched}
use Rattle.judge.specs.CaseJudged.{refused_by, Shown, faulty, safe, ambiguous, unexplained, matching_short, other_short}
use Rattle.judge.specs.Kinds.{KindAt, NoneOfKind, KindIs, KindSays, run_length, PlaceWritten}

-- ---- from the search

kind_of : {c : Case} (room : List ℕ) {n m edge depth : ℕ} (s : Searching c room n m m 0 edge depth) (k : Bool) (p : Option Place) → PlaceSays c room n m edge depth s k p → KindIs c room n m k p
kind_of {c} room {n} {m} {edge} {depth} s k (Some p) x =
    record {
      met_at = record { edge = edge; depth = depth; search = s; inside = x.0; is = x.1.1.0 };
      run = s.way p.rank;
      first = first_of_nodes c k (s.way p.rank) (first_met s.queue (Goal c k) p.rank x.0 x.1.0 x.1.1.1);
      long = sym x.1.1.0;
      only = λ w b. back_way s x.0 b;
    }
kind_of {c} room s k None x = none_of_nodes c k (never_met s.queue (Goal c k) x)

module _ {c : Case} {room₀ room : List ℕ} {n : ℕ} {r : Searched} (x : SearchSays c room₀ n room r) where
  pub matching_kind : KindSays c room n r.met true r.matching
  matching_kind = record { is = kind_of room x.search true r.matching x.matching }

  pub other_kind : KindSays c room n r.met false r.other
  other_kind = record { is = kind_of room x.search false r.other x.other }

-- ---- to what is shown

-- what is not of one kind is of the other
other_true : (b : Bool) → (b ≡ false → ⊥) → b ≡ true
other_true true h = refl
other_true false h = absurd (h refl)

other_false : (b : Bool) → (b ≡ true → ⊥) → b ≡ false
other_false true h = absurd (h refl)
other_false false h = refl

neither : (b : Bool) → (b ≡ true → ⊥) → (b ≡ false → ⊥) → ⊥
neither true h k = h refl
neither false h k = k refl

-- a run that was written is the first of its kind
written : {c : Case} {room : List ℕ} {n m : ℕ} {k : Bool} {r d : ℕ} (x : KindAt c room n m k r d) {out₀ out : List ℕ} → RunWritten c room r out₀ out → out ≡ holding x.run out₀
written x {out₀} w = w.is ∙ ap (λ (l : List ℕ). l ++ drop (length l) out₀) (x.only w.run w.back)

show_unexplained : {c : Case} {matching other : List ℕ} → NoneOfKind c true → NoneOfKind c false → Shown c matching other (refused_by 10 0) matching other
show_unexplained {c} a b = unexplained (λ s x. neither (matches c s) (a s x) (b s x))

module _ {c : Case} {room : List ℕ} {n m : ℕ} where
  module _ {r d : ℕ} (x : KindAt c room n m true r d) where
    show_matching_short : {matching other : List ℕ} → length matching < d → Shown c matching other (refused_by 11 d) matching other
    show_matching_short {matching} {other} h =
        subst (λ (k : ℕ). Shown c matching other (refused_by 11 k) matching other) x.long (matching_short x.first (omega (arith, x.long)))

    fits : (matching : List ℕ) → d ≤ length matching → (s : List ℕ) → FirstOfKind c true s → length s ≤ length matching
    fits matching h s y = omega (arith, ap length (first_one y x.first), x.long)

    show_faulty : {matching matching' other : List ℕ} → NoneOfKind c false → d ≤ length matching → RunWritten c room r matching matching'
        → Shown c matching other (record { verdict = Verdict.Faulty; matching = d; other = 0 }) matching' other
    show_faulty {matching} {matching'} {other} b h w =
        subst (λ (l : List ℕ). Shown c matching other (record { verdict = Verdict.Faulty; matching = d; other = 0 }) l other) (sym (written x w))
        (subst (λ (k : ℕ). Shown c matching other (record { verdict = Verdict.Faulty; matching = k; other = 0 }) (holding x.run matching) other) x.long
        (faulty (record { shows = x.first; all = λ s y. other_true (matches c s) (b s y) }) (omega (arith, x.long))))

    module _ {r' d' : ℕ} (y : KindAt c room n m false r' d') where
      show_other_short : {matching other : List ℕ} → d ≤ length matching → length other < d' → Shown c matching other (refused_by 11 d') matching other
      show_other_short {matching} {other} h k =
          subst (λ (j : ℕ). Shown c matching other (refused_by 11 j) matching other) y.long (other_short (fits matching h) y.first (omega (arith, y.long)))

      show_ambiguous : {matching matching' other other' : List ℕ} → d ≤ length matching → d' ≤ length other → RunWritten c room r matching matching' → RunWritten c room r' other other'
          → Shown c matching other (record { verdict = Verdict.Ambiguous; matching = d; other = d' }) matching' other'
      show_ambiguous {matching} {matching'} {other} {other'} h k w v =
          subst (λ (l : List ℕ). Shown c matching other (record { verdict = Verdict.Ambiguous; matching = d; other = d' }) l other') (sym (written x w))
          (subst (λ (l : List ℕ). Shown c matching other (record { verdict = Verdict.Ambiguous; matching = d; other = d' }) (holding x.run matching) l) (sym (written y v))
          (subst (λ (a : ℕ). Shown c matching other (record { verdict = Verdict.Ambiguous; matching = a; other = d' }) (holding x.run matching) (holding y.run other)) x.long
          (subst (λ (b : ℕ). Shown c matching other (record { verdict = Verdict.Ambiguous; matching = length x.run; other = b }) (holding x.run matching) (holding y.run other)) y.long
          (ambiguous (record { matching = x.first; other = y.first }) (omega (arith, x.long)) (omega (arith, y.long))))))

  module _ {r d : ℕ} (none : NoneOfKind c true) (y : KindAt c room n m false r d) where
    show_safe_short : {matching other : List ℕ} → length other < d → Shown c matching other (refused_by 11 d) matching other
    show_safe_short {matching} {other} k =
        subst (λ (j : ℕ). Shown c matching other (refused_by 11 j) matching other) y.long
        (other_short (λ s z. absurd (none s z.explains z.kind)) y.first (omega (arith, y.long)))

    show_safe : {matching other other' : List ℕ} → d ≤ length other → RunWritten c room r other other'
        → Shown c matching other (record { verdict = Verdict.Safe; matching = 0; other = d }) matching other'
    show_safe {matching} {other} {other'} h w =
        subst (λ (l : List ℕ). Shown c matching other (record { verdict = Verdict.Safe; matching = 0; other = d }) matching l) (sym (written y w))
        (subst (λ (k : ℕ). Shown c matching other (record { verdict = Verdict.Safe; matching = 0; other = k }) matching (holding y.run other)) y.long
        (safe (record { shows = y.first; all = λ s z. other_false (matches c s) (none s z) }) (omega (arith, y.long))))

-- ---- by whether there is a place of each kind

-- the verdict's word
abbrev pub Word : Option Place → Option Place → Verdict → Type 0
Word (Some p) None v = v ≡ Verdict.Faulty
Word None (Some q) v = v ≡ Verdict.Safe
Word (Some p) (Some q) v = v ≡ Verdict.Ambiguous
Word None None v = ⊥

module _ {c : Case} {room : List ℕ} {n m : ℕ} where
  -- there is none of either kind
  pub show_none : {p q : Option Place} → KindSays c room n m true p → KindSays c room n m false q → p ≡ None → q ≡ None → {matching other : List ℕ}
      → Shown c matching other (refused_by 10 0) matching other
  show_none x y e f = show_unexplained (subst (KindIs c room n m true) e x.is) (subst (KindIs c room n m false) f y.is)

  -- the matching run does not fit
  pub show_first : (p : Option Place) → KindSays c room n m true p → {matching other : List ℕ} {l : ℕ} → l ≡ run_length p → length matching < l
      → Shown c matching other (refused_by 11 l) matching other
  show_first (Some p) x e h = rw e (show_matching_short x.is (omega (arith, e, h)))
  show_first None x e h = absurd (omega (arith, e, h))

  -- the other run does not fit
  pub show_second : (p q : Option Place) → KindSays c room n m true p → KindSays c room n m false q → {matching other : List ℕ} {l k : ℕ} → l ≡ run_length p → l ≤ length matching
      → k ≡ run_length q → length other < k → Shown c matching other (refused_by 11 k) matching other
  show_second (Some p) (Some q) x y e h f g = rw f (show_other_short x.is y.is (omega (arith, e, h)) (omega (arith, f, g)))
  show_second None (Some q) x y e h f g = rw f (show_safe_short x.is y.is (omega (arith, f, g)))
  show_second p None x y e h f g = absurd (omega (arith, f, g))

  -- each run that there is fits
  pub show_runs : (p q : Option Place) → KindSays c room n m true p → KindSays c room n m false q → {matching other : List ℕ} {l k : ℕ} → l ≡ run_length p → l ≤ length matching
      → k ≡ run_length q → k ≤ length other → {matching' other' : List ℕ} → PlaceWritten c room p matching matching' → PlaceWritten c room q other other' → {v : Verdict} → Word p q v
      → Shown c matching other (record { verdict = v; matching = l; other = k }) matching' other'
  show_runs (Some p) None x y e h f g w u v = rw (v, e, f, u.is) (show_faulty x.is y.is (omega (arith, e, h)) w.is)
  show_runs None (Some q) x y e h f g w u v = rw (v, e, f, w.is) (show_safe x.is y.is (omega (arith, f, g)) u.is)
  show_runs (Some p) (Some q) x y e h f g w u v = rw (v, e, f) (show_ambiguous x.is y.is (omega (arith, e, h)) (omega (arith, f, g)) w.is u.is)
  show_runs None None x y e h f g w u v = absurd v
