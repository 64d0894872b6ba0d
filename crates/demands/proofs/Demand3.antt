-- DEMAND 3, over the listing's contract: `demand_3`. Of a file without fault, asked from the start and then after each run it gives, any program
-- that meets the contract gives all explanations within the limit, each once, in the order of runs, truly marked, and then says the end. Of a program it
-- is known only what the calls `listing::first` and `listing::next` promise, whose given runs are bytes: no other run is ever asked after (`run_low`,
-- `asked_low`). Assumes nothing.
use Prim.Native.Nat.{ℕ, ◌≤◌}
use mathlib.Core.Path.{◌≡◌, refl, sym, ◌∙◌, subst}
use mathlib.Core.Bool.{Bool, true, false}
use mathlib.Core.List.{List, [], ◌∷◌}
use native.Mathlib.Omega.{arith}
use lib.ListN.{length, take, drop}
use lib.Seq.{take-append_seam}
use lib.Dec.{T}
use Rattle.walks.specs.Walk.{walks}
use Rattle.walks.specs.Order.{before}
use Rattle.walks.proofs.Closed.{walks_cons}
use Rattle.walks.proofs.Order.{Either, sooner, alike, before_total, before_trans, before_not_self}
use Rattle.walks.proofs.Order as order
use Rattle.rack.specs.Follow.{ProductMarking, start, step}
use Rattle.rack.specs.Run.{fires, runs, Explains, matches}
use Rattle.rack.specs.Listing.{Asked, from_start, after, later, NextIs, EndIs}
use Rattle.rack.specs.Layout.{ReadsAs}
use Rattle.rack.specs.Refusal.{work_room, NetsPass}
use Rattle.rack.specs.Outcome.{holding}
use Rattle.rack.specs.ListingOutcome.{limit_most, GivenBad, ListingRefuses, ListingIs}
use Rattle.rack.specs.ListingOutcome as list
use Rattle.rack.specs.declared.Case.{Case}
use Rattle.rack.specs.declared.Listed.{Listed}
use Rattle.rack.specs.declared.Listed.TheVariants.{End}
use Rattle.rack.proofs.Accept.{firable_known}
use Rattle.rack.proofs.Answer.{given_good, listing_accepts}
use Rattle.rack.proofs.OneReading.{one_case}
use Rattle.rack.proofs.WellFormed.{well_formed}
use Rattle.rack.proofs.OneOutcome.{not_listed}
use Rattle.demands.specs.Listings.{Answered, Low, InBytes, Meets, Enough, Explanation, gives, Asking, ended, given, Every, Among, here, there, InOrder, then, Truly, Whole}
use Rattle.demands.specs.Listings as listing
use Rattle.demands.proofs.Upward.{upward_induction}

-- the front of a room that holds a run is the run
front : (r room : List ℕ) → take (length r) (holding r room) ≡ r
front r room = take-append_seam r (drop (length r) room)

-- the numbers of a run are transitions of the case
low_run : (c : Case) (r : List ℕ) (m : ProductMarking) → T (walks (fires c) (step c) m r) → Low c.arcs.count r
low_run c [] m u = tt
low_run c (t ∷ r) m u =
    let (g, v) = walks_cons (fires c) (step c) m t r u in
    (firable_known c m.system t g, low_run c r (step c m t) v)

explains_low : (c : Case) (r : List ℕ) → Explains c r → Low c.arcs.count r
unfolding runs
explains_low c r x = low_run c r (start c) x.run

-- "TR 0..48": they are below 48, so a run that is given can be lent as bytes
low_more : (a b : ℕ) → a ≤ b → (r : List ℕ) → Low a r → Low b r
low_more a b h [] l = tt
low_more a b h (t ∷ r) l = (omega (arith, l.0), low_more a b h r l.1)

pub run_low : {f : List ℕ} {c : Case} (r : List ℕ) → ReadsAs f c → Explains c r → Low 48 r
run_low {f} {c} r reads x = low_more c.arcs.count 48 (well_formed reads).arcs.names.few r (explains_low c r x)

run_bytes : {f : List ℕ} {c : Case} (r : List ℕ) → ReadsAs f c → Explains c r → InBytes (after r)
run_bytes r reads x = low_more 48 _ (omega arith) r (run_low r reads x)

-- ---- one question

-- what an answer says: the end, and none is left; or the next explanation, truly marked, at the front of the room
pub data Told (c : Case) (limit : ℕ) (a : Asked) : Listed → List ℕ → Type 0 where
  at_the_end : {room : List ℕ} → EndIs c limit a → Told c limit a End room
  next : {k : Bool} {r room : List ℕ} → NextIs c limit a r → matches c r ≡ k → take (length r) room ≡ r → Told c limit a (gives k (length r)) room

module _ {f : List ℕ} {c : Case} (reads : ReadsAs f c) (ok : NetsPass c) (limit : ℕ) (low : limit ≤ limit_most) (a : Asked) (good : GivenBad c limit a → ⊥) (room work : List ℕ)
    (for-run : limit ≤ length room) (for_work : work_room ≤ length work) where
  not_refused : {n m : ℕ} → ListingRefuses f limit a room work n m → ⊥
  not_refused x = not_listed f limit a room work x (listing_accepts reads ok limit low a good room work for_work (λ d s p y. omega (arith, y.within)))

  told : {x : Listed} {ρ ω : List ℕ} → ListingIs f limit a room work x ρ ω → Told c limit a x ρ
  unfolding gives
  told (list.matching {c = d} {r = r} g p u s) =
      next {k = true} (subst (λ (e : Case). NextIs e limit a r) (one_case p reads) u) (subst (λ (e : Case). matches e r ≡ true) (one_case p reads) s) (front r room)
  told (list.other {c = d} {r = r} g p u s) =
      next {k = false} (subst (λ (e : Case). NextIs e limit a r) (one_case p reads) u) (subst (λ (e : Case). matches e r ≡ false) (one_case p reads) s) (front r room)
  told (list.end g p u) = at_the_end (subst (λ (e : Case). EndIs e limit a) (one_case p reads) u)
  told (list.refused g) = absurd (not_refused g)

-- ---- one run, and the whole listing after it

module _ (c : Case) (limit : ℕ) (a : Asked) (k : Bool) (r : List ℕ) (x : NextIs c limit a r) (marked : matches c r ≡ k) where
  first_then : (l : List Explanation) → Whole c limit (after r) l → Whole c limit a (record { matching = k; run = r } ∷ l)
  unfolding later
  first_then l w =
      record {
        truly = listing.also (record { explains = x.explains; within = x.within; marked = marked }) w.truly;
        in_order = then x.later_than w.in_order;
        none_left = λ s y h t. place s y h t (before_total r s);
      }
    where
      place : (s : List ℕ) → Explains c s → length s ≤ limit → T (later a s) → Either before r s → Among s (record { matching = k; run = r } ∷ l)
      place s y h t (sooner b) = there (w.none_left s y h b)
      place s y h t (alike e) = here e
      place s y h t (order.later b) = absurd (x.first s y h t b)

whole_end : (c : Case) (limit : ℕ) (a : Asked) → EndIs c limit a → Whole c limit a []
whole_end c limit a x = record { truly = listing.none; in_order = listing.none; none_left = λ s y h t. absurd (x s y h t) }

-- ---- the whole sequence

-- asked a and then on, the program gives the whole listing and ends
pub record Lists (c : Case) (limit : ℕ) (p : Asked → Answered) (a : Asked) : Type 0 where
  pub all : List Explanation
  pub asked : Asking p a all
  pub whole : Whole c limit a all

module _ {f : List ℕ} {c : Case} (reads : ReadsAs f c) (ok : NetsPass c) (limit : ℕ) (low : limit ≤ limit_most) (room work : Asked → List ℕ) (enough : Enough limit room work)
    (p : Asked → Answered) (meets : Meets f limit room work p) where
  -- one question, if every later one leads to the end
  one_more : (a : Asked) → InBytes a → (GivenBad c limit a → ⊥) → ((r : List ℕ) → NextIs c limit a r → Lists c limit p (after r)) → Lists c limit p a
  one_more a bytes good rest = go (p a).answer refl (told reads ok limit low a good (room a) (work a) (enough.for_runs a) (enough.for_work a) (meets a bytes))
    where
      go : (x : Listed) → (p a).answer ≡ x → Told c limit a x (p a).room → Lists c limit p a
      go x e (at_the_end z) = record { all = []; asked = ended e; whole = whole_end c limit a z }
      go x e (next {k = k} {r = r} z m t) =
          let more = rest r z in
          record {
            all = record { matching = k; run = take (length r) (p a).room } ∷ more.all;
            asked = given (length r) e (subst (λ (s : List ℕ). Asking p (after s) more.all) (sym t) more.asked);
            whole = subst (λ (s : List ℕ). Whole c limit a (record { matching = k; run = s } ∷ more.all)) (sym t) (first_then c limit a k r z m more.all more.whole);
          }

  -- after an explanation within the limit
  lists_after : (r : List ℕ) → length r ≤ limit → Low c.arcs.count r → Explains c r → Lists c limit p (after r)
  unfolding later
  lists_after =
      upward_induction c.arcs.count limit (λ r. Explains c r → Lists c limit p (after r))
      (λ r h w later_ones x.
      one_more (after r) (run_bytes r reads x) (given_good c limit r x h)
      (λ s z. later_ones s z.within (explains_low c s z.explains) z.later_than z.explains))

  -- DEMAND 3
  pub demand_3 : Lists c limit p from_start
  demand_3 = one_more from_start tt (λ z. z) (λ r z. lists_after r z.within (explains_low c r z.explains) z.explains)

-- ---- what a whole listing and its asking say further

-- each once: what comes after a run in the listing is another run
later_among : (r s : List ℕ) (l : List Explanation) → InOrder (after r) l → Among s l → T (before r s)
unfolding later
later_among r s _ listing.none h = elim h [ ]
later_among r s l (then {x = x} t o) (here e) = subst (λ (u : List ℕ). T (before r u)) e t
later_among r s l (then {x = x} {l = m} t o) (there h) = before_trans r x.run s t (later_among x.run s m o h)

pub each_once : (r : List ℕ) (l : List Explanation) → InOrder (after r) l → Among r l → ⊥
each_once r l o h = before_not_self r (later_among r r l o h)

-- each run of a whole listing, so each that is asked after, holds numbers below 48 alone
pub asked_low : {f : List ℕ} {c : Case} {limit : ℕ} (l : List Explanation) → ReadsAs f c → Every (Truly c limit) l → Every (λ x. Low 48 x.run) l
asked_low l reads listing.none = listing.none
asked_low (x ∷ l) reads (listing.also t u) = listing.also (run_low x.run reads t.explains) (asked_low l reads u)

-- one sequence: what a program gives, asked to the end, is one list
apart : (k : Bool) (n : ℕ) → gives k n ≡ End → ⊥
unfolding gives
apart true n e = let z : ◌≡◌ {A = ℕ} 0 1 = cc in omega arith
apart false n e = let z : ◌≡◌ {A = ℕ} 0 1 = cc in omega arith

gives_one : (k j : Bool) (n m : ℕ) → gives k n ≡ gives j m → (k ≡ j) × (n ≡ m)
unfolding gives
gives_one true true n m e = (refl, cc)
gives_one true false n m e = let z : ◌≡◌ {A = ℕ} 0 1 = cc in absurd (omega arith)
gives_one false true n m e = let z : ◌≡◌ {A = ℕ} 0 1 = cc in absurd (omega arith)
gives_one false false n m e = (refl, cc)

pub asking_one : {p : Asked → Answered} (a : Asked) (l m : List Explanation) → Asking p a l → Asking p a m → l ≡ m
asking_one a l m (ended e) (ended d) = refl
asking_one a l m (ended e) (given {k = k} n d y) = absurd (apart k n (sym d ∙ e))
asking_one a l m (given {k = k} n e x) (ended d) = absurd (apart k n (sym e ∙ d))
asking_one {p} a l m (given {k = k} {l = t} n e x) (given {k = j} {l = u} i d y) =
    let same = gives_one k j n i (sym e ∙ d) in
    let rest = asking_one (after (take i (p a).room)) t u (subst (λ (z : ℕ). Asking p (after (take z (p a).room)) t) same.1 x) y in
    λ z. record { matching = same.0 z; run = take (same.1 z) (p a).room } ∷ rest z
