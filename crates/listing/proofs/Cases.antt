-- The listing of a case that has been read: from what is worked out and found to what is given. Assumes nothing.
use Prim.Native.Nat.{ℕ, zero, suc, ◌<◌, ◌≤◌}
use mathlib.Core.Path.{◌≡◌, refl, sym, ap, ◌∙◌, subst}
use mathlib.Core.Bool.{Bool, true, false}
use mathlib.Core.List.Memᴰ
use mathlib.Core.List.{List, [], ◌∷◌, ◌++◌, Memᴰ}
use mathlib.Core.Logic.{◌⊎◌, inl, inr, ⊎_elim}
use native.Mathlib.Omega.{arith}
use lib.ListN.{length, get_or, take, drop}
use lib.Seq.{take-append_seam}
use Rattle.walks.specs.Below.{pick}
use Rattle.walks.proofs.Grow.{split}
use Rattle.rack.specs.Listing.{Asked, after, EndIs}
use Rattle.rack.specs.ListingOutcome.{GivenBad}
use Rattle.rack.specs.Outcome.{holding}
use Rattle.rack.specs.declared.Case.{Case}
use Rattle.rack.specs.declared.Listed.{Listed}
use Rattle.rack.specs.declared.Listed.TheVariants.{Matching, Other, End, Refused}
use Rattle.reach.proofs.TableLaws.{table_kept}
use Rattle.ahead.specs.Ahead.{Filled}
use Rattle.seek.specs.Seeks.{Seeking, FoundRun, SoughtIs, SoughtSays}
use Rattle.seek.specs.declared.Sought.{Sought}
use Rattle.std.specs.Prelude.{Option, Some, None}
use Rattle.std.specs.Borrow.{Bor}
use Rattle.listing.specs.Asking.{asked_of}
use Rattle.listing.specs.CaseListed.{Shown, matching, other, end, short, Listing}
use Rattle.listing.specs.Giving.{fronted, Gives, GivesOf, GiveSays, GoodRun}

-- ---- what is worked out first

pub seeking : {c : Case} {work lent : List ℕ} {rows limit : ℕ} → Listing c work rows limit → Filled c work rows limit lent → c.log.count ≤ limit → (out : List ℕ) → limit ≤ length out
    → Seeking c lent rows limit out
seeking x f s out l =
    record {
      ready = record { well = x.ready.well; nets = x.ready.nets; table = table_kept f.rows_kept x.ready.table; long = omega (arith, f.long, x.ready.long) };
      tells = f.tells;
      low = x.low;
      short_log = s;
      long = l;
    }

-- ---- what is found

-- nothing
pub end-shown : {c : Case} {limit : ℕ} {asked : Asked} {room : List ℕ} {x : Listed} {a : List ℕ} → EndIs c limit asked → (x ≡ End) × (a ≡ room) → Shown c limit asked room x a
end-shown {c} {limit} {asked} {room} {a = a} f g =
    subst (λ (y : Listed). Shown c limit asked room y a) (sym g.0) (subst (λ (y : List ℕ). Shown c limit asked room End y) (sym g.1) (end f))

module _ (c : Case) (limit : ℕ) (asked : Asked) (out₀ out room : List ℕ) where
  -- what is given of it
  module _ (s : Sought) (f : FoundRun c limit asked out₀ out s) (x : Listed) (a : List ℕ) (g : Gives out room s x a) where
    abbrev m : ℕ
    m = s.long

    front : fronted out m room ≡ holding f.run room
    front =
        ap (λ (i : ℕ). fronted out i room) (sym f.long) ∙ ap (λ (l : List ℕ). take (length f.run) l ++ drop (length f.run) room) f.is
        ∙ ap (λ (l : List ℕ). l ++ drop (length f.run) room) (take-append_seam f.run (drop (length f.run) out₀))

    given_run : m ≤ length room → Shown c limit asked room x a
    given_run h = go s.matching refl (g.fits h)
      where
        go : (b : Bool) → s.matching ≡ b → (x ≡ pick s.matching (Matching m) (Other m)) × (a ≡ fronted out m room) → Shown c limit asked room x a
        go true e z =
            let l : length f.run ≤ length room = omega (arith, f.long) in
            let q : Matching (length f.run) ≡ x = ap Matching f.long ∙ ap (λ (b : Bool). pick b (Matching m) (Other m)) (sym e) ∙ sym z.0 in
            subst (λ (y : Listed). Shown c limit asked room y a) q
            (subst (λ (y : List ℕ). Shown c limit asked room (Matching (length f.run)) y) (sym (z.1 ∙ front)) (matching f.next (f.kind ∙ e) l))
        go false e z =
            let l : length f.run ≤ length room = omega (arith, f.long) in
            let q : Other (length f.run) ≡ x = ap Other f.long ∙ ap (λ (b : Bool). pick b (Matching m) (Other m)) (sym e) ∙ sym z.0 in
            subst (λ (y : Listed). Shown c limit asked room y a) q
            (subst (λ (y : List ℕ). Shown c limit asked room (Other (length f.run)) y) (sym (z.1 ∙ front)) (other f.next (f.kind ∙ e) l))

    too_short : length room < m → Shown c limit asked room x a
    too_short h =
        let z = g.short h in
        let q : Refused 11 (length f.run) ≡ x = ap (Refused 11) f.long ∙ sym z.0 in
        subst (λ (y : Listed). Shown c limit asked room y a) q
        (subst (λ (y : List ℕ). Shown c limit asked room (Refused 11 (length f.run)) y) (sym z.1) (short f.next (omega (arith, f.long))))

    of_run : Shown c limit asked room x a
    of_run = ⊎_elim (λ (h : length room < m). too_short h) (λ (h : m ≤ length room). given_run h) (split m (length room))

  of_found : (s : Option Sought) (x : Listed) (a : List ℕ) → SoughtIs c limit asked out₀ out s → GivesOf out room s x a → Shown c limit asked room x a
  of_found (Some s) x a f g = of_run s f x a g
  of_found None x a f g = end-shown f g

  pub found_shown : (s : Option Sought) (x : Listed) (a : List ℕ) → SoughtSays c limit asked out₀ out s → GiveSays out room s x a → Shown c limit asked room x a
  found_shown s x a f g = of_found s x a f.is g.is

-- ---- the given run

-- every number is below b, or one of them is not
module _ (b : ℕ) where
  pub members_low : (g : List ℕ) → ((k : ℕ) → k < length g → get_or g k 0 < b) → (t : ℕ) → Memᴰ t g → t < b
  members_low [] h t m = absurd (Memᴰ.not-nil m)
  members_low (a ∷ g) h t m =
      ⊎_elim (λ e. subst (λ (x : ℕ). x < b) (sym e) (h 0 (omega arith))) (λ n. members_low g (λ k l. h (suc k) (omega arith)) t n) (Memᴰ.cases_cons m)

  numbers_or_not : (g : List ℕ) → ((k : ℕ) → k < length g → get_or g k 0 < b) ⊎ ((t : ℕ) × (Memᴰ t g × (b ≤ t)))
  numbers_or_not [] = inl (λ k l. absurd (omega arith))
  numbers_or_not (a ∷ g) =
      ⊎_elim
      (λ (h : a < b).
      ⊎_elim (λ (low : (k : ℕ) → k < length g → get_or g k 0 < b). inl (both h low)) (λ (m : (t : ℕ) × (Memᴰ t g × (b ≤ t))). inr (m.0, (Memᴰ.tail m.1.0, m.1.1)))
      (numbers_or_not g))
      (λ (h : b ≤ a). inr (a, (Memᴰ.head refl, h)))
      (split b a)
    where
      both : a < b → ((k : ℕ) → k < length g → get_or g k 0 < b) → (k : ℕ) → k < length (a ∷ g) → get_or (a ∷ g) k 0 < b
      both h low zero l = h
      both h low (suc k) l = low k (omega arith)

module _ (c : Case) (limit : ℕ) (g : List ℕ) where
  pub good_not_bad : GoodRun g limit c.arcs.count → GivenBad c limit (after g) → ⊥
  good_not_bad x = ⊎_elim (λ h. omega (arith, x.within)) (λ h. let z = members_low c.arcs.count g x.numbers h.0 h.1.0 in omega (arith, z, h.1.1))

  pub not_good_bad : (GoodRun g limit c.arcs.count → ⊥) → GivenBad c limit (after g)
  not_good_bad n =
      ⊎_elim (λ (h : limit < length g). inl h)
      (λ (h : length g ≤ limit).
      ⊎_elim (λ (low : (k : ℕ) → k < length g → get_or g k 0 < c.arcs.count). absurd (n (record { within = h; numbers = low }))) (λ m. inr m)
      (numbers_or_not c.arcs.count g))
      (split (length g) limit)

-- ---- what is asked

module _ (c : Case) (limit : ℕ) (given : Option (Bor (List ℕ))) where
  pub none_good : given ≡ None → GivenBad c limit (asked_of given) → ⊥
  none_good e x = subst (λ (o : Option (Bor (List ℕ))). GivenBad c limit (asked_of o)) e x

  -- a run is given, and so many transitions are counted
  module _ (g : Bor (List ℕ)) (is : given ≡ Some g) (transitions : ℕ) (all : transitions ≡ c.arcs.count) where
    pub some_good : GoodRun g.now limit transitions → GivenBad c limit (asked_of given) → ⊥
    some_good good x =
        good_not_bad c limit g.now (subst (GoodRun g.now limit) all good) (subst (λ (o : Option (Bor (List ℕ))). GivenBad c limit (asked_of o)) is x)

    pub some_bad : (GoodRun g.now limit transitions → ⊥) → GivenBad c limit (asked_of given)
    some_bad n =
        subst (λ (o : Option (Bor (List ℕ))). GivenBad c limit (asked_of o)) (sym is)
        (not_good_bad c limit g.now (λ good. n (subst (GoodRun g.now limit) (sym all) good)))
