-- A test that settles that a file reads as a case, by reading it. Assumes nothing.
use Prim.Native.Nat.{ℕ, zero, suc, ◌+◌, ◌-◌}
use mathlib.Core.Path.{◌≡◌, refl, subst}
use mathlib.Core.Bool.{Bool, true, false, ◌&&◌, ◌||◌}
use mathlib.Core.List.{List, [], ◌∷◌}
use mathlib.Core.Logic.{◌⊎◌, inl, inr, ⊎_elim}
use Rattle.std.proofs.Common.{Option, Some, None}
use lib.ListN.{length, get_or}
use lib.Dec.{T, ltb, leb, eqb, ltb→lt, leb→le, eqb→eq}
use Rattle.walks.specs.Below.{pick, all_below, every}
use Rattle.walks.proofs.Tests.{and_left, and_right, or_cases, is_true, of_true, all_of, part}
use Rattle.rack.specs.Bytes.{byte, at_most, rising, list_at, list_end, ListIs}
use Rattle.rack.specs.Bytes as bytes
use Rattle.rack.specs.Marks.{mark_found, can_follow}
use Rattle.rack.specs.Records.{NetIs, net_end, ArcsIs, PrIs, PairRises, QfIs, bounds, qf_end, LgIs, observed}
use Rattle.rack.specs.Layout.{FieldsAre, end_at, added, RecordIs, case_of_zeros, whole, Reads, done, next, ReadsAs}
use Rattle.rack.specs.declared.Case.{Case}
use Rattle.rack.specs.declared.Pairs.{Pairs}
use Rattle.rack.specs.declared.Mark.{Mark}
use Rattle.rack.specs.declared.Mark.TheVariants.{Nt, Tr, Pr, Ob, Pt, Px, Qf, Lg, En}

unfoldable pub list_tests : ℕ → List ℕ → ℕ → List Bool
list_tests b f a = ltb a (length f) ∷ leb (list_end f a) (length f) ∷ rising 0 b (list_at f a) ∷ []

list_of : {b : ℕ} {f : List ℕ} {a : ℕ} → T (all_of (list_tests b f a)) → ListIs b f a
unfolding list_tests
list_of {b} {f} {a} t =
    let l = list_tests b f a in
    record { starts = ltb→lt a (length f) (part l t 0); ends = leb→le (list_end f a) (length f) (part l t 1); rises = is_true _ (part l t 2) }

unfoldable pub net_tests : ℕ → List ℕ → ℕ → List Bool
net_tests most f a =
    leb (a + 4) (length f)
    ∷ leb 1 (byte f (a + 2))
    ∷ leb (byte f (a + 2)) most
    ∷ leb 1 (byte f (a + 3))
    ∷ leb (byte f (a + 3)) 15
    ∷ leb (net_end f a) (length f)
    ∷ every (at_most (byte f (a + 3))) (bytes.part f (a + 4) (byte f (a + 2)))
    ∷ []

net_of : {most : ℕ} {f : List ℕ} {a : ℕ} → T (all_of (net_tests most f a)) → NetIs most f a
unfolding net_tests
net_of {most} {f} {a} t =
    let l = net_tests most f a in
    record {
      starts = leb→le (a + 4) (length f) (part l t 0);
      some = leb→le 1 (byte f (a + 2)) (part l t 1);
      few = leb→le (byte f (a + 2)) most (part l t 2);
      cap = leb→le 1 (byte f (a + 3)) (part l t 3);
      low = leb→le (byte f (a + 3)) 15 (part l t 4);
      ends = leb→le (net_end f a) (length f) (part l t 5);
      within = is_true _ (part l t 6);
    }

unfoldable pub arcs_tests : ℕ → ℕ → ℕ → List ℕ → ℕ → List Bool
arcs_tests most places count f a =
    ltb count most ∷ ltb (a + 2) (length f) ∷ ltb (byte f (a + 2)) 32 ∷ all_of (list_tests places f (a + 3)) ∷ all_of (list_tests places f (list_end f (a + 3))) ∷ []

arcs_of : {most places count : ℕ} {f : List ℕ} {a : ℕ} → T (all_of (arcs_tests most places count f a)) → ArcsIs most places count f a
unfolding arcs_tests
arcs_of {most} {places} {count} {f} {a} t =
    let l = arcs_tests most places count f a in
    record {
      few = ltb→lt count most (part l t 0);
      starts = ltb→lt (a + 2) (length f) (part l t 1);
      label = ltb→lt (byte f (a + 2)) 32 (part l t 2);
      inputs = list_of (part l t 3);
      outputs = list_of (part l t 4);
    }

unfoldable pub rises_test : Pairs → ℕ → ℕ → Bool
rises_test c x y =
    eqb c.count 0
    || (ltb (get_or c.higher (c.count - 1) 0) x || (eqb (get_or c.higher (c.count - 1) 0) x && ltb (get_or c.lower (c.count - 1) 0) y))

rises_of : (c : Pairs) (x y : ℕ) → T (rises_test c x y) → (c.count ≡ 0) ⊎ PairRises c x y
unfolding rises_test
rises_of c x y t =
    let hi = get_or c.higher (c.count - 1) 0 in
    let lo = get_or c.lower (c.count - 1) 0 in
    ⊎_elim (λ u. inl (eqb→eq c.count 0 u))
    (λ u. inr (⊎_elim (λ v. inl (ltb→lt hi x v)) (λ v. inr (eqb→eq hi x (and_left (eqb hi x) (ltb lo y) v), ltb→lt lo y (and_right (eqb hi x) (ltb lo y) v))) (or_cases (ltb hi x) (eqb hi x && ltb lo y) u)))
    (or_cases (eqb c.count 0) (ltb hi x || (eqb hi x && ltb lo y)) t)

unfoldable pub pr_tests : ℕ → Pairs → List ℕ → ℕ → List Bool
pr_tests transitions c f a =
    ltb c.count 32 ∷ leb (a + 4) (length f) ∷ ltb (byte f (a + 2)) transitions ∷ ltb (byte f (a + 3)) transitions ∷ rises_test c (byte f (a + 2)) (byte f (a + 3)) ∷ []

pr_of : {transitions : ℕ} {c : Pairs} {f : List ℕ} {a : ℕ} → T (all_of (pr_tests transitions c f a)) → PrIs transitions c f a
unfolding pr_tests
pr_of {transitions} {c} {f} {a} t =
    let l = pr_tests transitions c f a in
    record {
      few = ltb→lt c.count 32 (part l t 0);
      ends = leb→le (a + 4) (length f) (part l t 1);
      higher = ltb→lt (byte f (a + 2)) transitions (part l t 2);
      lower = ltb→lt (byte f (a + 3)) transitions (part l t 3);
      rises = rises_of c (byte f (a + 2)) (byte f (a + 3)) (part l t 4);
    }

unfoldable pub qf_tests : ℕ → ℕ → ℕ → List ℕ → ℕ → List Bool
qf_tests places cap count f a = ltb count 8 ∷ leb (qf_end places a) (length f) ∷ all_below places (bounds f a cap) ∷ []

qf_of : {places cap count : ℕ} {f : List ℕ} {a : ℕ} → T (all_of (qf_tests places cap count f a)) → QfIs places cap count f a
unfolding qf_tests
qf_of {places} {cap} {count} {f} {a} t =
    let l = qf_tests places cap count f a in
    record { few = ltb→lt count 8 (part l t 0); ends = leb→le (qf_end places a) (length f) (part l t 1); each = is_true _ (part l t 2) }

unfoldable pub lg_tests : List ℕ → List ℕ → ℕ → List Bool
lg_tests flags f a = ltb (a + 2) (length f) ∷ leb (byte f (a + 2)) 40 ∷ leb (list_end f (a + 2)) (length f) ∷ every (observed flags) (list_at f (a + 2)) ∷ []

lg_of : {flags f : List ℕ} {a : ℕ} → T (all_of (lg_tests flags f a)) → LgIs flags f a
unfolding lg_tests
lg_of {flags} {f} {a} t =
    let l = lg_tests flags f a in
    record {
      starts = ltb→lt (a + 2) (length f) (part l t 0);
      few = leb→le (byte f (a + 2)) 40 (part l t 1);
      ends = leb→le (list_end f (a + 2)) (length f) (part l t 2);
      observable = is_true _ (part l t 3);
    }

-- the fields of a record are right
unfoldable pub fields_test : Mark → Case → List ℕ → ℕ → Bool
fields_test Nt c f a = all_of (net_tests 16 f a)
fields_test Tr c f a = all_of (arcs_tests 48 c.net.places c.arcs.count f a)
fields_test Pr c f a = all_of (pr_tests c.arcs.count c.pairs f a)
fields_test Ob c f a = all_of (list_tests 32 f (a + 2))
fields_test Pt c f a = all_of (net_tests 8 f a)
fields_test Px c f a = all_of (arcs_tests 16 c.pattern.places c.links.count f a)
fields_test Qf c f a = all_of (qf_tests c.pattern.places c.pattern.cap c.bounds.count f a)
fields_test Lg c f a = all_of (lg_tests c.observable.flags f a)
fields_test En c f a = true

fields_of : (m : Mark) (c : Case) (f : List ℕ) (a : ℕ) → T (fields_test m c f a) → FieldsAre m c f a
unfolding fields_test
fields_of Nt c f a t = net_of t
fields_of Tr c f a t = arcs_of t
fields_of Pr c f a t = pr_of t
fields_of Ob c f a t = list_of t
fields_of Pt c f a t = net_of t
fields_of Px c f a t = arcs_of t
fields_of Qf c f a t = qf_of t
fields_of Lg c f a t = lg_of t
fields_of En c f a t = tt

-- EN has come
abbrev pub en_came : Option Mark → Bool
en_came (Some En) = true
en_came _ = false

came : (k : Option Mark) → T (en_came k) → k ≡ Some En
came None t = absurd t
came (Some Nt) t = absurd t
came (Some Tr) t = absurd t
came (Some Pr) t = absurd t
came (Some Ob) t = absurd t
came (Some Pt) t = absurd t
came (Some Px) t = absurd t
came (Some Qf) t = absurd t
came (Some Lg) t = absurd t
came (Some En) t = refl

-- what the rest gives, where a right record of the mark that was found stands
unfoldable pub after_right : Option Mark → Option Mark → Case → List ℕ → ℕ → (Mark → Option Case) → Option Case
after_right None k c f a rest = None
after_right (Some m) k c f a rest = let r = rest m in pick (can_follow k m && fields_test m c f a) r None

-- reading on, with the first number as a bound on the records
unfoldable pub parse : ℕ → List ℕ → Option Mark → Case → ℕ → Option Case
parse zero f k c a = None
parse (suc n) f k c a =
    let r = after_right (mark_found f a) k c f a (λ m. parse n f (Some m) (added m c f a) (end_at m c f a)) in
    pick (en_came k && eqb a (length f)) (Some c) r

same_some : {c e : Case} → ◌≡◌ {A = Option Case} (Some c) (Some e) → c ≡ e
same_some q = cc

-- a right record stands there, and the rest gives e
record Onward (f : List ℕ) (k : Option Mark) (c : Case) (a : ℕ) (rest : Mark → Option Case) (e : Case) : Type 0 where
  mark : Mark
  right : RecordIs k c f a mark
  then : rest mark ≡ Some e

onward : (f : List ℕ) (k : Option Mark) (c : Case) (a : ℕ) (rest : Mark → Option Case) (e : Case) (o : Option Mark) → mark_found f a ≡ o
    → after_right o k c f a rest ≡ Some e → Onward f k c a rest e
unfolding after_right
onward f k c a rest e None found q = cc
onward f k c a rest e (Some m) found q = go (can_follow k m && fields_test m c f a) refl q
  where
    go : (b : Bool) → (can_follow k m && fields_test m c f a) ≡ b → pick b (rest m) None ≡ Some e → Onward f k c a rest e
    go true y q =
        let t = of_true (can_follow k m && fields_test m c f a) y in
        record {
          mark = m;
          right = record {
            found = found;
            follows = is_true _ (and_left (can_follow k m) (fields_test m c f a) t);
            fields = fields_of m c f a (and_right (can_follow k m) (fields_test m c f a) t);
          };
          then = q;
        }
    go false y q = cc

parse_reads : (n : ℕ) (f : List ℕ) (k : Option Mark) (c : Case) (a : ℕ) (e : Case) → parse n f k c a ≡ Some e → Reads f k c a (whole e)
unfolding parse
parse_reads zero f k c a e q = cc
parse_reads (suc n) f k c a e q =
    go (en_came k && eqb a (length f)) refl (λ m. parse_reads n f (Some m) (added m c f a) (end_at m c f a) e) q
  where
    go : (b : Bool) → (en_came k && eqb a (length f)) ≡ b
        → ((m : Mark) → parse n f (Some m) (added m c f a) (end_at m c f a) ≡ Some e → Reads f (Some m) (added m c f a) (end_at m c f a) (whole e))
        → pick b (Some c) (after_right (mark_found f a) k c f a (λ m. parse n f (Some m) (added m c f a) (end_at m c f a))) ≡ Some e → Reads f k c a (whole e)
    go true x rec q =
        let t = of_true (en_came k && eqb a (length f)) x in
        subst (λ (u : Case). Reads f k c a (whole u)) (same_some q) (done (came k (and_left (en_came k) (eqb a (length f)) t)) (eqb→eq a (length f) (and_right (en_came k) (eqb a (length f)) t)))
    go false x rec q =
        let o = onward f k c a (λ m. parse n f (Some m) (added m c f a) (end_at m c f a)) e (mark_found f a) refl q in
        next o.right (rec o.mark o.then)

-- what is parsed is read
pub parsed : {f : List ℕ} {c : Case} → parse 200 f None case_of_zeros 0 ≡ Some c → ReadsAs f c
parsed {f} {c} q = record { reads = parse_reads 200 f None case_of_zeros 0 c q }
