-- ANY TWO OUTCOMES THAT A CALL'S DEFINITION ALLOWS ARE EQUAL: `reader_one`, `log_one`, `writer_one`, `verdict_one`, `listing_one`,
-- `replay_one`. Assumes nothing.
use Prim.Native.Nat.{ℕ}
use mathlib.Core.Path.{◌≡◌, refl, sym, ap, ap₂, ◌∙◌, subst}
use mathlib.Core.Bool.{Bool, true, false, true≢false}
use mathlib.Core.List.{List}
use native.Mathlib.Omega.{arith}
use lib.ListN.{length}
use Rattle.rack.specs.Run.{matches}
use Rattle.rack.specs.Verdict.{FirstOfKind, AllOfKind}
use Rattle.rack.specs.Listing.{Asked, NextIs, EndIs}
use Rattle.rack.specs.Layout.{case_of_zeros, ReadsAs}
use Rattle.rack.specs.Refusal.{Own, reader_order, writer_order, verdict_order, listing_order, replay_order, none, also}
use Rattle.rack.specs.Outcome.{of_file, NoneSays, NoneRests, holding}
use Rattle.rack.specs.CaseFileOutcome.{ReaderIs, log_offset, log_stretch, Address, further, LogIs, no_file, WriterSays, no_such_file, room_short, WriterRests, some_file, room_long, WriterIs}
use Rattle.rack.specs.CaseFileOutcome as file
use Rattle.rack.specs.VerdictOutcome.{of_verdict, Fits, TooLong, RunShort, matching_short, other_short, RunsFit, VerdictSays, none-explains, run_short}
use Rattle.rack.specs.VerdictOutcome.{VerdictRests, one_explains, runs_fit, VerdictRefuses, VerdictAccepts, VerdictIs, faulty, safe, ambiguous}
use Rattle.rack.specs.VerdictOutcome as judge
use Rattle.rack.specs.ListingOutcome.{of_listing, NextShort, NextFits, ListingSays, limit_over, given_bad, next_short}
use Rattle.rack.specs.ListingOutcome.{ListingRests, limit_kept, given_fine, next_fits, ListingRefuses, ListingAccepts, ListingIs}
use Rattle.rack.specs.ListingOutcome as list
use Rattle.rack.specs.ReplayOutcome.{replay_of, replay_refused, ReplayIs}
use Rattle.rack.specs.ReplayOutcome as replay
use Rattle.rack.specs.declared.Case.{Case}
use Rattle.rack.specs.declared.Reading.{Reading}
use Rattle.rack.specs.declared.Outcome.TheVariants as Reader
use Rattle.rack.specs.declared.Written.{Written}
use Rattle.rack.specs.declared.Written.TheVariants as Writer
use Rattle.rack.specs.declared.Judged.{Judged}
use Rattle.rack.specs.declared.Verdict.TheVariants as Verdict
use Rattle.rack.specs.declared.Listed.{Listed}
use Rattle.rack.specs.declared.Listed.TheVariants as Listing
use Rattle.rack.specs.declared.Replayed.{Replayed}
use Rattle.rack.proofs.OneReading.{one_case, reads_or_breaks}
use Rattle.rack.proofs.OneFirst.{first_one, next_one}
use Rattle.rack.proofs.OneRefusal.{against, Apart, one_refusal, refuses_or_accepts}

-- ---- reader

none_apart : Apart NoneSays NoneRests
none_apart = record { not_both = λ x y. x; one_beside = λ x y. absurd x }

pub reader_one : {f : List ℕ} {x y : Reading} → ReaderIs f x → ReaderIs f y → x ≡ y
reader_one {f} (file.read a) (file.read b) = ap (λ (c : Case). record { outcome = Reader.Whole; case = c }) (one_case a b)
reader_one {f} (file.read {c} a) (file.refused {n} {m} b) =
    absurd (refuses_or_accepts (of_file f) NoneSays NoneRests none_apart reader_order n m b (also (record { case = c; reads = a; is = tt }) none))
reader_one {f} (file.refused {n} {m} a) (file.read {c} b) =
    absurd (refuses_or_accepts (of_file f) NoneSays NoneRests none_apart reader_order n m a (also (record { case = c; reads = b; is = tt }) none))
reader_one {f} (file.refused {n} {m} a) (file.refused {n = n'} {m = m'} b) =
    let e = one_refusal (of_file f) NoneSays NoneRests none_apart reader_order n m n' m' a b in
    ap₂ (λ (n m : ℕ). record { outcome = Reader.Refused n m; case = case_of_zeros }) e.0 e.1

-- ---- log

-- the bytes, and where they stand
pub log_one : {f l k : List ℕ} {lent a b : Address} → LogIs f lent l a → LogIs f lent k b → (l ≡ k) × (a ≡ b)
log_one {f} {lent = lent} (file.shown p) (file.shown q) =
    let e = one_case p q in
    (ap (log_stretch f) e, ap (λ (c : Case). further lent (log_offset f c)) e)
log_one (file.shown p) (file.refused q) = absurd (reads_or_breaks p q)
log_one (file.refused p) (file.shown q) = absurd (reads_or_breaks q p)
log_one (file.refused p) (file.refused q) = (refl, refl)

-- ---- writer

module _ (c : Case) (room : List ℕ) where
  written_or_not : {k : Own} {m : ℕ} → WriterSays c room k m → WriterRests c room k → ⊥
  written_or_not (no_such_file x) (some_file y) = x y
  written_or_not (room_short x) (room_long y) = omega (arith, x, y)

  written_beside : {k : Own} {m n : ℕ} → WriterSays c room k m → WriterSays c room k n → m ≡ n
  written_beside (no_such_file x) (no_such_file y) = refl
  written_beside (room_short x) (room_short y) = refl

  writer_apart : Apart (WriterSays c room) (WriterRests c room)
  writer_apart = record { not_both = written_or_not; one_beside = written_beside }

pub writer_one : {c : Case} {room : List ℕ} {x y : Written} {a b : List ℕ} → WriterIs c room x a → WriterIs c room y b → (x ≡ y) × (a ≡ b)
writer_one (file.written p) (file.written q) = (refl, refl)
writer_one {c} {room} (file.written p) (file.refused {n} {m} q) =
    absurd (refuses_or_accepts no_file (WriterSays c room) (WriterRests c room) (writer_apart c room) writer_order n m q p)
writer_one {c} {room} (file.refused {n} {m} p) (file.written q) =
    absurd (refuses_or_accepts no_file (WriterSays c room) (WriterRests c room) (writer_apart c room) writer_order n m p q)
writer_one {c} {room} (file.refused {n} {m} p) (file.refused {n = n'} {m = m'} q) =
    let e = one_refusal no_file (WriterSays c room) (WriterRests c room) (writer_apart c room) writer_order n m n' m' p q in
    (ap₂ Writer.Refused e.0 e.1, refl)

-- ---- verdict

-- a run that fits is not too long
fits_or_long : {f room : List ℕ} {k : Bool} {n : ℕ} → Fits f k room → TooLong f k room n → ⊥
fits_or_long h x = omega (arith, h x.case x.run x.reads x.first, x.short)

long_one : {f room : List ℕ} {k : Bool} {m n : ℕ} → TooLong f k room m → TooLong f k room n → m ≡ n
long_one {k = k} x y =
    let e = first_one x.first (subst (λ (c : Case). FirstOfKind c k y.run) (one_case y.reads x.reads) y.first) in
    x.needed ∙ ap length e ∙ sym y.needed

module _ (f matching other work : List ℕ) where
  short_one : {m n : ℕ} → RunShort f matching other m → RunShort f matching other n → m ≡ n
  short_one (matching_short x) (matching_short y) = long_one x y
  short_one (matching_short x) (other_short h y) = absurd (fits_or_long h x)
  short_one (other_short h x) (matching_short y) = absurd (fits_or_long h y)
  short_one (other_short h x) (other_short k y) = long_one x y

  short_or_fit : {m : ℕ} → RunShort f matching other m → RunsFit f matching other → ⊥
  short_or_fit (matching_short x) y = fits_or_long y.matching_fits x
  short_or_fit (other_short h x) y = fits_or_long y.other_fits x

  judged_or_not : {k : Own} {m : ℕ} → VerdictSays f matching other k m → VerdictRests f matching other k → ⊥
  judged_or_not (none-explains x) (one_explains y) = against (λ c a b. a b.0 b.1) x y
  judged_or_not (run_short x) (runs_fit y) = short_or_fit x y

  judged_beside : {k : Own} {m n : ℕ} → VerdictSays f matching other k m → VerdictSays f matching other k n → m ≡ n
  judged_beside (none-explains x) (none-explains y) = refl
  judged_beside (run_short x) (run_short y) = short_one x y

  verdict_apart : Apart (VerdictSays f matching other) (VerdictRests f matching other)
  verdict_apart = record { not_both = judged_or_not; one_beside = judged_beside }

  pub not_both : {n m : ℕ} → VerdictRefuses f matching other work n m → VerdictAccepts f matching other work → ⊥
  not_both {n} {m} = refuses_or_accepts (of_verdict f work) (VerdictSays f matching other) (VerdictRests f matching other) verdict_apart verdict_order n m

  -- a run of the one kind, where every explanation is of the other
  clash : {c d : Case} {r : List ℕ} {k j : Bool} → (k ≡ j → ⊥) → ReadsAs f c → ReadsAs f d → FirstOfKind c k r → AllOfKind d j → ⊥
  clash {c} {d} {r} {k} {j} ne p q x y =
      let all : AllOfKind c j = subst (λ (e : Case). AllOfKind e j) (one_case q p) y in
      ne (sym x.kind ∙ all r x.explains)

  same_run : {c d : Case} {r s : List ℕ} {k : Bool} → ReadsAs f c → ReadsAs f d → FirstOfKind c k r → FirstOfKind d k s → r ≡ s
  same_run {c} {d} {r} {s} {k} p q x y = first_one x (subst (λ (e : Case). FirstOfKind e k s) (one_case q p) y)

  false≢true : false ≡ true → ⊥
  false≢true e = true≢false (sym e)

  abbrev judged : List ℕ → List ℕ → Judged
  judged r s = record { verdict = Verdict.Ambiguous; matching = length r; other = length s }

  pub verdict_one : {x y : Judged} {a b w a' b' w' : List ℕ} → VerdictIs f matching other work x a b w → VerdictIs f matching other work y a' b' w'
      → (x ≡ y) × (a ≡ a') × (b ≡ b') × (w ≡ w')
  verdict_one (faulty g p u) (faulty h q v) =
      let e = same_run p q u.shows v.shows in
      (ap (λ (r : List ℕ). record { verdict = Verdict.Faulty; matching = length r; other = 0 }) e, ap (λ (r : List ℕ). holding r matching) e, refl, refl)
  verdict_one (faulty g p u) (safe h q v) = absurd (clash true≢false p q u.shows v.all)
  verdict_one (faulty g p u) (ambiguous h q v) = absurd (clash false≢true q p v.other u.all)
  verdict_one (faulty g p u) (judge.refused q) = absurd (not_both q g)
  verdict_one (safe g p u) (faulty h q v) = absurd (clash true≢false q p v.shows u.all)
  verdict_one (safe g p u) (safe h q v) =
      let e = same_run p q u.shows v.shows in
      (ap (λ (s : List ℕ). record { verdict = Verdict.Safe; matching = 0; other = length s }) e, refl, ap (λ (s : List ℕ). holding s other) e, refl)
  verdict_one (safe g p u) (ambiguous h q v) = absurd (clash true≢false q p v.matching u.all)
  verdict_one (safe g p u) (judge.refused q) = absurd (not_both q g)
  verdict_one (ambiguous g p u) (faulty h q v) = absurd (clash false≢true p q u.other v.all)
  verdict_one (ambiguous g p u) (safe h q v) = absurd (clash true≢false p q u.matching v.all)
  verdict_one (ambiguous g p u) (ambiguous h q v) =
      let d = same_run p q u.matching v.matching in
      let e = same_run p q u.other v.other in
      (ap₂ judged d e, ap (λ (r : List ℕ). holding r matching) d, ap (λ (s : List ℕ). holding s other) e, refl)
  verdict_one (ambiguous g p u) (judge.refused q) = absurd (not_both q g)
  verdict_one (judge.refused p) (faulty h q v) = absurd (not_both p h)
  verdict_one (judge.refused p) (safe h q v) = absurd (not_both p h)
  verdict_one (judge.refused p) (ambiguous h q v) = absurd (not_both p h)
  verdict_one (judge.refused {n} {m} p) (judge.refused {n = n'} {m = m'} q) =
      let e = one_refusal (of_verdict f work) (VerdictSays f matching other) (VerdictRests f matching other) verdict_apart verdict_order n m n' m' p q in
      (ap₂ (λ (n m : ℕ). record { verdict = Verdict.Refused n m; matching = 0; other = 0 }) e.0 e.1, refl, refl, refl)

-- ---- listing

module _ (f : List ℕ) (limit : ℕ) (asked : Asked) (room work : List ℕ) where
  same_next : {c d : Case} {r s : List ℕ} → ReadsAs f c → ReadsAs f d → NextIs c limit asked r → NextIs d limit asked s → (c ≡ d) × (r ≡ s)
  same_next {c} {d} {r} {s} p q x y = (one_case p q, next_one x (subst (λ (e : Case). NextIs e limit asked s) (one_case q p) y))

  next_or_fits : {m : ℕ} → NextShort f limit asked room m → NextFits f limit asked room → ⊥
  next_or_fits x h = omega (arith, h x.case x.run x.reads x.next, x.short)

  next_beside : {m n : ℕ} → NextShort f limit asked room m → NextShort f limit asked room n → m ≡ n
  next_beside x y = x.needed ∙ ap length (same_next x.reads y.reads x.next y.next).1 ∙ sym y.needed

  listed_or_not : {k : Own} {m : ℕ} → ListingSays f limit asked room k m → ListingRests f limit asked room k → ⊥
  listed_or_not (limit_over x) (limit_kept y) = omega (arith, x, y)
  listed_or_not (given_bad x) (given_fine y) = against (λ c a b. b a) x y
  listed_or_not (next_short x) (next_fits y) = next_or_fits x y

  listed_beside : {k : Own} {m n : ℕ} → ListingSays f limit asked room k m → ListingSays f limit asked room k n → m ≡ n
  listed_beside (limit_over x) (limit_over y) = refl
  listed_beside (given_bad x) (given_bad y) = refl
  listed_beside (next_short x) (next_short y) = next_beside x y

  listing_apart : Apart (ListingSays f limit asked room) (ListingRests f limit asked room)
  listing_apart = record { not_both = listed_or_not; one_beside = listed_beside }

  pub not_listed : {n m : ℕ} → ListingRefuses f limit asked room work n m → ListingAccepts f limit asked room work → ⊥
  not_listed {n} {m} = refuses_or_accepts (of_listing f work) (ListingSays f limit asked room) (ListingRests f limit asked room) listing_apart listing_order n m

  -- the run given is marked in one way, and there is none at the end
  marked_one : {c d : Case} {r s : List ℕ} → ReadsAs f c → ReadsAs f d → NextIs c limit asked r → NextIs d limit asked s → matches c r ≡ true → matches d s ≡ false → ⊥
  marked_one {c} {d} {r} {s} p q x y u v = let e = same_next p q x y in true≢false (sym u ∙ ap₂ matches e.0 e.1 ∙ v)

  not_at_end : {c d : Case} {r : List ℕ} → ReadsAs f c → ReadsAs f d → NextIs c limit asked r → EndIs d limit asked → ⊥
  not_at_end {c} {d} {r} p q x y = subst (λ (e : Case). EndIs e limit asked) (one_case q p) y r x.explains x.within x.later_than

  pub listing_one : {x y : Listed} {a w a' w' : List ℕ} → ListingIs f limit asked room work x a w → ListingIs f limit asked room work y a' w' → (x ≡ y) × (a ≡ a') × (w ≡ w')
  listing_one (list.matching g p u s) (list.matching h q v t) =
      let e = (same_next p q u v).1 in
      (ap (λ (r : List ℕ). Listing.Matching (length r)) e, ap (λ (r : List ℕ). holding r room) e, refl)
  listing_one (list.matching g p u s) (list.other h q v t) = absurd (marked_one p q u v s t)
  listing_one (list.matching g p u s) (list.end h q v) = absurd (not_at_end p q u v)
  listing_one (list.matching g p u s) (list.refused q) = absurd (not_listed q g)
  listing_one (list.other g p u s) (list.matching h q v t) = absurd (marked_one q p v u t s)
  listing_one (list.other g p u s) (list.other h q v t) =
      let e = (same_next p q u v).1 in
      (ap (λ (r : List ℕ). Listing.Other (length r)) e, ap (λ (r : List ℕ). holding r room) e, refl)
  listing_one (list.other g p u s) (list.end h q v) = absurd (not_at_end p q u v)
  listing_one (list.other g p u s) (list.refused q) = absurd (not_listed q g)
  listing_one (list.end g p u) (list.matching h q v t) = absurd (not_at_end q p v u)
  listing_one (list.end g p u) (list.other h q v t) = absurd (not_at_end q p v u)
  listing_one (list.end g p u) (list.end h q v) = (refl, refl, refl)
  listing_one (list.end g p u) (list.refused q) = absurd (not_listed q g)
  listing_one (list.refused p) (list.matching h q v t) = absurd (not_listed p h)
  listing_one (list.refused p) (list.other h q v t) = absurd (not_listed p h)
  listing_one (list.refused p) (list.end h q v) = absurd (not_listed p h)
  listing_one (list.refused {n} {m} p) (list.refused {n = n'} {m = m'} q) =
      let e = one_refusal (of_listing f work) (ListingSays f limit asked room) (ListingRests f limit asked room) listing_apart listing_order n m n' m' p q in
      (ap₂ Listing.Refused e.0 e.1, refl, refl)

-- ---- replay

pub replay_one : {f run : List ℕ} {budget : ℕ} {x y : Replayed} → ReplayIs f run budget x → ReplayIs f run budget y → x ≡ y
replay_one {f} {run} {budget} (replay.replayed g p) (replay.replayed h q) = ap (λ (c : Case). replay_of c run budget) (one_case p q)
replay_one {f} (replay.replayed g p) (replay.refused {n} {m} q) = absurd (refuses_or_accepts (of_file f) NoneSays NoneRests none_apart replay_order n m q g)
replay_one {f} (replay.refused {n} {m} p) (replay.replayed h q) = absurd (refuses_or_accepts (of_file f) NoneSays NoneRests none_apart replay_order n m p h)
replay_one {f} (replay.refused {n} {m} p) (replay.refused {n = n'} {m = m'} q) =
    let e = one_refusal (of_file f) NoneSays NoneRests none_apart replay_order n m n' m' p q in
    ap₂ replay_refused e.0 e.1
