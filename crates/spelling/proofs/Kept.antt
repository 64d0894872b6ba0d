-- What holds of the case so far while a file is read: its bytes are those read, and kinds that have not come yet have left nothing.
-- That its counts keep the limits and its lists their lengths is the law of the case file's meaning, WellFormed.
-- Assumes nothing.
use mathlib.Core.Path.{◌≡◌, refl}
use mathlib.Core.List.{List, []}
use Prim.Native.Nat.{ℕ, ◌+◌, ◌≤◌}
use native.Mathlib.Omega.{arith}
use native.Mathlib.Numerals.{add-one}
use lib.ListN.{length, take}
use Rattle.std.proofs.Common.{Option, Some, None}
use Rattle.rack.specs.Marks.{number_of}
use Rattle.rack.specs.Records.{arcs_says}
use Rattle.rack.specs.Layout.{case_of_zeros, FieldsAre, end_at, added, RecordIs}
use Rattle.rack.specs.Writing.{up_to, tr_bytes, px_bytes}
use Rattle.rack.specs.declared.Case.{Case}
use Rattle.rack.specs.declared.Mark.{Mark}
use Rattle.rack.specs.declared.Mark.TheVariants.{Nt, Tr, Pr, Ob, Pt, Px, Qf, Lg, En}
use Rattle.rack.proofs.OneReading.{mark_whole}
use Rattle.rack.proofs.WellFormed.{stage, Timely, in_time, start_kept, keeps}
use Rattle.rack.proofs.WellFormed as Formed
use Rattle.spelling.proofs.Letters.{LettersOf, letters_at, letters_spell}
use Rattle.spelling.proofs.ArcRows.{arcs_join, arc_spells}
use Rattle.spelling.proofs.Singles.{nt_spells, pt_spells, ob_spells, lg_spells, pairs_join, pair_spells}
use Rattle.spelling.proofs.BoundRows.{bounds_join, bound_spells}
use Rattle.spelling.proofs.TableRule.{repeats, reachable, in_order, reachable_few}
use Rattle.spelling.proofs.Segments.{segments, segment, so_far, Unread, up_to_here, join, close}

-- ---- what has not come yet

all_read : (n : ℕ) (c : Case) → 7 ≤ n → Unread n c
all_read n c h = record { arcs = λ l. absurd (omega arith); pairs = λ l. absurd (omega arith); links = λ l. absurd (omega arith); bounds = λ l. absurd (omega arith) }

unread_kept : (m : Mark) (f : List ℕ) (n : ℕ) (c : Case) (a : ℕ) → n ≤ number_of m + 1 → Unread n c → Unread (number_of m + 1) (added m c f a)
unread_kept Nt f n c a h u = record { arcs = λ _. u.arcs h; pairs = λ _. u.pairs (omega arith); links = λ _. u.links (omega arith); bounds = λ _. u.bounds (omega arith) }
unread_kept Tr f n c a h u = record { arcs = λ l. absurd (omega arith); pairs = λ _. u.pairs h; links = λ _. u.links (omega arith); bounds = λ _. u.bounds (omega arith) }
unread_kept Pr f n c a h u =
    record { arcs = λ l. absurd (omega arith); pairs = λ l. absurd (omega arith); links = λ _. u.links (omega arith); bounds = λ _. u.bounds (omega arith) }
unread_kept Ob f n c a h u =
    record { arcs = λ l. absurd (omega arith); pairs = λ l. absurd (omega arith); links = λ _. u.links (omega arith); bounds = λ _. u.bounds (omega arith) }
unread_kept Pt f n c a h u = record { arcs = λ l. absurd (omega arith); pairs = λ l. absurd (omega arith); links = λ _. u.links h; bounds = λ _. u.bounds (omega arith) }
unread_kept Px f n c a h u = record { arcs = λ l. absurd (omega arith); pairs = λ l. absurd (omega arith); links = λ l. absurd (omega arith); bounds = λ _. u.bounds h }
unread_kept Qf f n c a h u = all_read 7 (added Qf c f a) (omega arith)
unread_kept Lg f n c a h u = all_read 8 (added Lg c f a) (omega arith)
unread_kept En f n c a h u = all_read 9 c (omega arith)

-- ---- the bytes

bytes_kept : (m : Mark) (f : List ℕ) (s : ℕ) (c : Case) (a : ℕ) → a + 2 ≤ length f → LettersOf m f a → Timely m s → FieldsAre m c f a → Formed.Kept s c
    → up_to (reachable (number_of m)) (segment c) ≡ take a f → so_far (Some m) (added m c f a) ≡ take (end_at m c f a) f
unfolding so_far reachable repeats segment segments up_to tr_bytes px_bytes arcs_says
bytes_kept Nt f s c a h le t w k e = close [] e (nt_spells f a le w)
bytes_kept Tr f s c a h le t w k e =
    let d = c.arcs in
    join (up_to 1 (segment c)) (segment c 1) _ e
    (arcs_join 84 82 16 48 c.net.places d.count d.labels d.pre d.post f a (k.system.net t.low).few k.system.arcs w)
    (arc_spells 84 82 16 48 c.net.places d.count d.labels d.pre d.post f a (k.system.net t.low).few k.system.arcs w le)
bytes_kept Pr f s c a h le t w k e =
    join (up_to 2 (segment c)) (segment c 2) _ e (pairs_join c.arcs.count c.pairs f a k.system.pairs w) (pair_spells c.arcs.count c.pairs f a k.system.pairs w le)
bytes_kept Ob f s c a h le t w k e = close (up_to 3 (segment c)) e (ob_spells f a le w)
bytes_kept Pt f s c a h le t w k e = close (up_to 4 (segment c)) e (pt_spells f a le w)
bytes_kept Px f s c a h le t w k e =
    let d = c.links in
    join (up_to 5 (segment c)) (segment c 5) _ e
    (arcs_join 80 88 8 16 c.pattern.places d.count d.labels d.pre d.post f a (k.pattern.net t.low).few k.pattern.links w)
    (arc_spells 80 88 8 16 c.pattern.places d.count d.labels d.pre d.post f a (k.pattern.net t.low).few k.pattern.links w le)
bytes_kept Qf f s c a h le t w k e =
    join (up_to 6 (segment c)) (segment c 6) _ e
    (bounds_join c.pattern.places c.pattern.cap c.bounds f a (k.pattern.net t.low).few k.pattern.bounds w)
    (bound_spells c.pattern.places c.pattern.cap c.bounds f a (k.pattern.net t.low).few k.pattern.bounds w le)
bytes_kept Lg f s c a h le t w k e = close (up_to 7 (segment c)) e (lg_spells f a c.observable.flags le w)
bytes_kept En f s c a h le t w k e = close (up_to 8 (segment c)) e (letters_spell f a 69 78 le h)

-- ---- all of it, after a record of mark k and up to a

pub record Kept (f : List ℕ) (k : Option Mark) (c : Case) (a : ℕ) : Type 0 where
  pub bytes : so_far k c ≡ take a f
  pub unread : Unread (stage k) c
  pub formed : Formed.Kept (stage k) c

-- it holds after the next record
pub kept_next : {f : List ℕ} {k : Option Mark} {c : Case} {a : ℕ} {m : Mark} → RecordIs k c f a m → Kept f k c a → Kept f (Some m) (added m c f a) (end_at m c f a)
kept_next {f} {k} {c} {a} {m} w s =
    let o = in_order k m w.follows in
    let t = in_time m k w.follows in
    let e = up_to_here f a k (number_of m) c o s.unread s.bytes in
    let l : stage k ≤ number_of m + 1 = omega (arith, o.least, reachable_few (number_of m)) in
    record {
      bytes = bytes_kept m f (stage k) c a (mark_whole f a m w.found) (letters_at f a w.found) t w.fields s.formed e;
      unread = rw (← add-one (number_of m)) (unread_kept m f (stage k) c a l s.unread);
      formed = keeps m f (stage k) c a t w.fields s.formed;
    }

-- it holds at the start
pub kept_first : (f : List ℕ) → Kept f None case_of_zeros 0
unfolding case_of_zeros so_far up_to
kept_first f =
    record {
      bytes = refl;
      unread = record { arcs = λ _. refl; pairs = λ _. refl; links = λ _. refl; bounds = λ _. refl };
      formed = start_kept;
    }
