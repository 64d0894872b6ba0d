-- THE ROUND TRIP: what is read and written again is the same bytes, what is written and read is the same case, of the layout (`read_written`,
-- `written_read`) and of the two calls (`read_then_write`, `write_then_read`); one case has one file, none longer than 2,496 bytes.
-- Assumes nothing.
use mathlib.Core.Path.{◌≡◌, refl, sym, ap, ap₂, ◌∙◌, subst}
use mathlib.Core.List.{List}
use Prim.Native.Nat.{ℕ, ◌≤◌}
use native.Mathlib.Omega.{arith}
use lib.ListN.{length, take, drop}
use lib.Seq.{take-length, take-append_seam}
use Rattle.rack.specs.Layout.{case_of_zeros, whole, Reads, done, next, ReadsAs}
use Rattle.rack.specs.Writing.{bytes_of, Writable}
use Rattle.rack.specs.Refusal.{none, also}
use Rattle.rack.specs.Outcome.{holding}
use Rattle.rack.specs.CaseFileOutcome.{longest_file, ReaderIs, some_file, room_long, WriterIs}
use Rattle.rack.specs.CaseFileOutcome as file
use Rattle.rack.specs.declared.Case.{Case}
use Rattle.rack.specs.declared.Mark.{Mark}
use Rattle.std.proofs.Common.{Option, None}
use Rattle.rack.specs.declared.Reading.{Reading}
use Rattle.rack.specs.declared.Outcome.TheVariants as Reader
use Rattle.rack.specs.declared.Written.{Written}
use Rattle.rack.specs.declared.Written.TheVariants as Writer
use Rattle.rack.proofs.OneOutcome.{reader_one, writer_one}
use Rattle.rack.proofs.WellFormed.{well_formed}
use Rattle.reader.proofs.Given.{given_whole}
use Rattle.spelling.specs.Limits.{Limits}
use Rattle.spelling.proofs.Segments.{so_far, all_segments}
use Rattle.spelling.proofs.Kept.{Kept, kept_next, kept_first}
use Rattle.spelling.proofs.Lengths.{bytes_few}

from_here : (f : List ℕ) (k : Option Mark) (c : Case) (a : ℕ) (e : Case) → Reads f k c a (whole e) → Kept f k c a → bytes_of e ≡ f
from_here f k c a e (done u v) s = all_segments e ∙ sym (ap (λ (k : Option Mark). so_far k e) u) ∙ s.bytes ∙ ap (λ (a : ℕ). take a f) v ∙ take-length f
from_here f k c a e (next w r) s = from_here f _ _ _ e r (kept_next w s)

-- READ, THEN WRITTEN: the same bytes
pub read_written : {f : List ℕ} {c : Case} → ReadsAs f c → bytes_of c ≡ f
read_written {f} {c} r = from_here f None case_of_zeros 0 c r.reads (kept_first f)

-- WRITTEN, THEN READ: the same case
pub written_read : {c : Case} → Writable c → ReadsAs (bytes_of c) c
written_read {c} w = subst (λ (f : List ℕ). ReadsAs f c) (sym (read_written w.reads)) w.reads

-- two files that read as one case are the same file
pub one_file : {f g : List ℕ} {c : Case} → ReadsAs f c → ReadsAs g c → f ≡ g
one_file r s = sym (read_written r) ∙ read_written s

-- what is read is within the limits
pub read_limits : {f : List ℕ} {c : Case} → ReadsAs f c → Limits c
read_limits r =
    let w = well_formed r in
    record {
      places = w.net.few;
      arcs = w.arcs.names.few;
      pairs = w.pairs.highers.few;
      pattern = w.pattern.few;
      links = w.links.names.few;
      bounds = w.bounds.few;
      log = w.log.names.few;
    }

-- "The longest file has 2,496 bytes."
pub longest : {f : List ℕ} {c : Case} → ReadsAs f c → length f ≤ longest_file
longest {f} {c} r = subst (λ (l : List ℕ). length l ≤ longest_file) (read_written r) (bytes_few c (read_limits r))

-- ---- the same of the two calls

-- what the writer has put at the front of the room, given to the reader: the case that was written, whole
pub write_then_read : {c : Case} {room a : List ℕ} {n : ℕ} {x : Reading} → WriterIs c room (Writer.Bytes n) a → ReaderIs (take n a) x
    → x ≡ record { outcome = Reader.Whole; case = c }
write_then_read {c} {room} {a} {n} {x} w r = go w refl refl
  where
    go : {y : Written} {b : List ℕ} → WriterIs c room y b → y ≡ Writer.Bytes n → a ≡ b → x ≡ record { outcome = Reader.Whole; case = c }
    go (file.written (also (some_file u) v)) e q =
        let d : length (bytes_of c) ≡ n = cc in
        let front : take n a ≡ bytes_of c = ap₂ take (sym d) q ∙ take-append_seam (bytes_of c) (drop (length (bytes_of c)) room) in
        reader_one (subst (λ (f : List ℕ). ReaderIs f x) front r) (file.read (written_read u))
    go (file.refused u) e q = let z : ◌≡◌ {A = ℕ} 0 1 = cc in absurd (omega arith)

-- what the reader has given, handed to the writer with room for the file: as many bytes, the same, at the room's front, and the rest unchanged
pub read_then_write : {f : List ℕ} {x : Reading} {room a : List ℕ} {y : Written} → ReaderIs f x → x.outcome ≡ Reader.Whole → length f ≤ length room → WriterIs x.case room y a
    → (y ≡ Writer.Bytes (length f)) × (a ≡ holding f room) × (take (length f) a ≡ f)
read_then_write {f} {x} {room} {a} {y} r e h w =
    let read = given_whole r e in
    let same = read_written read in
    let enough : length (bytes_of x.case) ≤ length room = subst (λ (l : List ℕ). length l ≤ length room) (sym same) h in
    let (p, q) = writer_one w (file.written (also (some_file (record { file = f; reads = read })) (also (room_long enough) none))) in
    let held : a ≡ holding f room = q ∙ ap (λ (l : List ℕ). holding l room) same in
    (p ∙ ap (λ (l : List ℕ). Writer.Bytes (length l)) same, held, ap (take (length f)) held ∙ take-append_seam f (drop (length f) room))
