-- The outcomes of the reader, of the log call and of the writer.
-- Assumes nothing.
use Rattle.std.specs.Prelude.{ℕ, ◌+◌, ◌-◌, ◌<◌, ◌≤◌, List, [], length}
use Rattle.rack.specs.Bytes.{part}
use Rattle.rack.specs.Layout.{case_of_zeros, ReadsAs, BreaksAt}
use Rattle.rack.specs.Writing.{Writable, bytes_of}
use Rattle.rack.specs.Refusal.{Own, lent-room, unwritable, Question, Refuses, Accepts, reader_order, writer_order}
use Rattle.rack.specs.Outcome.{of_file, NoneSays, NoneRests, holding}
use Rattle.rack.specs.declared.Case.{Case}
use Rattle.rack.specs.declared.Outcome.TheVariants as Reader
use Rattle.rack.specs.declared.Reading.{Reading}
use Rattle.rack.specs.declared.Written.{Written}
use Rattle.rack.specs.declared.Written.TheVariants as Writer

-- ---- reader

abbrev pub ReaderRefuses : List ℕ → ℕ → ℕ → Type 0
ReaderRefuses f n m = Refuses (of_file f) NoneSays NoneRests reader_order n m

pub data ReaderIs (f : List ℕ) : Reading → Type 0 where
  read : {c : Case} → ReadsAs f c → ReaderIs f (record { outcome = Reader.Whole; case = c })
  refused : {n m : ℕ} → ReaderRefuses f n m → ReaderIs f (record { outcome = Reader.Refused n m; case = case_of_zeros })

-- ---- log: "a record's body is shown as the stretch of the caller's file that holds the labels; it is empty for a file refused by 2".
-- The labels stand before EN's two bytes, at the file's end.

abbrev pub log_offset : List ℕ → Case → ℕ
log_offset f c = length f - (c.log.count + 2)

abbrev pub log_stretch : List ℕ → Case → List ℕ
log_stretch f c = part f (log_offset f c) c.log.count

-- the address of a lent stretch: a block of memory, and the offset of the stretch's first byte in it
abbrev pub Address : Type 0
Address = ℕ × ℕ

-- so many bytes further on in the same block
abbrev pub further : Address → ℕ → Address
further a n = (a.0, a.1 + n)

-- Of a file that is lent at an address: the bytes that are shown, and where they stand. So a stretch that only looks the same, in the file or
-- outside it, is another answer. The empty stretch of a refused file is the one at the file's front.
pub data LogIs (f : List ℕ) (lent : Address) : List ℕ → Address → Type 0 where
  shown : {c : Case} → ReadsAs f c → LogIs f lent (log_stretch f c) (further lent (log_offset f c))
  refused : {p : ℕ} → BreaksAt f p → LogIs f lent [] lent

-- ---- writer

-- "The longest file has 2,496 bytes."
abbrev pub longest_file : ℕ
longest_file = 2496

-- the writer is asked no file: all its checks are its own
abbrev pub no_file : Question
no_file = of_file []

-- 14: "a case to be written is not what any well_formed file reads as"; 11: the room is shorter than the file
pub data WriterSays (c : Case) (room : List ℕ) : Own → ℕ → Type 0 where
  no_such_file : (Writable c → ⊥) → WriterSays c room unwritable 0
  room_short : length room < length (bytes_of c) → WriterSays c room lent-room (length (bytes_of c))

pub data WriterRests (c : Case) (room : List ℕ) : Own → Type 0 where
  some_file : Writable c → WriterRests c room unwritable
  room_long : length (bytes_of c) ≤ length room → WriterRests c room lent-room

abbrev pub WriterRefuses : Case → List ℕ → ℕ → ℕ → Type 0
WriterRefuses c room n m = Refuses no_file (WriterSays c room) (WriterRests c room) writer_order n m

abbrev pub WriterAccepts : Case → List ℕ → Type 0
WriterAccepts c room = Accepts no_file (WriterRests c room) writer_order

pub data WriterIs (c : Case) (room : List ℕ) : Written → List ℕ → Type 0 where
  written : WriterAccepts c room → WriterIs c room (Writer.Bytes (length (bytes_of c))) (holding (bytes_of c) room)
  refused : {n m : ℕ} → WriterRefuses c room n m → WriterIs c room (Writer.Refused n m) room
