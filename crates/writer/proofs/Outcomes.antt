-- What the reader's answer tells of a file, and the writer's outcomes.
-- Assumes nothing.
use mathlib.Core.Path.{◌≡◌, sym, subst}
use mathlib.Core.Bool.{Bool}
use mathlib.Core.List.{List}
use Prim.Native.Nat.{ℕ, ◌≤◌, ◌<◌}
use native.Mathlib.Omega.{arith}
use lib.ListN.{length}
use Rattle.rack.specs.Layout.{ReadsAs}
use Rattle.rack.specs.Writing.{bytes_of, Writable}
use Rattle.rack.specs.Outcome.{holding}
use Rattle.rack.specs.Refusal.{speaks, rests, none, also}
use Rattle.rack.specs.CaseFileOutcome.{ReaderIs, read, refused, no_such_file, room_short, some_file, room_long, WriterIs, written}
use Rattle.rack.specs.declared.Case.{Case}
use Rattle.rack.specs.declared.Outcome.TheVariants as Reader
use Rattle.rack.specs.declared.Reading.{Reading}
use Rattle.rack.specs.declared.Written.TheVariants as Writer
use Rattle.rack.proofs.OneReading.{one_case, reads_or_breaks}
use Rattle.spelling.specs.Limits.{Limits}
use Rattle.walks.specs.Says.{Says}
use Rattle.walks.proofs.Says.{says_same}
use Rattle.writer.proofs.RoundTrip.{written_read, read_limits}

-- ---- reading back

-- a file that is read whole reads as its case and as no other
pub read_whole : {f : List ℕ} {r : Reading} {c : Case} {b : Bool} → ReaderIs f r → r.outcome ≡ Reader.Whole → Says b (r.case ≡ c) → Says b (ReadsAs f c)
read_whole {f} {r} {c} (read w) e t = says_same t (λ q. subst (ReadsAs f) q w) (λ w'. one_case w w')
read_whole (refused w) e t = let z : ◌≡◌ {A = ℕ} 0 1 = cc in absurd (omega arith)

-- one that is refused reads as none
pub read_refused : {f : List ℕ} {r : Reading} {c : Case} {n m : ℕ} → ReaderIs f r → r.outcome ≡ Reader.Refused n m → ReadsAs f c → ⊥
read_refused (read w) e w' = let z : ◌≡◌ {A = ℕ} 0 1 = cc in omega arith
read_refused (refused (speaks p)) e w = reads_or_breaks w p
read_refused {f = f} {c = c} (ReaderIs.refused {n = n} {m = m} (rests _ x)) e w = elim x [ ]

-- a case is writable exactly if its bytes read as it
pub read_back : {f : List ℕ} {c : Case} {b : Bool} → f ≡ bytes_of c → Says b (ReadsAs f c) → Says b (Writable c)
read_back {f} {c} e t = says_same t (λ w. record { file = f; reads = w }) (λ w. subst (λ (g : List ℕ). ReadsAs g c) (sym e) (written_read w))

-- only if its counts are within the limits
pub over_limits : {c : Case} → (Limits c → ⊥) → Writable c → ⊥
over_limits n w = n (read_limits w.reads)

-- ---- the outcomes

pub answer_written : {c : Case} {f room : List ℕ} → f ≡ bytes_of c → Writable c → length f ≤ length room
    → WriterIs c room (Writer.Bytes (length f)) (holding f room)
answer_written {c} {f} {room} e w h =
    let P : List ℕ → Type 0 = λ g. length g ≤ length room → WriterIs c room (Writer.Bytes (length g)) (holding g room) in
    subst P (sym e) (λ k. written (also (some_file w) (also (room_long k) none))) h

pub answer_short : {c : Case} {f room : List ℕ} → f ≡ bytes_of c → Writable c → length room < length f → WriterIs c room (Writer.Refused 11 (length f)) room
answer_short {c} {f} {room} e w h =
    let P : List ℕ → Type 0 = λ g. length room < length g → WriterIs c room (Writer.Refused 11 (length g)) room in
    subst P (sym e) (λ k. refused (rests (some_file w) (speaks (room_short k)))) h

pub answer_unwritable : {c : Case} {room : List ℕ} → (Writable c → ⊥) → WriterIs c room (Writer.Refused 14 0) room
answer_unwritable n = refused (speaks (no_such_file n))
