-- Taken without harm: what a refusal of each call leaves as it was.
-- Assumes nothing.
use Rattle.std.specs.Prelude.{ℕ, ◌≡◌, List, [], take}
use Rattle.rack.specs.Listing.{Asked}
use Rattle.rack.specs.Layout.{case_of_zeros, ReadsAs}
use Rattle.rack.specs.Outcome.{zeroed}
use Rattle.rack.specs.CaseFileOutcome.{ReaderRefuses, Address, further, log_offset, WriterRefuses}
use Rattle.rack.specs.VerdictOutcome.{VerdictRefuses}
use Rattle.rack.specs.ListingOutcome.{ListingRefuses}
use Rattle.rack.specs.ReplayOutcome.{replay_refused, ReplayRefuses}
use Rattle.rack.specs.declared.Case.{Case}
use Rattle.rack.specs.declared.Outcome.TheVariants as Reader
use Rattle.rack.specs.declared.Reading.{Reading}
use Rattle.rack.specs.declared.Written.{Written}
use Rattle.rack.specs.declared.Written.TheVariants as Writer
use Rattle.rack.specs.declared.Judged.{Judged}
use Rattle.rack.specs.declared.Verdict.TheVariants as Verdict
use Rattle.rack.specs.declared.Listed.{Listed}
use Rattle.rack.specs.declared.Listed.TheVariants as Listing
use Rattle.rack.specs.declared.Stop.TheVariants as Replay
use Rattle.rack.specs.declared.Replayed.{Replayed}

-- the one holds exactly where the other does
pub record Exactly (A B : Type 0) : Type 0 where
  pub only : A → B
  pub whenever : B → A

-- ---- each call: the refusal is given exactly where the table of refusals says so, and changes nothing

pub record ReaderTaken (f : List ℕ) (x : Reading) : Type 0 where
  pub refusal : (n m : ℕ) → Exactly (x.outcome ≡ Reader.Refused n m) (ReaderRefuses f n m)
  pub nothing_read : (n m : ℕ) → x.outcome ≡ Reader.Refused n m → x.case ≡ case_of_zeros

-- "it is empty for a file refused by 2", and for one whose log has no label
pub data ShowsNothing (f : List ℕ) : Type 0 where
  refused : {p : ℕ} → ReaderRefuses f 2 p → ShowsNothing f
  no_label : {c : Case} → ReadsAs f c → c.log.count ≡ 0 → ShowsNothing f

-- the log call, of a file that is lent at an address: l is shown, and stands at a. It refuses nothing; a refused file shows the empty stretch at its front
pub record LogTaken (f : List ℕ) (lent : Address) (l : List ℕ) (a : Address) : Type 0 where
  pub nothing : Exactly (l ≡ []) (ShowsNothing f)
  pub front : (n m : ℕ) → ReaderRefuses f n m → (l ≡ []) × (a ≡ lent)
  pub labels : (c : Case) → ReadsAs f c → l ≡ take c.log.count c.log.labels
  pub in_place : (c : Case) → ReadsAs f c → a ≡ further lent (log_offset f c)

pub record WriterTaken (c : Case) (room : List ℕ) (x : Written) (a : List ℕ) : Type 0 where
  pub refusal : (n m : ℕ) → Exactly (x ≡ Writer.Refused n m) (WriterRefuses c room n m)
  pub untouched : (n m : ℕ) → x ≡ Writer.Refused n m → a ≡ room

pub record VerdictTaken (f matching other work : List ℕ) (x : Judged) (a b w : List ℕ) : Type 0 where
  pub refusal : (n m : ℕ) → Exactly (x.verdict ≡ Verdict.Refused n m) (VerdictRefuses f matching other work n m)
  pub untouched : (n m : ℕ) → x.verdict ≡ Verdict.Refused n m → (a ≡ matching) × ((b ≡ other) × ((x.matching ≡ 0) × (x.other ≡ 0)))
  pub zeros : w ≡ zeroed work

pub record ListingTaken (f : List ℕ) (limit : ℕ) (asked : Asked) (room work : List ℕ) (x : Listed) (a w : List ℕ) : Type 0 where
  pub refusal : (n m : ℕ) → Exactly (x ≡ Listing.Refused n m) (ListingRefuses f limit asked room work n m)
  pub untouched : (n m : ℕ) → x ≡ Listing.Refused n m → a ≡ room
  pub end_untouched : x ≡ Listing.End → a ≡ room
  pub zeros : w ≡ zeroed work

pub record ReplayTaken (f : List ℕ) (x : Replayed) : Type 0 where
  pub refusal : (n m : ℕ) → Exactly (x.stop ≡ Replay.Refused n m) (ReplayRefuses f n m)
  pub nothing_fired : (n m : ℕ) → x.stop ≡ Replay.Refused n m → x ≡ replay_refused n m
