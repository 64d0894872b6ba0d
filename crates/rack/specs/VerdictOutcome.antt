-- The outcome of the verdict.
-- Assumes nothing.
use Rattle.std.specs.Prelude.{ℕ, ◌<◌, ◌≤◌, ◌≡◌, Bool, true, false, List, length}
use Rattle.rack.specs.Run.{Explains}
use Rattle.rack.specs.Verdict.{FirstOfKind, NoneExplains, IsFaulty, IsSafe, IsAmbiguous}
use Rattle.rack.specs.Layout.{ReadsAs}
use Rattle.rack.specs.Refusal.{Own, unexplained, lent-room, work_room, Question, OfCase, Refuses, Accepts, verdict_order}
use Rattle.rack.specs.Outcome.{holding, zeroed}
use Rattle.rack.specs.declared.Case.{Case}
use Rattle.rack.specs.declared.Verdict.TheVariants as Verdict
use Rattle.rack.specs.declared.Judged.{Judged}

-- what is asked where the work room must have `least` bytes, and what is asked today. The length stands apart, so that two lengths can be
-- compared (proofs/TwoForms.antt).
abbrev pub of_verdict_in : ℕ → List ℕ → List ℕ → Question
of_verdict_in least f work = record { file = f; work = length work; needed = least }

abbrev pub of_verdict : List ℕ → List ℕ → Question
of_verdict = of_verdict_in work_room

-- the first run of the kind k, if there is one, fits the room
abbrev pub Fits : List ℕ → Bool → List ℕ → Type 0
Fits f k room = (c : Case) (r : List ℕ) → ReadsAs f c → FirstOfKind c k r → length r ≤ length room

-- the first run of the kind k is n long and does not fit
pub record TooLong (f : List ℕ) (k : Bool) (room : List ℕ) (n : ℕ) : Type 0 where
  pub case : Case
  pub run : List ℕ
  pub reads : ReadsAs f case
  pub first : FirstOfKind case k run
  pub short : length room < length run
  pub needed : n ≡ length run

-- 11: "for 11 the matching run's room comes first"
pub data RunShort (f matching other : List ℕ) (n : ℕ) : Type 0 where
  matching_short : TooLong f true matching n → RunShort f matching other n
  other_short : Fits f true matching → TooLong f false other n → RunShort f matching other n

pub record RunsFit (f matching other : List ℕ) : Type 0 where
  pub matching_fits : Fits f true matching
  pub other_fits : Fits f false other

-- the verdict's own checks. 10: "no run explains the log"; 11: "room is shorter than what must be written"
pub data VerdictSays (f matching other : List ℕ) : Own → ℕ → Type 0 where
  none-explains : OfCase f NoneExplains → VerdictSays f matching other unexplained 0
  run_short : {n : ℕ} → RunShort f matching other n → VerdictSays f matching other lent-room n

pub data VerdictRests (f matching other : List ℕ) : Own → Type 0 where
  one_explains : OfCase f (λ c. (r : List ℕ) × Explains c r) → VerdictRests f matching other unexplained
  runs_fit : RunsFit f matching other → VerdictRests f matching other lent-room

abbrev pub VerdictRefusesIn : ℕ → List ℕ → List ℕ → List ℕ → List ℕ → ℕ → ℕ → Type 0
VerdictRefusesIn least f matching other work n m =
    Refuses (of_verdict_in least f work) (VerdictSays f matching other) (VerdictRests f matching other) verdict_order n m

abbrev pub VerdictAcceptsIn : ℕ → List ℕ → List ℕ → List ℕ → List ℕ → Type 0
VerdictAcceptsIn least f matching other work = Accepts (of_verdict_in least f work) (VerdictRests f matching other) verdict_order

abbrev pub VerdictRefuses : List ℕ → List ℕ → List ℕ → List ℕ → ℕ → ℕ → Type 0
VerdictRefuses = VerdictRefusesIn work_room

abbrev pub VerdictAccepts : List ℕ → List ℕ → List ℕ → List ℕ → Type 0
VerdictAccepts = VerdictAcceptsIn work_room

-- "the answer carries its kind together with both lengths; a run not shown has length 0. A shown run is one byte for each firing; room
-- beyond it is unchanged." "A refusal changes no witness .. room .., and its lengths are 0."
-- How long the work room must be; a case file f, the matching run's room, the other run's room, the work room; the answer, and what the three
-- rooms hold then.
pub data VerdictIsIn (least : ℕ) (f matching other work : List ℕ) : Judged → List ℕ → List ℕ → List ℕ → Type 0 where
  faulty : {c : Case} {r : List ℕ} → VerdictAcceptsIn least f matching other work → ReadsAs f c → IsFaulty c r
      → VerdictIsIn least f matching other work (record { verdict = Verdict.Faulty; matching = length r; other = 0 }) (holding r matching) other (zeroed work)
  safe : {c : Case} {s : List ℕ} → VerdictAcceptsIn least f matching other work → ReadsAs f c → IsSafe c s
      → VerdictIsIn least f matching other work (record { verdict = Verdict.Safe; matching = 0; other = length s }) matching (holding s other) (zeroed work)
  ambiguous : {c : Case} {r s : List ℕ} → VerdictAcceptsIn least f matching other work → ReadsAs f c → IsAmbiguous c r s
      → VerdictIsIn least f matching other work (record { verdict = Verdict.Ambiguous; matching = length r; other = length s }) (holding r matching) (holding s other) (zeroed work)
  refused : {n m : ℕ} → VerdictRefusesIn least f matching other work n m
      → VerdictIsIn least f matching other work (record { verdict = Verdict.Refused n m; matching = 0; other = 0 }) matching other (zeroed work)

abbrev pub VerdictIs : List ℕ → List ℕ → List ℕ → List ℕ → Judged → List ℕ → List ℕ → List ℕ → Type 0
VerdictIs = VerdictIsIn work_room
