-- What the verdict on a case is, over all its runs, and what it shows.
-- Assumes nothing.
use Rattle.std.specs.Prelude.{ℕ, suc, ◌*◌, ◌<◌, ◌≡◌, Bool, true, false, length}
use mathlib.Core.List.{List, Memᴰ}
use Rattle.rack.specs.Follow.{ProductMarking}
use Rattle.rack.specs.Reach.{ProductReaches}
use Rattle.rack.specs.Run.{Explains, matches, log_of}
use Rattle.rack.specs.Verdict.{FirstOfKind}
use Rattle.rack.specs.Outcome.{holding, zeroed}
use Rattle.rack.specs.declared.Case.{Case}
use Rattle.rack.specs.declared.Verdict.{Verdict}
use Rattle.rack.specs.declared.Verdict.TheVariants.{Faulty, Safe, Ambiguous, Refused}
use Rattle.rack.specs.declared.Judged.{Judged}

-- an explanation of the log that matches (k: true), or does not (k: false)
pub record Some (c : Case) (k : Bool) : Type 0 where
  pub run : List ℕ
  pub explains : Explains c run
  pub kind : matches c run ≡ k

-- there is none
abbrev pub No : Case → Bool → Type 0
No c k = (s : List ℕ) → Explains c s → matches c s ≡ k → ⊥

-- the verdict over all runs: some explanation matches and none does not; the other way round; both; or no run explains the log at all
pub data Judgement (c : Case) : Verdict → Type 0 where
  faulty : Some c true → No c false → Judgement c Faulty
  safe : No c true → Some c false → Judgement c Safe
  ambiguous : Some c true → Some c false → Judgement c Ambiguous
  unexplained : No c true → No c false → Judgement c (Refused 10 0)

-- n bytes at the front of the room are the first explanation of the kind k, the rest is as before; and it has fewer firings than there are
-- reachable product markings times (log length + 1), whatever list of markings holds all of them
pub record FirstShown (c : Case) (k : Bool) (before : List ℕ) (n : ℕ) (now : List ℕ) : Type 0 where
  pub run : List ℕ
  pub first : FirstOfKind c k run
  pub long : n ≡ length run
  pub written : now ≡ holding run before
  pub bounded : (all : List ProductMarking) → ((m : ProductMarking) → ProductReaches c m → Memᴰ m all) → length run < suc (length (log_of c)) * length all

-- a run that is shown, and one that is not
abbrev pub Shown : Case → Bool → List ℕ → Bool → ℕ → List ℕ → Type 0
Shown c k before true n now = FirstShown c k before n now
Shown c k before false n now = (n ≡ 0) × (now ≡ before)

-- "Faulty shows the first matching explanation, Safe the first other one, Ambiguous both."
abbrev pub shows_matching : Verdict → Bool
shows_matching Faulty = true
shows_matching Safe = false
shows_matching Ambiguous = true
shows_matching (Refused n m) = false

abbrev pub shows_other : Verdict → Bool
shows_other Faulty = false
shows_other Safe = true
shows_other Ambiguous = true
shows_other (Refused n m) = false

-- the answer x is the verdict on c, and the three rooms hold what they should
pub record Right (c : Case) (matching other work : List ℕ) (x : Judged) (a b w : List ℕ) : Type 0 where
  pub judged : Judgement c x.verdict
  pub exactly : (v : Verdict) → Judgement c v → x.verdict ≡ v
  pub matching_run : Shown c true matching (shows_matching x.verdict) x.matching a
  pub other_run : Shown c false other (shows_other x.verdict) x.other b
  pub zeros : w ≡ zeroed work
