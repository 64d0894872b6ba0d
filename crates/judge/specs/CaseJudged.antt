-- The verdict on a case that has been read: what the parts of the call promise one another. proofs/Judging.antt leads from here to the outcome
-- of the whole call.
-- Assumes nothing.
use Rattle.std.specs.Prelude.{ℕ, ◌<◌, ◌≤◌, true, false, List, length, Result, Ok, Err}
use Rattle.rack.specs.Verdict.{FirstOfKind, NoneExplains, IsFaulty, IsSafe, IsAmbiguous}
use Rattle.rack.specs.Refusal.{NetsPass}
use Rattle.rack.specs.NetChecks.{NetRefuses, NetAccepts, pattern_order, product_order}
use Rattle.rack.specs.Outcome.{holding}
use Rattle.rack.specs.Refused.{judged_of}
use Rattle.rack.specs.declared.Case.{Case}
use Rattle.rack.specs.declared.Refusal.{Refusal}
use Rattle.rack.specs.declared.Judged.{Judged}
use Rattle.rack.specs.declared.Verdict.TheVariants as Verdict

-- the answer of a refusal
abbrev pub refused_by : ℕ → ℕ → Judged
refused_by n m = record { verdict = Verdict.Refused n m; matching = 0; other = 0 }

-- the answer: what is shown, or the refusal
abbrev pub answer_of : Result Judged Refusal → Judged
answer_of (Ok j) = j
answer_of (Err r) = judged_of r

-- the verdict on a case whose nets pass the checks 3 to 9, with the two witness rooms before and after
pub data Shown (c : Case) (matching other : List ℕ) : Judged → List ℕ → List ℕ → Type 0 where
  faulty : {r : List ℕ} → IsFaulty c r → length r ≤ length matching
      → Shown c matching other (record { verdict = Verdict.Faulty; matching = length r; other = 0 }) (holding r matching) other
  safe : {s : List ℕ} → IsSafe c s → length s ≤ length other
      → Shown c matching other (record { verdict = Verdict.Safe; matching = 0; other = length s }) matching (holding s other)
  ambiguous : {r s : List ℕ} → IsAmbiguous c r s → length r ≤ length matching → length s ≤ length other
      → Shown c matching other (record { verdict = Verdict.Ambiguous; matching = length r; other = length s }) (holding r matching) (holding s other)
  unexplained : NoneExplains c → Shown c matching other (refused_by 10 0) matching other
  matching_short : {r : List ℕ} → FirstOfKind c true r → length matching < length r → Shown c matching other (refused_by 11 (length r)) matching other
  other_short : {s : List ℕ} → ((r : List ℕ) → FirstOfKind c true r → length r ≤ length matching) → FirstOfKind c false s → length other < length s
      → Shown c matching other (refused_by 11 (length s)) matching other

-- the verdict on a case that has been read
pub data CaseJudged (c : Case) (matching other : List ℕ) : Judged → List ℕ → List ℕ → Type 0 where
  pattern_refused : {n : ℕ} → NetRefuses c pattern_order n → CaseJudged c matching other (refused_by n 0) matching other
  product_refused : {n : ℕ} → NetAccepts c pattern_order → NetRefuses c product_order n → CaseJudged c matching other (refused_by n 0) matching other
  shown : {x : Judged} {a b : List ℕ} → NetsPass c → Shown c matching other x a b → CaseJudged c matching other x a b
