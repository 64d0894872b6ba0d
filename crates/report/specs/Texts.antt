-- What the answers are printed as, in ASCII. Assumes nothing.
use Rattle.std.specs.Prelude.{ℕ, List, ◌++◌, length, take, codes, decimal, flat_map, if◌then◌else◌}
use Rattle.std.specs.List.{join_by}
use Rattle.rack.specs.declared.Verdict.TheVariants as Verdicts
use Rattle.rack.specs.declared.Listed.TheVariants as Listings
use Rattle.rack.specs.declared.Stop.TheVariants as Stops
use Rattle.report.specs.declared.Judgement.{Judgement}
use Rattle.report.specs.declared.Listing.{Listing}
use Rattle.report.specs.declared.Replay.{Replay}

-- a refusal's number and the number beside it
abbrev pub refused_text : ℕ → ℕ → List ℕ
refused_text number beside = codes "refused " ++ decimal number ++ codes " " ++ decimal beside

-- a run: its length, then its numbers, each with a blank before it
abbrev pub run_text : List ℕ → List ℕ
run_text run = decimal (length run) ++ flat_map (λ n. codes " " ++ decimal n) run

-- counts with a blank between each two
abbrev pub tokens_text : List ℕ → List ℕ
tokens_text counts = join_by decimal (codes " ") counts

-- a verdict's word and its shown runs, with a text before each
abbrev pub judgement_text : Judgement → List ℕ
judgement_text j =
    let matching : List ℕ = codes "F " ++ run_text (take j.judged.matching j.matching.now) in
    let other : List ℕ = codes "C " ++ run_text (take j.judged.other j.other.now) in
    elim j.judged.verdict [
      | Verdicts.Faulty ↦ codes "faulty" ++ j.between.now ++ matching
      | Verdicts.Safe ↦ codes "safe" ++ j.between.now ++ other
      | Verdicts.Ambiguous ↦ codes "ambiguous" ++ j.between.now ++ matching ++ j.between.now ++ other
      | Verdicts.Refused number beside ↦ refused_text number beside
    ]

-- an answer of the listing, with the run that stands at the front of its room
abbrev pub listing_text : Listing → List ℕ
listing_text l =
    elim l.listed [
      | Listings.Matching n ↦ codes "F " ++ run_text (take n l.room.now)
      | Listings.Other n ↦ codes "C " ++ run_text (take n l.room.now)
      | Listings.End ↦ codes "end"
      | Listings.Refused number beside ↦ refused_text number beside
    ]

-- a replay that was made: how many it fired, the marking with a text before it, whether that is final, why it stopped,
-- and whether the run explains the log, with a text between them
abbrev pub made_text : Replay → List ℕ → List ℕ
made_text r why =
    codes "fired " ++ decimal r.done.fired ++ r.between.now ++ r.before_marking.now
    ++ tokens_text (take r.places r.done.system) ++ codes " | " ++ tokens_text (take r.pattern_places r.done.pattern)
    ++ r.between.now ++ (if r.done.matches then codes "final" else codes "not final")
    ++ r.between.now ++ why
    ++ r.between.now ++ (if r.done.explains then codes "explains" else codes "no")

-- a replay, or its refusal
abbrev pub replay_text : Replay → List ℕ
replay_text r =
    elim r.done.stop [
      | Stops.RunEnded ↦ made_text r (codes "run ended")
      | Stops.BudgetSpent ↦ made_text r (codes "budget spent")
      | Stops.NotFirable ↦ made_text r (codes "not firable")
      | Stops.CapPassed ↦ made_text r (codes "cap passed")
      | Stops.Refused number beside ↦ refused_text number beside
    ]
