-- The outcome of replay.
-- Assumes nothing.
use Rattle.std.specs.Prelude.{ℕ, false, List, replicate}
use Rattle.rack.specs.Follow.{final}
use Rattle.rack.specs.Replay.{count, reached, reason, says_explains}
use Rattle.rack.specs.Layout.{ReadsAs}
use Rattle.rack.specs.Refusal.{Refuses, Accepts, replay_order}
use Rattle.rack.specs.Outcome.{of_file, NoneSays, NoneRests}
use Rattle.rack.specs.declared.Case.{Case}
use Rattle.rack.specs.declared.Stop.TheVariants as Replay
use Rattle.rack.specs.declared.Replayed.{Replayed}

-- what replay answers for a case that its checks let pass
unfoldable pub replay_of : Case → List ℕ → ℕ → Replayed
replay_of c run budget =
    let m = reached c run budget in
    record {
      fired = count c run budget;
      system = m.system;
      pattern = m.pattern;
      matches = final c m.pattern;
      stop = reason c run budget;
      explains = says_explains c run budget;
    }

-- "A refused replay fired none and gives zeros and "no"."
unfoldable pub replay_refused : ℕ → ℕ → Replayed
replay_refused n m =
    record {
      fired = 0;
      system = replicate 16 0;
      pattern = replicate 8 0;
      matches = false;
      stop = Replay.Refused n m;
      explains = false;
    }

abbrev pub ReplayRefuses : List ℕ → ℕ → ℕ → Type 0
ReplayRefuses f n m = Refuses (of_file f) NoneSays NoneRests replay_order n m

abbrev pub ReplayAccepts : List ℕ → Type 0
ReplayAccepts f = Accepts (of_file f) NoneRests replay_order

pub data ReplayIs (f run : List ℕ) (budget : ℕ) : Replayed → Type 0 where
  replayed : {c : Case} → ReplayAccepts f → ReadsAs f c → ReplayIs f run budget (replay_of c run budget)
  refused : {n m : ℕ} → ReplayRefuses f n m → ReplayIs f run budget (replay_refused n m)
