-- DEMAND 1, over the calls' contracts: `demand_1_reader`, `demand_1_log`, `demand_1_writer`, `demand_1_verdict`, `demand_1_listing`, `demand_1_replay`.
-- Every file and every length of lent room is taken; a bad one gets exactly its refusal number, and that changes nothing. Assumes nothing.
use Prim.Native.Nat.{ℕ, ◌+◌, ◌-◌}
use mathlib.Core.Path.{◌≡◌, refl, sym, ap, ◌∙◌, subst}
use mathlib.Core.Bool.{Bool, true, false}
use mathlib.Core.List.{List, []}
use native.Mathlib.Omega.{arith}
use lib.ListN.{length, get_or}
use lib.Dec.{eqb}
use Rattle.walks.specs.Below.{pick}
use Rattle.rack.specs.Run.{fires}
use Rattle.rack.specs.Listing.{Asked}
use Rattle.rack.specs.Bytes.{part}
use Rattle.rack.specs.Layout.{case_of_zeros, BreaksAt}
use Rattle.rack.specs.Replay.{count, reached, reason_after, reason}
use Rattle.rack.specs.Refusal.{speaks, rests}
use Rattle.rack.specs.Outcome.{zeroed}
use Rattle.rack.specs.CaseFileOutcome.{ReaderRefuses, ReaderIs, Address, LogIs, WriterRefuses, WriterIs}
use Rattle.rack.specs.CaseFileOutcome as file
use Rattle.rack.specs.VerdictOutcome.{VerdictRefuses, VerdictIs}
use Rattle.rack.specs.VerdictOutcome as judge
use Rattle.rack.specs.ListingOutcome.{ListingRefuses, ListingIs}
use Rattle.rack.specs.ListingOutcome as list
use Rattle.rack.specs.ReplayOutcome.{replay_of, replay_refused, ReplayRefuses, ReplayIs}
use Rattle.rack.specs.ReplayOutcome as replay
use Rattle.rack.specs.declared.Case.{Case}
use Rattle.rack.specs.declared.Reading.{Reading}
use Rattle.rack.specs.declared.Outcome.TheVariants as Reader
use Rattle.rack.specs.declared.Written.{Written}
use Rattle.rack.specs.declared.Written.TheVariants as Writer
use Rattle.rack.specs.declared.Judged.{Judged}
use Rattle.rack.specs.declared.Verdict.{Verdict}
use Rattle.rack.specs.declared.Listed.{Listed}
use Rattle.rack.specs.declared.Listed.TheVariants as Listing
use Rattle.rack.specs.declared.Stop.TheVariants as Replay
use Rattle.rack.specs.declared.Replayed.{Replayed}
use Rattle.rack.proofs.OneOutcome.{reader_one, log_one, writer_one, verdict_one, listing_one, replay_one}
use Rattle.rack.proofs.LogPlace.{log_labels, log_long}
use Rattle.demands.specs.Refusals as refusals
use Rattle.demands.specs.Refusals.{ReaderTaken, ShowsNothing, LogTaken, WriterTaken, VerdictTaken, ListingTaken, ReplayTaken}

-- the refusal of two numbers is the refusal of two others that they are equal to
moved : (P : ℕ → ℕ → Type 0) (a b n m : ℕ) → a ≡ n → b ≡ m → P a b → P n m
moved P a b n m d e x = subst (λ (k : ℕ). P n k) e (subst (λ (k : ℕ). P k b) d x)

-- ---- reader

pub demand_1_reader : {f : List ℕ} {x : Reading} → ReaderIs f x → ReaderTaken f x
demand_1_reader {f} {x} o =
    record {
      refusal = λ n m. record { only = only n m o; whenever = λ r. ap (λ (z : Reading). z.outcome) (reader_one o (file.refused r)) };
      nothing_read = λ n m e. nothing n m o e;
    }
  where
    only : {x : Reading} (n m : ℕ) → ReaderIs f x → x.outcome ≡ Reader.Refused n m → ReaderRefuses f n m
    only n m (file.read r) e = let z : ◌≡◌ {A = ℕ} 0 1 = cc in absurd (omega arith)
    only n m (file.refused {n = a} {m = b} r) e = let d : a ≡ n = cc in let h : b ≡ m = cc in moved (ReaderRefuses f) a b n m d h r

    nothing : {x : Reading} (n m : ℕ) → ReaderIs f x → x.outcome ≡ Reader.Refused n m → x.case ≡ case_of_zeros
    nothing n m (file.read r) e = let z : ◌≡◌ {A = ℕ} 0 1 = cc in absurd (omega arith)
    nothing n m (file.refused r) e = refl

-- ---- log

broken : {f : List ℕ} {n m : ℕ} → ReaderRefuses f n m → BreaksAt f m
broken (speaks b) = b
broken (rests _ x) = elim x [ ]

pub demand_1_log : {f : List ℕ} {lent : Address} {l : List ℕ} {a : Address} → LogIs f lent l a → LogTaken f lent l a
demand_1_log {f} {lent} {l} {a} o =
    record {
      nothing = record { only = only o; whenever = whenever };
      front = λ n m r. log_one o (file.refused (broken r));
      labels = λ c r. (log_one o (file.shown r)).0 ∙ log_labels r;
      in_place = λ c r. (log_one o (file.shown r)).1;
    }
  where
    only : {l : List ℕ} {a : Address} → LogIs f lent l a → l ≡ [] → ShowsNothing f
    only (file.shown {c = c} r) e = refusals.no_label {c = c} r (sym (log_long r) ∙ ap (λ (z : List ℕ). length z) e)
    only (file.refused b) e = refusals.refused (speaks b)

    whenever : ShowsNothing f → l ≡ []
    whenever (refusals.refused r) = (log_one o (file.refused (broken r))).0
    whenever (refusals.no_label {c = c} r e) = (log_one o (file.shown r)).0 ∙ ap (λ (k : ℕ). part f (length f - (k + 2)) k) e

-- ---- writer

pub demand_1_writer : {c : Case} {room : List ℕ} {x : Written} {a : List ℕ} → WriterIs c room x a → WriterTaken c room x a
demand_1_writer {c} {room} {x} {a} o =
    record { refusal = λ n m. record { only = only n m o; whenever = λ r. (writer_one o (file.refused r)).0 }; untouched = λ n m e. untouched n m o e }
  where
    only : {x : Written} {a : List ℕ} (n m : ℕ) → WriterIs c room x a → x ≡ Writer.Refused n m → WriterRefuses c room n m
    only n m (file.written r) e = let z : ◌≡◌ {A = ℕ} 0 1 = cc in absurd (omega arith)
    only n m (file.refused {n = i} {m = j} r) e = let d : i ≡ n = cc in let h : j ≡ m = cc in moved (WriterRefuses c room) i j n m d h r

    untouched : {x : Written} {a : List ℕ} (n m : ℕ) → WriterIs c room x a → x ≡ Writer.Refused n m → a ≡ room
    untouched n m (file.written r) e = let z : ◌≡◌ {A = ℕ} 0 1 = cc in absurd (omega arith)
    untouched n m (file.refused r) e = refl

-- ---- verdict

module _ (f matching other work : List ℕ) where
  verdict_only : {x : Judged} {a b w : List ℕ} (n m : ℕ) → VerdictIs f matching other work x a b w → x.verdict ≡ Verdict.Refused n m → VerdictRefuses f matching other work n m
  verdict_only n m (judge.faulty g p u) e = let z : ◌≡◌ {A = ℕ} 0 1 = cc in absurd (omega arith)
  verdict_only n m (judge.safe g p u) e = let z : ◌≡◌ {A = ℕ} 0 1 = cc in absurd (omega arith)
  verdict_only n m (judge.ambiguous g p u) e = let z : ◌≡◌ {A = ℕ} 0 1 = cc in absurd (omega arith)
  verdict_only n m (judge.refused {n = i} {m = j} r) e = let d : i ≡ n = cc in let h : j ≡ m = cc in moved (VerdictRefuses f matching other work) i j n m d h r

  verdict_untouched : {x : Judged} {a b w : List ℕ} (n m : ℕ) → VerdictIs f matching other work x a b w → x.verdict ≡ Verdict.Refused n m
      → (a ≡ matching) × ((b ≡ other) × ((x.matching ≡ 0) × (x.other ≡ 0)))
  verdict_untouched n m (judge.faulty g p u) e = let z : ◌≡◌ {A = ℕ} 0 1 = cc in absurd (omega arith)
  verdict_untouched n m (judge.safe g p u) e = let z : ◌≡◌ {A = ℕ} 0 1 = cc in absurd (omega arith)
  verdict_untouched n m (judge.ambiguous g p u) e = let z : ◌≡◌ {A = ℕ} 0 1 = cc in absurd (omega arith)
  verdict_untouched n m (judge.refused r) e = (refl, (refl, (refl, refl)))

  pub demand_1_verdict : {x : Judged} {a b w : List ℕ} → VerdictIs f matching other work x a b w → VerdictTaken f matching other work x a b w
  demand_1_verdict {x} {a} {b} {w} o =
      record {
        refusal = λ n m. record { only = verdict_only n m o; whenever = λ r. ap (λ (z : Judged). z.verdict) (verdict_one f matching other work o (judge.refused r)).0 };
        untouched = λ n m e. verdict_untouched n m o e;
        zeros = zeros o;
      }
    where
      zeros : {x : Judged} {a b w : List ℕ} → VerdictIs f matching other work x a b w → w ≡ zeroed work
      zeros (judge.faulty g p u) = refl
      zeros (judge.safe g p u) = refl
      zeros (judge.ambiguous g p u) = refl
      zeros (judge.refused r) = refl

-- ---- listing

module _ (f : List ℕ) (limit : ℕ) (asked : Asked) (room work : List ℕ) where
  listing_only : {x : Listed} {a w : List ℕ} (n m : ℕ) → ListingIs f limit asked room work x a w → x ≡ Listing.Refused n m → ListingRefuses f limit asked room work n m
  listing_only n m (list.matching g p u s) e = let z : ◌≡◌ {A = ℕ} 0 1 = cc in absurd (omega arith)
  listing_only n m (list.other g p u s) e = let z : ◌≡◌ {A = ℕ} 0 1 = cc in absurd (omega arith)
  listing_only n m (list.end g p u) e = let z : ◌≡◌ {A = ℕ} 0 1 = cc in absurd (omega arith)
  listing_only n m (list.refused {n = i} {m = j} r) e = let d : i ≡ n = cc in let h : j ≡ m = cc in moved (ListingRefuses f limit asked room work) i j n m d h r

  listing_untouched : {x : Listed} {a w : List ℕ} (n m : ℕ) → ListingIs f limit asked room work x a w → x ≡ Listing.Refused n m → a ≡ room
  listing_untouched n m (list.matching g p u s) e = let z : ◌≡◌ {A = ℕ} 0 1 = cc in absurd (omega arith)
  listing_untouched n m (list.other g p u s) e = let z : ◌≡◌ {A = ℕ} 0 1 = cc in absurd (omega arith)
  listing_untouched n m (list.end g p u) e = refl
  listing_untouched n m (list.refused r) e = refl

  end_untouched : {x : Listed} {a w : List ℕ} → ListingIs f limit asked room work x a w → x ≡ Listing.End → a ≡ room
  end_untouched (list.matching g p u s) e = let z : ◌≡◌ {A = ℕ} 0 1 = cc in absurd (omega arith)
  end_untouched (list.other g p u s) e = let z : ◌≡◌ {A = ℕ} 0 1 = cc in absurd (omega arith)
  end_untouched (list.end g p u) e = refl
  end_untouched (list.refused r) e = refl

  pub demand_1_listing : {x : Listed} {a w : List ℕ} → ListingIs f limit asked room work x a w → ListingTaken f limit asked room work x a w
  demand_1_listing {x} {a} {w} o =
      record {
        refusal = λ n m. record { only = listing_only n m o; whenever = λ r. (listing_one f limit asked room work o (list.refused r)).0 };
        untouched = λ n m e. listing_untouched n m o e;
        end_untouched = λ e. end_untouched o e;
        zeros = zeros o;
      }
    where
      zeros : {x : Listed} {a w : List ℕ} → ListingIs f limit asked room work x a w → w ≡ zeroed work
      zeros (list.matching g p u s) = refl
      zeros (list.other g p u s) = refl
      zeros (list.end g p u) = refl
      zeros (list.refused r) = refl

-- ---- replay

-- a replay that is not refused gives no refusal as its reason
module _ (n m : ℕ) where
  no_reason : (a b d : Bool) → pick a Replay.RunEnded (pick b Replay.BudgetSpent (pick d Replay.CapPassed Replay.NotFirable)) ≡ Replay.Refused n m → ⊥
  no_reason true b d e = let z : ◌≡◌ {A = ℕ} 0 1 = cc in omega arith
  no_reason false true d e = let z : ◌≡◌ {A = ℕ} 0 1 = cc in omega arith
  no_reason false false true e = let z : ◌≡◌ {A = ℕ} 0 1 = cc in omega arith
  no_reason false false false e = let z : ◌≡◌ {A = ℕ} 0 1 = cc in omega arith

  never_refused : (c : Case) (run : List ℕ) (budget : ℕ) → (replay_of c run budget).stop ≡ Replay.Refused n m → ⊥
  unfolding replay_of reason reason_after
  never_refused c run budget e =
      let k = count c run budget in
      no_reason (eqb k (length run)) (eqb k budget) (fires c (reached c run budget) (get_or run k 0)) e

module _ (f run : List ℕ) (budget : ℕ) where
  replay_only : {x : Replayed} (n m : ℕ) → ReplayIs f run budget x → x.stop ≡ Replay.Refused n m → ReplayRefuses f n m × (x ≡ replay_refused n m)
  unfolding replay_refused
  replay_only n m (replay.replayed {c = c} g p) e = absurd (never_refused n m c run budget e)
  replay_only n m (replay.refused {n = i} {m = j} r) e =
      let d : i ≡ n = cc in
      let h : j ≡ m = cc in
      (moved (ReplayRefuses f) i j n m d h r, moved (λ a b. replay_refused i j ≡ replay_refused a b) i j n m d h refl)

  pub demand_1_replay : {x : Replayed} → ReplayIs f run budget x → ReplayTaken f x
  unfolding replay_refused
  demand_1_replay {x} o =
      record {
        refusal = λ n m. record { only = λ e. (replay_only n m o e).0; whenever = λ r. ap (λ (z : Replayed). z.stop) (replay_one o (replay.refused r)) };
        nothing_fired = λ n m e. (replay_only n m o e).1;
      }
