-- THE WRONG PROGRAMS of "What the contracts have to say": each gives, on the hub's file H4, an answer that no contract allows. One that refuses
-- everything (the verdict, the reader, the writer, the listing, the replay), one that always says Safe, one that always shows the empty run, one that
-- writes nothing; a listing that gives its first run and then the end; a replay that does nothing, and one that invents a count; a log that shows
-- nothing, or bytes that look the same from elsewhere in the file. Assumes nothing.
use Prim.Native.Nat.{ℕ, ◌≤◌}
use mathlib.Core.Path.{◌≡◌, refl, sym, ap, ◌∙◌}
use mathlib.Core.List.{List, [], ◌∷◌}
use native.Mathlib.Omega.{arith}
use lib.ListN.{length, get_or}
use Rattle.walks.specs.Below.{all_below, any_below, first_from, table_from}
use Rattle.rack.specs.Net.{supplied, enabled_by, left, fired_by, capped, within, enabled, fired, pairs, above, blocks, firable}
use Rattle.rack.specs.Follow.{pattern_enabled, pattern_fired, pattern_label, label_of, joins, follow, start, step}
use Rattle.rack.specs.Reach.{product_within}
use Rattle.rack.specs.Listing.{from_start, after}
use Rattle.rack.specs.Replay.{goes_on, firings, count}
use Rattle.rack.specs.Bytes.{part, filled, put, marked}
use Rattle.rack.specs.Writing.{listed, up_to, nt_bytes, tr_bytes, pr_bytes, ob_bytes, pt_bytes, px_bytes, qf_bytes, lg_bytes, bytes_of, Writable}
use Rattle.rack.specs.Refusal.{work_room, none, also}
use Rattle.rack.specs.NetChecks.{NetAccepts, pattern_order}
use Rattle.rack.specs.Outcome.{of_file, NoneSays, NoneRests, holding, zeroed}
use Rattle.rack.specs.CaseFileOutcome.{ReaderIs, log_offset, log_stretch, Address, further, LogIs, WriterIs}
use Rattle.rack.specs.CaseFileOutcome as file
use Rattle.rack.specs.VerdictOutcome.{VerdictIs}
use Rattle.rack.specs.ListingOutcome.{ListingIs}
use Rattle.rack.specs.ReplayOutcome.{replay_of, replay_refused, ReplayAccepts, ReplayIs, replayed}
use Rattle.rack.specs.Hub.{arc, hub, hub_table}
use Rattle.rack.specs.declared.Reading.{Reading}
use Rattle.rack.specs.declared.Outcome.TheVariants as Reader
use Rattle.rack.specs.declared.Written.{Written}
use Rattle.rack.specs.declared.Written.TheVariants as Writer
use Rattle.rack.specs.declared.Judged.{Judged}
use Rattle.rack.specs.declared.Verdict.{Verdict}
use Rattle.rack.specs.declared.Listed.{Listed}
use Rattle.rack.specs.declared.Listed.TheVariants as Listing
use Rattle.rack.specs.declared.Stop.TheVariants as Replay
use Rattle.rack.specs.declared.Replayed.{Replayed}
use Rattle.rack.proofs.Lift.{layout_rests, lift_accepts}
use Rattle.rack.proofs.LogPlace.{log_labels}
use Rattle.rack.proofs.OneOutcome.{reader_one, log_one, writer_one, verdict_one, listing_one, replay_one}
use Rattle.rack.proofs.HubTable.{every_row_holds, h4, h4_reads, h4_passes, hub_file_long}
use Rattle.demands.proofs.Demand1.{demand_1_replay}

-- ---- the verdict on H4, in rooms that are long enough

module _ (matching other work : List ℕ) (m : 24 ≤ length matching) (o : 24 ≤ length other) (enough : work_room ≤ length work) where
  right : VerdictIs (bytes_of h4) matching other work (record { verdict = Verdict.Ambiguous; matching = 3; other = 3 }) (holding (0 ∷ 2 ∷ 4 ∷ []) matching) (holding (0 ∷ 1 ∷ 3 ∷ []) other) (zeroed work)
  unfolding hub_table
  right = every_row_holds.1.1.1.0 matching other work m o enough

  module _ {x : Judged} {a b w : List ℕ} (is : VerdictIs (bytes_of h4) matching other work x a b w) where
    verdict_is : x.verdict ≡ Verdict.Ambiguous
    verdict_is = ap (λ (z : Judged). z.verdict) (verdict_one (bytes_of h4) matching other work is right).0

    -- it does not refuse, whatever the number
    pub refuses_everything : (n k : ℕ) → x.verdict ≡ Verdict.Refused n k → ⊥
    refuses_everything n k e = let q : Verdict.Ambiguous ≡ Verdict.Refused n k = sym verdict_is ∙ e in let z : ◌≡◌ {A = ℕ} 0 1 = cc in omega arith

    pub always_safe : x.verdict ≡ Verdict.Safe → ⊥
    always_safe e = let q : Verdict.Ambiguous ≡ Verdict.Safe = sym verdict_is ∙ e in let z : ◌≡◌ {A = ℕ} 0 1 = cc in omega arith

    -- neither run shown is empty
    pub empty_matching_run : x.matching ≡ 0 → ⊥
    empty_matching_run e = let z = ap (λ (z : Judged). z.matching) (verdict_one (bytes_of h4) matching other work is right).0 in omega (arith, e, z)

    pub empty_other_run : x.other ≡ 0 → ⊥
    empty_other_run e = let z = ap (λ (z : Judged). z.other) (verdict_one (bytes_of h4) matching other work is right).0 in omega (arith, e, z)

    -- a room that did not begin with a 0 is not left as it was
    pub writes_nothing : (get_or matching 0 0 ≡ 0 → ⊥) → a ≡ matching → ⊥
    writes_nothing n e = n (ap (λ (l : List ℕ). get_or l 0 0) (sym e ∙ (verdict_one (bytes_of h4) matching other work is right).1))

-- ---- H4 read

pub reader_refuses_everything : {x : Reading} → ReaderIs (bytes_of h4) x → (n k : ℕ) → x.outcome ≡ Reader.Refused n k → ⊥
reader_refuses_everything is n k e =
    let q : Reader.Whole ≡ Reader.Refused n k = sym (ap (λ (z : Reading). z.outcome) (reader_one is (file.read h4_reads))) ∙ e in
    let z : ◌≡◌ {A = ℕ} 0 1 = cc in
    omega arith

-- ---- its log, 0 3, of a file that is lent at an address

module _ (lent : Address) where
  h4_shown : LogIs (bytes_of h4) lent (log_stretch (bytes_of h4) h4) (further lent (log_offset (bytes_of h4) h4))
  h4_shown = file.shown h4_reads

  h4_labels : log_stretch (bytes_of h4) h4 ≡ 0 ∷ 3 ∷ []
  unfolding hub filled
  h4_labels = log_labels h4_reads

  pub shows_no_log : {a : Address} → LogIs (bytes_of h4) lent [] a → ⊥
  shows_no_log is = let e = ap (λ (l : List ℕ). length l) ((log_one is h4_shown).0 ∙ h4_labels) in omega (arith, e)

  -- OB's body holds the same two bytes, 45 bytes from the file's front
  pub same_bytes_there : part (bytes_of h4) 45 2 ≡ log_stretch (bytes_of h4) h4
  unfolding hub filled arc listed up_to nt_bytes tr_bytes pr_bytes ob_bytes pt_bytes px_bytes qf_bytes lg_bytes bytes_of
  same_bytes_there = refl

  -- and is not the stretch to be shown
  pub same_bytes_elsewhere : LogIs (bytes_of h4) lent (part (bytes_of h4) 45 2) (further lent 45) → ⊥
  unfolding hub
  same_bytes_elsewhere is =
      let e = ap (λ (a : Address). a.1) (log_one is h4_shown).1 in
      omega (arith, e, hub_file_long)

-- ---- H4 written, in a room that is long enough

module _ (room : List ℕ) (enough : 83 ≤ length room) where
  pub writer_refuses_everything : {x : Written} {a : List ℕ} → WriterIs h4 room x a → (n k : ℕ) → x ≡ Writer.Refused n k → ⊥
  writer_refuses_everything is n k e =
      let can : Writable h4 = record { file = bytes_of h4; reads = h4_reads } in
      let fits : length (bytes_of h4) ≤ length room = omega (arith, enough, hub_file_long) in
      let right : WriterIs h4 room (Writer.Bytes (length (bytes_of h4))) (holding (bytes_of h4) room) = file.written (also (file.some_file can) (also (file.room_long fits) none)) in
      let q : Writer.Bytes (length (bytes_of h4)) ≡ Writer.Refused n k = sym (writer_one is right).0 ∙ e in
      let z : ◌≡◌ {A = ℕ} 0 1 = cc in
      omega arith

-- ---- the listing of H4 with the limit 3

module _ (room work : List ℕ) (r : 3 ≤ length room) (enough : work_room ≤ length work) where
  second_run : ListingIs (bytes_of h4) 3 (after (0 ∷ 1 ∷ 3 ∷ [])) room work (Listing.Matching 3) (holding (0 ∷ 2 ∷ 4 ∷ []) room) (zeroed work)
  unfolding hub_table
  second_run = every_row_holds.1.1.1.1.1.1.1.1.1.0.1.0 room work r enough

  first_run : ListingIs (bytes_of h4) 3 from_start room work (Listing.Other 3) (holding (0 ∷ 1 ∷ 3 ∷ []) room) (zeroed work)
  unfolding hub_table
  first_run = every_row_holds.1.1.1.1.1.1.1.1.1.0.0 room work r enough

  -- it does not refuse, whatever the number
  pub listing_refuses_everything : {x : Listed} {a w : List ℕ} → ListingIs (bytes_of h4) 3 from_start room work x a w → (n k : ℕ) → x ≡ Listing.Refused n k → ⊥
  listing_refuses_everything is n k e =
      let q : Listing.Other 3 ≡ Listing.Refused n k = sym (listing_one (bytes_of h4) 3 from_start room work is first_run).0 ∙ e in
      let z : ◌≡◌ {A = ℕ} 0 1 = cc in
      omega arith

  -- after its first run it does not say the end
  pub first_run_then_end : {a w : List ℕ} → ListingIs (bytes_of h4) 3 (after (0 ∷ 1 ∷ 3 ∷ [])) room work Listing.End a w → ⊥
  first_run_then_end is =
      let q : Listing.End ≡ Listing.Matching 3 = (listing_one (bytes_of h4) 3 (after (0 ∷ 1 ∷ 3 ∷ [])) room work is second_run).0 in
      let z : ◌≡◌ {A = ℕ} 0 1 = cc in
      omega arith

-- ---- the replay of 0 2 4 on H4, with a budget of 10

pattern_accept : NetAccepts h4 pattern_order
pattern_accept =
    let p = h4_passes in
    also p.acyclic (also p.few_patterns (also p.pattern_capped (also p.one_joins (also p.final_stays none))))

passes : ReplayAccepts (bytes_of h4)
passes =
    also (layout_rests (of_file (bytes_of h4)) NoneSays NoneRests h4 h4_reads)
    (lift_accepts (of_file (bytes_of h4)) NoneSays NoneRests h4 h4_reads {more = []} pattern_accept none)

-- what the firings of a net compute with
unfoldable netting : Unit {0}
unfolding supplied enabled_by left fired_by capped within enabled fired pairs above blocks firable pattern_enabled pattern_fired pattern_label all_below any_below first_from table_from
netting = tt

three : count h4 (0 ∷ 2 ∷ 4 ∷ []) 10 ≡ 3
unfolding netting hub arc count firings goes_on product_within label_of joins follow start step filled put marked
three = refl

module _ {x : Replayed} (is : ReplayIs (bytes_of h4) (0 ∷ 2 ∷ 4 ∷ []) 10 x) where
  -- it fires three, and no other count is allowed
  pub invented_count : (n : ℕ) → (n ≡ 3 → ⊥) → x.fired ≡ n → ⊥
  unfolding replay_of
  invented_count n ne e = ne (sym e ∙ ap (λ (z : Replayed). z.fired) (replay_one is (replayed {c = h4} passes h4_reads)) ∙ three)

  pub does_nothing : x.fired ≡ 0 → ⊥
  does_nothing e = invented_count 0 (λ z. omega arith) e

  -- it does not refuse: a refused replay fired none
  pub replay_refuses_everything : (n k : ℕ) → x.stop ≡ Replay.Refused n k → ⊥
  unfolding replay_refused
  replay_refuses_everything n k e = does_nothing (ap (λ (z : Replayed). z.fired) ((demand_1_replay (bytes_of h4) (0 ∷ 2 ∷ 4 ∷ []) 10 is).nothing_fired n k e))
