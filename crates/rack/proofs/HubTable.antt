-- THE HUB'S TABLE: every row of H1 to H12 holds (`every_row_holds`), and so do the rows that tell the slips. A test that antt computes settles
-- each row: the file is read, its nets are explored, and the runs that explain its log are gone through. Assumes nothing.
use Prim.Native.Nat.{ℕ, ◌≤◌}
use mathlib.Core.Path.{◌≡◌, refl, sym, subst}
use mathlib.Core.Bool.{Bool, true, false, ◌&&◌, beq}
use mathlib.Core.List.{List, [], ◌∷◌}
use Rattle.std.proofs.Common.{Option, Some, None}
use native.Mathlib.Omega.{arith}
use lib.ListN.{length}
use lib.Dec.{T, leb, eqb, leb→le, eqb→eq}
use Rattle.walks.specs.Below.{all_below, any_below, first_from, table_from, every, same}
use Rattle.walks.specs.Walk.{walks, ends}
use Rattle.walks.specs.Order.{smaller, before}
use Rattle.walks.proofs.Tests.{and_left, and_right, beq→eq, all_of, part}
use Rattle.walks.proofs.Explore.{member, steps_into, closed_test, nexts, explore, all_walks}
use Rattle.rack.specs.Net.{supplied, enabled_by, left, fired_by, capped, within, enabled, fired, pairs, above, blocks, firable}
use Rattle.rack.specs.Follow.{pattern_enabled, pattern_fired, pattern_label, bounded, meets, final, label_of, joins, follow, start, step}
use Rattle.rack.specs.Reach.{pattern_goes, product_within, product_goes}
use Rattle.rack.specs.Run.{runs, end, visible, shown, log_of, matches}
use Rattle.rack.specs.Keep.{may_silently, due, keeps, next, moves, onto, origin}
use Rattle.rack.specs.Listing.{Asked, from_start, after, later}
use Rattle.rack.specs.Replay.{explains}
use Rattle.rack.specs.Bytes.{filled, put, rising, marked}
use Rattle.rack.specs.Marks.{mark_of, follows}
use Rattle.rack.specs.Records.{net_says, arcs_says, pr_says, ob_says, bounds, qf_says, observed, lg_says}
use Rattle.rack.specs.Layout.{case_of_zeros, ReadsAs}
use Rattle.rack.specs.Writing.{listed, up_to, nt_bytes, tr_bytes, pr_bytes, ob_bytes, pt_bytes, px_bytes, qf_bytes, lg_bytes, bytes_of}
use Rattle.rack.specs.Refusal.{pair_at, lower_of, NetsPass}
use Rattle.rack.specs.ListingOutcome.{GivenBad}
use Rattle.rack.specs.Hub.{arc, hub, short_hub, Call, verdict, listing, Entry, Expected, faulty, safe, ambiguous, refused, Row, Lists, Answers, AllHold, hub_table}
use Rattle.rack.specs.Hub as table
use Rattle.rack.specs.Slips.{telling, no_pairs, no_links, chain, two_tokens, must_follow, slip_table}
use Rattle.rack.specs.declared.Case.{Case}
use Rattle.rack.proofs.Accept.{like_product, below, no_cycle, pattern_set, cap_kept, apart, single, final_kept, pattern_right, product_set, system_kept, product_right, accept_tests, passes_of}
use Rattle.rack.proofs.Decide.{like_node, nodes, at_end, ends_test, at_length, all_up_to, first_test, all_test, next_test, end_test, first_of, all_of_kind, none-explains, next_of, end_of}
use Rattle.rack.proofs.SameCase.{case_tests, same_case}
use Rattle.rack.proofs.Parse.{list_tests, net_tests, arcs_tests, rises_test, pr_tests, qf_tests, lg_tests, fields_test, after_right, parse, parsed}
use Rattle.rack.proofs.Answer.{answer_faulty, answer_safe, answer_ambiguous, answer_unexplained, given_good, answer_next, answer_end}

-- ---- the case's file reads as the case

read_test : Case → Option Case → Bool
read_test c None = false
read_test c (Some d) = all_of (case_tests d c)

read_of : (c : Case) (o : Option Case) → parse 200 (bytes_of c) None case_of_zeros 0 ≡ o → T (read_test c o) → ReadsAs (bytes_of c) c
unfolding read_test
read_of c None e t = absurd t
read_of c (Some d) e t = subst (ReadsAs (bytes_of c)) (same_case d c t) (parsed e)

-- ---- what a row expects

short : List ℕ → Bool
short r = leb (length r) 24

list_test : Case → ℕ → Asked → List Entry → Bool
list_test c n asked [] = end_test c n asked
list_test c n asked (e ∷ es) = next_test c n asked e.run && (beq (matches c e.run) e.mark && list_test c n (after e.run) es)

expected_test : Case → Call → Expected → Bool
expected_test c verdict (faulty r) = first_test c true r && (all_test c true && short r)
expected_test c verdict (safe s) = first_test c false s && (all_test c false && short s)
expected_test c verdict (ambiguous r s) = first_test c true r && (first_test c false s && (short r && short s))
expected_test c verdict (refused n m) = ends_test c (λ x. false) && (eqb n 10 && eqb m 0)
expected_test c verdict (table.listed es) = false
expected_test c (listing n) (faulty r) = false
expected_test c (listing n) (safe s) = false
expected_test c (listing n) (ambiguous r s) = false
expected_test c (listing n) (refused k m) = false
expected_test c (listing n) (table.listed es) = leb n 24 && list_test c n from_start es

module _ (c : Case) (reads : ReadsAs (bytes_of c) c) (ok : NetsPass c) where
  list_of : (n : ℕ) → T (leb n 24) → (asked : Asked) → (GivenBad c n asked → ⊥) → (es : List Entry) → T (list_test c n asked es) → Lists c n asked es
  unfolding list_test
  list_of n low asked good [] t = λ room work enough. answer_end reads ok n (leb→le n 24 low) asked good room work enough (end_of c n asked t)
  list_of n low asked good (e ∷ es) t =
      let rest = beq (matches c e.run) e.mark && list_test c n (after e.run) es in
      let x = next_of c n asked e.run (and_left (next_test c n asked e.run) rest t) in
      let t₁ = and_right (next_test c n asked e.run) rest t in
      let m = beq→eq (matches c e.run) e.mark (and_left (beq (matches c e.run) e.mark) (list_test c n (after e.run) es) t₁) in (
        (λ room work h enough. answer_next reads ok n (leb→le n 24 low) asked good room work enough e.mark x m h),
        list_of n low (after e.run) (given_good c n e.run x.explains x.within) es (and_right (beq (matches c e.run) e.mark) (list_test c n (after e.run) es) t₁),
      )

  fits : (r room : List ℕ) → T (short r) → 24 ≤ length room → length r ≤ length room
  unfolding short
  fits r room t h = omega (arith, leb→le (length r) 24 t)

  expected_of : (k : Call) (e : Expected) → T (expected_test c k e) → Answers c k e
  unfolding expected_test
  expected_of verdict (faulty r) t =
      λ matching other work h k enough.
      let t₁ = and_right (first_test c true r) (all_test c true && short r) t in
      answer_faulty reads ok matching other work enough
      (record { shows = first_of c true r (and_left (first_test c true r) (all_test c true && short r) t); all = all_of_kind c true (and_left (all_test c true) (short r) t₁) })
      (fits r matching (and_right (all_test c true) (short r) t₁) h)
  expected_of verdict (safe s) t =
      λ matching other work h k enough.
      let t₁ = and_right (first_test c false s) (all_test c false && short s) t in
      answer_safe reads ok matching other work enough
      (record { shows = first_of c false s (and_left (first_test c false s) (all_test c false && short s) t); all = all_of_kind c false (and_left (all_test c false) (short s) t₁) })
      (fits s other (and_right (all_test c false) (short s) t₁) k)
  expected_of verdict (ambiguous r s) t =
      λ matching other work h k enough.
      let t₁ = and_right (first_test c true r) (first_test c false s && (short r && short s)) t in
      let t₂ = and_right (first_test c false s) (short r && short s) t₁ in
      answer_ambiguous reads ok matching other work enough
      (record {
        matching = first_of c true r (and_left (first_test c true r) (first_test c false s && (short r && short s)) t);
        other = first_of c false s (and_left (first_test c false s) (short r && short s) t₁);
      })
      (fits r matching (and_left (short r) (short s) t₂) h) (fits s other (and_right (short r) (short s) t₂) k)
  expected_of verdict (refused n m) t =
      let t₁ = and_right (ends_test c (λ x. false)) (eqb n 10 && eqb m 0) t in
      let en : n ≡ 10 = eqb→eq n 10 (and_left (eqb n 10) (eqb m 0) t₁) in
      let em : m ≡ 0 = eqb→eq m 0 (and_right (eqb n 10) (eqb m 0) t₁) in
      let x = none-explains c (and_left (ends_test c (λ x. false)) (eqb n 10 && eqb m 0) t) in
      subst (λ (a : ℕ). Answers c verdict (refused a m)) (sym en)
      (subst (λ (b : ℕ). Answers c verdict (refused 10 b)) (sym em)
      (λ matching other work h k enough. answer_unexplained reads ok matching other work enough x))
  expected_of verdict (table.listed es) t = t
  expected_of (listing n) (faulty r) t = t
  expected_of (listing n) (safe s) t = t
  expected_of (listing n) (ambiguous r s) t = t
  expected_of (listing n) (refused k m) t = t
  expected_of (listing n) (table.listed es) t = list_of n (and_left (leb n 24) (list_test c n from_start es) t) from_start (λ b. b) es (and_right (leb n 24) (list_test c n from_start es) t)

-- ---- the table

row_tests : Row → List Bool
row_tests w = read_test w.case (parse 200 (bytes_of w.case) None case_of_zeros 0) ∷ all_of (accept_tests w.case) ∷ expected_test w.case w.call w.expected ∷ []

all_right : List Row → Bool
all_right [] = true
all_right (w ∷ ws) = all_of (row_tests w) && all_right ws

-- the lemma that makes the test mean the definitions
all_of_lem : (ws : List Row) → T (all_right ws) → AllHold ws
unfolding all_right row_tests
all_of_lem [] t = tt
all_of_lem (w ∷ ws) t =
    let l = row_tests w in
    let u = and_left (all_of (row_tests w)) (all_right ws) t in (
      expected_of w.case (read_of w.case (parse 200 (bytes_of w.case) None case_of_zeros 0) refl (part l u 0)) (passes_of w.case (part l u 1)) w.call w.expected (part l u 2),
      all_of_lem ws (and_right (all_of (row_tests w)) (all_right ws) t),
    )

-- all that the test computes with: numbers, lists and walks; nets; runs; the layout; the file; the tests
unfoldable walking : Unit {0}
unfolding all_below any_below first_from table_from every same walks ends smaller before member steps_into closed_test nexts explore all_walks filled put rising marked
walking = tt

unfoldable netting : Unit {0}
unfolding supplied enabled_by left fired_by capped within enabled fired pairs above blocks firable pattern_enabled pattern_fired pattern_label bounded meets final
netting = tt

unfoldable running : Unit {0}
unfolding label_of joins follow start step pattern_goes product_within product_goes runs end visible shown log_of matches may_silently due keeps next moves onto origin later explains
running = tt

unfoldable reading : Unit {0}
unfolding mark_of follows net_says arcs_says pr_says ob_says bounds qf_says observed lg_says case_of_zeros case_tests list_tests net_tests arcs_tests rises_test pr_tests qf_tests lg_tests fields_test after_right parse
reading = tt

unfoldable writing : Unit {0}
unfolding hub short_hub arc telling no_pairs no_links chain two_tokens must_follow listed up_to nt_bytes tr_bytes pr_bytes ob_bytes pt_bytes px_bytes qf_bytes lg_bytes bytes_of
writing = tt

unfoldable accepting : Unit {0}
unfolding pair_at lower_of like_product below no_cycle pattern_set cap_kept apart single final_kept pattern_right product_set system_kept product_right accept_tests
accepting = tt

unfoldable telling_tests : Unit {0}
unfolding row_tests read_test short list_test expected_test like_node nodes at_end ends_test at_length all_up_to first_test all_test next_test end_test
telling_tests = tt

unfoldable meaning : Unit {0}
unfolding walking netting running reading writing accepting telling_tests
meaning = tt

hub_computed : T (all_right hub_table)
unfolding all_right hub_table meaning
hub_computed = tt

-- H1 TO H12
pub every_row_holds : AllHold hub_table
every_row_holds = all_of_lem hub_table hub_computed

slips_computed : T (all_right slip_table)
unfolding all_right slip_table meaning
slips_computed = tt

pub every_slip_told : AllHold slip_table
every_slip_told = all_of_lem slip_table slips_computed

-- ---- H4's case by itself: its file reads as it, and its nets pass the checks 3 to 9

abbrev pub h4 : Case
h4 = hub [] [] (0 ∷ 3 ∷ [])

h4_computed : T (read_test h4 (parse 200 (bytes_of h4) None case_of_zeros 0) && all_of (accept_tests h4))
unfolding meaning
h4_computed = tt

pub h4_reads : ReadsAs (bytes_of h4) h4
h4_reads = read_of h4 (parse 200 (bytes_of h4) None case_of_zeros 0) refl (and_left (read_test h4 (parse 200 (bytes_of h4) None case_of_zeros 0)) (all_of (accept_tests h4)) h4_computed)

pub h4_passes : NetsPass h4
h4_passes = passes_of h4 (and_right (read_test h4 (parse 200 (bytes_of h4) None case_of_zeros 0)) (all_of (accept_tests h4)) h4_computed)

-- "With log 0 3 the file has 83 bytes."
pub hub_file_long : length (bytes_of h4) ≡ 83
unfolding meaning
hub_file_long = refl
