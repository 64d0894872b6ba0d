-- The hub case and its table: H1 to H12, a row each. A row says what a call answers on the file that the case is written as.
-- Assumes nothing.
use Rattle.std.specs.Prelude.{ℕ, ◌+◌, ◌-◌, ◌≤◌, Bool, true, false, List, [], ◌∷◌, ◌++◌, length, replicate}
use Rattle.walks.specs.Below.{pick}
use Rattle.rack.specs.Bytes.{filled}
use Rattle.rack.specs.Writing.{bytes_of}
use Rattle.rack.specs.Listing.{Asked, from_start, after}
use Rattle.rack.specs.Refusal.{work_room}
use Rattle.rack.specs.Outcome.{holding, zeroed}
use Rattle.rack.specs.VerdictOutcome.{VerdictIs}
use Rattle.rack.specs.ListingOutcome.{ListingIs}
use Rattle.rack.specs.declared.Case.{Case}
use Rattle.rack.specs.declared.Judged.{Judged}
use Rattle.rack.specs.declared.Verdict.TheVariants as Verdict
use Rattle.rack.specs.declared.Listed.TheVariants as Listing

-- a row of w places with its one arc at p
unfoldable pub arc : ℕ → ℕ → List ℕ
arc w p = filled w (replicate p 0 ++ (1 ∷ []))

-- "Places: paired, away, crossed; first tokens 1, 0, 0; cap 1. Labels: 0 detach, 1 return, 2 return crossed, 3 write; 0 and 3 are
-- observable. Transitions: 0 (label 0) paired to away; 1 (label 1) away to paired; 2 (label 2) away to crossed; 3 (label 3) paired to
-- paired; 4 (label 3) crossed to crossed. Pattern: places 0, 1, 2, first tokens 1, 0, 0, cap 1; label 2 from 0 to 1; label 3 from 1 to 2;
-- final with 1 in place 2 (bounds 0..1, 0..1, 1..1)." With the higher and the lower transitions of its priority pairs, and the log.
unfoldable pub hub : List ℕ → List ℕ → List ℕ → Case
hub higher lower log =
    record {
      net = record { places = 3; cap = 1; first = filled 16 (1 ∷ 0 ∷ 0 ∷ []) };
      arcs =
          record {
            count = 5;
            labels = filled 48 (0 ∷ 1 ∷ 2 ∷ 3 ∷ 3 ∷ []);
            pre = filled 768 (arc 16 0 ++ arc 16 1 ++ arc 16 1 ++ arc 16 0 ++ arc 16 2);
            post = filled 768 (arc 16 1 ++ arc 16 0 ++ arc 16 2 ++ arc 16 0 ++ arc 16 2);
          };
      pairs = record { count = length higher; higher = filled 32 higher; lower = filled 32 lower };
      observable = record { flags = filled 32 (1 ∷ 0 ∷ 0 ∷ 1 ∷ []) };
      pattern = record { places = 3; cap = 1; first = filled 8 (1 ∷ 0 ∷ 0 ∷ []) };
      links =
          record {
            count = 2;
            labels = filled 16 (2 ∷ 3 ∷ []);
            pre = filled 128 (arc 8 0 ++ arc 8 1);
            post = filled 128 (arc 8 1 ++ arc 8 2);
          };
      bounds = record { count = 1; least = filled 64 (0 ∷ 0 ∷ 1 ∷ []); most = filled 64 (1 ∷ 1 ∷ 1 ∷ []) };
      log = record { count = length log; labels = filled 40 log };
    }

-- H9: "pattern only label 2, place 0 to place 1, final with 1 in place 1"
unfoldable pub short_hub : List ℕ → Case
short_hub log =
    let h = hub [] [] log in
    record {
      net = h.net;
      arcs = h.arcs;
      pairs = h.pairs;
      observable = h.observable;
      pattern = record { places = 2; cap = 1; first = filled 8 (1 ∷ 0 ∷ []) };
      links = record { count = 1; labels = filled 16 (2 ∷ []); pre = filled 128 (arc 8 0); post = filled 128 (arc 8 1) };
      bounds = record { count = 1; least = filled 64 (0 ∷ 1 ∷ []); most = filled 64 (1 ∷ 1 ∷ []) };
      log = h.log;
    }

-- ---- rows

pub data Call : Type 0 where
  verdict : Call
  listing : ℕ → Call

-- an explanation that the listing gives, with its mark (true: matching)
pub record Entry : Type 0 where
  pub run : List ℕ
  pub mark : Bool

pub data Expected : Type 0 where
  faulty safe : List ℕ → Expected
  ambiguous : List ℕ → List ℕ → Expected
  refused : ℕ → ℕ → Expected
  listed : List Entry → Expected

pub record Row : Type 0 where
  pub case : Case
  pub call : Call
  pub expected : Expected

-- ---- what a row says

abbrev pub unchanged : List ℕ → List ℕ
unchanged room = room

-- the verdict on the case's file answers x and leaves a of the matching run's room and b of the other's: in all rooms that are long enough
abbrev pub Judges : Case → Judged → (List ℕ → List ℕ) → (List ℕ → List ℕ) → Type 0
Judges c x a b =
    (matching other work : List ℕ) → 24 ≤ length matching → 24 ≤ length other → work_room ≤ length work
    → VerdictIs (bytes_of c) matching other work x (a matching) (b other) (zeroed work)

-- the listing on the case's file, asked with the limit n, gives these one after the other, and then the end
abbrev pub Lists : Case → ℕ → Asked → List Entry → Type 0
Lists c n asked [] = (room work : List ℕ) → work_room ≤ length work → ListingIs (bytes_of c) n asked room work Listing.End room (zeroed work)
Lists c n asked (e ∷ es) =
    ((room work : List ℕ) → n ≤ length room → work_room ≤ length work
    → ListingIs (bytes_of c) n asked room work (pick e.mark (Listing.Matching (length e.run)) (Listing.Other (length e.run))) (holding e.run room) (zeroed work))
    × Lists c n (after e.run) es

abbrev pub Answers : Case → Call → Expected → Type 0
Answers c verdict (faulty r) = Judges c (record { verdict = Verdict.Faulty; matching = length r; other = 0 }) (holding r) unchanged
Answers c verdict (safe s) = Judges c (record { verdict = Verdict.Safe; matching = 0; other = length s }) unchanged (holding s)
Answers c verdict (ambiguous r s) = Judges c (record { verdict = Verdict.Ambiguous; matching = length r; other = length s }) (holding r) (holding s)
Answers c verdict (refused n m) = Judges c (record { verdict = Verdict.Refused n m; matching = 0; other = 0 }) unchanged unchanged
Answers c verdict (listed es) = ⊥
Answers c (listing n) (faulty r) = ⊥
Answers c (listing n) (safe s) = ⊥
Answers c (listing n) (ambiguous r s) = ⊥
Answers c (listing n) (refused k m) = ⊥
Answers c (listing n) (listed es) = Lists c n from_start es

-- every row of a table holds
abbrev pub AllHold : List Row → Type 0
AllHold [] = Unit {0}
AllHold (w ∷ ws) = Answers w.case w.call w.expected × AllHold ws

-- ---- the table of 01

unfoldable pub hub_table : List Row
hub_table =
    -- H1: log empty | Safe, the empty run
    record { case = hub [] [] []; call = verdict; expected = safe [] }
    -- H2: log 3 | Safe, 3
    ∷ record { case = hub [] [] (3 ∷ []); call = verdict; expected = safe (3 ∷ []) }
    -- H3: log 0 | Safe, 0
    ∷ record { case = hub [] [] (0 ∷ []); call = verdict; expected = safe (0 ∷ []) }
    -- H4: log 0 3 | Ambiguous, matching 0 2 4, other 0 1 3
    ∷ record { case = hub [] [] (0 ∷ 3 ∷ []); call = verdict; expected = ambiguous (0 ∷ 2 ∷ 4 ∷ []) (0 ∷ 1 ∷ 3 ∷ []) }
    -- H5: log 0 3 0 | Safe, 0 1 3 0
    ∷ record { case = hub [] [] (0 ∷ 3 ∷ 0 ∷ []); call = verdict; expected = safe (0 ∷ 1 ∷ 3 ∷ 0 ∷ []) }
    -- H6: H4, priority 2 over 1 | Faulty, 0 2 4
    ∷ record { case = hub (2 ∷ []) (1 ∷ []) (0 ∷ 3 ∷ []); call = verdict; expected = faulty (0 ∷ 2 ∷ 4 ∷ []) }
    -- H7: H5, priority 2 over 1 | refusal 10
    ∷ record { case = hub (2 ∷ []) (1 ∷ []) (0 ∷ 3 ∷ 0 ∷ []); call = verdict; expected = refused 10 0 }
    -- H8: H4, priority 1 over 2 | Safe, 0 1 3
    ∷ record { case = hub (1 ∷ []) (2 ∷ []) (0 ∷ 3 ∷ []); call = verdict; expected = safe (0 ∷ 1 ∷ 3 ∷ []) }
    -- H9: the short pattern; log 0 | Ambiguous, matching 0 2, other 0
    ∷ record { case = short_hub (0 ∷ []); call = verdict; expected = ambiguous (0 ∷ 2 ∷ []) (0 ∷ []) }
    -- H10: H4 listed, limit 3 | 0 1 3 other; 0 2 4 matching; end
    ∷ record {
      case = hub [] [] (0 ∷ 3 ∷ []);
      call = listing 3;
      expected = listed (record { run = 0 ∷ 1 ∷ 3 ∷ []; mark = false } ∷ record { run = 0 ∷ 2 ∷ 4 ∷ []; mark = true } ∷ []);
    }
    -- H11: H4 listed, limit 2 | end
    ∷ record { case = hub [] [] (0 ∷ 3 ∷ []); call = listing 2; expected = listed [] }
    -- H12: H5 listed, limit 5 | 0 1 3 0; 0 1 3 0 1; 0 1 3 0 2, all other; end
    ∷ record {
      case = hub [] [] (0 ∷ 3 ∷ 0 ∷ []);
      call = listing 5;
      expected =
          listed
          (record { run = 0 ∷ 1 ∷ 3 ∷ 0 ∷ []; mark = false }
          ∷ record { run = 0 ∷ 1 ∷ 3 ∷ 0 ∷ 1 ∷ []; mark = false }
          ∷ record { run = 0 ∷ 1 ∷ 3 ∷ 0 ∷ 2 ∷ []; mark = false }
          ∷ []);
    }
    ∷ []
