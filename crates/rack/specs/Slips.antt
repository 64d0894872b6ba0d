-- "Slips we have seen": for each slip a case that tells. The first two are H9 (stopping at the last log line) and H7 (calling an unexplained
-- log Safe) of the hub's table; the other three stand here.
-- Assumes nothing.
use Rattle.std.specs.Prelude.{ℕ, List, [], ◌∷◌, ◌++◌, length}
use Rattle.rack.specs.Bytes.{filled}
use Rattle.rack.specs.Hub.{arc, Row, verdict, faulty, safe, refused}
use Rattle.rack.specs.declared.Case.{Case}
use Rattle.rack.specs.declared.Net.{Net}
use Rattle.rack.specs.declared.Arcs.{Arcs}
use Rattle.rack.specs.declared.Pairs.{Pairs}

-- a system, its priority pairs and a log, beside a pattern whose places 0 and 1 start with 1 and 0 tokens and that is final with 1 in
-- place 1; labels 0, 1 and 2 are observable
unfoldable pub telling : Net 16 → Arcs 48 768 → Pairs → Arcs 16 128 → List ℕ → Case
telling net arcs pairs links log =
    record {
      net = net;
      arcs = arcs;
      pairs = pairs;
      observable = record { flags = filled 32 (1 ∷ 1 ∷ 1 ∷ []) };
      pattern = record { places = 2; cap = 1; first = filled 8 (1 ∷ 0 ∷ []) };
      links = links;
      bounds = record { count = 1; least = filled 64 (0 ∷ 1 ∷ []); most = filled 64 (1 ∷ 1 ∷ []) };
      log = record { count = length log; labels = filled 40 log };
    }

unfoldable pub no_pairs : Pairs
no_pairs = record { count = 0; higher = filled 32 []; lower = filled 32 [] }

unfoldable pub no_links : Arcs 16 128
no_links = record { count = 0; labels = filled 16 []; pre = filled 128 []; post = filled 128 [] }

-- "Asking whether the higher transition is firable: a chain of pairs then frees the lowest." Three transitions keep the one token where it is;
-- 0 is above 1 and 1 above 2. All are enabled, so only 0 is firable: 1 is not, and blocks 2 all the same.
unfoldable pub chain : Case
chain =
    telling
    (record { places = 1; cap = 1; first = filled 16 (1 ∷ []) })
    (record {
      count = 3;
      labels = filled 48 (0 ∷ 1 ∷ 2 ∷ []);
      pre = filled 768 (arc 16 0 ++ arc 16 0 ++ arc 16 0);
      post = filled 768 (arc 16 0 ++ arc 16 0 ++ arc 16 0);
    })
    (record { count = 2; higher = filled 32 (0 ∷ 1 ∷ []); lower = filled 32 (1 ∷ 2 ∷ []) })
    no_links (2 ∷ [])

-- "Treating a marking as a set: a place with two tokens loses both." Transition 0 takes one of the two tokens each time.
unfoldable pub two_tokens : Case
two_tokens =
    telling
    (record { places = 1; cap = 2; first = filled 16 (2 ∷ []) })
    (record { count = 1; labels = filled 48 (0 ∷ []); pre = filled 768 (arc 16 0); post = filled 768 [] })
    no_pairs no_links (0 ∷ 0 ∷ [])

-- "Letting the pattern skip an event that it could follow." The pattern follows the one firing, so every explanation matches.
unfoldable pub must_follow : Case
must_follow =
    telling
    (record { places = 1; cap = 1; first = filled 16 (1 ∷ []) })
    (record { count = 1; labels = filled 48 (0 ∷ []); pre = filled 768 (arc 16 0); post = filled 768 (arc 16 0) })
    no_pairs
    (record { count = 1; labels = filled 16 (0 ∷ []); pre = filled 128 (arc 8 0); post = filled 128 (arc 8 1) })
    (0 ∷ [])

unfoldable pub slip_table : List Row
slip_table =
    record { case = chain; call = verdict; expected = refused 10 0 }
    ∷ record { case = two_tokens; call = verdict; expected = safe (0 ∷ 0 ∷ []) }
    ∷ record { case = must_follow; call = verdict; expected = faulty (0 ∷ []) }
    ∷ []
