-- A test that two cases are the same. Assumes nothing.
use mathlib.Core.Path.{◌≡◌}
use mathlib.Core.Bool.{Bool}
use mathlib.Core.List.{List, [], ◌∷◌}
use lib.Dec.{T, eqb, eqb→eq}
use Rattle.walks.specs.Below.{same}
use Rattle.walks.proofs.Tests.{same→eq, all_of, part}
use Rattle.rack.specs.declared.Case.{Case}

unfoldable pub case_tests : Case → Case → List Bool
case_tests a b =
    eqb a.net.places b.net.places
    ∷ eqb a.net.cap b.net.cap
    ∷ same a.net.first b.net.first
    ∷ eqb a.arcs.count b.arcs.count
    ∷ same a.arcs.labels b.arcs.labels
    ∷ same a.arcs.pre b.arcs.pre
    ∷ same a.arcs.post b.arcs.post
    ∷ eqb a.pairs.count b.pairs.count
    ∷ same a.pairs.higher b.pairs.higher
    ∷ same a.pairs.lower b.pairs.lower
    ∷ same a.observable.flags b.observable.flags
    ∷ eqb a.pattern.places b.pattern.places
    ∷ eqb a.pattern.cap b.pattern.cap
    ∷ same a.pattern.first b.pattern.first
    ∷ eqb a.links.count b.links.count
    ∷ same a.links.labels b.links.labels
    ∷ same a.links.pre b.links.pre
    ∷ same a.links.post b.links.post
    ∷ eqb a.bounds.count b.bounds.count
    ∷ same a.bounds.least b.bounds.least
    ∷ same a.bounds.most b.bounds.most
    ∷ eqb a.log.count b.log.count
    ∷ same a.log.labels b.log.labels
    ∷ []

pub same_case : (a b : Case) → T (all_of (case_tests a b)) → a ≡ b
unfolding case_tests
same_case a b t =
    let l = case_tests a b in
    λ j.
    record {
      net =
          record {
            places = eqb→eq a.net.places b.net.places (part l t 0) j;
            cap = eqb→eq a.net.cap b.net.cap (part l t 1) j;
            first = same→eq a.net.first b.net.first (part l t 2) j;
          };
      arcs =
          record {
            count = eqb→eq a.arcs.count b.arcs.count (part l t 3) j;
            labels = same→eq a.arcs.labels b.arcs.labels (part l t 4) j;
            pre = same→eq a.arcs.pre b.arcs.pre (part l t 5) j;
            post = same→eq a.arcs.post b.arcs.post (part l t 6) j;
          };
      pairs =
          record {
            count = eqb→eq a.pairs.count b.pairs.count (part l t 7) j;
            higher = same→eq a.pairs.higher b.pairs.higher (part l t 8) j;
            lower = same→eq a.pairs.lower b.pairs.lower (part l t 9) j;
          };
      observable = record { flags = same→eq a.observable.flags b.observable.flags (part l t 10) j };
      pattern =
          record {
            places = eqb→eq a.pattern.places b.pattern.places (part l t 11) j;
            cap = eqb→eq a.pattern.cap b.pattern.cap (part l t 12) j;
            first = same→eq a.pattern.first b.pattern.first (part l t 13) j;
          };
      links =
          record {
            count = eqb→eq a.links.count b.links.count (part l t 14) j;
            labels = same→eq a.links.labels b.links.labels (part l t 15) j;
            pre = same→eq a.links.pre b.links.pre (part l t 16) j;
            post = same→eq a.links.post b.links.post (part l t 17) j;
          };
      bounds =
          record {
            count = eqb→eq a.bounds.count b.bounds.count (part l t 18) j;
            least = same→eq a.bounds.least b.bounds.least (part l t 19) j;
            most = same→eq a.bounds.most b.bounds.most (part l t 20) j;
          };
      log = record { count = eqb→eq a.log.count b.log.count (part l t 21) j; labels = same→eq a.log.labels b.log.labels (part l t 22) j };
    }
