-- A FILE OF THE LONGEST LENGTH: with `longest` of writer's RoundTrip.antt, "The longest file has 2,496 bytes". Every count is at its limit, every place is an
-- input and an output of every transition, and every label is observable. That it reads is settled by reading it. Assumes nothing.
use Prim.Native.Nat.{ℕ, suc}
use mathlib.Core.Path.{◌≡◌, refl}
use mathlib.Core.Bool.{Bool, true, false}
use mathlib.Core.List.{List}
use Rattle.std.proofs.Common.{Option, Some, None}
use lib.ListN.{length, replicate}
use lib.Dec.{T}
use Rattle.walks.specs.Below.{all_below, table_from, every}
use Rattle.rack.specs.Bytes.{filled, put, rising, marked}
use Rattle.rack.specs.Marks.{mark_of, follows}
use Rattle.rack.specs.Records.{net_says, arcs_says, pr_says, ob_says, bounds, qf_says, observed, lg_says}
use Rattle.rack.specs.Layout.{case_of_zeros, ReadsAs}
use Rattle.rack.specs.Writing.{listed, up_to, nt_bytes, tr_bytes, pr_bytes, ob_bytes, pt_bytes, px_bytes, qf_bytes, lg_bytes, bytes_of}
use Rattle.rack.specs.declared.Case.{Case}
use Rattle.rack.proofs.Parse.{list_tests, net_tests, arcs_tests, rises_test, pr_tests, qf_tests, lg_tests, fields_test, after_right, parse, parsed}

unfoldable long_case : Case
long_case =
    record {
      net = record { places = 16; cap = 15; first = replicate 16 0 };
      arcs = record { count = 48; labels = replicate 48 0; pre = replicate 768 1; post = replicate 768 1 };
      pairs = record { count = 32; higher = replicate 32 0; lower = table_from 0 32 suc };
      observable = record { flags = replicate 32 1 };
      pattern = record { places = 8; cap = 15; first = replicate 8 0 };
      links = record { count = 16; labels = replicate 16 0; pre = replicate 128 1; post = replicate 128 1 };
      bounds = record { count = 8; least = replicate 64 0; most = replicate 64 0 };
      log = record { count = 40; labels = replicate 40 0 };
    }

has-length : length (bytes_of long_case) ≡ 2496
unfolding long_case table_from listed up_to nt_bytes tr_bytes pr_bytes ob_bytes pt_bytes px_bytes qf_bytes lg_bytes bytes_of
has-length = refl

-- ---- it reads

found : Option Case → Bool
found None = false
found (Some c) = true

reads_as : (f : List ℕ) (o : Option Case) → parse 200 f None case_of_zeros 0 ≡ o → T (found o) → (c : Case) × ReadsAs f c
unfolding found
reads_as f None e t = absurd t
reads_as f (Some c) e t = (c, parsed e)

computed : T (found (parse 200 (bytes_of long_case) None case_of_zeros 0))
unfolding found long_case all_below table_from every filled put rising marked mark_of follows net_says arcs_says pr_says ob_says bounds qf_says observed lg_says case_of_zeros listed up_to nt_bytes tr_bytes pr_bytes ob_bytes pt_bytes px_bytes qf_bytes lg_bytes bytes_of list_tests net_tests arcs_tests rises_test pr_tests qf_tests lg_tests fields_test after_right parse
computed = tt

-- "The longest file has 2,496 bytes.": a file of that length reads
pub longest_there : (f : List ℕ) × ((c : Case) × ReadsAs f c) × (length f ≡ 2496)
longest_there = (bytes_of long_case, reads_as (bytes_of long_case) (parse 200 (bytes_of long_case) None case_of_zeros 0) refl computed, has-length)
