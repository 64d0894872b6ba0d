-- What a line of the listing says of its run, from the outcome of the call. Assumes nothing.
use Prim.Native.Nat.{ℕ, ◌<◌, ◌≤◌}
use mathlib.Core.Path.{◌≡◌, sym, subst}
use mathlib.Core.List.{List}
use native.Mathlib.Omega.{arith}
use lib.ListN.{length, length-append, drop}
use lib.Seq.{take-append_seam}
use Rattle.std.specs.Prelude.{Option}
use Rattle.rack.specs.Outcome.{holding}
use Rattle.rack.specs.Listing.{after, later, NextIs}
use Rattle.rack.specs.ListingOutcome.{ListingIs}
use Rattle.rack.specs.ListingOutcome.ListingIsIn.{matching, other, end, refused}
use Rattle.rack.specs.declared.Case.{Case}
use Rattle.rack.specs.declared.Listed.{Listed}
use Rattle.explanations.specs.Turns.{shown_of, rank, Comes, LaterSays}
use Rattle.explanations.proofs.Ranks.{Bytes, later-rank, below_top}

-- a room of 24 bytes that holds a run
holds_short : (r room : List ℕ) → length (holding r room) ≡ 24 → length r ≤ 24
holds_short r room e = omega (arith, length-append r (drop (length r) room), e)

-- a run that is given comes later than the one before
module _ {given : List ℕ} (bytes : Bytes given) (short : length given ≤ 24) where
  comes : {c : Case} {limit : ℕ} (r room : List ℕ) → NextIs c limit (after given) r → length (holding r room) ≡ 24 → Comes given (length r) (holding r room)
  unfolding later
  comes r room u e =
      record {
        short = holds_short r room e;
        later = subst (λ (s : List ℕ). rank given < rank s) (sym (take-append_seam r (drop (length r) room))) (later-rank given r bytes u.later_than);
        below = below_top given bytes short;
      }

module _ {f : List ℕ} {limit : ℕ} {room work : List ℕ} where
  module _ {given : List ℕ} (bytes : Bytes given) (short : length given ≤ 24) where
    shown-later : {x : Listed} {a w : List ℕ} → ListingIs f limit (after given) room work x a w → length a ≡ 24 → LaterSays given (shown_of x) a
    shown-later (matching {r = r} g p u k) e = comes bytes short r room u e
    shown-later (other {r = r} g p u k) e = comes bytes short r room u e
    shown-later (end g p u) e = tt
    shown-later (refused u) e = tt

    pub told_next : {x : Listed} {a w : List ℕ} {s : Option ℕ} → ListingIs f limit (after given) room work x a w → length a ≡ 24 → s ≡ shown_of x → LaterSays given s a
    told_next {a = a} l e q = subst (λ (s : Option ℕ). LaterSays given s a) (sym q) (shown-later l e)
