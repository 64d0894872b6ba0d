-- The whole call: from the checks that it begins with, and what is listed of the case, to the outcome of the listing. Assumes nothing.
use Prim.Native.Nat.{ℕ, ◌≤◌}
use mathlib.Core.Path.{◌≡◌}
use mathlib.Core.List.{List}
use native.Mathlib.Omega.{arith}
use lib.ListN.{length}
use Rattle.rack.specs.Listing.{Asked}
use Rattle.rack.specs.Refusal.{work_room}
use Rattle.rack.specs.Outcome.{zeroed}
use Rattle.rack.specs.ListingOutcome.{limit_most, ListingIs}
use Rattle.rack.specs.declared.Case.{Case}
use Rattle.rack.specs.declared.Listed.{Listed}
use Rattle.rack.specs.declared.Listed.TheVariants.{Refused}
use Rattle.admit.specs.Admits.{of_layout, of_nets, short, of_refused_file, OpenRefuses, OpenedIs}
use Rattle.rack.specs.declared.Refusal.{Refusal}
use Rattle.std.proofs.Common.{Result, Ok, is_ok, true, refl}
use Rattle.std.proofs.lemmas.Bool.{false≢true}
use Rattle.listing.specs.Barred.{Barred, by_room, by_limit, by_neither}
use Rattle.listing.specs.CaseListed.{CaseListed, Listing}
use Rattle.listing.proofs.Listing.{broken_file, nets_refuse, listing_of}

low_limit : {work most : ℕ} {r : Result (Unit {0}) Refusal} → Barred work most r → is_ok r ≡ true → most ≤ limit_most
low_limit (by_neither r h) e = h
low_limit (by_room h) e = absurd (false≢true e)
low_limit (by_limit r h) e = absurd (false≢true e)

long_room : {work most : ℕ} {r : Result (Unit {0}) Refusal} → Barred work most r → is_ok r ≡ true → work_room ≤ work
long_room (by_neither r h) e = r
long_room (by_room h) e = absurd (false≢true e)
long_room (by_limit r h) e = absurd (false≢true e)

module _ (f : List ℕ) (most : ℕ) (asked : Asked) (room work : List ℕ) (passed : Barred (length work) most (Ok tt)) where
  -- 2 to 9
  pub open_refuses : {n m : ℕ} → OpenRefuses f work_room (length work) n m → ListingIs f most asked room work (Refused n m) room (zeroed work)
  open_refuses (short h) = absurd (omega (arith, long_room passed refl))
  open_refuses (of_refused_file h (of_layout w)) = broken_file f most asked room work h (low_limit passed refl) w
  open_refuses (of_refused_file h (of_nets p s)) = nets_refuse f most asked room work h (low_limit passed refl) p s

  -- what the listing of a case asks holds of a file that was opened
  module _ {c : Case} {lent : List ℕ} {n : ℕ} (o : OpenedIs f work_room work c lent n) where
    pub ready_to_list : Listing c lent n most
    ready_to_list =
        let p = o.passes in
        record { ready = record { well = p.well; nets = p.nets; table = p.table; long = omega (arith, o.long, o.enough) }; low = low_limit passed refl }

    -- THE LISTING of the call
    pub listed_outcome : {y : Listed} {a : List ℕ} → CaseListed c most asked room y a → ListingIs f most asked room work y a (zeroed work)
    listed_outcome s = listing_of f most asked room work o.enough (low_limit passed refl) o.reads o.passes.nets s
