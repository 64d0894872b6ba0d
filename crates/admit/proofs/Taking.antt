-- From what the reader and the checks 3 to 9 answer to what opening a file answers. Assumes nothing.
use Prim.Native.Nat.{ℕ, ◌≤◌}
use mathlib.Core.Path.{◌≡◌, refl, sym, subst}
use mathlib.Core.List.{List}
use native.Mathlib.Omega.{arith}
use lib.ListN.{length}
use Rattle.rack.specs.Layout.{ReadsAs}
use Rattle.rack.specs.WellFormed.{WellFormed}
use Rattle.rack.specs.NetChecks.{NetRefuses, NetAccepts, pattern_order, product_order}
use Rattle.rack.specs.Refusal.{speaks, rests}
use Rattle.rack.specs.CaseFileOutcome.{ReaderIs}
use Rattle.rack.specs.declared.Case.{Case}
use Rattle.rack.specs.declared.Reading.{Reading}
use Rattle.rack.specs.declared.Refusal.{Refusal}
use Rattle.rack.specs.declared.Refusal.TheVariants as Refused
use Rattle.rack.specs.Refused.{number_of, beside_of}
use Rattle.rack.specs.declared.Outcome.TheVariants as Outcome
use Rattle.rack.proofs.Lift.{accept_passes}
use Rattle.rack.proofs.WellFormed.{well_formed}
use Rattle.reach.specs.Table.{TableOf}
use Rattle.reader.proofs.Given.{given_whole}
use Rattle.admit.specs.Admits.{NetsRefuse, of_nets, OpenRefuses, of_refused_file, OpenedIs}

-- 8 and 9 have no number beside them
pub product_alone : (r : Refusal) {c : Case} → NetRefuses c product_order (number_of r) → beside_of r ≡ 0
product_alone r s = go r (number_of r) refl s
  where
    go : (r : Refusal) {c : Case} (n : ℕ) → number_of r ≡ n → NetRefuses c product_order n → beside_of r ≡ 0
    go (Refused.Layout p) n e (speaks x) = absurd (omega arith)
    go (Refused.Layout p) n e (rests q (speaks x)) = absurd (omega arith)
    go (Refused.Layout p) n e (rests q (rests s x)) = elim x [ ]
    go (Refused.LentRoom p) n e (speaks x) = absurd (omega arith)
    go (Refused.LentRoom p) n e (rests q (speaks x)) = absurd (omega arith)
    go (Refused.LentRoom p) n e (rests q (rests s x)) = elim x [ ]
    go _ n e s = refl

module _ {f : List ℕ} {r : Reading} (x : ReaderIs f r) (whole : r.outcome ≡ Outcome.Whole) where
  pub case_well : WellFormed r.case
  case_well = well_formed (given_whole x whole)

  module _ (plan : Case) (made : plan ≡ r.case) where
    pub plan_well : WellFormed plan
    plan_well = subst WellFormed (sym made) case_well

    plan_reads : ReadsAs f plan
    plan_reads = subst (ReadsAs f) (sym made) (given_whole x whole)

    pub nets_refuse : {needed long n m : ℕ} → needed ≤ long → m ≡ 0 → NetsRefuse plan n 0 → OpenRefuses f needed long n m
    nets_refuse enough e s = rw e (of_refused_file enough (of_nets plan_reads s))

    pub nets_pass : {needed : ℕ} {work room : List ℕ} {n : ℕ} → needed ≤ length work → length room ≡ length work → NetAccepts plan pattern_order
        → NetAccepts plan product_order × TableOf plan room n → OpenedIs f needed work plan room n
    nets_pass enough long a b = record { enough = enough; long = long; reads = plan_reads; passes = record { well = plan_well; nets = accept_passes a b.0; table = b.1 } }
