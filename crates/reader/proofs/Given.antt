-- The reader's outcome, put together for a refusal and taken apart for whoever calls the reader.
-- Assumes nothing.
use mathlib.Core.Path.{◌≡◌, sym, subst}
use mathlib.Core.List.{List}
use Prim.Native.Nat.{ℕ}
use native.Mathlib.Omega.{arith}
use Rattle.rack.specs.Layout.{ReadsAs, BreaksAt}
use Rattle.rack.specs.Refusal.{speaks, rests}
use Rattle.rack.specs.CaseFileOutcome.{ReaderIs, read, refused}
use Rattle.rack.specs.declared.Outcome.TheVariants.{Whole, Refused}
use Rattle.rack.specs.declared.Reading.{Reading}
use Rattle.reader.specs.Answer.{refusal}

-- a file that breaks at a place is refused there
pub refuses : {f : List ℕ} {p : ℕ} {r : Reading} → r ≡ refusal p → BreaksAt f p → ReaderIs f r
refuses {f} e b = subst (ReaderIs f) (sym e) (refused (speaks b))

-- a file that the reader takes whole reads as the case that it gives
pub given_whole : {f : List ℕ} {r : Reading} → ReaderIs f r → r.outcome ≡ Whole → ReadsAs f r.case
given_whole (read x) e = x
given_whole (refused x) e = let z : ◌≡◌ {A = ℕ} 0 1 = cc in absurd (omega arith)

-- a file that the reader refuses breaks at the place that it gives
pub given_refused : {f : List ℕ} {r : Reading} {n m : ℕ} → ReaderIs f r → r.outcome ≡ Refused n m → BreaksAt f m
given_refused (read x) e = let z : ◌≡◌ {A = ℕ} 0 1 = cc in absurd (omega arith)
given_refused {f} {m = m} (refused {m = k} (speaks b)) e = let q : k ≡ m = cc in subst (BreaksAt f) q b
given_refused {f = f} {m = m} (ReaderIs.refused {n = n} {m = k} (rests _ x)) e = elim x [ ]
