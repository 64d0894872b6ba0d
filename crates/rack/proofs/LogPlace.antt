-- Where the log stands in a file that reads as a case: its labels end two bytes before the file's end.
-- Assumes nothing.
use mathlib.Core.Path.{◌≡◌, refl, sym, ap, ◌∙◌, subst}
use mathlib.Core.Bool.{true, true≢false}
use mathlib.Core.List.{List}
use Prim.Native.Nat.{ℕ, ◌+◌, ◌-◌, ◌≤◌}
use native.Mathlib.Omega.{arith}
use lib.ListN.{length, take}
use Rattle.std.proofs.Common.{Option, Some, None}
use Rattle.rack.specs.Bytes.{byte, part, list_at}
use Rattle.rack.specs.Marks.{follows, can_follow}
use Rattle.rack.specs.Records.{lg_end, lg_says}
use Rattle.rack.specs.Layout.{FieldsAre, end_at, added, case_of_zeros, whole, Reads, done, next, ReadsAs}
use Rattle.rack.specs.CaseFileOutcome.{log_offset, log_stretch}
use Rattle.rack.specs.declared.Case.{Case}
use Rattle.rack.specs.declared.Mark.{Mark}
use Rattle.rack.specs.declared.Mark.TheVariants.{Nt, Tr, Pr, Ob, Pt, Px, Qf, Lg, En}
use Rattle.rack.proofs.WellFormedLists.{length_part, filled_back}

-- EN comes after LG alone
before_en : (k : Option Mark) → can_follow k En ≡ true → k ≡ Some Lg
unfolding follows
before_en None e = absurd (true≢false (sym e))
before_en (Some Nt) e = absurd (true≢false (sym e))
before_en (Some Tr) e = absurd (true≢false (sym e))
before_en (Some Pr) e = absurd (true≢false (sym e))
before_en (Some Ob) e = absurd (true≢false (sym e))
before_en (Some Pt) e = absurd (true≢false (sym e))
before_en (Some Px) e = absurd (true≢false (sym e))
before_en (Some Qf) e = absurd (true≢false (sym e))
before_en (Some Lg) e = refl
before_en (Some En) e = absurd (true≢false (sym e))

-- the log's labels stand just before offset b
record Stands (f : List ℕ) (c : Case) (b : ℕ) : Type 0 where
  fits : c.log.count ≤ b
  are : part f (b - c.log.count) c.log.count ≡ take c.log.count c.log.labels

-- after LG they end where the next mark is due, after EN two bytes earlier
abbrev Logged : List ℕ → Option Mark → Case → ℕ → Type 0
Logged f (Some Lg) c a = Stands f c a
Logged f (Some En) c a = Stands f c (a - 2) × (2 ≤ a)
Logged f _ c a = Unit {0}

logged : (m : Mark) (f : List ℕ) (k : Option Mark) (c : Case) (a : ℕ) → can_follow k m ≡ true → FieldsAre m c f a → Logged f k c a → Logged f (Some m) (added m c f a) (end_at m c f a)
unfolding lg_says
logged Nt f k c a r w s = tt
logged Tr f k c a r w s = tt
logged Pr f k c a r w s = tt
logged Ob f k c a r w s = tt
logged Pt f k c a r w s = tt
logged Px f k c a r w s = tt
logged Qf f k c a r w s = tt
logged Lg f k c a r w s =
    let n = byte f (a + 2) in
    let d : lg_end f a - n ≡ a + 2 + 1 = omega arith in
    let e = filled_back 40 (list_at f (a + 2)) n (length_part f (a + 2 + 1) n w.ends) in
    record { fits = omega arith; are = ap (λ (x : ℕ). part f x n) d ∙ sym e }
logged En f k c a r w s =
    let p : Stands f c a = subst (λ (j : Option Mark). Logged f j c a) (before_en k r) s in
    (subst (Stands f c) (omega arith) p, omega arith)

stands : (f : List ℕ) (k : Option Mark) (c : Case) (a : ℕ) (e : Case) → Reads f k c a (whole e) → Logged f k c a → Stands f e (length f - 2) × (2 ≤ length f)
stands f k c a e (done u v) s = subst (λ (b : ℕ). Stands f e (b - 2) × (2 ≤ b)) v (subst (λ (j : Option Mark). Logged f j e a) u s)
stands f k c a e (next {m = m} w r) s = stands f _ _ _ e r (logged m f k c a w.follows w.fields s)

stands_read : {f : List ℕ} {c : Case} → ReadsAs f c → Stands f c (length f - 2) × (2 ≤ length f)
stands_read {f} {c} r = stands f None case_of_zeros 0 c r.reads tt

-- the log and EN's two bytes are in the file
pub log_fits : {f : List ℕ} {c : Case} → ReadsAs f c → c.log.count + 2 ≤ length f
log_fits r = let s = stands_read r in omega (arith, s.0.fits, s.1)

-- "a record's body is shown as the stretch of the caller's file that holds the labels"
pub log_labels : {f : List ℕ} {c : Case} → ReadsAs f c → log_stretch f c ≡ take c.log.count c.log.labels
log_labels {f} {c} r =
    let s = stands_read r in
    let d : log_offset f c ≡ length f - 2 - c.log.count = omega arith in
    ap (λ (x : ℕ). part f x c.log.count) d ∙ s.0.are

-- as many bytes as the log has labels
pub log_long : {f : List ℕ} {c : Case} → ReadsAs f c → length (log_stretch f c) ≡ c.log.count
log_long {f} {c} r = length_part f (log_offset f c) c.log.count (omega (arith, log_fits r))
