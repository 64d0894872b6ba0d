-- A turn of the reader's loop: whatever the rest of a file reads as, after the records so far, the file reads as from its start.
-- Assumes nothing.
use mathlib.Core.Path.{◌≡◌, sym, ◌∙◌, subst}
use mathlib.Core.Bool.{true, false, true≢false}
use mathlib.Core.List.{List}
use Prim.Native.Nat.{ℕ, ◌+◌, ◌≤◌, ◌<◌}
use native.Mathlib.Omega.{arith}
use lib.ListN.{length}
use Rattle.rack.specs.Marks.{mark_found, can_follow}
use Rattle.rack.specs.Records.{net_says}
use Rattle.rack.specs.Layout.{FieldsAre, end_at, added, RecordIs, case_of_zeros, Ending, whole, broken, Reads, done, wrong, next, ReadAs, ReadsAs, BreaksAt}
use Rattle.rack.specs.declared.Case.{Case}
use Rattle.rack.specs.declared.Mark.{Mark}
use Rattle.rack.specs.declared.Mark.TheVariants.{Nt, Tr, Pr, Ob, Pt, Px, Qf, Lg, En}
use Rattle.rack.proofs.OneReading.{mark_whole, ended}
use Rattle.records.specs.Answer.{Answers}
use Rattle.reader.specs.RowsFit.{RowsFit}
use Rattle.records.specs.declared.Misplaced.{Misplaced}
use Rattle.std.proofs.Common.{Option, Some, None, Result, Ok, Err}
use Rattle.records.proofs.Answered.{good, bad}

-- a right record ends after its mark, within the file
past : (m : Mark) (c : Case) (f : List ℕ) (a : ℕ) → a + 2 ≤ length f → FieldsAre m c f a → (a < end_at m c f a) × (end_at m c f a ≤ length f)
past Nt c f a l w = (omega arith, w.ends)
past Tr c f a l w = (omega arith, w.outputs.ends)
past Pr c f a l w = (omega arith, w.ends)
past Ob c f a l w = (omega arith, w.ends)
past Pt c f a l w = (omega arith, w.ends)
past Px c f a l w = (omega arith, w.outputs.ends)
past Qf c f a l w = (omega arith, w.ends)
past Lg c f a l w = (omega arith, w.ends)
past En c f a l w = (omega arith, l)

-- after it the rows still fit
rows_kept : (m : Mark) (c : Case) (f : List ℕ) (a : ℕ) → FieldsAre m c f a → RowsFit c → RowsFit (added m c f a)
unfolding net_says
rows_kept Nt c f a w s = record { system = w.few; pattern = s.pattern }
rows_kept Tr c f a w s = record { system = s.system; pattern = s.pattern }
rows_kept Pr c f a w s = record { system = s.system; pattern = s.pattern }
rows_kept Ob c f a w s = record { system = s.system; pattern = s.pattern }
rows_kept Pt c f a w s = record { system = s.system; pattern = w.few }
rows_kept Px c f a w s = record { system = s.system; pattern = s.pattern }
rows_kept Qf c f a w s = record { system = s.system; pattern = s.pattern }
rows_kept Lg c f a w s = record { system = s.system; pattern = s.pattern }
rows_kept En c f a w s = s

-- the loop's invariant: records have been read up to a, the last of mark k (None: none was), and c is what they say
pub record SoFar (f : List ℕ) (k : Option Mark) (c : Case) (a : ℕ) : Type 0 where
  pub inside : a ≤ length f
  pub rows : RowsFit c
  pub rest : (e : Ending) → Reads f k c a e → ReadAs f e

pub start : (f : List ℕ) (c : Case) → c ≡ case_of_zeros → SoFar f None c 0
unfolding case_of_zeros
start f c e =
    record {
      inside = omega arith;
      rows = subst RowsFit (sym e) (record { system = omega arith; pattern = omega arith });
      rest = λ x r. subst (λ (z : Case). Reads f None z 0 x) e r;
    }

-- a right record of mark m, which ends before n: what is left to do is to add what it says
pub record Right (f : List ℕ) (c : Case) (a : ℕ) (m : Mark) (n : ℕ) : Type 0 where
  pub fields : FieldsAre m c f a
  pub further : a < n
  pub inside : n ≤ length f
  pub turn : {d : Case} → d ≡ added m c f a → SoFar f (Some m) d n

module _ {f : List ℕ} {k : Option Mark} {a : ℕ} {c : Case} (s : SoFar f k c a) where
  -- EN has come, and bytes are left over
  pub left_over : k ≡ Some En → a < length f → BreaksAt f a
  left_over e h = record { reads = s.rest (broken a) (wrong (λ m. ended f k a c m e) (λ _ z. omega arith)) }

  -- EN has come, at the end
  pub all_read : k ≡ Some En → length f ≤ a → ReadsAs f c
  all_read e h = let z : a ≡ length f = omega (arith, s.inside) in record { reads = s.rest (whole c) (done e z) }

  module _ (n : k ≡ Some En → ⊥) where
    -- no mark stands here
    pub no_mark : mark_found f a ≡ None → BreaksAt f a
    no_mark e = record { reads = s.rest (broken a) (wrong (λ m w. cc (w.found, e)) (λ e _. n e)) }

    module _ {m : Mark} (found : mark_found f a ≡ Some m) where
      -- what a record here is, it is with this mark
      here : {i : Mark} → RecordIs k c f a i → RecordIs k c f a m
      here {i} w = let q : i ≡ m = cc (w.found, found) in subst (RecordIs k c f a) q w

      -- the mark can't stand here
      pub wrong_mark : can_follow k m ≡ false → BreaksAt f a
      wrong_mark e = record { reads = s.rest (broken a) (wrong (λ i w. true≢false (sym (here w).follows ∙ e)) (λ e _. n e)) }

      -- the record is not right
      pub wrong_fields : {r : Result ℕ Misplaced} {q : Misplaced} → Answers (FieldsAre m c f a) (end_at m c f a) a r → r ≡ Err q → BreaksAt f q.place
      wrong_fields {r} {q} ans e =
          let g = bad ans e in
          subst (BreaksAt f) (sym g.1) (record { reads = s.rest (broken a) (wrong (λ i w. g.0 (here w).fields) (λ e _. n e)) })

  pub right_record : {m : Mark} {r : Result ℕ Misplaced} {n : ℕ} → mark_found f a ≡ Some m → can_follow k m ≡ true → Answers (FieldsAre m c f a) (end_at m c f a) a r → r ≡ Ok n
      → Right f c a m n
  right_record {m} found follows ans er =
      let g = good ans er in
      let p = past m c f a (mark_whole f a m found) g.0 in
      record {
        fields = g.0;
        further = omega (arith, p.0, g.1);
        inside = omega (arith, p.1, g.1);
        turn = λ {d} ed.
            record {
              inside = omega (arith, p.1, g.1);
              rows = subst RowsFit (sym ed) (rows_kept m c f a g.0 s.rows);
              rest = λ e x.
                  s.rest e
                  (next (record { found = found; follows = follows; fields = g.0 })
                  (subst (λ (x : Case). Reads f (Some m) x (end_at m c f a) e) ed (subst (λ (x : ℕ). Reads f (Some m) d x e) g.1 x)));
            };
      }
