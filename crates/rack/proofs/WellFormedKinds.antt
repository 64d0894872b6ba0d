-- Each kind of record leaves its part of the case as specs/WellFormed.antt says, and takes no other part's facts away. Assumes nothing.
use Prim.Native.Nat.{ℕ, ◌+◌, ◌*◌, ◌≤◌, ◌<◌}
use mathlib.Core.Path.{◌≡◌, refl, sym, ◌∙◌, subst}
use mathlib.Core.Bool.{Bool, true, false}
use mathlib.Core.List.{List}
use mathlib.Core.Logic.{◌⊎◌, inl, inr}
use native.Mathlib.Nat.{zero-mul, suc-mul, mul-le-mul_right}
use native.Mathlib.Numerals.{add-one}
use native.Mathlib.Omega.{arith}
use lib.ListN.{length, get_or, set, replicate, length-set, length-replicate}
use lib.Seq.{get_or-set_same, get_or-set_other}
use lib.Dec.{T, leb, ltb, eqb, leb→le, le→leb, ltb→lt}
use borrow.Author.Tests.{ltb-true, ltb-false}
use Rattle.walks.specs.Below.{table_from}
use Rattle.walks.proofs.Tests.{and_left, and_right, is_true, of_true, below_at}
use Rattle.rack.specs.Bytes.{byte, part, at_most, filled, put, rising, marked, list_at, list_end}
use Rattle.rack.specs.Net.{capped, within}
use Rattle.rack.specs.Records.{NetIs, ArcsIs, PairRises, PrIs, pr_says, ob_says, least_at, most_at, QfIs, qf_says, observed, LgIs, lg_says}
use Rattle.rack.specs.Records as Records
use Rattle.rack.specs.WellFormed.{SlotsFit, RowsFit, NetFits, ArcsFit, PairBefore, PairsFit, FlagsFit, BoundsFit, LogFits}
use Rattle.rack.specs.declared.Pairs.{Pairs}
use Rattle.rack.specs.declared.Bounds.{Bounds}
use Rattle.rack.specs.declared.Log.{Log}
use Rattle.rack.proofs.WellFormedLists.{zeros, length_part, every_at, all_below_lem, same_column, set_keeps, marked-keeps, length_marked, marked_other}
use Rattle.rack.proofs.WellFormedLists.{length-filled, filled_in, filled_beyond, filled_keeps}
use Rattle.walks.proofs.Tables.{length_table, table_at}
use Rattle.rack.proofs.WellFormedLists.{Spot, before, inside, after, spot, length-put, put-before, put-after, put_both}

-- ---- slots

pub slots_none : (most top : ℕ) → SlotsFit most 0 top (replicate most 0)
slots_none most top = record { long = length-replicate most 0; few = omega arith; below = λ k h. absurd (omega arith); beyond = λ k h. zeros most k }

module _ {most count top : ℕ} {l : List ℕ} (s : SlotsFit most count top l) where
  -- one number more
  pub slots_more : (v : ℕ) → count < most → v < top → SlotsFit most (count + 1) top (set l count v)
  slots_more v room small =
      record {
        long = length-set l count v ∙ s.long;
        few = omega arith;
        below = λ k h. set_below k h (ltb k count) refl;
        beyond = λ k h. get_or-set_other l count k v 0 (λ e. omega arith) ∙ s.beyond k (omega arith);
      }
    where
      set_below : (k : ℕ) → k < count + 1 → (b : Bool) → ltb k count ≡ b → get_or (set l count v) k 0 < top
      set_below k h true e = set_keeps (λ (n : ℕ). n < top) l count v k small (s.below k (ltb-true k count e))
      set_below k h false e =
          let q : count ≡ k = omega (arith, ltb-false k count e) in
          subst (λ (j : ℕ). get_or (set l count v) j 0 < top) q (rw (get_or-set_same l count v 0 (omega (arith, s.long))) small)

  -- a wider bound
  pub slots_wider : (wide : ℕ) → top ≤ wide → SlotsFit most count wide l
  slots_wider wide h = record { long = s.long; few = s.few; below = λ k b. omega (arith, s.below k b); beyond = s.beyond }

-- ---- rows

pub next_row : (n w : ℕ) → (n + 1) * w ≡ n * w + w
next_row n w = rw (add-one n) (suc-mul n w)

-- row t ends where a later row may begin
pub rows_apart : (w : ℕ) {t n : ℕ} → t < n → t * w + w ≤ n * w
rows_apart w {t} {n} h = subst (λ (k : ℕ). k ≤ n * w) (suc-mul t w) (mul-le-mul_right w h)

pub rows_none : (width most places top : ℕ) → RowsFit width most 0 places top (replicate (most * width) 0)
rows_none width most places top =
    record {
      long = length-replicate (most * width) 0;
      low = λ i. rw (zeros (most * width) i) (omega arith);
      beyond = λ i h. zeros (most * width) i;
      beside = λ t p h k. zeros (most * width) (t * width + p);
    }

module _ {width most count places top : ℕ} {rows : List ℕ} (r : RowsFit width most count places top rows) where
  -- no row is used: then it fits every count of places and every bound
  pub rows_unused : count ≡ 0 → (places' top' : ℕ) → RowsFit width most count places' top' rows
  rows_unused e places' top' = record { long = r.long; low = λ i. rw (all_zero i) (omega arith); beyond = λ i h. all_zero i; beside = λ t p h k. all_zero (t * width + p) }
    where
      all_zero : (i : ℕ) → get_or rows i 0 ≡ 0
      all_zero i = r.beyond i (rw (e, zero-mul width) (omega arith))

  -- one row more, marked by a list that rises and stays below the count of places
  pub rows-marked : (l : List ℕ) → places ≤ width → 1 ≤ top → rising 0 places l ≡ true → RowsFit width most (count + 1) places top (marked (count * width) l rows)
  rows-marked l few one rises =
      record {
        long = length_marked (count * width) l rows ∙ r.long;
        low = λ i. marked-keeps (λ (n : ℕ). n ≤ top) (count * width) l rows i one (r.low i);
        beyond = λ i h. other i (λ x b e. omega (arith, next_row count width)) ∙ r.beyond i (omega (arith, next_row count width));
        beside = λ t p h k. other (t * width + p) (λ x b e. omega (arith, same_column width t count p x k (omega arith) e)) ∙ r.beside t p h k;
      }
    where
      other : (i : ℕ) → ((x : ℕ) → x < places → i ≡ count * width + x → ⊥) → get_or (marked (count * width) l rows) i 0 ≡ get_or rows i 0
      other i n = marked_other (count * width) 0 places l rows i rises n

  pub row_fits : (x : List ℕ) → count < most → places ≤ width → length x ≡ places → count * width + length x ≤ length rows
  row_fits x room few n = omega (arith, r.long, rows_apart width room)

  -- one row more, put whole
  pub rows-put : (x : List ℕ) → count < most → places ≤ width → length x ≡ places → ((j : ℕ) → j < length x → get_or x j 0 ≤ top)
      → RowsFit width most (count + 1) places top (put rows (count * width) x)
  rows-put x room few n small =
      record {
        long = length-put rows (count * width) x fits ∙ r.long;
        low = put_both (λ (v w : ℕ). v ≤ top) rows rows (count * width) x x fits refl refl r.low small;
        beyond = λ i h. put-after rows (count * width) x fits i (omega (arith, next_row count width)) ∙ r.beyond i (omega (arith, next_row count width));
        beside = λ t p h k. besides t p h k (spot (count * width) (length x) (t * width + p));
      }
    where
      fits : count * width + length x ≤ length rows
      fits = row_fits x room few n

      besides : (t p : ℕ) → places ≤ p → p < width → Spot (count * width) (length x) (t * width + p) → get_or (put rows (count * width) x) (t * width + p) 0 ≡ 0
      besides t p h k (before b) = put-before rows (count * width) x fits (t * width + p) b ∙ r.beside t p h k
      besides t p h k (inside j b e) = absurd (omega (arith, same_column width t count p j k (omega arith) e))
      besides t p h k (after b) = put-after rows (count * width) x fits (t * width + p) b ∙ r.beside t p h k

-- ---- NT and PT

pub net_fits : (width : ℕ) {f : List ℕ} {a : ℕ} → NetIs width f a → NetFits width (byte f (a + 2)) (byte f (a + 3)) (filled width (part f (a + 4) (byte f (a + 2))))
unfolding capped within
net_fits width {f} {a} w =
    record {
      some = w.some;
      few = w.few;
      cap_some = w.cap;
      cap_low = w.low;
      long = length-filled width l (omega (arith, n, w.few));
      tokens = tokens;
      tokens_within = all_below_lem width (capped cap (filled width l)) (λ k b. le→leb (get_or (filled width l) k 0) cap (tokens k));
      beyond = λ p h. filled_beyond width l p (omega (arith, n));
    }
  where
    cap : ℕ
    cap = byte f (a + 3)

    l : List ℕ
    l = part f (a + 4) (byte f (a + 2))

    n : length l ≡ byte f (a + 2)
    n = length_part f (a + 4) (byte f (a + 2)) w.ends

    tokens : (p : ℕ) → get_or (filled width l) p 0 ≤ cap
    tokens = filled_keeps width l (λ (v : ℕ). v ≤ cap) (omega arith) (λ i h. leb→le (get_or l i 0) cap (every_at (at_most cap) l (of_true _ w.within) i h))

-- ---- TR and PX

pub arcs_none : (width most places : ℕ) → ArcsFit width most places 0 (replicate most 0) (replicate (most * width) 0) (replicate (most * width) 0)
arcs_none width most places = record { names = slots_none most 32; inputs = rows_none width most places 1; outputs = rows_none width most places 1 }

module _ {width most places count : ℕ} {labels pre post : List ℕ} (s : ArcsFit width most places count labels pre post) where
  -- before the first transition the count of places may change
  pub arcs_unused : count ≡ 0 → (places' : ℕ) → ArcsFit width most places' count labels pre post
  arcs_unused e places' = record { names = s.names; inputs = rows_unused s.inputs e places' 1; outputs = rows_unused s.outputs e places' 1 }

  pub arcs_more : {f : List ℕ} {a : ℕ} → places ≤ width → ArcsIs most places count f a
      → ArcsFit width most places (count + 1) (set labels count (byte f (a + 2))) (marked (count * width) (list_at f (a + 3)) pre) (marked (count * width) (list_at f (list_end f (a + 3))) post)
  arcs_more {f} {a} few w =
      record {
        names = slots_more s.names (byte f (a + 2)) w.few w.label;
        inputs = rows-marked s.inputs (list_at f (a + 3)) few (omega arith) w.inputs.rises;
        outputs = rows-marked s.outputs (list_at f (list_end f (a + 3))) few (omega arith) w.outputs.rises;
      }

-- ---- PR

module _ {transitions : ℕ} {c : Pairs} (s : PairsFit transitions c) where
  pub pairs_more : {f : List ℕ} {a : ℕ} → PrIs transitions c f a → PairsFit transitions (pr_says c f a)
  unfolding pr_says
  pairs_more {f} {a} w =
      record {
        highers = slots_more s.highers x w.few w.higher;
        lowers = slots_more s.lowers y w.few w.lower;
        rises = λ k h. go k h (ltb (k + 1) n) refl;
      }
    where
      n : ℕ
      n = c.count

      x : ℕ
      x = byte f (a + 2)

      y : ℕ
      y = byte f (a + 3)

      -- the new pair comes after the last one
      last : (k : ℕ) → k + 1 ≡ n → (n ≡ 0) ⊎ PairRises c x y → PairBefore (get_or c.higher k 0) (get_or c.lower k 0) x y
      last k e (inl z) = absurd (omega arith)
      last k e (inr r) = subst (λ (j : ℕ). PairBefore (get_or c.higher j 0) (get_or c.lower j 0) x y) (omega arith) r

      go : (k : ℕ) → k + 1 < n + 1 → (b : Bool) → ltb (k + 1) n ≡ b
          → PairBefore (get_or (set c.higher n x) k 0) (get_or (set c.lower n y) k 0) (get_or (set c.higher n x) (k + 1) 0) (get_or (set c.lower n y) (k + 1) 0)
      go k h true e =
          let l = ltb-true (k + 1) n e in
          rw (get_or-set_other c.higher n k x 0 (omega arith), get_or-set_other c.lower n k y 0 (omega arith), get_or-set_other c.higher n (k + 1) x 0 (omega arith), get_or-set_other c.lower n (k + 1) y 0 (omega arith))
          (s.rises k l)
      go k h false e =
          let q : k + 1 ≡ n = omega (arith, ltb-false (k + 1) n e) in
          let higher = get_or-set_same c.higher n x 0 (omega (arith, s.highers.long, w.few)) in
          let lower = get_or-set_same c.lower n y 0 (omega (arith, s.lowers.long, w.few)) in
          rw (get_or-set_other c.higher n k x 0 (omega arith), get_or-set_other c.lower n k y 0 (omega arith), q, higher, lower)
          (last k q w.rises)

  -- more transitions
  pub pairs_wider : (wide : ℕ) → transitions ≤ wide → PairsFit wide c
  pairs_wider wide h = record { highers = slots_wider s.highers wide h; lowers = slots_wider s.lowers wide h; rises = s.rises }

-- ---- OB

pub flags_fit : (f : List ℕ) (a : ℕ) → FlagsFit (ob_says f a).flags
unfolding ob_says
flags_fit f a =
    record {
      long = length_marked 0 (list_at f (a + 2)) (replicate 32 0) ∙ length-replicate {A = ℕ} 32 0;
      bits = λ e. marked-keeps (λ (n : ℕ). n ≤ 1) 0 (list_at f (a + 2)) (replicate 32 0) e (omega arith) (rw (zeros 32 e) (omega arith));
    }

-- ---- QF

module _ {places cap : ℕ} {c : Bounds} (s : BoundsFit places cap c) where
  -- before the first bounds the places and the cap may change
  pub bounds_unused : c.count ≡ 0 → (places' cap' : ℕ) → BoundsFit places' cap' c
  bounds_unused e places' cap' =
      record { few = s.few; leasts = rows_unused s.leasts e places' cap'; mosts = rows_unused s.mosts e places' cap'; ordered = s.ordered }

  pub bounds_more : {f : List ℕ} {a : ℕ} → places ≤ 8 → QfIs places cap c.count f a → BoundsFit places cap (qf_says places c f a)
  unfolding qf_says Records.bounds
  bounds_more {f} {a} few w =
      record {
        few = omega (arith, w.few);
        leasts = rows-put s.leasts leasts w.few few (length_table 0 places (least_at f a)) (λ j h. omega (arith, ordered j h, capped_at j h));
        mosts = rows-put s.mosts mosts w.few few (length_table 0 places (most_at f a)) (λ j h. capped_at j (omega (arith, same)));
        ordered = put_both (λ (v w : ℕ). v ≤ w) c.least c.most (c.count * 8) leasts mosts
            (row_fits s.leasts leasts w.few few (length_table 0 places (least_at f a))) (s.mosts.long ∙ sym s.leasts.long) same s.ordered ordered;
      }
    where
      leasts : List ℕ
      leasts = table_from 0 places (least_at f a)

      mosts : List ℕ
      mosts = table_from 0 places (most_at f a)

      same : length mosts ≡ length leasts
      same = length_table 0 places (most_at f a) ∙ sym (length_table 0 places (least_at f a))

      right : (j : ℕ) → j < length leasts → T (Records.bounds f a cap (0 + j))
      right j h = below_at places (Records.bounds f a cap) (of_true _ w.each) (0 + j) (omega (arith, length_table 0 places (least_at f a)))

      ordered : (j : ℕ) → j < length leasts → get_or leasts j 0 ≤ get_or mosts j 0
      ordered j h =
          rw (table_at 0 places (least_at f a) j (omega (arith, length_table 0 places (least_at f a))), table_at 0 places (most_at f a) j (omega (arith, length_table 0 places (least_at f a))))
          (leb→le _ _ (and_left (leb (least_at f a (0 + j)) (most_at f a (0 + j))) (leb (most_at f a (0 + j)) cap) (right j h)))

      capped_at : (j : ℕ) → j < length leasts → get_or mosts j 0 ≤ cap
      capped_at j h =
          rw (table_at 0 places (most_at f a) j (omega (arith, length_table 0 places (least_at f a))))
          (leb→le _ _ (and_right (leb (least_at f a (0 + j)) (most_at f a (0 + j))) (leb (most_at f a (0 + j)) cap) (right j h)))

-- ---- LG

-- before LG the observable labels may change
pub log_unused : {flags : List ℕ} {c : Log} → LogFits flags c → c.count ≡ 0 → (flags' : List ℕ) → LogFits flags' c
log_unused s e flags' = record { names = s.names; seen = λ i h. absurd (omega arith) }

pub log_fits : {flags f : List ℕ} {a : ℕ} → LgIs flags f a → LogFits flags (lg_says f a)
unfolding lg_says observed
log_fits {flags} {f} {a} w =
    record {
      names = record {
        long = length-filled 40 l (omega (arith, n, w.few));
        few = w.few;
        below = λ k h. ltb→lt (get_or (filled 40 l) k 0) 32 (and_left (ltb (get_or (filled 40 l) k 0) 32) (eqb (get_or flags (get_or (filled 40 l) k 0) 0) 1) (passed k h));
        beyond = λ k h. filled_beyond 40 l k (omega (arith, n));
      };
      seen = λ i h. is_true (observed flags (get_or (filled 40 l) i 0)) (passed i h);
    }
  where
    l : List ℕ
    l = list_at f (a + 2)

    n : length l ≡ byte f (a + 2)
    n = length_part f (a + 2 + 1) (byte f (a + 2)) w.ends

    passed : (i : ℕ) → i < byte f (a + 2) → T (observed flags (get_or (filled 40 l) i 0))
    passed i h = let b : i < length l = omega (arith, n) in rw (filled_in 40 l i b) (every_at (observed flags) l (of_true _ w.observable) i b)
