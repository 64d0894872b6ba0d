-- The records of a case file: when the bytes at a are a right one, where it ends, and what it says.
-- Assumes nothing.
use Rattle.std.specs.Prelude.{ℕ, ◌+◌, ◌*◌, ◌-◌, ◌≤◌, ◌<◌, ◌≡◌, ◌⊎◌, Bool, true, ◌&&◌, List, length, get_or, set, replicate, ltb, leb, eqb}
use Rattle.walks.specs.Below.{all_below, every, table_from}
use Rattle.rack.specs.Bytes.{byte, part, at_most, filled, put, marked, list_at, list_end, ListIs}
use Rattle.rack.specs.declared.Net.{Net}
use Rattle.rack.specs.declared.Arcs.{Arcs}
use Rattle.rack.specs.declared.Pairs.{Pairs}
use Rattle.rack.specs.declared.Observable.{Observable}
use Rattle.rack.specs.declared.Bounds.{Bounds}
use Rattle.rack.specs.declared.Log.{Log}

-- ---- NT | "place count 1..16, cap 1..15, each place's first tokens (at most the cap)"
-- PT | "as NT, with 1..8 places, for the pattern"

pub record NetIs (most : ℕ) (f : List ℕ) (a : ℕ) : Type 0 where
  pub starts : a + 4 ≤ length f
  pub some : 1 ≤ byte f (a + 2)
  pub few : byte f (a + 2) ≤ most
  pub cap : 1 ≤ byte f (a + 3)
  pub low : byte f (a + 3) ≤ 15
  pub ends : a + 4 + byte f (a + 2) ≤ length f
  pub within : every (at_most (byte f (a + 3))) (part f (a + 4) (byte f (a + 2))) ≡ true

abbrev pub net_end : List ℕ → ℕ → ℕ
net_end f a = a + 4 + byte f (a + 2)

unfoldable pub net_says : (most : ℕ) → List ℕ → ℕ → Net most
net_says most f a = record { places = byte f (a + 2); cap = byte f (a + 3); first = filled most (part f (a + 4) (byte f (a + 2))) }

-- ---- TR | "label 0..31; input count, inputs; output count, outputs" | "0..48"
-- PX | "as TR, for the pattern" | "0..16"
-- "Numbers must name an existing place": those below the net's place count. count: how many came before; most: how many may come.

pub record ArcsIs (most places count : ℕ) (f : List ℕ) (a : ℕ) : Type 0 where
  pub few : count < most
  pub starts : a + 2 < length f
  pub label : byte f (a + 2) < 32
  pub inputs : ListIs places f (a + 3)
  pub outputs : ListIs places f (list_end f (a + 3))

abbrev pub arcs_end : List ℕ → ℕ → ℕ
arcs_end f a = list_end f (list_end f (a + 3))

-- in rows of a width: 16 for the system, 8 for the pattern
unfoldable pub arcs_says : {most cells : ℕ} → ℕ → Arcs most cells → List ℕ → ℕ → Arcs most cells
arcs_says width c f a =
    record {
      count = c.count + 1;
      labels = set c.labels c.count (byte f (a + 2));
      pre = marked (c.count * width) (list_at f (a + 3)) c.pre;
      post = marked (c.count * width) (list_at f (list_end f (a + 3))) c.post;
    }

-- ---- PR | "higher, lower transition" | "0..32". "PR pairs rise strictly, higher first. Numbers must name an existing .. transition."

-- the pair x, y comes after the last one of c
abbrev pub PairRises : Pairs → ℕ → ℕ → Type 0
PairRises c x y = (get_or c.higher (c.count - 1) 0 < x) ⊎ ((get_or c.higher (c.count - 1) 0 ≡ x) × (get_or c.lower (c.count - 1) 0 < y))

pub record PrIs (transitions : ℕ) (c : Pairs) (f : List ℕ) (a : ℕ) : Type 0 where
  pub few : c.count < 32
  pub ends : a + 4 ≤ length f
  pub higher : byte f (a + 2) < transitions
  pub lower : byte f (a + 3) < transitions
  pub rises : (c.count ≡ 0) ⊎ PairRises c (byte f (a + 2)) (byte f (a + 3))

abbrev pub pr_end : List ℕ → ℕ → ℕ
pr_end f a = a + 4

unfoldable pub pr_says : Pairs → List ℕ → ℕ → Pairs
pr_says c f a =
    record {
      count = c.count + 1;
      higher = set c.higher c.count (byte f (a + 2));
      lower = set c.lower c.count (byte f (a + 3));
    }

-- ---- OB | "count 0..32, observable labels, each 0..31". "Arc lists and OB rise strictly", so there are at most 32.

abbrev pub ObIs : List ℕ → ℕ → Type 0
ObIs f a = ListIs 32 f (a + 2)

abbrev pub ob_end : List ℕ → ℕ → ℕ
ob_end f a = list_end f (a + 2)

unfoldable pub ob_says : List ℕ → ℕ → Observable
ob_says f a = record { flags = marked 0 (list_at f (a + 2)) (replicate 32 0) }

-- ---- QF | "for each pattern place: least, most; least ≤ most ≤ cap" | "1..8"

abbrev pub least_at : List ℕ → ℕ → ℕ → ℕ
least_at f a p = byte f (a + 2 + 2 * p)

abbrev pub most_at : List ℕ → ℕ → ℕ → ℕ
most_at f a p = byte f (a + 3 + 2 * p)

unfoldable pub bounds : List ℕ → ℕ → ℕ → ℕ → Bool
bounds f a cap p = leb (least_at f a p) (most_at f a p) && leb (most_at f a p) cap

pub record QfIs (places cap count : ℕ) (f : List ℕ) (a : ℕ) : Type 0 where
  pub few : count < 8
  pub ends : a + 2 + 2 * places ≤ length f
  pub each : all_below places (bounds f a cap) ≡ true

abbrev pub qf_end : ℕ → ℕ → ℕ
qf_end places a = a + 2 + 2 * places

unfoldable pub qf_says : ℕ → Bounds → List ℕ → ℕ → Bounds
qf_says places c f a =
    record {
      count = c.count + 1;
      least = put c.least (c.count * 8) (table_from 0 places (least_at f a));
      most = put c.most (c.count * 8) (table_from 0 places (most_at f a));
    }

-- ---- LG | "count 0..40, labels, each in OB"

unfoldable pub observed : List ℕ → ℕ → Bool
observed flags e = ltb e 32 && eqb (get_or flags e 0) 1

pub record LgIs (flags : List ℕ) (f : List ℕ) (a : ℕ) : Type 0 where
  pub starts : a + 2 < length f
  pub few : byte f (a + 2) ≤ 40
  pub ends : list_end f (a + 2) ≤ length f
  pub observable : every (observed flags) (list_at f (a + 2)) ≡ true

abbrev pub lg_end : List ℕ → ℕ → ℕ
lg_end f a = list_end f (a + 2)

unfoldable pub lg_says : List ℕ → ℕ → Log
lg_says f a = record { count = byte f (a + 2); labels = filled 40 (list_at f (a + 2)) }
