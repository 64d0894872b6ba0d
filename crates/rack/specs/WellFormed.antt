-- What holds of every case that a file reads as: the lists have their arrays' lengths, the numbers keep the limits of the table of records,
-- and the slots that a case does not use hold zeros. proofs/WellFormed.antt proves it of every reading.
-- Assumes nothing.
use Rattle.std.specs.Prelude.{ℕ, ◌+◌, ◌*◌, ◌≤◌, ◌<◌, ◌≡◌, ◌⊎◌, true, List, length, get_or, T}
use Rattle.rack.specs.Net.{within}
use Rattle.rack.specs.Records.{observed}
use Rattle.rack.specs.declared.Pairs.{Pairs}
use Rattle.rack.specs.declared.Bounds.{Bounds}
use Rattle.rack.specs.declared.Log.{Log}
use Rattle.rack.specs.declared.Case.{Case}

-- ---- lists and rows, each kind once

-- a list with room for `most` numbers, of which it uses the first `count`, each below `top`
pub record SlotsFit (most count top : ℕ) (slots : List ℕ) : Type 0 where
  pub long : length slots ≡ most
  pub few : count ≤ most
  pub below : (k : ℕ) → k < count → get_or slots k 0 < top
  -- "A case in memory has zeros in unused slots."
  pub beyond : (k : ℕ) → count ≤ k → get_or slots k 0 ≡ 0

-- rows of `width` numbers, with room for `most` rows, of which it uses the first `count` and in each of them the first `places` columns;
-- each number is at most `top`
pub record RowsFit (width most count places top : ℕ) (rows : List ℕ) : Type 0 where
  pub long : length rows ≡ most * width
  pub low : (i : ℕ) → get_or rows i 0 ≤ top
  -- zeros in the rows that it does not use, and in the columns that it does not use
  pub beyond : (i : ℕ) → count * width ≤ i → get_or rows i 0 ≡ 0
  pub beside : (t p : ℕ) → places ≤ p → p < width → get_or rows (t * width + p) 0 ≡ 0

-- ---- NT | "place count 1..16, cap 1..15, each place's first tokens (at most the cap)"
-- PT | "as NT, with 1..8 places, for the pattern"

pub record NetFits (width places cap : ℕ) (first : List ℕ) : Type 0 where
  pub some : 1 ≤ places
  pub few : places ≤ width
  pub cap_some : 1 ≤ cap
  pub cap_low : cap ≤ 15
  pub long : length first ≡ width
  pub tokens : (p : ℕ) → get_or first p 0 ≤ cap
  -- the same as a test, as reachable markings are defined by it
  pub tokens_within : T (within width cap first)
  pub beyond : (p : ℕ) → places ≤ p → get_or first p 0 ≡ 0

-- ---- TR | "label 0..31; input count, inputs; output count, outputs" | "0..48"
-- PX | "as TR, for the pattern" | "0..16"

pub record ArcsFit (width most places count : ℕ) (labels pre post : List ℕ) : Type 0 where
  pub names : SlotsFit most count 32 labels
  pub inputs : RowsFit width most count places 1 pre
  pub outputs : RowsFit width most count places 1 post

-- ---- PR | "higher, lower transition" | "0..32". "PR pairs rise strictly, higher first. Numbers must name an existing .. transition."

-- the pair x, y comes before the pair u, v
abbrev pub PairBefore : ℕ → ℕ → ℕ → ℕ → Type 0
PairBefore x y u v = (x < u) ⊎ ((x ≡ u) × (y < v))

pub record PairsFit (transitions : ℕ) (c : Pairs) : Type 0 where
  pub highers : SlotsFit 32 c.count transitions c.higher
  pub lowers : SlotsFit 32 c.count transitions c.lower
  pub rises : (k : ℕ) → k + 1 < c.count → PairBefore (get_or c.higher k 0) (get_or c.lower k 0) (get_or c.higher (k + 1) 0) (get_or c.lower (k + 1) 0)

-- ---- OB | "count 0..32, observable labels, each 0..31": a flag for each label

pub record FlagsFit (flags : List ℕ) : Type 0 where
  pub long : length flags ≡ 32
  pub bits : (e : ℕ) → get_or flags e 0 ≤ 1

-- ---- QF | "for each pattern place: least, most; least ≤ most ≤ cap" | "1..8"

pub record BoundsFit (places cap : ℕ) (c : Bounds) : Type 0 where
  pub few : c.count ≤ 8
  pub leasts : RowsFit 8 8 c.count places cap c.least
  pub mosts : RowsFit 8 8 c.count places cap c.most
  pub ordered : (i : ℕ) → get_or c.least i 0 ≤ get_or c.most i 0

-- ---- LG | "count 0..40, labels, each in OB"

pub record LogFits (flags : List ℕ) (c : Log) : Type 0 where
  pub names : SlotsFit 40 c.count 32 c.labels
  pub seen : (i : ℕ) → i < c.count → observed flags (get_or c.labels i 0) ≡ true

-- ---- a case

pub record WellFormed (c : Case) : Type 0 where
  pub net : NetFits 16 c.net.places c.net.cap c.net.first
  pub arcs : ArcsFit 16 48 c.net.places c.arcs.count c.arcs.labels c.arcs.pre c.arcs.post
  pub pairs : PairsFit c.arcs.count c.pairs
  pub observable : FlagsFit c.observable.flags
  pub pattern : NetFits 8 c.pattern.places c.pattern.cap c.pattern.first
  pub links : ArcsFit 8 16 c.pattern.places c.links.count c.links.labels c.links.pre c.links.post
  pub bounds : BoundsFit c.pattern.places c.pattern.cap c.bounds
  pub bounds-some : 1 ≤ c.bounds.count
  pub log : LogFits c.observable.flags c.log
