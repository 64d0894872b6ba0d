-- The case file's layout: which bytes read as which case, and where the first wrong record stands otherwise.
-- Assumes nothing.
use Rattle.std.specs.Prelude.{ℕ, ◌+◌, ◌≡◌, true, List, Option, Some, None, length, replicate}
use Rattle.rack.specs.Marks.{mark_found, can_follow}
use Rattle.rack.specs.Records.{NetIs, net_end, net_says, ArcsIs, arcs_end, arcs_says, PrIs, pr_end, pr_says, ObIs, ob_end, ob_says, QfIs, qf_end, qf_says, LgIs, lg_end, lg_says}
use Rattle.rack.specs.declared.Case.{Case}
use Rattle.rack.specs.declared.Mark.{Mark}
use Rattle.rack.specs.declared.Mark.TheVariants.{Nt, Tr, Pr, Ob, Pt, Px, Qf, Lg, En}

-- "A refused read gives the case of all zeros."
unfoldable pub case_of_zeros : Case
case_of_zeros =
    record {
      net = record { places = 0; cap = 0; first = replicate 16 0 };
      arcs = record { count = 0; labels = replicate 48 0; pre = replicate 768 0; post = replicate 768 0 };
      pairs = record { count = 0; higher = replicate 32 0; lower = replicate 32 0 };
      observable = record { flags = replicate 32 0 };
      pattern = record { places = 0; cap = 0; first = replicate 8 0 };
      links = record { count = 0; labels = replicate 16 0; pre = replicate 128 0; post = replicate 128 0 };
      bounds = record { count = 0; least = replicate 64 0; most = replicate 64 0 };
      log = record { count = 0; labels = replicate 40 0 };
    }

-- the fields of the record of mark m at a are right, given the case so far
abbrev pub FieldsAre : Mark → Case → List ℕ → ℕ → Type 0
FieldsAre Nt c f a = NetIs 16 f a
FieldsAre Tr c f a = ArcsIs 48 c.net.places c.arcs.count f a
FieldsAre Pr c f a = PrIs c.arcs.count c.pairs f a
FieldsAre Ob c f a = ObIs f a
FieldsAre Pt c f a = NetIs 8 f a
FieldsAre Px c f a = ArcsIs 16 c.pattern.places c.links.count f a
FieldsAre Qf c f a = QfIs c.pattern.places c.pattern.cap c.bounds.count f a
FieldsAre Lg c f a = LgIs c.observable.flags f a
FieldsAre En c f a = Unit {0}

-- where it ends
abbrev pub end_at : Mark → Case → List ℕ → ℕ → ℕ
end_at Nt c f a = net_end f a
end_at Tr c f a = arcs_end f a
end_at Pr c f a = pr_end f a
end_at Ob c f a = ob_end f a
end_at Pt c f a = net_end f a
end_at Px c f a = arcs_end f a
end_at Qf c f a = qf_end c.pattern.places a
end_at Lg c f a = lg_end f a
end_at En c f a = a + 2

-- the case with what it says
abbrev pub added : Mark → Case → List ℕ → ℕ → Case
added Nt c f a = record { net = net_says 16 f a; arcs = c.arcs; pairs = c.pairs; observable = c.observable; pattern = c.pattern; links = c.links; bounds = c.bounds; log = c.log }
added Tr c f a = record { net = c.net; arcs = arcs_says 16 c.arcs f a; pairs = c.pairs; observable = c.observable; pattern = c.pattern; links = c.links; bounds = c.bounds; log = c.log }
added Pr c f a = record { net = c.net; arcs = c.arcs; pairs = pr_says c.pairs f a; observable = c.observable; pattern = c.pattern; links = c.links; bounds = c.bounds; log = c.log }
added Ob c f a = record { net = c.net; arcs = c.arcs; pairs = c.pairs; observable = ob_says f a; pattern = c.pattern; links = c.links; bounds = c.bounds; log = c.log }
added Pt c f a = record { net = c.net; arcs = c.arcs; pairs = c.pairs; observable = c.observable; pattern = net_says 8 f a; links = c.links; bounds = c.bounds; log = c.log }
added Px c f a = record { net = c.net; arcs = c.arcs; pairs = c.pairs; observable = c.observable; pattern = c.pattern; links = arcs_says 8 c.links f a; bounds = c.bounds; log = c.log }
added Qf c f a = record { net = c.net; arcs = c.arcs; pairs = c.pairs; observable = c.observable; pattern = c.pattern; links = c.links; bounds = qf_says c.pattern.places c.bounds f a; log = c.log }
added Lg c f a = record { net = c.net; arcs = c.arcs; pairs = c.pairs; observable = c.observable; pattern = c.pattern; links = c.links; bounds = c.bounds; log = lg_says f a }
added En c f a = c

-- a right record of mark m stands at a, after one of mark k (None: after none)
pub record RecordIs (k : Option Mark) (c : Case) (f : List ℕ) (a : ℕ) (m : Mark) : Type 0 where
  pub found : mark_found f a ≡ Some m
  pub follows : can_follow k m ≡ true
  pub fields : FieldsAre m c f a

-- how a reading ends
pub data Ending : Type 0 where
  whole : Case → Ending
  broken : ℕ → Ending

-- "Reading goes from the left; the first wrong record ends the reading with refusal 2." Reading f at a, after a record of mark k (None: after
-- none), with the case c so far:
-- done: EN has come, and "nothing follows EN"
-- wrong: no right record stands at a. "Its place is the offset of that record's mark: where a mark can't stand there, a record is cut,
--   one too many, or holds a bad field. If the file stops where a record is due, the place is the file's length. After EN it is the first
--   byte left over."
-- next: a right record, and then the rest
pub data Reads (f : List ℕ) : Option Mark → Case → ℕ → Ending → Type 0 where
  done : {k : Option Mark} {a : ℕ} {c : Case} → k ≡ Some En → a ≡ length f → Reads f k c a (whole c)
  wrong : {k : Option Mark} {a : ℕ} {c : Case} → ((m : Mark) → RecordIs k c f a m → ⊥) → (k ≡ Some En → a ≡ length f → ⊥) → Reads f k c a (broken a)
  next : {k : Option Mark} {a : ℕ} {c : Case} {e : Ending} {m : Mark} → RecordIs k c f a m
      → Reads f (Some m) (added m c f a) (end_at m c f a) e → Reads f k c a e

-- the whole file, from its start: no record has come
abbrev pub ReadAs : List ℕ → Ending → Type 0
ReadAs f e = Reads f None case_of_zeros 0 e

-- the file f is well formed and reads as the case c
pub record ReadsAs (f : List ℕ) (c : Case) : Type 0 where
  pub reads : ReadAs f (whole c)

-- the file f breaks the layout, and its first wrong record stands at p
pub record BreaksAt (f : List ℕ) (p : ℕ) : Type 0 where
  pub reads : ReadAs f (broken p)
