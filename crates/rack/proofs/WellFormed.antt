-- Every case that a file reads as is well formed: its lists have their lengths, its numbers keep their limits, and what it does not use is
-- zero. By induction over the records, with facts that each kind of record keeps. Assumes nothing.
use Prim.Native.Nat.{ℕ, zero, suc, ◌+◌, ◌*◌, ◌≤◌, ◌<◌}
use mathlib.Core.Path.{◌≡◌, refl, sym, ◌∙◌, subst}
use mathlib.Core.Bool.{Bool, true, ◌&&◌}
use mathlib.Core.List.{List}
use native.Mathlib.Omega.{arith}
use lib.ListN.{length, get_or, length-replicate}
use lib.Seq.{length-take-le}
use lib.Dec.{T, leb, eqb, leb→le}
use Rattle.std.proofs.Common.{Option, Some, None}
use Rattle.walks.specs.Below.{implies, all_below}
use Rattle.walks.proofs.Tests.{and_left, and_right, given, of_true, below_at}
use Rattle.rack.specs.Marks.{number_of, follows, can_follow}
use Rattle.rack.specs.Records.{net_says, arcs_says, pr_says, ob_says, qf_says, lg_says}
use Rattle.rack.specs.Layout.{FieldsAre, added, case_of_zeros, Ending, whole, broken, Reads, done, wrong, next, ReadsAs}
use Rattle.rack.specs.Run.{log_of}
use Rattle.rack.specs.WellFormed.{NetFits, ArcsFit, PairsFit, FlagsFit, BoundsFit, LogFits, WellFormed}
use Rattle.rack.specs.declared.Net.{Net}
use Rattle.rack.specs.declared.Arcs.{Arcs}
use Rattle.rack.specs.declared.Pairs.{Pairs}
use Rattle.rack.specs.declared.Observable.{Observable}
use Rattle.rack.specs.declared.Bounds.{Bounds}
use Rattle.rack.specs.declared.Log.{Log}
use Rattle.rack.specs.declared.Case.{Case}
use Rattle.rack.specs.declared.Mark.{Mark}
use Rattle.rack.specs.declared.Mark.TheVariants.{Nt, Tr, Pr, Ob, Pt, Px, Qf, Lg, En}
use Rattle.rack.proofs.WellFormedLists.{zeros}
use Rattle.rack.proofs.WellFormedKinds.{slots_none, rows_none, net_fits, arcs_none, arcs_unused, arcs_more, pairs_more, pairs_wider, flags_fit, bounds_unused, bounds_more, log_unused, log_fits}

-- ---- how far a reading has come

-- 0 before the first record; then 1 after NT, 2 after TR, up to 9 after EN
abbrev pub stage : Option Mark → ℕ
stage None = 0
stage (Some k) = suc (number_of k)

-- the table by stages: the kind of number m may come at the stage s
abbrev pub comes : ℕ → ℕ → Bool
comes zero m = eqb m 0
comes (suc k) m = eqb (get_or follows (k * 9 + m) 0) 1

pub by_stage : (k : Option Mark) (m : Mark) → can_follow k m ≡ comes (stage k) (number_of m)
by_stage None m = refl
by_stage (Some k) m = refl

-- the first stage and the last at which a record of mark m may come
abbrev pub earliest : Mark → ℕ
earliest Nt = 0
earliest Tr = 1
earliest Pr = 1
earliest Ob = 1
earliest Pt = 4
earliest Px = 5
earliest Qf = 5
earliest Lg = 7
earliest En = 8

abbrev pub latest : Mark → ℕ
latest Nt = 0
latest Tr = 2
latest Pr = 3
latest Ob = 3
latest Pt = 4
latest Px = 6
latest Qf = 7
latest Lg = 7
latest En = 8

timely : Mark → ℕ → Bool
timely m s = implies (comes s (number_of m)) (leb (earliest m) s && leb s (latest m))

-- so says the table of marks, by computing it
table : (m : Mark) → T (all_below 10 (timely m))
unfolding follows timely all_below
table Nt = tt
table Tr = tt
table Pr = tt
table Ob = tt
table Pt = tt
table Px = tt
table Qf = tt
table Lg = tt
table En = tt

-- a record of mark m comes at its time
pub record Timely (m : Mark) (s : ℕ) : Type 0 where
  pub low : earliest m ≤ s
  pub high : s ≤ latest m

pub number_small : (m : Mark) → number_of m < 9
number_small Nt = omega arith
number_small Tr = omega arith
number_small Pr = omega arith
number_small Ob = omega arith
number_small Pt = omega arith
number_small Px = omega arith
number_small Qf = omega arith
number_small Lg = omega arith
number_small En = omega arith

pub stage_small : (k : Option Mark) → stage k < 10
stage_small None = omega arith
stage_small (Some k) = omega (arith, number_small k)

pub in_time : (m : Mark) (k : Option Mark) → can_follow k m ≡ true → Timely m (stage k)
unfolding timely
in_time m k e =
    let s = stage k in
    let l = leb (earliest m) s in
    let r = leb s (latest m) in
    let t : T (l && r) = given (comes s (number_of m)) (l && r) (below_at 10 (timely m) (table m) s (stage_small k)) (of_true (comes s (number_of m)) (sym (by_stage k m) ∙ e)) in
    record { low = leb→le (earliest m) s (and_left l r t); high = leb→le s (latest m) (and_right l r t) }

-- ---- what a reading keeps, at the stage s; a kind that is still to come has left no numbers

pub record SystemKept (s : ℕ) (n : Net 16) (c : Arcs 48 768) (p : Pairs) : Type 0 where
  pub net : 1 ≤ s → NetFits 16 n.places n.cap n.first
  pub arcs : ArcsFit 16 48 n.places c.count c.labels c.pre c.post
  pub no_arcs : s ≤ 0 → c.count ≡ 0
  pub pairs : PairsFit c.count p

pub record PatternKept (s : ℕ) (n : Net 8) (c : Arcs 16 128) (b : Bounds) : Type 0 where
  pub net : 5 ≤ s → NetFits 8 n.places n.cap n.first
  pub links : ArcsFit 8 16 n.places c.count c.labels c.pre c.post
  pub no_links_lem : s ≤ 4 → c.count ≡ 0
  pub bounds : BoundsFit n.places n.cap b
  pub no_bounds : s ≤ 4 → b.count ≡ 0
  pub bounds-some : 7 ≤ s → 1 ≤ b.count

pub record SeenKept (s : ℕ) (o : Observable) (l : Log) : Type 0 where
  pub flags : FlagsFit o.flags
  pub log : LogFits o.flags l
  pub no_log : s ≤ 7 → l.count ≡ 0

pub record Kept (s : ℕ) (c : Case) : Type 0 where
  pub system : SystemKept s c.net c.arcs c.pairs
  pub pattern : PatternKept s c.pattern c.links c.bounds
  pub seen : SeenKept s c.observable c.log

pub start_kept : Kept 0 case_of_zeros
unfolding case_of_zeros
start_kept =
    record {
      system = record {
        net = λ h. absurd (omega arith);
        arcs = arcs_none 16 48 0;
        no_arcs = λ h. refl;
        pairs = record { highers = slots_none 32 0; lowers = slots_none 32 0; rises = λ k h. absurd (omega arith) };
      };
      pattern = record {
        net = λ h. absurd (omega arith);
        links = arcs_none 8 16 0;
        no_links_lem = λ h. refl;
        bounds = record { few = omega arith; leasts = rows_none 8 8 0 0; mosts = rows_none 8 8 0 0; ordered = λ i. omega arith };
        no_bounds = λ h. refl;
        bounds-some = λ h. absurd (omega arith);
      };
      seen = record {
        flags = record { long = length-replicate {A = ℕ} 32 0; bits = λ e. rw (zeros 32 e) (omega arith) };
        log = record { names = slots_none 40 32; seen = λ i h. absurd (omega arith) };
        no_log = λ h. refl;
      };
    }

-- records of another part of the case: the system's facts stay once NT has come; the pattern's stay before PT and after QF; the log's stay
-- before LG
module _ {s : ℕ} (s' : ℕ) where
  system_stays : {n : Net 16} {c : Arcs 48 768} {p : Pairs} → 1 ≤ s → 1 ≤ s' → SystemKept s n c p → SystemKept s' n c p
  system_stays g h k = record { net = λ _. k.net g; arcs = k.arcs; no_arcs = λ b. absurd (omega arith); pairs = k.pairs }

  pattern_waits : {n : Net 8} {c : Arcs 16 128} {b : Bounds} → s ≤ 4 → s' ≤ 4 → PatternKept s n c b → PatternKept s' n c b
  pattern_waits g h k =
      record {
        net = λ b. absurd (omega arith);
        links = k.links;
        no_links_lem = λ _. k.no_links_lem g;
        bounds = k.bounds;
        no_bounds = λ _. k.no_bounds g;
        bounds-some = λ b. absurd (omega arith);
      }

  pattern_stays : {n : Net 8} {c : Arcs 16 128} {b : Bounds} → 7 ≤ s → 7 ≤ s' → PatternKept s n c b → PatternKept s' n c b
  pattern_stays g h k =
      record {
        net = λ _. k.net (omega arith);
        links = k.links;
        no_links_lem = λ b. absurd (omega arith);
        bounds = k.bounds;
        no_bounds = λ b. absurd (omega arith);
        bounds-some = λ _. k.bounds-some g;
      }

  log_waits : {o : Observable} {l : Log} → s ≤ 7 → SeenKept s o l → SeenKept s' o l
  log_waits g k = record { flags = k.flags; log = k.log; no_log = λ _. k.no_log g }

-- a right record of any kind keeps all of it
pub keeps : (m : Mark) (f : List ℕ) (s : ℕ) (c : Case) (a : ℕ) → Timely m s → FieldsAre m c f a → Kept s c → Kept (stage (Some m)) (added m c f a)
unfolding net_says arcs_says pr_says ob_says qf_says lg_says
keeps Nt f s c a t w k =
    record {
      system = record {
        net = λ h. net_fits 16 w;
        arcs = arcs_unused k.system.arcs (k.system.no_arcs t.high) _;
        no_arcs = λ h. absurd (omega arith);
        pairs = k.system.pairs;
      };
      pattern = pattern_waits 1 (omega (arith, t.high)) (omega arith) k.pattern;
      seen = log_waits 1 (omega (arith, t.high)) k.seen;
    }
keeps Tr f s c a t w k =
    let n = k.system.net t.low in
    record {
      system = record {
        net = λ h. n;
        arcs = arcs_more k.system.arcs n.few w;
        no_arcs = λ h. absurd (omega arith);
        pairs = pairs_wider k.system.pairs (c.arcs.count + 1) (omega arith);
      };
      pattern = pattern_waits 2 (omega (arith, t.high)) (omega arith) k.pattern;
      seen = log_waits 2 (omega (arith, t.high)) k.seen;
    }
keeps Pr f s c a t w k =
    record {
      system = record {
        net = λ h. k.system.net t.low;
        arcs = k.system.arcs;
        no_arcs = λ h. absurd (omega arith);
        pairs = pairs_more k.system.pairs w;
      };
      pattern = pattern_waits 3 (omega (arith, t.high)) (omega arith) k.pattern;
      seen = log_waits 3 (omega (arith, t.high)) k.seen;
    }
keeps Ob f s c a t w k =
    let z = k.seen.no_log (omega (arith, t.high)) in
    record {
      system = system_stays 4 t.low (omega arith) k.system;
      pattern = pattern_waits 4 (omega (arith, t.high)) (omega arith) k.pattern;
      seen = record { flags = flags_fit f a; log = log_unused k.seen.log z (ob_says f a).flags; no_log = λ h. z };
    }
keeps Pt f s c a t w k =
    record {
      system = system_stays 5 (omega (arith, t.low)) (omega arith) k.system;
      pattern = record {
        net = λ h. net_fits 8 w;
        links = arcs_unused k.pattern.links (k.pattern.no_links_lem t.high) _;
        no_links_lem = λ h. absurd (omega arith);
        bounds = bounds_unused k.pattern.bounds (k.pattern.no_bounds t.high) _ _;
        no_bounds = λ h. absurd (omega arith);
        bounds-some = λ h. absurd (omega arith);
      };
      seen = log_waits 5 (omega (arith, t.high)) k.seen;
    }
keeps Px f s c a t w k =
    let n = k.pattern.net t.low in
    record {
      system = system_stays 6 (omega (arith, t.low)) (omega arith) k.system;
      pattern = record {
        net = λ h. n;
        links = arcs_more k.pattern.links n.few w;
        no_links_lem = λ h. absurd (omega arith);
        bounds = k.pattern.bounds;
        no_bounds = λ h. absurd (omega arith);
        bounds-some = λ h. absurd (omega arith);
      };
      seen = log_waits 6 (omega (arith, t.high)) k.seen;
    }
keeps Qf f s c a t w k =
    let n = k.pattern.net t.low in
    record {
      system = system_stays 7 (omega (arith, t.low)) (omega arith) k.system;
      pattern = record {
        net = λ h. n;
        links = k.pattern.links;
        no_links_lem = λ h. absurd (omega arith);
        bounds = bounds_more k.pattern.bounds n.few w;
        no_bounds = λ h. absurd (omega arith);
        bounds-some = λ h. omega arith;
      };
      seen = log_waits 7 t.high k.seen;
    }
keeps Lg f s c a t w k =
    record {
      system = system_stays 8 (omega (arith, t.low)) (omega arith) k.system;
      pattern = pattern_stays 8 t.low (omega arith) k.pattern;
      seen = record { flags = k.seen.flags; log = log_fits w; no_log = λ h. absurd (omega arith) };
    }
keeps En f s c a t w k =
    record {
      system = system_stays 9 (omega (arith, t.low)) (omega arith) k.system;
      pattern = pattern_stays 9 (omega (arith, t.low)) (omega arith) k.pattern;
      seen = record { flags = k.seen.flags; log = k.seen.log; no_log = λ h. absurd (omega arith) };
    }

-- ---- the law

-- after EN all of it has come
at_the_end : {c : Case} → Kept 9 c → WellFormed c
at_the_end k =
    record {
      net = k.system.net (omega arith);
      arcs = k.system.arcs;
      pairs = k.system.pairs;
      observable = k.seen.flags;
      pattern = k.pattern.net (omega arith);
      links = k.pattern.links;
      bounds = k.pattern.bounds;
      bounds-some = k.pattern.bounds-some (omega arith);
      log = k.seen.log;
    }

-- what a reading that ends so tells
abbrev Told : Ending → Type 0
Told (whole c) = WellFormed c
Told (broken p) = Unit {0}

reads_kept : {f : List ℕ} {k : Option Mark} {c : Case} {a : ℕ} {e : Ending} → Reads f k c a e → Kept (stage k) c → Told e
reads_kept (done {c = c} e _) s = at_the_end (subst (λ (j : Option Mark). Kept (stage j) c) e s)
reads_kept (wrong _ _) s = tt
reads_kept {f} (next {k = k} {a = a} {c = c} {m = m} w r) s = reads_kept r (keeps m f (stage k) c a (in_time m k w.follows) w.fields s)

-- every case that a file reads as is well formed
pub well_formed : {f : List ℕ} {c : Case} → ReadsAs f c → WellFormed c
well_formed r = reads_kept r.reads start_kept

-- the log of a well formed case is as long as its count says
pub log_long : {c : Case} → WellFormed c → length (log_of c) ≡ c.log.count
unfolding log_of
log_long {c} w = let f = w.log.names in length-take-le c.log.count c.log.labels (omega (arith, f.long, f.few))
