-- How long a case's bytes can be: at most 2,496 where the counts are within the limits.
-- Assumes nothing.
use mathlib.Core.Path.{◌≡◌, subst}
use mathlib.Core.Bool.{Bool, true, false}
use mathlib.Core.List.{List, [], ◌∷◌, ◌++◌, append_assoc}
use Prim.Native.Nat.{ℕ, zero, suc, ◌+◌, ◌*◌, ◌≤◌}
use native.Mathlib.Omega.{arith}
use lib.ListN.{length, take, length-append}
use lib.Dec.{eqb}
use Rattle.walks.specs.Below.{pick}
use Rattle.rack.specs.Writing.{listed, up_to, cell, row_bytes, bound_pair, nt_bytes, tr_bytes, pr_bytes, ob_bytes, pt_bytes, px_bytes, qf_bytes, lg_bytes, en_bytes, bytes_of}
use Rattle.rack.specs.CaseFileOutcome.{longest_file}
use Rattle.rack.specs.declared.Net.{Net}
use Rattle.rack.specs.declared.Arcs.{Arcs}
use Rattle.rack.specs.declared.Pairs.{Pairs}
use Rattle.rack.specs.declared.Observable.{Observable}
use Rattle.rack.specs.declared.Bounds.{Bounds}
use Rattle.rack.specs.declared.Log.{Log}
use Rattle.rack.specs.declared.Case.{Case}
use Rattle.spelling.specs.Limits.{Limits}
use Rattle.spelling.proofs.Repeats.{up_to_few}

pub take_few : (n : ℕ) (l : List ℕ) → length (take n l) ≤ n
take_few zero l = omega arith
take_few (suc n) [] = omega arith
take_few (suc n) (x ∷ l) = omega (arith, take_few n l)

pub listed_few : (i n : ℕ) (g : ℕ → ℕ) → length (listed i n g) ≤ n
unfolding listed
listed_few i zero g = omega arith
listed_few i (suc n) g = go (eqb (g i) 1) (listed_few (suc i) n g)
  where
    go : (b : Bool) → length (listed (suc i) n g) ≤ n → length (pick b (i ∷ listed (suc i) n g) (listed (suc i) n g)) ≤ suc n
    go true h = omega arith
    go false h = omega arith

pub row_few : (row : List ℕ) (base w : ℕ) → length (row_bytes row base w) ≤ 1 + w
row_few row base w = omega (arith, listed_few 0 w (cell row base))

pub rows_few : (pre post : List ℕ) (base w : ℕ) → length (row_bytes pre base w ++ row_bytes post base w) ≤ 2 + w + w
rows_few pre post base w = omega (arith, length-append (row_bytes pre base w) (row_bytes post base w), row_few pre base w, row_few post base w)

-- ---- a record of each kind

pub nt_few : (c : Net 16) → length (nt_bytes c) ≤ 4 + c.places
unfolding nt_bytes
nt_few c = omega (arith, take_few c.places c.first)

pub tr_few : (c : Arcs 48 768) (t : ℕ) → length (tr_bytes c t) ≤ 37
unfolding tr_bytes
tr_few c t = omega (arith, rows_few c.pre c.post (t * 16) 16)

pub pr_few : (c : Pairs) (k : ℕ) → length (pr_bytes c k) ≤ 4
unfolding pr_bytes
pr_few c k = omega arith

pub ob_few : (c : Observable) → length (ob_bytes c) ≤ 35
unfolding ob_bytes
ob_few c = omega (arith, listed_few 0 32 (cell c.flags 0))

pub pt_few : (c : Net 8) → length (pt_bytes c) ≤ 4 + c.places
unfolding pt_bytes
pt_few c = omega (arith, take_few c.places c.first)

pub px_few : (c : Arcs 16 128) (k : ℕ) → length (px_bytes c k) ≤ 21
unfolding px_bytes
px_few c k = omega (arith, rows_few c.pre c.post (k * 8) 8)

pub qf_few : (places : ℕ) (c : Bounds) (g : ℕ) → length (qf_bytes places c g) ≤ 2 + places * 2
unfolding qf_bytes
qf_few places c g = omega (arith, up_to_few 2 places (bound_pair c g) (λ p. omega arith))

pub lg_few : (c : Log) → length (lg_bytes c) ≤ 3 + c.count
unfolding lg_bytes
lg_few c = omega (arith, take_few c.count c.labels)

-- ---- the kinds of which there may be several

pub arcs_few : (c : Arcs 48 768) → length (up_to c.count (tr_bytes c)) ≤ c.count * 37
arcs_few c = up_to_few 37 c.count (tr_bytes c) (tr_few c)

pub pairs_few : (c : Pairs) → length (up_to c.count (pr_bytes c)) ≤ c.count * 4
pairs_few c = up_to_few 4 c.count (pr_bytes c) (pr_few c)

pub links_few : (c : Arcs 16 128) → length (up_to c.count (px_bytes c)) ≤ c.count * 21
links_few c = up_to_few 21 c.count (px_bytes c) (px_few c)

pub bounds_few : (places : ℕ) (c : Bounds) → places ≤ 8 → length (up_to c.count (qf_bytes places c)) ≤ c.count * 18
bounds_few places c h = up_to_few 18 c.count (qf_bytes places c) (λ g. omega (arith, qf_few places c g))

-- ---- all of it

-- kind after kind
pub bytes_in_order : (c : Case)
    → (((((((nt_bytes c.net ++ up_to c.arcs.count (tr_bytes c.arcs)) ++ up_to c.pairs.count (pr_bytes c.pairs)) ++ ob_bytes c.observable) ++ pt_bytes c.pattern)
    ++ up_to c.links.count (px_bytes c.links)) ++ up_to c.bounds.count (qf_bytes c.pattern.places c.bounds)) ++ lg_bytes c.log) ++ en_bytes
    ≡ bytes_of c
unfolding bytes_of
bytes_in_order c = simp append_assoc

pub bytes_few : (c : Case) → Limits c → length (bytes_of c) ≤ longest_file
bytes_few c l =
    subst (λ (x : List ℕ). length x ≤ longest_file) (bytes_in_order c)
    (simp length-append (omega (arith, nt_few c.net, arcs_few c.arcs, pairs_few c.pairs, ob_few c.observable, pt_few c.pattern, links_few c.links, bounds_few c.pattern.places c.bounds l.pattern, lg_few c.log)))
