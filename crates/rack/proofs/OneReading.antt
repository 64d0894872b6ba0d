-- A file is read in one way: two readings of it end in the same. Assumes nothing.
use Prim.Native.Nat.{ℕ, ◌+◌, ◌≤◌}
use mathlib.Core.Path.{◌≡◌, refl, sym, subst}
use mathlib.Core.Bool.{Bool, true, false, true≢false}
use mathlib.Core.List.{List}
use native.Mathlib.Omega.{arith}
use lib.ListN.{length}
use lib.Dec.{leb}
use borrow.Author.Tests.{leb-true}
use Rattle.std.proofs.Common.{Option, Some, None}
use Rattle.walks.specs.Below.{pick}
use Rattle.rack.specs.Bytes.{byte}
use Rattle.rack.specs.Marks.{mark_of, mark_found, follows, can_follow}
use Rattle.rack.specs.Layout.{end_at, added, RecordIs, case_of_zeros, Ending, whole, broken, Reads, done, wrong, next, ReadAs, ReadsAs, BreaksAt}
use Rattle.rack.specs.declared.Case.{Case}
use Rattle.rack.specs.declared.Mark.{Mark}
use Rattle.rack.specs.declared.Mark.TheVariants.{Nt, Tr, Pr, Ob, Pt, Px, Qf, Lg, En}

-- "Nothing follows EN."
pub nothing_after_en : (m : Mark) → can_follow (Some En) m ≡ true → ⊥
unfolding follows
nothing_after_en Nt e = true≢false (sym e)
nothing_after_en Tr e = true≢false (sym e)
nothing_after_en Pr e = true≢false (sym e)
nothing_after_en Ob e = true≢false (sym e)
nothing_after_en Pt e = true≢false (sym e)
nothing_after_en Px e = true≢false (sym e)
nothing_after_en Qf e = true≢false (sym e)
nothing_after_en Lg e = true≢false (sym e)
nothing_after_en En e = true≢false (sym e)

-- a mark that stands somewhere is whole
pub mark_whole : (f : List ℕ) (a : ℕ) (m : Mark) → mark_found f a ≡ Some m → a + 2 ≤ length f
mark_whole f a m = go (leb (a + 2) (length f)) refl
  where
    go : (b : Bool) → leb (a + 2) (length f) ≡ b → pick b (mark_of (byte f a) (byte f (a + 1))) None ≡ Some m → a + 2 ≤ length f
    go true q e = leb-true (a + 2) (length f) q
    go false q e = cc

-- after EN no right record stands
pub ended : (f : List ℕ) (k : Option Mark) (a : ℕ) (c : Case) (m : Mark) → k ≡ Some En → RecordIs k c f a m → ⊥
ended f k a c m e w = nothing_after_en m (subst (λ (j : Option Mark). can_follow j m ≡ true) e w.follows)

one_way : (f : List ℕ) (k : Option Mark) (c : Case) (a : ℕ) (x y : Ending) → Reads f k c a x → Reads f k c a y → x ≡ y
one_way f k c a x y (done u v) (done u' v') = refl
one_way f k c a x y (done u v) (wrong n t) = absurd (t u v)
one_way f k c a x y (done u v) (next {m = m} w r) = absurd (ended f k a c m u w)
one_way f k c a x y (wrong n t) (done u v) = absurd (t u v)
one_way f k c a x y (wrong n t) (wrong n' t') = refl
one_way f k c a x y (wrong n t) (next {m = m} w r) = absurd (n m w)
one_way f k c a x y (next {m = m} w r) (done u v) = absurd (ended f k a c m u w)
one_way f k c a x y (next {m = m} w r) (wrong n t) = absurd (n m w)
one_way f k c a x y (next {m = m} w r) (next {m = l} w' r') =
    let same : l ≡ m = cc (w.found, w'.found) in
    one_way f _ _ _ x y r (subst (λ (i : Mark). Reads f (Some i) (added i c f a) (end_at i c f a) y) same r')

pub read_one_way : (f : List ℕ) (x y : Ending) → ReadAs f x → ReadAs f y → x ≡ y
read_one_way f x y = one_way f None case_of_zeros 0 x y

-- a file reads as at most one case, breaks at one place, and does not do both
pub one_case : {f : List ℕ} {c d : Case} → ReadsAs f c → ReadsAs f d → c ≡ d
one_case {f} {c} {d} x y = let e = read_one_way f (whole c) (whole d) x.reads y.reads in cc

pub one_place : {f : List ℕ} {p q : ℕ} → BreaksAt f p → BreaksAt f q → p ≡ q
one_place {f} {p} {q} x y = let e = read_one_way f (broken p) (broken q) x.reads y.reads in cc

pub reads_or_breaks : {f : List ℕ} {c : Case} {p : ℕ} → ReadsAs f c → BreaksAt f p → ⊥
reads_or_breaks {f} {c} {p} x y =
    let e = read_one_way f (whole c) (broken p) x.reads y.reads in
    let z : ◌≡◌ {A = ℕ} 0 1 = cc in
    omega arith
