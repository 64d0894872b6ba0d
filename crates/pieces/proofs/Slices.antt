-- A part of a list, as `&l[a..a + w]` gives it, where the bytes of a case speak of the whole. Assumes nothing.
use mathlib.Core.Path.{◌≡◌, ap, ap₂, ◌∙◌}
use mathlib.Core.List.{List, [], ◌∷◌, ◌++◌, append_assoc}
use Prim.Native.Nat.{ℕ, ◌+◌, ◌-◌, ◌*◌, ◌≤◌, ◌<◌}
use native.Mathlib.Omega.{arith}
use lib.ListN.{length, get_or, drop, length-drop, length-append}
use lib.Seq.{length-take-le}
use Rattle.std.specs.List.{slice_range}
use Rattle.std.proofs.lemmas.List.{get_or-drop, get_or-take}
use Rattle.rack.specs.Writing.{up_to, cell, row_bytes, counted, bound_pair}
use Rattle.rack.specs.declared.Bounds.{Bounds}
use Rattle.spelling.specs.Parts.{arc_bytes, bounds_at}
use Rattle.spelling.proofs.Lengths.{rows_few}
use Rattle.spelling.proofs.Repeats.{up_to_same}
use Rattle.spelling.proofs.Rows.{listed_ext}

module _ (l : List ℕ) (a w : ℕ) (h : a + w ≤ length l) where
  pub part_long : length (slice_range l a (a + w)) ≡ w
  part_long =
      let n : a + w - a ≡ w = omega arith in
      length-take-le (a + w - a) (drop a l) (omega (arith, length-drop a l)) ∙ n

  pub part_at : (p : ℕ) → p < w → get_or (slice_range l a (a + w)) p 0 ≡ get_or l (a + p) 0
  part_at p u = get_or-take (a + w - a) (drop a l) p 0 (omega arith) ∙ get_or-drop a l p 0

  -- a row's places that hold 1
  pub part_row : row_bytes (slice_range l a (a + w)) 0 (length (slice_range l a (a + w))) ≡ row_bytes l a w
  part_row =
      ap (λ (n : ℕ). row_bytes (slice_range l a (a + w)) 0 n) part_long
      ∙ ap counted (listed_ext w 0 (cell (slice_range l a (a + w)) 0) (cell l a) (λ q u v. ap (λ (k : ℕ). get_or (slice_range l a (a + w)) k 0) (omega arith) ∙ part_at q (omega arith)))

-- the bounds of a pattern's places
pub part_bounds : (c : Bounds) (g places : ℕ) → g * 8 + places ≤ length c.least → g * 8 + places ≤ length c.most
    → up_to (length (slice_range c.least (g * 8) (g * 8 + places))) (bounds_at (slice_range c.least (g * 8) (g * 8 + places)) (slice_range c.most (g * 8) (g * 8 + places)))
    ≡ up_to places (bound_pair c g)
part_bounds c g places h k =
    let low = slice_range c.least (g * 8) (g * 8 + places) in
    let high = slice_range c.most (g * 8) (g * 8 + places) in
    ap (λ (n : ℕ). up_to n (bounds_at low high)) (part_long c.least (g * 8) places h)
    ∙ up_to_same places (bounds_at low high) (bound_pair c g) (λ p u. ap₂ (λ (x y : ℕ). x ∷ y ∷ []) (part_at c.least (g * 8) places h p u) (part_at c.most (g * 8) places k p u))

-- a transition: its mark, its label, and its rows of pre and post, put one after the other
pub put_arc : {file₁ file₂ file₃ file₄ : List ℕ} (file mark labels pre post : List ℕ) (t w : ℕ) → t * w + w ≤ length pre → t * w + w ≤ length post
    → file₁ ≡ file ++ mark → file₂ ≡ file₁ ++ (get_or labels t 0 ∷ [])
    → file₃ ≡ file₂ ++ row_bytes (slice_range pre (t * w) (t * w + w)) 0 (length (slice_range pre (t * w) (t * w + w)))
    → file₄ ≡ file₃ ++ row_bytes (slice_range post (t * w) (t * w + w)) 0 (length (slice_range post (t * w) (t * w + w)))
    → file₄ ≡ file ++ arc_bytes mark w labels pre post t
put_arc file mark labels pre post t w h k e₁ e₂ e₃ e₄ = rw (e₄, e₃, e₂, e₁, part_row pre (t * w) w h, part_row post (t * w) w k) (simp append_assoc)

pub arc_few : (mark labels pre post : List ℕ) (w t : ℕ) → length mark ≡ 2 → length (arc_bytes mark w labels pre post t) ≤ 5 + w + w
arc_few mark labels pre post w t h =
    omega (arith, h, length-append mark (get_or labels t 0 ∷ row_bytes pre (t * w) w ++ row_bytes post (t * w) w), rows_few pre post (t * w) w)
