-- Arcs read from TR and PX records: rows of width w, of which the first ones are read and the rest are zeros, spell the records again.
-- Assumes nothing.
use mathlib.Core.Path.{◌≡◌, refl, sym, ap₂}
use mathlib.Core.Bool.{true}
use mathlib.Core.List.{List, [], ◌∷◌, ◌++◌}
use Prim.Native.Nat.{ℕ, ◌+◌, ◌*◌, ◌≤◌, ◌<◌}
use native.Mathlib.Omega.{arith}
use lib.ListN.{set}
use lib.Seq.{get_or-set_same, get_or-set_other}
use Rattle.rack.specs.Bytes.{byte, rising, marked, list_at, list_end}
use Rattle.rack.specs.Records.{ArcsIs, arcs_end}
use Rattle.rack.specs.Writing.{listed, counted, up_to, cell}
use Rattle.rack.specs.WellFormed.{RowsFit, ArcsFit}
use Rattle.rack.proofs.WellFormedLists.{marked_other}
use Rattle.rack.proofs.WellFormedKinds.{rows_apart}
use Rattle.spelling.specs.Parts.{arc_bytes}
use Rattle.spelling.proofs.Rows.{row_back, listed_ext}
use Rattle.spelling.proofs.Spells.{Spells, then, one, spells_as, list_spells}
use Rattle.spelling.proofs.Letters.{Letters, letters_spell}
use Rattle.spelling.proofs.Repeats.{up_to_more}

module _ (w most places count : ℕ) (rows l : List ℕ) (small : places ≤ w) (r : RowsFit w most count places 1 rows) (rises : rising 0 places l ≡ true) where
  -- the rows before it are as they were
  pub row_old : (t : ℕ) → t < count → listed 0 w (cell (marked (count * w) l rows) (t * w)) ≡ listed 0 w (cell rows (t * w))
  row_old t h =
      let a = rows_apart w h in
      listed_ext w 0 _ _ (λ q u v. marked_other (count * w) 0 places l rows (t * w + q) rises (λ x xb e. omega arith))

  -- the row is read back as the list
  pub row_new : count < most → listed 0 w (cell (marked (count * w) l rows) (count * w)) ≡ l
  row_new h = row_back w (count * w) places l rows rises small (omega (arith, rows_apart w h, r.long)) r.beyond

module _ (x y w most places count : ℕ) (labels pre post f : List ℕ) (a : ℕ) (small : places ≤ w)
    (r : ArcsFit w most places count labels pre post) (g : ArcsIs most places count f a) where
  abbrev labels' : List ℕ
  labels' = set labels count (byte f (a + 2))

  abbrev pre' : List ℕ
  pre' = marked (count * w) (list_at f (a + 3)) pre

  abbrev post' : List ℕ
  post' = marked (count * w) (list_at f (list_end f (a + 3))) post

  arc_old : (t : ℕ) → t < count → arc_bytes (x ∷ y ∷ []) w labels' pre' post' t ≡ arc_bytes (x ∷ y ∷ []) w labels pre post t
  arc_old t h =
      let l = get_or-set_other labels count t (byte f (a + 2)) 0 (omega arith) in
      let i = row_old w most places count pre (list_at f (a + 3)) small r.inputs g.inputs.rises t h in
      let o = row_old w most places count post (list_at f (list_end f (a + 3))) small r.outputs g.outputs.rises t h in
      ap₂ (λ (n : ℕ) (m : List ℕ). x ∷ y ∷ n ∷ m) l (ap₂ (λ (m n : List ℕ). counted m ++ counted n) i o)

  -- the records before it are as they were
  pub arcs_join : up_to (count + 1) (arc_bytes (x ∷ y ∷ []) w labels' pre' post') ≡ up_to count (arc_bytes (x ∷ y ∷ []) w labels pre post) ++ arc_bytes (x ∷ y ∷ []) w labels' pre' post' count
  arcs_join = up_to_more count (arc_bytes (x ∷ y ∷ []) w labels' pre' post') (arc_bytes (x ∷ y ∷ []) w labels pre post) arc_old

  -- and its bytes stand in the file
  pub arc_spells : Letters x y f a → Spells f a (arc_bytes (x ∷ y ∷ []) w labels' pre' post' count) (arcs_end f a)
  arc_spells le =
      let l = get_or-set_same labels count (byte f (a + 2)) 0 (omega (arith, r.names.long, g.few)) in
      let i = row_new w most places count pre (list_at f (a + 3)) small r.inputs g.inputs.rises g.few in
      let o = row_new w most places count post (list_at f (list_end f (a + 3))) small r.outputs g.outputs.rises g.few in
      spells_as (sym (ap₂ (λ (n : ℕ) (m : List ℕ). x ∷ y ∷ n ∷ m) l (ap₂ (λ (m n : List ℕ). counted m ++ counted n) i o)))
      (then (letters_spell f a x y le (omega (arith, g.starts)))
      (then (one f (a + 2) (a + 3) (byte f (a + 2)) (omega arith) (omega (arith, g.starts)) refl)
      (then (list_spells places f (a + 3) g.inputs) (list_spells places f (list_end f (a + 3)) g.outputs))))
