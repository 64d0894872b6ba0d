-- What goes into the case's slots: a strictly rising list in a row, a table put into a row.
-- Assumes nothing.
use mathlib.Core.Path.{◌≡◌, refl, sym, ap, ◌∙◌}
use mathlib.Core.Bool.{true}
use mathlib.Core.List.{List, [], ◌∷◌, ◌++◌, append_assoc}
use Prim.Native.Nat.{ℕ, zero, suc, ◌+◌, ◌≤◌, ◌<◌}
use native.Mathlib.Omega.{arith}
use native.Mathlib.Numerals.{add-one}
use native.Mathlib.Nat.{not-suc-le-zero, le_of_suc-le-suc}
use lib.ListN.{length, get_or, take, drop, set}
use lib.Seq.{take_all, get_or-take, get_or-drop, paste, paste-suc}
use borrow.Author.Tests.{le-leb, lt-ltb}
use Rattle.walks.specs.Below.{table_from}
use Rattle.rack.specs.Bytes.{byte, part, put, rising, list_at, ListIs}
use Rattle.rack.specs.Records.{ArcsIs}
use Rattle.rack.proofs.WellFormedLists.{length_part, head_low, head_high, tail_rises}
use Rattle.walks.proofs.Tables.{length_table, table_at}

-- ---- a stretch of a file

pub byte_of_part : (f : List ℕ) (from n j : ℕ) → j < n → get_or (part f from n) j 0 ≡ byte f (from + j)
byte_of_part f from n j h = get_or-take n (drop from f) j 0 h ∙ get_or-drop from f j 0

-- ---- pasted

pub paste_turn : (d : List ℕ) (at : ℕ) (s : List ℕ) (j : ℕ) (room : List ℕ) → at + j < length d → j < length s
    → room ≡ paste d at s j → set room (at + j) (get_or s j 0) ≡ paste d at s (j + 1)
paste_turn d at s j room hd hs e =
    ap (λ (r : List ℕ). set r (at + j) (get_or s j 0)) e ∙ paste-suc d at s j 0 hd hs ∙ ap (paste d at s) (sym (add-one j))

-- ---- a list that rises

-- each of its numbers is below the bound
pub rising_below : (low b : ℕ) (l : List ℕ) → rising low b l ≡ true → (j : ℕ) → j < length l → get_or l j 0 < b
rising_below low b [] r j h = absurd (not-suc-le-zero h)
rising_below low b (x ∷ xs) r zero h = head_high low b x xs r
rising_below low b (x ∷ xs) r (suc j) h = rising_below (x + 1) b xs (tail_rises low b x xs r) j (le_of_suc-le-suc h)

-- it rises below every larger bound
rising_wider : (low b w : ℕ) (l : List ℕ) → b ≤ w → rising low b l ≡ true → rising low w l ≡ true
unfolding rising
rising_wider low b w [] h r = refl
rising_wider low b w (x ∷ xs) h r =
    let u = head_high low b x xs r in
    simp (le-leb low x (head_low low b x xs r), lt-ltb x w (omega arith)) (rising_wider (x + 1) b w xs h (tail_rises low b x xs r))

list_wider : {b w : ℕ} {f : List ℕ} {a : ℕ} → b ≤ w → ListIs b f a → ListIs w f a
list_wider {b} {w} {f} {a} h l = record { starts = l.starts; ends = l.ends; rises = rising_wider 0 b w (list_at f a) h l.rises }

-- the numbers of a net's places fit rows that are as wide as a net may have places
pub arcs_wider : {most places w count : ℕ} {f : List ℕ} {a : ℕ} → places ≤ w → ArcsIs most places count f a → ArcsIs most w count f a
arcs_wider h r = record { few = r.few; starts = r.starts; label = r.label; inputs = list_wider h r.inputs; outputs = list_wider h r.outputs }

-- the byte at j of a right list is below the bound
pub list_below : {b : ℕ} {f : List ℕ} {a : ℕ} → ListIs b f a → (j : ℕ) → j < byte f a → byte f (a + 1 + j) < b
list_below {b} {f} {a} l j h =
    let n = length_part f (a + 1) (byte f a) l.ends in
    let u = rising_below 0 b (list_at f a) l.rises j (omega (arith, n)) in
    let e = byte_of_part f (a + 1) (byte f a) j h in
    omega (arith, u, e)

-- ---- a table put into a row

module _ (d : List ℕ) (base n : ℕ) (g : ℕ → ℕ) (fits : base + n ≤ length d) where
  -- one entry more
  pub table_turn : (j : ℕ) (row : List ℕ) → j < n → row ≡ paste d base (table_from 0 n g) j → set row (base + j) (g j) ≡ paste d base (table_from 0 n g) (j + 1)
  table_turn j row h e =
      let z : 0 + j ≡ j = omega arith in
      ap (set row (base + j)) (sym (table_at 0 n g j h ∙ ap g z))
      ∙ paste_turn d base (table_from 0 n g) j row (omega arith) (omega (arith, length_table 0 n g)) e

  pub table_ends : (j : ℕ) (row : List ℕ) → j ≡ n → row ≡ paste d base (table_from 0 n g) j → row ≡ put d base (table_from 0 n g)
  unfolding put
  table_ends j row q e =
      let l = length_table 0 n g in
      let k : base + j ≡ base + length (table_from 0 n g) = omega (arith, l) in
      e
      ∙ append_assoc (take base d) (take j (table_from 0 n g)) (drop (base + j) d)
      ∙ ap (λ (s : List ℕ). take base d ++ (s ++ drop (base + j) d)) (take_all j (table_from 0 n g) (omega (arith, l)))
      ∙ ap (λ (i : ℕ). take base d ++ (table_from 0 n g ++ drop i d)) k
