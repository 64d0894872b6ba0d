-- How large the number is that bytes hold. Assumes nothing.
use Rattle.std.proofs.Common.{ℕ, ◌+◌, ◌*◌, ◌-◌, ◌^◌, ◌≡◌, ◌<◌, ◌≤◌, List, length, get_or, reverse, Fits, w8, arith}
use Rattle.std.proofs.Math.Nat.{pow-le-pow_right}
use Rattle.std.proofs.lemmas.Grind.{pow_more, get_or_default_zero}
use Rattle.std.proofs.lemmas.List.{length-reverse, get_or-reverse}

-- byte x is the k-th of xs from the end
module _ (xs : List ℕ) (k x : ℕ) (bytes : (i : ℕ) → Fits w8 (get_or xs i 0)) (turn : (k < length (reverse xs)) × (x ≡ get_or (reverse xs) k x)) where
  low : k < length xs
  low = omega (arith, turn.0, length-reverse xs)

  byte : x < 256
  byte = omega (arith, turn.1, get_or-reverse xs k x low, get_or_default_zero xs (length xs - 1 - k) x, bytes (length xs - 1 - k), low)

  -- with the number n that those behind it hold; at most eight bytes fit a word
  pub held_more : (n : ℕ) → n < 256 ^ k → n * 256 + x < 256 ^ (k + 1)
  held_more n h = omega (arith, byte, pow_more 256 k)

  pub held_fits : (n : ℕ) → length xs ≤ 8 → n < 256 ^ k → n * 256 + x < 18446744073709551616
  held_fits n l h =
      let top : 256 ^ (k + 1) ≤ 256 ^ 8 = pow-le-pow_right (omega arith) {i = k + 1} {j = 8} (omega (arith, low)) in
      omega (arith, top, held_more n h)
