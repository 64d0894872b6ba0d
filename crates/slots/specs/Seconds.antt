-- Every second byte of a file: the bounds of a QF record stand so, the least ones from one offset on, the most ones from the next.
-- Assumes nothing.
use Rattle.std.specs.Prelude.{ℕ, ◌+◌, ◌*◌, List}
use Rattle.rack.specs.Bytes.{byte}

-- every second byte from a on: the one of number p
abbrev pub every_second : List ℕ → ℕ → ℕ → ℕ
every_second f a p = byte f (a + 2 * p)
