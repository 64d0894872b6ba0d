-- What is known of what a corpus holds, whatever it is. Assumes nothing.
use Rattle.std.specs.Prelude.{ℕ, ◌<◌, Option, IfSome}

-- a number is one that its bytes can hold, where there is one
abbrev pub ReadSays : ℕ → Option ℕ → Type 0
ReadSays most r = IfSome r (λ n. n < most)
