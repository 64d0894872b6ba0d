-- What the outcomes of the calls share: what a call is asked, and what lent room holds afterwards.
-- Assumes nothing.
use Rattle.std.specs.Prelude.{ℕ, List, ◌++◌, length, drop, replicate}
use Rattle.rack.specs.Refusal.{Own, Question}

-- what a call is asked that has a file and nothing else that its checks look at
abbrev pub of_file : List ℕ → Question
of_file f = record { file = f; work = 0; needed = 0 }

-- a call that makes no check of its own
abbrev pub NoneSays : Own → ℕ → Type 0
NoneSays k n = ⊥

abbrev pub NoneRests : Own → Type 0
NoneRests k = Unit {0}

-- "Listing and writer too change only the bytes of the run or file they give": room with l at its front
abbrev pub holding : List ℕ → List ℕ → List ℕ
holding l room = l ++ drop (length l) room

-- "Work room is all zeros after every call that is lent it."
abbrev pub zeroed : List ℕ → List ℕ
zeroed room = replicate (length room) 0
