-- What the reader of one record answers.
-- Assumes nothing.
use Rattle.std.specs.Prelude.{ℕ, ◌≡◌, Result, Ok, Err}
use Rattle.records.specs.declared.Misplaced.{Misplaced}

-- P: the record is right; end: the offset after it; place: the offset of its mark
abbrev pub AnswerSays : Type 0 → ℕ → ℕ → Result ℕ Misplaced → Type 0
AnswerSays P end place (Ok n) = P × (n ≡ end)
AnswerSays P end place (Err e) = (P → ⊥) × (e.place ≡ place)

pub record Answers (P : Type 0) (end place : ℕ) (r : Result ℕ Misplaced) : Type 0 where
  pub says : AnswerSays P end place r
