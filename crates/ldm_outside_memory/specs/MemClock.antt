-- What contracts see of a clock in memory, and what one call of it does.
use Rattle.std.specs.Prelude.{◌≡◌, ℕ, zero, suc, ◌-◌, ◌^◌, List, [], ◌∷◌, ◌++◌, length, min, slice_index, nat_lt, if◌then◌else◌, Some, None}
use Rattle.ldm_outside.specs.Clock.{ClockRecord}
use Rattle.ldm_outside.specs.Count.{raised}

-- a clock that answers from a list
pub record ClockState : Type 0 where
  -- the instants that it answers, in order
  pub instants : List ℕ
  -- how often it was asked
  pub calls : ℕ

-- the answer to the question of that number, counted from 0: behind the last instant the last again, and 0 where
-- there is none
abbrev pub nth_instant : List ℕ → ℕ → ℕ
nth_instant instants i = slice_index instants (min i (length instants - 1))

-- the answers to so many questions
abbrev pub first_answers : List ℕ → ℕ → List ℕ
first_answers instants zero = []
first_answers instants (suc n) = first_answers instants n ++ nth_instant instants n ∷ []

-- What one call of `now` did.
abbrev pub AnswersAsPlanned : ℕ → ClockState → ClockState → Type 0
AnswersAsPlanned instant old new =
    (instant ≡ nth_instant old.instants old.calls) × (new ≡ record old { calls = raised old.calls })

-- what a clock in memory tells: all answers, as long as it can count them
abbrev pub told_by_clock : ClockState → ClockRecord
told_by_clock s = record {
  answers = if nat_lt s.calls (2 ^ 64 - 1) then Some (first_answers s.instants s.calls) else None;
}
