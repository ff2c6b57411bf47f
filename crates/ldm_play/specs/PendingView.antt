-- What a contract sees of the line that is being read.
use Rattle.std.specs.Prelude.{ℕ, List, []}

pub record PendingView : Type 0 where
  -- its number in the script, from 1
  pub number : ℕ
  -- its bytes so far
  pub bytes : List ℕ

-- the line of that number, of which nothing was read yet
abbrev pub fresh_line : ℕ → PendingView
fresh_line number = record { number = number; bytes = [] }
