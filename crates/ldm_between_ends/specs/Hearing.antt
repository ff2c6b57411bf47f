-- A feeding up to the first announcement that has no reply, where so many replies are taken.
use Rattle.std.specs.Prelude.{ℕ, zero, suc, List, [], ◌∷◌}
use Rattle.ldm_upstream.specs.Turn.{Given, Handling, Passed, Whole, Declined, InBlocks, Turn, Lost, Gave, Quiet, Alive}
use Rattle.ldm_upstream.specs.Feeding.{Last, Unanswered, Feeding}

-- Turns, and how the last one ended.
pub record Turns : Type 0 where
  pub turns : List Turn
  pub last : Last

-- a turn, and others behind it
abbrev pub with_turn : Turn → Turns → Turns
with_turn turn others = record { turns = turn ∷ others.turns; last = others.last }

-- an announcement that was answered where a reply is left
abbrev pub announced_turn : ℕ → Given → ℕ → Turn → (ℕ → Turns) → Turns
announced_turn zero given at turn others = record { turns = []; last = Unanswered given at }
announced_turn (suc left) given at turn others = with_turn turn (others left)

abbrev pub handled_turn : ℕ → Given → Handling → (ℕ → Turns) → Turns
handled_turn replies given Passed others = with_turn (Gave given Passed) (others replies)
handled_turn replies given (Whole at) others = with_turn (Gave given (Whole at)) (others replies)
handled_turn replies given (Declined at) others = announced_turn replies given at (Gave given (Declined at)) others
handled_turn replies given (InBlocks at blocks_at) others =
    announced_turn replies given at (Gave given (InBlocks at blocks_at)) others

-- the turns up to the first announcement that was not answered, where so many replies were heard
abbrev pub turns_heard : List Turn → Last → ℕ → Turns
turns_heard [] last replies = record { turns = []; last = last }
turns_heard (Lost count first final ∷ turns) last replies = with_turn (Lost count first final) (turns_heard turns last replies)
turns_heard (Gave given handling ∷ turns) last replies = handled_turn replies given handling (λ left. turns_heard turns last left)
turns_heard (Quiet end now ∷ turns) last replies = with_turn (Quiet end now) (turns_heard turns last replies)
turns_heard (Alive end now at ∷ turns) last replies = with_turn (Alive end now at) (turns_heard turns last replies)

abbrev pub heard_so_far : ℕ → Feeding → Feeding
heard_so_far replies feeding =
    let heard = turns_heard feeding.turns feeding.last replies in
    record feeding { turns = heard.turns; last = heard.last }
