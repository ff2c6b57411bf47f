-- A connection that is served in turn: what is owed for the records that came is sent before the link is asked for more.
use Rattle.std.specs.Prelude.{◌≡◌, ℕ, ◌≤◌, List, [], ◌∷◌, ◌++◌, length, map, All}
use Rattle.ldm_outside.specs.Link.{LinkRecord}
use Rattle.ldm_rpc.specs.Streams.{records_in}
use Rattle.ldm_relay.specs.Spelling.{records_of}
use Rattle.ldm_downstream.specs.declared.limits.TheConstants.{LONGEST_PIECE}
use Rattle.ldm_downstream.specs.InTurn.{PassesRounds, Round, given_in, sent_in}
use Rattle.ldm_serve.specs.Client.{Client}
use Rattle.ldm_serve.specs.Outlived.{Outlived, messages_for_all, step_of}
use Rattle.ldm_serve.specs.ServingView.{beginning}
use Rattle.ldm_serve.specs.Steps.{placed_of}

-- its piece is no longer than what is received at once
abbrev pub IsSmall : Round → Type 0
IsSmall round = length round.given ≤ LONGEST_PIECE

-- All records that came in these rounds were answered, the first of those that the session outlived, and just what is owed for them was sent.
pub record AreAnswered (client : Client) (outlived : List Outlived) (rounds : List Round) : Type 0 where
  pub first : List Outlived
  pub others : List Outlived
  pub all : first ++ others ≡ outlived
  pub records : placed_of (map step_of first) ≡ records_in beginning (given_in rounds)
  pub sent : sent_in rounds ≡ records_of (messages_for_all client first)

-- A connection passed these bytes in turn. Each round has the piece that one call of the link gave, of so many bytes at most: before that call,
-- of the latest round as of the earlier ones, just what was owed by then was sent. What is owed since then is sent behind all that came: all
-- of it, or a front.
pub record InTurn (client : Client) (outlived : List Outlived) (total : Round) (old now : LinkRecord) : Type 0 where
  pub before : List Round
  pub latest : Round
  pub passed : PassesRounds (before ++ latest ∷ []) old now
  pub given : given_in (before ++ latest ∷ []) ≡ total.given
  pub sent : sent_in (before ++ latest ∷ []) ≡ total.sent
  pub small : All IsSmall before
  pub latest_small : IsSmall latest
  pub answered : (front rest : List Round) → front ++ rest ≡ before → AreAnswered client outlived front
