-- What passed on a link in turn: a piece came, and then bytes were sent.
use Rattle.std.specs.Prelude.{◌≡◌, ℕ, List, ◌++◌}
use Rattle.std.specs.List.{flat_map}
use Rattle.std.specs.Option.{option_map}
use Rattle.ldm_outside.specs.declared.link.Passed.{Passed}
use Rattle.ldm_outside.specs.declared.link.Way.TheVariants as way
use Rattle.ldm_outside.specs.Link.{LinkRecord, passed_all, passed_piece}

-- A round: the bytes of one piece, and then bytes that were sent. Where no byte came, nothing was asked for.
pub record Round : Type 0 where
  pub given : List ℕ
  pub sent : List ℕ

-- what passed in rounds, one after another
abbrev pub passed_in : List Round → List Passed
passed_in rounds = flat_map (λ (round : Round). passed_piece round.given ++ passed_all way.Sent round.sent) rounds

-- all that came, in order
abbrev pub given_in : List Round → List ℕ
given_in rounds = flat_map (λ (round : Round). round.given) rounds

-- all that was sent, in order
abbrev pub sent_in : List Round → List ℕ
sent_in rounds = flat_map (λ (round : Round). round.sent) rounds

-- Just these rounds passed, where the link tells what passed; one that does not goes on not to tell.
abbrev pub PassesRounds : List Round → LinkRecord → LinkRecord → Type 0
PassesRounds rounds old new = new.passed ≡ option_map (λ before. before ++ passed_in rounds) old.passed
