-- What a call does.
use Rattle.ldm_model.specs.declared.event.Reply.{Reply}
use Rattle.ldm_model.specs.State.{State}

-- what a call answers, and the state that it leaves
pub record Outcome : Type 0 where
  pub reply : Reply
  pub state : State

-- a reply that changes nothing
abbrev pub unchanged : State → Reply → Outcome
unchanged s reply = record { reply = reply; state = s }
