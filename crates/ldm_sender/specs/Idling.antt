-- What it comes to that the cursor is at the end of the queue: all that was gathered is sent, the gate is asked, and an
-- IS_ALIVE goes out
-- where nothing was sent for long.
use Rattle.std.specs.Prelude.{◌≡◌, ℕ, ◌⊎◌, List, [], ◌∷◌, true, false, Result, Ok, Err}
use Rattle.ldm_outside.specs.Count.{Rose}
use Rattle.ldm_outside.specs.declared.gate.Go.TheVariants as go
use Rattle.ldm_relay.specs.Sent as sent
use Rattle.ldm_session.specs.Idle.{is_silent_since}
use Rattle.ldm_sender.specs.declared.end.SendEnd.{SendEnd}
use Rattle.ldm_sender.specs.declared.end.SendEnd.TheVariants as end
use Rattle.ldm_sender.specs.declared.standing.Standing.{Standing}
use Rattle.ldm_sender.specs.Calls.{later_call}
use Rattle.ldm_sender.specs.Deeds.{records_of}
use Rattle.ldm_sender.specs.Acts.{Situation, Act, Acts, BreaksAct, idling}

-- the gate says to go on, and no message is due
abbrev pub quiet_act : ℕ → Act
quiet_act now = idling [] (now ∷ []) (go.On ∷ [])

-- it says so, and an IS_ALIVE is owed
abbrev pub alive_act : ℕ → ℕ → ℕ → Act
alive_act next now at = idling (records_of (sent.Isalive next ∷ [])) (now ∷ at ∷ []) (go.On ∷ [])

-- it says to stop
abbrev pub stop_act : Act
stop_act = idling [] [] (go.Stop ∷ [])

-- no message was due, and nothing is gathered still
pub record StaysQuiet (host : List ℕ) (standing standing' : Standing) (old new : Situation) : Type 0 where
  pub now : ℕ
  pub not_silent : is_silent_since standing.sent_at now ≡ false
  pub acts : Acts host [] old new (quiet_act now)
  pub all_sent : new.moment.out ≡ []
  pub stands : standing' ≡ standing

-- an IS_ALIVE was, and only that is gathered still
pub record IsAlive (host : List ℕ) (standing standing' : Standing) (old new : Situation) : Type 0 where
  pub now : ℕ
  pub silent : is_silent_since standing.sent_at now ≡ true
  pub acts : Acts host [] old new (alive_act standing.next now standing'.sent_at)
  pub all_sent : new.moment.out ≡ records_of (sent.Isalive standing.next ∷ [])
  pub next : standing'.next ≡ later_call standing.next 1

-- there was no memory for it; all that was gathered before was sent
pub record BreaksAlive (host : List ℕ) (standing : Standing) (old new : Situation) : Type 0 where
  pub now : ℕ
  pub silent : is_silent_since standing.sent_at now ≡ true
  pub breaks : BreaksAct end.OutOfMemory host [] old new (alive_act standing.next now 0)
  pub all_sent : breaks.breaks.sent ≡ old.moment.out

-- the link failed, and the gate was not asked
abbrev pub FailsToSend : List ℕ → (old new : Situation) → Type 0
FailsToSend host old new =
    BreaksAct end.LinkFault host [] old new stop_act × Rose old.moment.link.faults new.moment.link.faults
    × (new.gate ≡ old.gate)

abbrev pub EndsIdle : SendEnd → List ℕ → Standing → (old new : Situation) → Type 0
EndsIdle end.Stopped host standing old new = Acts host [] old new stop_act × Rose old.gate.stops new.gate.stops
    × (new.moment.out ≡ [])
EndsIdle end.LinkFault host standing old new = FailsToSend host old new
EndsIdle end.OutOfMemory host standing old new = BreaksAlive host standing old new
EndsIdle _ host standing old new = ⊥

abbrev pub Idles : Result (Unit {0}) SendEnd → List ℕ → (standing standing' : Standing) → (old new : Situation) → Type 0
Idles (Ok done) host standing standing' old new = StaysQuiet host standing standing' old new
    ⊎ IsAlive host standing standing' old new
Idles (Err why) host standing standing' old new = EndsIdle why host standing old new
