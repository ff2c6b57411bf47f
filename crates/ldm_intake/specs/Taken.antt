-- Receiving: what comes of the records of a stream, one after another, whatever the queue answers.
use Rattle.std.specs.Prelude.{ℕ, List, [], ◌∷◌, ◌++◌, Option, Some, None}
use Rattle.ldm_model.specs.declared.event.Event.TheVariants.{Discard}
use Rattle.ldm_intake.specs.declared.end.RecvEnd.{RecvEnd}
use Rattle.ldm_intake.specs.declared.end.RecvEnd.TheVariants.{BadFrame, Refused}
use Rattle.ldm_relay.specs.Sent.{Sent}
use Rattle.ldm_intake.specs.declared.phase.Pending.{Pending}
use Rattle.ldm_intake.specs.Course.{Course, Comes, Asks, then}
use Rattle.ldm_intake.specs.Notes.{Note}
use Rattle.ldm_intake.specs.Receiving.{Receiving}
use Rattle.ldm_intake.specs.Step.{Step, Goes, Bad, Declined}
use Rattle.ldm_intake.specs.Record.{record_course}

-- A record that came: the moment at which it was complete, where in the stream it begins, and its content.
pub record Arrival : Type 0 where
  pub now : ℕ
  pub at : ℕ
  pub content : List ℕ

-- What was taken so far.
pub record Taken : Type 0 where
  pub receiving : Receiving
  -- the messages that the peer is owed, and what is logged
  pub replies : List Sent
  pub notes : List Note
  -- how it ended, if a record ended it
  pub end : Option RecvEnd

-- nothing was taken yet
abbrev pub taken_none : Receiving → Taken
taken_none s = record { receiving = s; replies = []; notes = []; end = None }

-- a record that begins there comes to a step: the receiving goes on, or ends
abbrev pub after_step : Taken → ℕ → (Taken → Course Taken) → Step → Course Taken
after_step t at rest (Goes s replies notes) = rest (record t { receiving = s; replies = t.replies ++ replies; notes = t.notes ++ notes })
after_step t at rest Bad = Comes (record t { end = Some (BadFrame at) })
after_step t at rest (Declined answer) = Comes (record t { end = Some (Refused answer) })

-- The records in order, up to one that ends the receiving.
unfoldable pub taken : Taken → List Arrival → Course Taken
taken t [] = Comes t
taken t (arrival ∷ arrivals) =
    then (record_course t.receiving arrival.now arrival.content) (after_step t arrival.at (λ next. taken next arrivals))

-- a reservation that is open is given up
abbrev pub discards : Taken → Option Pending → Course Taken
discards t None = Comes t
discards t (Some pending) = Asks (Discard pending.r) (λ reply. Comes (record t { receiving = record t.receiving { pending = None } }))

abbrev pub closing : Taken → Course Taken
closing t = discards t t.receiving.pending
