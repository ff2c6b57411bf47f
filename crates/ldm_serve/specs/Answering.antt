-- What a response asks of the queue, and which messages are owed then.
use Rattle.std.specs.Prelude.{ℕ, Bool, true, false, List, [], ◌∷◌, map, Some}
use Rattle.ldm_model.specs.declared.event.Entry.{Entry}
use Rattle.ldm_model.specs.declared.event.Event.{Event}
use Rattle.ldm_model.specs.declared.event.Event.TheVariants.{Insert, Stat}
use Rattle.ldm_model.specs.declared.event.Reply.{Reply}
use Rattle.ldm_model.specs.declared.event.Reply.TheVariants as reply
use Rattle.ldm_relay.specs.Sent.{Sent}
use Rattle.ldm_relay.specs.Sent as sent
use Rattle.ldm_relay.specs.declared.message.PutAnswer.TheVariants as put_answer
use Rattle.ldm_intake.specs.Course.{Course, Comes, Asks}
use Rattle.ldm_serve.specs.Response.{Response, Says, Puts, Figures, Feeds, Receives, Notifies, Refuses, Denies}

-- what the queue answers to an insertion; it has no other answers
abbrev pub put_replies : ℕ → Reply → List Sent
put_replies xid (reply.Admitted n time evicted) = sent.PutReply xid (put_answer.Admitted n time evicted) ∷ []
put_replies xid (reply.TooBig need arena) = sent.PutReply xid (put_answer.TooBig need arena) ∷ []
put_replies xid (reply.Duplicate n) = sent.PutReply xid (put_answer.Duplicate n) ∷ []
put_replies xid reply.TimeEnd = sent.PutReply xid put_answer.TimeEnd ∷ []
put_replies xid (reply.Locked held) = sent.PutReply xid (put_answer.Locked held) ∷ []
put_replies xid _ = []

-- the figures that the queue answers; it has no other answer
abbrev pub stat_replies : ℕ → Reply → List Sent
stat_replies xid (reply.Stat stat) = sent.QstatReply xid (Some stat) ∷ []
stat_replies xid _ = []

-- The course of a response, where the clock says that it is now: what is asked of the queue, and the messages that are owed.
abbrev pub answering : Response → ℕ → Course (List Sent)
answering (Says messages) now = Comes messages
answering (Puts xid info body) now = Asks (Insert now info body) (λ answer. Comes (put_replies xid answer))
answering (Figures xid) now = Asks Stat (λ answer. Comes (stat_replies xid answer))
answering (Feeds xid class max_hereis) now = Comes []
answering (Receives class messages) now = Comes messages
answering (Notifies xid class) now = Comes []
answering (Refuses messages) now = Comes messages
answering (Denies rule messages) now = Comes messages

-- whether the queue is asked
abbrev pub asks_queue : Response → Bool
asks_queue (Puts xid info body) = true
asks_queue (Figures xid) = true
asks_queue (Says messages) = false
asks_queue (Feeds xid class max_hereis) = false
asks_queue (Receives class messages) = false
asks_queue (Notifies xid class) = false
asks_queue (Refuses messages) = false
asks_queue (Denies rule messages) = false

-- what was asked, by these entries
abbrev pub events_of : List Entry → List Event
events_of entries = map (λ (entry : Entry). entry.event) entries
