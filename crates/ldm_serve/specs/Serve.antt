-- What serving a connection comes to, from its first byte to its end.
use Rattle.std.specs.Prelude.{◌≡◌, ℕ, ◌++◌, ◌≤◌, ◌⊎◌, Bool, true, false, List, [], ◌∷◌, length, IfSome}
use Rattle.ldm_outside.specs.Count.{Rose}
use Rattle.ldm_outside.specs.Link.{LinkRecord, IsNotClosed}
use Rattle.ldm_outside.specs.Session.{KeepsFaults, SessionRecord}
use Rattle.ldm_rpc.specs.Reading.{is_faulty, is_pending}
use Rattle.ldm_rpc.specs.Streams.{Placed, in_hand, records_in}
use Rattle.ldm_session.specs.declared.limits.TheConstants.{LONGEST_STREAM}
use Rattle.ldm_sender.specs.Ending.{IsLeft}
use Rattle.ldm_notify.specs.Notifies.{send_end}
use Rattle.ldm_serve.specs.Respond.{respond}
use Rattle.ldm_serve.specs.Responds.{RunsOut, goes_on, stands}
use Rattle.ldm_serve.specs.declared.end.ServeEnd.{ServeEnd}
use Rattle.ldm_serve.specs.declared.end.ServeEnd.TheVariants as end
use Rattle.ldm_serve.specs.Client.{Client}
use Rattle.ldm_serve.specs.Steps.{Step, response_of}
use Rattle.ldm_serve.specs.Connection.{Answers, ServingMoment, Reaches, placed_in}
use Rattle.ldm_serve.specs.Becoming.{Becomes}
use Rattle.ldm_serve.specs.ServingView.{beginning}

-- The last record that was answered ends the session. No record was begun behind it.
pub record EndsByRecord (end : ServeEnd) (client : Client) (answers : Answers) (taken ahead : List ℕ) (old new : ServingMoment) : Type 0 where
  pub last : Step
  pub is_last : answers.last ≡ last ∷ []
  pub edge : is_pending (in_hand beginning taken).reading ≡ false
  pub becomes : Becomes end (goes_on (response_of client last)) last.placed.at client ahead old new

-- The session outlived each record, nobody looked at more bytes, and nothing else was done.
pub record EndsBetween (answers : Answers) (ahead : List ℕ) (old new : ServingMoment) : Type 0 where
  pub outlived : answers.last ≡ []
  pub none_ahead : ahead ≡ []
  pub same : new ≡ old

-- The record that begins there behind the last one is longer than the largest one. Its bytes are among those that were taken.
pub record EndsByLength (at : ℕ) (answers : Answers) (taken ahead : List ℕ) (old new : ServingMoment) : Type 0 where
  pub outlived : answers.last ≡ []
  pub faulty : is_faulty (in_hand beginning taken).reading ≡ true
  pub at_is : at ≡ (in_hand beginning taken).begins
  pub same : new ≡ old

-- The first record behind the last one asks the queue, which can have no call more. For an insertion the clock was asked.
pub record EndsWorn (client : Client) (answers : Answers) (taken : List ℕ) (old new : ServingMoment) : Type 0 where
  pub outlived : answers.last ≡ []
  pub asks : Placed
  pub others : List Placed
  pub records : placed_in answers ++ asks ∷ others ≡ records_in beginning taken
  pub runs_out : RunsOut (respond client asks.content) (stands old.pass old.outside.clock []) (stands new.pass new.outside.clock [])
  pub same : new ≡ record old { pass = new.pass; outside = record old.outside { clock = new.outside.clock } }

-- how a connection ends that came to here
abbrev pub EndsBy : ServeEnd → Client → Answers → (taken ahead : List ℕ) → (old new : ServingMoment) → Type 0
EndsBy (end.Feed why) client answers taken ahead old new = EndsByRecord (end.Feed why) client answers taken ahead old new
EndsBy (end.Receive why) client answers taken ahead old new = EndsByRecord (end.Receive why) client answers taken ahead old new
EndsBy (end.Notify why) client answers taken ahead old new = EndsByRecord (end.Notify why) client answers taken ahead old new
EndsBy (end.Denied rule) client answers taken ahead old new = EndsByRecord (end.Denied rule) client answers taken ahead old new
EndsBy (end.BadFrame at) client answers taken ahead old new =
    EndsByRecord (end.BadFrame at) client answers taken ahead old new ⊎ EndsByLength at answers taken ahead old new
EndsBy end.Ended client answers taken ahead old new =
    EndsBetween answers ahead old new × (is_pending (in_hand beginning taken).reading ≡ false)
EndsBy (end.Truncated at) client answers taken ahead old new =
    EndsBetween answers ahead old new × (is_pending (in_hand beginning taken).reading ≡ true) × (at ≡ length taken)
EndsBy end.StreamLimit client answers taken ahead old new = EndsBetween answers ahead old new × (length taken ≡ LONGEST_STREAM)
-- what the last record asks for may be known
EndsBy end.LinkFault client answers taken ahead old new = (length answers.last ≤ 1) × (new ≡ old)
EndsBy end.Worn client answers taken ahead old new = EndsWorn client answers taken old new
EndsBy end.OutOfMemory client answers taken ahead old new = (answers.last ≡ []) × (new ≡ old)

-- whether all records that the bytes complete were answered then
abbrev pub is_all : ServeEnd → Bool
is_all end.Worn = false
is_all end.OutOfMemory = false
is_all _ = true

-- whether all was sent then that the peer is owed for its records
abbrev pub is_whole : ServeEnd → Bool
is_whole end.LinkFault = false
is_whole end.Worn = false
is_whole end.OutOfMemory = false
is_whole _ = true

-- the stream ended: the link said so, and has nothing left
abbrev pub ServingHasEnded : (old new : SessionRecord) → Type 0
ServingHasEnded old new = Rose old.link.ends new.link.ends × IfSome new.link.left (λ rest. rest ≡ [])

-- why it ended before it became something else
abbrev pub IsCause : ServeEnd → (old new : SessionRecord) → Type 0
IsCause end.Ended old new = ServingHasEnded old new
IsCause (end.Truncated at) old new = ServingHasEnded old new
IsCause end.LinkFault old new = Rose old.link.faults new.link.faults
IsCause _ old new = Unit {0}

-- only a feeding or a notifying that the gate stopped closes the link
abbrev pub LeavesLink : ServeEnd → LinkRecord → Type 0
LeavesLink (end.Feed why) link = IsLeft why link
LeavesLink (end.Notify why) link = IsLeft (send_end why) link
LeavesLink _ link = IsNotClosed link

-- A connection was served from its first byte to that end.
pub record ServesAll (end : ServeEnd) (client : Client) (old new : ServingMoment) : Type 0 where
  -- the records that were answered, their bytes, and those behind them
  pub answers : Answers
  pub taken : List ℕ
  pub ahead : List ℕ
  -- where all of them were answered
  pub between : ServingMoment
  pub reaches : Reaches (is_all end) (is_whole end) client answers taken ahead old between
  pub counts : KeepsFaults old.outside between.outside
  pub ends : EndsBy end client answers taken ahead between new
  pub cause : IsCause end old.outside new.outside
  pub left : LeavesLink end new.outside.link
