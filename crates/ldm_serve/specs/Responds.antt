-- What responding to one record does, by how it ends.
use Rattle.std.specs.Prelude.{◌≡◌, ℕ, ◌+◌, ◌≤◌, true, List, [], ◌++◌, length, None, Result, MatchResult}
use Rattle.std.specs.Global.{Vec}
use Rattle.std.specs.Vec.{vec_len, vec_capacity}
use Rattle.ldm_class.specs.Classes.{bad_place}
use Rattle.ldm_outside.specs.Clock.{ClockRecord, Answers}
use Rattle.ldm_model.specs.declared.event.Entry.{Entry}
use Rattle.ldm_relay.specs.Sent.{Sent}
use Rattle.ldm_shared.specs.Passes.{PassView, Calls}
use Rattle.ldm_shared.specs.declared.steps.TheConstants.{MOST_TURNS}
use Rattle.ldm_intake.specs.Course.{Leads}
use Rattle.ldm_relay.specs.Spelling.{records_of}
use Rattle.ldm_serve.specs.declared.saying.TheConstants.{LONGEST_ANSWER}
use Rattle.ldm_serve.specs.declared.responded.RespondFault.{RespondFault}
use Rattle.ldm_serve.specs.declared.responded.RespondFault.TheVariants as fault
use Rattle.ldm_serve.specs.declared.responded.Responded.{Responded}
use Rattle.ldm_serve.specs.declared.responded.Responded.TheVariants as responded
use Rattle.ldm_serve.specs.Answering.{answering, asks_queue}
use Rattle.ldm_serve.specs.Response.{Response, Says, Puts, Figures, Feeds, Receives, Notifies, Refuses, Denies}

-- how the connection goes on
abbrev pub goes_on : Response → Responded
goes_on (Says messages) = responded.GoesOn
goes_on (Puts xid info body) = responded.GoesOn
goes_on (Figures xid) = responded.GoesOn
goes_on (Feeds xid class max_hereis) = responded.Feeds (record { xid = xid; class = class; max_hereis = max_hereis })
goes_on (Receives class messages) = responded.Receives class
goes_on (Notifies xid class) = responded.Notifies (record { xid = xid; class = class })
goes_on (Refuses messages) = responded.Refused
goes_on (Denies rule messages) = responded.Denied rule

-- each pattern of the class means something that the peer is to be fed, or told of
abbrev pub HasMeaning : Responded → Type 0
HasMeaning responded.GoesOn = Unit {0}
HasMeaning (responded.Feeds ask) = bad_place ask.class.specs.items ≡ None
HasMeaning (responded.Receives class) = Unit {0}
HasMeaning (responded.Notifies ask) = bad_place ask.class.specs.items ≡ None
HasMeaning responded.Refused = Unit {0}
HasMeaning (responded.Denied rule) = Unit {0}

-- What a response changes: the pass, what the clock tells, and the bytes that the peer is owed.
pub record Standing : Type 0 where
  pub pass : PassView
  pub clock : ClockRecord
  pub out : List ℕ

abbrev pub stands : PassView → ClockRecord → List ℕ → Standing
stands pass clock out = record { pass = pass; clock = clock; out = out }

-- Where a product is inserted, the clock is asked once, and says that it is now; else it is not asked.
abbrev pub AsksClock : Response → ℕ → ClockRecord → ClockRecord → Type 0
AsksClock (Puts xid info body) now old new = Answers now old new
AsksClock _ now old new = new ≡ old

-- Just what the response asks of the queue was asked with the pass, and the messages that it comes to stand behind what was owed.
pub record IsGiven (response : Response) (old new : Standing) : Type 0 where
  pub now : ℕ
  pub made : List Entry
  pub messages : List Sent
  pub asks_clock : AsksClock response now old.clock new.clock
  pub leads : Leads old.pass.actor (answering response now) made messages
  pub calls : Calls old.pass new.pass made
  pub sends : new.out ≡ old.out ++ records_of messages

-- The response asks the queue, which can have no call more: none was made, and nothing is owed.
pub record RunsOut (response : Response) (old new : Standing) : Type 0 where
  pub asks : asks_queue response ≡ true
  pub now : ℕ
  pub asks_clock : AsksClock response now old.clock new.clock
  pub calls : Calls old.pass new.pass []
  pub worn : length new.pass.seen ≡ MOST_TURNS
  pub same : new.out ≡ old.out

-- Want of memory changes nothing.
abbrev pub FailsBy : RespondFault → Response → Standing → Standing → Type 0
FailsBy fault.Worn response old new = RunsOut response old new
FailsBy fault.OutOfMemory response old new = new ≡ old

-- The response was given, and the connection goes on as it says; or it failed.
abbrev pub Responds : Result Responded RespondFault → Response → Standing → Standing → Type 0
Responds result response old new = MatchResult result (λ next. (next ≡ goes_on response) × IsGiven response old new) (λ why. FailsBy why response old new)

-- room for the longest answer that the queue decides
abbrev pub HasAnswerRoom : Vec ℕ → Type 0
HasAnswerRoom out = vec_len out + LONGEST_ANSWER ≤ vec_capacity out
