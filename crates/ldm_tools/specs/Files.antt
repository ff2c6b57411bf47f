-- What becomes of one file.
use Rattle.std.specs.Prelude.{◌≡◌, ℕ, ◌≤◌, Bool, true, false, List, [], ◌∷◌, ◌++◌, length, IfSome, Some, Result, Err}
use Rattle.ldm_outside.specs.declared.store.FileRead.TheVariants as read
use Rattle.ldm_outside.specs.Clock.{Answers}
use Rattle.ldm_outside.specs.Count.{Rose}
use Rattle.ldm_outside.specs.Io.{WritesFront}
use Rattle.ldm_outside.specs.Io as io
use Rattle.ldm_outside.specs.Link.{LinkRecord}
use Rattle.ldm_outside.specs.Store.{ReadsFile, StoreFails, StoreRecord, bytes_under}
use Rattle.ldm_relay.specs.declared.message.PutAnswer.{PutAnswer}
use Rattle.ldm_relay.specs.declared.message.PutAnswer.TheVariants as put_answer
use Rattle.ldm_session.specs.Exchange.{Exchanged}
use Rattle.ldm_tools.specs.declared.no_reply.NoReply.{NoReply}
use Rattle.ldm_tools.specs.Asking.{sends_all}
use Rattle.ldm_session.specs.Part.{IsPart}
use Rattle.ldm_tools.specs.Lines.{is_denied, is_refused, put_line}
use Rattle.ldm_tools.specs.Puts.{NoAnswer, put_call, put_number}
use Rattle.ldm_tools.specs.Telling.{HasAnswers}
use Rattle.ldm_tools.specs.declared.fault.InsertFault.{InsertFault}
use Rattle.ldm_tools.specs.declared.fault.InsertFault.TheVariants as fault
use Rattle.ldm_tools.specs.declared.limits.TheConstants.{LARGEST_FILE}
use Rattle.ldm_tools.specs.Inserting.{FileAt, Inserting, metadata_of}
use Rattle.ldm_tools.specs.InsertLines.{too_long_line}
use Rattle.ldm_tools.specs.Moments.{InsertMoment}

-- What a file came to: it is too long; or a PUT of these bytes was sent, with this arrival, and answered.
pub data Step : Type 0 where
  TooLong : Step
  Put : (body : List ℕ) (arrival : ℕ) (answer : PutAnswer) → Step

abbrev pub line_of : Step → List ℕ
line_of TooLong = too_long_line
line_of (Put body arrival answer) = put_line answer

-- the queue did not admit it
abbrev pub is_refused_step : Step → Bool
is_refused_step TooLong = true
is_refused_step (Put body arrival answer) = is_refused answer

abbrev pub is_denied_step : Step → Bool
is_denied_step TooLong = false
is_denied_step (Put body arrival answer) = is_denied answer

-- these are the bytes of the file, not too many, where the store tells them
pub record IsBody (body path : List ℕ) (store : StoreRecord) : Type 0 where
  pub short : length body ≤ LARGEST_FILE
  pub told : IfSome store.files (λ files. bytes_under path files ≡ Some body)

-- The file was found to be too long, and nothing was sent.
pub record FindsLong (path : List ℕ) (old new : InsertMoment) : Type 0 where
  pub found : ReadsFile read.TooLong path LARGEST_FILE old.hands.store new.hands.store
  pub same : new ≡ record old { hands = record old.hands { store = new.hands.store } }

-- the record of the PUT of a file, behind those that were answered
abbrev pub call_of : Inserting → FileAt → (body : List ℕ) → (arrival : ℕ) → InsertMoment → List ℕ
call_of all file body arrival old = put_call (put_number (length old.answers)) (metadata_of all file body arrival) body

-- The file was read, the clock was asked, and the PUT was sent. The link then gave the answer.
pub record Puts (all : Inserting) (file : FileAt) (body : List ℕ) (arrival : ℕ) (answer : PutAnswer) (old new : InsertMoment) : Type 0 where
  pub body_is : IsBody body file.path old.hands.store
  pub asked : Answers arrival old.hands.clock new.hands.clock
  pub more : List ℕ
  pub exchanged : Exchanged old.hands.link (call_of all file body arrival old) more new.hands.link
  pub given : new.given ≡ old.given ++ more
  pub answers : new.answers ≡ old.answers ++ answer ∷ []
  pub says : HasAnswers new.given new.answers
  pub same : new.hands ≡ record old.hands { link = new.hands.link; clock = new.hands.clock }

-- What was done with a file before its line was written.
abbrev pub Handles : Inserting → FileAt → Step → InsertMoment → InsertMoment → Type 0
Handles all file TooLong old new = FindsLong file.path old new
Handles all file (Put body arrival answer) old new = Puts all file body arrival answer old new

-- the sink alone changed
abbrev pub IsSink : InsertMoment → InsertMoment → Type 0
IsSink old new = new ≡ record old { hands = record old.hands { sink = new.hands.sink } }

-- A file was taken, and its line was written.
pub record Takes (all : Inserting) (file : FileAt) (step : Step) (old new : InsertMoment) : Type 0 where
  pub between : InsertMoment
  pub handled : Handles all file step old between
  pub not_denied : is_denied_step step ≡ false
  pub written : io.Takes between.hands.sink (line_of step) new.hands.sink
  pub same : IsSink between new

-- A file was taken, and the sink failed, after a front of its line.
pub record BreaksLine (all : Inserting) (file : FileAt) (old new : InsertMoment) : Type 0 where
  pub step : Step
  pub between : InsertMoment
  pub handled : Handles all file step old between
  pub not_denied : is_denied_step step ≡ false
  pub rose : Rose between.hands.sink.faults new.hands.sink.faults
  pub front : WritesFront between.hands.sink (line_of step) new.hands.sink
  pub same : IsSink between new

-- The file was read, the clock was asked, and of the PUT all was sent or a front. No answer came, and all that the link gave says why.
pub record BreaksPut (why : NoReply) (all : Inserting) (file : FileAt) (came : LinkRecord) (old new : InsertMoment) : Type 0 where
  pub body : List ℕ
  pub arrival : ℕ
  pub body_is : IsBody body file.path old.hands.store
  pub asked : Answers arrival old.hands.clock new.hands.clock
  pub sent : List ℕ
  pub more : List ℕ
  pub exchanged : Exchanged old.hands.link sent more new.hands.link
  pub sent_is : let result : Result PutAnswer NoReply = Err why in IsPart (sends_all result) sent (call_of all file body arrival old)
  pub given : new.given ≡ old.given ++ more
  pub says : NoAnswer why new.given old.answers came new.hands.link
  pub same : new ≡ record old { hands = record old.hands { link = new.hands.link; clock = new.hands.clock }; given = new.given }

-- The peer answered that the caller may not insert, and nothing was written.
pub record IsDenied (all : Inserting) (file : FileAt) (old new : InsertMoment) : Type 0 where
  pub body : List ℕ
  pub arrival : ℕ
  pub puts : Puts all file body arrival put_answer.Denied old new

-- Why a run ends at a file, over a link that came so.
abbrev pub Breaks : InsertFault → Inserting → FileAt → (came : LinkRecord) → (old new : InsertMoment) → Type 0
Breaks fault.StoreFault all file came old new =
    StoreFails old.hands.store new.hands.store × (new ≡ record old { hands = record old.hands { store = new.hands.store } })
Breaks fault.OutOfMemory all file came old new = new ≡ old
Breaks (fault.NoAnswer why) all file came old new = BreaksPut why all file came old new
Breaks fault.Denied all file came old new = IsDenied all file old new
Breaks fault.SinkFault all file came old new = BreaksLine all file old new
Breaks fault.Unreached all file came old new = ⊥
