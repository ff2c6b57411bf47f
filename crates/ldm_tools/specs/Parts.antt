-- What the parts of inserting do. No caller needs these.
use Rattle.std.specs.Prelude.{◌≡◌, ℕ, Bool, List, [], Result, Ok, Err}
use Rattle.ldm_outside.specs.Clock.{Answers, ClockRecord}
use Rattle.ldm_outside.specs.Dial.{DialTakesBack}
use Rattle.ldm_outside.specs.Io.{SinkRecord}
use Rattle.ldm_outside.specs.Link.{IsNotClosed, LinkRecord}
use Rattle.ldm_relay.specs.declared.message.PutAnswer.{PutAnswer}
use Rattle.ldm_tools.specs.declared.put_fault.PutFault.{PutFault}
use Rattle.ldm_tools.specs.declared.put_fault.PutFault.TheVariants as put_fault
use Rattle.ldm_tools.specs.declared.puts.Puts.{Puts}
use Rattle.ldm_tools.specs.Puts.{HasPut}
use Rattle.ldm_tools.specs.Telling.{Product, Putting, PutsProduct}
use Rattle.ldm_tools.specs.declared.fault.InsertFault.{InsertFault}
use Rattle.ldm_tools.specs.declared.fault.InsertFault.TheVariants as fault
use Rattle.ldm_tools.specs.Files as files
use Rattle.ldm_tools.specs.Files.{Breaks, Step, is_refused_step}
use Rattle.ldm_tools.specs.Inserting.{FileAt, Inserting, metadata_of}
use Rattle.ldm_tools.specs.Moments.{Hands, KeepsHands, Outside, hands_of, moment}
use Rattle.ldm_tools.specs.Runs.{Runs}

-- why a run ends at a file that was sent
abbrev pub fault_of : PutFault → InsertFault
fault_of (put_fault.NoAnswer why) = fault.NoAnswer why
fault_of put_fault.Denied = fault.Denied
fault_of put_fault.SinkFault = fault.SinkFault

abbrev pub result_of : Result Bool PutFault → Result Bool InsertFault
result_of (Ok refused) = Ok refused
result_of (Err why) = Err (fault_of why)

-- What is used to send a file.
pub record SentBy : Type 0 where
  pub puts : Puts
  pub link : LinkRecord
  pub sink : SinkRecord
  pub clock : ClockRecord

abbrev pub sent_by : {L K C : Type 0} → (L → LinkRecord) → (K → SinkRecord) → (C → ClockRecord) → Puts → L → K → C → SentBy
sent_by link sink clock puts of_link of_sink of_clock = record { puts = puts; link = link of_link; sink = sink of_sink; clock = clock of_clock }

abbrev pub putting_of : SentBy → Putting
putting_of hands = record { puts = hands.puts; link = hands.link; sink = hands.sink }

-- the product of a file
abbrev pub product_of : Inserting → FileAt → (body : List ℕ) → (arrival : ℕ) → Product
product_of all file body arrival = record { info = metadata_of all file body arrival; body = body }

-- The clock was asked, and the product of a file with these bytes was put.
pub record Sends (result : Result Bool InsertFault) (all : Inserting) (file : FileAt) (body : List ℕ) (old new : SentBy) : Type 0 where
  pub arrival : ℕ
  pub asked : Answers arrival old.clock new.clock
  pub put : Result Bool PutFault
  pub result_is : result ≡ result_of put
  pub puts : PutsProduct put (product_of all file body arrival) (putting_of old) (putting_of new)

-- What taking a file did, to one who knows all that the link gave before.
abbrev pub TakesFrom : Result Bool InsertFault → Inserting → FileAt → (puts : Puts) → (old new : Hands) → List ℕ → List PutAnswer → Type 0
TakesFrom (Ok refused) all file puts old new given answers =
    (step : Step) × (new_given : List ℕ) × (new_answers : List PutAnswer) × files.Takes all file step (moment old given answers) (moment new new_given new_answers)
    × HasPut new_given new_answers puts × (refused ≡ is_refused_step step)
TakesFrom (Err why) all file puts old new given answers =
    (new_given : List ℕ) × (new_answers : List PutAnswer) × Breaks why all file old.link (moment old given answers) (moment new new_given new_answers)

-- A file was taken, or the run ended at it.
abbrev pub TakesOne : Result Bool InsertFault → Inserting → FileAt → (old new : Puts) → (old_hands new_hands : Hands) → Type 0
TakesOne result all file old new old_hands new_hands =
    (given : List ℕ) (answers : List PutAnswer) → HasPut given answers old → TakesFrom result all file new old_hands new_hands given answers

-- The files were taken over a link that was not used yet.
pub record RunsOver (result : Result Bool InsertFault) (all : Inserting) (old new : Hands) : Type 0 where
  pub given : List ℕ
  pub answers : List PutAnswer
  pub runs : Runs result all (moment old [] []) (moment new given answers)

-- The same over a link that came, and it was given back.
pub record HoldsFiles (result : Result Bool InsertFault) (all : Inserting) (came : LinkRecord) (old new : Outside) : Type 0 where
  pub left : LinkRecord
  pub runs : RunsOver result all (hands_of came old) (hands_of left new)
  pub counts : KeepsHands (hands_of came old) (hands_of left new)
  pub not_closed : IsNotClosed left
  pub given_back : DialTakesBack left old.net new.net
