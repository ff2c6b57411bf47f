-- Products that are put over a link, one after another: each PUT goes out after the line of the answer to the one before.
use Rattle.std.specs.Prelude.{◌≡◌, ℕ, ◌+◌, Bool, false, List, [], ◌∷◌, ◌++◌, length, Result, Ok, Err}
use Rattle.ldm_types.specs.Info.{Metadata}
use Rattle.ldm_outside.specs.Count.{Rose}
use Rattle.ldm_outside.specs.Io.{SinkRecord, Takes, WritesFront}
use Rattle.ldm_outside.specs.Link.{LinkRecord}
use Rattle.ldm_relay.specs.declared.message.PutAnswer.{PutAnswer}
use Rattle.ldm_relay.specs.declared.message.PutAnswer.TheVariants as put_answer
use Rattle.ldm_rpc.specs.Streams.{Placed}
use Rattle.ldm_session.specs.Exchange.{Exchanged}
use Rattle.ldm_session.specs.Owed.{records_given}
use Rattle.ldm_status.specs.declared.status.Status.{Status}
use Rattle.ldm_status.specs.declared.status.Status.TheVariants as status
use Rattle.ldm_tools.specs.declared.no_reply.NoReply.{NoReply}
use Rattle.ldm_tools.specs.declared.put_fault.PutFault.{PutFault}
use Rattle.ldm_tools.specs.declared.put_fault.PutFault.TheVariants as fault
use Rattle.ldm_tools.specs.declared.puts.Puts.{Puts}
use Rattle.ldm_tools.specs.Asking.{sends_all}
use Rattle.ldm_session.specs.Part.{IsPart}
use Rattle.ldm_tools.specs.Lines.{is_denied, is_refused, put_line}
use Rattle.ldm_tools.specs.Mon.{status_of_no_reply}
use Rattle.ldm_tools.specs.Puts.{AreAnswers, HasPut, NoAnswer, put_call, put_number}

-- A product that is put.
pub record Product : Type 0 where
  pub info : Metadata
  pub body : List ℕ

-- A moment of PUTs over a link: the link, the sink of the answers, all bytes that the link gave, and the answers so far, in order.
pub record Wire : Type 0 where
  pub link : LinkRecord
  pub sink : SinkRecord
  pub given : List ℕ
  pub answers : List PutAnswer

-- The first records of all that a link gave are the replies to as many PUTs as there are answers, and these say the answers.
pub record HasAnswers (given : List ℕ) (answers : List PutAnswer) : Type 0 where
  pub heard : List Placed
  pub behind : List Placed
  pub records : records_given given ≡ heard ++ behind
  pub each : AreAnswers 0 answers heard

-- the record of the PUT of a product, behind those that were answered
abbrev pub call_of : Product → Wire → List ℕ
call_of product old = put_call (put_number (length old.answers)) product.info product.body

-- The PUT was sent, and the link then gave the answer.
pub record IsPut (product : Product) (answer : PutAnswer) (old new : Wire) : Type 0 where
  pub more : List ℕ
  pub exchanged : Exchanged old.link (call_of product old) more new.link
  pub given : new.given ≡ old.given ++ more
  pub answers : new.answers ≡ old.answers ++ answer ∷ []
  pub says : HasAnswers new.given new.answers

-- A product was put, and the line of the answer was written.
pub record IsTold (product : Product) (answer : PutAnswer) (old new : Wire) : Type 0 where
  pub put : IsPut product answer old new
  pub not_denied : is_denied answer ≡ false
  pub written : Takes old.sink (put_line answer) new.sink

-- A product was put, and the sink failed, after a front of the line of the answer.
pub record BreaksLine (product : Product) (old new : Wire) : Type 0 where
  pub answer : PutAnswer
  pub put : IsPut product answer old new
  pub not_denied : is_denied answer ≡ false
  pub rose : Rose old.sink.faults new.sink.faults
  pub front : WritesFront old.sink (put_line answer) new.sink

-- The peer answered that the caller may not insert, and nothing was written.
pub record Denies (product : Product) (old new : Wire) : Type 0 where
  pub put : IsPut product put_answer.Denied old new
  pub sink : new.sink ≡ old.sink

-- Of the PUT all was sent or a front. No answer came, and all that the link gave says why.
pub record BreaksPut (why : NoReply) (product : Product) (came : LinkRecord) (old new : Wire) : Type 0 where
  pub sent : List ℕ
  pub more : List ℕ
  pub exchanged : Exchanged old.link sent more new.link
  pub sent_is : let result : Result PutAnswer NoReply = Err why in IsPart (sends_all result) sent (call_of product old)
  pub given : new.given ≡ old.given ++ more
  pub answers : new.answers ≡ old.answers
  pub says : NoAnswer why new.given old.answers came new.link
  pub sink : new.sink ≡ old.sink

-- why PUTs end at a product, over a link that came so
abbrev pub Breaks : PutFault → Product → (came : LinkRecord) → (old new : Wire) → Type 0
Breaks (fault.NoAnswer why) product came old new = BreaksPut why product came old new
Breaks fault.Denied product came old new = Denies product old new
Breaks fault.SinkFault product came old new = BreaksLine product old new

-- What is used to put products.
pub record Putting : Type 0 where
  pub puts : Puts
  pub link : LinkRecord
  pub sink : SinkRecord

abbrev pub putting_tells : {L K : Type 0} → (L → LinkRecord) → (K → SinkRecord) → Puts → L → K → Putting
putting_tells link sink puts of_link of_sink = record { puts = puts; link = link of_link; sink = sink of_sink }

abbrev pub wire_of : Putting → List ℕ → List PutAnswer → Wire
wire_of hands given answers = record { link = hands.link; sink = hands.sink; given = given; answers = answers }

-- What putting a product did, to one who knows all that the link gave before: it was put and its line written, and whether the queue did not
-- admit it; or why it ended.
abbrev pub TellsFrom : Result Bool PutFault → Product → (new : Putting) → (old : Wire) → Type 0
TellsFrom (Ok refused) product new old =
    (answer : PutAnswer) × (given : List ℕ) × IsTold product answer old (wire_of new given (old.answers ++ answer ∷ [])) × HasPut given (old.answers ++ answer ∷ []) new.puts
    × (refused ≡ is_refused answer)
TellsFrom (Err why) product new old = (given : List ℕ) × (answers : List PutAnswer) × Breaks why product old.link old (wire_of new given answers)

-- A product was put and its line written, or the PUTs ended at it.
abbrev pub PutsProduct : Result Bool PutFault → Product → (old new : Putting) → Type 0
PutsProduct result product old new = (given : List ℕ) (answers : List PutAnswer) → HasPut given answers old.puts → TellsFrom result product new (wire_of old given answers)

-- ---- products one after another

-- These products were put, with these answers, and their lines written: each after all of the one before.
abbrev pub AreTold : List Product → List PutAnswer → Wire → Wire → Type 0
AreTold [] [] old new = new ≡ old
AreTold (product ∷ products) (answer ∷ answers) old new = (mid : Wire) × IsTold product answer old mid × AreTold products answers mid new
AreTold [] (answer ∷ answers) old new = ⊥
AreTold (product ∷ products) [] old new = ⊥

-- the records of the PUTs of products, in order, behind so many
abbrev pub calls_of : ℕ → List Product → List ℕ
calls_of before [] = []
calls_of before (product ∷ products) = put_call (put_number before) product.info product.body ++ calls_of (before + 1) products

-- the lines of answers, in order
abbrev pub lines_of : List PutAnswer → List ℕ
lines_of [] = []
lines_of (answer ∷ answers) = put_line answer ++ lines_of answers

-- Over all these products, the link was sent the records of their PUTs, and gave more, the answers came, and the lines were written.
pub record Tells (products : List Product) (answers : List PutAnswer) (old new : Wire) : Type 0 where
  pub more : List ℕ
  pub sent : Exchanged old.link (calls_of (length old.answers) products) more new.link
  pub given : new.given ≡ old.given ++ more
  pub answers_are : new.answers ≡ old.answers ++ answers
  pub written : Takes old.sink (lines_of answers) new.sink

-- the status where a product was not put, or its line not written
abbrev pub status_of_put_fault : PutFault → Status
status_of_put_fault (fault.NoAnswer why) = status_of_no_reply why
status_of_put_fault fault.Denied = status.Denied
status_of_put_fault fault.SinkFault = status.SinkFault
