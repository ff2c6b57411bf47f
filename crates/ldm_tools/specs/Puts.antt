-- PUTs over a link, one after another.
use Rattle.std.specs.Prelude.{◌≡◌, ℕ, ◌+◌, ◌%◌, ◌^◌, List, [], ◌∷◌, ◌++◌, length, Result, Ok, Err}
use Rattle.ldm_types.specs.Info.{Metadata}
use Rattle.ldm_outside.specs.Link.{LinkRecord, Failing, Sent, after_sent}
use Rattle.ldm_relay.specs.declared.message.PutAnswer.{PutAnswer}
use Rattle.ldm_relay.specs.Sent as sent
use Rattle.ldm_relay.specs.Spelling.{record_of, written}
use Rattle.ldm_rpc.specs.Streams.{Placed}
use Rattle.ldm_session.specs.Exchange.{Exchanged}
use Rattle.ldm_tools.specs.declared.no_reply.NoReply.{NoReply}
use Rattle.ldm_tools.specs.declared.no_reply.NoReply.TheVariants.{BadFrame, StreamLimit, LinkFault, OutOfMemory}
use Rattle.ldm_tools.specs.declared.puts.Puts.{Puts}
use Rattle.ldm_tools.specs.Asking.{sends_all}
use Rattle.ldm_session.specs.Part.{IsPart}
use Rattle.ldm_tools.specs.Hearing.{Heard}
use Rattle.ldm_tools.specs.Replies.{IsPutReply, SaysNone}

-- the record of a PUT of that number
abbrev pub put_call : ℕ → Metadata → List ℕ → List ℕ
put_call xid info body = record_of (written (sent.Put xid info body))

-- the number of a PUT behind so many
abbrev pub put_number : ℕ → ℕ
put_number before = (before + 1) % 2 ^ 32

-- These records are the replies to the PUTs behind so many, with these answers, in order.
abbrev pub AreAnswers : ℕ → List PutAnswer → List Placed → Type 0
AreAnswers before [] [] = Unit {0}
AreAnswers before (answer ∷ answers) (placed ∷ records) = IsPutReply (put_number before) answer placed.content × AreAnswers (before + 1) answers records
AreAnswers before [] (placed ∷ records) = ⊥
AreAnswers before (answer ∷ answers) [] = ⊥

-- Of all bytes that a link gave, the first records are the replies to as many PUTs as there are answers, which these replies say, and no
-- more was heard.
pub record HasPut (given : List ℕ) (answers : List PutAnswer) (puts : Puts) : Type 0 where
  pub heard : List Placed
  pub behind : Heard given heard puts.reader
  pub each : AreAnswers 0 answers heard
  pub next : puts.next ≡ put_number (length answers)

-- Why no answer is behind these, of all that the link gave.
pub record NoAnswer (why : NoReply) (given : List ℕ) (answers : List PutAnswer) (old new : LinkRecord) : Type 0 where
  pub heard : List Placed
  pub each : AreAnswers 0 answers heard
  pub says : SaysNone (IsPutReply (put_number (length answers))) why given heard old new

-- what the reply to a PUT behind those that were answered so says
abbrev pub TellsPut : Result PutAnswer NoReply → List ℕ → List PutAnswer → Puts → LinkRecord → LinkRecord → Type 0
TellsPut (Ok answer) given answers new old_link new_link = HasPut given (answers ++ answer ∷ []) new
TellsPut (Err why) given answers new old_link new_link = NoAnswer why given answers old_link new_link

-- One PUT was sent, all of it or a front, and what the link gave says what became of it.
pub record PutsOne (result : Result PutAnswer NoReply) (info : Metadata) (body : List ℕ) (old new : Puts) (old_link new_link : LinkRecord) : Type 0 where
  pub sent : List ℕ
  pub more : List ℕ
  pub exchanged : Exchanged old_link sent more new_link
  pub sent_is : IsPart (sends_all result) sent (put_call old.next info body)
  pub told : (given : List ℕ) (answers : List PutAnswer) → HasPut given answers old → TellsPut result (given ++ more) answers new old_link new_link

-- What sending the record did: all of it was sent; or the link failed, after a front of it; or there is no memory, and nothing was sent.
abbrev pub SendsPut : Result (Unit {0}) NoReply → List ℕ → LinkRecord → LinkRecord → Type 0
SendsPut (Ok done) call old new = Sent old call new
SendsPut (Err LinkFault) call old new = (front rest : List ℕ) × (front ++ rest ≡ call) × Failing (after_sent front old) new
SendsPut (Err OutOfMemory) call old new = new ≡ old
SendsPut (Err (BadFrame at)) call old new = ⊥
SendsPut (Err StreamLimit) call old new = ⊥
