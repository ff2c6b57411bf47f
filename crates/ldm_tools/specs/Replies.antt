-- The replies that one who asks is owed, in the bytes that a link gives.
use Rattle.std.specs.Prelude.{◌≡◌, ◌⊎◌, ℕ, List, [], ◌∷◌, ◌++◌, length, IfSome, Option, Result, Ok, Err}
use Rattle.ldm_outside.specs.Count.{Rose}
use Rattle.ldm_outside.specs.Link.{LinkRecord}
use Rattle.ldm_relay.specs.declared.message.PutAnswer.{PutAnswer}
use Rattle.ldm_model.specs.declared.stat.Stat.{Stat}
use Rattle.ldm_relay.specs.declared.procedure.Procedure.TheVariants as procedure
use Rattle.ldm_relay.specs.Procedure.{number_of}
use Rattle.ldm_relay.specs.Reading.{reply_of}
use Rattle.ldm_relay.specs.Sent as sent
use Rattle.ldm_rpc.specs.Streams.{Placed}
use Rattle.ldm_session.specs.declared.limits.TheConstants.{LONGEST_STREAM}
use Rattle.ldm_session.specs.Exchange.{Exchanged}
use Rattle.ldm_session.specs.Owed.{records_given}
use Rattle.ldm_tools.specs.declared.no_reply.NoReply.{NoReply}
use Rattle.ldm_tools.specs.declared.no_reply.NoReply.TheVariants.{BadFrame, StreamLimit, LinkFault, OutOfMemory}
use Rattle.ldm_tools.specs.declared.reader.LinkReader.{LinkReader}
use Rattle.ldm_tools.specs.declared.reader.NoRecord.{NoRecord}
use Rattle.ldm_tools.specs.declared.reader.NoRecord.TheVariants as no_record
use Rattle.ldm_tools.specs.Hearing.{Heard, HeardNone, HeardOne, HeardSome, IsTooLong, in_reader}

-- the content of a record is the reply to the QSTAT of that number, and tells these figures, or that the caller may not know
abbrev pub IsStatReply : ℕ → Option Stat → List ℕ → Type 0
IsStatReply xid stat content = reply_of (number_of procedure.Qstat) content ≡ Ok (sent.QstatReply xid stat)

-- the content of a record is the reply to the PUT of that number, and says this
abbrev pub IsPutReply : ℕ → PutAnswer → List ℕ → Type 0
IsPutReply xid answer content = reply_of (number_of procedure.Put) content ≡ Ok (sent.PutReply xid answer)

-- where no record was heard, there is no reply
abbrev pub no_reply_of : NoRecord → NoReply
no_reply_of (no_record.Ended at) = BadFrame at
no_reply_of (no_record.TooLong at) = BadFrame at
no_reply_of no_record.StreamLimit = StreamLimit
no_reply_of no_record.LinkFault = LinkFault
no_reply_of no_record.OutOfMemory = OutOfMemory

-- The link said that it is at its end, after so many bytes. It has nothing left, and no record is behind these.
pub record IsEnded (at : ℕ) (given : List ℕ) (heard : List Placed) (old new : LinkRecord) : Type 0 where
  pub none : HeardNone given heard
  pub at_is : at ≡ length given
  pub rose : Rose old.ends new.ends
  pub nothing_left : IfSome new.left (λ rest. rest ≡ [])

module _ {A : Type 0} (Is : A → List ℕ → Type 0) where
  -- The record behind these is a reply that says this.
  pub record Says (answer : A) (given : List ℕ) (heard : List Placed) : Type 0 where
    pub placed : Placed
    pub behind : List Placed
    pub records : records_given given ≡ heard ++ placed ∷ behind
    pub is : Is answer placed.content

  -- The record behind these begins there, and is no reply.
  pub record IsOther (at : ℕ) (given : List ℕ) (heard : List Placed) : Type 0 where
    pub placed : Placed
    pub behind : List Placed
    pub records : records_given given ≡ heard ++ placed ∷ behind
    pub at_is : at ≡ placed.at
    pub is_not : (answer : A) → ¬ Is answer placed.content

  -- why no reply is behind these records, of all that a link gave
  abbrev pub SaysNone : NoReply → List ℕ → List Placed → LinkRecord → LinkRecord → Type 0
  SaysNone (BadFrame at) given heard old new = IsEnded at given heard old new ⊎ (IsTooLong at given heard ⊎ IsOther at given heard)
  SaysNone StreamLimit given heard old new = HeardNone given heard × (length given ≡ LONGEST_STREAM)
  SaysNone LinkFault given heard old new = HeardSome given heard × Rose old.faults new.faults
  SaysNone OutOfMemory given heard old new = HeardSome given heard

  -- What all that a link gave says to one who heard these records and is owed the reply behind them.
  abbrev pub Answers : Result A NoReply → List ℕ → List Placed → LinkRecord → LinkRecord → Type 0
  Answers (Ok answer) given heard old new = Says answer given heard
  Answers (Err why) given heard old new = SaysNone why given heard old new

  -- the same with the reader behind the reply
  abbrev pub Replies : Result A NoReply → List ℕ → List Placed → LinkReader → LinkRecord → LinkRecord → Type 0
  Replies (Ok answer) given heard reader old new = HeardOne given heard reader × Is answer (in_reader reader).content
  Replies (Err why) given heard reader old new = SaysNone why given heard old new

  -- What hearing a reply did.
  pub record HearsReply (result : Result A NoReply) (old new : LinkReader) (old_link new_link : LinkRecord) : Type 0 where
    -- the link gave these bytes, and was sent none
    pub more : List ℕ
    pub exchanged : Exchanged old_link [] more new_link
    pub told : (given : List ℕ) (heard : List Placed) → Heard given heard old → Replies result (given ++ more) heard new old_link new_link
