-- Messages as plain data, wherever their bytes lie in memory: each with the number of its call, and its fields.
use Rattle.std.specs.Prelude.{ℕ, List, Option}
use Rattle.ldm_types.specs.Info.{Metadata}
use Rattle.ldm_types.specs.declared.class.ClassSpec.{ClassSpec}
use Rattle.ldm_relay.specs.declared.message.ClassAnswer.{ClassAnswer}
use Rattle.ldm_relay.specs.declared.message.SoonAnswer.{SoonAnswer}
use Rattle.ldm_relay.specs.declared.message.PutAnswer.{PutAnswer}
use Rattle.ldm_relay.specs.declared.message.Refusal.{Refusal}
use Rattle.ldm_model.specs.declared.stat.Stat.{Stat}

pub data Sent : Type 0 where
  Feedme : (xid : ℕ) → (class : ClassSpec) → (max_hereis : ℕ) → Sent
  FeedmeReply : (xid : ℕ) → (answer : ClassAnswer) → Sent
  Hiya : (xid : ℕ) → (class : ClassSpec) → Sent
  HiyaReply : (xid : ℕ) → (max_hereis : ℕ) → (answer : ClassAnswer) → Sent
  Hereis : (xid : ℕ) → (info : Metadata) → (body : List ℕ) → Sent
  Comingsoon : (xid : ℕ) → (info : Metadata) → (block_size : ℕ) → Sent
  ComingsoonReply : (xid : ℕ) → (answer : SoonAnswer) → Sent
  Blkdata : (xid : ℕ) → (signature : List ℕ) → (number : ℕ) → (block : List ℕ) → Sent
  Isalive : (xid : ℕ) → Sent
  Qstat : (xid : ℕ) → Sent
  QstatReply : (xid : ℕ) → (stat : Option Stat) → Sent
  Put : (xid : ℕ) → (info : Metadata) → (body : List ℕ) → Sent
  PutReply : (xid : ℕ) → (answer : PutAnswer) → Sent
  Notifyme : (xid : ℕ) → (class : ClassSpec) → Sent
  NotifymeReply : (xid : ℕ) → (answer : ClassAnswer) → Sent
  Notification : (xid : ℕ) → (info : Metadata) → Sent
  Refused : (xid : ℕ) → (why : Refusal) → Sent
