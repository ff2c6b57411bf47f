-- One record of the stream.
use Rattle.std.specs.Prelude.{ℕ, Bool, List, [], Result, Ok}
use Rattle.ldm_types.specs.declared.class.ClassSpec.{ClassSpec}
use Rattle.ldm_relay.specs.declared.fault.RelayFault.{RelayFault}
use Rattle.ldm_relay.specs.declared.procedure.Procedure.TheVariants as procedure
use Rattle.ldm_relay.specs.Procedure.{number_of}
use Rattle.ldm_relay.specs.Reading.{call_of, reply_of}
use Rattle.ldm_relay.specs.Sent.{Sent}
use Rattle.ldm_relay.specs.Sent as sent
use Rattle.ldm_intake.specs.declared.phase.Phase.{Phase}
use Rattle.ldm_intake.specs.declared.phase.Phase.TheVariants.{Asked, Feeding}
use Rattle.ldm_intake.specs.Course.{Course, Comes}
use Rattle.ldm_intake.specs.Receiving.{Receiving}
use Rattle.ldm_intake.specs.Step.{Step, Goes, Bad}
use Rattle.ldm_intake.specs.Answered.{answered}
use Rattle.ldm_intake.specs.Products.{hereis, comingsoon, blkdata}

-- a reply that was read to the FEEDME that asked for a class: no other message is one
abbrev pub reply_course : Receiving → ClassSpec → Bool → Result Sent RelayFault → Course Step
reply_course s class again (Ok (sent.FeedmeReply xid answer)) = Comes (answered s class again xid answer)
reply_course s class again _ = Comes Bad

-- a call that was read in the feed: HEREIS, COMINGSOON, BLKDATA and IS_ALIVE are lawful, and nothing else
abbrev pub call_course : Receiving → ℕ → Result Sent RelayFault → Course Step
call_course s now (Ok (sent.Hereis xid info body)) = hereis s now info body
call_course s now (Ok (sent.Comingsoon xid info block_size)) = comingsoon s now xid info block_size
call_course s now (Ok (sent.Blkdata xid signature number block)) = blkdata s now signature number block
call_course s now (Ok (sent.Isalive xid)) = Comes (Goes s [] [])
call_course s now _ = Comes Bad

abbrev pub course_in : Phase → Receiving → ℕ → List ℕ → Course Step
course_in (Asked class again) s now content = reply_course s class again (reply_of (number_of procedure.Feedme) content)
course_in Feeding s now content = call_course s now (call_of content)

-- what a record with that content asks of the queue, and what it comes to, where it was complete at the moment `now`
abbrev pub record_course : Receiving → ℕ → List ℕ → Course Step
record_course s now content = course_in s.phase s now content
