-- The course of a record in a feed.
use Rattle.std.proofs.Common.{◌≡◌, ℕ, true, false, List, Result, Ok, Err, refl, sym, ap, subst, ◌∙◌}
use Rattle.std.proofs.lemmas.Bool.{false≢true}
use Rattle.ldm_relay.specs.declared.fault.RelayFault.{RelayFault}
use Rattle.ldm_relay.specs.FeedCalls.{IsNoFeedCall}
use Rattle.ldm_relay.specs.Reading.{call_of}
use Rattle.ldm_relay.specs.Sent.{Sent}
use Rattle.ldm_relay.specs.Sent as sent
use Rattle.ldm_intake.specs.declared.phase.Phase.{Phase}
use Rattle.ldm_intake.specs.declared.phase.Phase.TheVariants.{Asked, Feeding}
use Rattle.ldm_shared.specs.Passes.{IsSamePass}
use Rattle.ldm_intake.specs.declared.record_end.MessageEnd.{MessageEnd}
use Rattle.ldm_intake.specs.declared.record_end.MessageEnd.TheVariants as message_end
use Rattle.ldm_intake.specs.Course.{Course, Comes}
use Rattle.ldm_intake.specs.Receiving.{Receiving}
use Rattle.ldm_intake.specs.Record.{call_course, course_in, record_course}
use Rattle.ldm_intake.specs.Settled.{is_feeding}
use Rattle.ldm_intake.specs.Step.{Step, Bad}
use Rattle.ldm_intake.specs.TakesRecord.{Standing, TakesRecord}

feeding_in : (phase : Phase) (s : Receiving) (now : ℕ) (content : List ℕ) → is_feeding phase ≡ true
    → course_in phase s now content ≡ call_course s now (call_of content)
feeding_in (Asked class again) s now content feeding = absurd (false≢true feeding)
feeding_in Feeding s now content feeding = refl

-- it is that of the call
pub feeding : (s : Receiving) (now : ℕ) (content : List ℕ) → is_feeding s.phase ≡ true → record_course s now content ≡ call_course s now (call_of content)
feeding s now content feeds = feeding_in s.phase s now content feeds

-- ---- calls of a feed, and other records

-- what is no call of a feed is refused
pub other_is_bad : (s : Receiving) (now : ℕ) (read : Result Sent RelayFault) → IsNoFeedCall read → call_course s now read ≡ Comes Bad
other_is_bad s now (Err fault) other = refl
other_is_bad s now (Ok (sent.Hereis xid info body)) other = absurd other
other_is_bad s now (Ok (sent.Comingsoon xid info block_size)) other = absurd other
other_is_bad s now (Ok (sent.Blkdata xid signature number block)) other = absurd other
other_is_bad s now (Ok (sent.Isalive xid)) other = absurd other
other_is_bad s now (Ok (sent.Feedme xid class max_hereis)) other = refl
other_is_bad s now (Ok (sent.FeedmeReply xid answer)) other = refl
other_is_bad s now (Ok (sent.Hiya xid class)) other = refl
other_is_bad s now (Ok (sent.HiyaReply xid max_hereis answer)) other = refl
other_is_bad s now (Ok (sent.ComingsoonReply xid answer)) other = refl
other_is_bad s now (Ok (sent.Qstat xid)) other = refl
other_is_bad s now (Ok (sent.QstatReply xid stat)) other = refl
other_is_bad s now (Ok (sent.Put xid info body)) other = refl
other_is_bad s now (Ok (sent.PutReply xid answer)) other = refl
other_is_bad s now (Ok (sent.Notifyme xid class)) other = refl
other_is_bad s now (Ok (sent.NotifymeReply xid answer)) other = refl
other_is_bad s now (Ok (sent.Notification xid info)) other = refl
other_is_bad s now (Ok (sent.Refused xid why)) other = refl

module _ (s : Receiving) (now : ℕ) (content : List ℕ) (feeds : is_feeding s.phase ≡ true) where
  -- a record of a call is taken as the call
  pub takes_call : (end : MessageEnd) (m : Sent) (old new : Standing) → call_of content ≡ Ok m
      → TakesRecord end (call_course s now (Ok m)) old new → TakesRecord end (record_course s now content) old new
  takes_call end m old new read takes =
      subst (λ (c : Course Step). TakesRecord end c old new) (sym (feeding s now content feeds ∙ ap (call_course s now) read)) takes

  pub takes_other : (old : Standing) → IsNoFeedCall (call_of content) → TakesRecord message_end.Bad (record_course s now content) old old
  takes_other old other =
      subst (λ (c : Course Step). TakesRecord message_end.Bad c old old) (sym (feeding s now content feeds ∙ other_is_bad s now (call_of content) other)) (refl, refl)

-- however a message ends, the pass is the same one
pub takes_same : (end : MessageEnd) (c : Course Step) (old new : Standing) → TakesRecord end c old new → IsSamePass old.pass new.pass
takes_same message_end.Goes c old new takes = takes.calls.same
takes_same message_end.Bad c old new takes = subst (λ (s : Standing). IsSamePass old.pass s.pass) (sym takes.1) refl
takes_same message_end.Worn c old new takes = takes.calls.same
takes_same message_end.OutOfMemory c old new takes = subst (λ (s : Standing). IsSamePass old.pass s.pass) (sym takes) refl
