-- Records of which less is kept than all.
use Rattle.std.proofs.Common.{◌≡◌, ℕ, ◌≤◌, Bool, false, List, length, take, Result, Ok, Err, refl, sym, ap, subst, ◌∙◌}
use Rattle.std.proofs.lemmas.Bool.{false≢true}
use Rattle.std.proofs.lemmas.List.{take-take}
use Rattle.ldm_types.specs.declared.class.ClassSpec.{ClassSpec}
use Rattle.ldm_relay.specs.declared.fault.RelayFault.{RelayFault}
use Rattle.ldm_relay.specs.declared.front.FeedFront.{FeedFront}
use Rattle.ldm_relay.specs.declared.procedure.Procedure.TheVariants as procedure
use Rattle.ldm_relay.specs.Fronts.{feed_front_of}
use Rattle.ldm_relay.specs.Procedure.{number_of}
use Rattle.ldm_relay.specs.Reading.{reply_of}
use Rattle.ldm_relay.specs.Sent.{Sent}
use Rattle.ldm_rpc.specs.declared.front_records.Front.{Front}
use Rattle.ldm_rpc.specs.Keeping.{IsFrontOf}
use Rattle.ldm_intake.specs.declared.phase.Phase.{Phase}
use Rattle.ldm_intake.specs.declared.phase.Phase.TheVariants.{Asked, Feeding}
use Rattle.ldm_intake.specs.declared.record_end.AnswerEnd.TheVariants as answer_end
use Rattle.ldm_intake.specs.Course.{Course, Comes}
use Rattle.ldm_intake.specs.Receiving.{Receiving}
use Rattle.ldm_intake.specs.Record.{reply_course, course_in, record_course}
use Rattle.ldm_intake.specs.Settled.{is_feeding}
use Rattle.ldm_intake.specs.Step.{Step, Bad}
use Rattle.ldm_intake.specs.TakesRecord.{Standing, TakesAnswer}

-- what the bytes of a front begin with is what the whole begins with
pub begins_so : (most : ℕ) (held : Front) (content : List ℕ) (begins : FeedFront) → IsFrontOf held content → most ≤ length held.bytes.now
    → feed_front_of (take most held.bytes.now) ≡ begins → feed_front_of (take most content) ≡ begins
begins_so most held content begins of enough is =
    ap feed_front_of (sym (take-take most (length held.bytes.now) content enough) ∙ ap (take most) (sym of.front)) ∙ is

-- what is no reply is refused
not_read : (s : Receiving) (class : ClassSpec) (again : Bool) (read : Result Sent RelayFault) → ((m : Sent) → read ≡ Ok m → ⊥) → reply_course s class again read ≡ Comes Bad
not_read s class again (Ok m) never = absurd (never m refl)
not_read s class again (Err fault) never = refl

asked_in : (phase : Phase) (s : Receiving) (now : ℕ) (content : List ℕ) → is_feeding phase ≡ false
    → ((m : Sent) → reply_of (number_of procedure.Feedme) content ≡ Ok m → ⊥) → course_in phase s now content ≡ Comes Bad
asked_in (Asked class again) s now content asked never = not_read s class again (reply_of (number_of procedure.Feedme) content) never
asked_in Feeding s now content asked never = absurd (false≢true (sym asked))

pub no_answer : (s : Receiving) (now : ℕ) (content : List ℕ) (old : Standing) → is_feeding s.phase ≡ false
    → ((m : Sent) → reply_of (number_of procedure.Feedme) content ≡ Ok m → ⊥) → TakesAnswer answer_end.Bad (record_course s now content) old old
no_answer s now content old asked never =
    subst (λ (c : Course Step). TakesAnswer answer_end.Bad c old old) (sym (asked_in s.phase s now content asked never)) (refl, refl)
