-- The loop over turns: what it keeps.
use Rattle.std.proofs.Common.{[], ◌++◌, refl, subst}
use Rattle.ldm_outside.specs.Link.{IsNotClosed}
use Rattle.ldm_shared.specs.Passes.{IsSamePass}
use Rattle.ldm_shared.specs.declared.reader.Reader.{Reader}
use Rattle.ldm_sender.specs.declared.end.SendEnd.{SendEnd}
use Rattle.ldm_sender.specs.Asked.{Asked}
use Rattle.ldm_sender.specs.Acts.{Situation}
use Rattle.ldm_sender.proofs.Steps.{RowsStay, same_then}
use Rattle.ldm_sender.proofs.Turning.{behind, no_turns, turns_then, turns_end}
use Rattle.ldm_notify.specs.declared.notifier.Notifier.{Notifier}
use Rattle.ldm_notify.specs.Notifier.{IsSameNotifier, CanTurn, asked_by}
use Rattle.ldm_notify.specs.Turn.{notice_kind}
use Rattle.ldm_notify.specs.Course.{MakesTurns, EndsTurns}
use Rattle.ldm_notify.proofs.Asked.{same_notifier, same_notifier_then}
use Rattle.ldm_notify.proofs.Turning.{notice_lawful}

-- What the loop keeps: turns were made since it began.
pub record KeepsCourse (old new : Notifier) (a b : Situation) : Type 0 where
  pub same : IsSamePass a.moment.pass b.moment.pass
  pub unclosed : IsNotClosed b.moment.link
  pub same_notifier : IsSameNotifier old new
  pub turns : MakesTurns (asked_by old) old.reader.k old.standing new.standing a b

pub course_begins : (now : Notifier) (a : Situation) → IsNotClosed a.moment.link → CanTurn now a.moment.pass
    → KeepsCourse now now a a
course_begins now a unclosed ready = record {
  same = refl;
  unclosed = unclosed;
  same_notifier = same_notifier now;
  turns = ([], no_turns notice_kind (asked_by now) now.reader.k now.standing a unclosed ready.cursor);
}

pub course_goes_on : (law : RowsStay) (old mid new : Notifier) (a b c : Situation) → KeepsCourse old mid a b
    → IsSamePass b.moment.pass c.moment.pass → IsNotClosed c.moment.link → IsSameNotifier mid new
    → MakesTurns (asked_by mid) mid.reader.k mid.standing new.standing b c → KeepsCourse old new a c
course_goes_on law old mid new a b c keeps same unclosed same_new turns =
    let here : MakesTurns (asked_by old) old.reader.k mid.standing new.standing b c =
    subst (λ (r : Reader). MakesTurns (asked_by old) r.k mid.standing new.standing b c) keeps.same_notifier.reader
    (subst (λ (x : Asked). MakesTurns x mid.reader.k mid.standing new.standing b c) keeps.same_notifier.asked turns) in
    record {
      same = same_then a.moment.pass b.moment.pass c.moment.pass keeps.same same;
      unclosed = unclosed;
      same_notifier = same_notifier_then old mid new keeps.same_notifier same_new;
      turns = (
        keeps.turns.0 ++ here.0,
        turns_then notice_kind notice_lawful law (asked_by old) old.reader.k old.standing mid.standing new.standing
            keeps.turns.0 here.0 [] [] a b c keeps.turns.1 here.1,
      );
    }

pub course_ends : (law : RowsStay) (why : SendEnd) (old mid : Notifier) (a b c : Situation) → KeepsCourse old mid a b
    → EndsTurns why (asked_by mid) mid.reader.k mid.standing b c
    → EndsTurns why (asked_by old) old.reader.k old.standing a c
course_ends law why old mid a b c keeps ends =
    let here : EndsTurns why (asked_by old) old.reader.k mid.standing b c =
    subst (λ (r : Reader). EndsTurns why (asked_by old) r.k mid.standing b c) keeps.same_notifier.reader
    (subst (λ (x : Asked). EndsTurns why x mid.reader.k mid.standing b c) keeps.same_notifier.asked ends) in (
      behind keeps.turns.0 here.0,
      turns_end notice_kind notice_lawful law why (asked_by old) old.reader.k old.standing mid.standing keeps.turns.0
          here.0 [] [] a b c keeps.turns.1 here.1,
    )
