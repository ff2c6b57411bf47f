-- The loop over turns: what it keeps.
use Rattle.std.proofs.Common.{[], refl, subst}
use Rattle.ldm_outside.specs.Link.{IsNotClosed}
use Rattle.ldm_shared.specs.Passes.{IsSamePass}
use Rattle.ldm_shared.specs.declared.reader.Reader.{Reader}
use Rattle.ldm_sender.specs.declared.end.SendEnd.{SendEnd}
use Rattle.ldm_sender.specs.Asked.{Asked}
use Rattle.ldm_sender.specs.Acts.{Situation}
use Rattle.ldm_sender.proofs.Steps.{RowsStay, same_then}
use Rattle.ldm_sender.proofs.Turning.{no_turns}
use Rattle.ldm_upstream.specs.declared.feeder.Feeder.{Feeder}
use Rattle.ldm_upstream.specs.Feeder.{IsSameFeeder, CanTurn, asked_by}
use Rattle.ldm_upstream.specs.Turn.{feeding_kind}
use Rattle.ldm_upstream.specs.Course.{MakesTurns, EndsTurns}
use Rattle.ldm_upstream.proofs.Asked.{same_feeder, same_feeder_then}
use Rattle.ldm_upstream.proofs.Turning.{turns_then, turns_end, hears_nothing}

-- What the loop keeps: turns were made since it began.
pub record KeepsCourse (old new : Feeder) (a b : Situation) : Type 0 where
  pub same : IsSamePass a.moment.pass b.moment.pass
  pub unclosed : IsNotClosed b.moment.link
  pub same_feeder : IsSameFeeder old new
  pub turns : MakesTurns (asked_by old) old.reader.k old.standing new.standing a b old.replies new.replies

pub course_begins : (now : Feeder) (a : Situation) → IsNotClosed a.moment.link → CanTurn now a.moment.pass
    → KeepsCourse now now a a
course_begins now a unclosed ready = record {
  same = refl;
  unclosed = unclosed;
  same_feeder = same_feeder now;
  turns = record {
    turns = [];
    came = [];
    makes = no_turns feeding_kind (asked_by now) now.reader.k now.standing a unclosed ready.cursor;
    heard = hears_nothing now.replies;
  };
}

pub course_goes_on : (law : RowsStay) (old mid new : Feeder) (a b c : Situation) → KeepsCourse old mid a b
    → IsSamePass b.moment.pass c.moment.pass → IsNotClosed c.moment.link → IsSameFeeder mid new
    → MakesTurns (asked_by mid) mid.reader.k mid.standing new.standing b c mid.replies new.replies
    → KeepsCourse old new a c
course_goes_on law old mid new a b c keeps same unclosed same_new turns =
    let here : MakesTurns (asked_by old) old.reader.k mid.standing new.standing b c mid.replies new.replies =
    subst (λ (r : Reader). MakesTurns (asked_by old) r.k mid.standing new.standing b c mid.replies new.replies)
    keeps.same_feeder.reader
    (subst (λ (x : Asked). MakesTurns x mid.reader.k mid.standing new.standing b c mid.replies new.replies)
    keeps.same_feeder.asked turns) in
    record {
      same = same_then a.moment.pass b.moment.pass c.moment.pass keeps.same same;
      unclosed = unclosed;
      same_feeder = same_feeder_then old mid new keeps.same_feeder same_new;
      turns =
          turns_then law (asked_by old) old.reader.k old.standing mid.standing new.standing a b c old.replies
          mid.replies
          new.replies keeps.turns here;
    }

pub course_ends : (law : RowsStay) (why : SendEnd) (old mid : Feeder) (a b c : Situation) → KeepsCourse old mid a b
    → EndsTurns why (asked_by mid) mid.reader.k mid.standing b c mid.replies
    → EndsTurns why (asked_by old) old.reader.k old.standing a c old.replies
course_ends law why old mid a b c keeps ends =
    let here : EndsTurns why (asked_by old) old.reader.k mid.standing b c mid.replies =
    subst (λ (r : Reader). EndsTurns why (asked_by old) r.k mid.standing b c mid.replies) keeps.same_feeder.reader
    (subst (λ (x : Asked). EndsTurns why x mid.reader.k mid.standing b c mid.replies) keeps.same_feeder.asked ends) in
    turns_end law why (asked_by old) old.reader.k old.standing mid.standing a b c old.replies mid.replies keeps.turns
    here
