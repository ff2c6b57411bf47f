-- One turn: a step of the cursor, and what follows it.
use Rattle.std.proofs.Common.{◌≡◌, ℕ, List, [], ◌∷◌, Bool, true, false, inl, inr, refl, sym, ap, subst, append-nil}
use Rattle.std.specs.Prelude.{Result, Ok, Err}
use Rattle.ldm_outside.specs.Link.{IsNotClosed}
use Rattle.ldm_rpc.specs.Streams.{Placed}
use Rattle.ldm_shared.specs.Passes.{PassView, Makes}
use Rattle.ldm_session.specs.declared.replies.Replies.{Replies}
use Rattle.ldm_session.specs.Owed.{Code}
use Rattle.ldm_sender.specs.declared.end.SendEnd.{SendEnd}
use Rattle.ldm_sender.specs.declared.end.SendEnd.TheVariants as end
use Rattle.ldm_sender.specs.declared.standing.Standing.{Standing}
use Rattle.ldm_sender.specs.Asked.{Asked}
use Rattle.ldm_sender.specs.Calls.{stepped}
use Rattle.ldm_sender.specs.Does.{SendingMoment}
use Rattle.ldm_sender.specs.Stopping.{KeepsCursor}
use Rattle.ldm_sender.specs.Acts.{Situation, situation_of, ungated, EndsAct, is_whole}
use Rattle.ldm_sender.specs.Course.{IsRowIn, course_act}
use Rattle.ldm_sender.specs.Ending.{AwaitsNone, StopsTurns}
use Rattle.ldm_sender.proofs.Acting.{acts_of, breaks_act_of, acts_then, acts_break}
use Rattle.ldm_sender.proofs.Opened.{IsCut}
use Rattle.ldm_sender.proofs.Steps.{RowsStay, none_in_front, silent_part}
use Rattle.ldm_sender.proofs.Stepping.{StepsBy, StepsOff, StepsOn, cut_last, gave, gave_ended, step_of, with_pass}
use Rattle.ldm_sender.proofs.Turning.{one_row}
use Rattle.ldm_upstream.specs.Turn.{Given, Declined, Gave, given_reply, after_handling, handling_codes, feeding_kind}
use Rattle.ldm_upstream.specs.Feeding.{GoesOn, Unanswered}
use Rattle.ldm_upstream.specs.ProductDeeds.{handling_deed}
use Rattle.ldm_upstream.specs.Heard.{HearsOn, HearsLast, IsBehind}
use Rattle.ldm_upstream.specs.Offering.{EndsDeed, StopsOffer, IsUnanswered, EndsHandlingBy}
use Rattle.ldm_upstream.specs.Offering.{Handles}
use Rattle.ldm_upstream.specs.Turns.{after_turns}
use Rattle.ldm_upstream.specs.Course.{IsLastOf, MakesTurns, EndsTurns, TurnsBy}
use Rattle.ldm_upstream.proofs.Offers.{heard_last}
use Rattle.ldm_upstream.proofs.Turning.{feeding_lawful, hears_nothing, no_codes}

-- ---- no product was given

pub any_behind : (why : SendEnd) → AwaitsNone why → (next : ℕ) (given : List ℕ) (behind : List Placed)
    → IsBehind why next given behind
any_behind (end.PeerEnd at) none next given behind = absurd none
any_behind (end.BadReply at) none next given behind = absurd none
any_behind end.Stopped none next given behind = tt
any_behind end.Reclassed none next given behind = tt
any_behind (end.Denied rule) none next given behind = tt
any_behind end.LinkFault none next given behind = tt
any_behind end.LogFault none next given behind = tt
any_behind end.AllBusy none next given behind = tt
any_behind end.Worn none next given behind = tt
any_behind end.OutOfMemory none next given behind = tt

-- nothing is heard then
pub steps_on : (asked : Asked) (k : ℕ) (s s' : Standing) (old new : Situation) (r : Replies)
    → StepsOn feeding_kind asked k s s' old new → MakesTurns asked k s s' old new r r
steps_on asked k s s' old new r steps = record {
  turns = steps.turns;
  came = [];
  makes = steps.makes;
  heard = subst (λ (x : List Code). HearsOn [] x r r) (sym (no_codes s steps.turns steps.none)) (hears_nothing r);
}

pub steps_off : (why : SendEnd) (asked : Asked) (k : ℕ) (s : Standing) (old new : Situation) (r : Replies)
    → StepsOff feeding_kind why asked k s old new → EndsTurns why asked k s old new r
steps_off why asked k s old new r steps =
    let turns = steps.course.turns in
    let next = (after_turns s turns).next in
    record {
      course = steps.course;
      came = [];
      ends = steps.ends;
      heard =
          subst (λ (x : List Code). HearsLast why next [] x r)
          (sym (no_codes s turns (none_in_front _ _ steps.none)))
          (heard_last why next [] [] r r (any_behind why steps.awaits next) (hears_nothing r));
    }

pub steps_by : (result : Result (Unit {0}) SendEnd) (asked : Asked) (k : ℕ) (s s' : Standing) (old new : Situation)
    (r : Replies) → StepsBy result feeding_kind asked k s s' old new → TurnsBy result asked k s s' old new r r
steps_by (Ok done) asked k s s' old new r steps = steps_on asked k s s' old new r steps
steps_by (Err why) asked k s s' old new r steps = steps_off why asked k s old new r steps

-- ---- a product

offer_to_turns : (why : SendEnd) (a : Situation) (old : PassView) (new : SendingMoment)
    → StopsOffer why (with_pass a old).moment new → StopsTurns why a (situation_of new a.log a.gate)
offer_to_turns (end.PeerEnd at) a old new cause = cause
offer_to_turns (end.BadReply at) a old new cause = tt
offer_to_turns end.LinkFault a old new cause = cause
offer_to_turns end.Worn a old new cause = cause
offer_to_turns end.OutOfMemory a old new cause = tt
offer_to_turns end.Stopped a old new cause = absurd cause
offer_to_turns end.Reclassed a old new cause = absurd cause
offer_to_turns (end.Denied rule) a old new cause = absurd cause
offer_to_turns end.LogFault a old new cause = absurd cause
offer_to_turns end.AllBusy a old new cause = absurd cause

module _ (asked : Asked) (k : ℕ) (given : Given) (s : Standing) (a : Situation) (old : PassView) (new : SendingMoment)
    (r : Replies) (law : RowsStay) (row : IsRowIn feeding_kind old given) (unclosed : IsNotClosed a.moment.link)
    (makes : Makes a.moment.pass old (stepped a.moment.pass.actor k (given_reply given) ∷ [])) where
  -- it was announced, or that broke off
  unanswered_act : (whole : Bool) (why : SendEnd) (at : ℕ) (came : List ℕ)
      → EndsDeed whole came (with_pass a old).moment new
      (handling_deed a.moment.pass.actor k s.next given (Declined at))
      → EndsAct whole why asked.host came a (situation_of new a.log a.gate)
      (course_act feeding_kind a.moment.pass.actor k s (record { turns = []; last = Unanswered given at }))
  unanswered_act true why at came does =
      let deed = handling_deed a.moment.pass.actor k s.next given (Declined at) in
      let step = step_of asked k (given_reply given) a old refl makes unclosed in
      acts_then asked.host [] came a (with_pass a old) (situation_of new a.log a.gate) _ (ungated deed) step
      (acts_of asked.host came (with_pass a old).moment new a.log a.gate deed refl does)
  unanswered_act false why at came breaks =
      let deed = handling_deed a.moment.pass.actor k s.next given (Declined at) in
      let step = step_of asked k (given_reply given) a old refl makes unclosed in
      let quiet = silent_part asked.host breaks.called [] breaks.called_part refl in
      acts_break why asked.host [] came a (with_pass a old) (situation_of new a.log a.gate) _ (ungated deed) step
      (breaks_act_of why asked.host came (with_pass a old).moment new a.log a.gate deed breaks quiet tt)

  -- no reply came
  gave_unanswered : (why : SendEnd) → (ended : IsUnanswered why asked k given s (with_pass a old).moment new r)
      → IsLastOf why (Unanswered given ended.at) → StopsOffer why (with_pass a old).moment new
      → KeepsCursor why new.pass k → EndsTurns why asked k s a (situation_of new a.log a.gate) r
  gave_unanswered why ended last cause cursor =
      let same : old.actor ≡ a.moment.pass.actor = ap (λ (p : PassView). p.actor) makes.same in
      record {
        course = record { turns = []; last = Unanswered given ended.at };
        came = ended.came;
        ends = record {
          are_turns = tt;
          is_last = ended.is_last;
          last_of_end = last;
          ends =
              unanswered_act (is_whole why) why ended.at ended.came
              (subst (λ (n : ℕ). EndsDeed (is_whole why) ended.came (with_pass a old).moment new
              (handling_deed n k s.next given (Declined ended.at))) same ended.ends);
          all_sent = ended.all_sent;
          cause = offer_to_turns why a old new cause;
          cursor = cursor;
          rows = one_row feeding_kind new.pass given
              (subst (λ (p : PassView). IsRowIn feeding_kind p given) (sym ended.same) row);
        };
        heard = ended.heard;
      }

  -- it broke off, in its announcement or behind it
  gave_partly : (why : SendEnd) → IsCut why → EndsHandlingBy false why asked k given s (with_pass a old).moment new r
      → StopsOffer why (with_pass a old).moment new → KeepsCursor why new.pass k
      → EndsTurns why asked k s a (situation_of new a.log a.gate) r
  gave_partly why cut (inl ended) cause cursor =
      gave_unanswered why ended (cut_last why cut (Unanswered given ended.at)) cause cursor
  gave_partly why cut (inr ended) cause cursor = record {
    course = record { turns = Gave given ended.handling ∷ []; last = GoesOn };
    came = ended.came;
    ends =
        gave_ended feeding_kind asked k s a feeding_lawful given ended.handling law ended.came old new row unclosed makes
        ended.is_handled why cut ended.breaks (offer_to_turns why a old new cause) cursor;
    heard =
        subst (λ (x : List Code). HearsLast why (after_handling s given ended.handling).next ended.came x r)
        (sym (append-nil (handling_codes s.next ended.handling)))
        ended.heard;
  }

  gave_off : (why : SendEnd) → EndsHandlingBy (is_whole why) why asked k given s (with_pass a old).moment new r
      → StopsOffer why (with_pass a old).moment new → KeepsCursor why new.pass k
      → EndsTurns why asked k s a (situation_of new a.log a.gate) r
  gave_off (end.PeerEnd place) ended cause cursor =
      gave_unanswered (end.PeerEnd place) ended (given, ended.at, refl) cause cursor
  gave_off (end.BadReply place) ended cause cursor =
      gave_unanswered (end.BadReply place) ended (given, ended.at, refl) cause cursor
  gave_off end.LinkFault ended cause cursor = gave_partly end.LinkFault tt ended cause cursor
  gave_off end.Worn ended cause cursor = gave_partly end.Worn tt ended cause cursor
  gave_off end.OutOfMemory ended cause cursor = gave_partly end.OutOfMemory tt ended cause cursor
  gave_off end.Stopped ended cause cursor = absurd cause
  gave_off end.Reclassed ended cause cursor = absurd cause
  gave_off (end.Denied rule) ended cause cursor = absurd cause
  gave_off end.LogFault ended cause cursor = absurd cause
  gave_off end.AllBusy ended cause cursor = absurd cause

  pub gave_by : (result : Result (Unit {0}) SendEnd) (s' : Standing) (r' : Replies)
      → Handles result asked k given s s' (with_pass a old).moment new r r'
      → TurnsBy result asked k s s' a (situation_of new a.log a.gate) r r'
  gave_by (Ok done) s' r' handled = record {
    turns = Gave given handled.handling ∷ [];
    came = handled.came;
    makes =
        gave feeding_kind asked k s a feeding_lawful given handled.handling law handled.came old new row unclosed makes
        handled.is_handled s' handled.does handled.stands handled.cursor;
    heard =
        subst (λ (x : List Code). HearsOn handled.came x r r')
        (sym (append-nil (handling_codes s.next handled.handling))) handled.heard;
  }
  gave_by (Err why) s' r' ended = gave_off why ended.ends ended.cause ended.cursor
