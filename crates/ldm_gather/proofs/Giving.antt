-- What a cursor gave over a whole gathering: of which calls, piece by piece.
use Rattle.std.proofs.Common.{◌≡◌, ◌∙◌, ℕ, false, List, [], ◌∷◌, ◌++◌, map, Option, Some, None, inl, inr, ◌⊎◌, refl, sym, ap, subst}
use Rattle.std.proofs.lemmas.List.{append-nil, map-append}
use Rattle.std.proofs.lemmas.List.Concat.{flat_map-append}
use Rattle.ldm_model.specs.declared.event.Event.{Event}
use Rattle.ldm_model.specs.declared.event.Event.TheVariants as event
use Rattle.ldm_model.specs.declared.event.Reply.{Reply}
use Rattle.ldm_model.specs.declared.event.Reply.TheVariants as reply
use Rattle.ldm_model.specs.declared.event.Entry.{Entry}
use Rattle.ldm_shared.specs.Passes.{PassView}
use Rattle.ldm_shared.proofs.Made.{calls_none, calls_trans}
use Rattle.ldm_shared.specs.Givens.{Gave, Lost, Turn, products_of, turn_reply}
use Rattle.ldm_shared.specs.Uses.{AreRows, AreUses, Uses, answer_by, step_answers}
use Rattle.ldm_shared.proofs.Using.{RowsStay, rows_then}
use Rattle.ldm_intake.specs.declared.end.RecvEnd.{RecvEnd}
use Rattle.ldm_intake.specs.TakesRecord.{stands}
use Rattle.ldm_downstream.specs.Pieces.{Piece}
use Rattle.ldm_downstream.specs.Pushing.{ClosesIf, EndsAt, PushesAt}
use Rattle.ldm_downstream.specs.Received.{at_stream_end}
use Rattle.ldm_downstream.specs.ReceiverView.{ReceiverView}
use Rattle.ldm_gather.specs.declared.end.Handled.{Handled}
use Rattle.ldm_gather.specs.EachCourse.{AreCallsOf, Gives, told, told_by}
use Rattle.ldm_gather.specs.Gathering.{Comes, GoesOn}
use Rattle.ldm_gather.specs.Quiet.{AreQuiet, CallsQuietly, IsQuiet}
use Rattle.ldm_gather.specs.Scene.{GatherMoment, Scene}
use Rattle.ldm_gather.proofs.Cursors.{closes-quiet, pushes-quiet}

-- ---- calls and answers

calls-append : (k : ℕ) (first second : List Entry) → AreCallsOf k first → AreCallsOf k second → AreCallsOf k (first ++ second)
calls-append k [] second one two = two
calls-append k (entry ∷ first) second one two = (one.0, calls-append k first second one.1 two)

uses-calls : (k : ℕ) (called : List Entry) → AreUses k called → AreCallsOf k called
uses-calls k [] uses = tt
uses-calls k (entry ∷ called) uses = (inr uses.0, uses-calls k called uses.1)

quiet-calls : (k : ℕ) (made : List Entry) → AreQuiet made → AreCallsOf k made
quiet-calls k [] quiet = tt
quiet-calls k (entry ∷ made) quiet = (inl quiet.0, quiet-calls k made quiet.1)

quiet-answer : (e : Event) (answer : Reply) → IsQuiet e → answer_by e answer ≡ []
quiet-answer (event.Step at) answer quiet = absurd (cc quiet)
quiet-answer _ answer quiet = refl

quiet-answers : (made : List Entry) → AreQuiet made → step_answers made ≡ []
quiet-answers [] quiet = refl
quiet-answers (entry ∷ made) quiet =
    ap (λ (xs : List Reply). xs ++ step_answers made) (quiet-answer entry.event entry.reply quiet.0) ∙ quiet-answers made quiet.1

told-turn : (turn : Turn) → told_by (turn_reply turn) ≡ turn_reply turn ∷ []
told-turn (Lost count first last) = refl
told-turn (Gave given) = refl

pub told-turns : (turns : List Turn) → told (map turn_reply turns) ≡ map turn_reply turns
told-turns [] = refl
told-turns (turn ∷ turns) =
    ap (λ (xs : List Reply). xs ++ told (map turn_reply turns)) (told-turn turn) ∙ ap (λ (xs : List Reply). turn_reply turn ∷ xs) (told-turns turns)

pub told-end : (turns : List Turn) (at : ℕ) → told (map turn_reply turns ++ reply.End at ∷ []) ≡ map turn_reply turns
told-end turns at = flat_map-append told_by (map turn_reply turns) (reply.End at ∷ []) ∙ (append-nil (told (map turn_reply turns)) ∙ told-turns turns)

pub told-none : (turns : List Turn) → told (map turn_reply turns ++ []) ≡ map turn_reply turns
told-none turns = ap told (append-nil (map turn_reply turns)) ∙ told-turns turns

-- ---- what was given, one after another

pub gives-quiet : (k : ℕ) (old new : PassView) → CallsQuietly old new → Gives k [] old new
gives-quiet k old new quietly = record {
  called = quietly.made;
  calls = quietly.calls;
  are_calls = quiet-calls k quietly.made quietly.quiet;
  answered = ap told (quiet-answers quietly.made quietly.quiet);
  rows = tt;
}

pub gives-then : (law : RowsStay) (k : ℕ) (first second : List Turn) (a b c : PassView) → Gives k first a b → Gives k second b c → Gives k (first ++ second) a c
gives-then law k first second a b c one two = record {
  called = one.called ++ two.called;
  calls = calls_trans a b c one.called two.called one.calls two.calls;
  are_calls = calls-append k one.called two.called one.are_calls two.are_calls;
  answered =
      ap told (flat_map-append (λ (entry : Entry). answer_by entry.event entry.reply) one.called two.called)
      ∙ (flat_map-append told_by (step_answers one.called) (step_answers two.called)
      ∙ (ap (λ (xs : List Reply). xs ++ told (step_answers two.called)) one.answered ∙ (ap (λ (xs : List Reply). map turn_reply first ++ xs) two.answered
      ∙ sym (map-append turn_reply first second))));
  rows = rows_then law b c two.called first second two.calls one.rows two.rows;
}

pub gives-uses : (k : ℕ) (turns : List Turn) (answers : List Reply) (old new : PassView) → Uses k old new answers → told answers ≡ map turn_reply turns → AreRows new (products_of turns)
    → Gives k turns old new
gives-uses k turns answers old new uses is rows = record {
  called = uses.called;
  calls = uses.calls;
  are_calls = uses-calls k uses.called uses.are_uses;
  answered = ap told uses.answered ∙ is;
  rows = rows;
}

-- ---- what calls the queue about no cursor

pub quiet-none : (pass : PassView) → CallsQuietly pass pass
quiet-none pass = record { made = []; calls = calls_none pass; quiet = tt }

pub closes-none : (e : RecvEnd) (receiver : ReceiverView) (pass after : PassView) → receiver.end ≡ None → EndsAt receiver.end e receiver pass after → CallsQuietly pass after
closes-none e receiver pass after live ends = by_close at_end.1
  where
    at_end : EndsAt None e receiver pass after
    at_end = subst (λ (o : Option RecvEnd). EndsAt o e receiver pass after) live ends

    by_close : ClosesIf false (at_stream_end receiver.hand receiver.receiving) e receiver.receiving at_end.0 pass after → CallsQuietly pass after
    by_close (inl closed) = closes-quiet receiver.receiving at_end.0 pass after closed.1
    by_close (inr kept) = record { made = []; calls = kept.1.calls; quiet = tt }

module _ {W A B : Type 0} where
  -- what was pushed calls the queue about no cursor
  pub comes-quiet : (piece : Piece) (out notes : List ℕ) (old pushed : GatherMoment W A B) → old.receiver.end ≡ None → Comes piece out notes old pushed → CallsQuietly old.scene.pass pushed.scene.pass
  comes-quiet piece out notes old pushed live comes =
      let before = stands old.receiver.receiving old.scene.pass [] [] in
      let after = stands pushed.receiver.receiving pushed.scene.pass out notes in
      let at : PushesAt None piece old.receiver pushed.receiver before after =
      subst (λ (e : Option RecvEnd). PushesAt e piece old.receiver pushed.receiver before after) live comes.pushes in
      pushes-quiet pushed.receiver.end piece old.receiver.hand pushed.receiver.hand before after at.0

  -- the receiver is not over behind pieces at which it goes on
  pub live-at : (handles : Handled → Scene W A B → Scene W A B → Type 0) (pieces : List Piece) (old new : GatherMoment W A B) → old.receiver.end ≡ None
      → GoesOn handles pieces old new → new.receiver.end ≡ None
  live-at handles [] old new live goes = ap (λ (m : GatherMoment W A B). m.receiver.end) goes ∙ live
  live-at handles (piece ∷ pieces) old new live goes = live-at handles pieces goes.0 new goes.1.live goes.2
