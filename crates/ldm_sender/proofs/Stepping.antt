-- One turn: a step of the cursor, and what follows it.
use Rattle.std.proofs.Common.{◌≡◌, ◌∙◌, ℕ, ◌≤◌, List, [], ◌∷◌, ◌++◌, Bool, None, inl, inr, refl, sym, ap}
use Rattle.std.proofs.Common.{subst, arith, append-nil}
use Rattle.std.specs.Prelude.{Result, Ok, Err}
use Rattle.ldm_model.specs.declared.event.Reply.{Reply}
use Rattle.ldm_model.specs.declared.event.Reply.TheVariants as reply
use Rattle.ldm_outside.specs.Io.{SinkRecord, Takes, WritesFront}
use Rattle.ldm_outside.specs.Link.{IsNotClosed}
use Rattle.ldm_outside.specs.Count.{Rose}
use Rattle.ldm_outside.proofs.CallerLemmas.{Takes-nothing}
use Rattle.ldm_model.specs.declared.event.Entry.{Entry}
use Rattle.ldm_shared.specs.Passes.{PassView, Makes, FindsWorn}
use Rattle.ldm_shared.proofs.Made.{calls_some}
use Rattle.ldm_shared.specs.Reader.{HasCursor}
use Rattle.ldm_session.specs.Gaps.{gap_line, gap_log}
use Rattle.ldm_session.proofs.CallerLemmas.{AnsweredAll-nothing, gap_log-append}
use Rattle.ldm_sender.specs.declared.end.SendEnd.{SendEnd}
use Rattle.ldm_sender.specs.declared.end.SendEnd.TheVariants as end
use Rattle.ldm_sender.specs.declared.standing.Standing.{Standing}
use Rattle.ldm_sender.specs.Asked.{Asked}
use Rattle.ldm_sender.specs.Calls.{MayBeUnmade, stepped}
use Rattle.ldm_sender.specs.Deeds.{Deed, records_of}
use Rattle.ldm_sender.specs.Does.{SendingMoment, moment_of, Does, Breaks, Each}
use Rattle.ldm_sender.specs.Acts.{Situation, situation_of, Acts, then_act, ungated, BreaksAct, EndsAct, IsAllSent}
use Rattle.ldm_sender.specs.Idling.{quiet_act, alive_act, stop_act, EndsIdle, Idles}
use Rattle.ldm_sender.specs.Stopping.{KeepsCursor}
use Rattle.ldm_sender.specs.Ending.{AwaitsNone, StopsTurns}
use Rattle.ldm_sender.specs.Turn.{Kind, Turn, Lost, Gave, Quiet, Alive, given_reply, let_go}
use Rattle.ldm_sender.specs.Turns.{given_in_turns}
use Rattle.ldm_sender.specs.Handling.{product_deed}
use Rattle.ldm_sender.specs.Sending.{Last, GoesOn, Stopped}
use Rattle.ldm_sender.specs.Course.{Course, turns_act, course_act, course_given, IsLastOf, IsRowIn, MakesTurns, EndsTurns}
use Rattle.ldm_sender.proofs.Acting.{deed_is, act_is, acts_same, breaks_same, acts_of, breaks_act_of, acts_then}
use Rattle.ldm_sender.proofs.Acting.{acts_break}
use Rattle.ldm_sender.proofs.Doing.{exchanged_nothing, keeps_link}
use Rattle.ldm_sender.proofs.Fronts.{each_then}
use Rattle.ldm_sender.proofs.Opened.{IsCut, cut_is}
use Rattle.ldm_sender.proofs.Steps.{RowsStay, one_call, one_line, silent_part, step_act, stepped_acts, then_act-none}
use Rattle.ldm_sender.proofs.Turning.{IsLawful, no_rows, one_row}

-- Turns were made in which no product was given.
pub record StepsOn {P H : Type 0} (kind : Kind P H) (asked : Asked) (k : ℕ) (standing standing' : Standing)
    (old new : Situation) : Type 0 where
  pub turns : List (Turn P H)
  pub none : given_in_turns turns ≡ []
  pub makes : MakesTurns kind asked k standing standing' turns [] old new

-- And then they ended.
pub record StepsOff {P H : Type 0} (kind : Kind P H) (why : SendEnd) (asked : Asked) (k : ℕ) (standing : Standing)
    (old new : Situation) : Type 0 where
  pub course : Course P H
  pub none : course_given course ≡ []
  pub awaits : AwaitsNone why
  pub ends : EndsTurns kind why asked k standing course [] old new

abbrev pub StepsBy : {P H : Type 0} → Result (Unit {0}) SendEnd → Kind P H → Asked → ℕ
    → (standing standing' : Standing) → (old new : Situation) → Type 0
StepsBy (Ok done) kind asked k standing standing' old new = StepsOn kind asked k standing standing' old new
StepsBy (Err why) kind asked k standing standing' old new = StepsOff kind why asked k standing old new

-- the situation, once the pass made calls
abbrev pub with_pass : Situation → PassView → Situation
with_pass now pass = situation_of (moment_of pass now.moment.link now.moment.clock now.moment.out) now.log now.gate

-- and the log was written to
abbrev pub with_log : Situation → PassView → SinkRecord → Situation
with_log now pass log = situation_of (moment_of pass now.moment.link now.moment.clock now.moment.out) log now.gate

-- at an end at which something was not made or sent the last turn is any
pub cut_last : {P : Type 0} → (why : SendEnd) → IsCut why → (last : Last P) → IsLastOf why last
cut_last end.LinkFault cut last = tt
cut_last end.Worn cut last = tt
cut_last end.OutOfMemory cut last = tt
cut_last end.Stopped cut last = absurd cut
cut_last end.Reclassed cut last = absurd cut
cut_last (end.Denied rule) cut last = absurd cut
cut_last (end.PeerEnd place) cut last = absurd cut
cut_last end.LogFault cut last = absurd cut
cut_last (end.BadReply place) cut last = absurd cut
cut_last end.AllBusy cut last = absurd cut

-- a step, at which nothing is told that was lost
pub step_of : (asked : Asked) (k : ℕ) (answer : Reply) (a : Situation) (old : PassView)
    → gap_log asked.host (stepped a.moment.pass.actor k answer ∷ []) ≡ []
    → Makes a.moment.pass old (stepped a.moment.pass.actor k answer ∷ []) → IsNotClosed a.moment.link
    → Acts asked.host [] a (with_pass a old) (step_act a.moment.pass.actor k answer)
step_of asked k answer a old = stepped_acts asked.host a.moment.pass old k answer a.moment.link a.moment.clock
    a.moment.out a.log a.gate

module _ {P H : Type 0} (kind : Kind P H) (asked : Asked) (k : ℕ) (s : Standing) (a : Situation) where
  -- ---- a loss

  pub lost : (host : List ℕ) (count first last : ℕ) (new : PassView) (log' : SinkRecord) → asked.host ≡ host
      → Makes a.moment.pass new (stepped a.moment.pass.actor k (reply.Gap count first last) ∷ [])
      → IsNotClosed a.moment.link → HasCursor new k None
      → a.log.faults ≤ log'.faults → Takes a.log (gap_line host count first last) log'
      → StepsOn kind asked k s s a (with_log a new log')
  lost host count first last new log' is makes unclosed cursor faults takes =
      let m = a.moment in
      record {
        turns = Lost count first last ∷ [];
        none = refl;
        makes = record {
          are_turns = (tt, tt);
          acts = record {
            does = one_call m.pass new m.link m.clock m.out (stepped m.pass.actor k (reply.Gap count first last)) makes
                unclosed;
            logged = subst (λ (x : List ℕ). Takes a.log x log') (one_line asked host count first last is) takes;
            idled = refl;
            beside = record { log = faults; stops = omega arith };
          };
          stands = refl;
          cursor = cursor;
          rows = no_rows kind new;
        };
      }

  pub lost_unlogged : (host : List ℕ) (count first last : ℕ) (new : PassView) (log' : SinkRecord) → asked.host ≡ host
      → Makes a.moment.pass new (stepped a.moment.pass.actor k (reply.Gap count first last) ∷ [])
      → IsNotClosed a.moment.link → HasCursor new k None → a.log.faults ≤ log'.faults → Rose a.log.faults log'.faults
      → WritesFront a.log (gap_line host count first last) log'
      → StepsOff kind end.LogFault asked k s a (with_log a new log')
  lost_unlogged host count first last new log' is makes unclosed cursor faults rose front =
      let m = a.moment in
      let entry = stepped m.pass.actor k (reply.Gap count first last) in
      record {
        course = record { turns = Lost count first last ∷ []; last = GoesOn };
        none = refl;
        awaits = tt;
        ends = record {
          are_turns = (tt, tt);
          is_last = tt;
          last_of_end = tt;
          ends = record {
            breaks = record {
              called = entry ∷ [];
              calls = calls_some m.pass new (entry ∷ []) makes;
              called_part = ([], refl);
              sent = [];
              exchanged = exchanged_nothing m.link;
              sent_part = (m.out ++ [], refl);
              instants = [];
              answered = AnsweredAll-nothing m.clock;
              instants_part = ([], refl);
              link = keeps_link m.link unclosed;
            };
            unmade = ([], refl, tt);
            logged = subst (λ (x : List ℕ). WritesFront a.log x log') (one_line asked host count first last is) front;
            goes = [];
            idled = refl;
            goes_part = ([], refl, tt);
            beside = record { log = faults; stops = omega arith };
          };
          all_sent = tt;
          cause = rose;
          cursor = (None, cursor);
          rows = no_rows kind new;
        };
      }

  -- ---- no step could be made

  pub unstepped : (turns : ℕ) (new : PassView) → IsNotClosed a.moment.link → FindsWorn a.moment.pass new turns
      → StepsOff kind end.Worn asked k s a (with_pass a new)
  unstepped turns new unclosed worn =
      let m = a.moment in
      record {
        course = record { turns = []; last = GoesOn };
        none = refl;
        awaits = tt;
        ends = record {
          are_turns = tt;
          is_last = tt;
          last_of_end = tt;
          ends = record {
            breaks = record {
              called = [];
              calls = calls_some m.pass new [] worn.makes;
              called_part = ([], refl);
              sent = [];
              exchanged = exchanged_nothing m.link;
              sent_part = (m.out ++ [], refl);
              instants = [];
              answered = AnsweredAll-nothing m.clock;
              instants_part = ([], refl);
              link = keeps_link m.link unclosed;
            };
            unmade = ([], refl, tt);
            logged = ([], [], refl, nothing_taken a.log);
            goes = [];
            idled = refl;
            goes_part = ([], refl, tt);
            beside = record { log = omega arith; stops = omega arith };
          };
          all_sent = tt;
          cause = worn.long ∙ worn.turns_are;
          cursor = tt;
          rows = no_rows kind new;
        };
      }
    where
      nothing_taken : (log : SinkRecord) → Takes log [] log
      nothing_taken log = Takes-nothing log log refl

  -- ---- the end of the queue

  module _ (at : ℕ) (old : PassView) (c : Situation) (unclosed : IsNotClosed a.moment.link)
      (cursor : HasCursor c.moment.pass k None)
      (makes : Makes a.moment.pass old (stepped a.moment.pass.actor k (reply.End at) ∷ [])) where
    abbrev ended_step : Acts asked.host [] a (with_pass a old) (step_act a.moment.pass.actor k (reply.End at))
    ended_step = step_of asked k (reply.End at) a old refl makes unclosed

    idle_ended : (why : SendEnd) → EndsIdle why asked.host s (with_pass a old) c → StepsOff kind why asked k s a c
    idle_ended end.Stopped ends = record {
      course = record { turns = []; last = Stopped at };
      none = refl;
      awaits = tt;
      ends = record {
        are_turns = tt;
        is_last = tt;
        last_of_end = (at, refl);
        ends = acts_then asked.host [] [] a (with_pass a old) c _ stop_act ended_step ends.0;
        all_sent = ends.2;
        cause = ends.1;
        cursor = (None, cursor);
        rows = no_rows kind c.moment.pass;
      };
    }
    idle_ended end.LinkFault ends = record {
      course = record { turns = []; last = Stopped at };
      none = refl;
      awaits = tt;
      ends = record {
        are_turns = tt;
        is_last = tt;
        last_of_end = tt;
        ends = acts_break end.LinkFault asked.host [] [] a (with_pass a old) c _ stop_act ended_step ends.0;
        all_sent = tt;
        cause = ends.1;
        cursor = (None, cursor);
        rows = no_rows kind c.moment.pass;
      };
    }
    idle_ended end.OutOfMemory ends =
        let both = acts_break end.OutOfMemory asked.host [] [] a (with_pass a old) c _ (alive_act s.next ends.now 0)
        ended_step ends.breaks in
        let turns = turns_act kind a.moment.pass.actor k s (Alive at ends.now 0 ∷ []) in
        record {
          course = record { turns = Alive at ends.now 0 ∷ []; last = GoesOn };
          none = refl;
          awaits = tt;
          ends = record {
            are_turns = (ends.silent, tt);
            is_last = tt;
            last_of_end = tt;
            ends = breaks_same end.OutOfMemory asked.host [] a c _ _ (sym (then_act-none turns)) both;
            all_sent = tt;
            cause = tt;
            cursor = (None, cursor);
            rows = no_rows kind c.moment.pass;
          };
        }
    idle_ended end.Reclassed ends = absurd ends
    idle_ended (end.Denied rule) ends = absurd ends
    idle_ended (end.PeerEnd place) ends = absurd ends
    idle_ended end.LogFault ends = absurd ends
    idle_ended (end.BadReply place) ends = absurd ends
    idle_ended end.AllBusy ends = absurd ends
    idle_ended end.Worn ends = absurd ends

    pub idle_by : (result : Result (Unit {0}) SendEnd) (s' : Standing)
        → Idles result asked.host s s' (with_pass a old) c → StepsBy result kind asked k s s' a c
    idle_by (Ok done) s' (inl quiet) = record {
      turns = Quiet at quiet.now ∷ [];
      none = refl;
      makes = record {
        are_turns = (quiet.not_silent, tt);
        acts = acts_then asked.host [] [] a (with_pass a old) c _ (quiet_act quiet.now) ended_step quiet.acts;
        stands = quiet.stands;
        cursor = cursor;
        rows = no_rows kind c.moment.pass;
      };
    }
    idle_by (Ok done) s' (inr alive) = record {
      turns = Alive at alive.now s'.sent_at ∷ [];
      none = refl;
      makes = record {
        are_turns = (alive.silent, tt);
        acts = acts_then asked.host [] [] a (with_pass a old) c _ (alive_act s.next alive.now s'.sent_at) ended_step
            alive.acts;
        stands = ap (λ (n : ℕ). record s' { next = n }) alive.next;
        cursor = cursor;
        rows = no_rows kind c.moment.pass;
      };
    }
    idle_by (Err why) s' ends = idle_ended why ends

  -- ---- a product

  module _ (lawful : IsLawful kind) (given : P) (handling : H) where
    abbrev in_product : ℕ → List Entry
    in_product actor = kind.entries actor k given handling ++ let_go actor k (kind.row given) ∷ []

    -- what is done with it tells no loss, and may be left out
    silent_product : (actor : ℕ) → gap_log asked.host (in_product actor) ≡ []
    silent_product actor =
        gap_log-append asked.host (kind.entries actor k given handling) (let_go actor k (kind.row given) ∷ [])
        ∙ ap (λ (x : List ℕ). x ++ []) (lawful.silent asked.host actor k given handling)

    unmade_product : (actor : ℕ) → Each MayBeUnmade (in_product actor)
    unmade_product actor = each_then MayBeUnmade (kind.entries actor k given handling)
        (let_go actor k (kind.row given) ∷ []) (lawful.unmade actor k given handling) (tt, tt)

    -- the step, and what is done with the product
    gave_act : (actor : ℕ)
        → then_act (step_act actor k (given_reply (kind.row given)))
        (ungated (product_deed kind actor k s.next given handling))
        ≡ turns_act kind actor k s (Gave given handling ∷ [])
    gave_act actor =
        let messages = kind.messages s.next given handling in
        act_is _ _ _ _
        (deed_is _ _ _ _ _ _
        (ap (λ (x : List Entry). stepped actor k (given_reply (kind.row given)) ∷ x)
        (sym (append-nil (in_product actor))))
        (append-nil (records_of messages) ∙ ap records_of (sym (append-nil messages)))
        refl)
        refl

    module _ (law : RowsStay) (came : List ℕ) (old : PassView) (new : SendingMoment) (row : IsRowIn kind old given)
        (unclosed : IsNotClosed a.moment.link)
        (makes : Makes a.moment.pass old (stepped a.moment.pass.actor k (given_reply (kind.row given)) ∷ []))
        (is_handled : kind.IsHandled asked given handling) where
      abbrev gave_step : Acts asked.host [] a (with_pass a old)
          (step_act a.moment.pass.actor k (given_reply (kind.row given)))
      gave_step = step_of asked k (given_reply (kind.row given)) a old refl makes unclosed

      abbrev after_it : Situation
      after_it = situation_of new a.log a.gate

      abbrev deed_by : ℕ → Deed
      deed_by actor = product_deed kind actor k s.next given handling

      by_same : old.actor ≡ a.moment.pass.actor
      by_same = ap (λ (p : PassView). p.actor) makes.same

      pub gave : (s' : Standing) → Does came (with_pass a old).moment new (product_deed kind old.actor k s.next given handling)
          → s' ≡ kind.after s given handling → HasCursor new.pass k None
          → MakesTurns kind asked k s s' (Gave given handling ∷ []) came a (situation_of new a.log a.gate)
      gave s' does stands cursor =
          let actor = a.moment.pass.actor in
          let here : Does came (with_pass a old).moment new (deed_by actor) =
          subst (λ (n : ℕ). Does came (with_pass a old).moment new (deed_by n)) by_same does in
          let rest = acts_of asked.host came (with_pass a old).moment new a.log a.gate (deed_by actor)
          (silent_product actor) here in
          record {
            are_turns = (is_handled, tt);
            acts = acts_same asked.host came a after_it _ _ (gave_act actor)
                (acts_then asked.host [] came a (with_pass a old) after_it _ _ gave_step rest);
            stands = stands;
            cursor = cursor;
            rows = one_row kind new.pass given (lawful.stays law old new.pass _ given does.calls row);
          }

      -- it broke off in what is done with it
      gave_broken : (why : SendEnd)
          → Breaks came (with_pass a old).moment new (product_deed kind old.actor k s.next given handling)
          → BreaksAct why asked.host came a (situation_of new a.log a.gate)
          (course_act kind a.moment.pass.actor k s (record { turns = Gave given handling ∷ []; last = GoesOn }))
      gave_broken why broke =
          let actor = a.moment.pass.actor in
          let breaks = subst (λ (n : ℕ). Breaks came (with_pass a old).moment new (deed_by n)) by_same broke in
          let quiet = silent_part asked.host breaks.called _ breaks.called_part (silent_product actor) in
          let rest = breaks_act_of why asked.host came (with_pass a old).moment new a.log a.gate (deed_by actor) breaks
          quiet (unmade_product actor) in
          let both = acts_break why asked.host [] came a (with_pass a old) after_it _ (ungated (deed_by actor)) gave_step
          rest in
          let turns = turns_act kind actor k s (Gave given handling ∷ []) in
          breaks_same why asked.host came a after_it _ _ (gave_act actor ∙ sym (then_act-none turns)) both

      pub gave_ended : (why : SendEnd) → IsCut why
          → Breaks came (with_pass a old).moment new (product_deed kind old.actor k s.next given handling)
          → StopsTurns why a (situation_of new a.log a.gate) → KeepsCursor why new.pass k
          → EndsTurns kind why asked k s (record { turns = Gave given handling ∷ []; last = GoesOn }) came a
          (situation_of new a.log a.gate)
      gave_ended why cut broke cause cursor =
          let act = course_act kind a.moment.pass.actor k s (record { turns = Gave given handling ∷ []; last = GoesOn }) in
          let part = cut_is why cut in
          record {
            are_turns = (is_handled, tt);
            is_last = tt;
            last_of_end = cut_last why cut GoesOn;
            ends = subst (λ (w : Bool). EndsAct w why asked.host came a after_it act) (sym part) (gave_broken why broke);
            all_sent = subst (λ (w : Bool). IsAllSent w new.out) (sym part) tt;
            cause = cause;
            cursor = cursor;
            rows = one_row kind new.pass given (lawful.stays law old new.pass _ given broke.calls row);
          }
