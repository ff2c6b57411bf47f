-- Turns one after another, and where they end.
use Rattle.std.proofs.Common.{◌≡◌, ◌∙◌, ℕ, zero, suc, ◌<◌, List, [], ◌∷◌, ◌++◌, length, None, refl, sym, ap, subst}
use Rattle.std.proofs.Common.{append_assoc, arith}
use Rattle.std.specs.Prelude.{slice_index_or}
use Rattle.std.proofs.lemmas.List.Elements.{All-append}
use Rattle.std.proofs.lemmas.List.Concat.{flat_map-append}
use Rattle.ldm_model.specs.declared.event.Entry.{Entry}
use Rattle.ldm_outside.specs.Link.{IsNotClosed}
use Rattle.ldm_outside.proofs.CallerLemmas.{Takes-nothing}
use Rattle.ldm_relay.specs.declared.message.ClassAnswer.{ClassAnswer}
use Rattle.ldm_relay.specs.Sent.{Sent}
use Rattle.ldm_relay.specs.Sent as sent
use Rattle.ldm_relay.specs.Spelling.{written}
use Rattle.ldm_shared.specs.Passes.{PassView, Calls}
use Rattle.ldm_shared.specs.Reader.{HasCursor}
use Rattle.ldm_session.specs.Gaps.{gap_log}
use Rattle.ldm_sender.specs.declared.end.SendEnd.{SendEnd}
use Rattle.ldm_sender.specs.declared.standing.Standing.{Standing}
use Rattle.ldm_sender.specs.Asked.{Asked}
use Rattle.ldm_sender.specs.Calls.{MayBeUnmade}
use Rattle.ldm_sender.specs.Deeds.{records_of}
use Rattle.ldm_sender.specs.Does.{Each}
use Rattle.ldm_sender.specs.Acts.{Situation, Act, then_act, Acts, EndsAct, is_whole}
use Rattle.ldm_sender.specs.Turn.{Kind, Turn, turn_entries, turn_messages, turn_instants, turn_goes, after_turn}
use Rattle.ldm_sender.specs.Turns.{AreTurns, after_turns, messages_of_turns, given_in, given_in_turns}
use Rattle.ldm_sender.specs.Sending.{last_given}
use Rattle.ldm_sender.specs.Course.{Course, turns_act, last_act, course_act, IsRowIn, AreRows, MakesTurns}
use Rattle.ldm_sender.specs.Course.{EndsTurns}
use Rattle.ldm_sender.proofs.Acting.{deed_is, act_is, acts_same, beside_same, ends_same, acts_then, acts_end}
use Rattle.ldm_sender.proofs.Steps.{RowsStay, calls_at_end, cause_later, does_nothing, records-append, same_actor}
use Rattle.ldm_sender.proofs.Steps.{then_act-assoc}

-- What each kind of sending keeps to.
pub record IsLawful {P H : Type 0} (kind : Kind P H) : Type 0 where
  -- its answer to a request is spelled as that to a FEEDME
  pub answers : (xid : ℕ) (answer : ClassAnswer)
      → written (sent.FeedmeReply xid answer) ≡ written (kind.answer xid answer)
  -- a product stays the one of its number
  pub stays : RowsStay → (old new : PassView) (made : List Entry) (given : P) → Calls old new made
      → IsRowIn kind old given → IsRowIn kind new given
  -- the calls in which it is handled tell no loss, and may be left out
  pub silent : (host : List ℕ) (actor k : ℕ) (given : P) (handling : H)
      → gap_log host (kind.entries actor k given handling) ≡ []
  pub unmade : (actor k : ℕ) (given : P) (handling : H) → Each MayBeUnmade (kind.entries actor k given handling)

-- these turns, and then those
abbrev pub behind : {P H : Type 0} → List (Turn P H) → Course P H → Course P H
behind first course = record { turns = first ++ course.turns; last = course.last }

module _ {P H : Type 0} (kind : Kind P H) where
  -- ---- what turns come to, behind others

  pub after_turns-append : (standing : Standing) (first second : List (Turn P H))
      → after_turns kind standing (first ++ second) ≡ after_turns kind (after_turns kind standing first) second
  after_turns-append standing [] second = refl
  after_turns-append standing (turn ∷ first) second =
      after_turns-append (after_turn kind standing turn) first second

  are_turns-append : (asked : Asked) (standing : Standing) (first second : List (Turn P H))
      → AreTurns kind asked standing first → AreTurns kind asked (after_turns kind standing first) second
      → AreTurns kind asked standing (first ++ second)
  are_turns-append asked standing [] second one two = two
  are_turns-append asked standing (turn ∷ first) second one two =
      (one.0, are_turns-append asked (after_turn kind standing turn) first second one.1 two)

  messages-append : (standing : Standing) (first second : List (Turn P H))
      → messages_of_turns kind standing (first ++ second)
      ≡ messages_of_turns kind standing first ++ messages_of_turns kind (after_turns kind standing first) second
  messages-append standing [] second = refl
  messages-append standing (turn ∷ first) second =
      ap (λ (x : List Sent). turn_messages kind standing.next turn ++ x)
      (messages-append (after_turn kind standing turn) first second)
      ∙ sym (append_assoc (turn_messages kind standing.next turn)
      (messages_of_turns kind (after_turn kind standing turn) first)
      (messages_of_turns kind (after_turns kind (after_turn kind standing turn) first) second))

  turns_act-append : (actor k : ℕ) (standing : Standing) (first second : List (Turn P H))
      → turns_act kind actor k standing (first ++ second)
      ≡ then_act (turns_act kind actor k standing first)
      (turns_act kind actor k (after_turns kind standing first) second)
  turns_act-append actor k standing first second =
      act_is _ _ _ _
      (deed_is _ _ _ _ _ _ (flat_map-append (turn_entries kind actor k) first second)
      (ap records_of (messages-append standing first second) ∙ records-append (messages_of_turns kind standing first)
      (messages_of_turns kind (after_turns kind standing first) second))
      (flat_map-append (turn_instants kind) first second))
      (flat_map-append turn_goes first second)

  -- ---- rows

  pub no_rows : (pass : PassView) → AreRows kind pass []
  no_rows pass = λ k d within. absurd (omega (arith, within))

  pub one_row : (pass : PassView) (given : P) → IsRowIn kind pass given → AreRows kind pass (given ∷ [])
  one_row pass given is = λ k d within. by_place k d within
    where
      by_place : (k : ℕ) (d : P) → k < length (given ∷ []) → IsRowIn kind pass (slice_index_or (given ∷ []) k d)
      by_place zero d within = is
      by_place (suc k) d within = absurd (omega (arith, within))

  pub rows_stay : IsLawful kind → RowsStay → (old new : PassView) (made : List Entry) (givens : List P)
      → Calls old new made → AreRows kind old givens → AreRows kind new givens
  rows_stay lawful law old new made givens calls rows =
      λ k d within. lawful.stays law old new made _ calls (rows k d within)

  -- ---- turns, one after another

  pub no_turns : (asked : Asked) (k : ℕ) (s : Standing) (now : Situation) → IsNotClosed now.moment.link
      → HasCursor now.moment.pass k None → MakesTurns kind asked k s s [] [] now now
  no_turns asked k s now unclosed cursor = record {
    are_turns = tt;
    acts = record {
      does = does_nothing now.moment unclosed;
      logged = Takes-nothing now.log now.log refl;
      idled = refl;
      beside = beside_same now;
    };
    stands = refl;
    cursor = cursor;
    rows = no_rows now.moment.pass;
  }

  pub turns_then : IsLawful kind → RowsStay → (asked : Asked) (k : ℕ) (s t u : Standing)
      (first second : List (Turn P H)) (came more : List ℕ) (a b c : Situation)
      → MakesTurns kind asked k s t first came a b → MakesTurns kind asked k t u second more b c
      → MakesTurns kind asked k s u (first ++ second) (came ++ more) a c
  turns_then lawful law asked k s t u first second came more a b c one two =
      let actor = a.moment.pass.actor in
      let here = after_turns kind s first in
      let acts : Acts asked.host more b c (turns_act kind actor k here second) =
      subst (λ (x : Standing). Acts asked.host more b c (turns_act kind actor k x second)) one.stands
      (subst (λ (x : ℕ). Acts asked.host more b c (turns_act kind x k t second))
      (same_actor asked.host came a b _ one.acts) two.acts) in
      record {
        are_turns =
            are_turns-append asked s first second one.are_turns
            (subst (λ (x : Standing). AreTurns kind asked x second) one.stands two.are_turns);
        acts =
            acts_same asked.host (came ++ more) a c _ _ (sym (turns_act-append actor k s first second))
            (acts_then asked.host came more a b c (turns_act kind actor k s first)
            (turns_act kind actor k here second) one.acts acts);
        stands = two.stands ∙ ap (λ (x : Standing). after_turns kind x second) one.stands
            ∙ sym (after_turns-append s first second);
        cursor = two.cursor;
        rows =
            subst (λ (x : List P). AreRows kind c.moment.pass x) (sym (flat_map-append given_in first second))
            (All-append (IsRowIn kind c.moment.pass) (given_in_turns first) (given_in_turns second)
            (rows_stay lawful law b.moment.pass c.moment.pass _ (given_in_turns first) two.acts.does.calls one.rows)
            two.rows);
      }

  pub turns_end : IsLawful kind → RowsStay → (why : SendEnd) (asked : Asked) (k : ℕ) (s t : Standing)
      (first : List (Turn P H)) (course : Course P H) (came more : List ℕ) (a b c : Situation)
      → MakesTurns kind asked k s t first came a b → EndsTurns kind why asked k t course more b c
      → EndsTurns kind why asked k s (behind first course) (came ++ more) a c
  turns_end lawful law why asked k s t first course came more a b c one two =
      let actor = a.moment.pass.actor in
      let here = after_turns kind s first in
      let last = λ (x : Standing). last_act kind actor k x.next course.last in
      let at_last : after_turns kind here course.turns ≡ after_turns kind s (first ++ course.turns) =
      sym (after_turns-append s first course.turns) in
      let ended : EndsAct (is_whole why) why asked.host more b c (course_act kind actor k here course) =
      subst (λ (x : Standing). EndsAct (is_whole why) why asked.host more b c (course_act kind actor k x course))
      one.stands
      (subst (λ (x : ℕ). EndsAct (is_whole why) why asked.host more b c (course_act kind x k t course))
      (same_actor asked.host came a b _ one.acts) two.ends) in
      let act_is_all : then_act (turns_act kind actor k s first) (course_act kind actor k here course)
      ≡ course_act kind actor k s (behind first course) =
      sym (then_act-assoc (turns_act kind actor k s first) (turns_act kind actor k here course.turns)
      (last (after_turns kind here course.turns)))
      ∙ ap (λ (x : Act). then_act x (last (after_turns kind here course.turns)))
      (sym (turns_act-append actor k s first course.turns))
      ∙ ap (λ (x : Standing). then_act (turns_act kind actor k s (first ++ course.turns)) (last x)) at_last in
      let later = calls_at_end (is_whole why) why asked.host more b c _ two.ends in
      record {
        are_turns =
            are_turns-append asked s first course.turns one.are_turns
            (subst (λ (x : Standing). AreTurns kind asked x course.turns) one.stands two.are_turns);
        is_last = two.is_last;
        last_of_end = two.last_of_end;
        ends =
            ends_same (is_whole why) why asked.host (came ++ more) a c _ _ act_is_all
            (acts_end (is_whole why) why asked.host came more a b c (turns_act kind actor k s first) _ one.acts ended);
        all_sent = two.all_sent;
        cause = cause_later why asked.host came a b c _ one.acts two.cause;
        cursor = two.cursor;
        rows =
            let givens = given_in_turns first in
            let others = given_in_turns course.turns in
            let last_one = last_given course.last in
            let old_rows = rows_stay lawful law b.moment.pass c.moment.pass later.0 givens later.1 one.rows in
            subst (λ (x : List P). AreRows kind c.moment.pass x)
            (sym (append_assoc givens others last_one)
            ∙ ap (λ (x : List P). x ++ last_one) (sym (flat_map-append given_in first course.turns)))
            (All-append (IsRowIn kind c.moment.pass) givens (others ++ last_one) old_rows two.rows);
      }
