-- What the turns of a recorder come to.
use Rattle.std.proofs.Common.{◌≡◌, ℕ, ◌+◌, ◌-◌, ◌≤◌, Bool, true, false, cond, List, [], ◌∷◌, ◌++◌, length, drop, refl, sym, ◌∙◌, ap, subst, arith}
use Rattle.std.specs.Prelude.{Option, nat_le}
use Rattle.std.proofs.lemmas.List.{append-nil, append_assoc, length-append, length-drop, drop-append-le, drop-drop}
use Rattle.ldm_journal.specs.Records.{Kept, fitting, size_of}
use Rattle.ldm_journal.specs.Appending.{record_len}
use Rattle.ldm_journal.specs.Runs.{Append, Commit, Content, Event, after_event, after_events, appended_in, opened}
use Rattle.ldm_journal.specs.Joining.{then_events}
use Rattle.ldm_journal.proofs.EventLemmas.{after_both}
use Rattle.ldm_journal.proofs.RunLemmas.{fitting_drops}
use Rattle.ldm_recorder.specs.declared.line.Line.{Line}
use Rattle.ldm_recorder.specs.Turns.{CaughtUp, Given, Lost, Saved, Turn, Who, note_then, turn_events, work_of}
use Rattle.ldm_recorder.specs.Told.{kept_of_turn, noted_in, recorded_in}

-- ---- nothing is left behind a commit

pub work_events : (who : Who) (turns more : List Turn) (start : Content)
    → (work_of who (turns ++ more)).events start ≡ then_events (work_of who turns).events (work_of who more).events start
work_events who [] more start = refl
work_events who (turn ∷ turns) more start =
    let one = turn_events who.ring who.lines turn in
    let next = after_events start (one start) in
    ap (λ (l : List Event). one start ++ l) (work_events who turns more next)
    ∙ (sym (append_assoc (one start) ((work_of who turns).events next) ((work_of who more).events (after_events next ((work_of who turns).events next))))
    ∙ ap (λ (c : Content). (one start ++ (work_of who turns).events next) ++ (work_of who more).events c) (sym (after_both start (one start) ((work_of who turns).events next))))

pub all_is_committed : (who : Who) (turns : List Turn) (at : ℕ) (lasts : Option (List ℕ)) (start : Content)
    → (after_events start ((work_of who (turns ++ CaughtUp at lasts ∷ [])).events start)).appended ≡ []
all_is_committed who turns at lasts start =
    let first = (work_of who turns).events start in
    let note = note_then who.lines lasts (after_events start first).note in
    ap (λ (l : List Event). (after_events start l).appended) (work_events who turns (CaughtUp at lasts ∷ []) start)
    ∙ ap (λ (c : Content). c.appended) (after_both start first (Commit who.ring note ∷ []))

-- ---- what was appended

appended-append : (first more : List Event) → appended_in (first ++ more) ≡ appended_in first ++ appended_in more
appended-append [] more = refl
appended-append (Append k ∷ first) more = ap (λ (l : List Kept). k ∷ l) (appended-append first more)
appended-append (Commit most note ∷ first) more = appended-append first more

room : (ring : ℕ) (k : Kept) (note : List ℕ) (b : Bool) → appended_in (cond b (Append k ∷ []) (Commit (ring - record_len k) note ∷ Append k ∷ [])) ≡ k ∷ []
room ring k note true = refl
room ring k note false = refl

kept_events : (ring : ℕ) (k : Kept) (start : Content) (b : Bool)
    → appended_in (cond b (cond (nat_le (size_of (start.kept ++ start.appended) + record_len k) ring) (Append k ∷ []) (Commit (ring - record_len k) start.note ∷ Append k ∷ [])) [])
    ≡ cond b (k ∷ []) []
kept_events ring k start true = room ring k start.note (nat_le (size_of (start.kept ++ start.appended) + record_len k) ring)
kept_events ring k start false = refl

turn_appends : (ring : ℕ) (lines : List Line) (turn : Turn) (start : Content) → appended_in (turn_events ring lines turn start) ≡ kept_of_turn ring turn
turn_appends ring lines (Lost count first last) start = refl
turn_appends ring lines (Given n k) start = kept_events ring k start (nat_le (record_len k) ring)
turn_appends ring lines (CaughtUp at lasts) start = refl
turn_appends ring lines Saved start = refl

pub turns_append : (who : Who) (turns : List Turn) (start : Content) → appended_in ((work_of who turns).events start) ≡ recorded_in who.ring turns
turns_append who [] start = refl
turns_append who (turn ∷ turns) start =
    let one = turn_events who.ring who.lines turn start in
    let rest = (work_of who turns).events (after_events start one) in
    appended-append one rest ∙ ap (λ (l : List Kept). l ++ appended_in rest) (turn_appends who.ring who.lines turn start)
    ∙ ap (λ (l : List Kept). kept_of_turn who.ring turn ++ l) (turns_append who turns (after_events start one))

-- ---- what the journal stands for

pub record IsLeft (all : List Kept) (content : Content) : Type 0 where
  pub dropped : ℕ
  pub within : dropped ≤ length all
  pub is : content.kept ++ content.appended ≡ drop dropped all

event_left : (all : List Kept) (content : Content) (event : Event) → IsLeft all content → IsLeft (all ++ appended_in (event ∷ [])) (after_event content event)
event_left all content (Append k) left = record {
  dropped = left.dropped;
  within = omega (arith, length-append all (k ∷ []), left.within);
  is = sym (append_assoc content.kept content.appended (k ∷ [])) ∙ ap (λ (l : List Kept). l ++ k ∷ []) left.is ∙ sym (drop-append-le left.dropped all (k ∷ []) left.within);
}
event_left all content (Commit most note) left =
    let here = content.kept ++ content.appended in
    let d = fitting_drops most here in
    let long : length here ≡ length all - left.dropped = ap length left.is ∙ length-drop left.dropped all in
    record {
      dropped = left.dropped + d.dropped;
      within = omega (arith, d.within, long, left.within, ap length (append-nil all));
      is = append-nil (fitting most here) ∙ d.is ∙ ap (λ (l : List Kept). drop d.dropped l) left.is ∙ drop-drop d.dropped left.dropped all
          ∙ ap (λ (l : List Kept). drop (left.dropped + d.dropped) l) (sym (append-nil all));
    }

event_first : (event : Event) (events : List Event) → appended_in (event ∷ []) ++ appended_in events ≡ appended_in (event ∷ events)
event_first (Append k) events = refl
event_first (Commit most note) events = refl

events_left : (events : List Event) (all : List Kept) (content : Content) → IsLeft all content → IsLeft (all ++ appended_in events) (after_events content events)
events_left [] all content left = subst (λ (l : List Kept). IsLeft l content) (sym (append-nil all)) left
events_left (event ∷ events) all content left =
    let rest = events_left events (all ++ appended_in (event ∷ [])) (after_event content event) (event_left all content event left) in
    subst (λ (l : List Kept). IsLeft l (after_events (after_event content event) events))
    (append_assoc all (appended_in (event ∷ [])) (appended_in events) ∙ ap (λ (l : List Kept). all ++ l) (event_first event events)) rest

pub left_of_all : (who : Who) (turns : List Turn) (first : List Kept) (note : List ℕ)
    → (let end = after_events (opened first note) ((work_of who turns).events (opened first note)) in
    (dropped : ℕ) × (end.kept ++ end.appended ≡ drop dropped (first ++ recorded_in who.ring turns)))
left_of_all who turns first note =
    let start = opened first note in
    let events = (work_of who turns).events start in
    let left = events_left events first start (record { dropped = 0; within = omega arith; is = append-nil first }) in
    (left.dropped, left.is ∙ ap (λ (l : List Kept). drop left.dropped (first ++ l)) (turns_append who turns start))

-- ---- the note that is committed

kept_note : (ring : ℕ) (k : Kept) (start : Content) (fits free : Bool)
    → (after_events start (cond fits (cond free (Append k ∷ []) (Commit (ring - record_len k) start.note ∷ Append k ∷ [])) [])).note ≡ start.note
kept_note ring k start true true = refl
kept_note ring k start true false = refl
kept_note ring k start false free = refl

pub note_of_turns : (who : Who) (turns : List Turn) (start : Content) → (after_events start ((work_of who turns).events start)).note ≡ noted_in who.lines turns start.note
note_of_turns who [] start = refl
note_of_turns who (turn ∷ turns) start =
    let one = turn_events who.ring who.lines turn start in
    let next = after_events start one in
    ap (λ (c : Content). c.note) (after_both start one ((work_of who turns).events next)) ∙ note_of_turns who turns next ∙ by turn
  where
    by : (turn : Turn) → noted_in who.lines turns (after_events start (turn_events who.ring who.lines turn start)).note ≡ noted_in who.lines (turn ∷ turns) start.note
    by (Lost count first last) = refl
    by (Given n k) =
        ap (λ (note : List ℕ). noted_in who.lines turns note)
        (kept_note who.ring k start (nat_le (record_len k) who.ring) (nat_le (size_of (start.kept ++ start.appended) + record_len k) who.ring))
    by (CaughtUp at lasts) = refl
    by Saved = refl
