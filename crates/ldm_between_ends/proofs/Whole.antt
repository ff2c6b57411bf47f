-- A whole feeding, where no other call stands between its own.
use Rattle.std.proofs.Common.{◌≡◌, ◌∙◌, ℕ, ◌<◌, Bool, true, false, List, [], ◌∷◌, ◌++◌, length, map, filter, None, refl, sym, ap, subst, append_assoc, append-nil}
use Rattle.std.specs.Prelude.{All, ◌&&◌, nat_le}
use Rattle.std.proofs.lemmas.Bool.{and_parts}
use Rattle.std.proofs.lemmas.List.Elements.{All-nil}
use Rattle.ldm_model.specs.declared.event.Event.TheVariants as event
use Rattle.ldm_model.specs.declared.event.Reply.TheVariants as reply
use Rattle.ldm_model.specs.declared.event.Entry.{Entry}
use Rattle.ldm_model.specs.State.{State, Cursor, Queued, queued, empty}
use Rattle.ldm_model.specs.History.{after, after_entries, IsLegal, IsLegalFrom}
use Rattle.ldm_model.proofs.Appended.{after_entries-append, IsLegalFrom-append}
use Rattle.ldm_model.proofs.Places.{least-empty}
use Rattle.ldm_class.specs.Access.{is_yes, verdict}
use Rattle.ldm_class.specs.Classes.{wants, resumed}
use Rattle.ldm_sender.specs.Asked.{Asked}
use Rattle.ldm_sender.specs.Due.{is_due}
use Rattle.ldm_sender.specs.Opening.{Answered, Denied, Reclassed, Busy, Opened, feeds_of, opening_entries, closing_entries, place_of}
use Rattle.ldm_upstream.specs.Turn.{Given, Turn}
use Rattle.ldm_upstream.specs.Turns.{entries_of_turns, given_in_turns}
use Rattle.ldm_upstream.specs.Feeding.{Last, GoesOn, Stopped, Unanswered, Feeding, MayTurn, IsFeeding, last_entries, last_given, entries_of, given_of}
use Rattle.ldm_between_ends.specs.Alone.{queued_given, due_of, due_rows, AreRowsOf, is_lost}
use Rattle.ldm_between_ends.proofs.Coming.{is_of, filter-within}
use Rattle.ldm_between_ends.proofs.Feeds.{wanted-meets}
use Rattle.ldm_between_ends.proofs.Moving.{free, with_cursor, closed-again}
use Rattle.ldm_between_ends.proofs.Stepping.{end-came, product-came}
use Rattle.ldm_between_ends.proofs.Turning.{still, Stays, Turned, turned, none-still}
use Rattle.ldm_between_ends.proofs.Beginning.{Begun, begun, busy-changes_none, oldest-all}

-- its calls behind those that opened the cursor
abbrev later_entries : ℕ → ℕ → List Turn → Last → List Entry
later_entries actor k turns last = entries_of_turns actor k turns ++ last_entries actor k last

-- all its calls but the one that closes the cursor
abbrev all_entries : ℕ → Asked → Answered → List Turn → Last → List Entry
all_entries actor asked answered turns last = opening_entries actor asked answered ++ later_entries actor (place_of answered) turns last

-- legal from a state on is legal from the same state on
legal-from : (s t : State) (entries : List Entry) → s ≡ t → IsLegalFrom s entries → IsLegalFrom t entries
legal-from s t entries same legal = subst (λ (x : State). IsLegalFrom x entries) same legal

-- A cursor was opened, and made these turns.
record Ran (s : State) (actor : ℕ) (asked : Asked) (missed : Bool) (k : ℕ) (turns : List Turn) (last : Last) : Type 0 where
  pub begins : Begun s actor asked k (opening_entries actor asked (Opened missed k))
  pub within : k < length s.cursors
  pub turns_are : Turned s k actor (feeds_of asked.class) begins.at [] turns
  pub last_legal : IsLegalFrom (with_cursor s k (free actor (feeds_of asked.class) turns_are.position turns_are.so_far)) (last_entries actor k last)

module _ (s : State) (actor : ℕ) (asked : Asked) where
  ran : (missed : Bool) (k : ℕ) (turns : List Turn) (last : Last) → IsLegalFrom s (all_entries actor asked (Opened missed k) turns last) → Ran s actor asked missed k turns last
  ran missed k turns last legal =
      let opening = opening_entries actor asked (Opened missed k) in
      let turning = entries_of_turns actor k turns in
      let ending = last_entries actor k last in
      let parts = (IsLegalFrom-append opening (turning ++ ending) s).0 legal in
      let begins = begun s actor asked missed k parts.0 in
      let inside = (least-empty s.cursors k begins.least).0 in
      let opened = with_cursor s k (free actor (feeds_of asked.class) begins.at []) in
      let later = (IsLegalFrom-append turning ending opened).0 (legal-from (after_entries s opening) opened (turning ++ ending) begins.state parts.1) in
      let turns_are = turned s k inside actor (feeds_of asked.class) turns begins.at [] later.0 in
      let turned_state = with_cursor s k (free actor (feeds_of asked.class) turns_are.position turns_are.so_far) in
      record {
        begins = begins;
        within = inside;
        turns_are = turns_are;
        last_legal = legal-from (after_entries opened turning) turned_state ending turns_are.state later.1;
      }

  -- the last turn leaves a cursor at the place too
  ended : (k : ℕ) → k < length s.cursors → (feed at : ℕ) (given : List ℕ) (last : Last) → IsLegalFrom (with_cursor s k (free actor feed at given)) (last_entries actor k last)
      → (cursor : Cursor) × (after_entries (with_cursor s k (free actor feed at given)) (last_entries actor k last) ≡ with_cursor s k cursor)
  ended k within feed at given GoesOn legal = (free actor feed at given, refl)
  ended k within feed at given (Stopped end) legal = (_, (end-came s k within actor feed at given end legal.0.reply).state)
  ended k within feed at given (Unanswered g sent) legal = (_, (product-came s k within actor feed at given g.n g.time g.product.info legal.0.reply).state)

  -- and so do all calls behind the opening
  ran-state : (missed : Bool) (k : ℕ) (turns : List Turn) (last : Last) → Ran s actor asked missed k turns last
      → (cursor : Cursor) × (after_entries s (all_entries actor asked (Opened missed k) turns last) ≡ with_cursor s k cursor)
  ran-state missed k turns last r =
      let opening = opening_entries actor asked (Opened missed k) in
      let turning = entries_of_turns actor k turns in
      let ending = last_entries actor k last in
      let opened = with_cursor s k (free actor (feeds_of asked.class) r.begins.at []) in
      let end = ended k r.within (feeds_of asked.class) r.turns_are.position r.turns_are.so_far last r.last_legal in (
        end.0,
        after_entries-append opening (turning ++ ending) s
            ∙ ap (λ (t : State). after_entries t (turning ++ ending)) r.begins.state
            ∙ after_entries-append turning ending opened
            ∙ ap (λ (t : State). after_entries t ending) r.turns_are.state
            ∙ end.1,
      )

  -- ---- nothing is lost

  none-lost : (answered : Answered) (turns : List Turn) (last : Last) → IsLegalFrom s (all_entries actor asked answered turns last) → MayTurn answered turns last
      → All (λ (turn : Turn). is_lost turn ≡ false) turns
  none-lost (Opened missed k) turns last legal may = (ran missed k turns last legal).turns_are.none_lost
  none-lost (Denied rule) turns last legal may = subst (All (λ (turn : Turn). is_lost turn ≡ false)) (sym may.0) (All-nil (λ (turn : Turn). is_lost turn ≡ false))
  none-lost (Reclassed class) turns last legal may = subst (All (λ (turn : Turn). is_lost turn ≡ false)) (sym may.0) (All-nil (λ (turn : Turn). is_lost turn ≡ false))
  none-lost (Busy missed) turns last legal may = subst (All (λ (turn : Turn). is_lost turn ≡ false)) (sym may.0) (All-nil (λ (turn : Turn). is_lost turn ≡ false))

  -- ---- all that is due is given

  due-meets : (q : Queued) → is_due asked q.time q.product.info ≡ true → is_of (feeds_of asked.class) q ≡ true
  due-meets q due =
      let parts = and_parts (nat_le q.time asked.class.to && wants asked.class q.product.info) (is_yes (verdict asked.rules asked.host q.product.info)) due in
      wanted-meets asked.class q.product.info (and_parts (nat_le q.time asked.class.to) (wants asked.class q.product.info) parts.0).1

  given-all : (missed : Bool) (k end : ℕ) (turns : List Turn) (later : State) → Stays s later → IsLegalFrom s (all_entries actor asked (Opened missed k) turns (Stopped end))
      → asked.class.from ≡ 0 → resumed asked.class.specs.items ≡ None → AreRowsOf later (given_in_turns turns ++ []) → due_of asked (given_in_turns turns ++ []) ≡ due_rows asked s
  given-all missed k end turns later stays legal zero none rows =
      let r = ran missed k turns (Stopped end) legal in
      let feed = feeds_of asked.class in
      let came = end-came s k r.within actor feed r.turns_are.position r.turns_are.so_far end r.last_legal.0.reply in
      let no_more = none-still s k actor feed r.turns_are.position r.turns_are.so_far came in
      let told = r.turns_are.told later stays (subst (AreRowsOf later) (append-nil (given_in_turns turns)) rows) in
      let all : still feed r.begins.at s ≡ map queued_given (filter (is_of feed) (queued s)) =
      ap (map queued_given) (oldest-all s feed r.begins.at (r.begins.oldest none zero)) in
      ap (due_of asked) (ap (λ (gs : List Given). given_in_turns turns ++ gs) (sym no_more) ∙ sym told ∙ all)
      ∙ filter-within queued_given (is_of feed) (λ (given : Given). is_due asked given.time given.product.info) (queued s) due-meets

  -- ---- all is as it was

  -- where no cursor is opened, there are no other calls than these
  no-turns : (answered : Answered) (turns : List Turn) (last : Last) → turns ≡ [] → last ≡ GoesOn → all_entries actor asked answered turns last ≡ opening_entries actor asked answered
  no-turns answered turns last none goes_on =
      (λ i. opening_entries actor asked answered ++ (entries_of_turns actor (place_of answered) (none i) ++ last_entries actor (place_of answered) (goes_on i)))
      ∙ append-nil (opening_entries actor asked answered)

  unchanged-by : (answered : Answered) (turns : List Turn) (last : Last) → IsLegalFrom s (all_entries actor asked answered turns last)
      → IsLegalFrom (after_entries s (all_entries actor asked answered turns last)) (closing_entries actor answered) → MayTurn answered turns last
      → after_entries (after_entries s (all_entries actor asked answered turns last)) (closing_entries actor answered) ≡ s
  unchanged-by (Opened missed k) turns last legal closing may =
      let r = ran missed k turns last legal in
      let end = ran-state missed k turns last r in
      let close : Entry = record { actor = actor; event = event.Close k; reply = reply.Closed } in
      let then_legal = legal-from (after_entries s (all_entries actor asked (Opened missed k) turns last)) (with_cursor s k end.0) (close ∷ []) end.1 closing in
      ap (λ (t : State). after_entries t (close ∷ [])) end.1 ∙ closed-again s actor k end.0 r.begins.least then_legal.0.reply
  unchanged-by (Denied rule) turns last legal closing may = ap (after_entries s) (no-turns (Denied rule) turns last may.0 may.1)
  unchanged-by (Reclassed class) turns last legal closing may = ap (after_entries s) (no-turns (Reclassed class) turns last may.0 may.1)
  unchanged-by (Busy missed) turns last legal closing may =
      let same = no-turns (Busy missed) turns last may.0 may.1 in
      ap (after_entries s) same ∙ busy-changes_none s actor asked missed (subst (IsLegalFrom s) same legal)

-- ---- the same of histories

own-are : (actor : ℕ) (asked : Asked) (feeding : Feeding) → entries_of actor asked feeding ≡ all_entries actor asked feeding.answered feeding.turns feeding.last
own-are actor asked feeding = append_assoc (opening_entries actor asked feeding.answered) (entries_of_turns actor (place_of feeding.answered) feeding.turns)
    (last_entries actor (place_of feeding.answered) feeding.last)

module _ (arena slots actor : ℕ) (front behind : List Entry) (asked : Asked) (feeding : Feeding)
    (legal : IsLegal arena slots (front ++ (entries_of actor asked feeding ++ behind))) where
  -- the feeding's own calls, and those behind them
  own-legal : IsLegalFrom (after arena slots front) (all_entries actor asked feeding.answered feeding.turns feeding.last)
      × IsLegalFrom (after_entries (after arena slots front) (all_entries actor asked feeding.answered feeding.turns feeding.last)) behind
  own-legal =
      let parts = (IsLegalFrom-append (entries_of actor asked feeding) behind (after arena slots front)).0
      ((IsLegalFrom-append front (entries_of actor asked feeding ++ behind) (empty arena slots)).0 legal).1 in
      coe 0 1 (i. IsLegalFrom (after arena slots front) (own-are actor asked feeding i) × IsLegalFrom (after_entries (after arena slots front) (own-are actor asked feeding i)) behind) parts

  pub nothing-lost : IsFeeding asked feeding → All (λ (turn : Turn). is_lost turn ≡ false) feeding.turns
  nothing-lost is = none-lost (after arena slots front) actor asked feeding.answered feeding.turns feeding.last own-legal.0 is.opened

  pub alone-given : Stays (after arena slots front) (after arena slots (front ++ (entries_of actor asked feeding ++ behind)))
      → (missed : Bool) (k end : ℕ) → feeding.answered ≡ Opened missed k → feeding.last ≡ Stopped end → asked.class.from ≡ 0 → resumed asked.class.specs.items ≡ None
      → AreRowsOf (after arena slots (front ++ (entries_of actor asked feeding ++ behind))) (given_of feeding)
      → due_of asked (given_of feeding) ≡ due_rows asked (after arena slots front)
  alone-given stays missed k end opened stopped zero none rows =
      let whole = after arena slots (front ++ (entries_of actor asked feeding ++ behind)) in
      let own : IsLegalFrom (after arena slots front) (all_entries actor asked (Opened missed k) feeding.turns (Stopped end)) =
      coe 0 1 (i. IsLegalFrom (after arena slots front) (all_entries actor asked (opened i) feeding.turns (stopped i))) own-legal.0 in
      let same : given_of feeding ≡ given_in_turns feeding.turns ++ [] = λ i. given_in_turns feeding.turns ++ last_given (stopped i) in
      ap (due_of asked) same
      ∙ given-all (after arena slots front) actor asked missed k end feeding.turns whole stays own zero none (subst (AreRowsOf whole) same rows)

pub alone-unchanged : (arena slots actor : ℕ) (front : List Entry) (asked : Asked) (feeding : Feeding)
    → IsLegal arena slots (front ++ (entries_of actor asked feeding ++ closing_entries actor feeding.answered)) → IsFeeding asked feeding
    → after arena slots (front ++ (entries_of actor asked feeding ++ closing_entries actor feeding.answered)) ≡ after arena slots front
alone-unchanged arena slots actor front asked feeding legal is =
    let closing = closing_entries actor feeding.answered in
    let parts = own-legal arena slots actor front closing asked feeding legal in
    after_entries-append front (entries_of actor asked feeding ++ closing) (empty arena slots)
    ∙ after_entries-append (entries_of actor asked feeding) closing (after arena slots front)
    ∙ ap (λ (es : List Entry). after_entries (after_entries (after arena slots front) es) closing) (own-are actor asked feeding)
    ∙ unchanged-by (after arena slots front) actor asked feeding.answered feeding.turns feeding.last parts.0 parts.1 is.opened
