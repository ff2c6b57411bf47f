-- What a reader is answered, and what it knows of its cursor then.
use Rattle.std.proofs.Common.{◌≡◌, ◌≢◌, ◌∙◌, ℕ, ◌≤◌, ◌==◌, true, false, List, [], ◌∷◌, ◌++◌, Option, Some, None, refl, sym, ap, subst, append_assoc, append-nil}
use Rattle.std.specs.Prelude.{◌&&◌, is_some, IfSome}
use Rattle.std.proofs.lemmas.Bool.{eq-eqb}
use Rattle.std.proofs.lemmas.List.Elements.{All-nil, All-push}
use Rattle.std.proofs.lemmas.Option.{same_Some}
use mathlib.Core.List.{IsPrefix}
use Rattle.ldm_types.specs.Info.{Metadata}
use Rattle.ldm_types.specs.Cursors.{is_number}
use Rattle.ldm_model.specs.declared.event.Start.{Start}
use Rattle.ldm_model.specs.declared.event.Event.{Event}
use Rattle.ldm_model.specs.declared.event.Event.TheVariants as event
use Rattle.ldm_model.specs.declared.event.Reply.{Reply}
use Rattle.ldm_model.specs.declared.event.Reply.TheVariants as reply
use Rattle.ldm_model.specs.declared.event.Entry.{Entry}
use Rattle.ldm_model.specs.Product.{Product}
use Rattle.ldm_model.specs.State.{Row, empty, place_of_row}
use Rattle.ldm_model.specs.Read.{part_of}
use Rattle.ldm_model.specs.Release.{release}
use Rattle.ldm_model.specs.Next.{next}
use Rattle.ldm_model.specs.History.{after, IsLegal, IsAnswered, IsPossible}
use Rattle.ldm_model.specs.Law.{Point, Hold, place_of_event, is_close, is_own, history_of, state_at, row_of, is_step, is_release, held_number, hold_of, IsPointOf, IsServed, IsAnsweredAt}
use Rattle.ldm_model.proofs.Appended.{IsLegalFrom-append}
use Rattle.ldm_model.proofs.Lawful.{ObeysLaw-legal}
use Rattle.ldm_shared.specs.Own.{own, Adds}
use Rattle.ldm_shared.specs.Passes.{PassView, HasSeen}
use Rattle.ldm_shared.specs.OwnReaders.{OwnPoint, IsOwnPointOf, opening_by, is_about, with_held, IsCalledAt}
use Rattle.ldm_shared.proofs.OwnLaw.{answered, agrees, served}
use Rattle.ldm_shared.specs.Staying.{HasRow}
use Rattle.ldm_shared.specs.Reader.{HasCursor, HoldsProduct}
use Rattle.ldm_shared.proofs.RowsStay.{stays, whole, fits}
use Rattle.ldm_shared.proofs.Cursors.{HoldsHere, holds-here, reads-row, row-there, hold-there, over_own-push}

-- the event is about that place
abbrev pub is_about_place : ℕ → Event → Type 0
is_about_place k e = is_number k (place_of_event e) ≡ true

-- a row is one later too
pub row_later : (old : PassView) (seen : List Entry) → HasSeen (record old { seen = seen }) → IsPrefix old.seen seen → (n : ℕ) (product : Product) (time : ℕ)
    → HasRow n product time (after old.arena old.slots old.seen) → HasRow n product time (after old.arena old.slots seen)
row_later old seen has_seen begins n product time row =
    let legal : IsLegal old.arena old.slots (old.seen ++ begins.0) = subst (λ (es : List Entry). IsLegal old.arena old.slots es) (sym begins.1) has_seen.legal in
    subst (λ (es : List Entry). HasRow n product time (after old.arena old.slots es)) begins.1 (stays old.arena old.slots old.seen begins.0 legal n product time row)

-- no call was made on the cursor, and others may have made some
pub still : (old : PassView) (seen : List Entry) (k : ℕ) (held : Option ℕ) → HasCursor old k held → HasSeen (record old { seen = seen }) → Adds old.actor old.seen seen []
    → HasCursor (record old { seen = seen }) k held
still old seen k held has has_seen adds = record {
  has_seen = has_seen;
  earlier = has.earlier;
  feed = has.feed;
  start = has.start;
  since = has.since;
  own_are = adds.own ∙ (append-nil (own old.actor old.seen) ∙ has.own_are);
  not_closed = has.not_closed;
  holds = has.holds;
}

-- a cursor that was just opened
pub opened : (old : PassView) (seen : List Entry) (feed : ℕ) (start : Start) (k : ℕ) → HasSeen (record old { seen = seen })
    → Adds old.actor old.seen seen (record { actor = old.actor; event = event.OpenCursor (record { 0 = feed }) start; reply = reply.Opened k } ∷ [])
    → HasCursor (record old { seen = seen }) k None
opened old seen feed start k has_seen adds = record {
  has_seen = has_seen;
  earlier = own old.actor old.seen;
  feed = feed;
  start = start;
  since = [];
  own_are = adds.own;
  not_closed = All-nil (λ (entry : Entry). (is_about k entry && is_close entry.event) ≡ false);
  holds = refl;
}

-- a call on a cursor
module _ (old : PassView) (seen : List Entry) (k : ℕ) (held : Option ℕ) (has : HasCursor old k held) (has_seen : HasSeen (record old { seen = seen }))
    (e : Event) (r : Reply) (adds : Adds old.actor old.seen seen (record { actor = old.actor; event = e; reply = r } ∷ [])) (about : is_number k (place_of_event e) ≡ true) where
  abbrev new : PassView
  new = record old { seen = seen }

  abbrev entry : Entry
  entry = record { actor = old.actor; event = e; reply = r }

  abbrev q : OwnPoint
  q = record { earlier = has.earlier; feed = has.feed; start = has.start; k = k; since = has.since }

  own_then : own old.actor seen ≡ has.earlier ++ opening_by old.actor q ∷ (has.since ++ entry ∷ [])
  own_then = adds.own ∙ (ap (λ (es : List Entry). es ++ entry ∷ []) has.own_are ∙ append_assoc has.earlier (opening_by old.actor q ∷ has.since) (entry ∷ []))

  pub at : IsOwnPointOf new q
  at = record { rest = entry ∷ []; front = own_then; not_closed = has.not_closed }

  -- the cursor behind the call
  pub after_call : is_close e ≡ false → HasCursor new k (with_held held r)
  after_call open_still = record {
    has_seen = has_seen;
    earlier = has.earlier;
    feed = has.feed;
    start = has.start;
    since = has.since ++ entry ∷ [];
    own_are = own_then;
    not_closed = All-push (λ (one : Entry). (is_about k one && is_close one.event) ≡ false) has.since entry has.not_closed (λ i. about i && open_still i);
    holds = over_own-push k with_held None has.since entry about ∙ ap (λ (h : Option ℕ). with_held h r) has.holds;
  }

  pub came : (p : Point) × IsCalledAt new q entry p × IsAnsweredAt p entry
  unfolding at
  came = answered new has_seen q at entry [] refl about ObeysLaw-legal

  abbrev p : Point
  p = came.0

  abbrev called : IsCalledAt new q entry p
  called = came.1

  -- what it holds there
  held_there : held_number (hold_of p) ≡ held
  held_there = (agrees new q p called.at).held ∙ has.holds

  -- the history up to there, and behind it
  history_is : history_of p ++ (entry ∷ called.later) ≡ seen
  history_is = ap (λ (es : List Entry). history_of p ++ es) (sym called.next) ∙ called.at.is_point.front

  legal_there : IsLegal p.arena p.slots (history_of p ++ entry ∷ called.later)
  legal_there = coe 0 1 (i. IsLegal (sym called.at.is_point.same_arena i) (sym called.at.is_point.same_slots i) (sym history_is i)) has_seen.legal

  entry_there : IsLegal p.arena p.slots (history_of p) × IsAnswered (state_at p) entry
  entry_there =
      let parts = (IsLegalFrom-append (history_of p) (entry ∷ called.later) (empty p.arena p.slots)).0 legal_there in
      (parts.0, parts.1.0)

  -- a row there is one behind the call
  row_then : (n : ℕ) (product : Product) (time : ℕ) → HasRow n product time (state_at p) → HasRow n product time (after old.arena old.slots seen)
  row_then n product time h = coe 0 1 (i. HasRow n product time (after (called.at.is_point.same_arena i) (called.at.is_point.same_slots i) (history_is i)))
      (stays p.arena p.slots (history_of p) (entry ∷ called.later) legal_there n product time h)

  pub not_no_cursor : r ≢ reply.NoCursor
  not_no_cursor = came.2.has_cursor

  -- the product that a step gave is the row of its number
  pub gives : (n time : ℕ) (info : Metadata) → r ≡ reply.Product n time info → is_close e ≡ false
      → (body : List ℕ) × HoldsProduct new k n time (record { info = info; body = body })
  gives n time info is open_still =
      let found = came.2.next_given n time info is in
      let row : Row = found.row in
      let here : HasRow n row.product row.time (state_at p) = (row.place, found.is_row) in
      let same : HasRow n (record { info = info; body = row.product.body }) time (state_at p) =
      coe 0 1 (i. HasRow n (record { info = sym found.info_of_row i; body = row.product.body }) (sym found.time_of_row i) (state_at p)) here in
      let then_row = row_then n (record { info = info; body = row.product.body }) time same in (
        row.product.body,
        record {
          cursor = subst (λ (h : Option ℕ). HasCursor new k h) (ap (λ (a : Reply). with_held held a) is) (after_call open_still);
          row = then_row;
          whole = whole old.arena old.slots seen has_seen.legal n (record { info = info; body = row.product.body }) time then_row;
          fits = fits old.arena old.slots seen has_seen.legal n (record { info = info; body = row.product.body }) time then_row;
        },
      )

  -- a step of a cursor that holds nothing
  pub not_holding : held ≡ None → (n : ℕ) → is_step e ≡ true → r ≢ reply.Holding n
  not_holding none n a_step is = let there = (came.2.one_at_a_time n a_step).0 is in cc (there, held_there, none)

  -- a release of what it holds
  pub releases : (n : ℕ) → held ≡ Some n → is_release e ≡ true → r ≡ reply.Released n
  releases n some a_release = (came.2.released n).1 (a_release, held_there ∙ some)

  -- a read of what it holds
  module _ (n : ℕ) (some : held ≡ Some n) (product : Product) (time : ℕ) (row : HasRow n product time (after old.arena old.slots old.seen))
      (offset len : ℕ) (is_read : e ≡ event.Read k offset len) (within : offset ≤ product.info.size) where
    abbrev releasing : Entry
    releasing = record { actor = old.actor; event = event.Release k; reply = (release (state_at p) old.actor k).reply }

    legal_release : IsLegal p.arena p.slots (history_of p ++ releasing ∷ [])
    legal_release = (IsLegalFrom-append (history_of p) (releasing ∷ []) (empty p.arena p.slots)).1
        (entry_there.0, (record { actor = entry_there.1.actor; possible = (subst IsPossible is_read entry_there.1.possible).0; reply = refl }, tt))

    its_release : is_own p releasing ≡ true
    its_release =
        (λ i. (old.actor == called.at.owner i) && is_number (called.at.place i) (Some k))
        ∙ (λ i. eq-eqb old.actor old.actor refl i && eq-eqb k k refl i)

    holds_there : HoldsHere (state_at p) old.actor k n
    holds_there =
        let point : IsPointOf p.arena p.slots (history_of p ++ releasing ∷ []) p = record {
          same_arena = refl;
          same_slots = refl;
          rest = releasing ∷ [];
          front = refl;
          not_closed = called.at.is_point.not_closed;
        } in
        let law = ObeysLaw-legal p.arena p.slots (history_of p ++ releasing ∷ []) legal_release in
        let there : IsAnsweredAt p releasing = law.answered p point releasing [] refl its_release in
        holds-here (state_at p) old.actor k n ((there.released n).1 (refl, held_there ∙ some))

    row_there : (found : Row) × (row_of p n ≡ Some found)
    row_there =
        let hold = hold-there (hold_of p) n (held_there ∙ some) in
        let is : IsServed p = served ObeysLaw-legal new has_seen q at p called.at in
        let stays_is = subst (λ (h : Option Hold). IfSome h (λ one. (is_some one.place ≡ true) × (place_of_row (row_of p one.number) ≡ one.place))) hold.1 is.held_stays in
        let placed : place_of_row (row_of p n) ≡ hold.0.place = subst (λ (m : ℕ). place_of_row (row_of p m) ≡ hold.0.place) hold.2 stays_is.1 in
        row-there (row_of p n) hold.0.place placed stays_is.0

    row_still : HasRow n product time (after old.arena old.slots seen)
    row_still = row_later old seen has_seen adds.begins n product time row

    same_product : row_there.0.product ≡ product
    same_product =
        let found = row_there.0 in
        let there = row_then n found.product found.time (found.place, row_there.1) in
        ap (λ (one : Row). one.product) (same_Some _ _ (sym there.1 ∙ row_still.1))

    pub reads : r ≡ reply.Bytes (part_of product offset len)
    reads =
        let found = row_there.0 in
        let fits_there : offset ≤ found.product.info.size = subst (λ (one : Product). offset ≤ one.info.size) (sym same_product) within in
        entry_there.1.reply
        ∙ (ap (λ (one : Event). (next (state_at p) old.actor one).reply) is_read
        ∙ (reads-row (state_at p) old.actor k n offset len found holds_there row_there.1 fits_there
        ∙ ap (λ (one : Product). reply.Bytes (part_of one offset len)) same_product))
