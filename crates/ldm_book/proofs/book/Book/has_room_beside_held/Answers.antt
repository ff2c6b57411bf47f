use Rattle.std.proofs.Common.{◌≡◌, ◌∙◌, ◌+◌, ◌++◌, ℕ, ◌<◌, ◌≤◌, Bool, true, false, cond, length, map, List, [], take, None, sym, ap, subst, arith, ltb}
use Rattle.std.specs.Prelude.{filter, is_some}
use Rattle.std.specs.List.{All}
use Rattle.std.proofs.lemmas.Bool.{lt-ltb, le-ltb}
use Rattle.std.proofs.lemmas.List.{nil_from_length}
use Rattle.std.proofs.lemmas.List.Elements.{All-filter}
use Rattle.ldm_types.specs.Arena.{fit}
use Rattle.ldm_cursor.specs.Places.{count_held}
use Rattle.ldm_book.specs.declared.spans.Span.{Span}
use Rattle.ldm_book.specs.declared.book.Book.TheInside.{Inside}
use Rattle.ldm_book.specs.View.{BookView, Kept, KeptReservation, open_kept}
use Rattle.ldm_book.specs.Products.{kept_region, occupied_by, reserved_region, room_for}
use Rattle.ldm_book.specs.Readers.{held_products, is_kept_held}
use Rattle.ldm_book.specs.Sound.{IsSound, view_of}
use Rattle.ldm_book.specs.Spans.{has_gap, held_spans, is_some_part}
use Rattle.ldm_book.proofs.CountLemmas.{count-rows}
use Rattle.ldm_book.proofs.FoundLemmas.{spans_within}
use Rattle.ldm_book.proofs.HeldRoomLemmas.{gap-is}
use Rattle.ldm_book.proofs.IsTimedLemmas.{timed_below}
use Rattle.ldm_book.proofs.PartLemmas.{gap-parts, room-free}
use Rattle.ldm_book.proofs.StoredLemmas.{headed, headed_reserved}
use Rattle.ldm_book.proofs.book.Book.has_room_beside_held.Goals as goal

-- the products that are held, how many regions these and the reservations are, and whether there is room beside them
module _ (b : Inside) (sound : IsSound b) where
  abbrev held : List Kept
  held = filter (is_kept_held b.cursors) b.products.rows

  abbrev taken : ℕ
  taken = length held + length (open_kept b.products.reservations)

  counted : (book : BookView) (count : ℕ) → view_of b ≡ book → count ≡ count_held book.cursors + length (open_kept book.reservations) → count ≡ taken
  counted book count is all =
      let rows = count-rows b.admitted b.products.rows b.cursors sound.rising (timed_below b.last b.admitted b.products.rows sound.timed) sound.readers in
      let same = ap (λ (v : BookView). count_held v.cursors + length (open_kept v.reservations)) is in
      omega (arith, rows, all, same)

  room-is : (book : BookView) (need : ℕ) (answer : Bool) → view_of b ≡ book
      → answer ≡ is_some (cond (ltb taken b.products.slots) (fit need (occupied_by held b.products.reservations) b.products.arena) None) → answer ≡ is_some (room_for (held_products book) need)
  room-is book need answer is room =
      room
      ∙ ap (λ (a : ℕ). is_some (cond (ltb taken b.products.slots) (fit need (occupied_by held b.products.reservations) a) None)) (sym sound.arena)
      ∙ ap (λ (v : BookView). is_some (room_for (held_products v) need)) is

  full : (need : ℕ) → b.products.slots ≤ taken → false ≡ is_some (cond (ltb taken b.products.slots) (fit need (occupied_by held b.products.reservations) b.products.arena) None)
  full need many = sym (ap (λ (t : Bool). is_some (cond t (fit need (occupied_by held b.products.reservations) b.products.arena) None)) (le-ltb taken b.products.slots many))

  free : (need : ℕ) (answer : Bool) → taken < b.products.slots → answer ≡ is_some (fit need (occupied_by held b.products.reservations) b.products.arena)
      → answer ≡ is_some (cond (ltb taken b.products.slots) (fit need (occupied_by held b.products.reservations) b.products.arena) None)
  free need answer few fits = fits ∙ sym (ap (λ (t : Bool). is_some (cond t (fit need (occupied_by held b.products.reservations) b.products.arena) None)) (lt-ltb taken b.products.slots few))

  nothing : (need : ℕ) → 0 < need → need ≤ b.products.arena → taken ≡ 0 → true ≡ is_some (fit need (occupied_by held b.products.reservations) b.products.arena)
  nothing need some inside none =
      let rows : held ≡ [] = nil_from_length held (omega arith) in
      let reserved : open_kept b.products.reservations ≡ [] = nil_from_length (open_kept b.products.reservations) (omega arith) in
      sym (room-free need b.products.arena some inside)
      ∙ sym (ap (λ (ks : List Kept). is_some (fit need (map kept_region ks ++ map reserved_region (open_kept b.products.reservations)) b.products.arena)) rows
      ∙ ap (λ (vs : List KeptReservation). is_some (fit need (map reserved_region vs) b.products.arena)) reserved)

pub has_gap-requires-clause-within : goal.has_gap-requires-clause-within
has_gap-requires-clause-within c =
    let inside = c.self.inside in
    let p = inside.products in
    let spans = c.gather_held-count.ensures.spans ∙ ap (λ (b : BookView). filter is_some_part (held_spans b.rows b.cursors b.reservations)) (sym c.self.view_is) in
    subst (λ (ss : List Span). All (λ (span : Span). span.back ≤ c.len.result) ss) (sym spans)
    (subst (λ (a : ℕ). All (λ (span : Span). span.back ≤ a) (filter is_some_part (held_spans p.rows inside.cursors p.reservations))) (sym c.self.invariant.arena ∙ sym c.len.ensures)
    (All-filter is_some_part (λ (span : Span). span.back ≤ p.arena) (held_spans p.rows inside.cursors p.reservations)
    (spans_within p.arena p.rows p.reservations inside.cursors c.self.invariant.apart)))

pub returns-then-held-slots : goal.returns-then-held-slots
returns-then-held-slots c =
    let b = c.self.inside in
    let sound = c.self.invariant in
    let count = counted b sound c.args.self.now c.count_held-held.result c.self.view_is c.count_held-held.ensures in
    room-is b sound c.args.self.now c.args.need false c.self.view_is (full b sound c.args.need (omega (arith, count, c.slots.ensures.slots, c.if-held-slots.true)))

pub returns-then-held-eq0 : goal.returns-then-held-eq0
returns-then-held-eq0 c =
    let b = c.self.inside in
    let sound = c.self.invariant in
    let count = counted b sound c.args.self.now c.count_held-held.result c.self.view_is c.count_held-held.ensures in
    room-is b sound c.args.self.now c.args.need true c.self.view_is
    (free b sound c.args.need true (omega (arith, count, c.slots.ensures.slots, c.if-held-slots.false))
    (nothing b sound c.args.need c.requires.some (omega (arith, c.requires.need, sound.arena, ap (λ (v : BookView). v.arena) c.self.view_is)) (omega (arith, count, c.if-held-eq0.true))))

pub returns : goal.returns
returns c =
    let b = c.self.inside in
    let sound = c.self.invariant in
    let p = b.products in
    let count = counted b sound c.args.self.now c.count_held-held.result c.self.view_is c.count_held-held.ensures in
    let all : List Span = held_spans p.rows b.cursors p.reservations in
    let parts = c.gather_held-count.ensures.spans ∙ ap (λ (v : BookView). filter is_some_part (held_spans v.rows v.cursors v.reservations)) (sym c.self.view_is) in
    let arena : c.len.result ≡ p.arena = c.len.ensures ∙ sound.arena in
    room-is b sound c.args.self.now c.args.need c.has_gap.result c.self.view_is
    (free b sound c.args.need c.has_gap.result (omega (arith, count, c.slots.ensures.slots, c.if-held-slots.false))
    (c.has_gap.ensures ∙ ap (λ (a : ℕ). has_gap c.args.need a (take c.gather_held-count.result c.gather_held-count.new.spans)) arena ∙ ap (has_gap c.args.need p.arena) parts
    ∙ gap-parts c.args.need p.arena all
    ∙ gap-is b.cursors b.admitted p.arena c.args.need p.rows p.reservations sound.rising sound.readers (headed b.arena.items p.rows sound.stored)
    (headed_reserved b.arena.items p.reservations sound.reserved) c.requires.some))
