use Rattle.std.proofs.Common.{◌≡◌, ◌∙◌, ◌-◌, ◌<◌, ◌≤◌, None, length, map, sym, arith}
use Rattle.std.proofs.lemmas.List.{get_or_append_left, get_or-append_right, get_or-map, length-map}
use Rattle.ldm_book.specs.Spans.{held_span, reserved_span, span_of}
use Rattle.ldm_book.proofs.book.Book.span_at.Goals as goal

pub returns-then-place-lt-COUNT-clause-span : goal.returns-then-place-lt-COUNT-clause-span
returns-then-place-lt-COUNT-clause-span c =
    let book = c.args.self.now in
    let front = map (held_span book.rows) book.cursors in
    let long = length-map book.cursors (held_span book.rows) in
    let inside : c.args.place < length book.cursors = omega (arith, c.held_span.ensures.many, c.if-place-lt-COUNT.true) in
    c.held_span.ensures.span
    ∙ sym (get_or-map (held_span book.rows) book.cursors c.args.place None (span_of None) inside)
    ∙ sym (get_or_append_left front (map reserved_span book.reservations) (span_of None) c.args.place (omega (arith, long, inside)))

pub returns-then-place-lt-COUNT-clause-reservations : goal.returns-then-place-lt-COUNT-clause-reservations
returns-then-place-lt-COUNT-clause-reservations c = λ behind. absurd (omega (arith, c.if-place-lt-COUNT.true))

pub returns-else-place-lt-COUNT-clause-span : goal.returns-else-place-lt-COUNT-clause-span
returns-else-place-lt-COUNT-clause-span c =
    let book = c.args.self.now in
    let front = map (held_span book.rows) book.cursors in
    let many = c.requires.many (omega (arith, c.if-place-lt-COUNT.false)) in
    let long : length front ≡ 64 = length-map book.cursors (held_span book.rows) ∙ many in
    let behind : 64 ≤ c.args.place = omega (arith, c.if-place-lt-COUNT.false) in
    let inside : c.args.place - 64 < length book.reservations = omega (arith, c.reserved_span.ensures.many, c.requires.place) in
    c.reserved_span.ensures.span
    ∙ sym (get_or-map reserved_span book.reservations (c.args.place - 64) None (span_of None) inside)
    ∙ sym (get_or-append_right front (map reserved_span book.reservations) 64 c.args.place (span_of None) long behind)

pub returns-else-place-lt-COUNT-clause-cursors : goal.returns-else-place-lt-COUNT-clause-cursors
returns-else-place-lt-COUNT-clause-cursors c = c.requires.many (omega (arith, c.if-place-lt-COUNT.false))

pub returns-else-place-lt-COUNT-clause-reservations : goal.returns-else-place-lt-COUNT-clause-reservations
returns-else-place-lt-COUNT-clause-reservations c = λ behind. c.reserved_span.ensures.many
