use Rattle.std.proofs.Common.{◌≡◌, ◌∙◌, Option, None, drop, length, map, sym, ap, subst, arith}
use Rattle.std.specs.Prelude.{filter}
use Rattle.std.specs.List.{All}
use Rattle.std.proofs.lemmas.List.{length-append, length-map, take_all}
use Rattle.ldm_types.specs.Cursors.{KeptCursor}
use Rattle.ldm_cursor.specs.Places.{held_of}
use Rattle.ldm_book.specs.View.{BookView, open_kept}
use Rattle.ldm_book.specs.Spans.{held_span, held_spans, is_some_part, reserved_span}
use Rattle.ldm_book.proofs.GatherLemmas.{parts-cursors, parts-front, parts-unreserved}
use Rattle.ldm_book.proofs.book.Book.gather_held.Goals as goal

pub gather_places-requires-clause-known : goal.gather_places-requires-clause-known
gather_places-requires-clause-known c =
    let book = c.args.self.now in
    let end = c.held_end.ensures in
    let many = sym (ap (λ (v : BookView). length v.cursors) c.self.view_is) ∙ end.many in
    let free =
    subst
    (λ (v : BookView). All (λ (place : Option KeptCursor). held_of place ≡ None) (drop c.held_end.result v.cursors))
    c.self.view_is end.free in
    c.gather_places-count.ensures.spans
    ∙ parts-front book.rows book.cursors book.reservations many c.held_end.result end.bound free
    ∙ sym (parts-cursors book.rows book.cursors book.reservations many)

pub returns-then-reserved-eq0-clause-spans : goal.returns-then-reserved-eq0-clause-spans
returns-then-reserved-eq0-clause-spans c =
    let book = c.args.self.now in
    let end = c.held_end.ensures in
    let many = sym (ap (λ (v : BookView). length v.cursors) c.self.view_is) ∙ end.many in
    let free =
    subst
    (λ (v : BookView). All (λ (place : Option KeptCursor). held_of place ≡ None) (drop c.held_end.result v.cursors))
    c.self.view_is end.free in
    let reserved = sym (ap (λ (v : BookView). length (open_kept v.reservations)) c.self.view_is) in
    c.gather_places-count.ensures.spans
    ∙ parts-front book.rows book.cursors book.reservations many c.held_end.result end.bound free
    ∙ parts-unreserved book.rows book.cursors book.reservations many
    (omega (arith, reserved, c.count_reserved-reserved.ensures.count, c.if-reserved-eq0.true))

pub returns-clause-spans : goal.returns-clause-spans
returns-clause-spans c =
    let book = c.args.self.now in
    let all = held_spans book.rows book.cursors book.reservations in
    let cursors : length book.cursors ≡ 64 =
    sym (ap (λ (v : BookView). length v.cursors) c.self.view_is) ∙ c.held_end.ensures.many in
    let reservations : length book.reservations ≡ 64 =
    sym (ap (λ (v : BookView). length v.reservations) c.self.view_is) ∙ c.count_reserved-reserved.ensures.many in
    let front = length-map book.cursors (held_span book.rows) in
    let behind = length-map book.reservations reserved_span in
    let many : length all ≡ 128 =
    omega (
      arith,
      cursors,
      reservations,
      front,
      behind,
      length-append (map (held_span book.rows) book.cursors) (map reserved_span book.reservations),
    ) in
    c.gather_places.ensures.spans ∙ ap (filter is_some_part) (take_all 128 all (omega (arith, many)))
