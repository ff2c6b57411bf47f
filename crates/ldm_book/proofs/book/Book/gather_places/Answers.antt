use Rattle.std.proofs.Common.{◌≡◌, ◌∙◌, ℕ, ◌<◌, List, length, map, take, None, ap, arith}
use Rattle.std.specs.Prelude.{filter}
use Rattle.std.proofs.lemmas.Bool.{le-ltb, lt-ltb}
use Rattle.std.proofs.lemmas.List.{length-append, length-map}
use Rattle.ldm_book.specs.declared.spans.Span.{Span}
use Rattle.ldm_book.specs.Spans.{held_span, held_spans, is_some_part, reserved_span, span_of}
use Rattle.ldm_book.proofs.PartLemmas.{one_more, none_more}
use Rattle.ldm_book.proofs.book.Book.gather_places.Goals as goal
use Rattle.ldm_book.proofs.book.Book.gather_places.Goals.{then-span-gt0, else-span-gt0}

pub loop-place-preserved : goal.loop-place-preserved
loop-place-preserved c =
    let book = c.args.self.now in
    let all = held_spans book.rows book.cursors book.reservations in
    let spans : List Span = c.loop-place.spans in
    let place : ℕ = c.loop-place.place in
    let count : ℕ = c.loop-place.count in
    let front = length-map book.cursors (held_span book.rows) in
    let behind = length-map book.reservations reserved_span in
    let long = length-append (map (held_span book.rows) book.cursors) (map reserved_span book.reservations) in
    let inside : place < length all =
    omega (
      arith,
      c.requires.cursors,
      c.requires.reservations,
      c.requires.within,
      front,
      behind,
      long,
      c.loop-place-test.true,
    ) in
    let room : count < length spans =
    omega (arith, c.loop-place.invariant.few, c.loop-place.auto.spans, c.requires.long, c.loop-place-test.true) in
    record {
      known = elim c.if-span-gt0.branch [
        | then-span-gt0 w ↦
            (λ i. take (w.count-is i) (w.spans-is i))
            ∙ one_more spans all count place (span_of None) c.span_at-span.result room inside
            c.span_at-span.ensures.span (lt-ltb 0 c.span_at-span.result.back w.if-span-gt0.true)
            c.loop-place.invariant.known
        | else-span-gt0 w ↦
            (λ i. take (w.count-is i) (w.spans-is i))
            ∙ none_more spans all count place (span_of None) c.span_at-span.result inside
            c.span_at-span.ensures.span (le-ltb 0 c.span_at-span.result.back w.if-span-gt0.false)
            c.loop-place.invariant.known
      ];
      few = elim c.if-span-gt0.branch [ then-span-gt0 w ↦ omega arith | else-span-gt0 w ↦ omega arith ];
    }

pub returns-clause-spans : goal.returns-clause-spans
returns-clause-spans c =
    let book = c.args.self.now in
    let end : c.loop-place.place ≡ c.args.to = omega (arith, c.loop-place-test.false, c.requires.order) in
    c.loop-place.invariant.known
    ∙ ap (λ (place : ℕ). filter is_some_part (take place (held_spans book.rows book.cursors book.reservations))) end
