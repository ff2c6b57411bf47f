use Rattle.std.proofs.Common.{◌∙◌, ◌+◌, ℕ, List, length, refl, sym, ap, arith, length-drop}
use Rattle.std.specs.Prelude.{is_some}
use Rattle.ldm_book.specs.Products.{room_for}
use Rattle.ldm_book.specs.Readers.{products, unheld_numbers}
use Rattle.ldm_book.proofs.BookLemmas.{room_seen, sound_apart}
use Rattle.ldm_book.proofs.FreeLemmas.{ahead_zero, first-there}
use Rattle.ldm_book.proofs.RoomLemmas.{evicted_more, evicted_none, next_evicted, room_none, some_room}
use Rattle.ldm_book.proofs.book.Book.make_room.Goals as goal

pub returns-then-has_room-clause-made : goal.returns-then-has_room-clause-made
returns-then-has_room-clause-made c = record {
  free = omega arith;
  needed = λ i h. absurd (omega arith);
  room = sym (c.has_room.ensures ∙ ap is_some (room_seen c.self.inside c.self.invariant c.args.self.now c.args.need c.self.view_is)) ∙ c.if-has_room.true;
  new_is = refl;
}

pub returns-then-has_room-clause-apart : goal.returns-then-has_room-clause-apart
returns-then-has_room-clause-apart c = sound_apart c.self.inside c.self.invariant c.args.self.now c.self.view_is

pub returns-then-not-has_room_beside_held-clause-locked : goal.returns-then-not-has_room_beside_held-clause-locked
returns-then-not-has_room_beside_held-clause-locked c = λ none. sym c.has_room_beside_held.ensures ∙ c.if-not-has_room_beside_held.true

pub returns-then-not-has_room_beside_held-clause-apart : goal.returns-then-not-has_room_beside_held-clause-apart
returns-then-not-has_room_beside_held-clause-apart c = sound_apart c.self.inside c.self.invariant c.args.self.now c.self.view_is

pub loop-n-init : goal.loop-n-init
loop-n-init c =
    let none = sym (c.has_room.ensures ∙ ap is_some (room_seen c.self.inside c.self.invariant c.args.self.now c.args.need c.self.view_is)) ∙ c.if-has_room.false in
    evicted_none c.args.self.now c.args.need (ahead_zero c.args.self.now.cursors c.args.self.now.rows) (room_none (room_for (products c.args.self.now) c.args.need) none)

pub evict-requires-clause-queued : goal.evict-requires-clause-queued
evict-requires-clause-queued c = (first-there c.loop-n.self.cursors c.loop-n.self.rows c.in-Some.n (sym c.in-Some.ensures.first)).0

pub evict-requires-clause-free : goal.evict-requires-clause-free
evict-requires-clause-free c = (first-there c.loop-n.self.cursors c.loop-n.self.rows c.in-Some.n (sym c.in-Some.ensures.first)).1

pub overflow_add-evicted : goal.overflow_add-evicted
overflow_add-evicted c = omega (arith, c.loop-n.invariant.count, c.in-Some.ensures.above, c.in-Some.ensures.small)

pub overflow_add-from : goal.overflow_add-from
overflow_add-from c = omega (arith, c.in-Some.ensures.small)

pub returns-then-has_room-2-clause-made : goal.returns-then-has_room-2-clause-made
returns-then-has_room-2-clause-made c =
    let next =
    next_evicted c.args.self.now c.loop-n.self c.evict.new.self c.args.need c.loop-n.from c.in-Some.n c.loop-n.evicted c.loop-n.invariant
    c.in-Some.ensures.rising c.in-Some.ensures.ahead c.in-Some.ensures.first c.evict.ensures.evicted in
    record {
      free = next.few;
      needed = c.loop-n.invariant.needed;
      room = sym (c.has_room-in-Some.ensures ∙ ap is_some (room_seen c.self-in-Some.inside c.self-in-Some.invariant c.evict.new.self c.args.need c.self-in-Some.view_is)) ∙ c.if-has_room-2.true;
      new_is = next.now_is;
    }

pub loop-n-smaller : goal.loop-n-smaller
loop-n-smaller c =
    let next =
    next_evicted c.args.self.now c.loop-n.self c.evict.new.self c.args.need c.loop-n.from c.in-Some.n c.loop-n.evicted c.loop-n.invariant
    c.in-Some.ensures.rising c.in-Some.ensures.ahead c.in-Some.ensures.first c.evict.ensures.evicted in
    let now = ap (λ (ns : List ℕ). length ns) c.loop-n.invariant.left in
    let after = ap (λ (ns : List ℕ). length ns) next.left in
    omega (arith, now, after, next.few, length-drop c.loop-n.evicted (unheld_numbers c.args.self.now), length-drop (c.loop-n.evicted + 1) (unheld_numbers c.args.self.now))

pub loop-n-preserved : goal.loop-n-preserved
loop-n-preserved c =
    let next =
    next_evicted c.args.self.now c.loop-n.self c.evict.new.self c.args.need c.loop-n.from c.in-Some.n c.loop-n.evicted c.loop-n.invariant
    c.in-Some.ensures.rising c.in-Some.ensures.ahead c.in-Some.ensures.first c.evict.ensures.evicted in
    let none = sym (c.has_room-in-Some.ensures ∙ ap is_some (room_seen c.self-in-Some.inside c.self-in-Some.invariant c.evict.new.self c.args.need c.self-in-Some.view_is)) ∙ c.if-has_room-2.false in
    evicted_more c.args.self.now c.loop-n.self c.evict.new.self c.args.need c.loop-n.from c.in-Some.n c.loop-n.evicted c.loop-n.invariant c.in-Some.ensures.above next
    (room_none (room_for (products c.evict.new.self) c.args.need) none)

pub unreachable-requires : goal.unreachable-requires
unreachable-requires c =
    some_room c.args.self.now c.loop-n.self c.args.need c.loop-n.from c.loop-n.evicted c.loop-n.invariant c.in_default.ensures.first
    (sym c.has_room_beside_held.ensures ∙ c.if-not-has_room_beside_held.false)
