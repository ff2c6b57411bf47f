use Rattle.std.proofs.Common.{◌∙◌, ◌^◌, ◌<◌, inl, refl, arith}
use Rattle.ldm_shared.proofs.Taking.{goes_on_self, goes_on_sees, history_sees, waits_ready, waits_sees, has_taken, seen_all, taken_goes_on, can_call, still_goes_on, still_worn, still_can_call}
use Rattle.ldm_shared.proofs.shared.Shared.take.Goals as goal

pub loop-init : goal.loop-init
loop-init g c = record {
  same = record { table = refl; id = refl };
  idle = c.requires.ready.idle;
  free = c.requires.ready.free;
  goes_on = goes_on_self c.args.seat.now.me.0 c.requires.olds;
}

pub see-word-requires : goal.see-word-requires
see-word-requires g c = waits_ready c.args.self.now c.args.seat.now c.loop.seat c.requires.ready c.loop.invariant

pub returns-then-word-ge-WORN-clause-goes_on : goal.returns-then-word-ge-WORN-clause-goes_on
returns-then-word-ge-WORN-clause-goes_on g c = still_goes_on c.args.self.now c.see-word.new.seat c.take_over.new.seat c.take_over.ensures.same c.take_over.ensures.me c.args.seat.now.me.0 (
  goes_on_sees c.args.seat.now.me.0 c.loop.seat.me.0 c.see-word.new.seat.me.0 c.see-word.result c.loop.invariant.goes_on c.see-word.ensures.sees,
  history_sees c.loop.seat.me.0 c.see-word.new.seat.me.0 c.see-word.result c.see-word.ensures.sees,
)

pub returns-then-word-ge-WORN-clause-worn : goal.returns-then-word-ge-WORN-clause-worn
returns-then-word-ge-WORN-clause-worn g c = still_worn c.args.self.now c.see-word.new.seat c.take_over.new.seat c.take_over.ensures.same c.take_over.ensures.me (2 ^ 62) record {
  ready = waits_ready c.args.self.now c.args.seat.now c.see-word.new.seat c.requires.ready
      (waits_sees c.args.seat.now c.loop.seat c.see-word.new.seat c.see-word.result c.loop.invariant c.see-word.ensures.same c.see-word.ensures.sees c.see-word.ensures.idle);
  turns_are = refl;
  long = seen_all c.loop.seat.me.0 c.see-word.new.seat.me.0 c.see-word.result c.see-word.ensures.sees c.if-word-ge-WORN.true;
}

pub try_take-requires : goal.try_take-requires
try_take-requires g c =
    let waits = waits_sees c.args.seat.now c.loop.seat c.see-word.new.seat c.see-word.result c.loop.invariant c.see-word.ensures.same c.see-word.ensures.sees c.see-word.ensures.idle in
    let less : c.see-word.result < 2 ^ 63 = c.if-word-ge-WORN.false in
    record {
      ready = waits_ready c.args.self.now c.args.seat.now c.see-word.new.seat c.requires.ready waits;
      even = c.if-word-eq0.true;
      room = omega (arith, less);
      may = inl ((c.requires.one.0, waits.goes_on.actors ∙ c.requires.one.1), less);
    }

pub returns-then-try_take-word-clause-goes_on : goal.returns-then-try_take-word-clause-goes_on
returns-then-try_take-word-clause-goes_on g c =
    let waits = waits_sees c.args.seat.now c.loop.seat c.see-word.new.seat c.see-word.result c.loop.invariant c.see-word.ensures.same c.see-word.ensures.sees c.see-word.ensures.idle in
    still_goes_on c.args.self.now c.try_take.new.seat c.speak.new.seat c.speak.ensures.same c.speak.ensures.me c.args.seat.now.me.0
    (taken_goes_on c.args.self.now c.args.seat.now c.see-word.new.seat c.try_take.new.seat c.try_take.result c.requires.ready waits
    c.try_take.ensures.same c.try_take.ensures.sees
    (has_taken c.try_take.new.seat.me.0 c.try_take.new.seat.me.1 c.try_take.result c.see-word.result c.if-try_take-word.true c.try_take.ensures.taken))

pub returns-then-try_take-word-clause-taken : goal.returns-then-try_take-word-clause-taken
returns-then-try_take-word-clause-taken g c =
    let waits = waits_sees c.args.seat.now c.loop.seat c.see-word.new.seat c.see-word.result c.loop.invariant c.see-word.ensures.same c.see-word.ensures.sees c.see-word.ensures.idle in
    let less : c.see-word.result < 2 ^ 63 = c.if-word-ge-WORN.false in
    still_can_call c.args.self.now c.try_take.new.seat c.speak.new.seat c.speak.ensures.same c.speak.ensures.me
    (can_call c.args.self.now c.args.seat.now c.see-word.new.seat c.try_take.new.seat c.try_take.result c.requires.ready waits
    c.try_take.ensures.same c.try_take.ensures.sees
    (has_taken c.try_take.new.seat.me.0 c.try_take.new.seat.me.1 c.try_take.result c.see-word.result c.if-try_take-word.true c.try_take.ensures.taken)
    (omega (arith, c.if-try_take-word.true, less)))
