use Rattle.std.proofs.Common.{inr}
use Rattle.ldm_shared.proofs.Finishing.{answers_all, even, all_seen, is_taken, last_kept, last_is, last_all, last_stands}
use Rattle.ldm_shared.proofs.shared.Shared.finish.Goals as goal

pub try_take-requires-clause-even : goal.try_take-requires-clause-even
try_take-requires-clause-even c =
    even c.args.self c.gather_all-actor.result.1.me.0 c.see-word.new.seat.me.0 c.see-word.result c.gather_all-actor.ensures.sized (answers_all c.args.self c.args.passes.items c.gather_all-actor.result.1.me.0 c.requires c.gather_all-actor.ensures.sized c.gather_all-actor.ensures.all) c.see-word.ensures.sees

pub try_take-requires-clause-may : goal.try_take-requires-clause-may
try_take-requires-clause-may c =
    inr (all_seen c.args.self c.gather_all-actor.result.1.me.0 c.see-word.new.seat.me.0 c.see-word.result c.gather_all-actor.ensures.sized (answers_all c.args.self c.args.passes.items c.gather_all-actor.result.1.me.0 c.requires c.gather_all-actor.ensures.sized c.gather_all-actor.ensures.all) c.see-word.ensures.sees)

pub take_out-book-requires-clause-taken : goal.take_out-book-requires-clause-taken
take_out-book-requires-clause-taken c =
    is_taken c.args.self c.gather_all-actor.result.1.me.0 c.see-word.new.seat.me.0 c.see-word.result c.gather_all-actor.ensures.sized (answers_all c.args.self c.args.passes.items c.gather_all-actor.result.1.me.0 c.requires c.gather_all-actor.ensures.sized c.gather_all-actor.ensures.all) c.see-word.ensures.sees
    c.try_take.new.seat c.try_take.result c.try_take.ensures.taken c.try_take.ensures.sees

pub invariant_of-result : goal.invariant_of-result
invariant_of-result c =
    last_kept c.args.self c.gather_all-actor.result.1.me.0 c.see-word.new.seat.me.0 c.see-word.result c.gather_all-actor.ensures.sized (answers_all c.args.self c.args.passes.items c.gather_all-actor.result.1.me.0 c.requires c.gather_all-actor.ensures.sized c.gather_all-actor.ensures.all) c.see-word.ensures.sees
    c.try_take.new.seat c.try_take.result c.try_take.ensures.taken c.try_take.ensures.sees
    c.gather_all-actor.result.0 c.take_out-book.new.seat c.take_out-book.ensures.empty

pub returns-clause-last : goal.returns-clause-last
returns-clause-last c =
    last_is c.args.self c.gather_all-actor.result.1.me.0 c.see-word.new.seat.me.0 c.see-word.result c.gather_all-actor.ensures.sized (answers_all c.args.self c.args.passes.items c.gather_all-actor.result.1.me.0 c.requires c.gather_all-actor.ensures.sized c.gather_all-actor.ensures.all) c.see-word.ensures.sees
    c.try_take.new.seat c.try_take.result c.try_take.ensures.taken c.try_take.ensures.sees
    c.gather_all-actor.result.0 c.take_out-book.new.seat c.take_out-book.ensures.empty

pub returns-clause-all : goal.returns-clause-all
returns-clause-all c =
    last_all c.args.self c.gather_all-actor.result.1.me.0 c.see-word.new.seat.me.0 c.see-word.result c.gather_all-actor.ensures.sized (answers_all c.args.self c.args.passes.items c.gather_all-actor.result.1.me.0 c.requires c.gather_all-actor.ensures.sized c.gather_all-actor.ensures.all) c.see-word.ensures.sees
    c.try_take.new.seat c.try_take.result c.try_take.ensures.taken c.try_take.ensures.sees
    c.gather_all-actor.result.0 c.take_out-book.new.seat c.take_out-book.ensures.empty
    c.args.passes.items c.gather_all-actor.ensures.all

pub returns-clause-stands : goal.returns-clause-stands
returns-clause-stands c =
    last_stands c.args.self c.gather_all-actor.result.1.me.0 c.see-word.new.seat.me.0 c.see-word.result c.gather_all-actor.ensures.sized (answers_all c.args.self c.args.passes.items c.gather_all-actor.result.1.me.0 c.requires c.gather_all-actor.ensures.sized c.gather_all-actor.ensures.all) c.see-word.ensures.sees
    c.try_take.new.seat c.try_take.result c.try_take.ensures.taken c.try_take.ensures.sees
    c.gather_all-actor.result.0 c.take_out-book.new.seat c.take_out-book.ensures.empty
    c.take_out-book.result c.take_out-book.ensures.stands
