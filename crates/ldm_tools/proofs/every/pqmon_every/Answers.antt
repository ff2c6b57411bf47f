use Rattle.std.proofs.Common.{◌≡◌, ◌≤◌, ◌<◌, ◌+◌, ◌*◌, ℕ, rules, arith, sym, subst}
use Rattle.ldm_outside.specs.Clock.{Answers, ClockRecord}
use Rattle.ldm_outside.specs.Dial.{Asked}
use Rattle.ldm_tools.specs.Mon.{Mons, mon_tells}
use Rattle.ldm_tools.specs.Every.{moment_of}
use Rattle.ldm_tools.proofs.Going.{counts_same, counts_then, goes_again, goes_first, goes_well, stands_at}
use Rattle.ldm_tools.proofs.every.pqmon_every.Goals as goal

pub loop-alloc-init : goal.loop-alloc-init
loop-alloc-init g c =
    let mon = mon_tells g.N.Dial.tells g.K.Sink.tells g.E.Sink.tells c.args.net.now c.args.sink.now c.args.log.now in
    let clock = g.C.Clock.tells c.args.clock.now in
    let now = g.C.Clock.tells c.now.new.self in
    let peer : Asked = record { host = c.args.host.now; port = c.args.port } in
    let P : ℕ → Type 0 = λ instant. Answers instant clock now in
    let told : Answers c.get-instant.result clock now = subst P (sym c.get-instant.ensures.value) c.now.ensures in
    record {
      goes = goes_first peer c.args.seconds c.get-instant.result (moment_of mon clock) now told;
      kept = counts_same mon;
      none_out = c.requires.none_out;
      an_instant = search rules;
    }

pub returns-then-instant-due-clause-ends : goal.returns-then-instant-due-clause-ends
returns-then-instant-due-clause-ends g c =
    let of = mon_tells g.N.Dial.tells g.K.Sink.tells g.E.Sink.tells in
    let tells = g.C.Clock.tells in
    let peer : Asked = record { host = c.args.host.now; port = c.args.port } in
    let old = moment_of (of c.args.net.now c.args.sink.now c.args.log.now) (tells c.args.clock.now) in
    let mid = moment_of (of c.loop-alloc.net c.loop-alloc.sink c.loop-alloc.log) (tells c.loop-alloc.clock) in
    let mon = of c.pqmon-code.new.net c.pqmon-code.new.sink c.pqmon-code.new.log in
    let next = c.get-instant-in-loop-alloc.result in
    let now = tells c.now-in-loop-alloc.new.self in
    let is_zero : c.pqmon-code.result ≡ 0 = search rules in
    let Q : ℕ → Type 0 = λ code. Mons code peer mid.mon mon in
    let well = goes_well peer mid.mon mon (subst Q is_zero c.pqmon-code.ensures.ends) in
    let P : ℕ → Type 0 = λ instant. Answers instant (tells c.rest.new.self) now in
    let R : ClockRecord → Type 0 = λ clock. Answers next clock now in
    let told : Answers next (tells c.loop-alloc.clock) now = subst R c.rest.ensures (subst P (sym c.get-instant-in-loop-alloc.ensures.value) c.now-in-loop-alloc.ensures) in
    let early : next < c.loop-alloc.instant + c.args.seconds * 1000000 = (let rest = c.from-rest.ensures in let before = c.if-instant-due.true in omega arith) in
    stands_at peer c.args.seconds c.loop-alloc.instant old mid mon c.loop-alloc.invariant.goes well next now early told

pub loop-alloc-preserved : goal.loop-alloc-preserved
loop-alloc-preserved g c =
    let of = mon_tells g.N.Dial.tells g.K.Sink.tells g.E.Sink.tells in
    let tells = g.C.Clock.tells in
    let peer : Asked = record { host = c.args.host.now; port = c.args.port } in
    let old = moment_of (of c.args.net.now c.args.sink.now c.args.log.now) (tells c.args.clock.now) in
    let mid = moment_of (of c.loop-alloc.net c.loop-alloc.sink c.loop-alloc.log) (tells c.loop-alloc.clock) in
    let mon = of c.pqmon-code.new.net c.pqmon-code.new.sink c.pqmon-code.new.log in
    let next = c.get-instant-in-loop-alloc.result in
    let now = tells c.now-in-loop-alloc.new.self in
    let is_zero : c.pqmon-code.result ≡ 0 = search rules in
    let Q : ℕ → Type 0 = λ code. Mons code peer mid.mon mon in
    let well = goes_well peer mid.mon mon (subst Q is_zero c.pqmon-code.ensures.ends) in
    let P : ℕ → Type 0 = λ instant. Answers instant (tells c.rest.new.self) now in
    let R : ClockRecord → Type 0 = λ clock. Answers next clock now in
    let told : Answers next (tells c.loop-alloc.clock) now = subst R c.rest.ensures (subst P (sym c.get-instant-in-loop-alloc.ensures.value) c.now-in-loop-alloc.ensures) in
    let due : c.loop-alloc.instant + c.args.seconds * 1000000 ≤ next = (let rest = c.from-rest.ensures in let before = c.if-instant-due.false in omega arith) in
    record {
      goes = goes_again peer c.args.seconds c.loop-alloc.instant old mid mon c.loop-alloc.invariant.goes well next now due told;
      kept = counts_then old.mon mid.mon mon c.loop-alloc.invariant.kept c.pqmon-code.ensures.counts_kept;
      none_out = c.pqmon-code.ensures.none_out;
      an_instant = search rules;
    }
