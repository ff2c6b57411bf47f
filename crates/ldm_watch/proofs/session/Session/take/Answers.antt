use Rattle.std.proofs.Common.{◌≡◌, ◌<◌, ℕ, List, Option, Some, length, take, ap, subst, arith}
use Rattle.std.specs.Option.{ForSome}
use Rattle.std.proofs.lemmas.List.{length-take-le}
use Rattle.ldm_types.specs.declared.class.ClassSpec.{ClassSpec}
use Rattle.ldm_watch.specs.declared.stop.Stop.{Stop}
use Rattle.ldm_watch.specs.Outside.{WatchRecord, watch_tells}
use Rattle.ldm_watch.specs.Sessions.{HasGiven, RunsOn}
use Rattle.ldm_watch.specs.Taking.{standing}
use Rattle.ldm_watch.specs.Turns.{EndsIn, Passes}
use Rattle.ldm_watch.proofs.Rounds.{round-memory}
use Rattle.ldm_watch.proofs.Turned.{if-none, moves, take-on, take-over}
use Rattle.ldm_watch.proofs.session.Session.take.Goals as goal

pub returns-in-None-clause-moves : goal.returns-in-None-clause-moves
returns-in-None-clause-moves g c =
    let self = c.args.self.now in
    let before = standing self.stream.watching self.out self.lines in
    let b = standing c.take_piece.new.self.watching c.take_piece.new.out c.take_piece.new.lines in
    let bytes = take c.args.count c.deref.result.now in
    let len : length bytes ≡ c.args.count = length-take-le c.args.count c.deref.result.now (omega (arith, c.requires.count, c.deref.ensures.len)) in
    let some : 0 < length bytes = omega (arith, len, c.requires.count) in
    let moved = moves bytes self.stream.hand c.take_piece.new.self.hand before b some c.in-None.ensures in
    if-none c.write.result (rw c.write.ensures.same.0 moved)

pub returns-in-None-clause-takes : goal.returns-in-None-clause-takes
returns-in-None-clause-takes g c = λ sought old begins some runs given.
    let self = c.args.self.now in
    let b = standing c.take_piece.new.self.watching c.take_piece.new.out c.take_piece.new.lines in
    let mid = watch_tells g.K.Link.tells g.S.Sink.tells c.args.link.now c.args.sink.now in
    let after = watch_tells g.K.Link.tells g.S.Sink.tells c.write.new.link c.write.new.sink in
    take-on sought some old self.stream begins mid runs (take c.args.count c.deref.result.now) (take c.args.count self.piece.items) self.out.items self.lines.items
    (ap (λ (xs : List ℕ). take c.args.count xs) c.deref.ensures.value) c.requires.ready.no_out c.requires.ready.no_lines given
    c.take_piece.new.self.hand b c.write.new.self.stream c.write.result after c.in-None.ensures c.write.ensures.same.0 c.write.ensures.writes c.write.ensures.counts

pub returns-in-Some-Over-clause-takes : goal.returns-in-Some-Over-clause-takes
returns-in-Some-Over-clause-takes g c = λ sought old begins some runs given.
    let self = c.args.self.now in
    let before = standing self.stream.watching self.out self.lines in
    let b = standing c.take_piece.new.self.watching c.take_piece.new.out c.take_piece.new.lines in
    let mid = watch_tells g.K.Link.tells g.S.Sink.tells c.args.link.now c.args.sink.now in
    let after = watch_tells g.K.Link.tells g.S.Sink.tells c.write_last.new.link c.write_last.new.sink in
    let bytes = take c.args.count c.deref.result.now in
    let ends : EndsIn c.in-Some-Over.end bytes self.stream.hand before b =
    subst (λ (s : Stop). Passes (Some s) bytes self.stream.hand c.take_piece.new.self.hand before b) c.in-Some-Over.field-0-is c.in-Some-Over.ensures in
    take-over sought some old self.stream begins mid runs bytes (take c.args.count self.piece.items) self.out.items self.lines.items
    (ap (λ (xs : List ℕ). take c.args.count xs) c.deref.ensures.value) c.requires.ready.no_out c.requires.ready.no_lines given
    c.in-Some-Over.end c.write_last.result b after ends c.write_last.ensures.writes

pub returns-in-Some-OutOfMemory-clause-takes : goal.returns-in-Some-OutOfMemory-clause-takes
returns-in-Some-OutOfMemory-clause-takes g c = λ sought old begins some runs given.
    round-memory sought some old c.args.self.now.stream begins runs (take c.args.count c.args.self.now.piece.items)
    (watch_tells g.K.Link.tells g.S.Sink.tells c.args.link.now c.args.sink.now) given
