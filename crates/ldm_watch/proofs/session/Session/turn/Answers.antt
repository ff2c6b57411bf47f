use Rattle.std.proofs.Common.{◌≡◌, ◌≤◌, ℕ, List, ◌++◌, length, take, drop, refl, sym, subst, arith, rules}
use Rattle.ldm_watch.specs.declared.end.WatchEnd.{WatchEnd}
use Rattle.ldm_watch.specs.Outside.{watch_tells}
use Rattle.ldm_watch.specs.Sessions.{HasGiven}
use Rattle.ldm_watch.specs.Watches.{Watches}
use Rattle.ldm_watch.proofs.Turned.{take-into, gave-given, turn-ended, turn-failed}
use Rattle.ldm_watch.proofs.session.Session.turn.Goals as goal

pub returns-in-Bytes-clause-rounds : goal.returns-in-Bytes-clause-rounds
returns-in-Bytes-clause-rounds g c = λ sought old some runs.
    let begins = watch_tells g.K.Link.tells g.S.Sink.tells c.args.link.now c.args.sink.now in
    let before = watch_tells g.K.Link.tells g.S.Sink.tells c.recv.new.self c.args.sink.now in
    let n = c.in-Bytes.count in
    let into = c.recv.new.into in
    let items = c.args.self.now.piece.items in
    let came : n ≤ length into = c.in-Bytes.ensures.given.1 in
    let inside : n ≤ c.args.self.now.piece.len = first_of (omega arith, search rules, grind arith) in
    let same : take n (take c.args.self.now.piece.len (into ++ drop (length into) items)) ≡ take n into =
    take-into n c.args.self.now.piece.len into (drop (length into) items) inside came in
    let P : List ℕ → Type 0 = λ bytes. HasGiven bytes begins before in
    c.take.ensures.takes sought old begins some runs (subst P (sym same) (gave-given n into begins before c.in-Bytes.ensures.given refl))

pub returns-in-End-clause-rounds : goal.returns-in-End-clause-rounds
returns-in-End-clause-rounds g c = λ sought old some runs.
    let begins = watch_tells g.K.Link.tells g.S.Sink.tells c.args.link.now c.args.sink.now in
    let now = watch_tells g.K.Link.tells g.S.Sink.tells c.recv.new.self c.args.sink.now in
    subst (λ (e : WatchEnd). Watches e sought old now) (sym c.at_end.ensures)
    (turn-ended sought old c.args.self.now.stream begins now runs refl c.recv.new.into c.in-End.ensures.given)

pub returns-in-Failed-clause-rounds : goal.returns-in-Failed-clause-rounds
returns-in-Failed-clause-rounds g c = λ sought old some runs.
    let begins = watch_tells g.K.Link.tells g.S.Sink.tells c.args.link.now c.args.sink.now in
    let now = watch_tells g.K.Link.tells g.S.Sink.tells c.recv.new.self c.args.sink.now in
    turn-failed sought old c.args.self.now.stream begins now runs refl c.recv.new.into c.in-Failed.ensures.given
