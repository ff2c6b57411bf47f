use Rattle.std.proofs.Common.{◌≡◌, ◌≤◌, ℕ, List, [], length, take, drop, refl, sym, subst, ap, ◌∙◌, arith, rules}
use Rattle.ldm_outside.specs.Session.{ungated_tells}
use Rattle.ldm_downstream.specs.declared.limits.TheConstants.{LONGEST_PIECE}
use Rattle.ldm_downstream.specs.Sessions.{HasCome, outside_of}
use Rattle.ldm_downstream.proofs.SessionTurns.{take-into, piece-came, turn-ended, turn-failed}
use Rattle.ldm_downstream.proofs.session.Session.take_piece.Goals as goal

pub returns-in-Bytes-clause-rounds : goal.returns-in-Bytes-clause-rounds
returns-in-Bytes-clause-rounds g c =
    let begins = ungated_tells g.K.Link.tells g.E.Sink.tells g.C.Clock.tells c.args.link.now c.args.log.now c.args.clock.now in
    let clock = g.C.Clock.tells c.now-now.new.self in
    let before = outside_of (g.K.Link.tells c.receive_piece.new.link) (g.E.Sink.tells c.args.log.now) clock in
    let n = c.in-Bytes.count in
    let into = c.receive_piece.new.piece in
    let items = c.args.self.now.piece.items in
    let came : n ≤ length into = c.in-Bytes.ensures.given.1 in
    let few : n ≤ LONGEST_PIECE = omega (arith, c.in-Bytes.ensures.few, c.piece_room-most.ensures.short) in
    let within : n ≤ c.args.self.now.piece.len = first_of (omega arith, search rules, grind arith) in
    let same : take n c.deref.result.now ≡ take n into =
    ap (take n) c.deref.ensures.value ∙ take-into n c.args.self.now.piece.len into (drop (length into) items) within came in
    let P : List ℕ → Type 0 = λ bytes. HasCome [] (record { now = c.now-now.result; bytes = bytes }) begins before in
    c.take.ensures.takes [] begins clock (subst P (sym same) (piece-came n into c.now-now.result begins before few c.in-Bytes.ensures.given refl c.now-now.ensures))

pub returns-in-End-clause-rounds : goal.returns-in-End-clause-rounds
returns-in-End-clause-rounds g c =
    let begins = ungated_tells g.K.Link.tells g.E.Sink.tells g.C.Clock.tells c.args.link.now c.args.log.now c.args.clock.now in
    let before = ungated_tells g.K.Link.tells g.E.Sink.tells g.C.Clock.tells c.receive_piece.new.link c.args.log.now c.args.clock.now in
    turn-ended c.receive_piece.new.piece c.close.result c.args.self.now.taker.receiver c.close.new.self c.args.pass.now c.close.new.pass begins before c.in-End.ensures.given refl refl
    c.requires.live c.close.ensures.goes_on c.close.ensures.finishes

pub returns-in-Failed-clause-rounds : goal.returns-in-Failed-clause-rounds
returns-in-Failed-clause-rounds g c =
    let begins = ungated_tells g.K.Link.tells g.E.Sink.tells g.C.Clock.tells c.args.link.now c.args.log.now c.args.clock.now in
    let before = ungated_tells g.K.Link.tells g.E.Sink.tells g.C.Clock.tells c.receive_piece.new.link c.args.log.now c.args.clock.now in
    turn-failed c.receive_piece.new.piece c.fail.result c.args.self.now.taker.receiver c.fail.new.self c.args.pass.now c.fail.new.pass begins before c.in-Failed.ensures.given refl refl
    c.requires.live c.fail.ensures.goes_on c.fail.ensures.fails
