use Rattle.std.proofs.Common.{◌≡◌, ◌<◌, ◌≤◌, ◌+◌, ap, subst, sym, arith}
use Rattle.ldm_outside.specs.declared.io.Got.{Got}
use Rattle.ldm_rpc.specs.Filling.{filled}
use Rattle.ldm_rpc.specs.Streams.{Position}
use Rattle.ldm_session.specs.declared.limits.TheConstants.{LONGEST_STREAM}
use Rattle.ldm_downstream.specs.declared.limits.TheConstants.{LONGEST_PIECE}
use Rattle.ldm_downstream.specs.Filling.{Came}
use Rattle.ldm_downstream.specs.ReceiverView.{StreamView}
use Rattle.ldm_downstream.proofs.Filled.{fills}
use Rattle.ldm_downstream.proofs.stream.Stream.fill.Goals as goal

pub returns-clause-fills : goal.returns-clause-fills
returns-clause-fills g c =
    let inside = c.self.inside in
    let p : Position = record { reading = inside.records; begins = inside.begins; came = inside.came } in
    let r = c.fill.new.self in
    let said = c.in_ok-count.ensures in
    let came : inside.came ≡ c.args.self.now.hand.came = ap (λ (s : StreamView). s.hand.came) c.self.view_is in
    let room : inside.came + c.min-most.result < LONGEST_STREAM = omega (arith, came, c.min-most.ensures, c.requires.below) in
    let few : c.min-most.result ≤ LONGEST_PIECE = omega (arith, c.min-most.ensures) in
    rw (← c.self.view_is)
    (fills c.got.result p r c.min-most.result c.in_ok-count.count (g.K.Link.tells c.args.link.now) (g.K.Link.tells c.fill.new.source) c.self.invariant.ready said.filled room few
    (subst (λ (got : Got). Came got (filled p.reading r) (g.K.Link.tells c.args.link.now) (g.K.Link.tells c.fill.new.source)) (sym c.got.ensures) said.gives.came))
