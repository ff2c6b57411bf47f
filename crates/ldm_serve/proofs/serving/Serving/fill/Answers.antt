use Rattle.std.proofs.Common.{◌≡◌, ◌≤◌, ◌+◌, ℕ, length, refl, subst, sym, arith}
use Rattle.ldm_outside.specs.declared.io.Got.{Got}
use Rattle.ldm_rpc.specs.Filling.{filled}
use Rattle.ldm_rpc.specs.Streams.{Position}
use Rattle.ldm_downstream.specs.declared.limits.TheConstants.{LONGEST_PIECE}
use Rattle.ldm_downstream.specs.Filling.{Receives}
use Rattle.ldm_serve.proofs.Receiving.{fills}
use Rattle.ldm_serve.proofs.serving.Serving.fill.Goals as goal

pub returns-clause-fills : goal.returns-clause-fills
returns-clause-fills g c =
    let inside = c.self.inside in
    let p : Position = record { reading = inside.records; begins = inside.begins; came = inside.came } in
    let r = c.fill.new.self in
    let n = c.in_ok-count.count in
    let q : Position = record { reading = r; begins = inside.begins; came = inside.came + n } in
    let said = c.in_ok-count.ensures in
    let few : c.min-most.result ≤ c.args.room = omega (arith, c.min-most.ensures) in
    let small : c.min-most.result ≤ LONGEST_PIECE = omega (arith, c.min-most.ensures) in
    let goes = fills p r q c.min-most.result c.args.room n said.filled few refl in
    let bytes : length (filled p.reading r) ≤ LONGEST_PIECE = omega (arith, said.filled.count, said.filled.within, small) in
    rw (← c.self.view_is)
    (record {
      bytes = filled p.reading r;
      ready = c.self.invariant;
      receives = subst (λ (got : Got). Receives got (filled p.reading r) (g.K.Link.tells c.args.link.now) (g.K.Link.tells c.fill.new.source)) (sym c.got.ensures) said.gives;
      few = goes.1;
      small = bytes;
      taken = goes.2;
      hand_is = goes.0;
      unended = goes.3;
      sound = goes.4;
    })
