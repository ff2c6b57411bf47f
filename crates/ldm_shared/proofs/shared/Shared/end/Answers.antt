use Rattle.std.proofs.Common.{◌∙◌, sym, ap, arith}
use Rattle.ldm_shared.specs.Passes.{SharedView}
use Rattle.ldm_shared.proofs.Adding.{adding}
use Rattle.ldm_shared.proofs.shared.Shared.end.Goals as goal

pub fetch_add-requires : goal.fetch_add-requires
fetch_add-requires g c =
    let turn = c.requires.turn.1 in (
      turn.queue ∙ sym (ap (λ (v : SharedView). v.queue) c.self.view_is),
      (let words = c.self.invariant.words in omega arith),
      adding _ _ _ c.args.seat.now.me g.C.Called.entry c.requires.turn.0
          c.self.invariant.slots turn.passes turn.turn turn.slot c.requires.own c.requires.few c.requires.legal c.requires.turn.2,
    )
