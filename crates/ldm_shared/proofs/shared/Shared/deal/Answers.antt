use Rattle.std.proofs.Common.{◌∙◌, sym, ap, arith}
use Rattle.ldm_shared.specs.Passes.{SharedView}
use Rattle.ldm_shared.proofs.Joining.{dealing}
use Rattle.ldm_shared.proofs.shared.Shared.deal.Goals as goal

pub split_seat-theirs-requires : goal.split_seat-theirs-requires
split_seat-theirs-requires c = (
  c.requires.ready.queue ∙ sym (ap (λ (v : SharedView). v.queue) c.self.view_is),
  (let words = c.self.invariant.words in omega arith),
  dealing _ _ c.args.seat.now.me.0 c.requires.ready.idle c.requires.ready.passes,
)
