use Rattle.std.proofs.Common.{◌∙◌, sym, ap, arith}
use Rattle.ldm_shared.specs.Passes.{SharedView}
use Rattle.ldm_shared.proofs.Joining.{noting}
use Rattle.ldm_shared.proofs.shared.Shared.learn.Goals as goal

pub split_seat-note-requires : goal.split_seat-note-requires
split_seat-note-requires c = (
  c.requires.other.queue ∙ sym (ap (λ (v : SharedView). v.queue) c.self.view_is),
  (let words = c.self.invariant.words in omega arith),
  noting _ _ c.args.other.now.me.0 c.requires.other.idle c.requires.other.passes,
)
