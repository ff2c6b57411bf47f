use Rattle.std.proofs.Common.{◌∙◌, sym, ap, subst, arith}
use Rattle.std.specs.Prelude.{Option}
use Rattle.atomic_table.specs.Table.{Me}
use Rattle.ldm_book.specs.View.{BookView}
use Rattle.ldm_shared.specs.declared.view.View.{View}
use Rattle.ldm_shared.specs.Passes.{SharedView}
use Rattle.ldm_shared.specs.Steps.{Sees}
use Rattle.ldm_shared.proofs.Joining.{joining}
use Rattle.ldm_shared.proofs.Taking.{history_sees}
use Rattle.ldm_shared.proofs.Gathering.{gathers}
use Rattle.ldm_shared.proofs.shared.Shared.gather.Goals as goal

pub join_seat-requires : goal.join_seat-requires
join_seat-requires c =
    let queue = sym (ap (λ (v : SharedView). v.queue) c.self.view_is) in (
      c.requires.ready.queue ∙ queue,
      c.requires.other.queue ∙ queue,
      c.requires.other.free,
      (let words = c.self.invariant.words in omega arith),
      joining _ _ c.args.seat.now.me.0 _ c.args.other.me.0 c.requires.ready.idle c.requires.other.idle c.requires.ready.passes c.requires.other.passes,
    )

pub returns-clause-gathers : goal.returns-clause-gathers
returns-clause-gathers c =
    gathers c.args.seat.now.me.0 c.args.other.me.0 c.see.new.seat.me.0 c.see.result
    (subst (λ (v : View). Sees v c.see.result c.see.new.seat.me.0) (ap (λ (m : Me (Option BookView) View). m.0) c.join_seat.ensures.2) c.see.ensures.sees)

pub returns-clause-history : goal.returns-clause-history
returns-clause-history c = history_sees c.join_seat.new.seat.me.0 c.see.new.seat.me.0 c.see.result c.see.ensures.sees
