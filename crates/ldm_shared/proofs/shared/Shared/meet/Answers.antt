use Rattle.std.proofs.Common.{◌≡◌, ◌∙◌, List, ap, subst}
use Rattle.std.specs.Prelude.{Option}
use mathlib.Core.List.{IsPrefix}
use Rattle.atomic_table.specs.Table.{Me}
use Rattle.ldm_model.specs.declared.event.Entry.{Entry}
use Rattle.ldm_book.specs.View.{BookView}
use Rattle.ldm_shared.specs.declared.view.View.{View}
use Rattle.ldm_shared.specs.Passes.{PassView}
use Rattle.ldm_shared.specs.Seats.{GoesOn}
use Rattle.ldm_shared.proofs.Histories.{prefix_trans}
use Rattle.ldm_shared.proofs.Growing.{pass_met}
use Rattle.ldm_shared.proofs.shared.Shared.meet.Goals as goal

pub returns-clause-b : goal.returns-clause-b
returns-clause-b c =
    let was : c.learn.new.other.me.0 ≡ c.b.inside.seat.me.0 = ap (λ (m : Me (Option BookView) View). m.0) c.learn.ensures.kept.1 in
    let on : GoesOn c.b.inside.seat.me.0 c.learn-2.new.seat.me.0 = subst (λ (v : View). GoesOn v c.learn-2.new.seat.me.0) was c.learn-2.ensures.goes_on in
    pass_met c.args.self.now c.args.b.now c.b.inside c.b.view_is c.b.invariant c.requires.b c.learn-2.new.seat
    (record { table = c.learn-2.ensures.same.table ∙ c.learn.ensures.kept.0.table; id = c.learn-2.ensures.same.id ∙ c.learn.ensures.kept.0.id }) on
    c.args.a.now c.learn-2.ensures.history c.learn-2.ensures.ready.idle
    (subst (λ (h : List Entry). IsPrefix h c.learn-2.new.seat.me.0.seen) (ap (λ (v : PassView). v.seen) c.a.view_is)
    (prefix_trans c.a.inside.seat.me.0.seen c.learn.new.seat.me.0.seen c.learn-2.new.seat.me.0.seen c.learn.ensures.goes_on.begins c.learn-2.ensures.its))
