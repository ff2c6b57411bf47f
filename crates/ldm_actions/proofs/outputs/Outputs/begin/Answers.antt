use Rattle.std.proofs.Common.{Some, sym, subst}
use Rattle.ldm_actions.specs.declared.answers.Begun.TheVariants as answer
use Rattle.ldm_actions.specs.declared.hand.Hand.{Hand}
use Rattle.ldm_actions.specs.Hands.{action_of}
use Rattle.ldm_actions.specs.Outputs.{Begins, KeepsUnlessSpent, OutputsView, outputs_view, standing}
use Rattle.ldm_actions.proofs.OutputsLemmas.{begins_ready, keeps_ready}
use Rattle.ldm_actions.proofs.outputs.Outputs.begin.Goals as goal

pub returns-in-Ready-clause-begun : goal.returns-in-Ready-clause-begun
returns-in-Ready-clause-begun g c =
    let was = c.self.inside in
    let store = g.F.Store.tells c.args.store.now in
    let store_now = g.F.Store.tells c.begin.new.store in
    let launcher = g.L.Launcher.tells c.args.launcher.now in
    let launcher_now = g.L.Launcher.tells c.begin.new.launcher in
    subst
    (λ (view : OutputsView). Begins answer.Ready (action_of c.args.action.now) (standing view store launcher)
    (standing (outputs_view c.begin.new.files c.begin.new.piped (Some c.of.result) was.spent) store_now launcher_now))
    c.self.view_is
    (subst
    (λ (hand : Hand). Begins answer.Ready (action_of c.args.action.now) (standing (outputs_view was.files was.piped was.hand was.spent) store launcher)
    (standing (outputs_view c.begin.new.files c.begin.new.piped (Some hand) was.spent) store_now launcher_now))
    (sym c.of.ensures)
    (begins_ready was.files was.piped c.begin.new.files c.begin.new.piped was.hand was.spent store store_now launcher launcher_now c.in_default.is
    c.args.action.now c.in-Ready.ensures))

pub returns-in-Ready-clause-keeps : goal.returns-in-Ready-clause-keeps
returns-in-Ready-clause-keeps g c =
    let was = c.self.inside in
    let store = g.F.Store.tells c.args.store.now in
    let store_now = g.F.Store.tells c.begin.new.store in
    let launcher = g.L.Launcher.tells c.args.launcher.now in
    let launcher_now = g.L.Launcher.tells c.begin.new.launcher in
    subst
    (λ (hand : Hand). KeepsUnlessSpent (standing (outputs_view c.begin.new.files c.begin.new.piped (Some hand) was.spent) store_now launcher_now))
    (sym c.of.ensures)
    (keeps_ready was.files was.piped c.begin.new.files c.begin.new.piped was.hand was.spent store store_now launcher launcher_now c.in_default.is
    c.args.action.now c.in-Ready.ensures)
