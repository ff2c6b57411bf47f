use Rattle.std.proofs.Common.{Option, subst}
use Rattle.ldm_actions.specs.Outputs.{OutputsView, standing}
use Rattle.ldm_pqact_command.specs.declared.stop.ActStop.{ActStop}
use Rattle.ldm_pqact_command.specs.ActerView.{ActerView}
use Rattle.ldm_pqact_command.specs.State.{KeepsLast, state_deeds}
use Rattle.ldm_pqact_command.specs.Statuses.{IsEndOf}
use Rattle.ldm_pqact_command.proofs.command.close.Goals as goal

pub returns : goal.returns
returns g c =
    let shut_store = g.F.Store.tells c.close-closed.new.store in
    let shut_launcher = g.L.Launcher.tells c.close-closed.new.launcher in
    let store = g.F.Store.tells c.keep_last.new.store in
    let launcher = g.L.Launcher.tells c.keep_last.new.launcher in
    record {
      closed = (
        record {
          answer = c.close-closed.result;
          shut_store = shut_store;
          shut_launcher = shut_launcher;
          closes = c.close-closed.ensures.closed;
          keeps =
              subst (λ (outputs : OutputsView). KeepsLast c.args.end (state_deeds c.args.acter.state c.args.acter.last) (standing outputs shut_store shut_launcher) store launcher)
              c.requires.spare
              (subst
              (λ (acter : ActerView). KeepsLast c.args.end (state_deeds acter.state acter.last) (standing c.args.spare shut_store shut_launcher) store launcher)
              c.close-closed.ensures.others c.keep_last.ensures);
        },
        subst (λ (why : Option ActStop). IsEndOf c.end_by.result c.args.end why c.close-closed.result) c.why-why.ensures c.end_by.ensures,
      );
    }
