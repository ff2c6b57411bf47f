use Rattle.std.proofs.Common.{◌≡◌, ap, inl, inr, refl, subst, sym}
use Rattle.std.specs.Option.{option_copied}
use Rattle.ldm_gather.specs.declared.order.Order.{Order}
use Rattle.ldm_gather.specs.Orders.{OrderView, order_view}
use Rattle.ldm_pqact_command.specs.ActerView.{ActerView}
use Rattle.ldm_pqact_command.specs.PqactRuns.{ActEnds, Ran, acter_at, duty_of, here_of, pqact_lent}
use Rattle.ldm_pqact_command.proofs.command.resume.Goals as goal

pub act-requires-clause-cursor : goal.act-requires-clause-cursor
act-requires-clause-cursor g c = ap (λ (acter : ActerView). acter.k) c.in-Ok-begin.ensures.acter

pub act-requires-clause-may : goal.act-requires-clause-may
act-requires-clause-may g c = record {
  goes = ap (λ (acter : ActerView). acter.why) c.in-Ok-begin.ensures.acter;
  keeps = c.in-Ok-begin.ensures.keeps _ _;
}

pub returns-in-Ok-begin-clause-resumes : goal.returns-in-Ok-begin-clause-resumes
returns-in-Ok-begin-clause-resumes g c =
    let order = c.behind.result in
    let duty = duty_of c.args.asked.entries (option_copied c.args.asked.state) in
    let it = c.in-Ok-begin.begun.gatherer in
    let made = c.in-Ok-begin.ensures in
    let read = pqact_lent (g.N.Dial.tells c.args.net.now) c.take_state_if.new.store c.args.launcher.now (g.E.Sink.tells c.args.log.now) (g.C.Clock.tells c.args.clock.now) in
    let now = c.act.new in
    let new = pqact_lent (g.N.Dial.tells now.net) now.store now.launcher (g.E.Sink.tells now.log) (g.C.Clock.tells now.clock) in
    inr (record {
      last = c.in-Ok.last;
      begun = c.take_state_if.new.store;
      takes = rw c.in-Ok.is at c.take_state_if.ensures.takes;
      acts =
          subst (λ (o : OrderView). ActEnds g.F.Store.tells g.L.Launcher.tells c.act.result.end o duty read new) c.behind.ensures
          (inr (record {
            k = it.reader.k;
            first = it.pass;
            opened = made.opened;
            ran =
                subst (λ (o : Order). Ran g.F.Store.tells g.L.Launcher.tells c.act.result.end (order_view o) (here_of (acter_at it.reader.k order.count duty) it.pass read) new) made.order
                (subst (λ (acter : ActerView). Ran g.F.Store.tells g.L.Launcher.tells c.act.result.end (order_view it.order) (here_of acter it.pass read) new) made.acter
                c.act.ensures.ran);
          }));
    })

pub returns-in-Err-begin-clause-resumes : goal.returns-in-Err-begin-clause-resumes
returns-in-Err-begin-clause-resumes g c =
    let duty = duty_of c.args.asked.entries (option_copied c.args.asked.state) in
    let read = pqact_lent (g.N.Dial.tells c.args.net.now) c.take_state_if.new.store c.args.launcher.now (g.E.Sink.tells c.args.log.now) (g.C.Clock.tells c.args.clock.now) in
    inr (record {
      last = c.in-Ok.last;
      begun = c.take_state_if.new.store;
      takes = rw c.in-Ok.is at c.take_state_if.ensures.takes;
      acts =
          subst (λ (o : OrderView). ActEnds g.F.Store.tells g.L.Launcher.tells c.at.result.end o duty read read) c.behind.ensures
          (inl (record { fault = c.in-Err-begin.fault; is = c.at.ensures; cause = c.in-Err-begin.ensures.faults; others = refl }));
    })

pub returns-in-Err-clause-resumes : goal.returns-in-Err-clause-resumes
returns-in-Err-clause-resumes g c = inl (record { why = c.in-Err.why; is = refl; takes = rw c.in-Err.is at c.take_state_if.ensures.takes; others = refl })
