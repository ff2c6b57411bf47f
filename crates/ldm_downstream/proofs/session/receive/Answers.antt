use Rattle.std.proofs.Common.{ap, refl}
use Rattle.std.specs.Option.{option_map}
use Rattle.ldm_types.specs.declared.signature.Signature.{Signature}
use Rattle.ldm_outside.specs.Session.{ungated_tells}
use Rattle.ldm_intake.specs.Opening.{requesting}
use Rattle.ldm_downstream.specs.ReceiverView.{ReceiverView}
use Rattle.ldm_downstream.proofs.AllReceived.{all-received, none-received}
use Rattle.ldm_downstream.proofs.Complete.{completes}
use Rattle.ldm_downstream.proofs.session.receive.Goals as goal

pub returns-in-Ok-clause-receives : goal.returns-in-Ok-clause-receives
returns-in-Ok-clause-receives g c =
    all-received _ _ c.in-Ok.session.taker.receiver c.run_asking-end.new.self.taker.receiver _ _ _ _ _ _
    (ap (λ (r : ReceiverView). r.receiving) c.in-Ok.ensures.receiver) c.last.ensures c.run_asking-end.ensures.runs_out

pub returns-in-Ok-clause-completes : goal.returns-in-Ok-clause-completes
returns-in-Ok-clause-completes g c = completes _ _ _ _ _ _ _ _ (returns-in-Ok-clause-receives g c)

pub returns-in-Err-clause-receives : goal.returns-in-Err-clause-receives
returns-in-Err-clause-receives g c =
    none-received (requesting c.args.class.now (option_map (λ (s : Signature). s.0) c.args.last) c.args.max_hereis) c.args.pass.now
    (ungated_tells g.K.Link.tells g.E.Sink.tells g.C.Clock.tells c.args.link.now c.args.log.now c.args.clock.now) refl
