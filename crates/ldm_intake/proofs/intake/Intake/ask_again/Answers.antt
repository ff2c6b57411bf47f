use Rattle.std.proofs.Common.{ap}
use Rattle.ldm_intake.specs.Receiving.{Receiving}
use Rattle.ldm_intake.proofs.Replying.{asked_again, of_ok}
use Rattle.ldm_intake.proofs.intake.Intake.ask_again.Goals as goal

pub returns-else-is_err : goal.returns-else-is_err
returns-else-is_err c = λ pass notes.
    let sends = of_ok c.put_feedme.result _ c.is_err.result c.is_err.ensures.value c.if-is_err.false c.put_feedme.ensures.ok in
    asked_again pass c.args.out.now.items notes c.args.self.now c.narrow.new.self c.args.class.now c.in-Ok.built c.number_of_request.result c.self.inside.max_hereis
    c.put_feedme.new.out.items c.in-Ok.ensures.1 c.in-Ok.ensures.0 c.narrow.ensures c.number_of_request.ensures
    (ap (λ (s : Receiving). s.max_hereis) c.self.view_is) sends
