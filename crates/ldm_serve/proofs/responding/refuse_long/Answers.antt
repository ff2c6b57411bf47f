use Rattle.std.proofs.Common.{Result, sym, subst}
use Rattle.ldm_serve.specs.declared.responded.Responded.{Responded}
use Rattle.ldm_serve.specs.declared.responded.RespondFault.{RespondFault}
use Rattle.ldm_serve.specs.Respond.{to_fault}
use Rattle.ldm_serve.specs.Responds.{Responds, stands}
use Rattle.ldm_serve.proofs.responding.refuse_long.Goals as goal

pub returns : goal.returns
returns c = λ pass clock.
    subst (λ (r : Result Responded RespondFault). Responds r (to_fault c.args.fault) (stands pass clock c.args.out.now.items) (stands pass clock c.refuse.new.out.items))
    (sym c.write_next.ensures) (c.refuse.ensures pass clock)
