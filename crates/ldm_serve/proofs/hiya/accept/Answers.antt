use Rattle.std.proofs.Common.{[], ◌∷◌, refl, ap}
use Rattle.ldm_types.specs.declared.class.ClassSpec.{ClassSpec}
use Rattle.ldm_class.specs.declared.answers.Reduced.TheVariants.{Same}
use Rattle.ldm_relay.specs.Sent as sent
use Rattle.ldm_relay.specs.declared.message.ClassAnswer.TheVariants as class_answer
use Rattle.ldm_serve.specs.declared.hiya.TheConstants.{MAX_HEREIS}
use Rattle.ldm_serve.specs.declared.responded.Responded.TheVariants as responded
use Rattle.ldm_serve.specs.Respond.{to_offer}
use Rattle.ldm_serve.specs.Response.{Receives}
use Rattle.ldm_serve.proofs.Giving.{given_at_once}
use Rattle.ldm_serve.proofs.hiya.accept.Goals as goal

pub returns-in_ok-say_hiya-in-Ok : goal.returns-in_ok-say_hiya-in-Ok
returns-in_ok-say_hiya-in-Ok c = λ pass clock.
    let said = sent.HiyaReply c.args.xid MAX_HEREIS class_answer.Ok ∷ [] in
    given_at_once pass clock (to_offer c.args.xid c.args.class.now Same) (Receives c.args.class.now said) (responded.Receives c.in-Ok.class) said c.args.out.now.items c.say_hiya.new.out.items
    refl (ap (λ (class : ClassSpec). responded.Receives class) c.in-Ok.ensures.0) refl refl c.in_ok-say_hiya-in-Ok.ensures.ok
