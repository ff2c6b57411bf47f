use Rattle.std.proofs.Common.{[], ◌∷◌, refl}
use Rattle.ldm_class.specs.Access.{reduce}
use Rattle.ldm_relay.specs.Sent as sent
use Rattle.ldm_relay.specs.declared.message.ClassAnswer.TheVariants as class_answer
use Rattle.ldm_serve.specs.declared.hiya.TheConstants.{MAX_HEREIS}
use Rattle.ldm_serve.specs.declared.responded.Responded.TheVariants as responded
use Rattle.ldm_serve.specs.Respond.{to_hiya, to_offer}
use Rattle.ldm_serve.specs.Response.{Says}
use Rattle.ldm_serve.proofs.Giving.{given_at_once, one_means_nothing}
use Rattle.ldm_serve.proofs.hiya.hiya.Goals as goal

pub returns-in_ok-say_hiya-in-Err-BadPattern : goal.returns-in_ok-say_hiya-in-Err-BadPattern
returns-in_ok-say_hiya-in-Err-BadPattern c = λ pass clock.
    let offer = c.args.offer in
    let rules = c.args.client.now.rules in
    let bad = sent.HiyaReply offer.xid MAX_HEREIS class_answer.BadPattern ∷ [] in
    let place = rw c.in-Err-BadPattern.field-0-is at c.in-Err-BadPattern.ensures in
    given_at_once pass clock (to_hiya rules c.args.client.now.host offer.xid offer.class) (Says bad) responded.GoesOn bad c.args.out.now.items c.say_hiya.new.out.items
    (one_means_nothing offer.class (to_offer offer.xid offer.class (reduce rules.accept c.args.client.now.host offer.class)) (Says bad) c.in-Err-BadPattern.field-0-0 place)
    refl refl refl c.in_ok-say_hiya-in-Err-BadPattern.ensures.ok
