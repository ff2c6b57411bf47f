use Rattle.std.proofs.Common.{[], ◌∷◌, refl, ap, sym, subst}
use Rattle.ldm_class.specs.declared.answers.Reduced.{Reduced}
use Rattle.ldm_relay.specs.Sent as sent
use Rattle.ldm_relay.specs.declared.message.ClassAnswer.TheVariants as class_answer
use Rattle.ldm_serve.specs.declared.hiya.TheConstants.{MAX_HEREIS}
use Rattle.ldm_serve.specs.declared.responded.Responded.TheVariants as responded
use Rattle.ldm_serve.specs.Respond.{to_offer}
use Rattle.ldm_serve.specs.Response.{Says, Denies}
use Rattle.ldm_serve.specs.Responds.{Responds, stands}
use Rattle.ldm_serve.proofs.Giving.{given_at_once}
use Rattle.ldm_serve.proofs.hiya.offered.Goals as goal

pub returns-in-Same : goal.returns-in-Same
returns-in-Same c = λ pass clock.
    let out = c.args.out.now.items in
    subst (λ (left : Reduced). Responds c.accept.result (to_offer c.args.xid c.args.class.now left) (stands pass clock out) (stands pass clock c.accept.new.out.items))
    (sym c.in-Same.is) (c.accept.ensures pass clock)

pub returns-in_ok-say_hiya-in-Fewer : goal.returns-in_ok-say_hiya-in-Fewer
returns-in_ok-say_hiya-in-Fewer c = λ pass clock.
    let said = sent.HiyaReply c.args.xid MAX_HEREIS (class_answer.Reclass c.in-Fewer.fewer) ∷ [] in
    given_at_once pass clock (to_offer c.args.xid c.args.class.now c.args.left) (Says said) responded.GoesOn said c.args.out.now.items c.say_hiya.new.out.items
    (ap (to_offer c.args.xid c.args.class.now) c.in-Fewer.is) refl refl refl c.in_ok-say_hiya-in-Fewer.ensures.ok

pub returns-in_ok-say_hiya-in-Nothing : goal.returns-in_ok-say_hiya-in-Nothing
returns-in_ok-say_hiya-in-Nothing c = λ pass clock.
    let said = sent.HiyaReply c.args.xid MAX_HEREIS class_answer.Denied ∷ [] in
    given_at_once pass clock (to_offer c.args.xid c.args.class.now c.args.left) (Denies c.in-Nothing.rule said) (responded.Denied c.in-Nothing.rule) said c.args.out.now.items c.say_hiya-in-Nothing.new.out.items
    (ap (to_offer c.args.xid c.args.class.now) c.in-Nothing.is) refl refl refl c.in_ok-say_hiya-in-Nothing.ensures.ok
