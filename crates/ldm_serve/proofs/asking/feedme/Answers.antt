use Rattle.std.proofs.Common.{[], ◌∷◌, refl, sym, append-nil}
use Rattle.ldm_relay.specs.Sent as sent
use Rattle.ldm_relay.specs.declared.message.ClassAnswer.TheVariants as class_answer
use Rattle.ldm_serve.specs.declared.responded.Responded.TheVariants as responded
use Rattle.ldm_serve.specs.Respond.{to_feedme}
use Rattle.ldm_serve.specs.Response.{Feeds, Says}
use Rattle.ldm_serve.proofs.Giving.{given_at_once, all_mean, one_means_nothing}
use Rattle.ldm_serve.proofs.asking.feedme.Goals as goal

pub returns-in-Ok : goal.returns-in-Ok
returns-in-Ok c = λ pass clock.
    let ask = c.args.ask in
    let bad = sent.FeedmeReply ask.xid class_answer.BadPattern ∷ [] in
    let out = c.args.out.now.items in
    given_at_once pass clock (to_feedme ask.xid ask.class ask.max_hereis) (Feeds ask.xid ask.class ask.max_hereis) (responded.Feeds ask) [] out out
    (all_mean ask.class (Feeds ask.xid ask.class ask.max_hereis) (Says bad) c.in-Ok.ensures)
    refl refl refl (sym (append-nil out))

pub returns-in_ok-say-in-Err-BadPattern : goal.returns-in_ok-say-in-Err-BadPattern
returns-in_ok-say-in-Err-BadPattern c = λ pass clock.
    let ask = c.args.ask in
    let bad = sent.FeedmeReply ask.xid class_answer.BadPattern ∷ [] in
    let place = rw c.in-Err-BadPattern.field-0-is at c.in-Err-BadPattern.ensures in
    given_at_once pass clock (to_feedme ask.xid ask.class ask.max_hereis) (Says bad) responded.GoesOn bad c.args.out.now.items c.say.new.out.items
    (one_means_nothing ask.class (Feeds ask.xid ask.class ask.max_hereis) (Says bad) c.in-Err-BadPattern.field-0-0 place)
    refl refl refl c.in_ok-say-in-Err-BadPattern.ensures.ok
