use Rattle.std.proofs.Common.{[], refl}
use Rattle.std.proofs.lemmas.Result.{err_from_is_err_and}
use Rattle.ldm_relay.specs.Sent as sent
use Rattle.ldm_shared.proofs.Made.{calls_none}
use Rattle.ldm_sender.specs.Answering.{answer_deed}
use Rattle.ldm_sender.specs.Deeds.{no_deed}
use Rattle.ldm_sender.specs.Does.{moment_of}
use Rattle.ldm_sender.proofs.Doing.{all_done, breaks_then, nothing_done, send_failed}
use Rattle.ldm_sender.proofs.Messaging.{gathers, then_sent}
use Rattle.ldm_sender.proofs.answer.answer_class.Goals as goal

pub returns-in_err-write_message-clause-answers : goal.returns-in_err-write_message-clause-answers
returns-in_err-write_message-clause-answers g c = λ pass.
    let link = g.K.Link.tells c.args.link.now in
    let clock = g.C.Clock.tells c.args.clock.now in
    let why = err_from_is_err_and c.from_residual.result c.from_residual.ensures.1 in
    rw (why.1, why.2) (
      0,
      nothing_done (moment_of pass link clock c.args.out.now.items)
          (moment_of pass link clock c.write_message.new.out.items)
          (answer_deed c.args.xid c.args.answer 0) c.requires (calls_none pass) refl refl,
      tt,
    )

pub returns-in_err-send_gathered-clause-answers : goal.returns-in_err-send_gathered-clause-answers
returns-in_err-send_gathered-clause-answers g c = λ pass.
    let link = g.K.Link.tells c.args.link.now in
    let link' = g.K.Link.tells c.send_gathered.new.link in
    let clock = g.C.Clock.tells c.args.clock.now in
    let clock' = g.C.Clock.tells c.now-at.new.self in
    let out = c.args.out.now.items in
    let out' = c.write_message.new.out.items in
    let left = c.send_gathered.new.gathered.items in
    let at = c.now-at.result in
    let toward = gathers pass link clock clock' out out' (sent.FeedmeReply c.args.xid c.args.answer) at c.requires
    c.in_ok-write_message.ensures.ok c.now-at.ensures in
    let failed = c.in_err-send_gathered.ensures.sent in
    let why =
    err_from_is_err_and c.from_residual-in_err-send_gathered.result c.from_residual-in_err-send_gathered.ensures.1 in
    rw (why.1, why.2) (
      at,
      breaks_then [] [] (moment_of pass link clock out) (moment_of pass link clock' out')
          (moment_of pass link' clock' left) no_deed (answer_deed c.args.xid c.args.answer at) toward
          (send_failed pass clock' out' left link link' no_deed c.requires c.in_err-send_gathered.ensures.faults_kept
          failed),
      failed.failing.0,
    )

pub returns-clause-answers : goal.returns-clause-answers
returns-clause-answers g c = λ pass.
    let link = g.K.Link.tells c.args.link.now in
    let link' = g.K.Link.tells c.send_gathered.new.link in
    let clock = g.C.Clock.tells c.args.clock.now in
    let clock' = g.C.Clock.tells c.now-at.new.self in
    let out = c.args.out.now.items in
    let out' = c.write_message.new.out.items in
    let left = c.send_gathered.new.gathered.items in
    let at = c.now-at.result in
    let old = moment_of pass link clock out in
    let all = answer_deed c.args.xid c.args.answer at in
    let toward = gathers pass link clock clock' out out' (sent.FeedmeReply c.args.xid c.args.answer) at c.requires
    c.in_ok-write_message.ensures.ok c.now-at.ensures in
    all_done [] old (moment_of pass link' clock' left) all
    (then_sent pass clock' out' left old link link' all toward c.requires c.in_ok-send_gathered.ensures.sent)
