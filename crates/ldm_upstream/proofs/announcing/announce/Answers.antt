use Rattle.std.proofs.Common.{◌≡◌, ◌∙◌, [], ◌++◌, refl, ap}
use Rattle.std.proofs.lemmas.Result.{err_from_is_err_and}
use Rattle.ldm_types.specs.Info.{Metadata}
use Rattle.ldm_relay.specs.Sent as sent
use Rattle.ldm_relay.specs.Spelling.{written, record_of}
use Rattle.ldm_shared.proofs.Made.{calls_none}
use Rattle.ldm_sender.specs.declared.end.SendEnd.TheVariants as end
use Rattle.ldm_upstream.specs.Turn.{Declined, announcement}
use Rattle.ldm_sender.specs.Deeds.{no_deed}
use Rattle.ldm_upstream.specs.ProductDeeds.{handling_deed}
use Rattle.ldm_sender.specs.Does.{moment_of}
use Rattle.ldm_upstream.specs.Giving.{given_of}
use Rattle.ldm_upstream.proofs.Announced.{announced, unanswered, unheard}
use Rattle.ldm_sender.proofs.Doing.{breaks_then, nothing_done, send_failed}
use Rattle.ldm_sender.proofs.Messaging.{gathers, then_sent}
use Rattle.ldm_upstream.proofs.announcing.announce.Goals as goal

pub returns-in_err-write_message-clause-announces : goal.returns-in_err-write_message-clause-announces
returns-in_err-write_message-clause-announces g c = λ pass k body.
    let link = g.K.Link.tells c.args.link.now in
    let clock = g.C.Clock.tells c.args.clock.now in
    let standing = c.args.standing.now in
    let given = given_of c.args.held.now body in
    let why = err_from_is_err_and c.from_residual.result c.from_residual.ensures.1 in
    rw (why.1, why.2) (record {
      at = 0;
      came = [];
      ends = nothing_done (moment_of pass link clock c.args.out.now.items)
          (moment_of pass link clock c.write_message.new.out.items)
          (handling_deed pass.actor k standing.next given (Declined 0))
          c.requires (calls_none pass) refl refl;
      heard = unheard end.OutOfMemory standing.next c.args.replies.now (λ given behind. tt);
      cause = tt;
      all_sent = tt;
      same = refl;
    })

pub returns-in_err-send_gathered-clause-announces : goal.returns-in_err-send_gathered-clause-announces
returns-in_err-send_gathered-clause-announces g c = λ pass k body.
    let link = g.K.Link.tells c.args.link.now in
    let link' = g.K.Link.tells c.send_gathered.new.link in
    let clock = g.C.Clock.tells c.args.clock.now in
    let clock' = g.C.Clock.tells c.count_call.new.clock in
    let standing = c.args.standing.now in
    let at = c.count_call.new.standing.sent_at in
    let given = given_of c.args.held.now body in
    let out = c.args.out.now.items in
    let out' = c.write_message.new.out.items in
    let left = c.send_gathered.new.gathered.items in
    let all = handling_deed pass.actor k standing.next given (Declined at) in
    let appended : out' ≡ out ++ record_of (written (announcement standing.next given)) =
    c.in_ok-write_message.ensures.ok
    ∙ ap (λ (info : Metadata). out ++ record_of (written (sent.Comingsoon standing.next info 16384))) c.copy.ensures in
    let toward = gathers pass link clock clock' out out' (announcement standing.next given) at c.requires appended
    c.count_call.ensures.answered in
    let failed = c.in_err-send_gathered.ensures.sent in
    let why =
    err_from_is_err_and c.from_residual-in_err-send_gathered.result c.from_residual-in_err-send_gathered.ensures.1 in
    rw (why.1, why.2) (record {
      at = at;
      came = [];
      ends = breaks_then [] [] (moment_of pass link clock out) (moment_of pass link clock' out')
          (moment_of pass link' clock' left) no_deed all toward
          (send_failed pass clock' out' left link link' no_deed c.requires c.in_err-send_gathered.ensures.faults_kept
          failed);
      heard = unheard end.LinkFault standing.next c.args.replies.now (λ given behind. tt);
      cause = failed.failing.0;
      all_sent = tt;
      same = refl;
    })

pub returns-in_err-hear-clause-announces : goal.returns-in_err-hear-clause-announces
returns-in_err-hear-clause-announces g c = λ pass k body.
    let link = g.K.Link.tells c.args.link.now in
    let link' = g.K.Link.tells c.send_gathered.new.link in
    let link'' = g.K.Link.tells c.hear.new.link in
    let clock = g.C.Clock.tells c.args.clock.now in
    let clock' = g.C.Clock.tells c.count_call.new.clock in
    let standing = c.args.standing.now in
    let at = c.count_call.new.standing.sent_at in
    let given = given_of c.args.held.now body in
    let out = c.args.out.now.items in
    let out' = c.write_message.new.out.items in
    let left = c.send_gathered.new.gathered.items in
    let old = moment_of pass link clock out in
    let all = handling_deed pass.actor k standing.next given (Declined at) in
    let appended : out' ≡ out ++ record_of (written (announcement standing.next given)) =
    c.in_ok-write_message.ensures.ok
    ∙ ap (λ (info : Metadata). out ++ record_of (written (sent.Comingsoon standing.next info 16384))) c.copy.ensures in
    let toward = gathers pass link clock clock' out out' (announcement standing.next given) at c.requires appended
    c.count_call.ensures.answered in
    let sent_all =
    then_sent pass clock' out' left old link link' all toward c.requires c.in_ok-send_gathered.ensures.sent in
    let is = c.in_err-hear.ensures in
    let why = err_from_is_err_and c.from_residual-in_err-hear.result c.from_residual-in_err-hear.ensures.1 in
    rw (why.1, why.2)
    (unanswered c.in_err-hear.field-0.0 k given standing at pass clock' left old link' link'' c.args.replies.now
    c.hear.new.self sent_all is.heard
    (record { faults = is.faults_kept; ends = is.ends_kept; still_open = is.still_open }) refl
    c.in_ok-send_gathered.ensures.empty)

pub returns-clause-announces : goal.returns-clause-announces
returns-clause-announces g c = λ pass k body.
    let link = g.K.Link.tells c.args.link.now in
    let link' = g.K.Link.tells c.send_gathered.new.link in
    let link'' = g.K.Link.tells c.hear.new.link in
    let clock = g.C.Clock.tells c.args.clock.now in
    let clock' = g.C.Clock.tells c.count_call.new.clock in
    let standing = c.args.standing.now in
    let standing' = c.count_call.new.standing in
    let given = given_of c.args.held.now body in
    let out = c.args.out.now.items in
    let out' = c.write_message.new.out.items in
    let left = c.send_gathered.new.gathered.items in
    let old = moment_of pass link clock out in
    let all = handling_deed pass.actor k standing.next given (Declined standing'.sent_at) in
    let appended : out' ≡ out ++ record_of (written (announcement standing.next given)) =
    c.in_ok-write_message.ensures.ok
    ∙ ap (λ (info : Metadata). out ++ record_of (written (sent.Comingsoon standing.next info 16384))) c.copy.ensures in
    let toward = gathers pass link clock clock' out out' (announcement standing.next given) standing'.sent_at c.requires
    appended c.count_call.ensures.answered in
    let sent_all =
    then_sent pass clock' out' left old link link' all toward c.requires c.in_ok-send_gathered.ensures.sent in
    let is = c.in_ok-hear.ensures in
    announced k given c.in_ok-hear.field-0 standing standing' pass clock' left old link' link'' c.args.replies.now
    c.hear.new.self sent_all c.count_call.ensures.next is.heard
    (record { faults = is.faults_kept; ends = is.ends_kept; still_open = is.still_open })
