use Rattle.std.proofs.Common.{◌∙◌, inl, inr, refl, sym}
use Rattle.std.proofs.lemmas.Result.{err_from_is_err_and}
use Rattle.ldm_sender.proofs.Waiting.{fails_to_wait, message_left, waits_alive, waits_quiet, waits_short, waits_stop}
use Rattle.ldm_sender.proofs.Waiting.{went_on}
use Rattle.ldm_sender.proofs.idle.wait_idle.Goals as goal

pub returns-in_err-send_before_rest-clause-idles : goal.returns-in_err-send_before_rest-clause-idles
returns-in_err-send_before_rest-clause-idles g c = λ host pass log.
    let failed = c.in_err-send_before_rest.ensures.sent in
    let why = err_from_is_err_and c.from_residual.result c.from_residual.ensures.1 in
    rw (why.1, why.2) (
      fails_to_wait host pass (g.C.Clock.tells c.args.clock.now) c.args.out.now.items
          c.send_before_rest.new.gathered.items (g.K.Link.tells c.args.link.now)
          (g.K.Link.tells c.send_before_rest.new.link)
          log (g.G.Gate.tells c.args.gate.now) c.requires c.in_err-send_before_rest.ensures.faults_kept failed,
      failed.failing.0,
      refl,
    )

pub returns-in-Stop-clause-idles : goal.returns-in-Stop-clause-idles
returns-in-Stop-clause-idles g c = λ host pass log.
    let idles = c.in-Stop.ensures.answered in (
      waits_stop host pass (g.C.Clock.tells c.args.clock.now) c.args.out.now.items c.send_before_rest.new.gathered.items
          (g.K.Link.tells c.args.link.now) (g.K.Link.tells c.send_before_rest.new.link)
          log (g.G.Gate.tells c.args.gate.now)
          (g.G.Gate.tells c.idle.new.self) c.requires c.in_ok-send_before_rest.ensures.sent idles
          c.in-Stop.ensures.stops_kept,
      idles.1.0,
      c.in_ok-send_before_rest.ensures.empty,
    )

pub returns-in_err-write_message-clause-idles : goal.returns-in_err-write_message-clause-idles
returns-in_err-write_message-clause-idles g c = λ host pass log.
    let gate = g.G.Gate.tells c.args.gate.now in
    let gate' = g.G.Gate.tells c.idle.new.self in
    let why =
    err_from_is_err_and c.from_residual-in_err-write_message.result c.from_residual-in_err-write_message.ensures.1 in
    let short =
    waits_short host pass (g.C.Clock.tells c.args.clock.now)
    (g.C.Clock.tells c.now-now.new.self) c.args.out.now.items c.send_before_rest.new.gathered.items
    c.write_message.new.out.items
    (g.K.Link.tells c.args.link.now)
    (g.K.Link.tells c.send_before_rest.new.link) log gate gate' c.args.standing.now.next c.now-now.result c.requires
    c.in_ok-send_before_rest.ensures.sent c.in_ok-send_before_rest.ensures.empty
    (went_on c.idle.result gate gate' c.in_default.not-Stop c.idle.ensures.answered)
    c.idle.ensures.stops_kept c.now-now.ensures in
    rw (why.1, why.2) (record {
      now = c.now-now.result;
      silent = sym c.is_silent_since.ensures ∙ c.if-is_silent_since.true;
      breaks = short.0;
      all_sent = short.1;
    })

pub returns-in_ok-write_message-clause-idles : goal.returns-in_ok-write_message-clause-idles
returns-in_ok-write_message-clause-idles g c = λ host pass log.
    let gate = g.G.Gate.tells c.args.gate.now in
    let gate' = g.G.Gate.tells c.idle.new.self in
    inr (record {
      now = c.now-now.result;
      silent = sym c.is_silent_since.ensures ∙ c.if-is_silent_since.true;
      acts =
          waits_alive host pass (g.C.Clock.tells c.args.clock.now) (g.C.Clock.tells c.now-now.new.self)
          (g.C.Clock.tells c.count_call.new.clock) c.args.out.now.items
          c.send_before_rest.new.gathered.items c.write_message.new.out.items (g.K.Link.tells c.args.link.now)
          (g.K.Link.tells c.send_before_rest.new.link) log gate gate'
          c.args.standing.now.next c.now-now.result c.count_call.new.standing.sent_at c.requires
          c.in_ok-send_before_rest.ensures.still_open c.in_ok-send_before_rest.ensures.sent
          (went_on c.idle.result gate gate' c.in_default.not-Stop c.idle.ensures.answered) c.idle.ensures.stops_kept
          c.now-now.ensures c.in_ok-write_message.ensures.ok
          c.count_call.ensures.answered;
      all_sent =
          message_left c.send_before_rest.new.gathered.items c.write_message.new.out.items c.args.standing.now.next
          c.in_ok-write_message.ensures.ok
          c.in_ok-send_before_rest.ensures.empty;
      next = c.count_call.ensures.next;
    })

pub returns-else-is_silent_since-clause-idles : goal.returns-else-is_silent_since-clause-idles
returns-else-is_silent_since-clause-idles g c = λ host pass log.
    let gate = g.G.Gate.tells c.args.gate.now in
    let gate' = g.G.Gate.tells c.idle.new.self in
    inl (record {
      now = c.now-now.result;
      not_silent = sym c.is_silent_since.ensures ∙ c.if-is_silent_since.false;
      acts =
          waits_quiet host pass (g.C.Clock.tells c.args.clock.now)
          (g.C.Clock.tells c.now-now.new.self) c.args.out.now.items c.send_before_rest.new.gathered.items
          (g.K.Link.tells c.args.link.now)
          (g.K.Link.tells c.send_before_rest.new.link) log gate gate' c.now-now.result c.requires
          c.in_ok-send_before_rest.ensures.still_open
          c.in_ok-send_before_rest.ensures.sent
          (went_on c.idle.result gate gate' c.in_default.not-Stop c.idle.ensures.answered) c.idle.ensures.stops_kept
          c.now-now.ensures;
      all_sent = c.in_ok-send_before_rest.ensures.empty;
      stands = refl;
    })
