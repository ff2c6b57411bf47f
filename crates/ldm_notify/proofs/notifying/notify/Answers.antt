use Rattle.std.proofs.Common.{refl, sym}
use Rattle.ldm_sender.proofs.Unturned.{short}
use Rattle.ldm_notify.specs.Notifying.{asked_of}
use Rattle.ldm_notify.proofs.Asked.{told_of}
use Rattle.ldm_notify.proofs.Closing.{awaits_none, unnoted}
use Rattle.ldm_notify.proofs.notifying.notify.Goals as goal

pub returns-in-Err-create-clause-notified : goal.returns-in-Err-create-clause-notified
returns-in-Err-create-clause-notified g c =
    (unnoted _ _ _ _ _ _
    (short (asked_of c.args.host.now c.args.policy.now c.args.ask.now) c.args.pass.now _ _ _ _ c.requires.not_closed)).0

pub notify_end-requires-in-Ok : goal.notify_end-requires-in-Ok
notify_end-requires-in-Ok g c =
    let log = g.E.Sink.tells c.args.log.now in
    let gate = g.G.Gate.tells c.args.gate.now in
    let declined = c.decline_whole.ensures c.args.host.now c.args.policy.now c.args.pass.now log gate
    (sym c.in-Ok.ensures) in
    awaits_none c.decline_whole.result _ _ _ _ _ declined.0

pub returns-in-Ok : goal.returns-in-Ok
returns-in-Ok g c =
    let log = g.E.Sink.tells c.args.log.now in
    let gate = g.G.Gate.tells c.args.gate.now in
    let declined = c.decline_whole.ensures c.args.host.now c.args.policy.now c.args.pass.now log gate
    (sym c.in-Ok.ensures) in
    record {
      kept = refl;
      counts = declined.1;
      notified =
          told_of _ _ _ _ _ _ _ _ c.notify_end-in-Ok.ensures refl declined.0;
    }

pub returns-in-Err-clause-notified : goal.returns-in-Err-clause-notified
returns-in-Err-clause-notified g c =
    (unnoted _ _ _ _ _ _
    (short (asked_of c.args.host.now c.args.policy.now c.args.ask.now) c.args.pass.now _ _ _ _ c.requires.not_closed)).0
