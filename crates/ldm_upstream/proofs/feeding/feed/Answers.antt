use Rattle.std.proofs.Common.{[], inl, inr, refl, sym}
use Rattle.ldm_sender.specs.Asked.{asked_of}
use Rattle.ldm_sender.proofs.Unturned.{short}
use Rattle.ldm_upstream.proofs.Fed.{unfed}
use Rattle.ldm_upstream.proofs.feeding.feed.Goals as goal

pub returns-in-Err-create-clause-fed : goal.returns-in-Err-create-clause-fed
returns-in-Err-create-clause-fed g c =
    (unfed _ _ _ _ _ _ _
    (short (asked_of c.args.host.now c.args.policy.now c.args.ask.now) c.args.pass.now _ _ _ _ c.requires.not_closed)).0

pub returns-in-Ok : goal.returns-in-Ok
returns-in-Ok g c =
    let log = g.E.Sink.tells c.args.log.now in
    let gate = g.G.Gate.tells c.args.gate.now in
    let declined = c.decline_whole.ensures.fed c.args.host.now [] c.args.policy.now c.args.pass.now log gate
    (sym c.in-Ok.ensures) in
    record {
      kept = refl;
      counts = declined.1;
      fed = declined.0;
      decided =
          inr (c.decline_whole.ensures.decided c.args.host.now c.args.policy.now c.args.pass.now (sym c.in-Ok.ensures));
    }

pub returns-in-Err-clause-fed : goal.returns-in-Err-clause-fed
returns-in-Err-clause-fed g c =
    (unfed _ _ _ _ _ _ _
    (short (asked_of c.args.host.now c.args.policy.now c.args.ask.now) c.args.pass.now _ _ _ _ c.requires.not_closed)).0

pub returns-in-Err-clause-decided : goal.returns-in-Err-clause-decided
returns-in-Err-clause-decided g c = inl refl
