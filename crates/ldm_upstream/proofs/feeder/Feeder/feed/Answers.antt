use Rattle.std.proofs.Common.{◌∙◌, ap, refl, true}
use Rattle.ldm_shared.specs.Passes.{PassView}
use Rattle.ldm_shared.proofs.Made.{calls_some, calls_trans}
use Rattle.ldm_sender.proofs.Settling.{left_closed, left_open}
use Rattle.ldm_sender.proofs.Steps.{same_then}
use Rattle.ldm_upstream.specs.Feeder.{asked_by}
use Rattle.ldm_upstream.proofs.Fed.{closes, worn, worn_at_close}
use Rattle.ldm_upstream.proofs.feeder.Feeder.feed.Goals as goal

pub returns-in-Worn-clause-fed : goal.returns-in-Worn-clause-fed
returns-in-Worn-clause-fed g c = λ missed first ahead answer makes heard.
    worn c.products_stay.ensures.stays (asked_by c.args.self.now) ahead missed c.args.self.now.reader.k first
    c.begin-end.new.pass _ _ _ _ c.begin-end.result _ c.in-Worn.is refl c.begin-end.ensures.still_open
    (c.begin-end.ensures.fed missed first ahead answer makes heard)

pub returns-in-Worn-clause-called : goal.returns-in-Worn-clause-called
returns-in-Worn-clause-called g c = c.begin-end.ensures.called

pub returns-in-Worn-close : goal.returns-in-Worn-close
returns-in-Worn-close g c =
    let pass = c.begin-end.new.pass in
    let found = c.in-Worn-close.ensures in
    record {
      kept = same_then c.args.pass.now pass c.close.new.pass c.begin-end.ensures.kept found.kept;
      fed = λ missed first ahead answer makes heard.
          worn_at_close c.products_stay.ensures.stays (asked_by c.args.self.now) ahead missed
          c.args.self.now.reader.k first c.close.new.pass _ _ _ _ c.begin-end.result _ c.in-Worn-close.turns
          c.begin-end.ensures.still_open (c.begin-end.ensures.fed missed first ahead answer makes heard) found.worn;
      called = (
        _,
        calls_trans c.args.pass.now pass c.close.new.pass _ _ c.begin-end.ensures.called.1
            (calls_some pass c.close.new.pass _ found.worn.makes),
      );
    }

pub returns-in-Stopped : goal.returns-in-Stopped
returns-in-Stopped g c =
    let pass = c.begin-end.new.pass in
    let final = c.close.new.pass in
    let link = g.K.Link.tells c.begin-end.new.link in
    let closed = c.in_default-close.ensures in
    let actor = λ (p : PassView). p.actor in
    record {
      kept = same_then c.args.pass.now pass final c.begin-end.ensures.kept closed.kept;
      fed = λ missed first ahead answer makes heard.
          rw c.close-in-Stopped.ensures
          (closes c.products_stay.ensures.stays (asked_by c.args.self.now) ahead missed c.args.self.now.reader.k first
          final _ _ _ _ c.begin-end.result _ true c.in_default.not-Worn
          (c.begin-end.ensures.fed missed first ahead answer makes heard)
          (ap actor c.begin-end.ensures.kept ∙ ap actor makes.same) closed.done
          (left_closed c.begin-end.result link c.in-Stopped.is));
      called = (
        _,
        calls_trans c.args.pass.now pass final _ _ c.begin-end.ensures.called.1
            (calls_some pass final _ closed.done.makes),
      );
    }

pub returns-in_default-end : goal.returns-in_default-end
returns-in_default-end g c =
    let pass = c.begin-end.new.pass in
    let final = c.close.new.pass in
    let link = g.K.Link.tells c.begin-end.new.link in
    let closed = c.in_default-close.ensures in
    let actor = λ (p : PassView). p.actor in
    record {
      kept = same_then c.args.pass.now pass final c.begin-end.ensures.kept closed.kept;
      fed = λ missed first ahead answer makes heard.
          closes c.products_stay.ensures.stays (asked_by c.args.self.now) ahead missed c.args.self.now.reader.k first
          final _ _ _ _ c.begin-end.result _ link.closed c.in_default.not-Worn
          (c.begin-end.ensures.fed missed first ahead answer makes heard)
          (ap actor c.begin-end.ensures.kept ∙ ap actor makes.same) closed.done
          (left_open c.begin-end.result link c.in_default-end.not-Stopped c.begin-end.ensures.still_open);
      called = (
        _,
        calls_trans c.args.pass.now pass final _ _ c.begin-end.ensures.called.1
            (calls_some pass final _ closed.done.makes),
      );
    }
