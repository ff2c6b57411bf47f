use Rattle.std.proofs.Common.{◌∙◌, refl}
use Rattle.ldm_upstream.proofs.Asked.{asking_is}
use Rattle.ldm_upstream.proofs.asking.Asking.create.Goals as goal

pub returns : goal.returns
returns c =
    let matched = c.in-Ok-matcher.ensures in
    asking_is _ c.args.host.now c.args.policy.now c.args.ask.now c.args.ahead.now c.in-Ok-for_host.ensures (matched
    ∙ c.requires) refl refl c.requires
    c.in-Ok.ensures.empty c.in-Ok-create.ensures.heard
