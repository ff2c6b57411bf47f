use Rattle.std.proofs.Common.{◌≡◌, rules}
use Rattle.ldm_pqact_command.specs.State.{state_text}
use Rattle.ldm_pqact_command.proofs.Keeping.{not_busy, wrote_both, wrote_none}
use Rattle.ldm_pqact_command.proofs.state.keep_with.Goals as goal

pub returns-in-Stopped-clause-does : goal.returns-in-Stopped-clause-does
returns-in-Stopped-clause-does g c =
    let signature = c.args.signature.now.0 in
    let text : c.as_slice-text.result.now ≡ state_text signature = search rules in
    wrote_both c.args.files.now signature _ _ _ _ _ _ _ c.spare.ensures c.file.ensures text c.in-Stopped.ensures.does c.act_with-in-Stopped.ensures.does

pub returns-in-Stopped-clause-not_busy : goal.returns-in-Stopped-clause-not_busy
returns-in-Stopped-clause-not_busy g c = not_busy c.act_with-in-Stopped.result _ _ _ c.act_with-in-Stopped.ensures.does

pub returns-in_default-clause-does : goal.returns-in_default-clause-does
returns-in_default-clause-does g c =
    let signature = c.args.signature.now.0 in
    let text : c.as_slice-text.result.now ≡ state_text signature = search rules in
    wrote_none c.args.files.now signature _ _ _ _ _ c.spare.ensures text c.in_default.not-Stopped c.act_with.ensures.does

pub returns-in_default-clause-not_busy : goal.returns-in_default-clause-not_busy
returns-in_default-clause-not_busy g c = not_busy c.act_with.result _ _ _ c.act_with.ensures.does
