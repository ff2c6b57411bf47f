use Rattle.std.proofs.Common.{◌≡◌, rules}
use Rattle.ldm_pqact_command.specs.State.{state_text}
use Rattle.ldm_pqact_command.proofs.Keeping.{wrote_both, wrote_none}
use Rattle.ldm_pqact_command.proofs.state.write_state.Goals as goal

pub returns-in-Stopped : goal.returns-in-Stopped
returns-in-Stopped g c =
    let signature = c.args.signature.now.0 in
    let text : c.as_slice-text.result.now ≡ state_text signature = search rules in
    wrote_both c.args.files.now signature _ _ _ _ _ _ _ c.spare.ensures c.file.ensures text c.in-Stopped.ensures.does c.act_with-in-Stopped.ensures.does

pub returns-in_default : goal.returns-in_default
returns-in_default g c =
    let signature = c.args.signature.now.0 in
    let text : c.as_slice-text.result.now ≡ state_text signature = search rules in
    wrote_none c.args.files.now signature _ _ _ _ _ c.spare.ensures text c.in_default.not-Stopped c.act_with.ensures.does
