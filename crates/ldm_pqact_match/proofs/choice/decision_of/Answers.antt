use Rattle.std.proofs.Common.{◌∙◌, is_some, sym, ap}
use Rattle.ldm_pattern.specs.Parts.{parts_of}
use Rattle.ldm_pqact_match.proofs.Choices.{decision_is}
use Rattle.ldm_pqact_match.proofs.choice.decision_of.Goals as goal

pub returns : goal.returns
returns c =
    let groups = rw c.in-Some.is at c.in_ok-groups.ensures.groups in (
      sym c.in_ok-groups.ensures.acts ∙ ap is_some c.in-Some.is,
      decision_is c.args.info.now c.args.time c.args.entry.now (parts_of c.in-Some.groups) c.of-inserted.result c.seqno.result c.in_ok-decide.field-0
          groups c.of-inserted.ensures c.seqno.ensures c.in_ok-decide.ensures,
    )
