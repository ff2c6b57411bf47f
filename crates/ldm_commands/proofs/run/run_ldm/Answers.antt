use Rattle.std.proofs.Common.{rules, map, string_bytes, subst, Global}
use Rattle.ldm_words.specs.declared.fault.WordsFault.{WordsFault}
use Rattle.ldm_commands.specs.Command.{command_of, take_memory}
use Rattle.ldm_commands.specs.Doing.{IsUnread}
use Rattle.ldm_commands.proofs.Lacking.{lacking_completes, lacking_ends, lacking_law}
use Rattle.ldm_commands.proofs.run.run_ldm.Goals as goal

pub returns-in-Err-OutOfMemory-clause-ends : goal.returns-in-Err-OutOfMemory-clause-ends
returns-in-Err-OutOfMemory-clause-ends g c =
    let words = map (string_bytes {Z = Global}) c.args.words.now in
    let lacks = subst (λ (why : WordsFault). IsUnread (command_of words) (take_memory words) why) c.in-Err-OutOfMemory.field-0-is c.in-Err-OutOfMemory.ensures in
    lacking_ends _ _ _ _ _ _ (lacks, (search rules, search rules), c.report.ensures.reports)

pub returns-in-Err-OutOfMemory-clause-law : goal.returns-in-Err-OutOfMemory-clause-law
returns-in-Err-OutOfMemory-clause-law g c =
    let words = map (string_bytes {Z = Global}) c.args.words.now in
    let lacks = subst (λ (why : WordsFault). IsUnread (command_of words) (take_memory words) why) c.in-Err-OutOfMemory.field-0-is c.in-Err-OutOfMemory.ensures in
    lacking_law _ _ _ _ _ _ (lacks, (search rules, search rules), c.report.ensures.reports)

pub returns-in-Err-OutOfMemory-clause-completes : goal.returns-in-Err-OutOfMemory-clause-completes
returns-in-Err-OutOfMemory-clause-completes g c = lacking_completes _ _ _ _ _ c.report.ensures.reports
