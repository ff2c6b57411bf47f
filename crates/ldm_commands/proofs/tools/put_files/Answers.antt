use Rattle.std.specs.Option.{option_copied}
use Rattle.ldm_commands.proofs.Named.{are_named}
use Rattle.ldm_commands.proofs.tools.put_files.Goals as goal

pub pqinsert-requires-clause-names : goal.pqinsert-requires-clause-names
pqinsert-requires-clause-names g c =
    let words = c.args.words.now in
    are_named words.origin.now (option_copied words.ident) words.files.items c.as_slice-2.result.now c.as_slice-2.ensures.value words.named
