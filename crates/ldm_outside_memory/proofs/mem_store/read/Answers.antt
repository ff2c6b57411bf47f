use Rattle.ldm_outside_memory.proofs.FileLemmas.{bytes_in_place, bytes_nowhere}
use Rattle.std.proofs.Common.{◌∙◌, sym}
use Rattle.ldm_outside_memory.proofs.mem_store.read.Goals as goal

pub returns-in_default : goal.returns-in_default
returns-in_default c = bytes_nowhere c.args.path.now c.args.files.now (sym c.find.ensures ∙ c.in_default.is)

pub returns-then-bytes-limit : goal.returns-then-bytes-limit
returns-then-bytes-limit c = (
  c.bytes-bytes.result.now,
  bytes_in_place c.args.path.now c.args.files.now c.in-Some.at c.index-files-at.result c.bytes-bytes.result.now (sym c.find.ensures ∙ c.in-Some.is) c.index-files-at.is c.bytes-bytes.ensures,
  c.if-bytes-limit.true,
)

pub returns-in-Ok : goal.returns-in-Ok
returns-in-Ok c =
    let same = c.in-Ok.ensures.items in (
      bytes_in_place c.args.path.now c.args.files.now c.in-Some.at c.index-files-at.result c.in-Ok.bytes.items (sym c.find.ensures ∙ c.in-Some.is) c.index-files-at.is (same ∙ c.bytes-bytes.ensures),
      rw same c.if-bytes-limit.false,
    )
