use Rattle.std.proofs.Common.{◌≡◌, ◌+◌, arith}
use Rattle.std.specs.Prelude.{Err, IfSome}
use Rattle.std.specs.List.{between}
use Rattle.ldm_disk.specs.Told.{FileRecord}
use Rattle.ldm_image.specs.Opening.{OpensFile}
use Rattle.ldm_image.specs.Stages.{IsListed}
use Rattle.ldm_image.specs.declared.open.ImageFault.TheVariants.{BadImage}
use Rattle.ldm_image.proofs.OpeningLemmas.{opens_here, opens_kept, if_some, if_both, holds_all, bytes_if_whole, no_cause}
use Rattle.ldm_image.proofs.open.open_arena.Goals as goal

pub returns-then-len-start-clause-opens : goal.returns-then-len-start-clause-opens
returns-then-len-start-clause-opens g c =
    let file = (g.D.Disk.tells c.args.disk.now).file in
    let Listed : FileRecord → Type 0 = λ f. IsListed c.args.len c.args.sizes.now c.args.rows.now.notes.items c.args.rows.now.fault f.bytes in
    let opens : IfSome file (λ f. OpensFile (Err (BadImage c.cut_at.result)) f.bytes) =
    if_some Listed (λ f. OpensFile (Err (BadImage c.cut_at.result)) f.bytes) file
    (λ f listed.
    c.cut_at.ensures f.bytes listed.sized listed.rows
    (λ whole. absurd (omega (arith, c.if-len-start.true, c.row_start-start.ensures, whole, listed.long, listed.sized.count, listed.sized.arena))))
    c.requires.listed in
    (tt, opens_here (Err (BadImage c.cut_at.result)) file opens)

pub returns-in-Ok-clause-opens : goal.returns-in-Ok-clause-opens
returns-in-Ok-clause-opens g c =
    let old = g.D.Disk.tells c.args.disk.now in
    let new = g.D.Disk.tells c.read_part.new.disk in
    let sizes = c.args.sizes.now in
    let rows = c.args.rows.now in
    let start = c.row_start-start.result in
    let arena = c.in-Ok.arena.items in
    let result = c.queue_of.result in
    let Listed : FileRecord → Type 0 = λ f. IsListed c.args.len sizes rows.notes.items rows.fault f.bytes in
    let Read : FileRecord → Type 0 = λ f. arena ≡ between start (start + sizes.arena) f.bytes in
    let opens : IfSome old.file (λ f. OpensFile result f.bytes) =
    if_both Listed Read (λ f. OpensFile result f.bytes) old.file
    (λ f listed read.
    c.queue_of.ensures.opens f.bytes
    (holds_all c.args.len start sizes rows.notes.items rows.fault arena f.bytes listed c.row_start-start.ensures c.if-len-start.false read)
    (bytes_if_whole c.args.len start sizes rows.notes.items rows.fault arena f.bytes listed c.row_start-start.ensures c.if-len-start.false read c.in-Ok.ensures.bytes)
    listed.long)
    c.requires.listed c.in-Ok.ensures.read in
    (no_cause result old new c.queue_of.ensures.no_disk_fault, opens_kept result old.file new.file c.in-Ok.ensures.file opens)
