use Rattle.std.proofs.Common.{ℕ, ◌≡◌, ◌+◌, ◌-◌, ◌*◌, ◌<◌, min, List, length, refl, sym, ◌∙◌, subst, arith}
use Rattle.std.specs.Prelude.{IfSome, slice_index}
use Rattle.std.specs.List.{between}
use Rattle.ldm_disk.specs.Told.{FileRecord}
use Rattle.ldm_image.specs.Stages.{IsHeaded, IsListed}
use Rattle.ldm_image.proofs.OpeningLemmas.{if_both, kept_some, holds_table, is_listed, opens_behind}
use Rattle.ldm_image.proofs.open.open_rows.Goals as goal

pub open_arena-requires-clause-listed : goal.open_arena-requires-clause-listed
open_arena-requires-clause-listed g c =
    let old = g.D.Disk.tells c.args.disk.now in
    let mid = g.D.Disk.tells c.read_part.new.disk in
    let len = c.args.len in
    let sizes = c.args.sizes.now in
    let rows = c.in-Ok-judge_rows.rows in
    let end = c.min-end.result in
    let count = end - 48 in
    let table = c.deref.result.now in
    let given = c.deref.ensures.value in
    let ends : end ≡ min (48 + 24 * sizes.count) len = omega (arith, c.min-end.ensures, c.row_start.ensures) in
    let long : length table ≡ count = omega (arith, c.deref.ensures.len, c.in-Ok.ensures.len) in
    let bytes : (i : ℕ) → slice_index table i < 256 = subst (λ (l : List ℕ). (i : ℕ) → slice_index l i < 256) (sym given) c.in-Ok.ensures.bytes in
    let Headed : FileRecord → Type 0 = λ f. IsHeaded len sizes f.bytes in
    let Read : FileRecord → Type 0 = λ f. c.in-Ok.table.items ≡ between 48 (48 + count) f.bytes in
    let listed : IfSome old.file (λ f. IsListed len sizes rows.notes.items rows.fault f.bytes) =
    if_both Headed Read (λ f. IsListed len sizes rows.notes.items rows.fault f.bytes) old.file
    (λ f headed read.
    let is : table ≡ between 48 (48 + count) f.bytes = given ∙ read in
    is_listed len end count sizes rows.notes.items rows.fault table f.bytes headed c.requires.long ends refl is bytes
    (c.in-Ok-judge_rows.ensures f.bytes (holds_table len end count sizes table f.bytes headed c.requires.long ends refl long is)))
    c.requires.headed c.in-Ok.ensures.read in
    kept_some (λ (bytes : List ℕ). IsListed len sizes rows.notes.items rows.fault bytes) old.file mid.file c.in-Ok.ensures.file listed

pub returns-in-Ok-judge_rows-clause-opens : goal.returns-in-Ok-judge_rows-clause-opens
returns-in-Ok-judge_rows-clause-opens g c =
    let tells = g.D.Disk.tells in
    opens_behind c.open_arena.result (tells c.args.disk.now) (tells c.read_part.new.disk) (tells c.open_arena.new.disk) (g.met.D.Disk.consistent c.args.disk.now)
    c.in-Ok.ensures.file c.in-Ok.ensures.kept.faults c.open_arena.ensures.opens
