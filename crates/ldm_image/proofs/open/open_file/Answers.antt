use Rattle.std.proofs.Common.{ℕ, ◌≡◌, ◌≤◌, min, List, length, take, ◌∙◌, ap, arith}
use Rattle.std.specs.Prelude.{Err, IfSome}
use Rattle.std.proofs.lemmas.List.{length-take}
use Rattle.ldm_disk.specs.Told.{FileRecord}
use Rattle.ldm_image.specs.Opening.{OpensFile}
use Rattle.ldm_image.specs.Stages.{IsHeaded}
use Rattle.ldm_image.proofs.OpeningLemmas.{front_is_long, front_is_small, front_of_itself, if_both, is_headed, kept_some, opens_behind, opens_kept, opens_rejected, rejected_cause}
use Rattle.ldm_image.proofs.open.open_file.Goals as goal

pub open_rows-requires-clause-headed : goal.open_rows-requires-clause-headed
open_rows-requires-clause-headed g c =
    let old = g.D.Disk.tells c.args.disk.now in
    let mid = g.D.Disk.tells c.read_head.new.disk in
    let len = c.args.len in
    let n = c.min.result in
    let head = c.in-Ok.head in
    let sizes = c.in-Ok-read_sizes.sizes in
    let sized = c.in-Ok-read_sizes.ensures (take n head) (front_of_itself len n head c.min.ensures) in
    let enough : 48 ≤ len = front_is_long len n head sizes c.min.ensures (omega (arith, length-take n head)) sized in
    let Long : FileRecord → Type 0 = λ f. len ≡ length f.bytes in
    let Read : FileRecord → Type 0 = λ f. take (min len 48) head ≡ take 48 f.bytes in
    let headed : IfSome old.file (λ f. IsHeaded len sizes f.bytes) =
    if_both Long Read (λ f. IsHeaded len sizes f.bytes) old.file
    (λ f long read.
    is_headed len sizes head f.bytes enough long c.in-Ok.ensures.bytes read
    (c.in-Ok-read_sizes.ensures f.bytes (ap (λ (k : ℕ). take k head) c.min.ensures ∙ read)))
    c.requires c.in-Ok.ensures.read in
    kept_some (λ (bytes : List ℕ). IsHeaded len sizes bytes) old.file mid.file c.in-Ok.ensures.file headed

pub open_rows-requires-clause-long : goal.open_rows-requires-clause-long
open_rows-requires-clause-long g c =
    let n = c.min.result in
    let head = c.in-Ok.head in
    front_is_long c.args.len n head c.in-Ok-read_sizes.sizes c.min.ensures (omega (arith, length-take n head))
    (c.in-Ok-read_sizes.ensures (take n head) (front_of_itself c.args.len n head c.min.ensures))

pub open_rows-requires-clause-small : goal.open_rows-requires-clause-small
open_rows-requires-clause-small g c =
    let n = c.min.result in
    let head = c.in-Ok.head in
    front_is_small (take n head) c.in-Ok-read_sizes.sizes (c.in-Ok-read_sizes.ensures (take n head) (front_of_itself c.args.len n head c.min.ensures))

pub returns-in-Ok-read_sizes-clause-opens : goal.returns-in-Ok-read_sizes-clause-opens
returns-in-Ok-read_sizes-clause-opens g c =
    let tells = g.D.Disk.tells in
    opens_behind c.open_rows.result (tells c.args.disk.now) (tells c.read_head.new.disk) (tells c.open_rows.new.disk) (g.met.D.Disk.consistent c.args.disk.now)
    c.in-Ok.ensures.file c.in-Ok.ensures.kept.faults c.open_rows.ensures.opens

pub returns-in-Err-read_sizes-clause-opens : goal.returns-in-Err-read_sizes-clause-opens
returns-in-Err-read_sizes-clause-opens g c =
    let old = g.D.Disk.tells c.args.disk.now in
    let mid = g.D.Disk.tells c.read_head.new.disk in
    let n = c.min.result in
    let head = c.in-Ok.head in
    let fault = c.in-Err-read_sizes.fault in
    let cause = rejected_cause fault old mid (take n head) (c.in-Err-read_sizes.ensures (take n head) (front_of_itself c.args.len n head c.min.ensures)) in
    let Long : FileRecord → Type 0 = λ f. c.args.len ≡ length f.bytes in
    let Read : FileRecord → Type 0 = λ f. take (min c.args.len 48) head ≡ take 48 f.bytes in
    let opens : IfSome old.file (λ f. OpensFile (Err fault) f.bytes) =
    if_both Long Read (λ f. OpensFile (Err fault) f.bytes) old.file
    (λ f long read. opens_rejected fault f.bytes (c.in-Err-read_sizes.ensures f.bytes (ap (λ (k : ℕ). take k head) c.min.ensures ∙ read))) c.requires c.in-Ok.ensures.read in
    (cause, opens_kept (Err fault) old.file mid.file c.in-Ok.ensures.file opens)
