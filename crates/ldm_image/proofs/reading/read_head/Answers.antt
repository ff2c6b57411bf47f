use Rattle.std.proofs.Common.{◌≡◌, ℕ, length, replicate, arith}
use Rattle.std.proofs.lemmas.List.{length-take}
use Rattle.ldm_image.proofs.OpenLemmas.{head_is}
use Rattle.ldm_image.proofs.OpeningLemmas.{append_bytes, drop_bytes, zero_bytes}
use Rattle.ldm_image.proofs.reading.read_head.Goals as goal

pub returns-in-Ok-clause-read : goal.returns-in-Ok-clause-read
returns-in-Ok-clause-read g c =
    let into = c.fill.new.into in
    let n = c.min.result in
    let count : length into ≡ n = omega (arith, c.min.ensures, length-take {A = ℕ} n (replicate 48 0)) in
    head_is c.args.len n into c.in-Ok.field-0 (omega (arith, c.min.ensures)) count (g.D.Disk.tells c.args.disk.now).file c.requires c.in-Ok.ensures.filled

pub returns-in-Ok-clause-bytes : goal.returns-in-Ok-clause-bytes
returns-in-Ok-clause-bytes g c = append_bytes c.fill.new.into _ c.in-Ok.ensures.bytes (drop_bytes c.min.result (replicate 48 0) (zero_bytes 48))
