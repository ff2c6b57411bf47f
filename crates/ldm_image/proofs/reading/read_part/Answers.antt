use Rattle.std.proofs.Common.{◌≤◌, length, ap, arith}
use Rattle.ldm_image.proofs.OpeningLemmas.{append_bytes, none_behind, take_bytes}
use Rattle.ldm_image.proofs.reading.read_part.Goals as goal

pub returns-in-Ok-clause-bytes : goal.returns-in-Ok-clause-bytes
returns-in-Ok-clause-bytes g c =
    let all : length c.in_ok-bytes.bytes.items ≤ length c.fill.new.into = omega (arith, c.fill.auto.into, ap length c.deref_mut.ensures.value) in
    take_bytes c.in_ok-bytes.bytes.len _ (append_bytes c.fill.new.into _ c.in-Ok.ensures.bytes (none_behind (length c.fill.new.into) c.in_ok-bytes.bytes.items all))
