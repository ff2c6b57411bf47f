use Rattle.std.proofs.Common.{◌<◌, ◌+◌, ◌≤◌, ◌≡◌, ◌%◌, ◌++◌, length, arith}
use Rattle.std.specs.Prelude.{Ok}
use Rattle.std.proofs.Math.Nat.{mod-lt}
use Rattle.ldm_journal.specs.declared.places.TheConstants.{RING}
use Rattle.ldm_journal.specs.Reading.{Fills, FillsAround}
use Rattle.ldm_journal.proofs.Stays.{in_bytes, in_bytes_both, kept_back}
use Rattle.ldm_journal.proofs.FillLemmas.{part_filled, parts_filled}
use Rattle.ldm_journal.proofs.read.fill_around.Goals as goal

pub returns-then-into-to_end-clause-filled : goal.returns-then-into-to_end-clause-filled
returns-then-into-to_end-clause-filled g c =
    let ring = c.args.ring in
    let from = c.args.from in
    let into = c.fill.new.into in
    let result = c.fill.result in
    let some : 0 < ring = omega arith in
    let below = mod-lt from {m = ring} some in
    let fits : from % ring + length into ≤ ring = omega (arith, below, c.fill.auto.into) in
    in_bytes (λ bytes. Fills result (RING + from % ring) into bytes) (λ bytes. FillsAround result ring from into bytes) (g.D.Disk.tells c.args.disk.now).file
    (λ bytes fills. part_filled result ring from into bytes some fits fills) c.fill.ensures.filled

pub returns-in-Ok-clause-filled : goal.returns-in-Ok-clause-filled
returns-in-Ok-clause-filled g c =
    let tells = g.D.Disk.tells in
    let ring = c.args.ring in
    let from = c.args.from in
    let first = c.fill-2.new.into in
    let rest = c.fill-in-Ok.new.into in
    let done = c.in-Ok.field-0 in
    let result = c.fill-in-Ok.result in
    let some : 0 < ring = omega arith in
    let below = mod-lt from {m = ring} some in
    let end : from % ring + length first ≡ ring = omega (arith, below, c.fill-2.auto.into, c.split_at_mut-first.ensures.front_len) in
    let fits : length rest ≤ ring = omega (arith, c.fill-in-Ok.auto.into, c.split_at_mut-first.ensures.back_len, c.requires.short) in
    let old = (tells c.args.disk.now).file in
    let mid = (tells c.fill-2.new.disk).file in
    in_bytes_both (λ bytes. Fills (Ok done) (RING + from % ring) first bytes) (λ bytes. Fills result RING rest bytes) (λ bytes. FillsAround result ring from (first ++ rest) bytes) old
    (λ bytes one next. parts_filled done result ring from first rest bytes some end fits one next) c.in-Ok.ensures.filled
    (kept_back (λ bytes. Fills result RING rest bytes) old mid c.fill-2.ensures.file c.fill-in-Ok.ensures.filled)
