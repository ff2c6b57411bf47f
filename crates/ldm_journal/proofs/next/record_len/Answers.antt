use Rattle.std.proofs.Common.{◌<◌, ◌+◌, ◌-◌, ◌≤◌, ◌≡◌, length, arith}
use Rattle.std.specs.Prelude.{Ok, Err}
use Rattle.ldm_journal.specs.declared.places.TheConstants.{LARGEST_RING}
use Rattle.ldm_journal.specs.declared.fault.JournalFault.TheVariants.{BadRecord}
use Rattle.ldm_journal.specs.Reading.{CountsRecord, FillsAround}
use Rattle.ldm_journal.proofs.Stays.{always, in_bytes}
use Rattle.ldm_journal.proofs.ReadLemmas.{counted_so, count_fails, too_long, too_short}
use Rattle.ldm_journal.proofs.next.record_len.Goals as goal

pub returns-then-left-lt24-clause-len : goal.returns-then-left-lt24-clause-len
returns-then-left-lt24-clause-len g c =
    let ring = c.args.ring in
    let from = c.args.from in
    let left = c.args.left in
    always (λ bytes. CountsRecord (Err BadRecord) ring from left bytes) (g.D.Disk.tells c.args.disk.now).file (λ bytes. too_short ring from left bytes c.if-left-lt24.true)

pub returns-in-Err-clause-len : goal.returns-in-Err-clause-len
returns-in-Err-clause-len g c =
    let ring = c.args.ring in
    let from = c.args.from in
    let left = c.args.left in
    let into = c.fill_around.new.into in
    let fault = c.in-Err.fault in
    in_bytes (λ bytes. FillsAround (Err fault) ring from into bytes) (λ bytes. CountsRecord (Err fault) ring from left bytes) (g.D.Disk.tells c.args.disk.now).file
    (λ bytes fills. count_fails fault ring from left into bytes fills) c.in-Err.ensures.filled

pub returns-then-count-left-clause-len : goal.returns-then-count-left-clause-len
returns-then-count-left-clause-len g c =
    let ring = c.args.ring in
    let from = c.args.from in
    let left = c.args.left in
    let into = c.fill_around.new.into in
    let done = c.in-Ok.field-0 in
    let count = c.from_be_bytes-count.result in
    let eight : length into ≡ 8 = omega arith in
    let long : 24 ≤ left = omega arith in
    let small : left ≤ LARGEST_RING = omega arith in
    let over : left - 24 < count = omega arith in
    in_bytes (λ bytes. FillsAround (Ok done) ring from into bytes) (λ bytes. CountsRecord (Err BadRecord) ring from left bytes) (g.D.Disk.tells c.args.disk.now).file
    (λ bytes fills. too_long done ring from left count into bytes eight long small c.from_be_bytes-count.ensures over fills) c.in-Ok.ensures.filled

pub returns-clause-len : goal.returns-clause-len
returns-clause-len g c =
    let ring = c.args.ring in
    let from = c.args.from in
    let left = c.args.left in
    let into = c.fill_around.new.into in
    let done = c.in-Ok.field-0 in
    let count = c.from_be_bytes-count.result in
    let eight : length into ≡ 8 = omega arith in
    let long : 8 ≤ left = omega arith in
    let small : left ≤ LARGEST_RING = omega arith in
    in_bytes (λ bytes. FillsAround (Ok done) ring from into bytes) (λ bytes. CountsRecord (Ok (count + 24)) ring from left bytes) (g.D.Disk.tells c.args.disk.now).file
    (λ bytes fills. counted_so done ring from left count into bytes eight long small c.from_be_bytes-count.ensures fills) c.in-Ok.ensures.filled
