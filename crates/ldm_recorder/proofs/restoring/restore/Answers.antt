use Rattle.std.proofs.Common.{◌∙◌, arith, length, sym}
use Rattle.ldm_disk.proofs.Filled.{both_keep, none_keeps}
use Rattle.ldm_recorder.proofs.Finding.{found_none}
use Rattle.ldm_recorder.proofs.PuttingBack.{asked, fault_later, keeps_disk, no_call, of_same, parts_entry, puts_entry, restores_all, restores_front, restores_more, restores_none, restores_worn, same_none, same_then, slice_is}
use Rattle.ldm_recorder.proofs.restoring.restore.Goals as goal

pub loop-init : goal.loop-init
loop-init g c =
    let tells = g.D.Disk.tells in
    let disk = c.args.disk.now in
    let reader = c.reader-reader.result in (
      same_none c.args.pass.now,
      none_keeps (tells disk).file,
      no_call (tells disk),
      omega (arith, reader.filled, reader.sized),
      restores_none c.args.journal.now.marks reader (tells disk).file (asked c.args.lines.now c.clear.new.lasts) c.args.pass.now
          (found_none c.args.lines.now c.clear.new.lasts (length c.args.lasts.now) c.requires.one_each c.clear.ensures) (g.met.D.Disk.consistent disk) c.reader-reader.ensures.first,
    )

pub returns-in-Ok-None-clause-restored : goal.returns-in-Ok-None-clause-restored
returns-in-Ok-None-clause-restored g c =
    let tells = g.D.Disk.tells in
    let at = rw c.in-Ok-None.field-0-is at c.in-Ok-None.ensures in
    restores_all c.args.journal.now.marks c.loop.reader c.next-in-loop.new.self c.next-in-loop.new.buffer.items (tells c.args.disk.now).file (tells c.loop.disk).file c.loop.invariant.1
    c.loop.count (asked c.args.lines.now c.loop.lasts) c.args.pass.now c.loop.pass c.loop.invariant.4 at.read

pub returns-in-Err-clause-restored : goal.returns-in-Err-clause-restored
returns-in-Err-clause-restored g c =
    let tells = g.D.Disk.tells in
    restores_front c.in-Err.fault c.loop.count c.args.journal.now.marks c.loop.reader c.next-in-loop.new.self c.next-in-loop.new.buffer.items (tells c.args.disk.now).file (tells c.loop.disk).file
    (asked c.args.lines.now c.loop.lasts) c.args.pass.now c.loop.pass c.loop.invariant.4 c.loop.invariant.1 c.in-Err.ensures.read

-- ---- a product was read, and is put back

pub put_back-requires-clause-of : goal.put_back-requires-clause-of
put_back-requires-clause-of g c = of_same c.args.shared.now c.args.pass.now c.loop.pass c.requires.of c.loop.invariant.0

pub returns-in-Worn-clause-kept : goal.returns-in-Worn-clause-kept
returns-in-Worn-clause-kept g c = same_then c.args.pass.now c.loop.pass c.put_back.new.pass c.loop.invariant.0 c.in-Worn.ensures.kept

pub returns-in-Worn-clause-restored : goal.returns-in-Worn-clause-restored
returns-in-Worn-clause-restored g c =
    let tells = g.D.Disk.tells in
    let at = rw c.in-Ok-Some.field-0-is at c.in-Ok-Some.ensures in
    let entry = c.in-Ok-Some.entry in
    restores_worn entry c.loop.reader c.next-in-loop.new.self c.next-in-loop.new.buffer.items c.args.journal.now.marks c.loop.count (tells c.args.disk.now).file (tells c.loop.disk).file
    (asked c.args.lines.now c.loop.lasts) c.args.pass.now c.loop.pass c.put_back.new.pass c.loop.invariant.4 c.loop.invariant.1 at.read
    (parts_entry entry c.next-in-loop.new.buffer.items _ c.loop.pass c.put_back.new.pass (slice_is entry.body_at c.size.result entry.info.size c.deref.result.now c.next-in-loop.new.buffer.items c.size.ensures c.deref.ensures.value) (c.in-Worn.ensures.puts entry.number))

pub loop-preserved : goal.loop-preserved
loop-preserved g c =
    let tells = g.D.Disk.tells in
    let at = rw c.in-Ok-Some.field-0-is at c.in-Ok-Some.ensures in
    let entry = c.in-Ok-Some.entry in
    let i = c.loop.invariant in (
      same_then c.args.pass.now c.loop.pass c.put_back.new.pass i.0 c.in-Done.ensures.kept,
      both_keep (tells c.args.disk.now).file (tells c.loop.disk).file _ (g.met.D.Disk.consistent c.args.disk.now) (g.met.D.Disk.consistent c.loop.disk) i.1 at.file,
      keeps_disk (tells c.args.disk.now) (tells c.loop.disk) _ i.2 at.kept,
      omega (arith, i.3, at.shorter),
      restores_more entry c.loop.reader c.next-in-loop.new.self c.next-in-loop.new.buffer.items c.args.journal.now.marks c.loop.count (tells c.args.disk.now).file (tells c.loop.disk).file
          c.args.lines.now c.loop.lasts c.find_last.new.lasts c.args.pass.now c.loop.pass c.put_back.new.pass i.4 i.1 at.read (puts_entry entry c.next-in-loop.new.buffer.items _ c.loop.pass c.put_back.new.pass (slice_is entry.body_at c.size.result entry.info.size c.deref.result.now c.next-in-loop.new.buffer.items c.size.ensures c.deref.ensures.value) (c.in-Done.ensures.puts entry.number))
          (λ one all number is found. c.find_last.ensures one all number (is ∙ sym c.signature.ensures) found),
    )

-- ---- the disk

pub returns-in-Ok-None-clause-file : goal.returns-in-Ok-None-clause-file
returns-in-Ok-None-clause-file g c =
    let tells = g.D.Disk.tells in
    both_keep (tells c.args.disk.now).file (tells c.loop.disk).file _ (g.met.D.Disk.consistent c.args.disk.now) (g.met.D.Disk.consistent c.loop.disk) c.loop.invariant.1 c.in-Ok-None.ensures.file

pub returns-in-Ok-None-clause-disk : goal.returns-in-Ok-None-clause-disk
returns-in-Ok-None-clause-disk g c =
    let tells = g.D.Disk.tells in
    keeps_disk (tells c.args.disk.now) (tells c.loop.disk) _ c.loop.invariant.2 c.in-Ok-None.ensures.kept

pub returns-in-Err-clause-failed : goal.returns-in-Err-clause-failed
returns-in-Err-clause-failed g c =
    let tells = g.D.Disk.tells in
    fault_later c.in-Err.fault (tells c.args.disk.now) (tells c.loop.disk) _ c.loop.invariant.2.faults c.in-Err.ensures.failed

pub returns-in-Err-clause-file : goal.returns-in-Err-clause-file
returns-in-Err-clause-file g c =
    let tells = g.D.Disk.tells in
    both_keep (tells c.args.disk.now).file (tells c.loop.disk).file _ (g.met.D.Disk.consistent c.args.disk.now) (g.met.D.Disk.consistent c.loop.disk) c.loop.invariant.1 c.in-Err.ensures.file

pub returns-in-Err-clause-disk : goal.returns-in-Err-clause-disk
returns-in-Err-clause-disk g c =
    let tells = g.D.Disk.tells in
    keeps_disk (tells c.args.disk.now) (tells c.loop.disk) _ c.loop.invariant.2 c.in-Err.ensures.kept

pub returns-in-Worn-clause-file : goal.returns-in-Worn-clause-file
returns-in-Worn-clause-file g c =
    let tells = g.D.Disk.tells in
    both_keep (tells c.args.disk.now).file (tells c.loop.disk).file _ (g.met.D.Disk.consistent c.args.disk.now) (g.met.D.Disk.consistent c.loop.disk) c.loop.invariant.1 c.in-Ok-Some.ensures.file

pub returns-in-Worn-clause-disk : goal.returns-in-Worn-clause-disk
returns-in-Worn-clause-disk g c =
    let tells = g.D.Disk.tells in
    keeps_disk (tells c.args.disk.now) (tells c.loop.disk) _ c.loop.invariant.2 c.in-Ok-Some.ensures.kept
