use Rattle.std.proofs.Common.{◌≡◌, ◌<◌, ◌≤◌, ◌∙◌, length, refl, arith}
use Rattle.ldm_journal.specs.declared.places.TheConstants.{LARGEST_RING}
use Rattle.ldm_disk.proofs.Filled.{both_keep, none_keeps}
use Rattle.ldm_journal.proofs.OpenLemmas as opening
use Rattle.ldm_journal.proofs.open.judge_records.Goals as goal

pub loop-left-init : goal.loop-left-init
loop-left-init g c =
    let tells = g.D.Disk.tells in
    let marks = c.args.marks.now in (
      omega arith,
      omega arith,
      none_keeps (tells c.args.disk.now).file,
      record { faults = omega arith; attached = refl },
      opening.none_read marks marks.used (tells c.args.disk.now).file refl,
    )

pub loop-left-preserved : goal.loop-left-preserved
loop-left-preserved g c =
    let tells = g.D.Disk.tells in
    let marks = c.args.marks.now in
    let l = c.loop-left in
    let i = l.invariant in
    let e = c.in-Ok.ensures in
    let buffer = c.read_record.new.buffer in
    let old = (tells c.args.disk.now).file in
    let rises : l.next ≤ c.in-Ok.entry.number = omega arith in
    let len : c.len-len.result ≡ length buffer.items = c.len-len.ensures ∙ buffer.ok.0 in
    let within : c.len-len.result ≤ l.left = omega (arith, c.len-len.ensures, e.within) in (
      omega (arith, i.0, within),
      omega (arith, i.0, i.1, within),
      both_keep old (tells l.disk).file (tells c.read_record.new.disk).file (g.met.D.Disk.consistent c.args.disk.now) (g.met.D.Disk.consistent l.disk) i.2 c.read_record.ensures.file,
      record { faults = omega (arith, i.3.faults, c.read_record.ensures.kept.faults); attached = c.read_record.ensures.kept.attached ∙ i.3.attached },
      opening.one_more_read marks c.in-Ok.entry l.left l.next l.at c.len-len.result buffer.items old (tells l.disk).file i.2 i.0 i.1 rises len i.4 e.read,
    )

pub returns-in-Err-clause-judged : goal.returns-in-Err-clause-judged
returns-in-Err-clause-judged g c =
    let tells = g.D.Disk.tells in
    let marks = c.args.marks.now in
    let l = c.loop-left in
    let i = l.invariant in
    let sized : marks.used ≤ LARGEST_RING = omega arith in
    let some : 0 < l.left = omega arith in
    opening.no_more_read c.in-Err.fault marks l.left l.next l.at c.read_record.new.buffer.items (tells c.args.disk.now).file (tells l.disk).file i.2 i.0 i.1 sized some i.4
    c.in-Err.ensures.read

pub returns-then-entry-next-clause-judged : goal.returns-then-entry-next-clause-judged
returns-then-entry-next-clause-judged g c =
    let tells = g.D.Disk.tells in
    let marks = c.args.marks.now in
    let l = c.loop-left in
    let i = l.invariant in
    let sized : marks.used ≤ LARGEST_RING = omega arith in
    let some : 0 < l.left = omega arith in
    opening.number_fault marks c.in-Ok.entry l.left l.next l.at c.read_record.new.buffer.items (tells c.args.disk.now).file (tells l.disk).file i.2 i.0 i.1 sized some
    c.if-entry-next.true i.4 c.in-Ok.ensures.read

pub returns-then-next-marks-clause-judged : goal.returns-then-next-marks-clause-judged
returns-then-next-marks-clause-judged g c =
    let tells = g.D.Disk.tells in
    let marks = c.args.marks.now in
    let l = c.loop-left in
    let i = l.invariant in
    let sized : marks.used ≤ LARGEST_RING = omega arith in
    let none : l.left ≡ 0 = omega arith in
    opening.next_fault marks l.left l.next l.at (tells c.args.disk.now).file i.0 i.1 sized none c.if-next-marks.true i.4

pub returns-clause-judged : goal.returns-clause-judged
returns-clause-judged g c =
    let tells = g.D.Disk.tells in
    let marks = c.args.marks.now in
    let l = c.loop-left in
    let i = l.invariant in
    let none : l.left ≡ 0 = omega arith in
    opening.whole_read marks l.left l.next (tells c.args.disk.now).file none (omega arith) i.4
