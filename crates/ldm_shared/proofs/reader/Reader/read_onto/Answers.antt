use Rattle.std.proofs.Common.{arith}
use Rattle.ldm_shared.proofs.Readers.{reads, onto_grown, onto_bytes, onto_held}
use Rattle.ldm_shared.proofs.reader.Reader.read_onto.Goals as goal

pub unreachable-requires : goal.unreachable-requires
unreachable-requires g c =
    let done = (rw c.in-Done-NoCursor.field-0-is at c.in-Done-NoCursor.ensures).done in
    let held = c.requires.holds in
    cc (reads _ _ _ _ _ _ _ _ _ done held.1 (omega (arith, c.requires.within)))

pub unreachable-requires-in-Done-NotHeld : goal.unreachable-requires-in-Done-NotHeld
unreachable-requires-in-Done-NotHeld g c =
    let done = (rw c.in-Done-NotHeld.field-0-is at c.in-Done-NotHeld.ensures).done in
    let held = c.requires.holds in
    cc (reads _ _ _ _ _ _ _ _ _ done held.1 (omega (arith, c.requires.within)))

pub unreachable-requires-in-Done-BadOffset : goal.unreachable-requires-in-Done-BadOffset
unreachable-requires-in-Done-BadOffset g c =
    let done = (rw c.in-Done-BadOffset.field-0-is at c.in-Done-BadOffset.ensures).done in
    let held = c.requires.holds in
    cc (reads _ _ _ _ _ _ _ _ _ done held.1 (omega (arith, c.requires.within)))

pub returns-in-Done-Bytes-clause-done : goal.returns-in-Done-Bytes-clause-done
returns-in-Done-Bytes-clause-done g c = λ body held.
    let done = (rw c.in-Done-Bytes.field-0-is at c.in-Done-Bytes.ensures).done in
    onto_grown _ _ _ _ _ _ _ _ _ _ done held c.requires.within (omega arith)

pub returns-in-Done-Bytes-clause-bytes : goal.returns-in-Done-Bytes-clause-bytes
returns-in-Done-Bytes-clause-bytes g c = λ body held.
    let ensures = rw c.in-Done-Bytes.field-0-is at c.in-Done-Bytes.ensures in
    onto_bytes _ _ _ _ _ _ _ _ _ _ ensures.done held c.requires.within (omega arith) _ _ c.read_onto.ensures.front ensures.count

pub returns-in-Done-Bytes-clause-holds : goal.returns-in-Done-Bytes-clause-holds
returns-in-Done-Bytes-clause-holds g c = λ body held.
    let done = (rw c.in-Done-Bytes.field-0-is at c.in-Done-Bytes.ensures).done in
    onto_held _ _ _ _ _ _ _ _ _ _ done held c.requires.within (omega arith)
