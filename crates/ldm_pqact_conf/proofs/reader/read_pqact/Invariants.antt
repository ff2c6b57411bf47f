use Rattle.std.proofs.Common.{◌≡◌, ◌+◌, ◌≤◌, length}
use Rattle.ldm_pqact_conf.specs.Entries.{pqact_entries}
use Rattle.ldm_pqact_conf.specs.Kept.{meaning}
use Rattle.ldm_text.specs.Lines.{length_left, lines_left}
use Rattle.ldm_pqact_conf.proofs.reader.read_pqact.Given as goal

abbrev pub invariant-loop-rest : goal.invariant-loop-rest
invariant-loop-rest l =
    (meaning l.reader (lines_left l.rest) ≡ pqact_entries l.bytes) × (l.reader.next + length_left l.rest ≤ length l.bytes + 2)

abbrev pub decreases-loop-rest : goal.decreases-loop-rest
decreases-loop-rest l = length_left l.rest
