use Rattle.std.proofs.Common.{◌≡◌, ◌+◌, ◌≤◌, List, ◌++◌}
use Rattle.ldm_text.specs.Lines.{length_left, lines_left, lines_of}
use Rattle.ldm_text.specs.declared.limits.TheConstants.{LONGEST_CONFIGURATION}
use Rattle.ldm_check.specs.Files.{pqact_text}
use Rattle.ldm_check.specs.PqactFaults.{Found, HasFaults}
use Rattle.ldm_check.proofs.conf_file.Search.look_at_entries.Given as goal

abbrev pub invariant-loop-rest : goal.invariant-loop-rest
invariant-loop-rest l = record {
  told : (more : List Found) → HasFaults l.passed (lines_left l.rest) more
      → (found : List Found) × HasFaults 0 (lines_of l.bytes) found × (l.initial.self.faults.items ++ pqact_text l.path found ≡ l.self.faults.items ++ pqact_text l.path more);
  room : l.passed + length_left l.rest ≤ LONGEST_CONFIGURATION + 1;
}

abbrev pub decreases-loop-rest : goal.decreases-loop-rest
decreases-loop-rest l = length_left l.rest
