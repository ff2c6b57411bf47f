use Rattle.std.proofs.Common.{◌≡◌, ℕ, arith}
use Rattle.std.specs.Prelude.{Some}
use Rattle.ldm_disk.specs.Told.{FileRecord, IsConsistent, IsSettled}
use Rattle.ldm_disk.specs.Calls.{KeepsFile}
use Rattle.ldm_image.specs.Gates.{HasGate, Shuts, WritesGate}
use Rattle.ldm_disk.proofs.Told.{three, chained}
use Rattle.ldm_image.proofs.GateLemmas.{shut_by_writing}
use Rattle.ldm_image.proofs.gate.shut_gate.Goals as goal
use Rattle.ldm_image.proofs.gate.shut_gate.Goals.{in-Some+else-gate-ne-CLEAN, in_default}

pub returns-clause-shut : goal.returns-clause-shut
returns-clause-shut g c =
    let tells = g.D.Disk.tells in
    let gate = c.in_ok-gate.field-0 in
    let file = (tells c.args.disk.now).file in
    let clean : (byte : ℕ) → gate ≡ Some byte → byte ≡ 1 =
    elim c.match-branch-2.branch [ in-Some+else-gate-ne-CLEAN w ↦ (λ byte is. grind arith) | in_default w ↦ (λ byte is. cc is) ] in
    let S = λ (old : FileRecord). IsConsistent old × IsSettled old × HasGate gate old.bytes in
    chained S IsConsistent KeepsFile (WritesGate c.write_gate.result 0) (Shuts c.write_gate.result)
    (λ old mid new is consistent keeps writes. shut_by_writing gate c.write_gate.result old mid new is consistent clean keeps writes)
    file (tells c.read_gate.new.disk).file (tells c.write_gate.new.disk).file
    (three IsConsistent IsSettled (λ old. HasGate gate old.bytes) file (g.met.D.Disk.consistent c.args.disk.now) c.requires.settled c.in_ok-gate.ensures.gate)
    (g.met.D.Disk.consistent c.read_gate.new.disk) c.read_gate.ensures.file c.write_gate.ensures.written
