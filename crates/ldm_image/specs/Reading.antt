-- Reading parts of a file whole.
use Rattle.std.specs.Prelude.{◌≡◌, ℕ, ◌+◌, ◌<◌, List, length, take, min, Option, Some, None, Result, Ok, Err}
use Rattle.std.specs.List.{between}
use Rattle.std.specs.Global.{Vec}
use Rattle.ldm_outside.specs.Count.{Rose}
use Rattle.ldm_disk.specs.Told.{DiskRecord}
use Rattle.ldm_image.specs.Fault.{HasEight, number_at}
use Rattle.ldm_image.specs.declared.open.ImageFault.{ImageFault}
use Rattle.ldm_image.specs.declared.open.ImageFault.TheVariants.{Unclean, BadImage, DiskFault, OutOfMemory}

-- What stands at a place was read whole. No other fault comes of a file that has it than one of the disk.
abbrev pub Fills : Result (Unit {0}) ImageFault → ℕ → List ℕ → List ℕ → Type 0
Fills (Ok done) at into file = into ≡ between at (at + length into) file
Fills (Err (Unclean gate)) at into file = ⊥
Fills (Err (BadImage place)) at into file = length file < at + length into
Fills (Err DiskFault) at into file = Unit {0}
Fills (Err OutOfMemory) at into file = ⊥

-- the disk failed only where its count of faults rose
abbrev pub FailsReading : Result (Unit {0}) ImageFault → DiskRecord → DiskRecord → Type 0
FailsReading (Err DiskFault) old new = Rose old.faults new.faults
FailsReading result old new = Unit {0}

-- The number in the eight bytes at a place, where they are all there.
abbrev pub NumberIs : Option ℕ → ℕ → List ℕ → Type 0
NumberIs (Some n) place bytes = HasEight place bytes × (n ≡ number_at place bytes)
NumberIs None place bytes = ¬ (HasEight place bytes)

-- The first bytes of a file were read: 48, or all of it. The length is known, so that nothing but the disk fails.
abbrev pub HeadIs : Result (List ℕ) ImageFault → ℕ → List ℕ → Type 0
HeadIs (Ok head) len file = take (min len 48) head ≡ take 48 file
HeadIs (Err (Unclean gate)) len file = ⊥
HeadIs (Err (BadImage place)) len file = ⊥
HeadIs (Err DiskFault) len file = Unit {0}
HeadIs (Err OutOfMemory) len file = ⊥

-- So many bytes at a place were read. No other fault comes of a file that has them than one of the disk or of memory.
abbrev pub PartIs : Result (Vec ℕ) ImageFault → ℕ → ℕ → List ℕ → Type 0
PartIs (Ok bytes) at count file = bytes.items ≡ between at (at + count) file
PartIs (Err (Unclean gate)) at count file = ⊥
PartIs (Err (BadImage place)) at count file = length file < at + count
PartIs (Err DiskFault) at count file = Unit {0}
PartIs (Err OutOfMemory) at count file = Unit {0}

-- the disk failed only where its count of faults rose
abbrev pub FaultRose : ImageFault → DiskRecord → DiskRecord → Type 0
FaultRose DiskFault old new = Rose old.faults new.faults
FaultRose fault old new = Unit {0}
