-- Reading a file leaves it, and what a crash may leave of it, as they were.
use Rattle.std.proofs.Common.{ℕ, ◌≤◌, List, subst, sym}
use Rattle.std.specs.Prelude.{IfSome, Option, Some, None}
use Rattle.ldm_outside.proofs.CallerLemmas.{Rose-later}
use Rattle.ldm_disk.specs.Told.{FileRecord, DiskRecord}
use Rattle.ldm_disk.specs.Calls.{FileChanges, KeepsFile}
use Rattle.ldm_journal.specs.declared.fault.JournalFault.{JournalFault}
use Rattle.ldm_journal.specs.declared.fault.JournalFault.TheVariants.{NotAJournal, OtherRing, OtherLength, BadHead, BadRecord, DiskFault, OutOfMemory}
use Rattle.ldm_journal.specs.Reading.{FaultRose}

-- what holds of the bytes after a call that keeps them held before it
pub kept_back : (P : List ℕ → Type 0) (old new : Option FileRecord) → FileChanges KeepsFile old new → IfSome new (λ f. P f.bytes) → IfSome old (λ f. P f.bytes)
kept_back P None new keeps p = tt
kept_back P (Some old) None keeps p = absurd keeps
kept_back P (Some old) (Some new) keeps p = subst P keeps.bytes p

pub kept_on : (P : List ℕ → Type 0) (old new : Option FileRecord) → FileChanges KeepsFile old new → IfSome old (λ f. P f.bytes) → IfSome new (λ f. P f.bytes)
kept_on P None None keeps p = tt
kept_on P None (Some new) keeps p = absurd keeps
kept_on P (Some old) None keeps p = absurd keeps
kept_on P (Some old) (Some new) keeps p = subst P (sym keeps.bytes) p

-- what holds of the bytes, in other words
pub in_bytes : (P Q : List ℕ → Type 0) (file : Option FileRecord) → ((bytes : List ℕ) → P bytes → Q bytes) → IfSome file (λ f. P f.bytes) → IfSome file (λ f. Q f.bytes)
in_bytes P Q None step p = tt
in_bytes P Q (Some f) step p = step f.bytes p

pub in_bytes_both : (P U Q : List ℕ → Type 0) (file : Option FileRecord) → ((bytes : List ℕ) → P bytes → U bytes → Q bytes) → IfSome file (λ f. P f.bytes)
    → IfSome file (λ f. U f.bytes) → IfSome file (λ f. Q f.bytes)
in_bytes_both P U Q None step p u = tt
in_bytes_both P U Q (Some f) step p u = step f.bytes p u

pub always : (P : List ℕ → Type 0) (file : Option FileRecord) → ((bytes : List ℕ) → P bytes) → IfSome file (λ f. P f.bytes)
always P None p = tt
always P (Some f) p = p f.bytes

-- a fault after another call
pub fault_later : (fault : JournalFault) (old mid new : DiskRecord) → old.faults ≤ mid.faults → FaultRose fault mid new → FaultRose fault old new
fault_later DiskFault old mid new le rose = Rose-later old.faults mid.faults new.faults le rose
fault_later NotAJournal old mid new le rose = tt
fault_later OtherRing old mid new le rose = tt
fault_later OtherLength old mid new le rose = tt
fault_later BadHead old mid new le rose = tt
fault_later BadRecord old mid new le rose = tt
fault_later OutOfMemory old mid new le rose = tt
