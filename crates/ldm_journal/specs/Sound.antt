-- What always holds of the marks of a journal.
use Rattle.std.specs.Prelude.{◌≡◌, ◌+◌, ◌^◌, ◌<◌, ◌≤◌, length}
use Rattle.ldm_journal.specs.declared.places.TheConstants.{LARGEST_RING, NOTE}
use Rattle.ldm_journal.specs.declared.marks.Marks.{Marks}

-- the records that are committed and appended fit in the ring, the next number in its type, and the note in a head
abbrev pub IsSound : Marks → Type 0
IsSound marks = (marks.ring ≤ LARGEST_RING) × (marks.front < marks.ring) × (marks.used + marks.appended ≤ marks.ring) × (marks.next < 2 ^ 64) × (length marks.note ≡ NOTE)
