-- What contracts see of a reader that may keep a front of a record alone, and what it keeps.
use Rattle.std.specs.Prelude.{length}
use Rattle.ldm_rpc.specs.declared.front_records.FrontRecords.TheInside.{Inside}
use Rattle.ldm_rpc.specs.Marking.{reading_at, AreMarks}
use Rattle.ldm_rpc.specs.Reading.{Reading}

-- the content is all of it, also what is not kept
abbrev pub reading_of_all : Inside → Reading
reading_of_all r = reading_at r.marks r.kept.content

abbrev pub IsHeld : Inside → Type 0
IsHeld r = AreMarks r.marks (length r.kept.content) r.kept.memory
