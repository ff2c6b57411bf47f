-- What contracts see of a reader, and what it keeps.
use Rattle.std.specs.Prelude.{length}
use Rattle.std.specs.Vec.{vec_capacity}
use Rattle.ldm_rpc.specs.declared.records.Records.TheInside.{Inside}
use Rattle.ldm_rpc.specs.Marking.{reading_at, AreMarks}
use Rattle.ldm_rpc.specs.Reading.{Reading}

abbrev pub reading_of : Inside → Reading
reading_of r = reading_at r.marks r.content.items

abbrev pub IsKept : Inside → Type 0
IsKept r = AreMarks r.marks (length r.content.items) (vec_capacity r.content)
