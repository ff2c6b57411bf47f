-- What a reader keeps of the record in hand, beside its content.
use Rattle.std.specs.Prelude.{ℕ, ◌≤◌, List}
use Rattle.ldm_rpc.specs.declared.marks.Marks.{Marks}
use Rattle.ldm_rpc.specs.Reading.{Reading}
use Rattle.ldm_rpc.specs.Stages.{StageFits, KeepsLittle}

abbrev pub reading_at : Marks → List ℕ → Reading
reading_at m content = record { limit = m.limit; content = content; next_header_at = m.next_header_at; stage = m.stage }

-- What is always true of them, with so many bytes of content in a buffer of that capacity.
pub record AreMarks (m : Marks) (len capacity : ℕ) : Type 0 where
  pub within : len ≤ m.limit
  pub stage : StageFits m.stage len m.limit
  pub little : KeepsLittle m.stage m.next_header_at capacity
