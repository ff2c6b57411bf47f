-- Which products of turns go into the journal, and which note.
use Rattle.std.specs.Prelude.{ℕ, Bool, List, [], ◌∷◌, ◌++◌, nat_le, if◌then◌else◌}
use Rattle.ldm_journal.specs.Records.{Kept}
use Rattle.ldm_journal.specs.Appending.{record_len}
use Rattle.ldm_recorder.specs.declared.line.Line.{Line}
use Rattle.ldm_recorder.specs.Turns.{CaughtUp, Given, Lost, Saved, Turn, note_then}

-- whether the ring has room for the record of a product
abbrev pub has_room : ℕ → Kept → Bool
has_room ring product = nat_le (record_len product) ring

-- those whose records are not larger than the ring
abbrev pub kept_of_turn : ℕ → Turn → List Kept
kept_of_turn ring (Given n product) = if nat_le (record_len product) ring then product ∷ [] else []
kept_of_turn ring (Lost count first last) = []
kept_of_turn ring (CaughtUp at lasts) = []
kept_of_turn ring Saved = []

abbrev pub recorded_in : ℕ → List Turn → List Kept
recorded_in ring [] = []
recorded_in ring (turn ∷ turns) = kept_of_turn ring turn ++ recorded_in ring turns

-- the note that is committed behind turns
abbrev pub noted_in : List Line → List Turn → List ℕ → List ℕ
noted_in lines [] note = note
noted_in lines (Lost count first last ∷ turns) note = noted_in lines turns note
noted_in lines (Given n product ∷ turns) note = noted_in lines turns note
noted_in lines (CaughtUp at lasts ∷ turns) note = noted_in lines turns (note_then lines lasts note)
noted_in lines (Saved ∷ turns) note = noted_in lines turns note
