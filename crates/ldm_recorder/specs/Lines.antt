-- What the note of a journal tells of REQUEST lines: of each, which product it had last. The form is this project's own.
use Rattle.std.specs.Prelude.{◌≡◌, ◌⊎◌, ℕ, bytes_eq, zero, suc, ◌+◌, ◌<◌, ◌==◌, Bool, List, [], ◌∷◌, ◌++◌, length, take, drop, reverse, replicate, find, flat_map, slice_get, slice_index, Option, Some, option_map, if◌then◌else◌}
use Rattle.ldm_model.specs.declared.event.Entry.{Entry}
use Rattle.ldm_shared.specs.Putting.{HasPut}
use Rattle.ldm_journal.specs.declared.places.TheConstants.{NOTE}
use Rattle.ldm_journal.specs.Records.{Kept, eight}
use Rattle.ldm_journal.specs.Format.{number_at}
use Rattle.ldm_recorder.specs.declared.line.Line.{Line}
use Rattle.ldm_recorder.specs.declared.line.TheConstants.{MOST_LINES}

-- ---- the bytes

-- an entry of the note: the 16 bytes that name a line, and its number in 8 bytes
abbrev pub entry_of : Line → List ℕ
entry_of line = line.key ++ eight line.last

-- the entries of as many lines as there is room for, and zeros behind them
unfoldable pub note_of : List Line → List ℕ
note_of lines = take NOTE (flat_map entry_of lines ++ replicate NOTE 0)

-- the number in the first of so many entries that has a key, and 0 where none has it
unfoldable pub last_among : ℕ → List ℕ → List ℕ → ℕ
last_among zero key entries = 0
last_among (suc more) key entries =
    if bytes_eq (take 16 entries) key then number_at 16 entries else last_among more key (drop 24 entries)

-- what a note tells of the line with a key
unfoldable pub last_in : List ℕ → List ℕ → ℕ
last_in key note = last_among MOST_LINES key note

-- a line, with what a note tells of it
abbrev pub with_note : List ℕ → Line → Line
with_note note line = record line { last = last_in line.key note }

-- lines with other numbers
abbrev pub with_lasts : List Line → List ℕ → List Line
with_lasts [] lasts = []
with_lasts (line ∷ lines) [] = []
with_lasts (line ∷ lines) (last ∷ lasts) = record line { last = last } ∷ with_lasts lines lasts

-- ---- the products

-- a number of a line is one more than that of a product
abbrev pub has_last : ℕ → Kept → Bool
has_last last k = k.number + 1 == last

-- the signature of the product of which a line has the number: of the last of them, where there is any
abbrev pub found_in : ℕ → List Kept → Option (List ℕ)
found_in last kept = option_map (λ (k : Kept). k.info.signature) (find (has_last last) (reverse kept))

-- ---- what is known of a line while a node runs

-- A number is one more than that of a product below `at` in the queue, which an actor put in, or found queued. The
-- numbers of products in the journal are those of the queue and a base.
pub record IsPut (base at : ℕ) (seen : List Entry) (actor last : ℕ) : Type 0 where
  pub n : ℕ
  pub below : n < at
  pub put : HasPut actor seen n
  pub is : last ≡ base + n + 1

-- it is that, or what the line began with
abbrev pub IsLastOf : (base at : ℕ) (seen : List Entry) (line : Line) → ℕ → Type 0
IsLastOf base at seen line last = (last ≡ line.last) ⊎ IsPut base at seen line.actor last

-- a number for each line that a note has room for, at the line's place
pub record AreLasts (base at : ℕ) (seen : List Entry) (lines : List Line) (lasts : List ℕ) : Type 0 where
  pub many : length lasts ≡ MOST_LINES
  pub each : (i : ℕ) (line : Line) → i < MOST_LINES → slice_get lines i ≡ Some line → IsLastOf base at seen line (slice_index lasts i)
