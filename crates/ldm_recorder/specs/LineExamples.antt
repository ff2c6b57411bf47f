-- What the definitions of `Lines.antt` come to, at values.
use Rattle.std.specs.Prelude.{◌≡◌, ℕ, ◌*◌, [], ◌∷◌, ◌++◌, length, replicate, Some, None, refl}
use Rattle.ldm_model.specs.Examples.{sample_info}
use Rattle.ldm_journal.specs.declared.places.TheConstants.{NOTE}
use Rattle.ldm_journal.specs.Format as format
use Rattle.ldm_journal.specs.Records.{Kept}
use Rattle.ldm_recorder.specs.declared.line.Line.{Line}
use Rattle.ldm_recorder.specs.declared.line.TheConstants.{MOST_LINES}
use Rattle.ldm_recorder.specs.Lines.{entry_of, found_in, last_among, last_in, note_of, with_lasts}

-- a note has room for 64 entries of 24 bytes, and no byte more
pub room : MOST_LINES * 24 ≡ NOTE
room = refl

pub most : MOST_LINES ≡ 64
most = refl

-- a line whose key is 16 times one byte
abbrev pub line_with : ℕ → ℕ → Line
line_with byte last = record { key = replicate 16 byte; actor = 0; last = last }

-- the entry of a line that had the product of number 257 last
pub one_entry : entry_of (line_with 7 258) ≡ replicate 16 7 ++ 0 ∷ 0 ∷ 0 ∷ 0 ∷ 0 ∷ 0 ∷ 1 ∷ 2 ∷ []
one_entry = refl

-- a note has 1536 bytes, with no line and with many
pub empty_is_long : length (note_of []) ≡ 1536
unfolding note_of
empty_is_long = refl

pub full_is_long : length (note_of (replicate 65 (line_with 7 258))) ≡ 1536
unfolding note_of
full_is_long = refl

-- a note tells of each line, and of others that they had none
pub first_of_two : last_in (replicate 16 7) (note_of (line_with 7 258 ∷ line_with 9 3 ∷ [])) ≡ 258
unfolding note_of last_in last_among format.number_at
first_of_two = refl

pub second_of_two : last_in (replicate 16 9) (note_of (line_with 7 258 ∷ line_with 9 3 ∷ [])) ≡ 3
unfolding note_of last_in last_among format.number_at
second_of_two = refl

pub no_such_line : last_in (replicate 16 8) (note_of (line_with 7 258 ∷ line_with 9 3 ∷ [])) ≡ 0
unfolding note_of last_in last_among format.number_at
no_such_line = refl

-- of two lines with one key, it tells of the first
pub one_key_twice : last_in (replicate 16 7) (note_of (line_with 7 258 ∷ line_with 7 3 ∷ [])) ≡ 258
unfolding note_of last_in last_among format.number_at
one_key_twice = refl

-- the last place has room for a line, and there is none behind it
pub at_the_end : last_in (replicate 16 9) (note_of (replicate 63 (line_with 7 258) ++ line_with 9 3 ∷ [])) ≡ 3
unfolding note_of last_in last_among format.number_at
at_the_end = refl

pub past_the_end : last_in (replicate 16 9) (note_of (replicate 64 (line_with 7 258) ++ line_with 9 3 ∷ [])) ≡ 0
unfolding note_of last_in last_among format.number_at
past_the_end = refl

-- lines with other numbers
pub other_numbers : with_lasts (line_with 7 1 ∷ line_with 9 2 ∷ []) (5 ∷ 6 ∷ 0 ∷ []) ≡ line_with 7 5 ∷ line_with 9 6 ∷ []
other_numbers = refl

-- a product with a number, and a signature of 16 times one byte
abbrev pub kept_with : ℕ → ℕ → Kept
kept_with number byte = record { number = number; time = 100; info = record (sample_info 1 4) { signature = replicate 16 byte }; body = [] }

-- the number of a line is one more than that of its product
pub found : found_in 258 (kept_with 256 1 ∷ kept_with 257 2 ∷ kept_with 258 3 ∷ []) ≡ Some (replicate 16 2)
found = refl

-- it is gone; and no product is known
pub gone : found_in 258 (kept_with 258 3 ∷ kept_with 259 4 ∷ []) ≡ None
gone = refl

pub unknown : found_in 0 (kept_with 0 1 ∷ kept_with 1 2 ∷ []) ≡ None
unknown = refl

-- of two with one number, it is the last
pub found_last : found_in 258 (kept_with 257 2 ∷ kept_with 257 3 ∷ []) ≡ Some (replicate 16 3)
found_last = refl
