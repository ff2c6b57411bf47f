-- Which bytes are a bulletin, and what its number and its heading are, as a computation: line by line.
use Rattle.std.specs.Prelude.{ℕ, ◌-◌, Bool, true, ◌==◌, ◌||◌, ◌&&◌, not, if◌then◌else◌, List, [], ◌∷◌, ◌++◌, length, take, drop, Option, Some, None}
use Rattle.std.specs.List.{list_all}
use Rattle.std.specs.Option.{option_and_then}
use Rattle.std.specs.Str.{bytes_eq}
use Rattle.ldm_wmo.specs.declared.kind.Kind.{Kind}
use Rattle.ldm_wmo.specs.declared.kind.Kind.TheVariants.{Alphanumeric, Binary, Facsimile}
use Rattle.ldm_wmo.specs.Lines.{behind, end_of_line, heading_in, line_of, number_in, rest_of}

-- 1, and the end of a line
abbrev pub starting : List ℕ
starting = 1 ∷ end_of_line

-- the end of a line, and 3
abbrev pub closing : List ℕ
closing = end_of_line ++ 3 ∷ []

-- a mark is a 1, with which a bulletin begins, or a 3, with which it ends
abbrev pub is_mark : ℕ → Bool
is_mark byte = byte == 1 || byte == 3

abbrev pub has_no_mark : List ℕ → Bool
has_no_mark bytes = list_all (λ byte. not (is_mark byte)) bytes

-- an alphanumeric text has no marks; any bytes are the text of a binary bulletin, and of a facsimile
abbrev pub is_text_of : Kind → List ℕ → Bool
is_text_of Alphanumeric text = has_no_mark text
is_text_of Binary text = true
is_text_of Facsimile text = true

-- a text of that kind, and the closing
unfoldable pub is_closed_text : Kind → List ℕ → Bool
is_closed_text kind bytes =
    let count = length bytes - 4 in
    bytes_eq (drop count bytes) closing && is_text_of kind (take count bytes)

-- what the two lines of a bulletin say
pub record Reading : Type 0 where
  pub seqno : ℕ
  pub heading : List ℕ

-- behind the number's line
abbrev pub with_number : Kind → List ℕ → ℕ → Option Reading
with_number kind bytes seqno =
    option_and_then (λ rest. option_and_then (λ heading. if is_closed_text kind rest then Some (record { seqno = seqno; heading = heading }) else None)
    (heading_in (line_of bytes))) (rest_of bytes)

-- behind the starting
abbrev pub begun_bulletin : Kind → List ℕ → Option Reading
begun_bulletin kind bytes = option_and_then (λ rest. option_and_then (λ seqno. with_number kind rest seqno) (number_in (line_of bytes))) (rest_of bytes)

-- the bulletin of that kind that these bytes are, if they are one
unfoldable pub bulletin_of : Kind → List ℕ → Option Reading
bulletin_of kind bytes = option_and_then (begun_bulletin kind) (behind starting bytes)
