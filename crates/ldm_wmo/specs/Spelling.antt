-- What bulletins are, and what a stream holds, as relations (WMO No. 386, Manual on the GTS, attachment II-5).
use Rattle.std.specs.Prelude.{◌≡◌, ◌≢◌, ℕ, ◌+◌, ◌<◌, ◌≤◌, true, List, [], ◌∷◌, ◌++◌, length, Option, Some, None}
use Rattle.std.specs.List.{list_all}
use Rattle.ldm_text.specs.Blanks.{is_blank}
use Rattle.ldm_wmo.specs.declared.kind.Kind.{Kind}
use Rattle.ldm_wmo.specs.declared.stage.TheConstants.{LARGEST_BULLETIN}
use Rattle.ldm_wmo.specs.Headings.{is_digit, is_heading}
use Rattle.ldm_wmo.specs.Lines.{end_of_line, number_of}
use Rattle.ldm_wmo.specs.Bulletins.{closing, has_no_mark, is_text_of, starting}
use Rattle.ldm_wmo.specs.Items.{Found, found_at}
use Rattle.ldm_wmo.specs.Scanning.{place}

-- The parts of a bulletin: the starting line has its number and any blanks; the next line has its heading and any blanks.
pub record Parts : Type 0 where
  pub digits : List ℕ
  pub behind_digits : List ℕ
  pub heading : List ℕ
  pub behind_heading : List ℕ
  pub text : List ℕ

-- what stands behind the heading's line
abbrev pub text_spelling : Parts → List ℕ
text_spelling p = p.text ++ closing

-- the heading's line and what stands behind it
abbrev pub heading_spelling : Parts → List ℕ
heading_spelling p = (p.heading ++ p.behind_heading) ++ (end_of_line ++ text_spelling p)

-- the bytes of a bulletin
abbrev pub spelling : Parts → List ℕ
spelling p = starting ++ ((p.digits ++ p.behind_digits) ++ (end_of_line ++ heading_spelling p))

-- which parts make a bulletin of that kind
pub record AreParts (kind : Kind) (p : Parts) : Type 0 where
  pub some_digit : 0 < length p.digits
  pub few_digits : length p.digits ≤ 5
  pub digits : list_all is_digit p.digits ≡ true
  pub behind_digits : list_all is_blank p.behind_digits ≡ true
  pub heading : is_heading p.heading ≡ true
  pub behind_heading : list_all is_blank p.behind_heading ≡ true
  pub text : is_text_of kind p.text ≡ true

-- the bytes are a bulletin of that kind with that number and that heading
pub record IsBulletin (kind : Kind) (bytes : List ℕ) (seqno : ℕ) (heading : List ℕ) : Type 0 where
  pub parts : Parts
  pub are : AreParts kind parts
  pub bytes_are : bytes ≡ spelling parts
  pub seqno_is : seqno ≡ number_of parts.digits
  pub heading_is : heading ≡ parts.heading

-- ---- a stream

-- the next byte is a 1
abbrev pub Begins : List ℕ → Type 0
Begins [] = ⊥
Begins (byte ∷ bytes) = byte ≡ 1

-- A candidate behind its first byte: bytes that are no marks, and fewer than it may have.
pub record IsOpen (bytes : List ℕ) : Type 0 where
  pub no_mark : has_no_mark bytes ≡ true
  pub short : 1 + length bytes < LARGEST_BULLETIN

-- A candidate behind its first byte, and the bytes behind it: it ends before the next 1, with its first 3, or with the last
-- byte that it may have.
pub data Ends : List ℕ → List ℕ → Type 0 where
  before_next : (bytes rest : List ℕ) → IsOpen bytes → Begins rest → Ends bytes rest
  with_3 : (bytes rest : List ℕ) → IsOpen bytes → Ends (bytes ++ 3 ∷ []) rest
  with_last : (bytes : List ℕ) (byte : ℕ) (rest : List ℕ) → IsOpen bytes → byte ≢ 1 → 1 + length (bytes ++ byte ∷ []) ≡ LARGEST_BULLETIN
      → Ends (bytes ++ byte ∷ []) rest

-- What stands in a stream from a place on: the items, and where the candidate begins that is cut.
pub data Holds : ℕ → List ℕ → List Found → Option ℕ → Type 0 where
  -- nothing is left
  ended : (at : ℕ) → Holds at [] [] None
  -- a byte outside candidates
  passed_over : (at byte : ℕ) (rest : List ℕ) (items : List Found) (cut : Option ℕ) → byte ≢ 1 → Holds (at + 1) rest items cut
      → Holds at (byte ∷ rest) items cut
  -- a candidate that ends
  found : (at : ℕ) (bytes rest : List ℕ) (items : List Found) (cut : Option ℕ) → Ends bytes rest → Holds (at + (1 + length bytes)) rest items cut
      → Holds at ((1 ∷ bytes) ++ rest) (found_at (place at) (1 ∷ bytes) ∷ items) cut
  -- a candidate that the stream's end leaves open
  cut_off : (at : ℕ) (bytes : List ℕ) → IsOpen bytes → Holds at (1 ∷ bytes) [] (Some (place at))
