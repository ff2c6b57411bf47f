-- What a line of an ldmd.conf says to who looks for faults.
use Rattle.std.specs.Prelude.{◌≡◌, ℕ, List, [], Option, Result, Ok, Err, MatchOption}
use Rattle.std.specs.Borrow.{Bor}
use Rattle.ldm_conf.specs.declared.fault.ConfKind.{ConfKind}
use Rattle.ldm_conf.specs.Statements.{Statement, Blank, Adds, Includes}
use Rattle.ldm_text.specs.Words.{with_first, words_of}
use Rattle.ldm_text.specs.declared.words.Comments.TheVariants.{Hash}
use Rattle.ldm_check.specs.declared.said.Said as code
use Rattle.ldm_check.specs.declared.said.Said.TheVariants as said

pub data Says : Type 0 where
  -- nothing is wrong with it
  Fine : Says
  -- that is wrong with it
  Wrong : (kind : ConfKind) → Says
  -- the lines of the file under that path stand here
  Names : (path : List ℕ) → Says

-- by what the line means
abbrev pub says : Result Statement ConfKind → Says
says (Ok Blank) = Fine
says (Ok (Adds directive)) = Fine
says (Ok (Includes path)) = Names path
says (Err kind) = Wrong kind

-- ---- what the functions inside say. No caller needs it.

abbrev pub said_view : code.Said → Says
said_view (said.Fine conf) = Fine
said_view (said.Faulty kind) = Wrong kind
said_view (said.Includes path) = Names path.now

-- the first word of a text, and what stands behind it, if it has one
abbrev pub IsFirstWord : Option (Bor (List ℕ) × Bor (List ℕ)) → List ℕ → Type 0
IsFirstWord result text =
    MatchOption result ((words_of Hash text).words ≡ [])
    (λ (found : Bor (List ℕ) × Bor (List ℕ)). words_of Hash text ≡ with_first found.0.now (words_of Hash found.1.now))
