-- Which bytes are which record on a stream (RFC 5531, section 11).
use Rattle.std.specs.Prelude.{◌≡◌, ℕ, ◌+◌, ◌<◌, ◌≤◌, List, [], ◌++◌, length, Bool, true, false, if◌then◌else◌, All}
use Rattle.std.specs.List.{flat_map}
use Rattle.std.specs.Int.{w32, to_be_bytes}
use Rattle.ldm_rpc.specs.declared.stage.TheConstants.{LAST_FRAGMENT}

-- a record: the bytes of each fragment before the last one, in order, and those of the last one
pub record Record : Type 0 where
  pub before : List (List ℕ)
  pub last : List ℕ

-- a fragment header: the top bit is set in that of the last fragment, the other 31 bits are the length
abbrev pub header : Bool → ℕ → List ℕ
header last len = to_be_bytes w32 ((if last then LAST_FRAGMENT else 0) + len)

-- a fragment: its header and its bytes
abbrev pub fragment : Bool → List ℕ → List ℕ
fragment last bytes = header last (length bytes) ++ bytes

-- fragments of which none is the last
abbrev pub fragments : List (List ℕ) → List ℕ
fragments before = flat_map (fragment false) before

abbrev pub joined : List (List ℕ) → List ℕ
joined pieces = flat_map (λ piece. piece) pieces

-- the spelling of a record: its fragments, of which the last is marked so
abbrev pub spelling : Record → List ℕ
spelling r = fragments r.before ++ fragment true r.last

-- the content of a record: the bytes of its fragments
abbrev pub content : Record → List ℕ
content r = joined r.before ++ r.last

-- a record of one fragment
abbrev pub single : List ℕ → Record
single bytes = record { before = []; last = bytes }

-- what 31 bits can tell the length of
abbrev pub IsShort : List ℕ → Type 0
IsShort bytes = length bytes < LAST_FRAGMENT

-- what has a spelling, and a content within the limit
pub record Fits (limit : ℕ) (r : Record) : Type 0 where
  pub before : All IsShort r.before
  pub last : IsShort r.last
  pub within : length (content r) ≤ limit

-- bytes that begin with a record of one fragment, which is within the limit and has this content
pub record BeginsSingle (limit : ℕ) (bytes content : List ℕ) : Type 0 where
  pub rest : List ℕ
  pub spelled : bytes ≡ spelling (single content) ++ rest
  pub fits : Fits limit (single content)
