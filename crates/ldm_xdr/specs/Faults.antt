-- Which fault bytes have as metadata, by the spellings: it is that of the first field at which no spelling goes on.
use Rattle.std.specs.Prelude.{◌≡◌, ◌≢◌, ◌⊎◌, ℕ, ◌+◌, ◌/◌, ◌%◌, ◌^◌, ◌<◌, ◌≤◌, List, [], ◌++◌, length, slice_index_or, Option, Some, None}
use Rattle.ldm_types.specs.declared.limits.TheConstants.{LONGEST_IDENT, LONGEST_ORIGIN}
use Rattle.ldm_types.specs.Info.{Metadata, pad4}
use Rattle.ldm_xdr.specs.declared.fault.XdrFault.{XdrFault}
use Rattle.ldm_xdr.specs.declared.fault.XdrFault.TheVariants.{Short, TooLong, Padding, Micros, Nul}
use Rattle.ldm_xdr.specs.Spelling.{Fits, unsigned, opaque}

-- the eight fields, in the order in which they are spelled
pub data Field : Type 0 where
  Seconds : Field
  Microseconds : Field
  Signature : Field
  Origin : Field
  Feed : Field
  Seqno : Field
  Ident : Field
  Size : Field

-- the bytes of a field in the spelling of metadata
abbrev pub field : Field → Metadata → List ℕ
field Seconds info = unsigned (info.arrival / 1000000)
field Microseconds info = unsigned (info.arrival % 1000000)
field Signature info = info.signature
field Origin info = opaque info.origin
field Feed info = unsigned info.feed
field Seqno info = unsigned info.seqno
field Ident info = opaque info.ident
field Size info = unsigned info.size

-- the bytes in front of a field
abbrev pub before : Field → Metadata → List ℕ
before Seconds info = []
before Microseconds info = field Seconds info
before Signature info = field Seconds info ++ field Microseconds info
before Origin info = field Seconds info ++ field Microseconds info ++ field Signature info
before Feed info = field Seconds info ++ field Microseconds info ++ field Signature info ++ field Origin info
before Seqno info =
    field Seconds info ++ field Microseconds info ++ field Signature info ++ field Origin info ++ field Feed info
before Ident info =
    field Seconds info ++ field Microseconds info ++ field Signature info ++ field Origin info
    ++ field Feed info ++ field Seqno info
before Size info =
    field Seconds info ++ field Microseconds info ++ field Signature info ++ field Origin info
    ++ field Feed info ++ field Seqno info ++ field Ident info

-- bytes begin as the spelling of some metadata does, up to and with a field
abbrev pub GoesOn : Field → List ℕ → Type 0
GoesOn which bytes =
    (info : Metadata) × Fits info × ((rest : List ℕ) × (bytes ≡ before which info ++ field which info ++ rest))

-- the most bytes of the text of a field, if it has one
abbrev pub limit_of : Field → Option ℕ
limit_of Origin = Some LONGEST_ORIGIN
limit_of Ident = Some LONGEST_IDENT
limit_of _ = None

-- the bytes from a text on end too early: within its length; or its length is there and within the limit, and they end
-- within the text or its padding
abbrev pub EndsInText : ℕ → List ℕ → Type 0
EndsInText limit left =
    (length left < 4)
    ⊎ ((count : ℕ) × ((behind : List ℕ)
    × (left ≡ unsigned count ++ behind) × (count ≤ limit) × (length behind < pad4 count)))

-- the bytes from a field on end too early: within that field
abbrev pub EndsIn : Field → List ℕ → Type 0
EndsIn Signature left = length left < 16
EndsIn Origin left = EndsInText LONGEST_ORIGIN left
EndsIn Ident left = EndsInText LONGEST_IDENT left
EndsIn _ left = length left < 4

abbrev pub byte_at : List ℕ → ℕ → ℕ
byte_at bytes place = slice_index_or bytes place 0

-- the bytes from a text on: its length, the text, and what is behind it, which is long enough for the padding
pub record IsCounted (limit : ℕ) (left text behind : List ℕ) : Type 0 where
  pub parts : left ≡ unsigned (length text) ++ text ++ behind
  pub short : length text ≤ limit
  pub whole : pad4 (length text) ≤ length text + length behind

-- the first zero byte of a text is at a place
pub record HasNul (limit at : ℕ) (left : List ℕ) (place : ℕ) : Type 0 where
  pub text : List ℕ
  pub behind : List ℕ
  pub counted : IsCounted limit left text behind
  pub index : ℕ
  pub within : index < length text
  pub zero : byte_at text index ≡ 0
  pub first : (k : ℕ) → k < index → byte_at text k ≢ 0
  pub place_is : place ≡ at + 4 + index

-- a text has no zero byte, and the first byte of its padding that is not zero is at a place
pub record HasPadding (limit at : ℕ) (left : List ℕ) (place : ℕ) : Type 0 where
  pub text : List ℕ
  pub behind : List ℕ
  pub counted : IsCounted limit left text behind
  pub no_nul : (k : ℕ) → k < length text → byte_at text k ≢ 0
  pub index : ℕ
  pub within : length text + index < pad4 (length text)
  pub other : byte_at behind index ≢ 0
  pub first : (k : ℕ) → k < index → byte_at behind k ≡ 0
  pub place_is : place ≡ at + 4 + length text + index

-- the bytes from a place on begin with a number that is at least so great
abbrev pub HasNumber : ℕ → List ℕ → Type 0
HasNumber least left = (n : ℕ) × ((behind : List ℕ) × (left ≡ unsigned n ++ behind) × (least ≤ n) × (n < 2 ^ 32))

-- the fault of a field that begins at a place, by the bytes from there on
abbrev pub IsFaultOf : Field → ℕ → List ℕ → XdrFault → Type 0
IsFaultOf which at left (Short place) = (place ≡ at) × EndsIn which left
IsFaultOf which at left (TooLong place) =
    (place ≡ at) × ((limit : ℕ) × (limit_of which ≡ Some limit) × HasNumber (limit + 1) left)
IsFaultOf which at left (Padding place) = (limit : ℕ) × (limit_of which ≡ Some limit) × HasPadding limit at left place
IsFaultOf which at left (Micros place) = (place ≡ at) × (which ≡ Microseconds) × HasNumber 1000000 left
IsFaultOf which at left (Nul place) = (limit : ℕ) × (limit_of which ≡ Some limit) × HasNul limit at left place

-- the bytes in front of a field are those of the spelling of some metadata, and no spelling goes on with what is there
pub record IsFirstFault (bytes : List ℕ) (fault : XdrFault) : Type 0 where
  pub which : Field
  pub info : Metadata
  pub left : List ℕ
  pub fits : Fits info
  pub begins : bytes ≡ before which info ++ left
  pub stops : GoesOn which bytes → ⊥
  pub is : IsFaultOf which (length (before which info)) left fault
