-- The metadata of a product, as contracts see an `Info`: the record of its fields.
use Rattle.std.specs.Prelude.{◌≡◌, ℕ, ◌+◌, ◌*◌, ◌/◌, ◌^◌, ◌<◌, ◌≤◌, List, ◌++◌, length, All, Option, Some, None, nat_lt, position, if◌then◌else◌, ◌==◌}
use Rattle.ldm_types.specs.declared.limits.TheConstants.{GREATEST_INSTANT, LONGEST_IDENT, LONGEST_ORIGIN}
use Rattle.ldm_types.specs.declared.info.InfoFault.{InfoFault}
use Rattle.ldm_types.specs.declared.info.InfoFault.TheVariants.{OriginLong, IdentLong, NulByte}

pub record Metadata : Type 0 where
  -- microseconds since the beginning of 1970
  pub arrival : ℕ
  -- 16 bytes
  pub signature : List ℕ
  pub origin : List ℕ
  -- a set of feedtypes, as a number whose bits are the members
  pub feed : ℕ
  pub seqno : ℕ
  pub ident : List ℕ
  -- bytes of the body
  pub size : ℕ

-- the bounds of the two texts: no zero byte stands in either
pub record TextsFit (info : Metadata) : Type 0 where
  pub origin_short : length info.origin ≤ LONGEST_ORIGIN
  pub ident_short : length info.ident ≤ LONGEST_IDENT
  pub no_nul : position (λ byte. byte == 0) (info.origin ++ info.ident) ≡ None

abbrev pub AreBytes : List ℕ → Type 0
AreBytes bytes = All (λ byte. byte < 256) bytes

-- 16 bytes
abbrev pub IsSignature : List ℕ → Type 0
IsSignature signature = (length signature ≡ 16) × AreBytes signature

-- a set of feedtypes
abbrev pub IsFeed : ℕ → Type 0
IsFeed feed = feed < 2 ^ 32

-- metadata within the bounds of their types
pub record IsMetadata (info : Metadata) : Type 0 where
  pub arrival : info.arrival ≤ GREATEST_INSTANT
  pub signature : IsSignature info.signature
  pub texts : TextsFit info
  pub origin : AreBytes info.origin
  pub ident : AreBytes info.ident
  pub feed : IsFeed info.feed
  pub seqno : info.seqno < 2 ^ 32
  pub size : info.size < 2 ^ 32

-- a length rounded up to a multiple of four
abbrev pub pad4 : ℕ → ℕ
pad4 n = 4 * ((n + 3) / 4)

-- the bytes that the metadata take when they are spelled in XDR (RFC 4506), in this project's profile:
-- 44 for the numbers, the signature and the lengths of the texts, and the texts with their padding
abbrev pub metadata_len : Metadata → ℕ
metadata_len info = 44 + pad4 (length info.origin) + pad4 (length info.ident)

-- the first fault of two texts, if there is one
abbrev pub texts_fault : List ℕ → List ℕ → Option InfoFault
texts_fault origin ident =
    if nat_lt LONGEST_ORIGIN (length origin) then Some OriginLong
    else (if nat_lt LONGEST_IDENT (length ident) then Some IdentLong
    else nul_fault (position (λ byte. byte == 0) (origin ++ ident)))
  where
    nul_fault : Option ℕ → Option InfoFault
    nul_fault None = None
    nul_fault (Some at) = Some (NulByte at)
