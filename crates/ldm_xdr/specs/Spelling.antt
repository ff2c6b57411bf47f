-- How fields are spelled in XDR (RFC 4506), and the one spelling of the metadata of a product, in this project's profile.
use Rattle.std.specs.Prelude.{◌≡◌, ℕ, ◌-◌, ◌/◌, ◌%◌, ◌^◌, ◌<◌, ◌≤◌, List, ◌++◌, length, replicate}
use Rattle.std.specs.Int.{Width, w32, w64, to_be_bytes}
use Rattle.ldm_types.specs.declared.limits.TheConstants.{GREATEST_INSTANT}
use Rattle.ldm_types.specs.Info.{Metadata, TextsFit, pad4}

-- a number of a width, the highest byte first (sections 4.2 and 4.5)
unfoldable pub number : Width → ℕ → List ℕ
number width n = to_be_bytes width n

abbrev pub unsigned : ℕ → List ℕ
unsigned n = number w32 n

abbrev pub hyper : ℕ → List ℕ
hyper n = number w64 n

-- a fixed opaque (section 4.9): its bytes, and zero bytes up to a multiple of four (section 3)
abbrev pub padded : List ℕ → List ℕ
padded bytes = bytes ++ replicate (pad4 (length bytes) - length bytes) 0

-- an opaque (section 4.10) or a string (section 4.11): its length, its bytes and their padding
unfoldable pub opaque : List ℕ → List ℕ
opaque bytes = unsigned (length bytes) ++ padded bytes

-- The eight fields, one after another. The signature is a fixed opaque (section 4.9) of 16 bytes, which
-- need no padding.
unfoldable pub spelling : Metadata → List ℕ
spelling info =
    unsigned (info.arrival / 1000000)
    ++ unsigned (info.arrival % 1000000)
    ++ info.signature
    ++ opaque info.origin
    ++ unsigned info.feed
    ++ unsigned info.seqno
    ++ opaque info.ident
    ++ unsigned info.size

-- what has a spelling: the seconds of the greatest instant, as the other numbers, are below 2 ^ 32
pub record Fits (info : Metadata) : Type 0 where
  pub arrival : info.arrival ≤ GREATEST_INSTANT
  pub signature : length info.signature ≡ 16
  pub feed : info.feed < 2 ^ 32
  pub seqno : info.seqno < 2 ^ 32
  pub size : info.size < 2 ^ 32
  pub texts : TextsFit info
