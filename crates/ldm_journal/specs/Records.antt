-- What a journal keeps of a product, and the record of it. The format is this project's own.
use Rattle.std.specs.Prelude.{◌≡◌, ℕ, ◌+◌, ◌-◌, ◌^◌, ◌<◌, ◌≤◌, List, [], ◌∷◌, ◌++◌, length, nat_le, if◌then◌else◌}
use Rattle.std.specs.Int.{w64, to_be_bytes}
use Rattle.std.specs.List.{flat_map}
use Rattle.md5.specs.Md5.{md5}
use Rattle.ldm_types.specs.declared.limits.TheConstants.{GREATEST_INSTANT}
use Rattle.ldm_types.specs.Info.{Metadata, metadata_len}
use Rattle.ldm_xdr.specs.Spelling.{Fits, spelling}

-- a product that is kept
pub record Kept : Type 0 where
  pub number : ℕ
  -- its insertion time, in microseconds since the beginning of 1970
  pub time : ℕ
  pub info : Metadata
  pub body : List ℕ

-- a number in 8 bytes, the highest first
abbrev pub eight : ℕ → List ℕ
eight n = to_be_bytes w64 n

-- What stands in front of a body: how many bytes follow up to the sum, the number, the insertion time, and the metadata
-- in XDR (RFC 4506).
unfoldable pub head_bytes : ℕ → ℕ → Metadata → List ℕ
head_bytes number time info = eight (16 + metadata_len info + info.size) ++ eight number ++ eight time ++ spelling info

-- the record of a product, but for its sum
unfoldable pub counted : Kept → List ℕ
counted k = head_bytes k.number k.time k.info ++ k.body

-- the record of a product: the MD5 digest of all of it stands at the end
unfoldable pub record_bytes : Kept → List ℕ
record_bytes k = counted k ++ md5 (counted k)

-- what can be kept
pub record IsLawful (k : Kept) : Type 0 where
  pub number : k.number < 2 ^ 64 - 1
  pub time : k.time ≤ GREATEST_INSTANT
  pub info : Fits k.info
  pub body : length k.body ≡ k.info.size

-- numbers rise from one on, and stay below another
abbrev pub AreRising : ℕ → List Kept → ℕ → Type 0
AreRising from [] below = from ≤ below
AreRising from (k ∷ kept) below = (from ≤ k.number) × AreRising (k.number + 1) kept below

-- records one after another
abbrev pub records_of : List Kept → List ℕ
records_of kept = flat_map record_bytes kept

-- how many bytes they have
abbrev pub size_of : List Kept → ℕ
size_of kept = length (records_of kept)

-- what is left of products whose records are to have at most so many bytes: the fewest are dropped, from the front
abbrev pub fitting : ℕ → List Kept → List Kept
fitting most [] = []
fitting most (k ∷ kept) = if nat_le (size_of (k ∷ kept)) most then k ∷ kept else fitting most kept
