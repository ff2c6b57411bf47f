-- Products: metadata and a body.
use Rattle.std.specs.Prelude.{ℕ, ◌+◌, ◌*◌, ◌/◌, List}
use Rattle.ldm_types.specs.Info.{Metadata, metadata_len}

pub record Product : Type 0 where
  pub info : Metadata
  -- as many bytes as the metadata say
  pub body : List ℕ

-- the bytes of the arena that a product takes: its metadata as they are spelled, its body, and then bytes
-- up to a multiple of eight
abbrev pub extent_of : Metadata → ℕ
extent_of info = 8 * ((metadata_len info + info.size + 7) / 8)
