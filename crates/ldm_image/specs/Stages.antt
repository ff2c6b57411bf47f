-- What is known of a file while it is opened.
use Rattle.std.specs.Prelude.{◌≡◌, ℕ, ◌<◌, List, length, min, slice_index, Option}
use Rattle.ldm_book.specs.declared.restoring.RowNote.{RowNote}
use Rattle.ldm_image.specs.declared.sizes.Sizes.{Sizes}
use Rattle.ldm_image.specs.Fault.{arena_start}
use Rattle.ldm_image.specs.Rows.{AreRows}
use Rattle.ldm_image.specs.Sizes.{HasSizes}

-- the first so many elements of a file are bytes
abbrev pub AreBytesUpTo : ℕ → List ℕ → Type 0
AreBytesUpTo end file = (i : ℕ) → i < end → slice_index file i < 256

-- What stands in front of the rows was read.
pub record IsHeaded (len : ℕ) (sizes : Sizes) (file : List ℕ) : Type 0 where
  pub long : len ≡ length file
  pub sized : HasSizes sizes file
  pub bytes : AreBytesUpTo 48 file

-- The rows were read.
pub record IsListed (len : ℕ) (sizes : Sizes) (notes : List RowNote) (fault : Option ℕ) (file : List ℕ) : Type 0 where
  pub long : len ≡ length file
  pub sized : HasSizes sizes file
  pub rows : AreRows notes fault file
  pub bytes : AreBytesUpTo (min (arena_start file) (length file)) file
