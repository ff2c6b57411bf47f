-- What stands in front of the rows of an image, as it was read.
use Rattle.std.specs.Prelude.{◌≡◌, ℕ, List, [], ◌∷◌, take, slice_index, Option, Some, None, Result, Ok, Err}
use Rattle.ldm_book.specs.Restoring.{end_of_times}
use Rattle.ldm_image.specs.declared.open.ImageFault.{ImageFault}
use Rattle.ldm_image.specs.declared.open.ImageFault.TheVariants.{Unclean, BadImage, DiskFault, OutOfMemory}
use Rattle.ldm_image.specs.declared.sizes.Sizes.{Sizes}
use Rattle.ldm_image.specs.Fault.{Arena, Slots, Admitted, Last, Count, IsFieldLawful, IsFaultyAt, arena_in, slots_in, admitted_in, last_in, count_in}
use Rattle.ldm_image.specs.Image.{GATE, opening}
use Rattle.ldm_image.specs.Opening.{IsOther}
use Rattle.ldm_image.specs.Saving.{IsUnclean}

-- A file is the image of no queue, and for what reason.
abbrev pub Rejects : ImageFault → List ℕ → Type 0
Rejects (Unclean gate) file = IsUnclean file × (slice_index file GATE ≡ gate) × IsOther file
Rejects (BadImage at) file = ¬ (IsUnclean file) × IsFaultyAt file at × IsOther file
Rejects DiskFault file = ⊥
Rejects OutOfMemory file = ⊥

-- where a byte of the opening is at fault, the field that it is of begins here
abbrev pub opening_field : ℕ → ℕ
opening_field byte = slice_index (0 ∷ 0 ∷ 0 ∷ 0 ∷ 4 ∷ 5 ∷ 6 ∷ 6 ∷ []) byte

-- What the opening of a file is.
abbrev pub JudgesOpening : Option ImageFault → List ℕ → Type 0
JudgesOpening None file = take 8 file ≡ opening 1
JudgesOpening (Some fault) file = Rejects fault file

-- The numbers in front of the rows of a file, which are lawful.
pub record HasSizes (sizes : Sizes) (file : List ℕ) : Type 0 where
  pub opened : take 8 file ≡ opening 1
  pub arena_lawful : IsFieldLawful file Arena
  pub slots_lawful : IsFieldLawful file Slots
  pub admitted_lawful : IsFieldLawful file Admitted
  pub last_lawful : IsFieldLawful file Last
  pub count_lawful : IsFieldLawful file Count
  pub arena : sizes.arena ≡ arena_in file
  pub slots : sizes.slots ≡ slots_in file
  pub admitted : sizes.admitted ≡ admitted_in file
  pub end : sizes.end ≡ last_in file
  pub last : end_of_times sizes.last ≡ last_in file
  pub count : sizes.count ≡ count_in file

-- What stands in front of the rows was judged.
abbrev pub JudgesSizes : Result Sizes ImageFault → List ℕ → Type 0
JudgesSizes (Ok sizes) file = HasSizes sizes file
JudgesSizes (Err fault) file = Rejects fault file
