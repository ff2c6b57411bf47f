-- What stands in front of the rows of an image.
use Rattle.std.proofs.Common.{◌≡◌, ◌≢◌, ◌⊎◌, inl, inr, ℕ, zero, suc, ◌+◌, ◌%◌, ◌<◌, ◌≤◌, min, List, [], ◌∷◌, length, take, drop, refl, sym, ◌∙◌, ap, subst, arith}
use Rattle.std.specs.Prelude.{slice_index, IfSome, Option, Some, None}
use Rattle.std.specs.Int.{w64, from_be_bytes}
use Rattle.std.specs.List.{between}
use Rattle.std.proofs.lemmas.Slice.{between_is}
use Rattle.std.proofs.lemmas.List.{take-take, length-take, length-drop, get_or-take, get_or-drop}
use Rattle.std.proofs.lemmas.Nat.{from_be_bytes-to_be_bytes_8}
use Rattle.ldm_types.specs.declared.limits.TheConstants.{GREATEST_INSTANT, SMALLEST_ARENA, LARGEST_ARENA, ARENA_UNIT, MOST_SLOTS}
use Rattle.ldm_book.specs.View.{BookView, Kept}
use Rattle.ldm_book.specs.Sound.{IsTimed}
use Rattle.ldm_book.specs.Restoring.{IsRestorable}
use Rattle.ldm_image.specs.declared.open.ImageFault.TheVariants.{BadImage}
use Rattle.ldm_image.specs.Image.{GATE, opening, image, last_field}
use Rattle.ldm_image.specs.Fault.{Field, Magic, Version, Gate, Zeros, Arena, Slots, Admitted, Last, Count, IsFieldLawful, HasEight, number_at, arena_in, slots_in, admitted_in, last_in, count_in}
use Rattle.ldm_image.specs.Opening.{IsOther}
use Rattle.ldm_image.specs.Saving.{IsUnclean}
use Rattle.ldm_image.specs.Sizes.{Rejects, opening_field}

-- a number that the first 48 bytes hold
pub same_number : (place : ℕ) (file : List ℕ) → place + 8 ≤ 48 → number_at place (take 48 file) ≡ number_at place file
same_number place file within =
    ap (λ (l : List ℕ). from_be_bytes w64 l)
    (between_is (take 48 file) place (place + 8) ∙ ap (λ (l : List ℕ). drop place l) (take-take (place + 8) 48 file within) ∙ sym (between_is file place (place + 8)))

pub has_eight : (place : ℕ) (file : List ℕ) → place + 8 ≤ 48 → HasEight place (take 48 file) → HasEight place file
has_eight place file within has = omega (arith, has, length-take 48 file)

pub has_not : (place : ℕ) (file : List ℕ) → place + 8 ≤ 48 → ¬ (HasEight place (take 48 file)) → ¬ (HasEight place file)
has_not place file within not has = not (omega (arith, within, has, length-take 48 file))

-- what was read of the first bytes
pub lacks : (place : ℕ) (head file : List ℕ) → place + 8 ≤ 48 → head ≡ take 48 file → ¬ (HasEight place head) → ¬ (HasEight place file)
lacks place head file within is not = has_not place file within (subst (λ (h : List ℕ). ¬ (HasEight place h)) is not)

pub given : (place n : ℕ) (head file : List ℕ) → place + 8 ≤ 48 → head ≡ take 48 file → HasEight place head × (n ≡ number_at place head)
    → HasEight place file × (n ≡ number_at place file)
given place n head file within is has =
    let at : HasEight place (take 48 file) × (n ≡ number_at place (take 48 file)) = subst (λ (h : List ℕ). HasEight place h × (n ≡ number_at place h)) is has in
    (has_eight place file within at.0, at.1 ∙ same_number place file within)

pub arena_bounds : (n : ℕ) (file : List ℕ) → n ≡ arena_in file → IsFieldLawful file Arena → (SMALLEST_ARENA ≤ n) × (n ≤ LARGEST_ARENA) × (n % ARENA_UNIT ≡ 0)
arena_bounds n file is lawful =
    subst (λ (a : ℕ). (SMALLEST_ARENA ≤ a) × (a ≤ LARGEST_ARENA) × (a % ARENA_UNIT ≡ 0)) (sym is) (lawful.1, lawful.2, lawful.3)

pub arena_good : (n : ℕ) (file : List ℕ) → HasEight 8 file → n ≡ arena_in file → (SMALLEST_ARENA ≤ n) × (n ≤ LARGEST_ARENA) × (n % ARENA_UNIT ≡ 0)
    → IsFieldLawful file Arena
arena_good n file has is bounds =
    let good = subst (λ (a : ℕ). (SMALLEST_ARENA ≤ a) × (a ≤ LARGEST_ARENA) × (a % ARENA_UNIT ≡ 0)) is bounds in
    (has, good.0, good.1, good.2)

pub slots_bounds : (n : ℕ) (file : List ℕ) → n ≡ slots_in file → IsFieldLawful file Slots → (0 < n) × (n ≤ MOST_SLOTS)
slots_bounds n file is lawful = subst (λ (a : ℕ). (0 < a) × (a ≤ MOST_SLOTS)) (sym is) (lawful.1, lawful.2)

pub slots_good : (n : ℕ) (file : List ℕ) → HasEight 16 file → n ≡ slots_in file → (0 < n) × (n ≤ MOST_SLOTS) → IsFieldLawful file Slots
slots_good n file has is bounds =
    let good = subst (λ (a : ℕ). (0 < a) × (a ≤ MOST_SLOTS)) is bounds in
    (has, good.0, good.1)

-- the bounds of the last insertion time and one more, and of the number of admitted products
abbrev pub EndBounds : ℕ → ℕ → Type 0
EndBounds admitted end = (end ≤ GREATEST_INSTANT + 1) × (admitted ≤ end) × (min end 1 ≤ admitted)

least_admitted : (admitted end : ℕ) → (admitted ≡ 0 → end ≡ 0) → min end 1 ≤ admitted
least_admitted zero end none = let nothing : end ≡ 0 = none refl in omega (arith, nothing)
least_admitted (suc admitted) end none = omega arith

pub end_bounds : (admitted end : ℕ) (file : List ℕ) → admitted ≡ admitted_in file → end ≡ last_in file → IsFieldLawful file Last → EndBounds admitted end
end_bounds admitted end file at is lawful =
    subst (λ (a : ℕ). EndBounds a end) (sym at)
    (subst (λ (e : ℕ). EndBounds (admitted_in file) e) (sym is) (lawful.1, lawful.2, least_admitted (admitted_in file) (last_in file) lawful.3.0))

none_ended : (admitted end : ℕ) → EndBounds admitted end → admitted ≡ 0 → end ≡ 0
none_ended admitted end bounds none = omega (arith, bounds.2, none)

none_started : (admitted end : ℕ) → EndBounds admitted end → end ≡ 0 → admitted ≡ 0
none_started admitted end bounds none = omega (arith, bounds.1, none)

pub end_good : (admitted end : ℕ) (file : List ℕ) → HasEight 32 file → admitted ≡ admitted_in file → end ≡ last_in file → EndBounds admitted end → IsFieldLawful file Last
end_good admitted end file has at is bounds =
    let good : EndBounds (admitted_in file) (last_in file) = subst (λ (a : ℕ). EndBounds a (last_in file)) at (subst (λ (e : ℕ). EndBounds admitted e) is bounds) in
    (has, good.0, good.1, (none_ended (admitted_in file) (last_in file) good, none_started (admitted_in file) (last_in file) good))

pub count_bound : (count slots : ℕ) (file : List ℕ) → count ≡ count_in file → slots ≡ slots_in file → IsFieldLawful file Count → count ≤ slots
count_bound count slots file is at lawful = omega (arith, is, at, lawful.1)

pub count_good : (count slots : ℕ) (file : List ℕ) → HasEight 40 file → count ≡ count_in file → slots ≡ slots_in file → count ≤ slots → IsFieldLawful file Count
count_good count slots file has is at le = (has, omega (arith, is, at, le))

-- the numbers of a queue that can be restored
admitted_le : (last : Option ℕ) (admitted : ℕ) (rows : List Kept) → IsTimed last admitted rows → admitted ≤ last_field last
admitted_le None admitted rows timed = omega (arith, timed.0)
admitted_le (Some last) admitted rows timed = timed.0

last_le : (last : Option ℕ) (admitted : ℕ) → IfSome last (λ last. (last ≤ GREATEST_INSTANT) × (0 < admitted)) → last_field last ≤ GREATEST_INSTANT + 1
last_le None admitted is = omega arith
last_le (Some last) admitted is = omega (arith, is.0)

no_last : (last : Option ℕ) (admitted : ℕ) → IfSome last (λ last. (last ≤ GREATEST_INSTANT) × (0 < admitted)) → admitted ≡ 0 → last_field last ≡ 0
no_last None admitted is none = refl
no_last (Some last) admitted is none = absurd (omega (arith, is.1, none))

module _ (book : BookView) (is : IsRestorable book) where
  pub last_small : last_field book.last ≤ GREATEST_INSTANT + 1
  last_small = last_le book.last book.admitted is.last

  pub admitted_small : book.admitted ≤ last_field book.last
  admitted_small = admitted_le book.last book.admitted book.rows is.timed

  pub arena_of_image : arena_in (image book) ≡ book.arena
  arena_of_image = from_be_bytes-to_be_bytes_8 book.arena (omega (arith, is.arena.1))

  pub slots_of_image : slots_in (image book) ≡ book.slots
  slots_of_image = from_be_bytes-to_be_bytes_8 book.slots (omega (arith, is.slots.1))

  pub admitted_of_image : admitted_in (image book) ≡ book.admitted
  admitted_of_image = from_be_bytes-to_be_bytes_8 book.admitted (omega (arith, admitted_small, last_small))

  pub last_of_image : last_in (image book) ≡ last_field book.last
  last_of_image = from_be_bytes-to_be_bytes_8 (last_field book.last) (omega (arith, last_small))

  pub count_of_image : count_in (image book) ≡ length book.rows
  count_of_image = from_be_bytes-to_be_bytes_8 (length book.rows) (omega (arith, is.few, is.slots.1))

  long_image : 48 ≤ length (image book)
  long_image = omega arith

  pub arena_is_lawful : IsFieldLawful (image book) Arena
  arena_is_lawful = (omega (arith, long_image), rw arena_of_image is.arena.0, rw arena_of_image is.arena.1, rw arena_of_image is.arena.2)

  pub slots_are_lawful : IsFieldLawful (image book) Slots
  slots_are_lawful = (omega (arith, long_image), rw slots_of_image is.slots.0, rw slots_of_image is.slots.1)

  pub admitted_is_lawful : IsFieldLawful (image book) Admitted
  admitted_is_lawful = omega (arith, long_image)

  pub last_is_lawful : IsFieldLawful (image book) Last
  last_is_lawful = (
    omega (arith, long_image),
    rw last_of_image last_small,
    rw (last_of_image, admitted_of_image) admitted_small,
    (
      λ none. last_of_image ∙ no_last book.last book.admitted is.last (sym admitted_of_image ∙ none),
      λ nothing. let none : last_field book.last ≡ 0 = sym last_of_image ∙ nothing in admitted_of_image ∙ omega (arith, admitted_small, none),
    ),
  )

  pub count_is_lawful : IsFieldLawful (image book) Count
  count_is_lawful = (omega (arith, long_image), rw (count_of_image, slots_of_image) is.few)

-- a file of which a field is not lawful that is lawful in each image
pub other : (field : Field) (file : List ℕ) → ((book : BookView) → IsRestorable book → IsFieldLawful (image book) field) → ¬ (IsFieldLawful file field) → IsOther file
other field file lawful not book is = not (subst (λ (f : List ℕ). IsFieldLawful f field) (sym is.is) (lawful book is.lawful))

-- a byte of what stands between two places
byte_between : (first next k : ℕ) (file xs : List ℕ) → between first next file ≡ xs → k < length xs → (first + k < length file) × (slice_index file (first + k) ≡ slice_index xs k)
byte_between first next k file xs is within =
    let there : drop first (take next file) ≡ xs = sym (between_is file first next) ∙ is in
    let count : length (drop first (take next file)) ≡ length xs = ap length there in
    let long : first + k < min next (length file) = omega (arith, count, within, length-take next file, length-drop first (take next file)) in (
      omega (arith, long),
      sym (get_or-take next file (first + k) 0 (omega (arith, long))) ∙ sym (get_or-drop first (take next file) k 0) ∙ ap (λ (l : List ℕ). slice_index l k) there,
    )

-- what stands in the first bytes
short_between : (first next count : ℕ) (file : List ℕ) → next ≤ count → between first next file ≡ between first next (take count file)
short_between first next count file le =
    between_is file first next ∙ ap (λ (l : List ℕ). drop first l) (sym (take-take next count file le)) ∙ sym (between_is (take count file) first next)

within_opening : (first next : ℕ) (file : List ℕ) (count : ℕ) → next ≤ count → take count file ≡ take count (opening 1) → between first next file ≡ between first next (opening 1)
within_opening first next file count le is =
    short_between first next count file le ∙ ap (between first next) is ∙ sym (short_between first next count (opening 1) le)

-- the fields of the opening, where bytes are those of an image
pub magic_is : (file : List ℕ) (count : ℕ) → 4 ≤ count → take count file ≡ take count (opening 1) → IsFieldLawful file Magic
magic_is file count le is = within_opening 0 4 file count le is

pub version_is : (file : List ℕ) (count : ℕ) → 5 ≤ count → take count file ≡ take count (opening 1) → IsFieldLawful file Version
version_is file count le is = within_opening 4 5 file count le is

pub gate_is : (file : List ℕ) (count : ℕ) → 6 ≤ count → take count file ≡ take count (opening 1) → IsFieldLawful file Gate
gate_is file count le is = within_opening 5 6 file count le is

pub zeros_are : (file : List ℕ) (count : ℕ) → 8 ≤ count → take count file ≡ take count (opening 1) → IsFieldLawful file Zeros
zeros_are file count le is = within_opening 6 8 file count le is

-- a byte is missing, or is another than that of an image
abbrev pub Differs : ℕ → List ℕ → Type 0
Differs i file = i < length file → slice_index file i ≢ slice_index (opening 1) i

not_between : (first next k : ℕ) (file xs : List ℕ) → k < length xs → slice_index xs k ≡ slice_index (opening 1) (first + k) → Differs (first + k) file
    → ¬ (between first next file ≡ xs)
not_between first next k file xs within same differs is =
    let at = byte_between first next k file xs is within in
    differs at.0 (at.1 ∙ same)

-- an image that is unclean is none
pub unclean_is_other : (file : List ℕ) → IsUnclean file → IsOther file
unclean_is_other file unclean book is = unclean.gate (ap (λ (f : List ℕ). slice_index f GATE) is.is)

pub bad_magic : (file : List ℕ) (k : ℕ) → k < 4 → ¬ (IsUnclean file) → Differs (0 + k) file → slice_index (76 ∷ 68 ∷ 77 ∷ 81 ∷ []) k ≡ slice_index (opening 1) (0 + k)
    → Rejects (BadImage 0) file
bad_magic file k le clean differs same =
    let not : ¬ (IsFieldLawful file Magic) = not_between 0 4 k file (76 ∷ 68 ∷ 77 ∷ 81 ∷ []) le same differs in (
      clean,
      record { before = []; field = Magic; behind = _; all = refl; lawful = tt; not_lawful = not; at_it = refl },
      other Magic file (λ book is. refl) not,
    )

bad_zeros : (file : List ℕ) (k count : ℕ) → k < 2 → 6 ≤ count → ¬ (IsUnclean file) → take count file ≡ take count (opening 1) → Differs (6 + k) file
    → slice_index (0 ∷ 0 ∷ []) k ≡ slice_index (opening 1) (6 + k) → Rejects (BadImage 6) file
bad_zeros file k count le more clean so_far differs same =
    let not : ¬ (IsFieldLawful file Zeros) = not_between 6 8 k file (0 ∷ 0 ∷ []) le same differs in (
      clean,
      record {
        before = Magic ∷ Version ∷ Gate ∷ [];
        field = Zeros;
        behind = _;
        all = refl;
        lawful = (magic_is file count (omega (arith, more)) so_far, (version_is file count (omega (arith, more)) so_far, (gate_is file count more so_far, tt)));
        not_lawful = not;
        at_it = refl;
      },
      other Zeros file (λ book is. refl) not,
    )

pub bad_opening : (i : ℕ) (file : List ℕ) → i < 8 → ¬ (IsUnclean file) → take i file ≡ take i (opening 1) → Differs i file → Rejects (BadImage (opening_field i)) file
bad_opening zero file le clean so_far differs = bad_magic file 0 (omega arith) clean differs refl
bad_opening (suc zero) file le clean so_far differs = bad_magic file 1 (omega arith) clean differs refl
bad_opening (suc (suc zero)) file le clean so_far differs = bad_magic file 2 (omega arith) clean differs refl
bad_opening (suc (suc (suc zero))) file le clean so_far differs = bad_magic file 3 (omega arith) clean differs refl
bad_opening (suc (suc (suc (suc zero)))) file le clean so_far differs =
    let not : ¬ (IsFieldLawful file Version) = not_between 4 5 0 file (1 ∷ []) (omega arith) refl differs in (
      clean,
      record { before = Magic ∷ []; field = Version; behind = _; all = refl; lawful = (magic_is file 4 (omega arith) so_far, tt); not_lawful = not; at_it = refl },
      other Version file (λ book is. refl) not,
    )
bad_opening (suc (suc (suc (suc (suc zero))))) file le clean so_far differs =
    let not : ¬ (IsFieldLawful file Gate) = not_between 5 6 0 file (1 ∷ []) (omega arith) refl differs in (
      clean,
      record {
        before = Magic ∷ Version ∷ [];
        field = Gate;
        behind = _;
        all = refl;
        lawful = (magic_is file 5 (omega arith) so_far, (version_is file 5 (omega arith) so_far, tt));
        not_lawful = not;
        at_it = refl;
      },
      other Gate file (λ book is. refl) not,
    )
bad_opening (suc (suc (suc (suc (suc (suc zero)))))) file le clean so_far differs = bad_zeros file 0 6 (omega arith) (omega arith) clean so_far differs refl
bad_opening (suc (suc (suc (suc (suc (suc (suc zero))))))) file le clean so_far differs = bad_zeros file 1 7 (omega arith) (omega arith) clean so_far differs refl
bad_opening (suc (suc (suc (suc (suc (suc (suc (suc i)))))))) file le clean so_far differs = absurd (omega (arith, le))

-- where a byte of what was read differs, that of the file does
pub differs_head : (i : ℕ) (head file : List ℕ) → i < 8 → head ≡ take 48 file → (length head ≤ i) ⊎ (slice_index head i ≢ slice_index (opening 1) i) → Differs i file
differs_head i head file le is (inl short) = λ within. absurd (omega (arith, le, within, short, ap length is, length-take 48 file))
differs_head i head file le is (inr other) =
    λ within same. other (ap (λ (h : List ℕ). slice_index h i) is ∙ get_or-take 48 file i 0 (omega (arith, le)) ∙ same)

-- what was read has no gate, or a clean one
pub clean_head : (head file : List ℕ) → head ≡ take 48 file → (length head ≤ 5) ⊎ (slice_index head 5 ≡ 1) → ¬ (IsUnclean file)
clean_head head file is (inl short) = λ unclean. absurd (omega (arith, unclean.long, short, ap length is, length-take 48 file))
clean_head head file is (inr one) =
    λ unclean. unclean.gate (sym (get_or-take 48 file 5 0 (omega arith)) ∙ ap (λ (h : List ℕ). slice_index h 5) (sym is) ∙ one)

pub opening_front : (i : ℕ) (head file : List ℕ) → i < 8 → head ≡ take 48 file → take i head ≡ take i (opening 1) → take i file ≡ take i (opening 1)
opening_front i head file le is so_far = sym (take-take i 48 file (omega (arith, le))) ∙ ap (λ (h : List ℕ). take i h) (sym is) ∙ so_far

-- where the opening is that of an image, the file is not unclean
pub is_clean : (file : List ℕ) → take 8 file ≡ opening 1 → ¬ (IsUnclean file)
is_clean file is unclean = unclean.gate (sym (get_or-take 8 file 5 0 (omega arith)) ∙ ap (λ (l : List ℕ). slice_index l 5) is)

module _ (file : List ℕ) (opened : take 8 file ≡ opening 1) where
  pub bad_arena : ¬ (IsFieldLawful file Arena) → Rejects (BadImage 8) file
  bad_arena not = (
    is_clean file opened,
    record {
      before = Magic ∷ Version ∷ Gate ∷ Zeros ∷ [];
      field = Arena;
      behind = _;
      all = refl;
      lawful = (magic_is file 8 (omega arith) opened, (version_is file 8 (omega arith) opened, (gate_is file 8 (omega arith) opened, (zeros_are file 8 (omega arith) opened, tt))));
      not_lawful = not;
      at_it = refl;
    },
    other Arena file arena_is_lawful not,
  )

  pub bad_slots : IsFieldLawful file Arena → ¬ (IsFieldLawful file Slots) → Rejects (BadImage 16) file
  bad_slots a not = (
    is_clean file opened,
    record {
      before = Magic ∷ Version ∷ Gate ∷ Zeros ∷ Arena ∷ [];
      field = Slots;
      behind = _;
      all = refl;
      lawful = (magic_is file 8 (omega arith) opened, (version_is file 8 (omega arith) opened, (gate_is file 8 (omega arith) opened, (zeros_are file 8 (omega arith) opened, (a, tt)))));
      not_lawful = not;
      at_it = refl;
    },
    other Slots file slots_are_lawful not,
  )

  pub bad_admitted : IsFieldLawful file Arena → IsFieldLawful file Slots → ¬ (IsFieldLawful file Admitted) → Rejects (BadImage 24) file
  bad_admitted a s not = (
    is_clean file opened,
    record {
      before = Magic ∷ Version ∷ Gate ∷ Zeros ∷ Arena ∷ Slots ∷ [];
      field = Admitted;
      behind = _;
      all = refl;
      lawful = (magic_is file 8 (omega arith) opened, (version_is file 8 (omega arith) opened, (gate_is file 8 (omega arith) opened, (zeros_are file 8 (omega arith) opened, (a, (s, tt))))));
      not_lawful = not;
      at_it = refl;
    },
    other Admitted file admitted_is_lawful not,
  )

  pub bad_last : IsFieldLawful file Arena → IsFieldLawful file Slots → IsFieldLawful file Admitted → ¬ (IsFieldLawful file Last) → Rejects (BadImage 32) file
  bad_last a s n not = (
    is_clean file opened,
    record {
      before = Magic ∷ Version ∷ Gate ∷ Zeros ∷ Arena ∷ Slots ∷ Admitted ∷ [];
      field = Last;
      behind = _;
      all = refl;
      lawful = (magic_is file 8 (omega arith) opened, (version_is file 8 (omega arith) opened, (gate_is file 8 (omega arith) opened, (zeros_are file 8 (omega arith) opened, (a, (s, (n, tt)))))));
      not_lawful = not;
      at_it = refl;
    },
    other Last file last_is_lawful not,
  )

  pub bad_count : IsFieldLawful file Arena → IsFieldLawful file Slots → IsFieldLawful file Admitted → IsFieldLawful file Last → ¬ (IsFieldLawful file Count) → Rejects (BadImage 40) file
  bad_count a s n l not = (
    is_clean file opened,
    record {
      before = Magic ∷ Version ∷ Gate ∷ Zeros ∷ Arena ∷ Slots ∷ Admitted ∷ Last ∷ [];
      field = Count;
      behind = _;
      all = refl;
      lawful = (magic_is file 8 (omega arith) opened, (version_is file 8 (omega arith) opened, (gate_is file 8 (omega arith) opened, (zeros_are file 8 (omega arith) opened, (a, (s, (n, (l, tt))))))));
      not_lawful = not;
      at_it = refl;
    },
    other Count file count_is_lawful not,
  )
