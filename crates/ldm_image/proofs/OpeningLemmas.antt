-- Opening a file step by step: it stays, and what is known of it goes on.
use Rattle.std.proofs.Common.{◌≡◌, ◌≢◌, ◌+◌, ◌-◌, ◌*◌, ◌<◌, ◌≤◌, ℕ, zero, suc, min, List, [], ◌∷◌, ◌++◌, length, take, drop, replicate, inl, inr, refl, sym, ◌∙◌, ap, subst, arith}
use Rattle.std.specs.Prelude.{slice_index, Option, Some, None, IfSome, Result, Ok, Err}
use Rattle.std.specs.List.{between}
use Rattle.std.proofs.lemmas.Bool.{cases_lt}
use Rattle.std.proofs.lemmas.List.{get_or-take, get_or_past, length-take, take_all}
use Rattle.std.proofs.lemmas.List.Edits.{get_or-between}
use Rattle.ldm_types.specs.declared.limits.TheConstants.{LARGEST_ARENA}
use Rattle.ldm_outside.proofs.CallerLemmas.{Rose-later}
use Rattle.ldm_disk.specs.Told.{FileRecord, DiskRecord, IsConsistent}
use Rattle.ldm_disk.specs.Calls.{FileChanges, KeepsFile}
use Rattle.ldm_book.specs.View.{BookView}
use Rattle.ldm_book.specs.declared.restoring.RowNote.{RowNote}
use Rattle.ldm_image.specs.Fault.{arena_start, arena_in}
use Rattle.ldm_image.specs.Opening.{OpensFile, OpenCause, OpensImage}
use Rattle.ldm_image.specs.Rows.{AreRows, HoldsTable}
use Rattle.ldm_image.specs.Sizes.{HasSizes, Rejects}
use Rattle.ldm_image.specs.Judging.{AreBytesIfWhole, HoldsAll}
use Rattle.ldm_image.specs.Stages.{AreBytesUpTo, IsHeaded, IsListed}
use Rattle.ldm_image.specs.declared.open.ImageFault.{ImageFault}
use Rattle.ldm_image.specs.declared.open.ImageFault.TheVariants.{Unclean, BadImage, DiskFault, OutOfMemory}
use Rattle.ldm_image.specs.declared.sizes.Sizes.{Sizes}
use Rattle.ldm_disk.proofs.Filled.{keeps_file}

-- a file that no call was made on
pub keeps_itself : (f : FileRecord) → KeepsFile f f
keeps_itself f = record {
  bytes = refl;
  goes = record {
    crash = λ left leaves. (left, leaves, refl);
    time = record {
      later = omega arith;
      nothing_else = λ since left le left_it. inl left_it;
      keeps = λ since left le left_it. left_it;
    };
  };
}

-- what the calls on a file came to
abbrev pub Opened : Result BookView ImageFault → FileRecord → FileRecord → Type 0
Opened result before after = OpensFile result before.bytes × KeepsFile before after

pub opens_here : (result : Result BookView ImageFault) (file : Option FileRecord) → IfSome file (λ f. OpensFile result f.bytes) → FileChanges (Opened result) file file
opens_here result None opens = tt
opens_here result (Some f) opens = (opens, keeps_itself f)

pub opens_kept : (result : Result BookView ImageFault) (old new : Option FileRecord) → FileChanges KeepsFile old new → IfSome old (λ f. OpensFile result f.bytes)
    → FileChanges (Opened result) old new
opens_kept result None None keeps opens = tt
opens_kept result None (Some new) keeps opens = absurd keeps
opens_kept result (Some old) None keeps opens = absurd keeps
opens_kept result (Some old) (Some new) keeps opens = (opens, keeps)

pub if_some : (P Q : FileRecord → Type 0) (file : Option FileRecord) → ((f : FileRecord) → P f → Q f) → IfSome file P → IfSome file Q
if_some P Q None step p = tt
if_some P Q (Some f) step p = step f p

-- two facts of one file
pub if_both : (P U Q : FileRecord → Type 0) (file : Option FileRecord) → ((f : FileRecord) → P f → U f → Q f) → IfSome file P → IfSome file U → IfSome file Q
if_both P U Q None step p u = tt
if_both P U Q (Some f) step p u = step f p u

-- what is known of the bytes goes on, after a call that keeps them
pub kept_some : (P : List ℕ → Type 0) (old new : Option FileRecord) → FileChanges KeepsFile old new → IfSome old (λ f. P f.bytes) → IfSome new (λ f. P f.bytes)
kept_some P None None keeps p = tt
kept_some P None (Some new) keeps p = absurd keeps
kept_some P (Some old) None keeps p = absurd keeps
kept_some P (Some old) (Some new) keeps p = subst P (sym keeps.bytes) p

-- a call that reads, and then the others
pub opens_later : (result : Result BookView ImageFault) (old mid new : Option FileRecord) → IfSome old IsConsistent → FileChanges KeepsFile old mid
    → FileChanges (Opened result) mid new → FileChanges (Opened result) old new
opens_later result None None new consistent first opens = opens
opens_later result None (Some mid) new consistent first opens = absurd first
opens_later result (Some old) None new consistent first opens = absurd first
opens_later result (Some old) (Some mid) None consistent first opens = absurd opens
opens_later result (Some old) (Some mid) (Some new) consistent first opens =
    (subst (λ (bytes : List ℕ). OpensFile result bytes) first.bytes opens.0, keeps_file old mid new consistent first opens.1)

-- the count of faults that rose later
pub cause_later : (result : Result BookView ImageFault) (old mid new : DiskRecord) → old.faults ≤ mid.faults → OpenCause result mid new → OpenCause result old new
cause_later (Ok book) old mid new later cause = tt
cause_later (Err (Unclean gate)) old mid new later cause = tt
cause_later (Err (BadImage at)) old mid new later cause = tt
cause_later (Err DiskFault) old mid new later cause = Rose-later old.faults mid.faults new.faults later cause
cause_later (Err OutOfMemory) old mid new later cause = tt

-- after a call that reads, the others open the file as they would have at first
pub opens_behind : (result : Result BookView ImageFault) (old mid new : DiskRecord) → IfSome old.file IsConsistent → FileChanges KeepsFile old.file mid.file
    → old.faults ≤ mid.faults → OpensImage result mid new → OpensImage result old new
opens_behind result old mid new consistent first later opens =
    (cause_later result old mid new later opens.0, opens_later result old.file mid.file new.file consistent first opens.1)

-- ---- faults

-- a rejected file is told so
pub opens_rejected : (fault : ImageFault) (file : List ℕ) → Rejects fault file → OpensFile (Err fault) file
opens_rejected (Unclean gate) file rejects = rejects
opens_rejected (BadImage at) file rejects = rejects
opens_rejected DiskFault file rejects = tt
opens_rejected OutOfMemory file rejects = absurd rejects

pub rejected_cause : (fault : ImageFault) (old new : DiskRecord) → (file : List ℕ) → Rejects fault file → OpenCause (Err fault) old new
rejected_cause (Unclean gate) old new file rejects = tt
rejected_cause (BadImage at) old new file rejects = tt
rejected_cause DiskFault old new file rejects = absurd rejects
rejected_cause OutOfMemory old new file rejects = tt

-- a disk that did not fail
pub no_cause : (result : Result BookView ImageFault) (old new : DiskRecord) → result ≢ Err DiskFault → OpenCause result old new
no_cause (Ok book) old new not = tt
no_cause (Err (Unclean gate)) old new not = tt
no_cause (Err (BadImage at)) old new not = tt
no_cause (Err DiskFault) old new not = absurd (not refl)
no_cause (Err OutOfMemory) old new not = tt

-- ---- elements that are bytes

pub append_bytes : (front back : List ℕ) → ((i : ℕ) → slice_index front i < 256) → ((i : ℕ) → slice_index back i < 256) → (i : ℕ) → slice_index (front ++ back) i < 256
append_bytes [] back f b i = b i
append_bytes (x ∷ xs) back f b zero = f 0
append_bytes (x ∷ xs) back f b (suc i) = append_bytes xs back (λ k. f (suc k)) b i

pub drop_bytes : (n : ℕ) (xs : List ℕ) → ((i : ℕ) → slice_index xs i < 256) → (i : ℕ) → slice_index (drop n xs) i < 256
drop_bytes zero xs f i = f i
drop_bytes (suc n) [] f i = f i
drop_bytes (suc n) (x ∷ xs) f i = drop_bytes n xs (λ k. f (suc k)) i

pub take_bytes : (n : ℕ) (xs : List ℕ) → ((i : ℕ) → slice_index xs i < 256) → (i : ℕ) → slice_index (take n xs) i < 256
take_bytes zero xs f i = omega arith
take_bytes (suc n) [] f i = f i
take_bytes (suc n) (x ∷ xs) f zero = f 0
take_bytes (suc n) (x ∷ xs) f (suc i) = take_bytes n xs (λ k. f (suc k)) i

pub none_behind : (n : ℕ) (xs : List ℕ) → length xs ≤ n → (i : ℕ) → slice_index (drop n xs) i < 256
none_behind zero [] le i = omega arith
none_behind zero (x ∷ xs) le i = absurd (omega (arith, le))
none_behind (suc n) [] le i = omega arith
none_behind (suc n) (x ∷ xs) le i = none_behind n xs (omega (arith, le)) i

pub zero_bytes : (n i : ℕ) → slice_index (replicate n 0) i < 256
zero_bytes zero i = omega arith
zero_bytes (suc n) zero = omega arith
zero_bytes (suc n) (suc i) = zero_bytes n i

-- ---- the elements of a file are bytes, as far as they were read

pub head_bytes : (len : ℕ) (head file : List ℕ) → 48 ≤ len → ((i : ℕ) → slice_index head i < 256) → take (min len 48) head ≡ take 48 file → AreBytesUpTo 48 file
head_bytes len head file long bytes is i less =
    let same : slice_index file i ≡ slice_index head i =
    sym (get_or-take 48 file i 0 less) ∙ ap (λ (l : List ℕ). slice_index l i) (sym is) ∙ get_or-take (min len 48) head i 0 (omega (arith, less, long)) in
    omega (arith, same, bytes i)

pub more_bytes : (at end : ℕ) (part file : List ℕ) → AreBytesUpTo at file → ((i : ℕ) → slice_index part i < 256) → part ≡ between at end file → AreBytesUpTo end file
more_bytes at end part file before bytes is i less =
    elim (cases_lt i at) [
      | inl below ↦ before i below
      | inr from ↦
          (let there : at + (i - at) ≡ i = omega (arith, from) in
          let same : slice_index file i ≡ slice_index part (i - at) =
          ap (λ (k : ℕ). slice_index file k) (sym there) ∙ sym (get_or-between file at end (i - at) 0 (omega (arith, there, less))) ∙ ap (λ (l : List ℕ). slice_index l (i - at)) (sym is) in
          omega (arith, same, bytes (i - at)))
    ]

-- so they are all, where the arena ends the file
pub whole_bytes : (file : List ℕ) → AreBytesUpTo (arena_start file + arena_in file) file → AreBytesIfWhole file
whole_bytes file bytes long i =
    elim (cases_lt i (length file)) [
      | inl within ↦ bytes i (omega (arith, within, long))
      | inr past ↦ (let none = get_or_past file i 0 past in omega (arith, none))
    ]

-- ---- step by step

-- the numbers in front of the rows
pub is_headed : (len : ℕ) (sizes : Sizes) (head file : List ℕ) → 48 ≤ len → len ≡ length file → ((i : ℕ) → slice_index head i < 256) → take (min len 48) head ≡ take 48 file
    → HasSizes sizes file → IsHeaded len sizes file
is_headed len sizes head file enough long bytes is sized = record { long = long; sized = sized; bytes = head_bytes len head file enough bytes is }

-- what lawful numbers of the first bytes say, whether or not the disk tells its file
pub front_is_long : (len n : ℕ) (head : List ℕ) (sizes : Sizes) → n ≡ min len 48 → length (take n head) ≤ n → HasSizes sizes (take n head) → 48 ≤ len
front_is_long len n head sizes is most sized = omega (arith, is, most, sized.count_lawful.0)

pub front_is_small : (front : List ℕ) (sizes : Sizes) → HasSizes sizes front → sizes.arena ≤ LARGEST_ARENA
front_is_small front sizes sized = omega (arith, sized.arena, sized.arena_lawful.2)

pub front_of_itself : (len n : ℕ) (head : List ℕ) → n ≡ min len 48 → take n head ≡ take 48 (take n head)
front_of_itself len n head is = sym (take_all 48 (take n head) (omega (arith, is, length-take n head)))

-- the bytes of the rows
pub holds_table : (len end count : ℕ) (sizes : Sizes) (table file : List ℕ) → IsHeaded len sizes file → 48 ≤ len → end ≡ min (48 + 24 * sizes.count) len → count ≡ end - 48
    → length table ≡ count → table ≡ between 48 (48 + count) file → HoldsTable table sizes file
holds_table len end count sizes table file headed enough ends counts long is = record {
  sized = headed.sized;
  is = is ∙ ap (λ (k : ℕ). between 48 (48 + k) file) (sym long);
  within = omega (arith, long, counts, ends, enough, headed.long);
  all = elim (cases_lt len (48 + 24 * sizes.count)) [
    | inl short ↦ inr (omega (arith, short, long, counts, ends, enough, headed.long))
    | inr whole ↦ inl (omega (arith, whole, long, counts, ends, headed.sized.count))
  ];
}

pub is_listed : (len end count : ℕ) (sizes : Sizes) (notes : List RowNote) (fault : Option ℕ) (table file : List ℕ) → IsHeaded len sizes file → 48 ≤ len
    → end ≡ min (48 + 24 * sizes.count) len → count ≡ end - 48 → table ≡ between 48 (48 + count) file → ((i : ℕ) → slice_index table i < 256)
    → AreRows notes fault file → IsListed len sizes notes fault file
is_listed len end count sizes notes fault table file headed enough ends counts is bytes rows = record {
  long = headed.long;
  sized = headed.sized;
  rows = rows;
  bytes = λ i less.
      more_bytes 48 (48 + count) table file headed.bytes bytes is i (omega (arith, less, counts, ends, enough, headed.long, headed.sized.count));
}

-- the bytes of the arena
pub holds_all : (len start : ℕ) (sizes : Sizes) (notes : List RowNote) (fault : Option ℕ) (arena file : List ℕ) → IsListed len sizes notes fault file
    → start ≡ 48 + 24 * sizes.count → start + sizes.arena ≤ len → arena ≡ between start (start + sizes.arena) file → HoldsAll sizes notes fault arena file
holds_all len start sizes notes fault arena file listed starts within is =
    let from : start ≡ arena_start file = omega (arith, starts, listed.sized.count) in
    let to : start + sizes.arena ≡ arena_start file + arena_in file = omega (arith, from, listed.sized.arena) in
    record {
      sized = listed.sized;
      rows = listed.rows;
      whole = omega (arith, to, within, listed.long);
      bytes = is ∙ (λ j. between (from j) (to j) file);
    }

pub bytes_if_whole : (len start : ℕ) (sizes : Sizes) (notes : List RowNote) (fault : Option ℕ) (arena file : List ℕ) → IsListed len sizes notes fault file
    → start ≡ 48 + 24 * sizes.count → start + sizes.arena ≤ len → arena ≡ between start (start + sizes.arena) file → ((i : ℕ) → slice_index arena i < 256)
    → AreBytesIfWhole file
bytes_if_whole len start sizes notes fault arena file listed starts within is bytes =
    let from : start ≡ arena_start file = omega (arith, starts, listed.sized.count) in
    let to : start + sizes.arena ≡ arena_start file + arena_in file = omega (arith, from, listed.sized.arena) in
    let front : AreBytesUpTo start file = λ i less. listed.bytes i (omega (arith, less, from, within, listed.long)) in
    whole_bytes file (subst (λ (end : ℕ). AreBytesUpTo end file) to (more_bytes start (start + sizes.arena) arena file front bytes is))
