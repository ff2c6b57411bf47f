-- What the store does to the files that are kept open.
use Rattle.std.proofs.Common.{◌≡◌, ◌≢◌, ◌∙◌, ℕ, ◌-◌, ◌+◌, ◌<◌, ◌≤◌, ◌⊎◌, inl, inr, Bool, true, false, cond, List, [], ◌∷◌, ◌++◌, length, take, drop, Option, Some, None, option_map, Result, Ok, Err, refl, sym, ap, subst, arith, length-append, length-take}
use Rattle.std.specs.Prelude.{IsSome, IfSome, bytes_eq, nat_lt, not}
use Rattle.std.specs.BTreeMap.{is_at}
use Rattle.std.specs.Map.{remove_entry}
use Rattle.std.specs.Ordering.{match_ordering, nat_cmp}
use Rattle.std.specs.declared.cmp.Ordering.{Ordering}
use Rattle.std.specs.declared.cmp.Ordering.TheVariants.{Less, Equal, Greater}
use Rattle.ldm_outside.specs.declared.fault.Failed.{Failed}
use Rattle.ldm_outside.specs.declared.store.FileNo.{FileNo}
use Rattle.ldm_outside.specs.Count.{Rose}
use Rattle.ldm_outside.specs.Numbered.{with_number, without_number}
use Rattle.std.proofs.lemmas.Bool.Decides.{nat_tests}
use Rattle.ldm_outside.specs.Store.{File, ChangesFile, FlushesFile, IsOpen, IsThere, OpensFile, ShutsFile, StoreFails, StoreRecord, bytes_under, path_of, with_changed, with_file, with_flushed, with_made, with_opened}
use Rattle.ldm_outside.proofs.NumberLemmas.{at-with, at-with-others, at-without-others}
use Rattle.ldm_outside.proofs.StoreLemmas.{IsOpen-before, IsOpen-changes, IsOpen-last, IsOpen-others}
use Rattle.ldm_actions.specs.declared.limits.TheConstants.{MOST_OPEN}
use Rattle.ldm_actions.specs.Kept.{Differs, Each, IsNewest, first_of, gone_of, last_of, number_under, raised, raised_by, staying}
use Rattle.ldm_actions.specs.OpenFiles.{FileSide, FilesBecome, FilesFail, IsOpenUnder, KeepsFiles, KeepsOr, OpensAfter, ShutsGone, all_shut, file_no, file_side, files_begun, files_made, flushed_in, shut_in, store_begun, store_emptied, store_used, store_used_by, store_with_room, used, used_by, with_gone_shut, with_room_open}
use Rattle.ldm_actions.proofs.Commands.{one_less}
use Rattle.ldm_actions.proofs.KeptLemmas.{Entry, HasRoom, IsFull, apart_found, apart_front, apart_last, differs_under, each_both, each_found, each_front, each_gone, each_last, each_then, last_is, last_part, not_under_front, room_or_full, take_front}

-- one more is there at most where one is put under a number
one_more : (number : ℕ) (path : List ℕ) (paths : List (ℕ × List ℕ)) → length (with_number number path paths) ≤ length paths + 1
one_more number path [] = omega arith
one_more number path (it ∷ paths) = by_order (nat_cmp number it.0) (one_more number path paths)
  where
    by_order : (r : Ordering) → length (with_number number path paths) ≤ length paths + 1 →
        length (match_ordering r ((number, path) ∷ it ∷ paths) ((it.0, path) ∷ paths) (it ∷ with_number number path paths)) ≤ length (it ∷ paths) + 1
    by_order Less later = omega arith
    by_order Equal later = omega arith
    by_order Greater later = omega arith

-- one less is open where a file is shut that was open
one_shut : (it : Entry) (old new : StoreRecord) → new ≡ record old { paths = without_number it.1 old.paths } → IsOpenUnder old it →
    length new.paths + 1 ≡ length old.paths
one_shut it old new is was =
    ap (λ (store : StoreRecord). length store.paths + 1) is ∙ one_less (is_at (nat_cmp it.1)) old.paths it.0 was.under

-- a store that failed has as many files open as before
few_after_fault : (kept : List Entry) (old new : StoreRecord) → StoreFails old new → length kept ≤ MOST_OPEN → length old.paths ≤ length kept →
    length new.paths ≤ MOST_OPEN
few_after_fault kept old new fails few no_more = omega (arith, few, no_more, ap (λ (store : StoreRecord). length store.paths) fails.1)

module _ (old new : StoreRecord) where
  -- a file stays open where another is opened,
  opened_before : (path : List ℕ) → new ≡ with_opened path old → (it : Entry) → IsOpenUnder old it → IsOpenUnder new it
  opened_before path is it was =
      let differ : it.1 ≢ old.next = omega (arith, was.is_open.given) in
      record {
        is_open = IsOpen-before (file_no it.1) path old new is was.is_open;
        under = ap (λ (store : StoreRecord). path_of (file_no it.1) store) is ∙ at-with-others old.next it.1 path old.paths differ ∙ was.under;
      }

  -- where the bytes of a file are changed,
  changed_still : (file : ℕ) (change : List ℕ → List ℕ) → ChangesFile (file_no file) change old new → (it : Entry) → IsOpenUnder old it → IsOpenUnder new it
  changed_still file change is it was = record {
    is_open = IsOpen-changes (file_no it.1) (file_no file) change old new is was.is_open;
    under = ap (λ (store : StoreRecord). path_of (file_no it.1) store) is ∙ was.under;
  }

  -- and where another is shut
  shut_others : (other : Entry) → new ≡ record old { paths = without_number other.1 old.paths } → (it : Entry) → Differs other it → IsOpenUnder old it →
      IsOpenUnder new it
  shut_others other is it apart was =
      let differ : it.1 ≢ other.1 = λ same. apart.1 (sym same) in
      record {
        is_open = IsOpen-others (file_no it.1) (file_no other.1) old new differ is was.is_open;
        under = ap (λ (store : StoreRecord). path_of (file_no it.1) store) is ∙ at-without-others other.1 it.1 old.paths differ ∙ was.under;
      }

  -- a file that was just opened is open under its path
  opened_last : (file : ℕ) (path : List ℕ) → file ≡ old.next → new ≡ with_opened path old → IsOpenUnder new (path, file)
  opened_last file path number is = record {
    is_open = IsOpen-last (file_no file) path old new number is;
    under = ap (λ (store : StoreRecord). path_of (file_no file) store) is ∙ ap (λ (n : ℕ). path_of (file_no n) (with_opened path old)) number ∙ at-with old.next path old.paths;
  }

  -- and where one is flushed
  flushed_still : (file : ℕ) → new ≡ with_flushed (file_no file) old → (it : Entry) → IsOpenUnder old it → IsOpenUnder new it
  flushed_still file is it was = subst (λ (store : StoreRecord). IsOpenUnder store it) (sym is) (record {
    is_open = record { path = was.is_open.path; given = was.is_open.given; not_shut = was.is_open.not_shut; there = was.is_open.there };
    under = was.under;
  })

  keeps_flushed : (kept : List Entry) (file : ℕ) → new ≡ with_flushed (file_no file) old → KeepsFiles (file_side kept old) → KeepsFiles (file_side kept new)
  keeps_flushed kept file is keeps = record {
    are_open = each_then (IsOpenUnder old) (IsOpenUnder new) (flushed_still file is) kept keeps.are_open;
    apart = keeps.apart;
    few = keeps.few;
  }

  -- all that is kept stays open where the bytes of a file are changed
  pub keeps_changed : (kept : List Entry) (file : ℕ) (change : List ℕ → List ℕ) → ChangesFile (file_no file) change old new →
      KeepsFiles (file_side kept old) → KeepsFiles (file_side kept new)
  keeps_changed kept file change is keeps = record {
    are_open = each_then (IsOpenUnder old) (IsOpenUnder new) (changed_still file change is) kept keeps.are_open;
    apart = keeps.apart;
    few = keeps.few;
  }

  -- what is kept besides the newest stays open where that is shut,
  pub keeps_without_first : (it : Entry) (kept : List Entry) → new ≡ record old { paths = without_number it.1 old.paths } →
      KeepsFiles (file_side (it ∷ kept) old) → KeepsFiles (file_side kept new)
  keeps_without_first it kept is keeps = record {
    are_open = each_both (Differs it) (IsOpenUnder old) (IsOpenUnder new) (shut_others it is) kept keeps.apart.0 keeps.are_open.1;
    apart = keeps.apart.1;
    few = omega (arith, keeps.few);
  }

  -- and so does what is kept besides the oldest
  keeps_without_last : (it : Entry) (kept : List Entry) → new ≡ record old { paths = without_number it.1 old.paths } →
      KeepsFiles (file_side (kept ++ it ∷ []) old) → KeepsFiles (file_side kept new)
  keeps_without_last it kept is keeps = record {
    are_open = each_both (Differs it) (IsOpenUnder old) (IsOpenUnder new) (shut_others it is) kept (apart_last kept it keeps.apart)
        (each_front (IsOpenUnder old) kept (it ∷ []) keeps.are_open);
    apart = apart_front kept it keeps.apart;
    few = omega (arith, keeps.few, length-append kept (it ∷ []));
  }

  -- a file that is opened is kept besides the others
  keeps_opened : (path : List ℕ) (file : ℕ) (kept : List Entry) → number_under path kept ≡ None → length kept < MOST_OPEN → file ≡ old.next →
      new ≡ with_opened path old → KeepsFiles (file_side kept old) → KeepsFiles (file_side ((path, file) ∷ kept) new)
  keeps_opened path file kept unknown room number is keeps = record {
    are_open = (opened_last file path number is, each_then (IsOpenUnder old) (IsOpenUnder new) (opened_before path is) kept keeps.are_open);
    apart = (
      each_both (IsOpenUnder old) (λ it. path ≢ it.0) (Differs (path, file)) (λ it was differ. (differ, omega (arith, was.is_open.given, number))) kept
          keeps.are_open (differs_under path kept unknown),
      keeps.apart,
    );
    few = omega (arith, room);
  }

pub shuts_oldest : (result : Result (Unit {0}) Failed) (it : Entry) (kept : List Entry) (old new : StoreRecord) →
    ShutsFile result (file_no it.1) old new → KeepsFiles (file_side (kept ++ it ∷ []) old) →
    KeepsOr result (take (length (kept ++ it ∷ []) - 1) (kept ++ it ∷ [])) (shut_in (last_of (kept ++ it ∷ [])) old) (file_side (kept ++ it ∷ []) old)
    (file_side kept new)
shuts_oldest (Ok ok) it kept old new is keeps = (
  record {
    kept_now = sym (take_front kept it);
    files_now = ap (λ (store : StoreRecord). store.files) is;
    store_now = is ∙ ap (λ (last : Option Entry). shut_in last old) (sym (last_is kept it));
    no_more = λ no_more.
        let less = one_shut it old new is (each_last (IsOpenUnder old) kept it keeps.are_open) in omega (arith, less, no_more, length-append kept (it ∷ []));
    faults = ap (λ (store : StoreRecord). store.faults) is;
    long = ap (λ (store : StoreRecord). store.long) is;
    keeps = keeps_without_last old new it kept is keeps;
  },
  ap (λ (store : StoreRecord). store.next) is,
)
shuts_oldest (Err failed) it kept old new fails keeps = record {
  rose = fails.0;
  files_now = ap (λ (store : StoreRecord). store.files) fails.1;
  few_open = few_after_fault (kept ++ it ∷ []) old new fails keeps.few;
  long = ap (λ (store : StoreRecord). store.long) fails.1;
}

opens_new : (path : List ℕ) (file : ℕ) (kept : List Entry) (old new : StoreRecord) → number_under path kept ≡ None → length kept < MOST_OPEN →
    (file ≡ old.next) × (new ≡ with_opened path old) → KeepsFiles (file_side kept old) →
    FilesBecome ((path, old.next) ∷ kept) (files_made path old.files) (with_opened path old) (file_side kept old) (file_side ((path, file) ∷ kept) new)
opens_new path file kept old new unknown room is keeps = record {
  kept_now = ap (λ (n : ℕ). (path, n) ∷ kept) is.0;
  files_now = ap (λ (store : StoreRecord). store.files) is.1;
  store_now = is.1;
  no_more = λ no_more. omega (arith, no_more, ap (λ (store : StoreRecord). length store.paths) is.1, one_more old.next path old.paths);
  faults = ap (λ (store : StoreRecord). store.faults) is.1;
  long = ap (λ (store : StoreRecord). store.long) is.1;
  keeps = keeps_opened old new path file kept unknown room is.0 is.1 keeps;
}

-- a file that is there is not made anew
made_already : (path : List ℕ) (files : List File) → IsSome (bytes_under path files) → with_made path files ≡ files
made_already path [] there = absurd (cc)
made_already path (file ∷ files) there = by_test (bytes_eq file.path path) (made_already path files) there
  where
    by_test : (b : Bool) → (IsSome (bytes_under path files) → with_made path files ≡ files) → IsSome (cond b (Some file.bytes) (bytes_under path files)) →
        cond b (file ∷ files) (file ∷ with_made path files) ≡ file ∷ files
    by_test true later there = refl
    by_test false later there = ap (λ (others : List File). file ∷ others) (later there)

files_there : (path : List ℕ) (files : Option (List File)) → IfSome files (λ all. IsSome (bytes_under path all)) → files ≡ files_made path files
files_there path None there = refl
files_there path (Some files) there = ap (λ (all : List File). Some all) (sym (made_already path files there))

is_there : (it : Entry) (store : StoreRecord) → IsOpenUnder store it → IsThere it.0 store
is_there it store was =
    let same : was.is_open.path ≡ it.0 = cc (was.is_open.not_shut, was.under) in
    subst (λ (path : List ℕ). IsThere path store) same was.is_open.there

-- the file of a path is used that is kept
pub uses_kept : (path : List ℕ) (number : ℕ) (kept : List Entry) (store : StoreRecord) → number_under path kept ≡ Some number →
    KeepsFiles (file_side kept store) →
    FilesBecome (used_by (Some number) path store.next kept) (files_made path store.files) (store_used_by (Some number) path kept store)
    (file_side kept store) (file_side ((path, number) ∷ remove_entry (bytes_eq path) kept) store)
uses_kept path number kept store found keeps =
    let opens = each_found path number (IsOpenUnder store) kept found keeps.are_open in
    record {
      kept_now = refl;
      files_now = files_there path store.files (is_there (path, number) store opens.0);
      store_now = refl;
      no_more = λ no_more. omega (arith, no_more, one_less (bytes_eq path) kept number found);
      faults = refl;
      long = refl;
      keeps = record {
        are_open = opens;
        apart = apart_found path number kept found keeps.apart;
        few = omega (arith, keeps.few, one_less (bytes_eq path) kept number found);
      };
    }

pub uses_raised : (path : List ℕ) (number : ℕ) (kept new : List Entry) (store : StoreRecord) → number_under path kept ≡ Some number →
    new ≡ raised path kept → KeepsFiles (file_side kept store) →
    FilesBecome (used path store.next kept) (files_made path store.files) (store_used path kept store) (file_side kept store) (file_side new store)
uses_raised path number kept new store found is keeps =
    let P : Option ℕ → Type 0 = λ under.
    FilesBecome (used_by under path store.next kept) (files_made path store.files) (store_used_by under path kept store) (file_side kept store)
    (file_side (raised_by under path kept) store)
    in
    subst
    (λ (all : List Entry). FilesBecome (used path store.next kept) (files_made path store.files) (store_used path kept store) (file_side kept store)
    (file_side all store))
    (sym is)
    (subst P (sym found) (uses_kept path number kept store found keeps))

-- one step after another
pub becomes_same : (side : FileSide) → KeepsFiles side → FilesBecome side.kept side.store.files side.store side side
becomes_same side keeps = record {
  kept_now = refl;
  files_now = refl;
  store_now = refl;
  no_more = λ no_more. no_more;
  faults = refl;
  long = refl;
  keeps = keeps;
}

pub becomes_then : (kept : List Entry) (files : Option (List File)) (first_store second_store : StoreRecord) (old mid new : FileSide) →
    FilesBecome mid.kept files first_store old mid → FilesBecome kept mid.store.files second_store mid new →
    FilesBecome new.kept files new.store old new
becomes_then kept files first_store second_store old mid new first second = record {
  kept_now = refl;
  files_now = second.files_now ∙ first.files_now;
  store_now = refl;
  no_more = λ no_more. second.no_more (first.no_more no_more);
  faults = second.faults ∙ first.faults;
  long = second.long ∙ first.long;
  keeps = second.keeps;
}

pub fails_then : (kept : List Entry) (files : Option (List File)) (store : StoreRecord) (old mid new : FileSide) → FilesBecome kept files store old mid →
    FilesFail mid.store.files mid new → FilesFail files old new
fails_then kept files store old mid new first fails = record {
  few_open = λ no_more. fails.few_open (first.no_more no_more);
  rose = subst (λ (faults : ℕ). Rose faults new.store.faults) first.faults fails.rose;
  files_now = fails.files_now ∙ first.files_now;
  long = fails.long ∙ first.long;
}

-- ---- the file of a path is opened that is not kept, and another is shut where there is no room

-- the oldest was shut, by whether there was room
abbrev ShutsBy : List Entry → StoreRecord → Bool → List Entry → Option ℕ → Type 0
ShutsBy kept store b left gone =
    KeepsOr (Ok tt) (cond b kept (take (length kept - 1) kept)) (cond b store (shut_in (last_of kept) store)) (file_side kept store)
    (file_side left (with_gone_shut gone store))

room_shut : (kept : List Entry) (store : StoreRecord) → KeepsFiles (file_side kept store) →
    KeepsOr (Ok tt) (with_room_open kept) (store_with_room kept store) (file_side kept store) (file_side (staying kept) (with_gone_shut (gone_of kept) store))
room_shut kept store keeps = by_room (room_or_full kept keeps.few)
  where
    by_room : HasRoom kept ⊎ IsFull kept → ShutsBy kept store (nat_lt (length kept) 32) (staying kept) (gone_of kept)
    by_room (inl few) =
        let lt : length kept < 32 = few.0 in
        let test : nat_lt (length kept) 32 ≡ true = grind (arith, nat_tests) in
        subst (λ (b : Bool). ShutsBy kept store b (staying kept) (gone_of kept)) (sym test)
        (subst (λ (left : List Entry). ShutsBy kept store true left (gone_of kept)) (sym few.1)
        (subst (λ (gone : Option ℕ). ShutsBy kept store true kept gone) (sym few.2) (becomes_same (file_side kept store) keeps, refl)))
    by_room (inr full) =
        let ge : 32 ≤ length kept = full.5 in
        let test : nat_lt (length kept) 32 ≡ false = grind (arith, nat_tests) in
        let Q : List Entry → Type 0 = λ all.
        KeepsFiles (file_side all store) →
        KeepsOr (Ok tt) (take (length all - 1) all) (shut_in (last_of all) store) (file_side all store)
        (file_side full.0 (with_gone_shut (Some full.1.1) store))
        in
        let shuts : Q kept = subst Q (sym full.2) (shuts_oldest (Ok tt) full.1 full.0 store (with_gone_shut (Some full.1.1) store) refl) in
        subst (λ (b : Bool). ShutsBy kept store b (staying kept) (gone_of kept)) (sym test)
        (subst (λ (left : List Entry). ShutsBy kept store false left (gone_of kept)) (sym full.3)
        (subst (λ (gone : Option ℕ). ShutsBy kept store false full.0 gone) (sym full.4) (shuts keeps)))

opens_behind : (path : List ℕ) (old mid new : FileSide) →
    FilesBecome (with_room_open old.kept) old.store.files (store_with_room old.kept old.store) old mid × (mid.store.next ≡ old.store.next) →
    FilesBecome ((path, mid.store.next) ∷ mid.kept) (files_made path mid.store.files) (with_opened path mid.store) mid new →
    FilesBecome ((path, old.store.next) ∷ with_room_open old.kept) (files_made path old.store.files)
    (with_opened path (store_with_room old.kept old.store)) old new
opens_behind path old mid new room opens = record {
  kept_now = opens.kept_now ∙ ap (λ (n : ℕ). (path, n) ∷ mid.kept) room.1 ∙ ap (λ (kept : List Entry). (path, old.store.next) ∷ kept) room.0.kept_now;
  files_now = opens.files_now ∙ ap (files_made path) room.0.files_now;
  store_now = opens.store_now ∙ ap (with_opened path) room.0.store_now;
  no_more = λ no_more. opens.no_more (room.0.no_more no_more);
  faults = opens.faults ∙ room.0.faults;
  long = opens.long ∙ room.0.long;
  keeps = opens.keeps;
}

-- the entry of a path was reserved, its file was opened, and the entry got its number
pub opens_reserved : (path : List ℕ) (file : ℕ) (kept now : List Entry) (old new : StoreRecord) → number_under path kept ≡ None →
    KeepsFiles (file_side kept old) →
    (file ≡ (with_gone_shut (gone_of kept) old).next) × (new ≡ with_opened path (with_gone_shut (gone_of kept) old)) →
    now ≡ (path, file) ∷ staying kept →
    FilesBecome (used path old.next kept) (files_made path old.files) (store_used path kept old) (file_side kept old) (file_side now new)
opens_reserved path file kept now old new unknown keeps is kept_now =
    let mid = file_side (staying kept) (with_gone_shut (gone_of kept) old) in
    let room = room_shut kept old keeps in
    let few : length (staying kept) < MOST_OPEN = omega (arith, length-take 31 kept) in
    let opens = opens_new path file (staying kept) mid.store new (not_under_front path 31 kept unknown) few is room.0.keeps in
    let all = opens_behind path (file_side kept old) mid (file_side ((path, file) ∷ staying kept) new) room opens in
    subst
    (λ (entries : List Entry). FilesBecome (used path old.next kept) (files_made path old.files) (store_used path kept old) (file_side kept old)
    (file_side entries new))
    (sym kept_now)
    (subst
    (λ (found : Option ℕ). FilesBecome (used_by found path old.next kept) (files_made path old.files) (store_used_by found path kept old) (file_side kept old)
    (file_side ((path, file) ∷ staying kept) new))
    (sym unknown)
    all)

-- the store failed, and what is kept then makes no difference
store_failed : (kept left : List Entry) (old new : StoreRecord) → StoreFails old new → length kept ≤ MOST_OPEN →
    FilesFail old.files (file_side kept old) (file_side left new)
store_failed kept left old new fails few = record {
  rose = fails.0;
  files_now = ap (λ (store : StoreRecord). store.files) fails.1;
  few_open = few_after_fault kept old new fails few;
  long = ap (λ (store : StoreRecord). store.long) fails.1;
}

gone_failed : (failed : Failed) (gone : Option ℕ) (old new : StoreRecord) → ShutsGone gone (Err failed) old new → StoreFails old new
gone_failed failed None old new shuts = absurd (cc shuts.0)
gone_failed failed (Some number) old new shuts = shuts

-- it was reserved, and the store failed
pub opens_failed : (failed : Failed) (path : List ℕ) (kept now : List Entry) (old new : StoreRecord) → KeepsFiles (file_side kept old) →
    OpensAfter (Err failed) (gone_of kept) path old new → FilesFail old.files (file_side kept old) (file_side now new)
opens_failed failed path kept now old new keeps (inl shuts) = store_failed kept now old new (gone_failed failed (gone_of kept) old new shuts) keeps.few
opens_failed failed path kept now old new keeps (inr fails) =
    let mid = file_side (staying kept) (with_gone_shut (gone_of kept) old) in
    let room = room_shut kept old keeps in
    fails_then (with_room_open kept) old.files (store_with_room kept old) (file_side kept old) mid (file_side now new) room.0
    (store_failed (staying kept) now mid.store new fails room.0.keeps.few)

-- what goes is open
pub gone_open : (kept : List Entry) (store : StoreRecord) → KeepsFiles (file_side kept store) →
    IfSome (gone_of kept) (λ number. IsOpen (file_no number) store)
gone_open kept store keeps = each_gone (IsOpenUnder store) (λ number. IsOpen (file_no number) store) (λ it opens. opens.is_open) kept 31 keeps.are_open

gone_shut : (gone : Option ℕ) (old mid : StoreRecord) → ShutsGone gone (Ok tt) old mid → mid ≡ with_gone_shut gone old
gone_shut None old mid shuts = shuts.1
gone_shut (Some number) old mid shuts = shuts

pub opens_after : (result : Result FileNo Failed) (gone : Option ℕ) (path : List ℕ) (old mid new : StoreRecord) → ShutsGone gone (Ok tt) old mid →
    OpensFile result path mid new → OpensAfter result gone path old new
opens_after (Ok file) gone path old mid new shuts opens =
    subst (λ (store : StoreRecord). OpensFile (Ok file) path store new) (gone_shut gone old mid shuts) opens
opens_after (Err failed) gone path old mid new shuts fails =
    inr (subst (λ (store : StoreRecord). StoreFails store new) (gone_shut gone old mid shuts) fails)

-- the newest file that is kept after that of a path was used
newest_used : (path : List ℕ) (next : ℕ) (found : Option ℕ) (kept : List Entry) (it : Entry) (others : List Entry) →
    it ∷ others ≡ used_by found path next kept → it.0 ≡ path
newest_used path next None kept it others is = let same : it ≡ (path, next) = cc in ap (λ (e : Entry). e.0) same
newest_used path next (Some number) kept it others is = let same : it ≡ (path, number) = cc in ap (λ (e : Entry). e.0) same

-- the file of a path was used, and then emptied
begins_empty : (path : List ℕ) (it : Entry) (old mid : FileSide) (new : StoreRecord) →
    FilesBecome (used path old.store.next old.kept) (files_made path old.store.files) (store_used path old.kept old.store) old mid → IsNewest it mid.kept →
    ChangesFile (file_no it.1) (λ _. []) mid.store new →
    FilesBecome (used path old.store.next old.kept) (files_begun true path old.store.files) (store_begun true path old.kept old.store) old
    (file_side mid.kept new)
begins_empty path it old mid new uses newest empties =
    let opens : Each (IsOpenUnder mid.store) (it ∷ newest.others) = subst (λ (kept : List Entry). Each (IsOpenUnder mid.store) kept) newest.is uses.keeps.are_open in
    let name : it.0 ≡ path = newest_used path old.store.next (number_under path old.kept) old.kept it newest.others (sym newest.is ∙ uses.kept_now) in
    let under : path_of (file_no it.1) mid.store ≡ Some path = opens.0.under ∙ ap (λ (n : List ℕ). Some n) name in
    record {
      kept_now = uses.kept_now;
      files_now =
          ap (λ (store : StoreRecord). store.files) empties
          ∙ ap (λ (of : Option (List ℕ)). option_map (with_file of (λ _. [])) mid.store.files) under
          ∙ ap (option_map (with_changed path (λ _. []))) uses.files_now;
      store_now =
          empties
          ∙ ap (λ (of : Option (List ℕ)). record mid.store { files = option_map (with_file of (λ _. [])) mid.store.files }) under
          ∙ ap (store_emptied path) uses.store_now;
      no_more = λ no_more. let few = uses.no_more no_more in omega (arith, few, ap (λ (store : StoreRecord). length store.paths) empties);
      faults = ap (λ (store : StoreRecord). store.faults) empties ∙ uses.faults;
      long = ap (λ (store : StoreRecord). store.long) empties ∙ uses.long;
      keeps = keeps_changed mid.store new mid.kept it.1 (λ _. []) empties uses.keeps;
    }

is_anew : (overwrite : Bool) → not overwrite ≡ false → overwrite ≡ true
is_anew true is = refl
is_anew false is = absurd (cc)

pub begins_anew : (overwrite : Bool) (path : List ℕ) (it : Entry) (old mid : FileSide) (new : StoreRecord) → not overwrite ≡ false →
    FilesBecome (used path old.store.next old.kept) (files_made path old.store.files) (store_used path old.kept old.store) old mid → IsNewest it mid.kept →
    ChangesFile (file_no it.1) (λ _. []) mid.store new →
    FilesBecome (used path old.store.next old.kept) (files_begun overwrite path old.store.files) (store_begun overwrite path old.kept old.store) old
    (file_side mid.kept new)
begins_anew overwrite path it old mid new is uses newest empties =
    subst
    (λ (b : Bool). FilesBecome (used path old.store.next old.kept) (files_begun b path old.store.files) (store_begun b path old.kept old.store) old
    (file_side mid.kept new))
    (sym (is_anew overwrite is))
    (begins_empty path it old mid new uses newest empties)

pub shuts_newest : (result : Result (Unit {0}) Failed) (it : Entry) (kept : List Entry) (old new : StoreRecord) →
    ShutsFile result (file_no it.1) old new → KeepsFiles (file_side (it ∷ kept) old) →
    KeepsOr result (drop 1 (it ∷ kept)) (shut_in (first_of (it ∷ kept)) old) (file_side (it ∷ kept) old) (file_side kept new)
shuts_newest (Ok ok) it kept old new is keeps = (
  record {
    kept_now = refl;
    files_now = ap (λ (store : StoreRecord). store.files) is;
    store_now = is;
    no_more = λ no_more. let less = one_shut it old new is keeps.are_open.0 in omega (arith, less, no_more);
    faults = ap (λ (store : StoreRecord). store.faults) is;
    long = ap (λ (store : StoreRecord). store.long) is;
    keeps = keeps_without_first old new it kept is keeps;
  },
  ap (λ (store : StoreRecord). store.next) is,
)
shuts_newest (Err failed) it kept old new fails keeps = record {
  rose = fails.0;
  files_now = ap (λ (store : StoreRecord). store.files) fails.1;
  few_open = few_after_fault (it ∷ kept) old new fails keeps.few;
  long = ap (λ (store : StoreRecord). store.long) fails.1;
}

-- nothing is shut where nothing is kept
pub shuts_none : (kept : List Entry) (store : StoreRecord) → kept ≡ [] → KeepsFiles (file_side kept store) →
    KeepsOr (Ok tt) (drop 1 kept) (shut_in (first_of kept) store) (file_side kept store) (file_side kept store)
shuts_none [] store is keeps = (becomes_same (file_side [] store) keeps, refl)
shuts_none (it ∷ kept) store is keeps = absurd (cc)

pub shuts_no_oldest : (kept : List Entry) (store : StoreRecord) → kept ≡ [] → KeepsFiles (file_side kept store) →
    KeepsOr (Ok tt) (take (length kept - 1) kept) (shut_in (last_of kept) store) (file_side kept store) (file_side kept store)
shuts_no_oldest [] store is keeps = (becomes_same (file_side [] store) keeps, refl)
shuts_no_oldest (it ∷ kept) store is keeps = absurd (cc)

-- the file that was used last is flushed
flushes_first : (result : Result (Unit {0}) Failed) (it : Entry) (others : List Entry) (old new : StoreRecord) →
    FlushesFile result (file_no it.1) old new → KeepsFiles (file_side (it ∷ others) old) →
    KeepsOr result (it ∷ others) (flushed_in (first_of (it ∷ others)) old) (file_side (it ∷ others) old) (file_side (it ∷ others) new)
flushes_first (Ok ok) it others old new is keeps = (
  record {
    kept_now = refl;
    files_now = ap (λ (store : StoreRecord). store.files) is;
    store_now = is;
    no_more = λ no_more. omega (arith, no_more, ap (λ (store : StoreRecord). length store.paths) is);
    faults = ap (λ (store : StoreRecord). store.faults) is;
    long = ap (λ (store : StoreRecord). store.long) is;
    keeps = keeps_flushed old new (it ∷ others) it.1 is keeps;
  },
  ap (λ (store : StoreRecord). store.next) is,
)
flushes_first (Err failed) it others old new fails keeps = record {
  rose = fails.0;
  files_now = ap (λ (store : StoreRecord). store.files) fails.1;
  few_open = few_after_fault (it ∷ others) old new fails keeps.few;
  long = ap (λ (store : StoreRecord). store.long) fails.1;
}

pub flushes_newest : (result : Result (Unit {0}) Failed) (it : Entry) (kept : List Entry) (old new : StoreRecord) → IsNewest it kept →
    FlushesFile result (file_no it.1) old new → KeepsFiles (file_side kept old) →
    KeepsOr result kept (flushed_in (first_of kept) old) (file_side kept old) (file_side kept new)
flushes_newest result it kept old new newest flushes keeps =
    subst (λ (all : List Entry). KeepsFiles (file_side all old) → KeepsOr result all (flushed_in (first_of all) old) (file_side all old) (file_side all new))
    (sym newest.is) (flushes_first result it newest.others old new flushes) keeps

-- ---- all are shut, one after another

shut_behind : (front : List Entry) (it : Entry) (store : StoreRecord) → all_shut (front ++ it ∷ []) store ≡ all_shut front (shut_in (Some it) store)
shut_behind [] it store = refl
shut_behind (first ∷ front) it store = ap (shut_in (Some first)) (shut_behind front it store)

-- the one that was used longest ago, and then the others
shut_step : (kept : List Entry) (store : StoreRecord) → 0 < length kept →
    all_shut (take (length kept - 1) kept) (shut_in (last_of kept) store) ≡ all_shut kept store
shut_step kept store some =
    let last = last_part kept some in
    subst (λ (all : List Entry). all_shut (take (length all - 1) all) (shut_in (last_of all) store) ≡ all_shut all store) (sym last.2)
    (ap (λ (all : List Entry). all_shut all (shut_in (last_of (last.0 ++ last.1 ∷ [])) store)) (take_front last.0 last.1)
    ∙ ap (λ (of : Option Entry). all_shut last.0 (shut_in of store)) (last_is last.0 last.1)
    ∙ sym (shut_behind last.0 last.1 store))

-- Some are shut, and no call failed. What is left to shut comes to the same as all that was to be shut.
pub record IsShutting (old now : FileSide) : Type 0 where
  pub becomes : FilesBecome now.kept old.store.files now.store old now
  pub next : now.store.next ≡ old.store.next
  pub left : all_shut now.kept now.store ≡ all_shut old.kept old.store

pub shutting_begins : (side : FileSide) → KeepsFiles side → IsShutting side side
shutting_begins side keeps = record { becomes = becomes_same side keeps; next = refl; left = refl }

pub shutting_goes_on : (old mid new : FileSide) → 0 < length mid.kept → IsShutting old mid →
    FilesBecome (take (length mid.kept - 1) mid.kept) mid.store.files (shut_in (last_of mid.kept) mid.store) mid new × (new.store.next ≡ mid.store.next) →
    IsShutting old new
shutting_goes_on old mid new some shutting step = record {
  becomes = becomes_then (take (length mid.kept - 1) mid.kept) old.store.files mid.store (shut_in (last_of mid.kept) mid.store) old mid new shutting.becomes step.0;
  next = step.1 ∙ shutting.next;
  left =
      ap (λ (kept : List Entry). all_shut kept new.store) step.0.kept_now
      ∙ ap (all_shut (take (length mid.kept - 1) mid.kept)) step.0.store_now
      ∙ shut_step mid.kept mid.store some
      ∙ shutting.left;
}

pub shutting_fails : (old mid new : FileSide) → IsShutting old mid → FilesFail mid.store.files mid new → FilesFail old.store.files old new
shutting_fails old mid new shutting fails = fails_then mid.kept old.store.files mid.store old mid new shutting.becomes fails

pub shutting_ends : (old now : FileSide) → now.kept ≡ [] → IsShutting old now →
    FilesBecome [] old.store.files (all_shut old.kept old.store) old now × (now.store.next ≡ old.store.next)
shutting_ends old now none shutting = (
  record {
    kept_now = none;
    files_now = shutting.becomes.files_now;
    store_now = sym (ap (λ (kept : List Entry). all_shut kept now.store) none) ∙ shutting.left;
    no_more = shutting.becomes.no_more;
    faults = shutting.becomes.faults;
    long = shutting.becomes.long;
    keeps = shutting.becomes.keeps;
  },
  shutting.next,
)

pub fewer_kept : (old new : FileSide) → 0 < length old.kept → new.kept ≡ take (length old.kept - 1) old.kept → length new.kept < length old.kept
fewer_kept old new some kept = omega (arith, ap length kept, length-take (length old.kept - 1) old.kept)
