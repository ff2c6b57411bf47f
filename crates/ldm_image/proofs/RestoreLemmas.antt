-- Restoring the queue of a file: a row is good for the queue exactly where a product of it lies in the arena of the file.
use Rattle.std.proofs.Common.{◌≡◌, ◌≢◌, ◌↔◌, ℕ, ◌+◌, ◌%◌, ◌<◌, ◌≤◌, inl, inr, List, [], ◌∷◌, ◌++◌, length, map, refl, sym, ◌∙◌, ap, subst, arith}
use Rattle.std.specs.Prelude.{Option, Some, None, get_or}
use Rattle.std.specs.List.{AllByRecursion}
use Rattle.std.proofs.lemmas.Bool.{cases_lt}
use Rattle.std.proofs.lemmas.List.{length-map}
use Rattle.std.proofs.lemmas.List.Edits.{length-between}
use Rattle.ldm_types.specs.Arena.{Region, AreApart}
use Rattle.ldm_types.specs.Info.{Metadata}
use Rattle.ldm_types.specs.declared.limits.TheConstants.{ARENA_UNIT}
use Rattle.ldm_book.specs.declared.restoring.RowNote.{RowNote}
use Rattle.ldm_book.specs.declared.fault.RowFault.{RowFault}
use Rattle.ldm_book.specs.declared.fault.RowFault.TheVariants.{Surplus, Number, Time, Place}
use Rattle.ldm_book.specs.declared.fault.RestoreFault.TheVariants.{BadArena, BadSlots, BadCount, BadRow}
use Rattle.ldm_book.specs.View.{BookView, Kept, kept_of}
use Rattle.ldm_book.specs.Products.{LieApart, kept_extent, kept_region}
use Rattle.ldm_book.specs.Stored.{HasMetadata, StandsAt}
use Rattle.ldm_book.specs.Restoring.{Backup, IsGoodCount, IsGoodNumber, IsGoodTime, IsRestorable, IsRestored, IsRestoreFault, SignaturesDiffer, backup, backup_of, end_of_times, note_at, note_of, region_at}
use Rattle.ldm_book.specs.Restoring as restoring
use Rattle.ldm_book.proofs.RestoringLemmas.{ToThoseBehind, every_at, pair_at, stands_once, again_memory, same_book}
use Rattle.ldm_image.specs.Fault.{LiesAt, arena_bytes, arena_in, arena_start, admitted_in, last_in, place_in, row_start}
use Rattle.ldm_image.specs.Judging.{HoldsAll, IsBadPlace, RestoresQueue, backup_in}
use Rattle.ldm_image.specs.declared.sizes.Sizes.{Sizes}
use Rattle.ldm_image.proofs.BackupLemmas.{noted_at}
use Rattle.ldm_image.proofs.RowLemmas.{no_kept}

-- ---- two rows of a queue

abbrev HasOther : Kept → Kept → Type 0
HasOther k other = other.signature ≢ k.signature

abbrev LiesBeside : Kept → Kept → Type 0
LiesBeside k other = AreApart (kept_region k) (kept_region other)

signatures : (rows : List Kept) → SignaturesDiffer rows → ToThoseBehind HasOther rows
signatures [] is = tt
signatures (k ∷ ks) is = (is.0, signatures ks is.1)

regions_of : (P : Region → Type 0) (rows : List Kept) → AllByRecursion P (map kept_region rows ++ []) → AllByRecursion (λ (k : Kept). P (kept_region k)) rows
regions_of P [] all = tt
regions_of P (k ∷ ks) all = (all.0, regions_of P ks all.1)

regions : (arena : ℕ) (rows : List Kept) → LieApart arena (map kept_region rows ++ []) → ToThoseBehind LiesBeside rows
regions arena [] apart = tt
regions arena (k ∷ ks) apart = (regions_of (AreApart (kept_region k)) ks apart.1, regions arena ks apart.2)

within_arena : (arena : ℕ) (rows : List Kept) → LieApart arena (map kept_region rows ++ []) → AllByRecursion (λ (k : Kept). k.place + kept_extent k ≤ arena) rows
within_arena arena [] apart = tt
within_arena arena (k ∷ ks) apart = (apart.0, within_arena arena ks apart.2)

-- ---- a row of a queue lies where it is noted

module _ (book : BookView) (is : IsRestorable book) where
  abbrev noted_rows : List RowNote
  noted_rows = map note_of book.rows

  abbrev row_of : ℕ → Kept
  row_of i = get_or book.rows i no_kept

  -- what stands at the place of a row are the metadata of its product
  stands_there : (e : ℕ) → e < length book.rows → (other : Metadata) → StandsAt book.bytes (note_at noted_rows e).place other
      → (kept_region (row_of e) ≡ region_at (note_at noted_rows e).place other) × ((row_of e).signature ≡ other.signature)
  stands_there e inside other stands =
      let row = row_of e in
      let has = every_at (HasMetadata book.bytes) book.rows e no_kept inside is.stored in
      let place : (note_at noted_rows e).place ≡ row.place = ap (λ (n : RowNote). n.place) (noted_at book.rows e) in
      let info = stands_once book.bytes row.place has.info other has.at (subst (λ (p : ℕ). StandsAt book.bytes p other) place stands) in
      let same : row ≡ kept_of row.number row.time (note_at noted_rows e).place other = has.same ∙ (λ j. kept_of row.number row.time (sym place j) (info j)) in
      (ap kept_region same, ap (λ (k : Kept). k.signature) same)

  lies_there : (i : ℕ) → i < length book.rows → (info : Metadata) × restoring.LiesAt (backup_of book) i info
  lies_there i inside =
      let row = row_of i in
      let has = every_at (HasMetadata book.bytes) book.rows i no_kept inside is.stored in
      let place : (note_at noted_rows i).place ≡ row.place = ap (λ (n : RowNote). n.place) (noted_at book.rows i) in
      let lies = every_at (λ (k : Kept). k.place + kept_extent k ≤ book.arena) book.rows i no_kept inside (within_arena book.arena book.rows is.apart) in
      let head = ap (λ (k : Kept). k.head) has.same in
      let size = ap (λ (k : Kept). k.size) has.same in
      let region : kept_region row ≡ region_at (note_at noted_rows i).place has.info = ap kept_region has.same ∙ (λ j. region_at (sym place j) has.info) in
      let signature : row.signature ≡ has.info.signature = ap (λ (k : Kept). k.signature) has.same in (
        has.info,
        record {
          spelled = subst (λ (p : ℕ). StandsAt book.bytes p has.info) (sym place) has.at;
          within = omega (arith, place, lies, head, size, is.filled);
          apart = λ e other below stands.
              let at = stands_there e (omega (arith, below, inside)) other stands in
              let apart = pair_at LiesBeside book.rows e i no_kept below inside (regions book.arena book.rows is.apart) in
              let differ = pair_at HasOther book.rows e i no_kept below inside (signatures book.rows is.differ) in (
                subst (λ (r : Region). AreApart r (region_at (note_at noted_rows i).place has.info)) at.0 (subst (λ (r : Region). AreApart (kept_region (row_of e)) r) region apart),
                λ same. differ (signature ∙ sym same ∙ sym at.1),
              );
        },
      )

-- ---- by the file

good_count : (last : Option ℕ) (admitted : ℕ) (end : ℕ) → end_of_times last ≡ end → admitted ≤ end → (admitted ≡ 0 ↔ end ≡ 0) → IsGoodCount last admitted
good_count None admitted end is most none = none.1 (sym is)
good_count (Some last) admitted end is most none = (
  elim (cases_lt 0 admitted) [
    | inl some ↦ some
    | inr least ↦ (let zero = none.0 (omega (arith, least)) in absurd (omega (arith, zero, is)))
  ],
  omega (arith, is, most),
)

module _ (sizes : Sizes) (notes : List RowNote) (fault : Option ℕ) (arena : List ℕ) (file : List ℕ) (holds : HoldsAll sizes notes fault arena file) where
  abbrev from : Backup
  from = backup_in sizes notes file

  -- what the call is given
  pub given_backup : (noted : List RowNote) → noted ≡ notes → backup arena sizes.slots sizes.admitted sizes.last noted ≡ from
  given_backup noted is = λ j. backup (holds.bytes j) sizes.slots sizes.admitted sizes.last (is j)

  place_at : (row : ℕ) → row < length notes → (note_at notes row).place ≡ place_in row file
  place_at row inside = (holds.rows.lawful row inside).1.place

  long : length (arena_bytes file) ≡ arena_in file
  long = let count = length-between file (arena_start file) (arena_start file + arena_in file) holds.whole in omega (arith, count)

  -- a product of a row lies in the file where it lies for the queue
  lies_in_file : (row : ℕ) (info : Metadata) → row < length notes → restoring.LiesAt from row info → LiesAt file row info
  lies_in_file row info inside lies =
      let place = place_at row inside in
      record {
        spelled = subst (λ (p : ℕ). StandsAt (arena_bytes file) p info) place lies.spelled;
        within = omega (arith, place, long, lies.within);
        apart = λ earlier other less stands.
            let before = place_at earlier (omega (arith, less, inside)) in
            let both = lies.apart earlier other less (subst (λ (p : ℕ). StandsAt (arena_bytes file) p other) (sym before) stands) in (
              subst (λ (p : ℕ). AreApart (region_at p other) (region_at (place_in row file) info)) before
                  (subst (λ (p : ℕ). AreApart (region_at (note_at notes earlier).place other) (region_at p info)) place both.0),
              both.1,
            );
      }

  lies_for_queue : (row : ℕ) (info : Metadata) → row < length notes → LiesAt file row info → restoring.LiesAt from row info
  lies_for_queue row info inside lies =
      let place = place_at row inside in
      record {
        spelled = subst (λ (p : ℕ). StandsAt (arena_bytes file) p info) (sym place) lies.spelled;
        within = omega (arith, place, long, lies.within);
        apart = λ earlier other less stands.
            let before = place_at earlier (omega (arith, less, inside)) in
            let both = lies.apart earlier other less (subst (λ (p : ℕ). StandsAt (arena_bytes file) p other) before stands) in (
              subst (λ (p : ℕ). AreApart (region_at p other) (region_at (note_at notes row).place info)) (sym before)
                  (subst (λ (p : ℕ). AreApart (region_at (place_in earlier file) other) (region_at p info)) (sym place) both.0),
              both.1,
            );
      }

  -- the queue that was restored
  pub queue_is : (made : BookView) → IsRestored from made → RestoresQueue sizes notes file made
  queue_is made is = record {
    restored = is;
    only = λ book restorable same. same_book made book is.restorable restorable (is.is ∙ sym same);
    lie = λ row inside.
        let count = ap (λ (ns : List RowNote). length ns) (ap (λ (b : Backup). b.notes) is.is) in
        let there = lies_there made is.restorable row (omega (arith, inside, count, length-map made.rows note_of)) in
        (there.0, lies_in_file row there.0 inside (subst (λ (b : Backup). restoring.LiesAt b row there.0) is.is there.1));
  }

  -- the sizes are no fault
  pub no_bad_arena : (a : ℕ) → IsRestoreFault from (BadArena a) → ⊥
  no_bad_arena a faulty =
      let lawful = holds.sized.arena_lawful in
      faulty.1 (record {
        whole = ap (λ (n : ℕ). n % ARENA_UNIT) long ∙ lawful.3;
        least = omega (arith, long, lawful.1);
        greatest = omega (arith, long, lawful.2);
      })

  pub no_bad_slots : (n : ℕ) → IsRestoreFault from (BadSlots n) → ⊥
  no_bad_slots n faulty =
      let lawful = holds.sized.slots_lawful in
      faulty.2 (record { some = omega (arith, holds.sized.slots, lawful.1); most = omega (arith, holds.sized.slots, lawful.2) })

  pub no_bad_count : IsRestoreFault from BadCount → ⊥
  no_bad_count faulty =
      let lawful = holds.sized.last_lawful in
      faulty.2 (subst (λ (n : ℕ). IsGoodCount sizes.last n) (sym holds.sized.admitted)
      (good_count sizes.last (admitted_in file) (last_in file) holds.sized.last lawful.2 lawful.3))

  -- nor are the number and the time of a row
  number_is_good : (row : ℕ) → row < length notes → IsGoodNumber from row
  number_is_good row inside =
      let is = holds.rows.lawful row inside in
      let number = is.0.number in (
        omega (arith, is.1.number, number.1, holds.sized.admitted),
        λ before next.
            let first = holds.rows.lawful before (omega (arith, next, inside)) in
            omega (arith, is.1.number, first.1.number, number.2 before next),
      )

  time_is_good : (row : ℕ) → row < length notes → IsGoodTime from row
  time_is_good row inside =
      let is = holds.rows.lawful row inside in
      let time = is.0.time in (
        omega (arith, is.1.time, time.1, holds.sized.last),
        λ before next.
            let first = holds.rows.lawful before (omega (arith, next, inside)) in
            omega (arith, is.1.time, first.1.time, time.2 before next),
        λ newest.
            let last = time.3 (omega (arith, newest, is.1.number, holds.sized.admitted)) in
            omega (arith, is.1.time, last, holds.sized.last),
      )

  bad_place : (row at : ℕ) → IsRestoreFault from (BadRow row Place) → at ≡ row_start row + 16 → IsBadPlace sizes notes file at row
  bad_place row at faulty at_it =
      let bad = faulty.1 in
      let inside : row < length notes = bad.inside in
      record {
        within = inside;
        before = λ earlier less.
            let good = (bad.before earlier less).place in
            (good.1, lies_in_file earlier good.1 (omega (arith, less, inside)) good.2);
        not = λ lies.
            bad.is.3 (ap (λ (p : ℕ). p % ARENA_UNIT) (place_at row inside) ∙ (holds.rows.lawful row inside).0.place.1, lies.0, lies_for_queue row lies.0 inside lies.1);
        at_it = at_it;
        other = λ book restorable same. (let memory = again_memory from (BadRow row Place) faulty book restorable same in absurd cc);
      }

  -- but its place may be one
  pub row_is_bad : (row at : ℕ) (why : RowFault) → IsRestoreFault from (BadRow row why) → (why ≡ Place → at ≡ row_start row + 16)
      → (bad : ℕ) × IsBadPlace sizes notes file at bad
  row_is_bad row at Surplus faulty at_it =
      absurd (omega (arith, faulty.1.is, faulty.1.inside, holds.rows.few, holds.sized.count_lawful.1, holds.sized.slots))
  row_is_bad row at Number faulty at_it = absurd (faulty.1.is.1 (number_is_good row faulty.1.inside))
  row_is_bad row at Time faulty at_it = absurd (faulty.1.is.2 (time_is_good row faulty.1.inside))
  row_is_bad row at Place faulty at_it = (row, bad_place row at faulty (at_it refl))
