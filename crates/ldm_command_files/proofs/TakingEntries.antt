-- What taking entries comes to.
use Rattle.std.proofs.Common.{◌≡◌, ◌∙◌, ◌⊎◌, ℕ, inl, inr, List, refl, sym, ap, subst}
use Rattle.std.specs.Prelude.{Result, Ok, Err, Some}
use Rattle.ldm_outside.specs.Count.{Rose}
use Rattle.ldm_outside.specs.Store.{File, StoreRecord}
use Rattle.ldm_conf.specs.Causes.{IsIn}
use Rattle.ldm_pqact_conf.specs.declared.fault.PqactFault.{PqactFault}
use Rattle.ldm_pqact_conf.specs.Entries.{EntryView, pqact_entries}
use Rattle.ldm_command_files.specs.declared.pqact_file.EntriesNotTaken.{EntriesNotTaken}
use Rattle.ldm_command_files.specs.declared.pqact_file.EntriesNotTaken.TheVariants.{Bad, TooLong, Store, OutOfMemory}
use Rattle.ldm_command_files.specs.PqactFiles.{CompletesEntries, FileMeans, IsAnswer, TakesEntries}
use Rattle.ldm_command_files.specs.Texts.{ReadsEntries}
use Rattle.ldm_command_files.proofs.Agreeing.{same_bytes}
use Rattle.ldm_command_files.proofs.Keeping.{Keeps, keeps_all, keeps_failed, keeps_long, long_none}

pub entries_keep : (result : Result (List EntryView) EntriesNotTaken) (path : List ℕ) (old new : StoreRecord) → TakesEntries result path old new → Keeps old new
entries_keep (Ok entries) path old new takes = keeps_all old new takes.1
entries_keep (Err (Bad fault)) path old new takes = keeps_all old new takes.2
entries_keep (Err TooLong) path old new takes = keeps_long path old new takes
entries_keep (Err Store) path old new takes = keeps_failed old new takes
entries_keep (Err OutOfMemory) path old new takes = keeps_all old new takes

-- the bytes of the file came
pub takes_entries : (result : Result (List EntryView) EntriesNotTaken) (path bytes : List ℕ) (old new : StoreRecord) → IsIn old (record { path = path; bytes = bytes }) → new ≡ old
    → ReadsEntries result bytes → TakesEntries result path old new
takes_entries (Ok entries) path bytes old new is_in same reads = (record { bytes = bytes; came = is_in; means = reads }, same)
takes_entries (Err (Bad fault)) path bytes old new is_in same reads = (record { bytes = bytes; came = is_in; means = reads.0 }, reads.1, same)
takes_entries (Err TooLong) path bytes old new is_in same reads = absurd reads
takes_entries (Err Store) path bytes old new is_in same reads = absurd reads
takes_entries (Err OutOfMemory) path bytes old new is_in same reads = same

module _ (path : List ℕ) (old new : StoreRecord) (files : List File) (told : old.files ≡ Some files) where
  -- the text under a path has one meaning
  one_meaning : (a b : Result (List EntryView) PqactFault) → FileMeans old path a → FileMeans old path b → a ≡ b
  one_meaning a b has_a has_b = sym has_a.means ∙ ap pqact_entries (same_bytes old files told path has_a.bytes has_b.bytes has_a.came has_b.came) ∙ has_b.means

  answered_by : (result : Result (List EntryView) EntriesNotTaken) (meaning : Result (List EntryView) PqactFault) → TakesEntries result path old new → FileMeans old path meaning
      → ¬ Rose old.faults new.faults → IsAnswer meaning result ⊎ (result ≡ Err OutOfMemory)
  answered_by (Ok entries) meaning takes has still =
      inl (subst (λ (m : Result (List EntryView) PqactFault). IsAnswer m (Ok entries)) (one_meaning (Ok entries) meaning takes.0 has) refl)
  answered_by (Err (Bad fault)) meaning takes has still =
      inl (subst (λ (m : Result (List EntryView) PqactFault). IsAnswer m (Err (Bad fault))) (one_meaning (Err fault) meaning takes.0 has) refl)
  answered_by (Err TooLong) meaning takes has still = absurd (long_none path has.bytes old new files told takes has.came)
  answered_by (Err Store) meaning takes has still = absurd (still takes.0)
  answered_by (Err OutOfMemory) meaning takes has still = inr refl

pub entries_complete : (result : Result (List EntryView) EntriesNotTaken) (path : List ℕ) (old new : StoreRecord) → TakesEntries result path old new → CompletesEntries result path old new
entries_complete result path old new takes = λ files meaning told has still. answered_by path old new files told result meaning takes has still
