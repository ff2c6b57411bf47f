-- What is committed where a queue had no more.
use Rattle.std.proofs.Common.{◌≡◌, ℕ, ◌+◌, ◌-◌, ◌≤◌, List, [], ◌∷◌, refl, subst, arith}
use Rattle.std.specs.Prelude.{IfSome, None, OnOk, Some, Result, Ok, Err}
use Rattle.ldm_disk.specs.Told.{DiskRecord, IsConsistent}
use Rattle.ldm_outside.specs.Io.{SinkRecord}
use Rattle.ldm_shared.specs.Passes.{IsSamePass, PassView}
use Rattle.ldm_journal.specs.declared.journal.Journal.{Journal}
use Rattle.ldm_journal.specs.Runs.{Commit, Content, Event}
use Rattle.ldm_recorder.specs.declared.end.RecordEnd.{RecordEnd}
use Rattle.ldm_recorder.specs.declared.recorder.Recorder.{Recorder}
use Rattle.ldm_recorder.specs.Lines.{AreLasts, note_of, with_lasts}
use Rattle.ldm_recorder.specs.Turns.{Who}
use Rattle.ldm_recorder.specs.Recording.{sight_at, sight_of, who_of}
use Rattle.ldm_recorder.specs.Saving.{Kit, SavesBy, kit_of}
use Rattle.ldm_recorder.specs.Catching.{CommitsAt, IsSameButLasts}
use Rattle.ldm_recorder.proofs.Coursing.{who_same}
use Rattle.ldm_recorder.proofs.Keeping.{nothing_to_commit}
use Rattle.ldm_recorder.proofs.Knowing.{but_lasts}

pub saves_next : (r : Result (Unit {0}) RecordEnd) (events : Content → List Event) (old new : Kit) → SavesBy r events old new → OnOk r (new.marks.next ≡ old.marks.next)
saves_next (Ok done) events old new saves = saves.1
saves_next (Err why) events old new saves = tt

-- nothing was appended, and the disk was not called
pub commits_none : (who : Who) (at : ℕ) (r : Recorder) (pass : PassView) (disk : DiskRecord) (log : SinkRecord)
    → r.journal.marks.used + r.journal.marks.appended ≤ r.journal.marks.ring → r.journal.marks.appended ≡ 0 → IfSome disk.file IsConsistent
    → CommitsAt (Ok tt) who at (sight_of pass r disk log) (sight_of pass r disk log)
commits_none who at r pass disk log sound none consistent = record {
  lasts = None;
  due = none;
  told = tt;
  saves = (record { made = nothing_to_commit r.journal.marks disk.file sound none consistent; ring = refl; faults = omega arith }, refl);
}

-- all was committed, with numbers of the lines
pub commits_lasts : (result : Result (Unit {0}) RecordEnd) (at : ℕ) (r t : Recorder) (pass : PassView) (disk disk' : DiskRecord) (log : SinkRecord) (lasts note : List ℕ)
    → AreLasts r.base at pass.seen r.lines.items lasts → note ≡ note_of (with_lasts r.lines.items lasts)
    → SavesBy result (λ start. Commit (r.journal.marks.ring - 0) note ∷ []) (kit_of r.journal.marks disk) (kit_of t.journal.marks disk')
    → CommitsAt result (who_of pass r) at (sight_of pass r disk log) (sight_of pass t disk' log)
commits_lasts result at r t pass disk disk' log lasts note told is saves = record {
  lasts = Some lasts;
  due = tt;
  told = told;
  saves =
      subst
      (λ (n : List ℕ). SavesBy result (λ start. Commit (r.journal.marks.ring - 0) n ∷ []) (kit_of r.journal.marks disk) (kit_of t.journal.marks disk')) is saves;
}

-- the lines were asked before
pub commits_asked : (result : Result (Unit {0}) RecordEnd) (at : ℕ) (p q : PassView) (r s t : Recorder) (disk disk' : DiskRecord) (log : SinkRecord) → IsSamePass p q → IsSameButLasts r s
    → CommitsAt result (who_of q s) at (sight_of q s disk log) (sight_of q t disk' log) → CommitsAt result (who_of p r) at (sight_of p r disk log) (sight_of q t disk' log)
commits_asked result at p q r s t disk disk' log of same commits =
    let mine = subst (λ (w : Who). CommitsAt result w at (sight_of q s disk log) (sight_of q t disk' log)) (who_same p q r s of (but_lasts r s same)) commits in
    let here = subst (λ (j : Journal). CommitsAt result (who_of p r) at (sight_at q j.marks disk log) (sight_of q t disk' log)) same.journal mine in
    record { lasts = here.lasts; due = here.due; told = here.told; saves = here.saves }
