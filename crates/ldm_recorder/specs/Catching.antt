-- What is committed where a queue had no more. No caller needs these.
use Rattle.std.specs.Prelude.{◌≡◌, ℕ, ◌-◌, List, [], ◌∷◌, Option, Result}
use Rattle.ldm_journal.specs.Runs.{Commit}
use Rattle.ldm_recorder.specs.declared.end.RecordEnd.{RecordEnd}
use Rattle.ldm_recorder.specs.declared.recorder.Recorder.{Recorder}
use Rattle.ldm_recorder.specs.Turns.{CaughtUp, IsTold, Who, note_then}
use Rattle.ldm_recorder.specs.Recording.{Sight, TellsWhereDue}
use Rattle.ldm_recorder.specs.Saving.{SavesBy, kit_of}

-- the same recorder, but for what is known of the lines
pub record IsSameButLasts (old new : Recorder) : Type 0 where
  pub journal : new.journal ≡ old.journal
  pub reader : new.reader ≡ old.reader
  pub base : new.base ≡ old.base
  pub lines : new.lines.items ≡ old.lines.items

-- What was given was committed, with numbers of the lines, or with the note that there was.
pub record CommitsAt (result : Result (Unit {0}) RecordEnd) (who : Who) (at : ℕ) (old new : Sight) : Type 0 where
  pub lasts : Option (List ℕ)
  pub due : TellsWhereDue old.marks.appended (CaughtUp at lasts)
  pub told : IsTold new.pass.seen who (CaughtUp at lasts)
  pub saves : SavesBy result (λ start. Commit (old.marks.ring - 0) (note_then who.lines lasts start.note) ∷ [])
      (kit_of old.marks old.disk) (kit_of new.marks new.disk)
