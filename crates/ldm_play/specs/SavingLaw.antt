-- The law of the queue, of what a play writes that goes on with the queue of a file.
use Rattle.std.specs.Prelude.{◌≡◌, ◌⊎◌, ℕ, true, List, IfSome}
use Rattle.ldm_disk.specs.Told.{FileRecord, DiskRecord}
use Rattle.ldm_model.specs.History.{IsLegal, after}
use Rattle.ldm_model.specs.declared.event.Entry.{Entry}
use Rattle.ldm_book.specs.View.{BookView}
use Rattle.ldm_book.specs.Stands.{StandsFor}
use Rattle.ldm_status.specs.Streams.{IsUntouched}
use Rattle.ldm_play.specs.Law.{WritesLawfulFrom}
use Rattle.ldm_play.specs.OnBook.{play_from}
use Rattle.ldm_play.specs.Files.{IsImageOf}
use Rattle.ldm_play.specs.Outside.{OutsideRecord}

-- a file that might be so has the image of that queue, where the disk tells it
abbrev pub HasImage : BookView → DiskRecord → Type 0
HasImage opened disk = IfSome disk.file (λ (file : FileRecord). (bytes : List ℕ) × (file.may_leave bytes ≡ true) × IsImageOf bytes opened)

-- Whatever legal history led to the state of the queue that was opened: its calls, and those that the lines resolve to, with their
-- replies, are a history that obeys the law of the queue, and its answers are written.
pub record GoesOnLawful (old new : OutsideRecord) : Type 0 where
  pub opened : BookView
  pub is_image : HasImage opened old.disk
  pub lawful : (arena slots : ℕ) (history : List Entry) → IsLegal arena slots history → StandsFor opened (after arena slots history)
      → WritesLawfulFrom (record { arena = arena; slots = slots }) (play_from (after arena slots history) history) old.streams new.streams

-- What `resume` writes obeys the law. Without a queue or without memory nothing is read or written.
abbrev pub ObeysResumeLaw : OutsideRecord → OutsideRecord → Type 0
ObeysResumeLaw old new = IsUntouched old.streams new.streams ⊎ GoesOnLawful old new
