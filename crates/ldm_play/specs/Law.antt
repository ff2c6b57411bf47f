-- The law of the queue, of what a play writes.
use Rattle.std.specs.Prelude.{◌≡◌, ◌⊎◌, ℕ, List, ◌++◌}
use Rattle.ldm_outside.specs.Count.{Rose}
use Rattle.ldm_outside.specs.Io.{Gives, Takes, WritesFront}
use Rattle.ldm_status.specs.Streams.{StreamsRecord, IsUntouched}
use Rattle.ldm_script.specs.Lines.{lines_of}
use Rattle.ldm_script.specs.Resolve.{Playing, new_play}
use Rattle.ldm_model.specs.Lawful.{IsLawful}
use Rattle.ldm_play.specs.Ending.{Size}
use Rattle.ldm_play.specs.Play.{play}

-- The answers to the first lines of a script are written: all of them, or a front where the sink failed. The calls before the
-- play, and those that these lines resolve to, with their replies, are a history that obeys the law of the queue.
pub record WritesLawfulFrom (size : Size) (p : Playing) (old new : StreamsRecord) : Type 0 where
  pub script : List ℕ
  pub taken : Gives old.source script new.source
  pub lines : List (List ℕ)
  pub rest : List (List ℕ)
  pub first : lines ++ rest ≡ lines_of script
  pub lawful : IsLawful size.arena size.slots (play 1 p lines).playing.history
  pub front : WritesFront old.sink (play 1 p lines).text new.sink
  pub whole : ¬ (Rose old.sink.faults new.sink.faults) → Takes old.sink (play 1 p lines).text new.sink

-- so it is on a new queue of that size
abbrev pub WritesLawful : Size → StreamsRecord → StreamsRecord → Type 0
WritesLawful size old new = WritesLawfulFrom size (new_play size.arena size.slots) old new

-- What a play writes obeys the law. Without a queue or without memory nothing is read or written.
abbrev pub ObeysPlayLaw : Size → StreamsRecord → StreamsRecord → Type 0
ObeysPlayLaw size old new = IsUntouched old new ⊎ WritesLawful size old new
