-- What becomes of the body of one product that is held: its parts, as code makes them. No caller needs this.
use Rattle.std.specs.Prelude.{◌≡◌, ℕ, ◌≤◌, List, [], length, Result, Ok, Err}
use Rattle.ldm_outside.specs.Count.{Rose}
use Rattle.ldm_outside.specs.Io.{SinkRecord, Takes, WritesFront}
use Rattle.ldm_shared.specs.declared.steps.TheConstants.{MOST_TURNS}
use Rattle.ldm_shared.specs.Passes.{PassView}
use Rattle.ldm_shared.specs.declared.reader.Held.{Held}
use Rattle.ldm_shared.specs.Reader.{Holds}
use Rattle.ldm_shared.specs.Uses.{Uses}
use Rattle.ldm_gather.specs.declared.body.WriteStop.{WriteStop}
use Rattle.ldm_gather.specs.declared.body.WriteStop.TheVariants.{SinkFault, Worn}

-- The pass, and the sink.
pub record Sight : Type 0 where
  pub pass : PassView
  pub sink : SinkRecord

abbrev pub sight_of : PassView → SinkRecord → Sight
sight_of pass sink = record { pass = pass; sink = sink }

-- The cursor was read by, and these bytes were written.
pub record Writes (k : ℕ) (bytes : List ℕ) (old new : Sight) : Type 0 where
  pub uses : Uses k old.pass new.pass []
  pub written : Takes old.sink bytes new.sink
  pub kept : old.sink.faults ≤ new.sink.faults

-- why a front was written alone
abbrev pub WriteCause : WriteStop → (old new : Sight) → Type 0
WriteCause SinkFault old new = Rose old.sink.faults new.sink.faults
WriteCause Worn old new = length new.pass.seen ≡ MOST_TURNS

pub record WritesPart (why : WriteStop) (k : ℕ) (bytes : List ℕ) (old new : Sight) : Type 0 where
  pub uses : Uses k old.pass new.pass []
  pub front : WritesFront old.sink bytes new.sink
  pub kept : old.sink.faults ≤ new.sink.faults
  pub cause : WriteCause why old new

-- Bytes of the body of a product that is held.
pub record Part : Type 0 where
  pub held : Held
  pub body : List ℕ
  pub bytes : List ℕ

abbrev pub part_of : Held → (body bytes : List ℕ) → Part
part_of held body bytes = record { held = held; body = body; bytes = bytes }

-- these were read and written, and the product is held still; or a front of them was written
abbrev pub Reads : Result (Unit {0}) WriteStop → ℕ → Part → (old new : Sight) → Type 0
Reads (Ok read) k part old new = Writes k part.bytes old new × Holds new.pass k part.held part.body
Reads (Err why) k part old new = WritesPart why k part.bytes old new
