-- How the crowd of a script ends, and what stands then.
use Rattle.std.specs.Prelude.{◌≡◌, ℕ, List, Result, Ok, Err}
use Rattle.ldm_outside.specs.Count.{Rose}
use Rattle.ldm_outside.specs.Io.{SourceRecord, Takes, WritesFront}
use Rattle.ldm_status.specs.Streams.{StreamsRecord, IsUntouched}
use Rattle.ldm_model.specs.declared.event.Entry.{Entry}
use Rattle.ldm_script.specs.Order.{Asked}
use Rattle.ldm_model.specs.Lawful.{IsLawful}
use Rattle.ldm_book.specs.Limits.{IsGoodArena, IsGoodSlots}
use Rattle.ldm_shared.specs.Limits.{IsGoodPasses, IsFaultOf}
use Rattle.ldm_crowd.specs.Script.{script_of}
use Rattle.ldm_crowd.specs.Interleaving.{IsInterleaving, crowd_text}
use Rattle.ldm_crowd.specs.declared.orders.OrdersFault.{OrdersFault}
use Rattle.ldm_crowd.specs.declared.orders.OrdersFault.TheVariants as orders_fault
use Rattle.ldm_crowd.specs.declared.crowd_command.CrowdFault.{CrowdFault}
use Rattle.ldm_crowd.specs.declared.crowd_command.CrowdFault.TheVariants as stop
use Rattle.ldm_crowd.specs.declared.crowd_command.PlayFault.{PlayFault}
use Rattle.ldm_crowd.specs.declared.crowd_command.PlayFault.TheVariants as unplayed
use Rattle.ldm_status.specs.WholeScript.{TakesWhole, TakesPart}

-- what a crowd is made with
pub record CrowdSize : Type 0 where
  -- bytes of the arena
  pub arena : ℕ
  pub slots : ℕ
  -- how many actors there are, each on a worker of its own
  pub workers : ℕ

-- there is such a queue, with a pass for each worker
pub record IsGoodSize (size : CrowdSize) : Type 0 where
  pub arena : IsGoodArena size.arena
  pub slots : IsGoodSlots size.slots
  pub workers : IsGoodPasses size.workers

-- What a crowd answers to a text: there is one history of all calls, in which each worker made the calls of its actor's lines,
-- in order, and no others; it obeys the law of the queue; and the answers are those of that history.
pub record IsAnsweredBy (size : CrowdSize) (text answers : List ℕ) : Type 0 where
  pub script : List (List Asked)
  pub read : script_of size.workers text ≡ Ok script
  pub history : List Entry
  pub lawful : IsLawful size.arena size.slots history
  pub interleaving : IsInterleaving script history
  pub answers_are : answers ≡ crowd_text size.arena size.slots script history

-- Why a text was not played to its end.
abbrev pub IsUnplayed : PlayFault → CrowdSize → List ℕ → Type 0
-- a line is outside the grammar, or of an actor without a worker
IsUnplayed (unplayed.BadLine line column) size text = script_of size.workers text ≡ Err (orders_fault.BadLine line column)
IsUnplayed unplayed.OutOfMemory size text = Unit {0}

-- A script was taken whole and played, and these are the answers to it.
pub record PlaysWhole (size : CrowdSize) (answers : List ℕ) (old new : SourceRecord) : Type 0 where
  pub good : IsGoodSize size
  pub text : List ℕ
  pub taken : TakesWhole text old new
  pub answered : IsAnsweredBy size text answers

-- A script was taken whole, and not played to its end.
pub record LeavesUnplayed (why : PlayFault) (size : CrowdSize) (old new : SourceRecord) : Type 0 where
  pub good : IsGoodSize size
  pub text : List ℕ
  pub taken : TakesWhole text old new
  pub unplayed : IsUnplayed why size text

-- Why a crowd stopped, and what was read and written then.
abbrev pub CrowdStops : CrowdFault → CrowdSize → StreamsRecord → StreamsRecord → Type 0
-- there is no such queue or no memory for it, and nothing was read or written
CrowdStops (stop.NotMade fault) size old new = IsFaultOf size.arena size.slots size.workers fault × IsUntouched old new
-- the script was not taken whole, and nothing was written
CrowdStops (stop.ScriptFault why) size old new = IsGoodSize size × TakesPart why old.source new.source × (new.sink ≡ old.sink)
-- the script was not played to its end, and nothing was written
CrowdStops (stop.PlayFault why) size old new = LeavesUnplayed why size old.source new.source × (new.sink ≡ old.sink)
-- the sink failed, and a front of the answers was written
CrowdStops stop.SinkFault size old new =
    (answers : List ℕ) × PlaysWhole size answers old.source new.source × Rose old.sink.faults new.sink.faults × WritesFront old.sink answers new.sink

-- How a crowd of that size ends.
abbrev pub CrowdEnds : Result (Unit {0}) CrowdFault → CrowdSize → StreamsRecord → StreamsRecord → Type 0
-- the script was played, and all answers are written
CrowdEnds (Ok done) size old new = (answers : List ℕ) × PlaysWhole size answers old.source new.source × Takes old.sink answers new.sink
CrowdEnds (Err why) size old new = CrowdStops why size old new

-- what a fault of reading a script comes to
abbrev pub unplayed_of : OrdersFault → PlayFault
unplayed_of (orders_fault.BadLine line column) = unplayed.BadLine line column
unplayed_of orders_fault.OutOfMemory = unplayed.OutOfMemory
