-- What it comes to that a product is given: the calls that read its body, and the messages that carry it.
use Rattle.std.specs.Prelude.{◌≡◌, ℕ, List, [], ◌∷◌, ◌++◌, length, Result, Ok, Err}
use Rattle.ldm_shared.specs.Passes.{PassView, Makes}
use Rattle.ldm_shared.specs.declared.steps.TheConstants.{MOST_TURNS}
use Rattle.ldm_shared.specs.declared.reader.Held.{Held}
use Rattle.ldm_shared.specs.Reader.{HoldsProduct}
use Rattle.ldm_sender.specs.declared.end.SendEnd.{SendEnd}
use Rattle.ldm_sender.specs.declared.end.SendEnd.TheVariants as end
use Rattle.ldm_sender.specs.declared.standing.Standing.{Standing}
use Rattle.ldm_sender.specs.Stopping.{KeepsCursor, StopsSending}
use Rattle.ldm_upstream.specs.declared.lent.Part.{Part}
use Rattle.ldm_upstream.specs.Blocks.{blocks}
use Rattle.ldm_upstream.specs.Turn.{Given, Whole, last_of, after_handling}
use Rattle.ldm_sender.specs.Calls.{later_call}
use Rattle.ldm_sender.specs.Deeds.{Deed}
use Rattle.ldm_upstream.specs.ProductDeeds.{part_of, read_entry, reading_all, handling_deed, block_deed, blocks_deed}
use Rattle.ldm_sender.specs.Does.{SendingMoment, Does, Breaks}

-- a product that is held, with its body
abbrev pub given_of : Held → List ℕ → Given
given_of held body = record { n = held.n; time = held.time; product = record { info = held.info; body = body } }

-- it is held by the cursor
abbrev pub HoldsGiven : PassView → ℕ → Given → Type 0
HoldsGiven pass k given = HoldsProduct pass k given.n given.time given.product

-- The giving of a product broke off in this deed.
pub record BreaksOff (why : SendEnd) (k : ℕ) (old new : SendingMoment) (deed : Deed) : Type 0 where
  pub breaks : Breaks [] old new deed
  pub cause : StopsSending why old new
  pub cursor : KeepsCursor why new.pass k

-- The deed was done, and the product is held still.
pub record GoesOn (k : ℕ) (given : Given) (old new : SendingMoment) (deed : Deed) : Type 0 where
  pub does : Does [] old new deed
  pub holds : HoldsGiven new.pass k given

-- ---- a part of a body, and a whole one

-- a part of the body was read and appended
pub record AppendsPart (k : ℕ) (given : Given) (offset : ℕ) (part : List ℕ) (old new : PassView)
    (out out' : List ℕ) : Type 0 where
  pub makes : Makes old new (read_entry old.actor k offset part ∷ [])
  pub appended : out' ≡ out ++ part
  pub holds : HoldsGiven new k given

-- no call was made: the queue has had all its calls, or memory is missing
abbrev pub FailsToRead : SendEnd → PassView → PassView → Type 0
FailsToRead end.Worn old new = Makes old new [] × (length new.seen ≡ MOST_TURNS)
FailsToRead end.OutOfMemory old new = new ≡ old
FailsToRead _ old new = ⊥

abbrev pub ReadsPart : Result (Unit {0}) SendEnd → ℕ → Given → ℕ → List ℕ → PassView → PassView → List ℕ → List ℕ
    → Type 0
ReadsPart (Ok done) k given offset part old new out out' = AppendsPart k given offset part old new out out'
ReadsPart (Err why) k given offset part old new out out' = FailsToRead why old new

abbrev pub ReadsAll : Result (Unit {0}) SendEnd → ℕ → Given → SendingMoment → SendingMoment → Type 0
ReadsAll (Ok done) k given old new = GoesOn k given old new (reading_all old.pass.actor k given.product.body)
ReadsAll (Err why) k given old new = BreaksOff why k old new (reading_all old.pass.actor k given.product.body)

-- ---- a product that goes whole

abbrev pub GivesWhole : Result (Unit {0}) SendEnd → ℕ → Given → Standing → Standing → SendingMoment → SendingMoment → Type 0
GivesWhole (Ok done) k given standing standing' old new =
    GoesOn k given old new (handling_deed old.pass.actor k standing.next given (Whole standing'.sent_at))
    × (standing' ≡ after_handling standing given (Whole standing'.sent_at))
GivesWhole (Err why) k given standing standing' old new =
    BreaksOff why k old new (handling_deed old.pass.actor k standing.next given (Whole standing'.sent_at))

-- ---- a product that goes in blocks

-- a block, which is that part of the body
pub record Block : Type 0 where
  pub offset : ℕ
  pub number : ℕ
  pub bytes : List ℕ

abbrev pub block_of : Part → List ℕ → Block
block_of part body = record { offset = part.offset; number = part.number; bytes = part_of part.offset part.len body }

abbrev pub one_block_deed : ℕ → ℕ → ℕ → Given → Block → ℕ → Deed
one_block_deed actor k next given block at =
    block_deed actor k next given.product.info.signature block.offset block.number block.bytes at

abbrev pub GivesBlock : Result (Unit {0}) SendEnd → ℕ → Given → Block → Standing → Standing → SendingMoment → SendingMoment → Type 0
GivesBlock (Ok done) k given block standing standing' old new =
    GoesOn k given old new (one_block_deed old.pass.actor k standing.next given block standing'.sent_at)
    × (standing'.next ≡ later_call standing.next 1)
GivesBlock (Err why) k given block standing standing' old new =
    BreaksOff why k old new (one_block_deed old.pass.actor k standing.next given block standing'.sent_at)

-- All blocks were given, and after each the clock answered.
pub record GaveBlocks (k : ℕ) (given : Given) (standing standing' : Standing) (old new : SendingMoment) : Type 0 where
  pub blocks_at : List ℕ
  pub each : length blocks_at ≡ length (blocks given.product.body)
  pub goes_on : GoesOn k given old new (blocks_deed old.pass.actor k standing.next given blocks_at)
  pub next : standing'.next ≡ later_call standing.next (length (blocks given.product.body))
  pub sent_at : standing'.sent_at ≡ last_of standing.sent_at blocks_at

-- It broke off: the answers that did not come are any.
pub record BreaksInBlocks (why : SendEnd) (k : ℕ) (given : Given) (standing : Standing)
    (old new : SendingMoment) : Type 0 where
  pub blocks_at : List ℕ
  pub each : length blocks_at ≡ length (blocks given.product.body)
  pub breaks_off : BreaksOff why k old new (blocks_deed old.pass.actor k standing.next given blocks_at)

abbrev pub GivesBlocks : Result (Unit {0}) SendEnd → ℕ → Given → Standing → Standing → SendingMoment → SendingMoment → Type 0
GivesBlocks (Ok done) k given standing standing' old new = GaveBlocks k given standing standing' old new
GivesBlocks (Err why) k given standing standing' old new = BreaksInBlocks why k given standing old new
