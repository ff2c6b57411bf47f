-- What becomes of one action on a body: its parts, as code makes them.
use Rattle.std.specs.Prelude.{◌≡◌, ℕ, ◌≤◌, Bool, true, false, List, [], ◌∷◌, take, drop, Some, Result, Ok, Err}
use Rattle.ldm_outside.specs.Count.{Rose}
use Rattle.ldm_outside.specs.Io.{SinkRecord, Takes, WritesFront}
use Rattle.ldm_shared.specs.Passes.{PassView}
use Rattle.ldm_shared.specs.declared.reader.Held.{Held}
use Rattle.ldm_shared.specs.Reader.{Holds}
use Rattle.ldm_pqact_conf.specs.Entries.{EntryView}
use Rattle.ldm_pqact_match.specs.declared.chosen.Chosen.{Chosen}
use Rattle.ldm_pqact_match.specs.Choice.{choose_of}
use Rattle.ldm_actions.specs.declared.answers.Begun.{Begun}
use Rattle.ldm_actions.specs.declared.answers.Begun.TheVariants as begun
use Rattle.ldm_actions.specs.declared.answers.Done.{Done}
use Rattle.ldm_actions.specs.declared.answers.Done.TheVariants as done
use Rattle.ldm_actions.specs.Effects.{Action, ToFile, ToProgram, Start, Nothing, InHand, given}
use Rattle.ldm_actions.specs.Outputs.{HasInHand, Standing}
use Rattle.ldm_actions.specs.Parts.{IsGivenPart}
use Rattle.ldm_pqact.specs.declared.end.ActEnd.{ActEnd}
use Rattle.ldm_pqact.specs.declared.end.ActEnd.TheVariants as end
use Rattle.ldm_pqact.specs.declared.holding.Holding.{Holding}
use Rattle.ldm_pqact.specs.Acting.{CauseOf, Does, Breaks, KeepsCursor, Sight, sight_of}
use Rattle.ldm_pqact.specs.Carried.{BreaksOff, IsOfOutputs, LauncherCount, Stands, StoreCount, world_in}
use Rattle.ldm_pqact.specs.Notes.{notes_of}
use Rattle.ldm_shared.specs.Givens.{Given}
use Rattle.ldm_pqact.specs.Turns.{deeds_by}
use Rattle.ldm_shared.specs.Uses.{Uses}
use Rattle.ldm_pqact.specs.Work.{Work, only_in_hand, product_work}

-- what the beginning of an action came to
abbrev pub begun_result : Begun → Result (Unit {0}) ActEnd
begun_result begun.Ready = Ok tt
begun_result begun.StoreFault = Err end.StoreFault
begun_result begun.LaunchFault = Err end.LaunchFault
begun_result begun.OutOfMemory = Err end.OutOfMemory

-- what a further call came to
abbrev pub done_result : Done → Result (Unit {0}) ActEnd
done_result done.Ok = Ok tt
done_result done.StoreFault = Err end.StoreFault
done_result done.LaunchFault = Err end.LaunchFault

-- whether an action writes a body
abbrev pub takes_body : Action → Bool
takes_body (ToFile path options) = true
takes_body (ToProgram words options) = true
takes_body (Start words wait) = false
takes_body Nothing = false

-- what the cursor was given, with its body
abbrev pub given_of : Held → List ℕ → Given
given_of held body = record { n = held.n; time = held.time; product = record { info = held.info; body = body } }

-- The pass, and the outputs with the store and the launcher: all but the log.
pub record Lent : Type 0 where
  pub pass : PassView
  pub standing : Standing

abbrev pub lent : PassView → Standing → Lent
lent pass standing = record { pass = pass; standing = standing }

-- the same with a log
abbrev pub with_log : Lent → SinkRecord → Sight
with_log now log = sight_of now.pass now.standing log

-- ---- a product that a cursor holds

-- that is its body
abbrev pub IsHeld : PassView → Holding → List ℕ → Type 0
IsHeld pass holding body = Holds pass holding.reader.k holding.held body

-- A product that is held, and its body.
pub record Bodied : Type 0 where
  pub holding : Holding
  pub body : List ℕ

abbrev pub bodied : Holding → List ℕ → Bodied
bodied holding body = record { holding = holding; body = body }

-- The same, and the action that is in hand for it.
pub record Giving : Type 0 where
  pub of : Bodied
  pub hand : InHand

abbrev pub giving_of : Holding → List ℕ → InHand → Giving
giving_of holding body hand = record { of = bodied holding body; hand = hand }

-- ---- its body

-- The action in hand was given these bytes.
pub record GivesAll (hand : InHand) (bytes : List ℕ) (old new : Standing) : Type 0 where
  pub world : world_in new ≡ given hand bytes (world_in old)
  pub in_hand : HasInHand (Some hand) new
  pub store_faults : new.store.faults ≡ old.store.faults
  pub launcher_faults : new.launcher.faults ≡ old.launcher.faults

-- It was given a front of them.
pub record GivesPart (why : ActEnd) (hand : InHand) (bytes : List ℕ) (old new : Standing) : Type 0 where
  pub part : IsGivenPart hand bytes (world_in old) (world_in new).outside
  pub store_count : StoreCount why old new
  pub launcher_count : LauncherCount why old new

abbrev pub WritesNoLog : ActEnd → Type 0
WritesNoLog end.LogFault = ⊥
WritesNoLog _ = Unit {0}

-- They were read of a product that is held still.
pub record ReadsAll (it : Giving) (bytes : List ℕ) (old new : Lent) : Type 0 where
  pub uses : Uses it.of.holding.reader.k old.pass new.pass []
  pub holds : IsHeld new.pass it.of.holding it.of.body
  pub gives : GivesAll it.hand bytes old.standing new.standing

pub record ReadsPart (why : ActEnd) (it : Giving) (bytes : List ℕ) (old new : Lent) : Type 0 where
  pub uses : Uses it.of.holding.reader.k old.pass new.pass []
  pub gives : GivesPart why it.hand bytes old.standing new.standing
  pub cause : CauseOf why new.pass
  -- the log is not written
  pub no_log : WritesNoLog why
  pub cursor : KeepsCursor why new.pass it.of.holding.reader.k

abbrev pub Reads : Result (Unit {0}) ActEnd → Giving → List ℕ → (old new : Lent) → Type 0
Reads (Ok read) it bytes old new = ReadsAll it bytes old new
Reads (Err why) it bytes old new = ReadsPart why it bytes old new

-- a piece of so many bytes was read from that offset on, or broke off there
abbrev pub ReadsPiece : Result ℕ ActEnd → Giving → ℕ → (old new : Lent) → Type 0
ReadsPiece (Ok len) it offset old new = ReadsAll it (take len (drop offset it.of.body)) old new
ReadsPiece (Err why) it offset old new = ReadsPart why it (drop offset it.of.body) old new

-- ---- actions on it

pub record DoesHeld (it : Bodied) (deeds : List (Action × List ℕ)) (old new : Lent) : Type 0 where
  pub does : (log : SinkRecord) → Does it.holding.reader.k (product_work deeds []) (with_log old log) (with_log new log)
  pub holds : IsHeld new.pass it.holding it.body

abbrev pub DoesAll : Result (Unit {0}) ActEnd → Bodied → List (Action × List ℕ) → (old new : Lent) → Type 0
DoesAll (Ok whole) it deeds old new = DoesHeld it deeds old new
DoesAll (Err why) it deeds old new =
    (log : SinkRecord)
    → Breaks why it.holding.reader.k (only_in_hand (product_work deeds [])) (with_log old log) (with_log new log)

-- ---- an action on bytes that are at hand

abbrev pub ActsWith : Result (Unit {0}) ActEnd → Action → List ℕ → (old new : Standing) → Type 0
ActsWith (Ok whole) action bytes old new = Stands ((action, bytes) ∷ []) old new
ActsWith (Err why) action bytes old new = IsOfOutputs why × BreaksOff why [] ((action, bytes) ∷ []) old new

-- ---- what entries make of it

-- what they choose
abbrev pub chosen_of : List EntryView → Held → List Chosen
chosen_of entries held = choose_of entries held.info held.time

-- the lines of those that do nothing
abbrev pub lines_for : List EntryView → Held → List ℕ
lines_for entries held = notes_of held.info.ident (chosen_of entries held)

abbrev pub work_for : List EntryView → Held → List ℕ → Work
work_for entries held body = product_work (deeds_by body (chosen_of entries held)) (lines_for entries held)

-- This was chosen, and the log has all lines.
pub record Noted (entries : List EntryView) (held : Held) (chosen : List Chosen) (old new : SinkRecord) : Type 0 where
  pub chosen_are : chosen ≡ chosen_of entries held
  pub takes : Takes old (lines_for entries held) new
  pub faults : old.faults ≤ new.faults

-- there was no memory, and nothing was written; or the log failed behind a front of the lines
abbrev pub NotedInPart : ActEnd → List EntryView → Held → (old new : SinkRecord) → Type 0
NotedInPart end.OutOfMemory entries held old new = new ≡ old
NotedInPart end.LogFault entries held old new =
    Rose old.faults new.faults × WritesFront old (lines_for entries held) new
NotedInPart end.Stopped entries held old new = ⊥
NotedInPart end.StoreFault entries held old new = ⊥
NotedInPart end.LaunchFault entries held old new = ⊥
NotedInPart end.AllBusy entries held old new = ⊥
NotedInPart end.Worn entries held old new = ⊥
