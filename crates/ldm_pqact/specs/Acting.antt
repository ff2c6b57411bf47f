-- What acting on the products of a cursor comes to, at each of its ends.
use Rattle.std.specs.Prelude.{◌≡◌, ℕ, ◌≤◌, List, [], ◌∷◌, ◌++◌, length, Option, None, Result, Ok, Err}
use Rattle.std.specs.List.{flat_map}
use Rattle.ldm_model.specs.declared.event.Reply.{Reply}
use Rattle.ldm_model.specs.declared.event.Reply.TheVariants as reply
use Rattle.ldm_outside.specs.Count.{Rose}
use Rattle.ldm_outside.specs.Io.{SinkRecord, Takes}
use Rattle.ldm_shared.specs.declared.steps.TheConstants.{MOST_TURNS}
use Rattle.ldm_shared.specs.Passes.{PassView}
use Rattle.ldm_shared.specs.Reader.{HasCursor}
use Rattle.ldm_pqact_conf.specs.Entries.{EntryView}
use Rattle.ldm_actions.specs.Outputs.{Standing}
use Rattle.ldm_pqact.specs.declared.end.ActEnd.{ActEnd}
use Rattle.ldm_pqact.specs.declared.end.ActEnd.TheVariants as end
use Rattle.ldm_pqact.specs.Carried.{BreaksOff, Stands}
use Rattle.ldm_shared.specs.Givens.{Turn, products_of}
use Rattle.ldm_shared.specs.Uses.{AreRows, Uses}
use Rattle.ldm_pqact.specs.Work.{Parted, Work, only_in_hand, replies_of, with_answers, work_of}

-- The pass, the outputs with the store and the launcher, and the log.
pub record Sight : Type 0 where
  pub pass : PassView
  pub standing : Standing
  pub log : SinkRecord

abbrev pub sight_of : PassView → Standing → SinkRecord → Sight
sight_of pass standing log = record { pass = pass; standing = standing; log = log }

-- Just this was done: the cursor was used and its steps were answered so, all these actions stand, and the log has these lines.
pub record Does (k : ℕ) (work : Work) (old new : Sight) : Type 0 where
  pub uses : Uses k old.pass new.pass work.answers
  pub carried : Stands work.deeds old.standing new.standing
  pub logged : Takes old.log work.lines new.log
  pub log_faults : old.log.faults ≤ new.log.faults

-- The cursor is there still, so that it can be closed; of a queue that has had all its calls nothing is said.
abbrev pub KeepsCursor : ActEnd → PassView → ℕ → Type 0
KeepsCursor end.Worn pass k = Unit {0}
KeepsCursor _ pass k = (held : Option ℕ) × HasCursor pass k held

-- Why actions are broken off. Want of memory may come at any time. Those of faults are counts.
abbrev pub CauseOf : ActEnd → PassView → Type 0
CauseOf end.Stopped pass = ⊥
CauseOf end.AllBusy pass = ⊥
CauseOf end.Worn pass = length pass.seen ≡ MOST_TURNS
CauseOf _ pass = Unit {0}

-- the count of the log
abbrev pub LogCount : ActEnd → SinkRecord → SinkRecord → Type 0
LogCount end.LogFault old new = Rose old.faults new.faults
LogCount _ old new = old.faults ≤ new.faults

-- The log has all of the earlier lines, and a front of these.
pub record LogsFront (earlier lines : List ℕ) (old new : SinkRecord) : Type 0 where
  pub front : List ℕ
  pub rest : List ℕ
  pub are : front ++ rest ≡ lines
  pub logged : Takes old (earlier ++ front) new

-- It broke off: the earlier work stands whole. Of the work in hand some actions stand whole and of the next a part, and the log has a front
-- of its lines.
pub record Breaks (why : ActEnd) (k : ℕ) (work : Parted) (old new : Sight) : Type 0 where
  pub uses : Uses k old.pass new.pass (replies_of work)
  pub carried : BreaksOff why work.whole.deeds work.in_hand.deeds old.standing new.standing
  pub logged : LogsFront work.whole.lines work.in_hand.lines old.log new.log
  pub log_count : LogCount why old.log new.log
  pub cause : CauseOf why new.pass
  pub cursor : KeepsCursor why new.pass k

-- the cursor came to the end, and holds nothing; or it broke off
abbrev pub EndsSo : ActEnd → (k : ℕ) → Parted → (old new : Sight) → Type 0
EndsSo end.Stopped k work old new = Does k (with_answers work.whole work.in_hand.answers) old new × HasCursor new.pass k None
EndsSo why k work old new = Breaks why k work old new

-- the last step was answered that the cursor is at the end of the queue, which had so many products
abbrev pub last_answer : ActEnd → ℕ → List Reply
last_answer end.Stopped at = reply.End at ∷ []
last_answer _ at = []

-- Turns up to an end: those that are whole, the one in hand where it broke off, and how many products the queue had had where the cursor
-- came to its end.
pub record Run : Type 0 where
  pub turns : List Turn
  pub in_hand : List Turn
  pub at : ℕ

-- at most one turn is in hand, and none at the end of the queue
abbrev pub IsInHand : ActEnd → List Turn → Type 0
IsInHand end.Stopped in_hand = in_hand ≡ []
IsInHand _ in_hand = length in_hand ≤ 1

-- what entries make of them
abbrev pub parted_of : ActEnd → List EntryView → Run → Parted
parted_of why entries run = record {
  whole = work_of entries run.turns;
  in_hand = with_answers (work_of entries run.in_hand) (last_answer why run.at);
}

-- Entries acted on the products of a cursor, up to an end. Each product is the one that was admitted under its number.
pub record ActsOn (why : ActEnd) (entries : List EntryView) (k : ℕ) (old new : Sight) : Type 0 where
  pub run : Run
  pub is_in_hand : IsInHand why run.in_hand
  pub ends : EndsSo why k (parted_of why entries run) old new
  pub rows : AreRows new.pass (products_of (run.turns ++ run.in_hand))

-- They acted on some, and the cursor can go on.
pub record ActsSome (entries : List EntryView) (k : ℕ) (old new : Sight) : Type 0 where
  pub turns : List Turn
  pub does : Does k (work_of entries turns) old new
  pub rows : AreRows new.pass (products_of turns)
  pub cursor : HasCursor new.pass k None

-- by what a turn answered
abbrev pub TurnsBy : Result (Unit {0}) ActEnd → List EntryView → (k : ℕ) → (old new : Sight) → Type 0
TurnsBy (Ok some) entries k old new = ActsSome entries k old new
TurnsBy (Err why) entries k old new = ActsOn why entries k old new

-- ---- what became of a product that is held

-- It was let go.
pub record LetsGo (k : ℕ) (work : Work) (old new : Sight) : Type 0 where
  pub does : Does k work old new
  pub cursor : HasCursor new.pass k None

abbrev pub HandlesBy : Result (Unit {0}) ActEnd → (k : ℕ) → Work → (old new : Sight) → Type 0
HandlesBy (Ok gone) k work old new = LetsGo k work old new
HandlesBy (Err why) k work old new = Breaks why k (only_in_hand work) old new
