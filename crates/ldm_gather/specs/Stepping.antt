-- What steps of the cursor come to, with each product that it gives handed to a taker.
use Rattle.std.specs.Prelude.{◌≡◌, ℕ, ◌+◌, ◌<◌, ◌≤◌, List, [], ◌∷◌, ◌++◌, length, map, Option, Some, None}
use Rattle.ldm_model.specs.declared.event.Reply.{Reply}
use Rattle.ldm_model.specs.declared.event.Reply.TheVariants as reply
use Rattle.ldm_outside.specs.Count.{Rose}
use Rattle.ldm_outside.specs.Io.{SinkRecord, Takes}
use Rattle.ldm_shared.specs.declared.steps.TheConstants.{MOST_TURNS}
use Rattle.ldm_shared.specs.Passes.{PassView}
use Rattle.ldm_shared.specs.Reader.{HasCursor}
use Rattle.ldm_gather.specs.declared.taker.Taken.{Taken}
use Rattle.ldm_gather.specs.declared.taker.EachStop.{EachStop}
use Rattle.ldm_gather.specs.declared.taker.EachStop.TheVariants.{ByTaker, LogFault, Worn}
use Rattle.ldm_gather.specs.declared.each.Stepped.{Stepped}
use Rattle.ldm_gather.specs.declared.each.Stepped.TheVariants.{On, AtEnd, Enough, Stopped}
use Rattle.ldm_shared.specs.Givens.{Given, Turn, count_of, products_of, turn_reply}
use Rattle.ldm_gather.specs.Losses.{lines_of}
use Rattle.ldm_gather.specs.Taking.{Hands, TakesAll, TakesLast}
use Rattle.ldm_shared.specs.Uses.{AreRows, Uses}

-- How many products are left to be given, where there is a count; the taker with what it is lent; the pass; and the log.
pub record Sight (T A : Type 0) : Type 0 where
  pub left : Option ℕ
  pub hands : Hands T A
  pub pass : PassView
  pub log : SinkRecord

abbrev pub sight_of : {T A : Type 0} → Option ℕ → Hands T A → PassView → SinkRecord → Sight T A
sight_of left hands pass log = record { left = left; hands = hands; pass = pass; log = log }

-- A cursor, and the name by which its losses are logged.
pub record Tap : Type 0 where
  pub name : List ℕ
  pub k : ℕ

abbrev pub tap_of : List ℕ → ℕ → Tap
tap_of name k = record { name = name; k = k }

-- a front of some bytes
pub record IsFront (front all : List ℕ) : Type 0 where
  pub rest : List ℕ
  pub is : front ++ rest ≡ all

-- So many products were counted off, and some are left, where there is a count.
abbrev pub CountsOff : Option ℕ → ℕ → Option ℕ → Type 0
CountsOff None n None = Unit {0}
CountsOff (Some left) n (Some after) = (left ≡ n + after) × (0 < after)
CountsOff None n (Some after) = ⊥
CountsOff (Some left) n None = ⊥

-- a product was counted off
abbrev pub CountsOne : Stepped → (left after : Option ℕ) → Type 0
CountsOne On left after = CountsOff left 1 after
CountsOne Enough left after = left ≡ Some 1
CountsOne AtEnd left after = ⊥
CountsOne (Stopped why) left after = ⊥

-- it does not go on
abbrev pub IsEnd : Stepped → Type 0
IsEnd On = ⊥
IsEnd AtEnd = Unit {0}
IsEnd Enough = Unit {0}
IsEnd (Stopped why) = Unit {0}

abbrev pub IfStepsOn : Stepped → Type 0 → Type 0
IfStepsOn On P = P
IfStepsOn AtEnd P = P
IfStepsOn Enough P = Unit {0}
IfStepsOn (Stopped why) P = Unit {0}

module _ {T A : Type 0} where
  -- Just this was done with the queue and the log: the cursor was used and its steps were answered so, and the log has these lines. Each
  -- product of these turns is the one that was admitted under its number.
  pub record Does (tap : Tap) (answers : List Reply) (turns : List Turn) (lines : List ℕ) (old new : Sight T A) : Type 0 where
    pub uses : Uses tap.k old.pass new.pass answers
    pub logged : Takes old.log lines new.log
    pub rows : AreRows new.pass (products_of turns)
    pub log_kept : old.log.faults ≤ new.log.faults

  -- Why it stopped, by counts; or the queue has had all its calls. A taker knows itself.
  abbrev pub StopCause : EachStop → Sight T A → Sight T A → Type 0
  StopCause ByTaker old new = Unit {0}
  StopCause LogFault old new = Rose old.log.faults new.log.faults
  StopCause Worn old new = length new.pass.seen ≡ MOST_TURNS

module _ {T A : Type 0} (takes : Taken → Given → Hands T A → Hands T A → Type 0) (tap : Tap) where
  -- These turns were done, whole: each product was taken, and each loss logged.
  pub record DoesAll (turns : List Turn) (more : List Reply) (old new : Sight T A) : Type 0 where
    pub does : Does tap (map turn_reply turns ++ more) turns (lines_of tap.name turns) old new
    pub taken : TakesAll takes (products_of turns) old.hands new.hands

  -- These turns were done, whole, and then it stopped, at the turn in hand, if there was one.
  pub record Breaks (why : EachStop) (turns : List Turn) (old new : Sight T A) : Type 0 where
    pub in_hand : List Turn
    pub mid : Hands T A
    pub lines : List ℕ
    pub are_front : IsFront lines (lines_of tap.name in_hand)
    pub does : Does tap (map turn_reply (turns ++ in_hand)) (turns ++ in_hand) (lines_of tap.name turns ++ lines) old new
    pub taken : TakesAll takes (products_of turns) old.hands mid
    pub last : TakesLast takes why in_hand mid new.hands
    pub cause : StopCause why old new

  -- what was done, by what it came to
  abbrev pub StepsBy : Stepped → List Turn → (old new : Sight T A) → Type 0
  -- it goes on
  StepsBy On turns old new = DoesAll turns [] old new × CountsOff old.left (count_of turns) new.left × HasCursor new.pass tap.k None
  -- the cursor is at the end of the queue, which had so many products
  StepsBy AtEnd turns old new = ((at : ℕ) × DoesAll turns (reply.End at ∷ []) old new) × CountsOff old.left (count_of turns) new.left × HasCursor new.pass tap.k None
  -- the last product of the count was taken
  StepsBy Enough turns old new = DoesAll turns [] old new × (old.left ≡ Some (count_of turns))
  StepsBy (Stopped why) turns old new = Breaks why turns old new × CountsOff old.left (count_of turns) new.left

  -- Some turns were done.
  pub record Steps (stepped : Stepped) (old new : Sight T A) : Type 0 where
    pub turns : List Turn
    pub steps : StepsBy stepped turns old new
