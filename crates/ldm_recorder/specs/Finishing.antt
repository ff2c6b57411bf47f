-- What is recorded of a queue that has ended.
use Rattle.std.specs.Prelude.{◌≡◌, ℕ, ◌+◌, ◌-◌, ◌≤◌, List, [], ◌∷◌, ◌++◌, length, codes, Bool, nat_le, if◌then◌else◌, Result, Ok, Err}
use Rattle.ldm_outside.specs.Count.{Rose}
use Rattle.ldm_outside.specs.Io.{SinkRecord, Takes, WritesFront}
use Rattle.ldm_session.specs.Gaps.{gap_line}
use Rattle.ldm_model.specs.declared.event.Entry.{Entry}
use Rattle.ldm_model.specs.State.{Queued}
use Rattle.ldm_model.specs.History.{after, IsLegal}
use Rattle.ldm_book.specs.View.{BookView}
use Rattle.ldm_book.specs.Stands.{StandsFor}
use Rattle.ldm_journal.specs.Records.{Kept}
use Rattle.ldm_recorder.specs.declared.end.RecordEnd.{RecordEnd}
use Rattle.ldm_recorder.specs.declared.end.RecordEnd.TheVariants as end
use Rattle.ldm_recorder.specs.Turns.{AreNumbered, AreTold, Given, Lost, Turn, Who, Work, work_of}
use Rattle.ldm_recorder.specs.Recording.{CauseOf, DoesAll, DoesPart, Sight}
use Rattle.ldm_recorder.specs.Failing.{TellsFault}

-- The book stands for the state after a legal history of a queue.
pub record StandsAfter (book : BookView) : Type 0 where
  pub arena : ℕ
  pub slots : ℕ
  pub history : List Entry
  pub legal : IsLegal arena slots history
  pub stands : StandsFor book (after arena slots history)

-- ---- the turns that are made up for

-- a queued product, as the journal keeps it
abbrev pub kept_queued : ℕ → Queued → Kept
kept_queued base q = record { number = base + q.number; time = q.time; info = q.product.info; body = q.product.body }

-- whether it has a number or a later one
abbrev pub is_from : ℕ → Queued → Bool
is_from from q = nat_le from q.number

-- all of the numbers from one up to another are lost
abbrev pub lost_between : ℕ → ℕ → List Turn
lost_between from to = if nat_le to from then [] else Lost (to - from) from (to - 1) ∷ []

-- a queued product of a number or later: what was lost before it, and it
abbrev pub turn_left : ℕ → ℕ → Queued → List Turn
turn_left base from q = if is_from from q then lost_between from q.number ++ Given q.number (kept_queued base q) ∷ [] else []

-- the number behind it
abbrev pub behind_one : ℕ → Queued → ℕ
behind_one from q = if is_from from q then q.number + 1 else from

-- queued products, one after another
abbrev pub turns_queued : ℕ → ℕ → List Queued → List Turn
turns_queued base from [] = []
turns_queued base from (q ∷ qs) = turn_left base from q ++ turns_queued base (behind_one from q) qs

abbrev pub behind_all : ℕ → List Queued → ℕ
behind_all from [] = from
behind_all from (q ∷ qs) = behind_all (behind_one from q) qs

-- all of a queue that had admitted so many
abbrev pub turns_left : ℕ → ℕ → ℕ → List Queued → List Turn
turns_left base end from qs = turns_queued base from qs ++ lost_between (behind_all from qs) end

-- ---- the work

-- work without calls: the queue has ended
abbrev pub silent : Work → Work
silent work = record { entries = []; events = work.events; lines = work.lines }

-- Just these turns were made up for, and each is whole. What is told of lines is by what a pass has seen.
pub record MakesUp (who : Who) (turns : List Turn) (old new : Sight) : Type 0 where
  pub numbered : AreNumbered who.base turns
  pub told : AreTold new.pass.seen who turns
  pub all : DoesAll (silent (work_of who turns)) old new

-- Of these turns a front is whole, and at most one broke off.
pub record BreaksOffIn (why : RecordEnd) (who : Who) (turns : List Turn) (old new : Sight) : Type 0 where
  pub whole : List Turn
  pub in_hand : List Turn
  pub behind : List Turn
  pub are : whole ++ (in_hand ++ behind) ≡ turns
  pub one : length in_hand ≤ 1
  pub mid : Sight
  pub does : MakesUp who whole old mid
  pub numbered : AreNumbered who.base in_hand
  pub told : AreTold new.pass.seen who in_hand
  pub part : DoesPart (silent (work_of who in_hand)) mid new
  pub cause : CauseOf why in_hand mid new

abbrev pub MakesUpTo : Result (Unit {0}) RecordEnd → Who → List Turn → Sight → Sight → Type 0
MakesUpTo (Ok done) who turns old new = MakesUp who turns old new
MakesUpTo (Err why) who turns old new = BreaksOffIn why who turns old new

-- The same, and the log was told where the journal failed.
abbrev pub FinishesBy : Result (Unit {0}) RecordEnd → Who → List Turn → Sight → Sight → Type 0
FinishesBy (Ok done) who turns old new = MakesUp who turns old new
FinishesBy (Err why) who turns old new =
    (log : SinkRecord) × BreaksOffIn why who turns old (record new { log = log }) × TellsFault why log new.log

-- that it ended well, but for a number
abbrev pub without_number : Result ℕ RecordEnd → Result (Unit {0}) RecordEnd
without_number (Ok n) = Ok tt
without_number (Err why) = Err why

-- ---- losses

abbrev pub lost_lines : ℕ → ℕ → List ℕ
lost_lines from to = if nat_le to from then [] else gap_line (codes "journal") (to - from) from (to - 1)

-- They were told.
abbrev pub TellsLost : Result (Unit {0}) RecordEnd → ℕ → ℕ → SinkRecord → SinkRecord → Type 0
TellsLost (Ok done) from to old new = Takes old (lost_lines from to) new × (old.faults ≤ new.faults)
TellsLost (Err end.LogFault) from to old new =
    WritesFront old (lost_lines from to) new × (old.faults ≤ new.faults) × Rose old.faults new.faults
TellsLost (Err _) from to old new = ⊥
