-- A node that is asked for its figures again and again.
use Rattle.std.specs.Prelude.{◌≡◌, ◌⊎◌, ℕ, ◌+◌, ◌*◌, ◌<◌, ◌≤◌, List, [], ◌∷◌, ◌++◌, Some, Ok}
use Rattle.ldm_outside.specs.Clock.{Answers, ClockRecord}
use Rattle.ldm_outside.specs.Dial.{Asked}
use Rattle.ldm_outside.specs.Io.{Takes}
use Rattle.ldm_model.specs.declared.stat.Stat.{Stat}
use Rattle.ldm_tools.specs.Asking.{AsksPeer}
use Rattle.ldm_tools.specs.Mon.{MonRecord, Mons, stat_call, stat_line}
use Rattle.ldm_tools.specs.Replies.{IsStatReply}

-- What asking again and again uses of the outside, at a moment.
pub record AskingMoment : Type 0 where
  -- what one asking uses
  pub mon : MonRecord
  pub clock : ClockRecord

abbrev pub moment_of : MonRecord → ClockRecord → AskingMoment
moment_of mon clock = record { mon = mon; clock = clock }

-- An asking that went well: the instant that the clock told before it, and the figures that came.
pub record Asking : Type 0 where
  pub instant : ℕ
  pub stat : Stat

-- The askings before one stand with the latest first. That one may come at this instant: so many seconds are between, or more.
abbrev pub IsDue : (seconds : ℕ) → List Asking → ℕ → Type 0
IsDue seconds [] instant = Unit {0}
IsDue seconds (last ∷ earlier) instant = last.instant + seconds * 1000000 ≤ instant

-- The clock told the instant. Over a link of its own the peer was asked and told the figures, their line was written, and nothing was logged.
pub record AsksAt (peer : Asked) (asking : Asking) (old new : AskingMoment) : Type 0 where
  pub told : Answers asking.instant old.clock new.clock
  pub asks : AsksPeer (IsStatReply 1) (Ok (Some asking.stat)) stat_call peer old.mon.net new.mon.net
  pub written : Takes old.mon.sink (stat_line asking.stat) new.mon.sink
  pub unlogged : Takes old.mon.log [] new.mon.log

-- The peer was asked so often and no oftener, each time when it was due and after all of the asking before. The latest asking stands first.
abbrev pub AreAsked : Asked → (seconds : ℕ) → List Asking → AskingMoment → AskingMoment → Type 0
AreAsked peer seconds [] old new = new ≡ old
AreAsked peer seconds (asking ∷ earlier) old new =
    (mid : AskingMoment) × AreAsked peer seconds earlier old mid × IsDue seconds earlier asking.instant × AsksAt peer asking mid new

-- the lines of askings, in the order in which they were written
abbrev pub lines_of : List Asking → List ℕ
lines_of [] = []
lines_of (asking ∷ earlier) = lines_of earlier ++ stat_line asking.stat

-- One more asking was due, and did not go well.
pub record Fails (code : ℕ) (peer : Asked) (seconds : ℕ) (askings : List Asking) (instant : ℕ) (old new : MonRecord) : Type 0 where
  pub due : IsDue seconds askings instant
  pub failed : ¬ (code ≡ 0)
  pub asks : Mons code peer old new

-- After a rest the clock told an instant at which no asking is due, and the peer was not asked again.
pub record Stands (code : ℕ) (seconds : ℕ) (askings : List Asking) (instant : ℕ) (old new : MonRecord) : Type 0 where
  pub done : code ≡ 0
  pub last : Asking
  pub earlier : List Asking
  pub askings_are : askings ≡ last ∷ earlier
  pub early : instant < last.instant + seconds * 1000000
  pub same : new ≡ old

-- The peer was asked again and again, well each time, and a line written for each. Then the clock told one instant more, and the number tells
-- what came at it: one more asking, which did not go well; or none, since it was not due.
pub record AsksOn (code : ℕ) (peer : Asked) (seconds : ℕ) (old new : AskingMoment) : Type 0 where
  pub askings : List Asking
  pub mid : AskingMoment
  pub each : AreAsked peer seconds askings old mid
  pub written : Takes old.mon.sink (lines_of askings) mid.mon.sink
  pub instant : ℕ
  pub told : Answers instant mid.clock new.clock
  pub ends : Fails code peer seconds askings instant mid.mon new.mon ⊎ Stands code seconds askings instant mid.mon new.mon
