-- The seat of a clerk, and how recording ended there. No caller needs these.
use Rattle.std.specs.Prelude.{◌≡◌, ◌⊎◌, Option, Some, None, IfSome}
use Rattle.ldm_disk.specs.declared.desk.Desk.{Desk}
use Rattle.ldm_disk.specs.Desks.{DeskRecord}
use Rattle.ldm_model.specs.State.{State}
use Rattle.ldm_shared.specs.Passes.{PassView, IsSamePass, HasAllOf}
use Rattle.ldm_recorder.specs.declared.recorder.Recorder.{Recorder}
use Rattle.ldm_recorder.specs.declared.end.RecordEnd.TheVariants as end
use Rattle.ldm_recorder.specs.Course.{IfStopped}
use Rattle.ldm_recorder.specs.Numbers.{IsBehind, IsReady}
use Rattle.ldm_node.specs.declared.clerk.Clerk.{Clerk}
use Rattle.ldm_node.specs.declared.clerk.Seat.{Seat}
use Rattle.ldm_node.specs.declared.clerk.Recorded.{Recorded}
use Rattle.ldm_node.specs.Clerks.{Closes, Records, clerk_tells}

module _ {F E C G : Type 0} where
  abbrev pub clerk_of : Seat F E C G → Clerk F E C G
  clerk_of seat = seat.clerk

  -- nobody worked there yet
  abbrev pub IsFreshSeat : Seat F E C G → Type 0
  IsFreshSeat seat = seat.end ≡ end.OutOfMemory

  abbrev pub recorder_of : Seat F E C G → Recorder
  recorder_of seat = seat.clerk.recorder

  -- a worker may begin at a seat with the pass by which the recorder was opened
  abbrev pub IsReadySeat : PassView → Seat F E C G → Type 0
  IsReadySeat pass seat = IsReady pass seat.clerk.recorder

  -- where the gate had stopped the worker, the journal takes all numbers that are left
  abbrev pub IsBehindSeat : Seat F E C G → Type 0
  IsBehindSeat seat = IfStopped seat.end (IsBehind seat.clerk.recorder)

  abbrev pub AreBehind : Option (Seat F E C G) → Type 0
  AreBehind seat = IfSome seat IsBehindSeat

  module _ (tells : Desk F E C G → DeskRecord) where
    -- a worker recorded at a seat
    abbrev pub SeatWorks : PassView → Seat F E C G → PassView → Seat F E C G → Type 0
    SeatWorks old_pass old new_pass new =
        Records new.end old_pass (clerk_tells tells old.clerk) new_pass (clerk_tells tells new.clerk) × IsBehindSeat new

    -- it did, with a pass of which the last one has all calls
    pub record HasWorked (last old_pass : PassView) (old new : Seat F E C G) : Type 0 where
      pub pass : PassView
      pub same : IsSamePass old_pass pass
      pub works : SeatWorks old_pass old pass new
      pub has_all : HasAllOf last pass

    -- what came of a seat behind the stations: without one nobody made a call with the pass; or nobody worked at it
    abbrev pub SeatsBehind : PassView → PassView → Option (Seat F E C G) → Option (Seat F E C G) → Type 0
    SeatsBehind last pass None None = HasAllOf last pass
    SeatsBehind last pass (Some old) (Some new) = HasWorked last pass old new ⊎ ((new ≡ old) × HasAllOf last pass)
    SeatsBehind last pass None (Some new) = ⊥
    SeatsBehind last pass (Some old) None = ⊥

    abbrev pub ClosesSeat : State → Option (Seat F E C G) → Option (Recorded F E C G) → Type 0
    ClosesSeat s (Some seat) (Some left) = Closes seat.end s left.end (clerk_tells tells seat.clerk) (tells left.desk)
    ClosesSeat s None None = Unit {0}
    ClosesSeat s (Some seat) None = ⊥
    ClosesSeat s None (Some left) = ⊥
