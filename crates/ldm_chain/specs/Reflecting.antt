-- What passed on a mirror is what its receiver took and replied.
use Rattle.std.specs.Prelude.{◌≡◌, ℕ, ◌≤◌, ◌<◌, List, ◌++◌, length, drop, map, Bool, Option, Some, None}
use Rattle.ldm_rpc.specs.Streams.{Position}
use Rattle.ldm_outside.specs.declared.link.Passed.{Passed}
use Rattle.ldm_outside.specs.Link.{bytes_sent, bytes_given}
use Rattle.ldm_shared.specs.Passes.{SharedView, PassView, IsPassOf, IsSamePass}
use Rattle.ldm_intake.specs.declared.end.RecvEnd.{RecvEnd}
use Rattle.ldm_intake.specs.TakesRecord.{Standing, stands}
use Rattle.ldm_session.specs.declared.limits.TheConstants.{LONGEST_STREAM}
use Rattle.ldm_downstream.specs.Pieces.{Piece, beginning, joined}
use Rattle.ldm_downstream.specs.Pushing.{Continues, Ends}
use Rattle.ldm_downstream.specs.ReceiverView.{ReceiverView}
use Rattle.ldm_chain.specs.Beginning.{Beginning}
use Rattle.ldm_chain.specs.MirrorView.{MirrorView}

-- pieces that all came at one moment
abbrev pub pieces_at : ℕ → List (List ℕ) → List Piece
pieces_at now parts = map (λ bytes. record { now = now; bytes = bytes }) parts

-- A receiving went over pieces, from the first byte of a stream on: it goes on, or they ended it.
abbrev pub Went : Option RecvEnd → List Piece → Position → Standing → Standing → Type 0
Went None pieces q old new = Continues pieces beginning q old new
Went (Some end) pieces q old new = Ends end pieces beginning old new

-- The receiver of a mirror went over the bytes that were sent, all at one moment. What it replied is what was given, and then what waits.
pub record Reflects (b : Beginning) (m : MirrorView) : Type 0 where
  pub parts : List (List ℕ)
  pub sent_is : joined (pieces_at b.now parts) ≡ bytes_sent m.passed
  pub notes : List ℕ
  pub went : Went m.receiver.end (pieces_at b.now parts) m.receiver.hand b.first
      (stands m.receiver.receiving m.pass (bytes_given m.passed ++ m.waiting) notes)

-- what contracts see, by what is kept
abbrev pub mirror_of : List Passed → ℕ → Bool → ℕ → List ℕ → ReceiverView → PassView → MirrorView
mirror_of passed faults closed read replies receiver pass = record {
  passed = passed;
  faults = faults;
  closed = closed;
  waiting = drop read replies;
  receiver = receiver;
  pass = pass;
}

-- What a mirror keeps beside that: so many bytes were sent, fewer than a stream may have; so many bytes of these replies were given; and
-- this is how the receiver ended, if it did.
pub record IsKept (b : Beginning) (shared : SharedView) (name now sent read : ℕ) (replies : List ℕ) (over : Option RecvEnd) (m : MirrorView) : Type 0 where
  pub of : IsPassOf shared m.pass
  pub same : IsSamePass b.first.pass m.pass
  pub name_is : name ≡ b.name
  pub now_is : now ≡ b.now
  pub sent_is : sent ≡ length (bytes_sent m.passed)
  pub room : sent < LONGEST_STREAM
  pub within : read ≤ length replies
  pub over_is : over ≡ m.receiver.end
  pub reflects : Reflects b m
