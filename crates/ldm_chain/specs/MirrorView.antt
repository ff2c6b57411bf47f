-- What contracts see of a mirror, and what one call of it does.
use Rattle.std.specs.Prelude.{◌≡◌, ◌⊎◌, ℕ, ◌+◌, ◌≤◌, Bool, List, [], length, take, drop, min, Some, None, IsSome}
use Rattle.ldm_outside.specs.declared.io.Got.{Got}
use Rattle.ldm_outside.specs.declared.io.Got.TheVariants.{Bytes, End, Failed}
use Rattle.ldm_outside.specs.declared.io.Put.{Put}
use Rattle.ldm_outside.specs.declared.io.Put.TheVariants as put
use Rattle.ldm_outside.specs.declared.link.Passed.{Passed}
use Rattle.ldm_outside.specs.Link.{LinkRecord, bytes_sent, then_piece}
use Rattle.ldm_outside.specs.Count.{raised}
use Rattle.ldm_shared.specs.Passes.{PassView}
use Rattle.ldm_session.specs.declared.limits.TheConstants.{LONGEST_STREAM}
use Rattle.ldm_downstream.specs.ReceiverView.{ReceiverView}

pub record MirrorView : Type 0 where
  -- what passed, in order
  pub passed : List Passed
  pub faults : ℕ
  pub closed : Bool
  -- the bytes of replies that wait to be received
  pub waiting : List ℕ
  pub receiver : ReceiverView
  -- the pass with which the receiver calls its queue
  pub pass : PassView

-- What a mirror tells: not what it has left, since what it will give depends on what it is sent. It is never at its end.
abbrev pub told_by_mirror : MirrorView → LinkRecord
told_by_mirror m = record { passed = Some m.passed; left = None; ends = 0; faults = m.faults; closed = m.closed }

-- What one call of `recv` did, with a buffer of that room: it gave all that it may of what waits; or nothing waits, and the receiver is over.
abbrev pub RecvsFrom : Got → ℕ → MirrorView → MirrorView → Type 0
RecvsFrom (Bytes n) room old new =
    (n ≡ min (length old.waiting) room)
    × (new ≡ record old { passed = then_piece (take n old.waiting) old.passed; waiting = drop n old.waiting })
RecvsFrom End room old new = ⊥
RecvsFrom Failed room old new = (old.waiting ≡ []) × IsSome old.receiver.end × (new ≡ record old { faults = raised old.faults })

-- it was sent so much that it has no room for the piece
abbrev pub HasNoRoom : List ℕ → MirrorView → Type 0
HasNoRoom piece m = LONGEST_STREAM ≤ length (bytes_sent m.passed) + length piece

-- What one call of `send` did: the receiver took the whole piece; or it was over before, or there was no room, and nothing happened.
abbrev pub SendsTo : Put → List ℕ → MirrorView → MirrorView → Type 0
SendsTo (put.Took n) piece old new = (old.receiver.end ≡ None) × (n ≡ length piece)
SendsTo put.Failed piece old new = (IsSome old.receiver.end ⊎ HasNoRoom piece old) × (new ≡ record old { faults = raised old.faults })

-- all that waits is taken as read
abbrev pub all_read : MirrorView → MirrorView
all_read m = record m { passed = then_piece m.waiting m.passed; waiting = [] }
