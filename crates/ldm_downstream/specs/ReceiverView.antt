-- What contracts see of a receiver, and of what reads its stream.
use Rattle.std.specs.Prelude.{ℕ, Bool, Option, None}
use Rattle.std.specs.Global.{Vec}
use Rattle.ldm_rpc.specs.Streams.{Position}
use Rattle.ldm_shared.specs.Passes.{PassView}
use Rattle.ldm_intake.specs.declared.end.RecvEnd.{RecvEnd}
use Rattle.ldm_intake.specs.Receiving.{Receiving}
use Rattle.ldm_intake.specs.TakesRecord.{Standing, stands}
use Rattle.ldm_downstream.specs.Pieces.{beginning}

-- A stream that is received: where the receiving stands, and what is in hand.
pub record StreamView : Type 0 where
  pub receiving : Receiving
  pub hand : Position

pub record ReceiverView : Type 0 where
  pub receiving : Receiving
  -- what it has in hand of the stream
  pub hand : Position
  -- whether the request that it begins with is still owed
  pub owes : Bool
  -- how it ended, where it is over
  pub end : Option RecvEnd

-- a receiver before the first byte of a stream
abbrev pub before_stream : Receiving → Bool → ReceiverView
before_stream s owes = record { receiving = s; hand = beginning; owes = owes; end = None }

-- a receiving, and what it is lent: the pass, and the buffers for what the peer is owed and for log lines
abbrev pub moment : Receiving → PassView → Vec ℕ → Vec ℕ → Standing
moment receiving pass out notes = stands receiving pass out.items notes.items
