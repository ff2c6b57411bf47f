-- What a call that takes bytes leaves.
use Rattle.std.specs.Prelude.{◌≡◌, ℕ, ◌+◌, ◌<◌, ◌≤◌, List, length, drop, Some, Result, Ok, Err}
use Rattle.ldm_rpc.specs.declared.fault.RpcFault.{RpcFault}
use Rattle.ldm_rpc.specs.declared.fault.RpcFault.TheVariants.{TooLong, OutOfMemory}
use Rattle.ldm_rpc.specs.declared.stage.Stage.{Stage}
use Rattle.ldm_rpc.specs.declared.stage.Stage.TheVariants.{Header, Fragment, Whole, Faulty}
use Rattle.ldm_rpc.specs.declared.in_place.InPlace.{InPlace}
use Rattle.ldm_rpc.specs.Reading.{Reading, after, bytes_taken, next_of, whole_of}
use Rattle.ldm_rpc.specs.Spelling.{BeginsSingle}

-- The cause of a fault, and what stands after it. `TooLong` comes where the bytes of the piece make it so. Of
-- `OutOfMemory` it is said only that it stays.
abbrev pub IsFaultOf : Reading → List ℕ → Reading → RpcFault → Type 0
IsFaultOf old piece new (TooLong at) = (new ≡ after old piece) × (new.stage ≡ Faulty (TooLong at))
IsFaultOf old piece new OutOfMemory = new.stage ≡ Faulty OutOfMemory

-- the number of bytes that were taken, or the fault
abbrev pub answer_at : Stage → ℕ → Result ℕ RpcFault
answer_at (Header came number) taken = Ok taken
answer_at (Fragment left last) taken = Ok taken
answer_at Whole taken = Ok taken
answer_at (Faulty fault) taken = Err fault

-- so many bytes of a piece are taken, at least one, and the others remain to be taken
pub record TakesFront (old : Reading) (piece : List ℕ) (n : ℕ) (new : Reading) : Type 0 where
  pub some : 0 < n
  pub within : n ≤ length piece
  pub rest : after old piece ≡ after new (drop n piece)
  pub count : bytes_taken old piece ≡ n + bytes_taken new (drop n piece)

-- A record of one fragment lies at the front of a piece: what such a reader would take and show, and stand again as before.
pub record IsSingle (s : Reading) (piece : List ℕ) (found : InPlace) : Type 0 where
  pub content : whole_of (after s piece) ≡ Some found.content.now
  pub taken : (found.taken ≡ bytes_taken s piece) × (found.taken ≤ length piece) × (0 < found.taken)
  pub stays : next_of (after s piece) ≡ s
  pub within : length found.content.now ≤ s.limit
  pub begins : BeginsSingle s.limit piece found.content.now
