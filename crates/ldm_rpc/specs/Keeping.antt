-- What is kept of a record of which a front may be all that is kept.
use Rattle.std.specs.Prelude.{◌≡◌, ◌≤◌, ◌⊎◌, ℕ, List, length, take, Option, Some, None}
use Rattle.ldm_rpc.specs.declared.fault.RpcFault.{RpcFault}
use Rattle.ldm_rpc.specs.declared.fault.RpcFault.TheVariants.{TooLong, OutOfMemory}
use Rattle.ldm_rpc.specs.declared.front_records.Front.{Front}
use Rattle.ldm_rpc.specs.declared.kept.TheConstants.{LEAST_FRONT}
use Rattle.ldm_rpc.specs.declared.stage.Stage.TheVariants.{Faulty}
use Rattle.ldm_rpc.specs.Reading.{Reading, after}

-- What is kept of a content is all of it, or a front that is not short; and its length is known.
pub record IsFrontOf (held : Front) (content : List ℕ) : Type 0 where
  pub front : held.bytes.now ≡ take (length held.bytes.now) content
  pub enough : (held.bytes.now ≡ content) ⊎ (LEAST_FRONT ≤ length held.bytes.now)
  pub len : held.len ≡ length content

-- What is kept of a record, if one is complete.
abbrev pub IsFrontIn : Option Front → Option (List ℕ) → Type 0
IsFrontIn None None = Unit {0}
IsFrontIn (Some held) (Some content) = IsFrontOf held content
IsFrontIn None (Some content) = ⊥
IsFrontIn (Some held) None = ⊥

-- The record in hand is found to be too long. Of want of memory nothing is said.
abbrev pub IsFaultIn : Reading → List ℕ → RpcFault → Type 0
IsFaultIn old piece (TooLong at) = (after old piece).stage ≡ Faulty (TooLong at)
IsFaultIn old piece OutOfMemory = Unit {0}
