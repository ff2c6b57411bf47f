-- A loop that reads a stream, where a push ends by a fault.
use Rattle.std.proofs.Common.{◌≡◌, ℕ, true, List, [], ◌∷◌, length, refl, sym, ◌∙◌, arith}
use Rattle.std.specs.Prelude.{◌==◌}
use Rattle.std.proofs.lemmas.Bool.{both_ways, ne_eqb}
use Rattle.ldm_rpc.specs.declared.fault.RpcFault.{RpcFault}
use Rattle.ldm_rpc.specs.declared.fault.RpcFault.TheVariants.{TooLong, OutOfMemory}
use Rattle.ldm_rpc.specs.Streams.{Placed}
use Rattle.ldm_rpc.specs.Taking.{IsFaultOf}
use Rattle.ldm_rpc.proofs.CallerLemmas.{IsReading, reads_fault}
use Rattle.drive_values.specs.declared.records.places.Stream.{Stream}
use Rattle.drive_values.specs.Places.{EndsBy, position_of}

pub refused_at : (fault : RpcFault) (old t new : Stream) (piece rest : List ℕ) (before out : List Placed) → IsReading (position_of old) piece before (position_of t) rest out
    → IsFaultOf t.records rest new.records fault → new.begins ≡ t.begins → EndsBy fault old new before out piece
refused_at (TooLong at) old t new piece rest before out so_far is same =
    let f = reads_fault (position_of old) piece before (position_of t) rest out new.records (TooLong at) so_far is.0 is.1 in
    (f.0, f.1, f.2 ∙ sym same)
refused_at OutOfMemory old t new piece rest before out so_far is same = tt

pub is_empty : (bytes : List ℕ) → true ≡ (length bytes == 0) → bytes ≡ []
is_empty [] e = refl
is_empty (byte ∷ bytes) e = absurd (both_ways (length (byte ∷ bytes) == 0) (ne_eqb (length (byte ∷ bytes)) 0 (omega arith)) (sym e))
