-- What contracts see of a `Pqact`.
use Rattle.std.specs.Prelude.{◌≤◌, ℕ, List, Option, option_map}
use Rattle.std.specs.Vec.{vec_capacity}
use Rattle.ldm_types.specs.declared.signature.Signature.{Signature}
use Rattle.ldm_pqact_conf.specs.Entries.{EntryView}
use Rattle.ldm_actions.specs.Outputs.{OutputsView}
use Rattle.ldm_pqact.specs.declared.pqact.Pqact.TheInside.{Inside}
use Rattle.ldm_pqact.specs.declared.limits.TheConstants.{LARGEST_PIECE}

pub record PqactView : Type 0 where
  pub entries : List EntryView
  -- how many products are left to be given, where there is a count
  pub left : Option ℕ
  -- the signature of the last product that the last call was given, if it was given one
  pub last : Option (List ℕ)
  pub outputs : OutputsView

-- the bytes of a signature
abbrev pub signature_of : Option Signature → Option (List ℕ)
signature_of last = option_map (λ signature. signature.0) last

abbrev pub pqact_view : Inside → PqactView
pqact_view it = record {
  entries = it.carrier.entries;
  left = it.carrier.left;
  last = signature_of it.carrier.last;
  outputs = it.carrier.writer.outputs;
}

-- a piece of a body finds room
abbrev pub HasRoom : Inside → Type 0
HasRoom it = LARGEST_PIECE ≤ vec_capacity it.carrier.writer.buffer
