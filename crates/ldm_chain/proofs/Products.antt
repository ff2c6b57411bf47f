-- The products that a feeding hands on.
use Rattle.std.proofs.Common.{◌≡◌, ◌≤◌, List, [], ◌∷◌, ◌++◌, refl, ap}
use Rattle.std.specs.Prelude.{All, map}
use Rattle.std.specs.List.{flat_map}
use Rattle.ldm_types.specs.declared.limits.TheConstants.{LARGEST_ARENA}
use Rattle.ldm_model.specs.Product.{Product}
use Rattle.ldm_shared.specs.Passes.{PassView, HasSeen}
use Rattle.ldm_upstream.specs.Turn.{Given, Turn, Lost, Gave, Quiet, Alive}
use Rattle.ldm_upstream.specs.Turn as turn
use Rattle.ldm_upstream.specs.Feeding.{Last, GoesOn, Stopped, Unanswered, last_given}
use Rattle.ldm_upstream.specs.Course.{AreRows}
use Rattle.ldm_between_ends.specs.Handed.{handed_in, handed_last}
use Rattle.ldm_between_ends.specs.Passing.{IsSound}
use Rattle.ldm_between_ends.specs.Queue.{products_of}
use Rattle.ldm_between_ends.specs.Alone.{offered_in}
use Rattle.ldm_between_ends.proofs.Sound.{rows-sound as sound-rows}
use Rattle.ldm_chain.proofs.UsedLaws.{Laws}

-- ---- what is handed on was offered

abbrev product_given : Given → Product
product_given given = given.product

pub handed-offered : (turns : List Turn) (last : Last) → products_of (flat_map handed_in turns ++ handed_last last) ≡ map product_given (flat_map offered_in turns ++ last_given last)
handed-offered [] GoesOn = refl
handed-offered [] (Stopped end) = refl
handed-offered [] (Unanswered given at) = refl
handed-offered (Lost count first final ∷ turns) last = handed-offered turns last
handed-offered (Quiet end now ∷ turns) last = handed-offered turns last
handed-offered (Alive end now at ∷ turns) last = handed-offered turns last
handed-offered (Gave given turn.Passed ∷ turns) last = handed-offered turns last
handed-offered (Gave given (turn.Whole at) ∷ turns) last = ap (λ (ps : List Product). given.product ∷ ps) (handed-offered turns last)
handed-offered (Gave given (turn.Declined at) ∷ turns) last = ap (λ (ps : List Product). given.product ∷ ps) (handed-offered turns last)
handed-offered (Gave given (turn.InBlocks at blocks_at) ∷ turns) last = ap (λ (ps : List Product). given.product ∷ ps) (handed-offered turns last)

-- ---- products of a queue are sound

pub rows-sound : (laws : Laws) (pass : PassView) → HasSeen pass → pass.arena ≤ LARGEST_ARENA → (givens : List Given) → AreRows pass givens → All IsSound givens
rows-sound laws = sound-rows (record { admitted = laws.admitted; sized = laws.sized; fits = laws.fits; sound = laws.sound })
