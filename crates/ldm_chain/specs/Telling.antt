-- What passed, with more bytes one way.
use Rattle.std.specs.Prelude.{List}
use Rattle.ldm_outside.specs.declared.link.Passed.{Passed}
use Rattle.ldm_outside.specs.declared.link.Way.TheVariants as way
use Rattle.ldm_outside.specs.Link.{then_all, then_piece}
use Rattle.ldm_chain.specs.declared.told.Passing.{Passing}
use Rattle.ldm_chain.specs.declared.told.Passing.TheVariants.{Sent, Given}

abbrev pub with_passing : List Passed → Passing → List Passed
with_passing passed (Sent bytes) = then_all way.Sent bytes.now passed
with_passing passed (Given bytes) = then_piece bytes.now passed
