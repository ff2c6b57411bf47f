-- What contracts see of what code keeps of the products that are wanted.
use Rattle.std.specs.Prelude.{Option, Some, None}
use Rattle.ldm_types.specs.declared.class.ClassSpec.{ClassSpec}
use Rattle.ldm_intake.specs.Receiving.{Wanting}
use Rattle.ldm_intake.specs.declared.wanting.Wanted.TheInside.{Inside}

-- the class that the peer offered, or the one that was lent
abbrev pub class_in_force : Option ClassSpec → ClassSpec → ClassSpec
class_in_force None lent = lent
class_in_force (Some offered) lent = offered

abbrev pub wanting_of : Inside → Wanting
wanting_of w = record { class = class_in_force w.offered w.lent; policy = w.policy }
