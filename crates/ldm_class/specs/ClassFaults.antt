-- Why a class is not built.
use Rattle.std.specs.Prelude.{◌≡◌, ℕ, List, Some, None}
use Rattle.ldm_types.specs.declared.class.Spec.{Spec}
use Rattle.ldm_class.specs.Classes.{bad_place}
use Rattle.ldm_pattern.specs.Patterns.{pattern_meaning}
use Rattle.ldm_class.specs.declared.class.ClassFault.{ClassFault}
use Rattle.ldm_class.specs.declared.class.ClassFault.TheVariants.{BadPattern, OutOfMemory}

-- the cause of a fault: the place of the first pattern that means nothing, or too little memory, of which nothing is said
abbrev pub IsClassFaultOf : List Spec → ClassFault → Type 0
IsClassFaultOf specs (BadPattern place) = bad_place specs ≡ Some place
IsClassFaultOf specs OutOfMemory = Unit {0}

-- the cause of a fault in reading or building one pattern, that of the specification at a place
abbrev pub IsBuildFaultOf : List ℕ → ℕ → ClassFault → Type 0
IsBuildFaultOf pattern at (BadPattern place) = (place ≡ at) × (pattern_meaning pattern ≡ None)
IsBuildFaultOf pattern at OutOfMemory = Unit {0}
