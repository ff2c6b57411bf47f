-- The causes of faults.
use Rattle.std.specs.Prelude.{◌≡◌, Option, None}
use Rattle.clap.specs.declared.error.kind.ErrorKind.{ErrorKind}
use Rattle.clap.specs.declared.error.kind.ErrorKind.TheVariants as kind
use Rattle.ldm_class.specs.declared.class.ClassFault.{ClassFault}
use Rattle.ldm_class.specs.declared.class.ClassFault.TheVariants as class
use Rattle.ldm_words.specs.declared.fault.WordsFault.{WordsFault}
use Rattle.ldm_words.specs.declared.fault.WordsFault.TheVariants.{Usage, OutOfMemory}

-- the cause of a fault: the words have no such meaning, or there is too little memory, of which nothing is said
abbrev pub IsFaultOf : {A : Type 0} → Option A → WordsFault → Type 0
IsFaultOf meaning Usage = meaning ≡ None
IsFaultOf meaning OutOfMemory = Unit {0}

-- the fault that an error of `clap` comes to
abbrev pub fault_of_kind : ErrorKind → WordsFault
fault_of_kind kind.OutOfMemory = OutOfMemory
fault_of_kind other = Usage

abbrev pub fault_of_class : ClassFault → WordsFault
fault_of_class (class.BadPattern spec) = Usage
fault_of_class class.OutOfMemory = OutOfMemory
