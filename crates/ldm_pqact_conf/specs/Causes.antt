-- What a fault tells.
use Rattle.std.specs.Prelude.{◌≡◌, ℕ, List, Result, Err}
use Rattle.ldm_pqact_conf.specs.declared.fault.PqactFault.{PqactFault}
use Rattle.ldm_pqact_conf.specs.declared.fault.PqactKind.{PqactKind}
use Rattle.ldm_pqact_conf.specs.declared.fault.PqactKind.TheVariants.{Fields, Feed, Pattern, Action, Option, OutOfMemory}
use Rattle.ldm_pqact_conf.specs.Entries.{EntryView}

abbrev pub kind_number : PqactKind → ℕ
kind_number Fields = 1
kind_number Feed = 2
kind_number Pattern = 3
kind_number Action = 4
kind_number Option = 5
kind_number OutOfMemory = 6

-- of want of memory nothing is said
abbrev pub UnlessMemory : PqactKind → Type 0 → Type 0
UnlessMemory Fields claim = claim
UnlessMemory Feed claim = claim
UnlessMemory Pattern claim = claim
UnlessMemory Action claim = claim
UnlessMemory Option claim = claim
UnlessMemory OutOfMemory claim = Unit {0}

-- the kind is that of the meaning, or want of memory
abbrev pub IsKindOf : {A : Type 0} → Result A PqactKind → PqactKind → Type 0
IsKindOf meaning kind = UnlessMemory kind (meaning ≡ Err kind)

-- the fault is that of the text's meaning, or want of memory
abbrev pub IsFaultOf : Result (List EntryView) PqactFault → PqactFault → Type 0
IsFaultOf meaning fault = UnlessMemory fault.kind (meaning ≡ Err fault)
