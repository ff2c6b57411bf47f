-- What the fault of a line tells.
use Rattle.std.specs.Prelude.{◌≡◌, Result, Err}
use Rattle.ldm_conf.specs.declared.fault.ConfKind.{ConfKind}
use Rattle.ldm_conf.specs.declared.fault.ConfKind.TheVariants.{Keyword, Fields, Feed, Pattern, Depth, Store, Long, OutOfMemory}

-- a claim on the fault of a line: the kinds of files do not come, and of want of memory nothing is said
abbrev pub OnLineFault : ConfKind → Type 0 → Type 0
OnLineFault Keyword claim = claim
OnLineFault Fields claim = claim
OnLineFault Feed claim = claim
OnLineFault Pattern claim = claim
OnLineFault Depth claim = ⊥
OnLineFault Store claim = ⊥
OnLineFault Long claim = ⊥
OnLineFault OutOfMemory claim = Unit {0}

-- the kind is that of a line's meaning, or want of memory
abbrev pub IsKindOf : {A : Type 0} → Result A ConfKind → ConfKind → Type 0
IsKindOf meaning cause = OnLineFault cause (meaning ≡ Err cause)
