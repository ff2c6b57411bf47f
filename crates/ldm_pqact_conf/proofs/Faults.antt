-- Causes of faults, as they are handed on.
use Rattle.std.proofs.Common.{◌≡◌, Result, Err}
use Rattle.ldm_pqact_conf.specs.declared.fault.PqactKind.{PqactKind}
use Rattle.ldm_pqact_conf.specs.declared.fault.PqactKind.TheVariants.{Fields, Feed, Pattern, Action, Option, OutOfMemory}
use Rattle.ldm_pqact_conf.specs.Causes.{UnlessMemory, IsKindOf}

-- what is said unless memory was wanting, by what follows from it
pub unless : (kind : PqactKind) (P Q : Type 0) → (P → Q) → UnlessMemory kind P → UnlessMemory kind Q
unless Fields P Q f h = f h
unless Feed P Q f h = f h
unless Pattern P Q f h = f h
unless Action P Q f h = f h
unless Option P Q f h = f h
unless OutOfMemory P Q f h = tt

-- of want of memory nothing is said
pub of_memory : (kind : PqactKind) (P : Type 0) → kind ≡ OutOfMemory → UnlessMemory kind P
of_memory kind P is = rw is tt

-- the fault of a part that is that of the whole
pub of_part : {A B : Type 0} (part : Result A PqactKind) (whole : Result B PqactKind) (kind : PqactKind) →
    (part ≡ Err kind → whole ≡ Err kind) → IsKindOf part kind → IsKindOf whole kind
of_part part whole kind f h = unless kind (part ≡ Err kind) (whole ≡ Err kind) f h

-- an error that is also that one
pub same_kind : {A : Type 0} (result : Result A PqactKind) (cause other : PqactKind) → Err cause ≡ result → result ≡ Err other → cause ≡ other
same_kind result cause other is so = cc
