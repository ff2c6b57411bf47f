-- The kinds of the faults that a policy and a class answer.
use Rattle.ldm_class.specs.declared.class.ClassFault.{ClassFault}
use Rattle.ldm_class.specs.declared.class.ClassFault.TheVariants as class
use Rattle.ldm_class.specs.declared.policy.PolicyFault.{PolicyFault}
use Rattle.ldm_class.specs.declared.policy.PolicyFault.TheVariants as policy
use Rattle.ldm_conf.specs.declared.fault.ConfKind.{ConfKind}
use Rattle.ldm_conf.specs.declared.fault.ConfKind.TheVariants.{Pattern, OutOfMemory}

abbrev pub kind_of_policy : PolicyFault → ConfKind
kind_of_policy (policy.BadPattern place) = Pattern
kind_of_policy policy.OutOfMemory = OutOfMemory

abbrev pub kind_of_class : ClassFault → ConfKind
kind_of_class (class.BadPattern spec) = Pattern
kind_of_class class.OutOfMemory = OutOfMemory
