-- What calls did to a file, one after another, where a disk tells it.
use Rattle.std.specs.Prelude.{Option, Some, None, IfSome}
use Rattle.ldm_disk.specs.Told.{FileRecord}
use Rattle.ldm_disk.specs.Calls.{FileChanges}

-- both hold of the file
pub both : (S T : FileRecord → Type 0) (file : Option FileRecord) → IfSome file S → IfSome file T → IfSome file (λ f. S f × T f)
both S T None s t = s
both S T (Some file) s t = (s, t)

-- all three hold of it
pub three : (S T U : FileRecord → Type 0) (file : Option FileRecord) → IfSome file S → IfSome file T → IfSome file U
    → IfSome file (λ f. S f × T f × U f)
three S T U None s t u = s
three S T U (Some file) s t u = (s, t, u)

-- what holds of the file, in other words
pub in_words : (S T : FileRecord → Type 0) (file : Option FileRecord) → ((f : FileRecord) → S f → T f) → IfSome file S → IfSome file T
in_words S T None step s = s
in_words S T (Some file) step s = step file s

-- where nothing is asked of the file
pub always : (file : Option FileRecord) → IfSome file (λ f. Unit {0})
always None = tt
always (Some file) = tt

-- what one call did, in other words
pub mapped : (S : FileRecord → Type 0) (P R : FileRecord → FileRecord → Type 0) → ((old new : FileRecord) → S old → P old new → R old new)
    → (old new : Option FileRecord) → IfSome old S → FileChanges P old new → FileChanges R old new
mapped S P R step None None s p = p
mapped S P R step None (Some new) s p = absurd p
mapped S P R step (Some old) None s p = absurd p
mapped S P R step (Some old) (Some new) s p = step old new s p

-- what one call did, in other words
pub one_call : (P R : FileRecord → FileRecord → Type 0) → ((old new : FileRecord) → P old new → R old new) → (old new : Option FileRecord)
    → FileChanges P old new → FileChanges R old new
one_call P R step None None p = p
one_call P R step None (Some new) p = absurd p
one_call P R step (Some old) None p = absurd p
one_call P R step (Some old) (Some new) p = step old new p

-- no call was made
pub no_call : (R : FileRecord → FileRecord → Type 0) → ((file : FileRecord) → R file file) → (file : Option FileRecord) → FileChanges R file file
no_call R step None = tt
no_call R step (Some file) = step file

-- what two calls did, where S holds before the first and T between them
pub chained : (S T : FileRecord → Type 0) (P Q R : FileRecord → FileRecord → Type 0)
    → ((old mid new : FileRecord) → S old → T mid → P old mid → Q mid new → R old new) → (old mid new : Option FileRecord) → IfSome old S → IfSome mid T
    → FileChanges P old mid → FileChanges Q mid new → FileChanges R old new
chained S T P Q R step None None None s t p q = q
chained S T P Q R step None None (Some new) s t p q = absurd q
chained S T P Q R step None (Some mid) new s t p q = absurd p
chained S T P Q R step (Some old) None new s t p q = absurd p
chained S T P Q R step (Some old) (Some mid) None s t p q = absurd q
chained S T P Q R step (Some old) (Some mid) (Some new) s t p q = step old mid new s t p q

-- what two calls did, one after another
pub two_calls : (P Q R : FileRecord → FileRecord → Type 0) → ((old mid new : FileRecord) → P old mid → Q mid new → R old new) → (old mid new : Option FileRecord)
    → FileChanges P old mid → FileChanges Q mid new → FileChanges R old new
two_calls P Q R step None None None p q = q
two_calls P Q R step None None (Some new) p q = absurd q
two_calls P Q R step None (Some mid) new p q = absurd p
two_calls P Q R step (Some old) None new p q = absurd p
two_calls P Q R step (Some old) (Some mid) None p q = absurd q
two_calls P Q R step (Some old) (Some mid) (Some new) p q = step old mid new p q

-- what holds of the file after a call, where S held before it
pub after : (S T : FileRecord → Type 0) (P : FileRecord → FileRecord → Type 0) → ((old new : FileRecord) → S old → P old new → T new)
    → (old new : Option FileRecord) → IfSome old S → FileChanges P old new → IfSome new T
after S T P step None None s p = p
after S T P step None (Some new) s p = absurd p
after S T P step (Some old) None s p = absurd p
after S T P step (Some old) (Some new) s p = step old new s p

-- what holds of the file after a call, where U does
pub after_it : (U T : FileRecord → Type 0) (P : FileRecord → FileRecord → Type 0) → ((old new : FileRecord) → U new → P old new → T new)
    → (old new : Option FileRecord) → IfSome new U → FileChanges P old new → IfSome new T
after_it U T P step None None u p = p
after_it U T P step None (Some new) u p = absurd p
after_it U T P step (Some old) None u p = absurd p
after_it U T P step (Some old) (Some new) u p = step old new u p

-- what holds of the file after a call, where S holds before it and U after it
pub after_both : (S U T : FileRecord → Type 0) (P : FileRecord → FileRecord → Type 0) → ((old new : FileRecord) → S old → U new → P old new → T new)
    → (old new : Option FileRecord) → IfSome old S → IfSome new U → FileChanges P old new → IfSome new T
after_both S U T P step None None s u p = p
after_both S U T P step None (Some new) s u p = absurd p
after_both S U T P step (Some old) None s u p = absurd p
after_both S U T P step (Some old) (Some new) s u p = step old new s u p
