-- What a call of a store leaves as it is.
use Rattle.std.proofs.Common.{◌≡◌, ◌∙◌, ℕ, ◌<◌, ◌≤◌, inl, inr, List, length, refl, sym, ap, subst, arith}
use Rattle.std.specs.Prelude.{Option, Some, IfSome}
use Rattle.ldm_outside.specs.Count.{Rose}
use Rattle.ldm_outside.specs.Store.{File, StoreRecord, ReadsFile, StoreFails, bytes_under}
use Rattle.ldm_outside.specs.declared.store.FileRead.TheVariants as file
use Rattle.ldm_text.specs.declared.limits.TheConstants.{LONGEST_CONFIGURATION}
use Rattle.ldm_conf.specs.Causes.{IsIn}

-- the counts did not fall, and no file was opened or shut
pub record Keeps (old new : StoreRecord) : Type 0 where
  pub faults : old.faults ≤ new.faults
  pub long : old.long ≤ new.long
  pub paths : new.paths ≡ old.paths

pub keeps_all : (old new : StoreRecord) → new ≡ old → Keeps old new
keeps_all old new same = subst (λ (s : StoreRecord). Keeps old s) (sym same) (record { faults = omega arith; long = omega arith; paths = refl })

rose_le : (a b : ℕ) → Rose a b → a ≤ b
rose_le a b (inl more) = omega (arith, more)
rose_le a b (inr still) = omega (arith, still.0, still.1)

pub keeps_failed : (old new : StoreRecord) → StoreFails old new → Keeps old new
keeps_failed old new fails =
    let long : new.long ≡ old.long = ap (λ (s : StoreRecord). s.long) fails.1 in
    record { faults = rose_le old.faults new.faults fails.0; long = omega (arith, long); paths = ap (λ (s : StoreRecord). s.paths) fails.1 }

pub keeps_long : (path : List ℕ) (old new : StoreRecord) → ReadsFile file.TooLong path LONGEST_CONFIGURATION old new → Keeps old new
keeps_long path old new long =
    let faults : new.faults ≡ old.faults = ap (λ (s : StoreRecord). s.faults) long.1 in
    record { faults = omega (arith, faults); long = rose_le old.long new.long long.0; paths = ap (λ (s : StoreRecord). s.paths) long.1 }

-- a file that the store found too long is none that it may give
pub long_none : (wanted bytes : List ℕ) (old new : StoreRecord) (files : List File) → old.files ≡ Some files → ReadsFile file.TooLong wanted LONGEST_CONFIGURATION old new
    → ¬ IsIn old (record { path = wanted; bytes = bytes })
long_none wanted bytes old new files told answered is_in =
    let it : (more : List ℕ) × (bytes_under wanted files ≡ Some more) × (LONGEST_CONFIGURATION < length more) =
    subst (λ (all : Option (List File)). IfSome all (λ fs. (more : List ℕ) × (bytes_under wanted fs ≡ Some more) × (LONGEST_CONFIGURATION < length more))) told answered.2 in
    let there : bytes_under wanted files ≡ Some bytes = subst (λ (all : Option (List File)). IfSome all (λ fs. bytes_under wanted fs ≡ Some bytes)) told is_in.1 in
    let above : LONGEST_CONFIGURATION < length it.0 = it.2 in
    let one : Some it.0 ≡ Some bytes = sym it.1 ∙ there in
    let same : it.0 ≡ bytes = cc in
    omega (arith, is_in.0, above, ap length same)
