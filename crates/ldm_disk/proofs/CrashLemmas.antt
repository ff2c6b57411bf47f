-- What a crash leaves, over many calls. `P` is whatever is to hold of each file that a crash may leave.
use Rattle.std.proofs.Common.{◌≡◌, inl, inr, ⊎_elim, ℕ, Bool, true, List, [], ◌∷◌, arith, subst, sym}
use Rattle.ldm_disk.specs.Told.{FileRecord, IsConsistent, IsSettled}
use Rattle.ldm_disk.specs.Model.{Step, IsStep, Stays}
use Rattle.ldm_disk.specs.Moments.{Follows, Elapses, Run, LeavesOnly, AllKeep, Passes}

-- each file that a crash now may leave has P
abbrev pub LeavesNow : (List ℕ → Type 0) → FileRecord → Type 0
LeavesNow P file = (left : List ℕ) → file.may_leave left ≡ true → P left

module _ (P : List ℕ → Type 0) where
  -- before the first call
  pub started : (file : FileRecord) → IsConsistent file → LeavesNow P file → LeavesOnly P file file
  started file consistent now = record {
    later = omega arith;
    each = λ left since. now left (consistent.only_now left since);
    before = λ since left le left_it. inl left_it;
    keeps = λ since left le left_it. left_it;
  }

  -- one call more, after which a crash leaves what has P
  pub goes_on : (old mid new : FileRecord) → LeavesOnly P old mid → Elapses mid new → LeavesNow P new → LeavesOnly P old new
  goes_on old mid new so_far time now = record {
    later = omega (arith, so_far.later, time.later);
    each = λ left since. ⊎_elim (so_far.each left) (now left) (time.nothing_else old.moment left so_far.later since);
    before = λ t left le since. ⊎_elim (so_far.before t left le) (λ leaves. inr (now left leaves)) (time.nothing_else t left (omega (arith, le, so_far.later)) since);
    keeps = λ t left le since. time.keeps t left (omega (arith, le, so_far.later)) (so_far.keeps t left le since);
  }

  -- one run more
  pub joined : (old mid new : FileRecord) → LeavesOnly P old mid → LeavesOnly P mid new → LeavesOnly P old new
  joined old mid new first next = record {
    later = omega (arith, first.later, next.later);
    each = λ left since. ⊎_elim (first.each left) (λ has. has) (next.before old.moment left first.later since);
    before = λ t left le since. ⊎_elim (first.before t left le) (λ has. inr has) (next.before t left (omega (arith, le, first.later)) since);
    keeps = λ t left le since. next.keeps t left (omega (arith, le, first.later)) (first.keeps t left le since);
  }

  -- what each file had before the step each has after it, where the step keeps it
  pub follows_keeps : (step : Step) (old new : FileRecord) → ((before after : List ℕ) → P before → IsStep step before after → P after)
      → LeavesNow P old → Follows step old new → LeavesNow P new
  follows_keeps step old new keeps now follows left leaves =
      let from = follows left leaves in
      keeps from.0 left (now from.0 from.1) from.2

  -- where nothing was pending, each file is the one before the step, or that after it
  pub follows_settled : (step : Step) (old new : FileRecord) → IsSettled old → Follows step old new
      → ((after : List ℕ) → IsStep step old.bytes after → P after) → LeavesNow P new
  follows_settled step old new settled follows has left leaves =
      let from = follows left leaves in
      has left (subst (λ (before : List ℕ). IsStep step before left) (settled from.0 from.1) from.2)

  -- a call that does nothing to the file leaves what it found
  pub stays_keeps : (old new : FileRecord) → LeavesNow P old → Follows Stays old new → LeavesNow P new
  stays_keeps old new now follows left leaves =
      let from = follows left leaves in
      subst P (sym from.2) (now from.0 from.1)

  -- of a file of which nothing is pending all that a crash leaves is the file
  pub settled_leaves : (file : FileRecord) → IsSettled file → P file.bytes → LeavesNow P file
  settled_leaves file settled has left leaves = subst P (sym (settled left leaves)) has

  -- the file as it reads has it too
  pub reads : (old new : FileRecord) → IsConsistent new → LeavesOnly P old new → P new.bytes
  reads old new consistent only = only.each new.bytes (consistent.now old.moment new.bytes only.later consistent.reads)

  -- so has what a crash now may leave
  pub leaves_now : (old new : FileRecord) → IsConsistent new → LeavesOnly P old new → LeavesNow P new
  leaves_now old new consistent only left leaves = only.each left (consistent.now old.moment left only.later leaves)

-- what has P has Q
pub weaker : (P Q : List ℕ → Type 0) → ((left : List ℕ) → P left → Q left) → (old new : FileRecord) → LeavesOnly P old new → LeavesOnly Q old new
weaker P Q step old new only = record {
  later = only.later;
  each = λ left since. step left (only.each left since);
  before = λ t left le since. ⊎_elim (λ was. inl was) (λ has. inr (step left has)) (only.before t left le since);
  keeps = only.keeps;
}

-- a call that only settles the file, after one that only settled it, keeps it settled
pub still_settled : (old new : FileRecord) → IsConsistent new → IsSettled old → Follows Stays old new → IsSettled new
still_settled old new consistent settled follows left leaves =
    let one = follows left leaves in
    let other = follows new.bytes consistent.reads in
    let same : left ≡ old.bytes = cc (one.2, settled one.0 one.1) in
    let reads : new.bytes ≡ old.bytes = cc (other.2, settled other.0 other.1) in
    cc (same, reads)

-- over any list of calls
pub run_goes_on : (test : List ℕ → Bool) (steps : List Step) (old mid new : FileRecord) → LeavesOnly (Passes test) old mid → LeavesNow (Passes test) mid
    → AllKeep test steps → Run steps mid new → LeavesOnly (Passes test) old new
run_goes_on test [] old mid new so_far now keeps run = subst (LeavesOnly (Passes test) old) (sym run) so_far
run_goes_on test (step ∷ steps) old mid new so_far now keeps run =
    let next = run.0 in
    let then : LeavesNow (Passes test) next = follows_keeps (Passes test) step mid next keeps.0 now run.1.crash in
    run_goes_on test steps old next new (goes_on (Passes test) old mid next so_far run.1.time then) then keeps.1 run.2
