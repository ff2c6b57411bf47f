use Rattle.std.proofs.Common.{sym, ◌≡◌, ◌++◌, List, ℕ, OnOk, Ok, Err, is_ok, if◌then◌else◌, Result}
use Rattle.ldm_outside.specs.Store.{File}
use Rattle.ldm_outside_memory.proofs.FileLemmas.{with_bytes, changed_in_place, changed_nowhere}
use Rattle.ldm_outside_memory.proofs.mem_store.append.Goals as goal

-- where the bytes were added they are there
added : {E : Type 0} (bytes : List ℕ) (was now : File) (r : Result (Unit {0}) E) → now ≡ (if is_ok r then with_bytes (λ before. before ++ bytes) was else was) → OnOk r (now ≡ with_bytes (λ before. before ++ bytes) was)
added bytes was now (Ok done) is = is
added bytes was now (Err e) is = tt

then_all : {E : Type 0} {P Q : Type 0} (r : Result (Unit {0}) E) → (P → Q) → OnOk r P → OnOk r Q
then_all (Ok done) step p = step p
then_all (Err e) step p = tt

pub returns-in-Some-clause-appended : goal.returns-in-Some-clause-appended
returns-in-Some-clause-appended c =
    then_all c.append.result
    (changed_in_place c.args.path.now (λ before. before ++ c.args.bytes.now) c.args.files.now.items c.in-Some.at c.index_mut.result.now c.append.new.self
    (rw c.deref.ensures.value at (sym c.in-Some.ensures)) c.index_mut.ensures.value)
    (added c.args.bytes.now c.index_mut.result.now c.append.new.self c.append.result c.append.ensures)

pub returns-in-None-clause-appended : goal.returns-in-None-clause-appended
returns-in-None-clause-appended c = sym (changed_nowhere c.args.path.now (λ before. before ++ c.args.bytes.now) c.args.files.now.items (rw c.deref.ensures.value at (sym c.in-None.ensures)))
