use Rattle.std.proofs.Common.{sym, []}
use Rattle.ldm_outside_memory.proofs.FileLemmas.{changed_in_place, changed_nowhere}
use Rattle.ldm_outside_memory.proofs.mem_store.empty.Goals as goal

pub returns-in-Some : goal.returns-in-Some
returns-in-Some c =
    changed_in_place c.args.path.now (λ _. []) c.args.files.now.items c.in-Some.at c.index_mut.result.now c.empty.new.self
    (rw c.deref.ensures.value at (sym c.in-Some.ensures)) c.index_mut.ensures.value c.empty.ensures

pub returns-in-None : goal.returns-in-None
returns-in-None c = sym (changed_nowhere c.args.path.now (λ _. []) c.args.files.now.items (rw c.deref.ensures.value at (sym c.in-None.ensures)))
