use Rattle.std.proofs.Common.{◌∙◌, ◌++◌, ◌∷◌, [], sym, ap}
use Rattle.ldm_outside.specs.Store.{File}
use Rattle.ldm_outside_memory.proofs.FileLemmas.{made_there, made_behind}
use Rattle.ldm_outside_memory.proofs.mem_store.make.Goals as goal

pub returns-in-Some : goal.returns-in-Some
returns-in-Some c = sym (made_there c.args.path.now c.args.files.now.items c.in-Some.field-0 (rw c.deref.ensures.value at (sym c.in-Some.ensures)))

pub returns-in-None : goal.returns-in-None
returns-in-None c =
    c.push_reserved.ensures.items
    ∙ ap (λ (file : File). c.args.files.now.items ++ file ∷ []) c.requires.empty
    ∙ sym (made_behind c.args.path.now c.args.files.now.items (rw c.deref.ensures.value at (sym c.in-None.ensures)))
