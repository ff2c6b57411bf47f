use Rattle.std.proofs.Common.{◌≡◌, ◌-◌, ◌++◌, true, List, ℕ, length, take, replicate, sym, ◌∙◌, ap, subst, refl}
use Rattle.ldm_disk.specs.Moments.{Goes}
use Rattle.ldm_disk.specs.Model.{step_of_cut}
use Rattle.ldm_disk_memory.specs.Pending.{file_of, base_of}
use Rattle.ldm_disk_memory.specs.MemDisk.{MemFileState, leaves, file_cut, told_by_file}
use Rattle.ldm_disk_memory.proofs.MemFiles.{reads_as, bytes_as, cut_whole, same_change}
use Rattle.ldm_disk_memory.proofs.Torn.{cut_leaves, cut_goes}
use Rattle.ldm_disk_memory.proofs.mem_file.MemFile.cut.Goals as goal

-- the file after the cut, by its fields
done : (c : goal.In_default) → file_of c.resize.new.self.items c.note.new.synced.items c.note.new.since.items c.self.inside.past.items ≡ file_cut c.args.len c.args.self.now
done c =
    let f = c.self.inside in
    let s = c.args.self.now in
    let bytes : s.bytes ≡ f.seen.items = bytes_as s f.seen.items f.synced.items f.since.items f.past.items (sym c.self.view_is) in
    let long : f.seen.len ≡ length s.bytes = f.seen.ok.0 ∙ sym (ap length bytes) in
    let now : c.resize.new.self.items ≡ take c.args.len f.seen.items ++ replicate (c.args.len - f.seen.len) 0 = c.in_default.ensures.items in
    cut_whole s f.seen.items f.synced.items f.since.items f.past.items (sym c.self.view_is) c.args.len c.resize.new.self.items c.note.new.synced.items c.note.new.since.items
    (record { start = c.len.result; end = c.args.len; len = c.args.len })
    (c.in_ok-note.ensures.base ∙ ap (λ (l : List ℕ). base_of l f.synced.items f.since.items) c.deref.ensures.value)
    c.in_ok-note.ensures.noted
    (same_change c.len.result c.args.len c.args.len (length s.bytes) c.args.len c.args.len (c.len.ensures ∙ long) refl refl)
    (now ∙ ap (λ (n : ℕ). take c.args.len f.seen.items ++ replicate (c.args.len - n) 0) long
    ∙ ap (λ (l : List ℕ). take c.args.len l ++ replicate (c.args.len - length s.bytes) 0) (sym bytes))

reads : (c : goal.In_default) → leaves c.args.self.now.now c.args.self.now.bytes ≡ true
reads c =
    let f = c.self.inside in
    reads_as c.args.self.now f.seen.items f.synced.items f.since.items f.past.items (sym c.self.view_is) c.self.invariant

pub invariant_of-self-in_default : goal.invariant_of-self-in_default
invariant_of-self-in_default c = subst (λ (f : MemFileState). leaves f.now f.bytes ≡ true) (sym (done c)) (cut_leaves c.args.len c.args.self.now (reads c))

pub returns-clause-cut : goal.returns-clause-cut
returns-clause-cut c = done c

pub returns-clause-goes : goal.returns-clause-goes
returns-clause-goes c =
    subst (λ (f : MemFileState). Goes (step_of_cut c.args.len c.args.self.now.bytes) (told_by_file c.args.self.now) (told_by_file f)) (sym (done c))
    (cut_goes c.args.len c.args.self.now (reads c))
