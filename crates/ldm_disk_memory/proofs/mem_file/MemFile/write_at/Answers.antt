use Rattle.std.proofs.Common.{◌≡◌, ◌+◌, min, max, true, List, ℕ, length, sym, ◌∙◌, ap, subst, arith}
use Rattle.std.proofs.lemmas.Bool.{eqb-false}
use Rattle.ldm_disk.specs.Model.{written_at, step_of_write}
use Rattle.ldm_disk.specs.Moments.{Goes}
use Rattle.ldm_disk_memory.specs.Pending.{file_of, base_of}
use Rattle.ldm_disk_memory.specs.MemDisk.{MemFileState, leaves, file_written, told_by_file}
use Rattle.ldm_disk_memory.proofs.MemFiles.{reads_as, bytes_as, write_whole, same_change}
use Rattle.ldm_disk_memory.proofs.Torn.{written_leaves, written_goes}
use Rattle.ldm_disk_memory.proofs.mem_file.MemFile.write_at.Goals as goal

-- the file after the write, by its fields
done : (c : goal.In_default-put) → file_of c.put.new.bytes.items c.note.new.synced.items c.note.new.since.items c.self.inside.past.items ≡ file_written c.args.at c.args.piece.now c.args.self.now
done c =
    let f = c.self.inside in
    let s = c.args.self.now in
    let at = c.args.at in
    let piece = c.args.piece.now in
    let bytes : s.bytes ≡ f.seen.items = bytes_as s f.seen.items f.synced.items f.since.items f.past.items (sym c.self.view_is) in
    let long : f.seen.len ≡ length s.bytes = f.seen.ok.0 ∙ sym (ap length bytes) in
    let none : (length piece ≡ 0 → ⊥) = eqb-false (length piece) 0 (sym c.is_empty.ensures ∙ c.if-is_empty.false) in
    let end : c.in-Some.end ≡ at + length piece = omega (arith, c.in-Some.ensures) in
    let start : c.min.result ≡ min at (length s.bytes) = omega (arith, c.min.ensures, c.len.ensures, long) in
    let len : c.max.result ≡ max (length s.bytes) (at + length piece) = omega (arith, c.max.ensures, c.len-2.ensures, long, end) in
    write_whole s f.seen.items f.synced.items f.since.items f.past.items (sym c.self.view_is) at piece c.put.new.bytes.items c.note.new.synced.items c.note.new.since.items
    (record { start = c.min.result; end = c.in-Some.end; len = c.max.result })
    (omega (arith, none))
    (c.in_ok-note.ensures.base ∙ ap (λ (l : List ℕ). base_of l f.synced.items f.since.items) c.deref.ensures.value)
    c.in_ok-note.ensures.noted
    (same_change c.min.result c.in-Some.end c.max.result (min at (length s.bytes)) (at + length piece) (max (length s.bytes) (at + length piece)) start end len)
    (c.in_default-put.ensures.written ∙ ap (λ (l : List ℕ). written_at at piece l) (sym bytes))

reads : (c : goal.In_default-put) → leaves c.args.self.now.now c.args.self.now.bytes ≡ true
reads c =
    let f = c.self.inside in
    reads_as c.args.self.now f.seen.items f.synced.items f.since.items f.past.items (sym c.self.view_is) c.self.invariant

pub invariant_of-self-in_default-put : goal.invariant_of-self-in_default-put
invariant_of-self-in_default-put c =
    subst (λ (f : MemFileState). leaves f.now f.bytes ≡ true) (sym (done c)) (written_leaves c.args.at c.args.piece.now c.args.self.now (reads c))

pub returns-clause-written : goal.returns-clause-written
returns-clause-written c = done c

pub returns-clause-goes : goal.returns-clause-goes
returns-clause-goes c =
    subst (λ (f : MemFileState). Goes (step_of_write c.args.at c.args.piece.now c.args.self.now.bytes) (told_by_file c.args.self.now) (told_by_file f)) (sym (done c))
    (written_goes c.args.at c.args.piece.now c.args.self.now (reads c))
