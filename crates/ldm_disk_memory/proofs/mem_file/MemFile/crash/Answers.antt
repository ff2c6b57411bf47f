use Rattle.std.proofs.Common.{◌≡◌, ◌+◌, true, List, ℕ, length, take, sym, ◌∙◌, ap, subst, arith}
use Rattle.std.proofs.lemmas.Bool.{and_parts}
use Rattle.std.proofs.lemmas.List.{with_items_is}
use Rattle.ldm_disk_memory.specs.MemDisk.{leaves, settled, fits}
use Rattle.ldm_disk_memory.specs.Pending.{after_changes}
use Rattle.ldm_disk_memory.proofs.MemMoments.{settled_itself, spoiled_more}
use Rattle.ldm_disk_memory.proofs.mem_file.MemFile.crash.Goals as goal

pub loop-change-init : goal.loop-change-init
loop-change-init c = settled_itself c.self.inside.synced.items

pub loop-change-preserved : goal.loop-change-preserved
loop-change-preserved c =
    let left = c.loop-change.left in
    let now = c.spoil.new.bytes in
    let base = c.self.inside.synced.items in
    let since = c.deref-change-items.result.now in
    let i = c.loop-change.change-index in
    let stays = (after_changes (settled base) (take i since)).stays in
    let was : c.deref_mut.result.now ≡ left.items = c.deref_mut.ensures.value in
    let long : length now ≡ length left.items = c.spoil.ensures.len ∙ ap length was in
    let fit = subst (λ (l : List ℕ). fits stays l ≡ true) (sym was) (and_parts _ _ c.loop-change.invariant).1 in
    subst (λ (l : List ℕ). leaves (after_changes (settled base) (take (i + 1) since)) l ≡ true) (sym (with_items_is left now (long ∙ sym left.ok.0)))
    (spoiled_more base since i (record { start = 0; end = 0; len = 0 }) left.items now (omega arith) c.loop-change.invariant long (c.spoil.ensures.fits stays fit))
