use Rattle.std.proofs.Common.{◌≡◌, ◌∷◌, ◌++◌, [], inr, ℕ, List, sym, ◌∙◌, ap, arith, Vec}
use Rattle.std.specs.declared.alloc.Global.{Global}
use Rattle.std.proofs.lemmas.Bool.{eqb-true, eqb-false}
use Rattle.std.proofs.lemmas.List.{nil_from_length}
use Rattle.ldm_disk_memory.specs.declared.mem_file.Change.{Change}
use Rattle.ldm_disk_memory.specs.declared.mem_file.Epoch.{Epoch}
use Rattle.ldm_disk_memory.specs.Pending.{file_of}
use Rattle.ldm_disk_memory.proofs.MemFiles.{first_leaves, sync_idle, sync_done, reads_as}
use Rattle.ldm_disk_memory.proofs.MemMoments.{synced_settles}
use Rattle.ldm_disk_memory.proofs.mem_file.MemFile.sync.Goals as goal

pub returns-then-is_empty-clause-settles : goal.returns-then-is_empty-clause-settles
returns-then-is_empty-clause-settles c =
    let f = c.self.inside in
    let none : f.since.len ≡ 0 = eqb-true f.since.len 0 (sym c.is_empty.ensures ∙ c.if-is_empty.true) in
    sync_idle c.args.self.now f.seen.items f.synced.items f.since.items f.past.items (sym c.self.view_is) (nil_from_length f.since.items (sym f.since.ok.0 ∙ none))

pub invariant_of-self-2 : goal.invariant_of-self-2
invariant_of-self-2 c =
    first_leaves c.self.inside.seen.items c.replace-synced.new.dest.items c.replace-since.new.dest.items c.push_reserved.new.self.items
    (ap (λ (v : Vec Change Global). v.items) c.replace-since.ensures.after ∙ c.new-2.ensures.items)

pub returns-clause-settles : goal.returns-clause-settles
returns-clause-settles c =
    let f = c.self.inside in
    let none : (f.since.len ≡ 0 → ⊥) = eqb-false f.since.len 0 (sym c.is_empty.ensures ∙ c.if-is_empty.false) in
    let epoch : Epoch = record { synced = c.replace-synced.result; since = c.replace-since.result } in
    let next = file_of f.seen.items c.replace-synced.new.dest.items c.replace-since.new.dest.items c.push_reserved.new.self.items in
    synced_settles c.args.self.now next
    (reads_as c.args.self.now f.seen.items f.synced.items f.since.items f.past.items (sym c.self.view_is) c.self.invariant)
    (inr (sync_done c.args.self.now f.seen.items f.synced.items c.replace-synced.new.dest.items f.since.items c.replace-since.new.dest.items f.past.items c.push_reserved.new.self.items epoch
    (sym c.self.view_is) (omega (arith, none, f.since.ok.0))
    (ap (λ (v : Vec Change Global). v.items) c.replace-since.ensures.after ∙ c.new-2.ensures.items)
    (c.push_reserved.ensures.items ∙ ap (λ (l : List Epoch). l ++ epoch ∷ []) c.in_ok-reserve.ensures.items)
    (ap (λ (v : Vec ℕ Global). v.items) c.replace-synced.ensures.value) (ap (λ (v : Vec Change Global). v.items) c.replace-since.ensures.value)))
