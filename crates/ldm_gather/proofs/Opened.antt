-- A new queue: its only pass opens a cursor.
use Rattle.std.proofs.Common.{◌≡◌, ℕ, List, [], ◌∷◌, subst}
use Rattle.ldm_model.specs.declared.event.Reply.TheVariants as reply
use Rattle.ldm_model.specs.declared.event.Start.TheVariants as start
use Rattle.ldm_model.specs.declared.event.Entry.{Entry}
use Rattle.ldm_model.specs.History.{IsLegal}
use Rattle.ldm_model.specs.Open.{open_cursor}
use Rattle.ldm_model.specs.State.{empty}
use Rattle.ldm_shared.specs.Passes.{SharedView, PassView, Grows, Makes, entry_of, new_pass}
use Rattle.ldm_gather.specs.Queue.{opening}

not-busy : (arena slots actor feed : ℕ) → reply.AllBusy ≡ (open_cursor (empty arena slots) actor feed start.Oldest).reply → ⊥
unfolding open_cursor
not-busy arena slots actor feed busy = cc busy

-- what the entries of a queue of one pass are: those that it made, and they are legal
abbrev pub IsAlone : Type 0
IsAlone = (shared : SharedView) (pass : PassView) (made : List Entry) → Makes (new_pass shared 0) pass made → shared.passes ≡ 1
    → (pass.seen ≡ made) × IsLegal shared.arena shared.slots made

-- not all places are taken in a new queue
pub no-busy : (law : IsAlone) (shared : SharedView) (pass new : PassView) → pass ≡ new_pass shared 0 → shared.passes ≡ 1 → Grows pass new opening reply.AllBusy → ⊥
no-busy law shared pass new first alone grows =
    let at : Grows (new_pass shared 0) new opening reply.AllBusy = subst (λ (p : PassView). Grows p new opening reply.AllBusy) first grows in
    let legal = law shared new (entry_of (new_pass shared 0) opening reply.AllBusy ∷ []) at.makes alone in
    not-busy shared.arena shared.slots 0 _ legal.1.0.reply
