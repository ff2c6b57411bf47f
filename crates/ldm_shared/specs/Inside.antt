-- What a pass and a shared queue keep.
use Rattle.std.specs.Prelude.{◌≡◌, ◌<◌, false, cond, [], ◌∷◌, Some, None}
use Rattle.ldm_shared.specs.Passes.{PassView}
use Rattle.ldm_shared.specs.declared.pass.Pass.TheInside as pass

abbrev pub view_of_pass : pass.Inside → PassView
view_of_pass p = record {
  queue = cond p.seat.me.0.turn None (Some p.seat.table_id);
  arena = p.seat.me.0.arena;
  slots = p.seat.me.0.slots;
  passes = p.seat.me.0.passes;
  actor = p.actor;
  seen = p.seat.me.0.seen;
}

-- A seat that has neither the turn nor a slot, and answers for one actor.
pub record IsIdle (p : pass.Inside) : Type 0 where
  pub free : p.seat.me.1 ≡ []
  pub actors : p.seat.me.0.actors ≡ p.actor ∷ []
  pub olds : p.seat.me.0.olds ≡ []
  pub passes : 0 < p.seat.me.0.passes

-- the seat of a pass, until the queue ends
abbrev pub IsPass : pass.Inside → Type 0
IsPass p = p.seat.me.0.turn ≡ false → IsIdle p
