-- One worker.
use Rattle.ldm_shared.specs.Passes.{SharedView, PassView, IsPassOf, IsSamePass}
use Rattle.ldm_shared.specs.declared.worker.Worker.{Worker}

-- a worker may begin with its pass, which is of the queue
pub record Begins {T : Type 0} (may : PassView → T → Type 0) (shared : SharedView) (worker : Worker T) : Type 0 where
  pub of : IsPassOf shared worker.pass
  pub begins : may worker.pass worker.own

-- it did its work, with the same pass
pub record Works {T : Type 0} (does : PassView → T → PassView → T → Type 0) (old new : Worker T) : Type 0 where
  pub same : IsSamePass old.pass new.pass
  pub works : does old.pass old.own new.pass new.own
