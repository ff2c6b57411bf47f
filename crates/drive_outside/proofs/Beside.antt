-- A child takes bytes still where another is waited for.
use Rattle.std.proofs.Common.{◌≢◌, ℕ, Result, Ok, Err}
use Rattle.ldm_outside.specs.declared.fault.Failed.{Failed}
use Rattle.ldm_outside.specs.declared.launcher.ChildNo.{ChildNo}
use Rattle.ldm_outside.specs.Launcher.{LauncherRecord, IsTaking, WaitsForChild}
use Rattle.ldm_outside.proofs.StoreLemmas.{IsTaking-fails, IsTaking-waited}

pub taking_after_wait : (result : Result ℕ Failed) (child other : ChildNo) (old new : LauncherRecord) → WaitsForChild result child old new → other.0 ≢ child.0 → IsTaking other old → IsTaking other new
taking_after_wait (Ok status) child other old new is apart taking = IsTaking-waited other child old new apart is taking
taking_after_wait (Err failed) child other old new fails apart taking = IsTaking-fails other old new fails taking
