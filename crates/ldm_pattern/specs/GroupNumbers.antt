-- The numbers of the groups whose parts are told.
use Rattle.std.specs.Prelude.{ℕ, ◌≤◌}
use Rattle.ldm_pattern.specs.declared.groups.TheConstants.GroupNo.{LAST}

abbrev pub IsTold : ℕ → Type 0
IsTold number = (1 ≤ number) × (number ≤ LAST)
