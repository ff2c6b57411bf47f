-- What an entry does, if it acts.
use Rattle.std.specs.Prelude.{◌≡◌, ℕ, Bool, true, false, Option, Some, None}
use Rattle.ldm_types.specs.Info.{Metadata}
use Rattle.ldm_pqact_conf.specs.Entries.{EntryView}
use Rattle.ldm_pqact_match.specs.declared.chosen.Decision.{Decision}
use Rattle.ldm_pqact_match.specs.Matching.{acts}
use Rattle.ldm_pqact_match.specs.Choice.{decision_for}

-- there is a decision exactly where the entry acts
abbrev pub IsChoice : Bool → Metadata → ℕ → EntryView → Option Decision → Type 0
IsChoice matched info time entry None = acts matched info entry ≡ false
IsChoice matched info time entry (Some decision) = (acts matched info entry ≡ true) × (decision ≡ decision_for info time entry)
