-- Which products are due to the host that asked.
use Rattle.std.specs.Prelude.{ℕ, Bool, ◌&&◌, nat_le}
use Rattle.ldm_types.specs.Info.{Metadata}
use Rattle.ldm_class.specs.Access.{is_yes, verdict}
use Rattle.ldm_class.specs.Classes.{wants}
use Rattle.ldm_sender.specs.Asked.{Asked}

-- Whether a product is due: it was inserted no later than the class asks, the class wants it, and the rules let the
-- host have it.
abbrev pub is_due : Asked → ℕ → Metadata → Bool
is_due asked time info =
    nat_le time asked.class.to && wants asked.class info && is_yes (verdict asked.rules asked.host info)
