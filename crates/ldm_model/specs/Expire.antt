-- Evicting the oldest product that no reader holds.
use Rattle.std.specs.Prelude.{ℕ, List, [], ◌∷◌}
use Rattle.ldm_model.specs.declared.event.Reply.TheVariants.{Expired, Nothing}
use Rattle.ldm_model.specs.State.{State}
use Rattle.ldm_model.specs.Evict.{unheld, evict}
use Rattle.ldm_model.specs.Outcome.{Outcome, unchanged}

-- the first of these rows is evicted
abbrev pub expire_first : State → List ℕ → Outcome
expire_first s [] = unchanged s Nothing
expire_first s (n ∷ ns) = record { reply = Expired n; state = evict s n }

unfoldable pub expire : State → Outcome
expire s = expire_first s (unheld s)
