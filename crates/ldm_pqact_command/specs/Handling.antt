-- What a call of the handler does.
use Rattle.std.specs.Prelude.{◌≡◌, ℕ, ◌<◌, Option, Some, None}
use Rattle.std.specs.Option.{ForSome}
use Rattle.ldm_outside.specs.Launcher.{LauncherRecord}
use Rattle.ldm_outside.specs.Store.{StoreRecord}
use Rattle.ldm_actions.specs.Outputs.{KeepsUnlessSpent, Standing, standing}
use Rattle.ldm_gather.specs.declared.end.Handled.{Handled}
use Rattle.ldm_gather.specs.declared.end.Handled.TheVariants.{On, Enough, Stopped}
use Rattle.ldm_gather.specs.Scene.{Scene}
use Rattle.ldm_pqact.specs.declared.end.ActEnd.{ActEnd}
use Rattle.ldm_pqact.specs.declared.end.ActEnd.TheVariants as end
use Rattle.ldm_pqact.specs.Acting.{ActsOn, sight_of}
use Rattle.ldm_pqact.specs.Lasting.{LastGiven}
use Rattle.ldm_shared.specs.Counting.{CountsGiven}
use Rattle.ldm_pqact_command.specs.declared.stop.ActStop.{ActStop}
use Rattle.ldm_pqact_command.specs.ActerView.{ActerView}
use Rattle.ldm_pqact_command.specs.State.{KeepsState, state_deeds}
use Rattle.ldm_pqact_command.specs.Stops.{end_of}

-- by what it answers: some products are left to be given, where there is a count; or none
abbrev pub Leaves : Handled → Option ℕ → Type 0
Leaves On left = ForSome left (λ n. 0 < n)
Leaves Enough left = left ≡ Some 0
Leaves Stopped left = Unit {0}

-- by what it answers: acting on products came to the end of the queue; or it ended before, for what the handler stopped for
abbrev pub EndsFor : Handled → Option ActStop → ActEnd → Type 0
EndsFor On why ended = (ended ≡ end.Stopped) × (why ≡ None)
EndsFor Enough why ended = (ended ≡ end.Stopped) × (why ≡ None)
EndsFor Stopped why ended = (cause : ActStop) × (why ≡ Some cause) × (ended ≡ end_of cause)

module _ {F L : Type 0} (store_tells : F → StoreRecord) (launcher_tells : L → LauncherRecord) where
  -- the outputs of the handler, with the store and the launcher that it is lent
  abbrev pub standing_in : ActerView → F → L → Standing
  standing_in acter store launcher = standing acter.outputs (store_tells store) (launcher_tells launcher)

  -- It did not stop, and what its outputs keep is of this store and launcher.
  pub record ActBegins (acter : ActerView) (store : F) (launcher : L) : Type 0 where
    pub goes : acter.why ≡ None
    pub keeps : KeepsUnlessSpent (standing_in acter store launcher)

  -- The entries acted on what the cursor gave, up to an end of that; and where that is the end of the queue, the state of the last product is
  -- written, if one is kept and a product was given. Each product that the cursor gave was counted off, and by what is left then it goes on, or
  -- has enough.
  pub record ActHandles (answer : Handled) (old new : Scene ActerView F L) : Type 0 where
    -- how acting on products ended, and what stood then
    pub acted : ActEnd
    pub mid : Standing
    pub acts : ActsOn acted old.handler.entries old.handler.k
        (sight_of old.pass (standing_in old.handler old.first old.second) old.log) (sight_of new.pass mid new.log)
    pub is_last : LastGiven old.pass new.pass None new.handler.last
    -- how it ended, the state included
    pub ended : ActEnd
    pub keeps_state : KeepsState acted ended (state_deeds old.handler.state new.handler.last) mid (standing_in new.handler new.first new.second)
    pub ends : EndsFor answer new.handler.why ended
    pub counts : CountsGiven old.pass new.pass old.handler.left new.handler.left
    pub leaves : Leaves answer new.handler.left
    pub keeps : KeepsUnlessSpent (standing_in new.handler new.first new.second)
    pub others : new.handler
        ≡ record old.handler { left = new.handler.left; outputs = new.handler.outputs; last = new.handler.last; why = new.handler.why }
