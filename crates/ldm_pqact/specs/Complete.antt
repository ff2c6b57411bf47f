-- When acting on products does all that is asked for.
use Rattle.std.specs.Prelude.{◌≡◌, ℕ, ◌<◌, List, [], ◌∷◌, ◌++◌, length, map, None}
use Rattle.std.specs.List.{flat_map}
use Rattle.ldm_model.specs.declared.event.Reply.TheVariants as reply
use Rattle.ldm_outside.specs.declared.gate.Go.TheVariants as go
use Rattle.ldm_outside.specs.Count.{Rose}
use Rattle.ldm_outside.specs.Io.{Takes}
use Rattle.ldm_shared.specs.declared.steps.TheConstants.{MOST_TURNS}
use Rattle.ldm_shared.specs.Reader.{HasCursor}
use Rattle.ldm_session.specs.Exchange.{IdledAll}
use Rattle.ldm_pqact_conf.specs.Entries.{EntryView}
use Rattle.ldm_actions.specs.Effects.{closed, effects}
use Rattle.ldm_actions.specs.Outputs.{no_outputs, standing}
use Rattle.ldm_pqact.specs.declared.end.ActEnd.{ActEnd}
use Rattle.ldm_pqact.specs.declared.end.ActEnd.TheVariants as end
use Rattle.ldm_pqact.specs.Acted.{ActsOnNone, Situation, UsesOpened, world_at}
use Rattle.ldm_pqact.specs.Acting.{Does, Sight, sight_of}
use Rattle.ldm_pqact.specs.Course.{Stretch, turns_in, work_in}
use Rattle.ldm_shared.specs.Givens.{Turn, products_of}
use Rattle.ldm_shared.specs.Uses.{AreRows}
use Rattle.ldm_pqact.specs.Work.{with_answers, work_of}

-- Nothing hindered: outputs were not spent before, neither store nor launcher nor log failed, and the queue can have a
-- call more.
pub record Unhindered (old new : Sight) : Type 0 where
  pub unspent : old.standing.outputs.spent ≡ None
  pub store : ¬ Rose old.standing.store.faults new.standing.store.faults
  pub launcher : ¬ Rose old.standing.launcher.faults new.standing.launcher.faults
  pub log : ¬ Rose old.log.faults new.log.faults
  pub calls_left : length new.pass.seen < MOST_TURNS

-- ---- the products of a cursor

-- The cursor came to the end of the queue, and holds nothing. Of each product that it was given until then all actions
-- stand whole and all lines are in the log, and of each loss its line.
pub record ActsOnAll (entries : List EntryView) (k : ℕ) (old new : Sight) : Type 0 where
  pub turns : List Turn
  -- so many products the queue had had there
  pub at : ℕ
  pub does : Does k (with_answers (work_of entries turns) (reply.End at ∷ [])) old new
  pub rows : AreRows new.pass (products_of turns)
  pub cursor : HasCursor new.pass k None

-- all was done, or there is no memory
abbrev pub IsComplete : ActEnd → List EntryView → (k : ℕ) → (old new : Sight) → Type 0
IsComplete end.Stopped entries k old new = ActsOnAll entries k old new
IsComplete end.OutOfMemory entries k old new = Unit {0}
IsComplete end.StoreFault entries k old new = ⊥
IsComplete end.LaunchFault entries k old new = ⊥
IsComplete end.LogFault entries k old new = ⊥
IsComplete end.AllBusy entries k old new = ⊥
IsComplete end.Worn entries k old new = ⊥

-- Where nothing hindered, acting that ended so is complete.
abbrev pub Completes : ActEnd → List EntryView → (k : ℕ) → (old new : Sight) → Type 0
Completes why entries k old new = Unhindered old new → IsComplete why entries k old new

-- ---- `act`

-- what all that is lent tells, while no outputs are kept
abbrev pub sight_in : Situation → Sight
sight_in now = sight_of now.pass (standing no_outputs now.store now.launcher) now.log

-- A cursor was opened, and it came to the end of the queue: behind the last of these stretches the gate said to stop,
-- and behind each other one to go on. All actions on the products that it was given stand whole, with all files shut and
-- all programs waited for; the log has all lines; and the cursor was closed.
pub record ActsToTheEnd (entries : List EntryView) (old new : Situation) : Type 0 where
  -- the place of the cursor
  pub k : ℕ
  pub earlier : List Stretch
  pub last : Stretch
  pub uses : UsesOpened end.Stopped k old.pass new.pass (work_in entries (earlier ++ last ∷ [])).answers
  pub rows : AreRows new.pass (products_of (turns_in (earlier ++ last ∷ [])))
  pub stands : world_at new ≡ closed (effects (work_in entries (earlier ++ last ∷ [])).deeds (world_at old))
  pub logged : Takes old.log (work_in entries (earlier ++ last ∷ [])).lines new.log
  pub idled : IdledAll (map (λ (stretch : Stretch). go.On) earlier ++ go.Stop ∷ []) old.gate new.gate

-- The end is that of its cause: the gate said to stop, once all was done; all cursors were taken, as the queue answered,
-- and nothing else was touched; or there is no memory.
abbrev pub ActIsComplete : ActEnd → List EntryView → (old new : Situation) → Type 0
ActIsComplete end.Stopped entries old new = ActsToTheEnd entries old new
ActIsComplete end.AllBusy entries old new = ActsOnNone end.AllBusy old new
ActIsComplete end.OutOfMemory entries old new = Unit {0}
ActIsComplete end.StoreFault entries old new = ⊥
ActIsComplete end.LaunchFault entries old new = ⊥
ActIsComplete end.LogFault entries old new = ⊥
ActIsComplete end.Worn entries old new = ⊥

abbrev pub ActCompletes : ActEnd → List EntryView → (old new : Situation) → Type 0
ActCompletes why entries old new = Unhindered (sight_in old) (sight_in new) → ActIsComplete why entries old new
