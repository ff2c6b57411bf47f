-- What a whole gathering came to, over all its pieces: which products the cursor gave, and what was done with them.
use Rattle.std.specs.Prelude.{◌≡◌, ◌⊎◌, ℕ, ◌<◌, ◌≤◌, List, [], ◌++◌, length, Option, Some, None, IfSome}
use Rattle.std.specs.List.{flat_map}
use Rattle.std.specs.Option.{ForSome}
use Rattle.ldm_outside.specs.Count.{Rose}
use Rattle.ldm_shared.specs.declared.steps.TheConstants.{MOST_TURNS}
use Rattle.ldm_gather.specs.declared.end.GatherEnd.{GatherEnd}
use Rattle.ldm_gather.specs.declared.end.GatherEnd.TheVariants.{Received, Enough, Stopped}
use Rattle.ldm_gather.specs.EachCourse.{Gives}
use Rattle.ldm_actions.specs.Effects.{Action}
use Rattle.ldm_pqact.specs.declared.end.ActEnd.{ActEnd}
use Rattle.ldm_pqact.specs.declared.end.ActEnd.TheVariants as end
use Rattle.ldm_pqact.specs.Acting.{IsInHand, Sight}
use Rattle.ldm_pqact.specs.Carried.{Carries}
use Rattle.ldm_shared.specs.Givens.{Turn, count_of}
use Rattle.ldm_pqact.specs.Lasting.{last_of}
use Rattle.ldm_pqact.specs.Turns.{deeds_of}
use Rattle.ldm_pqact_conf.specs.Entries.{EntryView}
use Rattle.ldm_pqact_command.specs.declared.stop.ActStop.{ActStop}
use Rattle.ldm_pqact_command.specs.declared.stop.ActStop.TheVariants as stop
use Rattle.ldm_pqact_command.specs.ActerView.{ActerView}
use Rattle.ldm_pqact_command.specs.State.{StateActions, batch_deeds, state_deeds}
use Rattle.ldm_pqact_command.specs.Statuses.{IfStopped}
use Rattle.ldm_pqact_command.specs.Stops.{end_of}

-- As many products were given as were to be acted on, or more, as all of a piece are acted on; or fewer, where there is a count above 0.
abbrev pub IsCounted : GatherEnd → Option ℕ → ℕ → Type 0
IsCounted (Received received) count n = ForSome count (λ most. 0 < most → n < most)
IsCounted Enough count n = (most : ℕ) × (count ≡ Some most) × (most ≤ n)
IsCounted Stopped count n = Unit {0}

-- Why the handler stopped, and how acting on products then ended: only there it may have been broken off.
abbrev pub IsEndedBy : GatherEnd → Option ActStop → ActEnd → Type 0
IsEndedBy (Received received) why ended = ended ≡ end.Stopped
IsEndedBy Enough why ended = ended ≡ end.Stopped
IsEndedBy Stopped why ended = (cause : ActStop) × (why ≡ Some cause) × (ended ≡ end_of cause)

-- What it stopped for: a count that rose from the beginning of the gathering to its end, or the queue has had all its calls. Want of memory
-- may come at any time.
abbrev pub StopCause : ActStop → Sight → Sight → Type 0
StopCause stop.StoreFault old new = Rose old.standing.store.faults new.standing.store.faults
StopCause stop.LaunchFault old new = Rose old.standing.launcher.faults new.standing.launcher.faults
StopCause stop.LogFault old new = Rose old.log.faults new.log.faults
StopCause stop.Worn old new = length new.pass.seen ≡ MOST_TURNS
StopCause stop.OutOfMemory old new = Unit {0}

-- the same with outputs that were not spent before: those that are answer their fault again, and no count rises
abbrev pub HasStopCause : Option ActStop → Sight → Sight → Type 0
HasStopCause why old new = old.standing.outputs.spent ≡ None → IfSome why (λ cause. StopCause cause old new)

-- ---- what was done

-- What a gathering came to.
pub record Came : Type 0 where
  -- the turns that are whole, and the one in hand where that broke off
  pub turns : List Turn
  pub in_hand : List Turn
  -- the actions that stand whole, and those of which some stand whole and of the next a part
  pub whole : List (Action × List ℕ)
  pub broken : List (Action × List ℕ)
  -- the signature of the last product that was given since the state was written, if one was
  pub last : Option (List ℕ)

-- turns that no state is behind: there are none where acting on products was not broken off
abbrev pub IsRest : ActEnd → List Turn → Type 0
IsRest end.Stopped rest = rest ≡ []
IsRest _ rest = Unit {0}

-- the turns of batches
abbrev pub turns_in : List (List Turn) → List Turn
turns_in batches = flat_map (λ (batch : List Turn). batch) batches

-- With a state: behind each batch it is written. Where that broke off, the whole turns of the last batch come behind these, and a part may stand of
-- the turn in hand, or of the state of that batch.
pub record DoesBatches (files : StateActions) (entries : List EntryView) (ended : ActEnd) (came : Came) : Type 0 where
  pub batches : List (List Turn)
  pub rest : List Turn
  pub is_rest : IsRest ended rest
  pub are_turns : came.turns ≡ turns_in batches ++ rest
  pub are_whole : came.whole ≡ flat_map (batch_deeds files entries) batches ++ deeds_of entries rest
  pub are_broken : (came.broken ≡ deeds_of entries came.in_hand) ⊎ ((came.in_hand ≡ []) × (came.broken ≡ state_deeds (Some files) (last_of rest)))
  pub is_last : came.last ≡ last_of (rest ++ came.in_hand)

-- what was done with these turns, with a state or without one
abbrev pub AreDeeds : Option StateActions → List EntryView → ActEnd → Came → Type 0
AreDeeds None entries ended came = (came.whole ≡ deeds_of entries came.turns) × (came.broken ≡ deeds_of entries came.in_hand)
AreDeeds (Some files) entries ended came = DoesBatches files entries ended came

-- ---- all of it

-- The cursor gave these products, as many as a count asks for, and files and programs are what the chosen actions make of what stood before,
-- product by product and entry by entry, with the state behind each batch, if one is kept. Where that broke off, at most one turn was in hand, or the
-- state: of that some stands whole and of the next a part, and all of the earlier ones stand whole. `left` is the handler as it is left: it knows
-- what it stopped for, if it did, and the last product.
pub record ActsAll (gathered : GatherEnd) (left acter : ActerView) (old new : Sight) : Type 0 where
  pub ended : ActEnd
  pub is_ended : IsEndedBy gathered left.why ended
  pub cause : IfStopped gathered (HasStopCause left.why old new)
  pub came : Came
  pub is_in_hand : IsInHand ended came.in_hand
  pub gives : Gives acter.k (came.turns ++ came.in_hand) old.pass new.pass
  pub counted : IsCounted gathered acter.left (count_of (came.turns ++ came.in_hand))
  pub are_deeds : AreDeeds acter.state acter.entries ended came
  pub carried : Carries ended came.whole came.broken old.standing new.standing
  pub is_last : IfStopped gathered (left.last ≡ came.last)
  pub same_state : left.state ≡ acter.state
