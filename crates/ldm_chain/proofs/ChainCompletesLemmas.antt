-- A chain that nothing hinders writes all its text: for `ChainCompletes`.
use Rattle.std.proofs.Common.{◌≡◌, ℕ, ◌+◌, ◌<◌, ◌⊎◌, List, ◌++◌, length, Option, Some, None, Ok, Err, Result, inl, inr, refl, sym, ap, ◌∙◌, arith, length-append}
use Rattle.std.specs.Prelude.{IfErr}
use Rattle.ldm_outside.specs.Count.{Rose}
use Rattle.ldm_outside.specs.Io.{Gives}
use Rattle.ldm_outside.specs.Store.{StoreRecord}
use Rattle.ldm_status.proofs.SourceLemmas.{parts, whole_at_end}
use Rattle.ldm_status.specs.declared.status.Status.{Status}
use Rattle.ldm_status.specs.declared.status.Status.TheVariants as status
use Rattle.ldm_status.specs.Status.{code_of, Reports}
use Rattle.ldm_command_files.specs.declared.conf_file.ConfNotTaken.{ConfNotTaken}
use Rattle.ldm_command_files.specs.declared.conf_file.ConfNotTaken.TheVariants as untaken_conf
use Rattle.ldm_status.specs.WholeScript.{TakesWhole}
use Rattle.ldm_chain.specs.Script.{script_played}
use Rattle.ldm_status.specs.declared.whole_script.TheConstants.{LONGEST_SCRIPT}
use Rattle.ldm_status.specs.declared.whole_script.ScriptFault.TheVariants as untaken
use Rattle.ldm_class.specs.Rules.{Rules}
use Rattle.ldm_relay.specs.declared.message.ClassAnswer.{ClassAnswer}
use Rattle.ldm_relay.specs.declared.message.ClassAnswer.TheVariants as class_answer
use Rattle.ldm_intake.specs.declared.end.RecvEnd.{RecvEnd}
use Rattle.ldm_intake.specs.declared.end.RecvEnd.TheVariants as received
use Rattle.ldm_sender.specs.declared.end.SendEnd.{SendEnd}
use Rattle.ldm_sender.specs.declared.end.SendEnd.TheVariants as fed
use Rattle.ldm_chain.specs.declared.node.ChainEnd.{ChainEnd}
use Rattle.ldm_chain.specs.declared.node.ChainEnd.TheVariants as chain_end
use Rattle.ldm_chain.specs.declared.fault.ChainFault.{ChainFault}
use Rattle.ldm_chain.specs.declared.fault.ChainFault.TheVariants as stop
use Rattle.ldm_chain.specs.Work.{ChainOutside, ChainWork}
use Rattle.ldm_chain.specs.Policy.{NotTakenCompletes, TakesNoRules, UntakenCompletes}
use Rattle.ldm_chain.specs.CommandEnding.{ChainEnds, ChainStops}
use Rattle.ldm_chain.specs.Statuses.{status_of_chain, status_of_end, status_of_fed, status_of_received, status_of_stop}
use Rattle.ldm_chain.specs.Unfed.{FeedCause, ReceiveCause, RefusedCause, UnfedCause}
use Rattle.ldm_chain.specs.Complete.{ChainUnhindered, HasConf, LeavesAll}

-- the status where it can stop nonetheless
abbrev IsFree : Status → Type 0
IsFree ending = ending ≡ status.NoMemory

-- not each node was fed
module _ (rules : Rules) (work : ChainWork) (node : ℕ) (leaves : LeavesAll rules work) where
  denied-free : (answer : ClassAnswer) → RefusedCause answer rules work node → ⊥
  denied-free class_answer.Denied cause = leaves.some cause.0
  denied-free class_answer.Busy cause = cause
  denied-free class_answer.Ok cause = cause
  denied-free (class_answer.Reclass fewer) cause = cause
  denied-free class_answer.BadPattern cause = cause

  received-free : (end : RecvEnd) → ReceiveCause end rules work node → IsFree (status_of_received end)
  received-free received.Worn cause = absurd cause
  received-free (received.Refused answer) cause = absurd (denied-free answer cause)
  received-free (received.BadFrame at) cause = absurd (leaves.meant cause.0)
  received-free received.Ended cause = absurd cause
  received-free (received.Truncated at) cause = absurd cause
  received-free received.LinkFault cause = absurd cause
  received-free received.LogFault cause = absurd cause
  received-free received.StreamLimit cause = absurd cause
  received-free received.OutOfMemory cause = absurd cause

  fed-free : (end : SendEnd) → FeedCause end → IsFree (status_of_fed end)
  fed-free fed.Worn cause = absurd cause
  fed-free fed.OutOfMemory cause = refl
  fed-free fed.Stopped cause = absurd cause
  fed-free fed.Reclassed cause = absurd cause
  fed-free (fed.Denied rule) cause = absurd cause
  fed-free (fed.PeerEnd at) cause = absurd cause
  fed-free fed.LinkFault cause = absurd cause
  fed-free fed.LogFault cause = absurd cause
  fed-free (fed.BadReply at) cause = absurd cause
  fed-free fed.AllBusy cause = absurd cause

  unfed-free : (end : ChainEnd) → UnfedCause end rules work node → IsFree (status_of_end end)
  unfed-free chain_end.Done cause = absurd cause
  unfed-free (chain_end.Feed end) cause = fed-free end cause
  unfed-free (chain_end.Receive end) cause = received-free end cause
  unfed-free chain_end.OutOfMemory cause = refl

-- a configuration is given
abbrev IfGiven : Option (List ℕ) → Type 0
IfGiven None = ⊥
IfGiven (Some path) = Unit {0}

is-given : (why : ConfNotTaken) (conf : Option (List ℕ)) (old new : StoreRecord) → TakesNoRules why conf old new → IfGiven conf
is-given why None old new taken = absurd taken
is-given why (Some path) old new taken = tt

not-taken : (why : ConfNotTaken) (conf : Option (List ℕ)) (old new : StoreRecord) → HasConf conf old → ¬ (Rose old.faults new.faults) → IfGiven conf
    → NotTakenCompletes why conf old new → why ≡ untaken_conf.OutOfMemory
not-taken why None old new has works given completes = absurd given
not-taken why (Some path) old new has works given completes =
    elim (completes has.0.0 _ has.0.1 has.1.1 works) [ inl answer ↦ (let e = answer.1 in absurd cc) | inr none ↦ cc ]

module _ (work : ChainWork) (old new : ChainOutside) (free : ChainUnhindered work old new) where
  part : (taken : List ℕ) → Gives old.streams.source taken new.streams.source → (rest : List ℕ) × (new.streams.source.left ≡ Some rest) × (free.script ≡ taken ++ rest)
  part taken gives = parts free.script taken old.streams.source new.streams.source free.told gives

  -- no more is taken than there is
  short_taken : (taken : List ℕ) → Gives old.streams.source taken new.streams.source → length taken < LONGEST_SCRIPT
  short_taken taken gives =
      let p = part taken gives in
      omega (arith, free.short, ap length p.2, length-append taken p.0)

  -- what was taken whole is all that there is
  whole_taken : (taken : List ℕ) → TakesWhole taken old.streams.source new.streams.source → free.script ≡ taken
  whole_taken taken whole = whole_at_end free.script taken old.streams.source new.streams.source free.told whole.taken whole.at_end

  stops_for : (why : ChainFault) → ChainStops why work old new → UntakenCompletes why work.conf old.store new.store → IsFree (status_of_stop why)
  stops_for (stop.BadArena arena) ends completes = absurd (ends.1 (free.good.arena, free.good.most))
  stops_for (stop.BadSlots slots) ends completes = absurd (ends.2 free.good.slots)
  stops_for (stop.ConfNotTaken why) ends completes =
      ap (λ (w : ConfNotTaken). status_of_stop (stop.ConfNotTaken w)) (not-taken why work.conf old.store new.store free.conf free.store_works (is-given why work.conf old.store new.store ends.1) completes)
  stops_for (stop.ScriptFault untaken.StreamLimit) ends completes = absurd (omega (arith, short_taken ends.2.text ends.2.taken, ends.2.stops))
  stops_for (stop.ScriptFault untaken.SourceFault) ends completes = absurd (free.source_works ends.2.stops.1)
  stops_for (stop.ScriptFault untaken.OutOfMemory) ends completes = refl
  stops_for (stop.BadLine line column) ends completes =
      let same = sym free.to_end ∙ ap (λ (script : List ℕ). (script_played work.arena work.slots script).stop) (whole_taken ends.0 ends.1.taken) ∙ ends.2 in
      absurd cc
  stops_for (stop.NotFed end) ends completes =
      let taken = ends.0.taken in unfed-free taken.rules work (length ends.0.instants + 1) (free.leaves taken.rules taken.taken_rules) end ends.0.cause
  stops_for stop.SinkFault ends completes = absurd (free.sink_works ends.2)
  stops_for stop.OutOfMemory ends completes = refl

  pub chain-completes : (ending : Result (Unit {0}) ChainFault) (code : ℕ) → ChainEnds ending work old new
      → IfErr ending (λ why. UntakenCompletes why work.conf old.store new.store) → Reports (status_of_chain ending) code old.streams.log new.streams.log
      → (code ≡ 0) ⊎ (code ≡ 71)
  chain-completes (Ok done) code ends completes reports = elim reports [ inl told ↦ inl told.0 | inr failed ↦ absurd (free.log_works failed.1) ]
  chain-completes (Err why) code ends completes reports = elim reports [
    | inl told ↦ inr (told.0 ∙ ap code_of (stops_for why ends completes))
    | inr failed ↦ absurd (free.log_works failed.1)
  ]
