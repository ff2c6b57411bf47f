-- The numbers of a chain that has not fed each node: for `queues_are_of_histories`.
use Rattle.std.proofs.Common.{◌≡◌, ◌∙◌, ◌⊎◌, ℕ, ◌+◌, List, [], ◌∷◌, length, Bool, true, false, inl, inr, refl, sym, ap}
use Rattle.std.specs.Prelude.{◌==◌, if◌then◌else◌}
use Rattle.std.specs.List.{AllByRecursion}
use Rattle.ldm_outside.specs.Io.{WritesFront}
use Rattle.ldm_model.specs.declared.event.Entry.{Entry}
use Rattle.ldm_model.specs.State.{State}
use Rattle.ldm_model.specs.History.{after}
use Rattle.ldm_model.specs.Lawful.{IsLawful}
use Rattle.ldm_status.specs.declared.status.Status.{Status}
use Rattle.ldm_status.specs.Status.{code_of}
use Rattle.ldm_command_files.specs.declared.conf_file.ConfNotTaken.TheVariants as untaken_conf
use Rattle.ldm_status.specs.declared.whole_script.ScriptFault.TheVariants as untaken
use Rattle.ldm_class.specs.Rules.{Rules}
use Rattle.ldm_intake.specs.declared.end.RecvEnd.{RecvEnd}
use Rattle.ldm_intake.specs.declared.end.RecvEnd.TheVariants as received
use Rattle.ldm_sender.specs.declared.end.SendEnd.{SendEnd}
use Rattle.ldm_sender.specs.declared.end.SendEnd.TheVariants as fed
use Rattle.ldm_chain.specs.declared.node.ChainEnd.{ChainEnd}
use Rattle.ldm_chain.specs.declared.node.ChainEnd.TheVariants as chain_end
use Rattle.ldm_chain.specs.declared.fault.ChainFault.{ChainFault}
use Rattle.ldm_chain.specs.declared.fault.ChainFault.TheVariants as stop
use Rattle.ldm_chain.specs.Work.{ChainOutside, ChainWork}
use Rattle.ldm_chain.specs.Script.{script_played}
use Rattle.ldm_chain.specs.CommandQueues.{nodes_text}
use Rattle.ldm_chain.specs.CommandEnding.{Chains}
use Rattle.ldm_chain.specs.Law.{ChainWritesNothing, IsLawfulQueue, IsUnchained, ObeysChainLaw}
use Rattle.ldm_chain.specs.Statuses.{status_of_end, status_of_fed, status_of_received, status_of_stop}
use Rattle.ldm_chain.specs.Unfed.{UnfedCause}

-- the numbers of a chain that has fed each node, but for that of a log that failed
abbrev HasText : ℕ → Type 0
HasText code = (code ≡ 0) ⊎ (code ≡ 75)

-- whether a number is none of them
is_other : ℕ → Bool
is_other code = if code == 0 then false else (if code == 75 then false else true)

abbrev IsOther : Status → Type 0
IsOther ending = is_other (code_of ending) ≡ true

fed-other : (end : SendEnd) → IsOther (status_of_fed end)
unfolding is_other
fed-other fed.Stopped = refl
fed-other fed.Reclassed = refl
fed-other (fed.Denied rule) = refl
fed-other (fed.PeerEnd at) = refl
fed-other fed.LinkFault = refl
fed-other fed.LogFault = refl
fed-other (fed.BadReply at) = refl
fed-other fed.AllBusy = refl
fed-other fed.Worn = refl
fed-other fed.OutOfMemory = refl

received-other : (end : RecvEnd) → IsOther (status_of_received end)
unfolding is_other
received-other received.Ended = refl
received-other (received.Truncated at) = refl
received-other (received.BadFrame at) = refl
received-other (received.Refused answer) = refl
received-other received.LinkFault = refl
received-other received.LogFault = refl
received-other received.StreamLimit = refl
received-other received.Worn = refl
received-other received.OutOfMemory = refl

unfed-other : (end : ChainEnd) (rules : Rules) (work : ChainWork) (node : ℕ) → UnfedCause end rules work node → IsOther (status_of_end end)
unfolding is_other
unfed-other chain_end.Done rules work node cause = absurd cause
unfed-other (chain_end.Feed end) rules work node cause = fed-other end
unfed-other (chain_end.Receive end) rules work node cause = received-other end
unfed-other chain_end.OutOfMemory rules work node cause = refl

-- the calls of a queue are a history that obeys the law, and it stands so after them: as the law says it
abbrev IsOfHistory : ChainWork → State → Type 0
IsOfHistory work queue = (history : List Entry) × IsLawful work.arena work.slots history × (queue ≡ after work.arena work.slots history)

of-histories : (work : ChainWork) (queues : List State) → AllByRecursion (IsLawfulQueue work) queues → AllByRecursion (IsOfHistory work) queues
of-histories work [] lawful = tt
of-histories work (queue ∷ queues) lawful = ((lawful.0.history, lawful.0.lawful, lawful.0.state), of-histories work queues lawful.1)

module _ (work : ChainWork) (old new : ChainOutside) where
  stop-other : (why : ChainFault) → IsUnchained why work old new → IsOther (status_of_stop why)
  unfolding is_other
  stop-other (stop.BadArena arena) cause = refl
  stop-other (stop.BadSlots slots) cause = refl
  stop-other (stop.ConfNotTaken (untaken_conf.Bad fault)) cause = refl
  stop-other (stop.ConfNotTaken untaken_conf.Store) cause = refl
  stop-other (stop.ConfNotTaken untaken_conf.OutOfMemory) cause = refl
  stop-other (stop.ScriptFault untaken.StreamLimit) cause = refl
  stop-other (stop.ScriptFault untaken.SourceFault) cause = refl
  stop-other (stop.ScriptFault untaken.OutOfMemory) cause = refl
  stop-other (stop.BadLine line column) cause = refl
  stop-other (stop.NotFed end) cause = unfed-other end cause.0.taken.rules work (length cause.0.instants + 1) cause.0.cause
  stop-other stop.SinkFault cause = absurd cause
  stop-other stop.OutOfMemory cause = refl

  not-other : (code : ℕ) → HasText code → is_other code ≡ false
  unfolding is_other
  not-other code (inl done) = ap is_other done
  not-other code (inr cut) = ap is_other cut

  log-failed : (code : ℕ) → code ≡ 76 → is_other code ≡ true
  unfolding is_other
  log-failed code is = ap is_other is

  no-text : (code : ℕ) → HasText code → ChainWritesNothing work code old new → ⊥
  no-text code has nothing = elim nothing.told [
    | inl told ↦ (
        let no : false ≡ true = sym (not-other code has) ∙ ap is_other told.0 ∙ stop-other nothing.why nothing.cause in
        cc no
        )
    | inr failed ↦ (let no : false ≡ true = sym (not-other code has) ∙ log-failed code failed.0 in cc no)
  ]

  pub chained : (code : ℕ) → HasText code → ObeysChainLaw work code old new
      → (queues : List State)
      × ((chains : Chains work queues old new)
      × IsLawful work.arena work.slots (script_played work.arena work.slots chains.script).playing.history
      × AllByRecursion (IsOfHistory work) queues
      × WritesFront old.streams.sink (nodes_text 1 queues) new.streams.sink)
  chained code has (inl nothing) = absurd (no-text code has nothing)
  chained code has (inr lawful) =
      (lawful.queues, (lawful.chains, lawful.script_lawful, of-histories work lawful.queues lawful.queues_lawful, lawful.front))
