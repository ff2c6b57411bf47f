-- What a chain writes obeys the law of the queue: for `ObeysChainLaw`.
use Rattle.std.proofs.Common.{ℕ, List, [], ◌∷◌, Result, Ok, Err, inl, inr}
use Rattle.std.specs.List.{AllByRecursion}
use Rattle.std.proofs.lemmas.List.{append-nil}
use Rattle.ldm_model.specs.declared.event.Entry.{Entry}
use Rattle.ldm_model.specs.State.{State}
use Rattle.ldm_model.specs.History.{IsLegal}
use Rattle.ldm_model.specs.Lawful.{IsLawful}
use Rattle.ldm_status.specs.Status.{Reports}
use Rattle.ldm_chain.specs.declared.fault.ChainFault.{ChainFault}
use Rattle.ldm_chain.specs.declared.fault.ChainFault.TheVariants as stop
use Rattle.ldm_chain.specs.Work.{ChainOutside, ChainWork}
use Rattle.ldm_chain.specs.CommandQueues.{nodes_text}
use Rattle.ldm_chain.specs.CommandEnding.{ChainEnds, ChainStops, IsLegalQueue}
use Rattle.ldm_chain.specs.Law.{IsLawfulQueue, ObeysChainLaw}
use Rattle.ldm_chain.specs.Statuses.{status_of_chain, status_of_stop}

module _ (lawful : (arena slots : ℕ) (history : List Entry) → IsLegal arena slots history → IsLawful arena slots history) (work : ChainWork) where
  all-lawful : (queues : List State) → AllByRecursion (IsLegalQueue work) queues → AllByRecursion (IsLawfulQueue work) queues
  all-lawful [] legal = tt
  all-lawful (queue ∷ queues) legal = (
    record { history = legal.0.history; lawful = lawful work.arena work.slots legal.0.history legal.0.legal; state = legal.0.state },
    all-lawful queues legal.1,
  )

  module _ (code : ℕ) (old new : ChainOutside) where
    stops : (why : ChainFault) → ChainStops why work old new → Reports (status_of_stop why) code old.streams.log new.streams.log → ObeysChainLaw work code old new
    stops (stop.BadArena arena) stopped told = inl (record { why = stop.BadArena arena; cause = stopped; told = told })
    stops (stop.BadSlots slots) stopped told = inl (record { why = stop.BadSlots slots; cause = stopped; told = told })
    stops (stop.ConfNotTaken why) stopped told = inl (record { why = stop.ConfNotTaken why; cause = stopped; told = told })
    stops (stop.ScriptFault why) stopped told = inl (record { why = stop.ScriptFault why; cause = stopped; told = told })
    stops (stop.BadLine line column) stopped told = inl (record { why = stop.BadLine line column; cause = stopped; told = told })
    stops (stop.NotFed end) (chains, still) told = inl (record {
      why = stop.NotFed end;
      cause = (chains, lawful work.arena work.slots _ chains.script_legal, all-lawful chains.queues chains.queues_legal, still);
      told = told;
    })
    stops stop.SinkFault (queues, chains, rose, front) told = inr (record {
      queues = queues;
      chains = chains;
      script_lawful = lawful work.arena work.slots _ chains.script_legal;
      queues_lawful = all-lawful queues chains.queues_legal;
      front = front;
      whole = λ works. absurd (works rose);
    })
    stops stop.OutOfMemory stopped told = inl (record { why = stop.OutOfMemory; cause = stopped; told = told })

    pub chain-obeys : (ending : Result (Unit {0}) ChainFault) → ChainEnds ending work old new → Reports (status_of_chain ending) code old.streams.log new.streams.log
        → ObeysChainLaw work code old new
    chain-obeys (Ok done) (queues, chains, takes) told = inr (record {
      queues = queues;
      chains = chains;
      script_lawful = lawful work.arena work.slots _ chains.script_legal;
      queues_lawful = all-lawful queues chains.queues_legal;
      front = (nodes_text 1 queues, [], append-nil (nodes_text 1 queues), takes);
      whole = λ works. takes;
    })
    chain-obeys (Err why) stopped told = stops why stopped told
