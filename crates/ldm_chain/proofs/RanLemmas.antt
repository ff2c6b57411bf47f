-- What a chain that was fed leaves: for `ChainEnds`.
use Rattle.std.proofs.Common.{◌≡◌, ◌∙◌, ℕ, List, [], ◌∷◌, map, sym, ap, subst}
use Rattle.std.specs.List.{AllByRecursion}
use Rattle.ldm_model.specs.History.{after, IsLegal}
use Rattle.ldm_class.specs.Rules.{Rules}
use Rattle.ldm_status.specs.WholeScript.{TakesWhole}
use Rattle.ldm_chain.specs.declared.node.ChainNode.{ChainNode}
use Rattle.ldm_chain.specs.Script.{script_played}
use Rattle.ldm_chain.specs.declared.fault.ChainFault.{ChainFault}
use Rattle.ldm_chain.specs.declared.fault.ChainFault.TheVariants as stop
use Rattle.ldm_chain.specs.Work.{ChainOutside, ChainWork, IsGoodSize}
use Rattle.ldm_chain.specs.Policy.{TakesRules}
use Rattle.ldm_chain.specs.CommandEnding.{ChainStops, Chains, IsLegalQueue}
use Rattle.ldm_chain.specs.CommandNodes.{AreFed, AreFedUpTo, AreNotFed, AreSole, HasLegal, queue_of}

legal-queues : (work : ChainWork) (nodes : List ChainNode) → AllByRecursion HasLegal nodes → AreSole work.arena work.slots nodes
    → AllByRecursion (IsLegalQueue work) (map queue_of nodes)
legal-queues work [] legal sole = tt
legal-queues work (node ∷ nodes) legal sole =
    let pass = node.pass in (
      record {
        history = pass.seen;
        legal =
            subst (λ (a : ℕ). IsLegal a work.slots pass.seen) sole.0.arena_is (subst (λ (n : ℕ). IsLegal pass.arena n pass.seen) sole.0.slots_is legal.0);
        state = ap (λ (a : ℕ). after a pass.slots pass.seen) sole.0.arena_is ∙ ap (λ (n : ℕ). after work.arena n pass.seen) sole.0.slots_is;
      },
      legal-queues work nodes legal.1 sole.1,
    )

pub chains-of : (work : ChainWork) (old new : ChainOutside) (given script : List ℕ) → given ≡ script → (rules : Rules) → IsGoodSize work
    → TakesRules work.conf rules old.store new.store → TakesWhole script old.streams.source new.streams.source → (nodes : List ChainNode)
    → AreFed work rules given nodes old.clock new.clock → AllByRecursion HasLegal nodes → Chains work (map queue_of nodes) old new
chains-of work old new given script is rules good taken_rules taken nodes given_fed legal =
    let fed = subst (λ (text : List ℕ). AreFed work rules text nodes old.clock new.clock) is given_fed in
    record {
      script = script;
      taken = record { good = good; rules = rules; taken_rules = taken_rules; taken = taken };
      played = fed.played;
      script_legal = fed.legal;
      instants = fed.instants;
      one_each = fed.one_each;
      answered = fed.answered;
      queues_are = fed.queues;
      queues_legal = legal-queues work nodes legal fed.sole;
    }

-- where not each node was fed, what was read stands as it is told
pub stops-unfed : (why : ChainFault) (work : ChainWork) (old new : ChainOutside) (given script : List ℕ) → given ≡ script → (rules : Rules) → IsGoodSize work
    → TakesRules work.conf rules old.store new.store → TakesWhole script old.streams.source new.streams.source → new.streams.sink ≡ old.streams.sink
    → AreNotFed why work rules given old.clock new.clock → ChainStops why work old new
stops-unfed (stop.BadLine line column) work old new given script is rules good taken_rules taken sink unfed = (
  script,
  record { good = good; rules = rules; taken_rules = taken_rules; taken = taken },
  sym (ap (λ (text : List ℕ). (script_played work.arena work.slots text).stop) is) ∙ unfed.0,
  sink,
  unfed.1,
)
stops-unfed (stop.NotFed end) work old new given script is rules good taken_rules taken sink unfed =
    let fed = subst (λ (text : List ℕ). AreFedUpTo end work rules text old.clock new.clock) is unfed in (
      record {
        script = script;
        taken = record { good = good; rules = rules; taken_rules = taken_rules; taken = taken };
        played = fed.played;
        script_legal = fed.legal;
        instants = fed.instants;
        last = fed.last;
        answered = fed.answered;
        queues = fed.queues;
        one_each = fed.one_each;
        queues_are = fed.queues_are;
        queues_legal = fed.queues_legal;
        cause = fed.cause;
      },
      sink,
    )
stops-unfed stop.OutOfMemory work old new given script is rules good taken_rules taken sink unfed = sink
stops-unfed (stop.BadArena arena) work old new given script is rules good taken_rules taken sink unfed = absurd unfed
stops-unfed (stop.BadSlots slots) work old new given script is rules good taken_rules taken sink unfed = absurd unfed
stops-unfed (stop.ConfNotTaken why) work old new given script is rules good taken_rules taken sink unfed = absurd unfed
stops-unfed (stop.ScriptFault why) work old new given script is rules good taken_rules taken sink unfed = absurd unfed
stops-unfed stop.SinkFault work old new given script is rules good taken_rules taken sink unfed = absurd unfed
