-- What workers with open gates leave: for `HasPlayed`, and why a text is not played to its end.
use Rattle.std.proofs.Common.{◌≡◌, ℕ, ◌≤◌, List, [], ◌∷◌, length, map, Some, None, Ok, refl, subst, arith, zero, suc, inl, inr}
use Rattle.ldm_outside.specs.Count.{Rose}
use Rattle.ldm_outside.specs.Gate.{GateRecord}
use Rattle.ldm_model.specs.declared.event.Entry.{Entry}
use Rattle.ldm_model.specs.History.{IsLegal, after}
use Rattle.ldm_script.specs.Order.{Asked}
use Rattle.ldm_model.specs.Lawful.{IsLawful}
use Rattle.ldm_book.specs.View.{BookView}
use Rattle.ldm_book.specs.Stands.{StandsFor}
use Rattle.ldm_shared.specs.Limits.{IsGoodPasses}
use Rattle.ldm_shared.specs.Passes.{SharedView, PassView, IsLast}
use Rattle.ldm_status.specs.declared.whole_script.TheConstants.{LONGEST_SCRIPT}
use Rattle.ldm_crowd.specs.declared.outcome.CrowdEnd.{CrowdEnd}
use Rattle.ldm_crowd.specs.declared.outcome.CrowdEnd.TheVariants as crowd_end
use Rattle.ldm_crowd.specs.Script.{script_of}
use Rattle.ldm_crowd.specs.Crowd.{CrowdEnds, HasCome, Outcome, gate_of}
use Rattle.ldm_crowd.specs.Interleaving.{IsBegun}
use Rattle.ldm_crowd.specs.CrowdStep.{HasPlayed}
use Rattle.ldm_crowd.proofs.CrowdBoundLemmas.{never_all}

-- what the last pass has seen is a legal history of its queue
last_legal : (shared : SharedView) (last : PassView) → IsLast shared last → IsLegal shared.arena shared.slots last.seen
last_legal shared last is = subst (λ (p : PassView). IsLegal p.arena p.slots last.seen) is.ended is.has_seen.legal

-- where each actor came so far, each made the calls of its first lines
begun_of : (script : List (List Asked)) (outcome : Outcome) → HasCome script outcome → IsBegun script outcome.history
begun_of script outcome come = record {
  below = come.below;
  each = λ actor less. elim (come.each actor less) [ inl played ↦ played.front | inr played ↦ played.front ];
}

module _ (shared : SharedView) (workers : ℕ) (text : List ℕ) (script : List (List Asked)) (read : script_of workers text ≡ Ok script) (last : PassView) (is : IsLast shared last) (answers : List (List ℕ)) (end : CrowdEnd) (old new : List GateRecord) where
  abbrev outcome : Outcome
  outcome = record { history = last.seen; answers = answers; gates_before = old; gates = new }

  pub all_played : (book : BookView) → StandsFor book (after shared.arena shared.slots last.seen)
      → ((arena slots : ℕ) (history : List Entry) → IsLegal arena slots history → IsLawful arena slots history) → end ≡ crowd_end.Done → CrowdEnds end script outcome
      → HasPlayed (record { arena = shared.arena; slots = shared.slots; workers = workers }) text last.seen book answers
  all_played book stands lawful done ends =
      let ended = subst (λ (e : CrowdEnd). CrowdEnds e script outcome) done ends in
      record { script = script; read = read; lawful = lawful shared.arena shared.slots last.seen (last_legal shared last is); interleaving = ended.0; stands = stands; answered = ended.1 }

  -- the queue never has had all its calls
  pub never_worn : IsGoodPasses workers → length text ≤ LONGEST_SCRIPT → length script ≡ workers → end ≡ crowd_end.Worn → CrowdEnds end script outcome → ⊥
  never_worn good short count worn ends =
      let ended = subst (λ (e : CrowdEnd). CrowdEnds e script outcome) worn ends in
      omega (arith, never_all workers text script last.seen good short read count (begun_of script outcome ended.0), ended.1)

-- what an open gate tells
abbrev pub open_tells : {G : Type 0} → G → GateRecord
open_tells gate = record { stops = 0; idles = Some None; calls = None }

no_stops : {G : Type 0} (gates : List G) (actor : ℕ) → (gate_of (map open_tells gates) actor).stops ≡ 0
no_stops [] actor = refl
no_stops (gate ∷ gates) zero = refl
no_stops (gate ∷ gates) (suc actor) = no_stops gates actor

-- no worker with an open gate ends since it stopped
pub never_stops : {G : Type 0} (gates left : List G) (script : List (List Asked)) (history : List Entry) (answers : List (List ℕ)) (end : CrowdEnd) → end ≡ crowd_end.Stopped
    → CrowdEnds end script (record { history = history; answers = answers; gates_before = map open_tells gates; gates = map open_tells left }) → ⊥
never_stops gates left script history answers end stopped ends =
    let outcome : Outcome = record { history = history; answers = answers; gates_before = map open_tells gates; gates = map open_tells left } in
    let ended = subst (λ (e : CrowdEnd). CrowdEnds e script outcome) stopped ends in
    let actor = ended.1.0 in
    let rose : Rose (gate_of (map open_tells gates) actor).stops (gate_of (map open_tells left) actor).stops = ended.1.2 in
    let before = no_stops gates actor in
    let behind = no_stops left actor in
    elim rose [ inl more ↦ omega (arith, more, before, behind) | inr still ↦ omega (arith, still.0, before) ]
