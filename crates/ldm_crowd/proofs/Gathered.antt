-- What all players together did.
use Rattle.std.proofs.Common.{◌≡◌, ℕ, zero, suc, ◌+◌, ◌<◌, ◌≤◌, Vec, Global, List, [], ◌∷◌, length, map, take, get_or, None, Result, Ok, Err, refl, sym, ap, subst, ◌∙◌, inl, inr, arith, length-append, append-nil}
use Rattle.std.specs.Prelude.{OnOk, OnErr}
use Rattle.std.specs.List.{All, range_with_len}
use Rattle.std.proofs.lemmas.List.{length-map, get_or-map, take_all}
use Rattle.std.proofs.lemmas.List.FromFn.{length-map-range_with_len, get_or-map-range_with_len}
use Rattle.ldm_outside.specs.Count.{Rose}
use Rattle.ldm_outside.specs.Gate.{GateRecord, HasCalls}
use Rattle.ldm_outside.proofs.GateLemmas.{HasCalls-none}
use Rattle.ldm_model.specs.declared.event.Entry.{Entry}
use Rattle.ldm_script.specs.Order.{Asked}
use Rattle.ldm_script.specs.Resolve.{no_places}
use Rattle.ldm_model.specs.History.{IsLegal}
use Rattle.ldm_shared.specs.Own.{own, AreBelow}
use Rattle.ldm_shared.specs.Passes.{SharedView, PassView, IsLast, HasAllOf, new_pass}
use Rattle.ldm_shared.proofs.Gathered.{AllWorkedAnew}
use Rattle.ldm_crowd.specs.declared.outcome.CrowdEnd.{CrowdEnd}
use Rattle.ldm_crowd.specs.declared.outcome.CrowdEnd.TheVariants as crowd_end
use Rattle.ldm_crowd.specs.declared.player.Worker.{Worker}
use Rattle.ldm_crowd.specs.Crowd.{CrowdEnds, HasCome, Outcome, StopsKept, gate_of}
use Rattle.ldm_crowd.specs.Lines.{AreEntriesOf}
use Rattle.ldm_crowd.specs.Interleaving.{actor_text, lines_of_actor, texts_from}
use Rattle.ldm_crowd.specs.Parts.{Came, passings}
use Rattle.ldm_crowd.specs.Players.{Begins, IsNew, Plays, PlayerEnds, part_seen}
use Rattle.ldm_crowd.specs.Ends.{first_end}

-- the element of a place
element : {X : Type 0} (xs : List X) (i : ℕ) → i < length xs → (x : X) × ((d : X) → get_or xs i d ≡ x)
element [] i less = absurd (omega arith)
element (x ∷ xs) zero less = (x, λ d. refl)
element (x ∷ xs) (suc i) less = element xs i (omega arith)

-- where the first end that is not Done is Done, all are
all_from : (ends : List CrowdEnd) → first_end ends ≡ crowd_end.Done → (k : ℕ) (d : CrowdEnd) → k < length ends → get_or ends k d ≡ crowd_end.Done
all_from [] is k d less = absurd (omega arith)
all_from (crowd_end.Done ∷ ends) is zero d less = refl
all_from (crowd_end.Done ∷ ends) is (suc k) d less = all_from ends is k d (omega arith)
all_from (crowd_end.Stopped ∷ ends) is k d less = absurd (cc is)
all_from (crowd_end.Worn ∷ ends) is k d less = absurd (cc is)
all_from (crowd_end.OutOfMemory ∷ ends) is k d less = absurd (cc is)

-- else it stands at some place
place_of : (ends : List CrowdEnd) → (first_end ends ≡ crowd_end.Done → ⊥) → (k : ℕ) × (k < length ends) × ((d : CrowdEnd) → get_or ends k d ≡ first_end ends)
place_of [] not = absurd (not refl)
place_of (crowd_end.Done ∷ ends) not = let at = place_of ends not in (suc at.0, (let less = at.1 in omega arith), at.2)
place_of (crowd_end.Stopped ∷ ends) not = (0, omega arith, λ d. refl)
place_of (crowd_end.Worn ∷ ends) not = (0, omega arith, λ d. refl)
place_of (crowd_end.OutOfMemory ∷ ends) not = (0, omega arith, λ d. refl)

-- texts that are, place by place, those of a script
texts_are : (script : List (List Asked)) (texts : List (List ℕ)) (first : ℕ) (history : List Entry) → length texts ≡ length script
    → ((k : ℕ) (d : List ℕ) → k < length script → get_or texts k d ≡ actor_text (first + k) (get_or script k []) (own (first + k) history)) → texts ≡ texts_from first script history
texts_are [] [] first history same each = refl
texts_are [] (text ∷ texts) first history same each = absurd (omega arith)
texts_are (lines ∷ script) [] first history same each = absurd (omega arith)
texts_are (lines ∷ script) (text ∷ texts) first history same each =
    let head : text ≡ actor_text first lines (own first history) =
    each 0 text (omega arith) ∙ ap (λ (a : ℕ). actor_text a lines (own a history)) (omega arith) in
    let tail = texts_are script texts (first + 1) history (omega arith) (λ k d less.
    each (suc k) d (omega arith) ∙ ap (λ (a : ℕ). actor_text a (get_or script k []) (own a history)) (omega arith)) in
    ap (λ (t : List ℕ). t ∷ texts) head ∙ ap (λ (ts : List (List ℕ)). actor_text first lines (own first history) ∷ ts) tail

-- what is taken from a worker
module _ {G : Type 0} where
  abbrev pub player_gate : Worker G → G
  player_gate worker = worker.player.gate

  abbrev pub answers_of : Worker G → Vec ℕ Global
  answers_of worker = worker.player.answers

  abbrev pub end_of : Worker G → CrowdEnd
  end_of worker = worker.player.end

  -- what a worker does
  abbrev pub plays_lines : (G → GateRecord) → List (List Asked) → PassView → Worker G → PassView → Worker G → Type 0
  plays_lines tells script old_pass old new_pass new = Plays tells script old_pass old.player new_pass new.player

-- however a player ended, it came so far
end_came : (end : CrowdEnd) (lines : List Asked) (pass : PassView) (text : List ℕ) (old new : GateRecord) → PlayerEnds end lines pass text old new → Came pass.actor lines (part_seen pass text old new)
end_came crowd_end.Done lines pass text old new ends =
    let whole : take (length lines) lines ≡ lines = take_all (length lines) lines (omega arith) in
    inl (record {
      front = record { count = length lines; within = omega arith; made = subst (λ (ls : List Asked). AreEntriesOf no_places ls (own pass.actor pass.seen)) (sym whole) ends.made };
      answered = ends.answered ∙ ap (λ (ls : List Asked). actor_text pass.actor ls (own pass.actor pass.seen)) (sym whole);
      asked = ends.asked;
    })
end_came crowd_end.Stopped lines pass text old new ends = inl ends.1
end_came crowd_end.Worn lines pass text old new ends = inr ends.1
end_came crowd_end.OutOfMemory lines pass text old new ends = inl ends

-- the same of what is seen in other words
came_as : (actor by : ℕ) (lines : List Asked) (entries seen : List Entry) (text told : List ℕ) (before first now last : GateRecord)
    → by ≡ actor → entries ≡ seen → text ≡ told → before ≡ first → now ≡ last
    → Came by lines (record { entries = seen; text = told; gate_before = first; gate = last }) → Came actor lines (record { entries = entries; text = text; gate_before = before; gate = now })
came_as actor by lines entries seen text told before first now last actor_is entries_are text_is before_is now_is came =
    subst (λ (a : ℕ). Came a lines (record { entries = entries; text = text; gate_before = before; gate = now })) actor_is
    (subst (λ (es : List Entry). Came by lines (record { entries = es; text = text; gate_before = before; gate = now })) (sym entries_are)
    (subst (λ (t : List ℕ). Came by lines (record { entries = seen; text = t; gate_before = before; gate = now })) (sym text_is)
    (subst (λ (r : GateRecord). Came by lines (record { entries = seen; text = told; gate_before = r; gate = now })) (sym before_is)
    (subst (λ (r : GateRecord). Came by lines (record { entries = seen; text = told; gate_before = first; gate = r })) (sym now_is) came))))

-- what the gate of a worker tells
gate_at : {G : Type 0} (tells : G → GateRecord) (workers : List (Worker G)) (gates : List G) → gates ≡ map player_gate workers
    → (i : ℕ) (d : Worker G) → i < length workers → gate_of (map tells gates) i ≡ tells (get_or workers i d).player.gate
gate_at tells workers gates is i d less =
    let none : GateRecord = record { stops = 0; idles = None; calls = None } in
    get_or-map tells gates i d.player.gate none (omega (arith, less, ap length is, length-map workers player_gate))
    ∙ ap tells (ap (λ gs. get_or gs i d.player.gate) is ∙ get_or-map player_gate workers i d d.player.gate less)

-- what a worker was answered
text_at : {G : Type 0} (workers : List (Worker G)) (answers : List (Vec ℕ Global)) → answers ≡ map answers_of workers
    → (i : ℕ) (d : Worker G) (e : List ℕ) → i < length workers → get_or (map (λ text. text.items) answers) i e ≡ (get_or workers i d).player.answers.items
text_at workers answers is i d e less =
    get_or-map (λ (text : Vec ℕ Global). text.items) answers i d.player.answers e (omega (arith, less, ap length is, length-map workers answers_of))
    ∙ ap (λ (text : Vec ℕ Global). text.items) (ap (λ vs. get_or vs i d.player.answers) is ∙ get_or-map answers_of workers i d d.player.answers less)

-- the workers of a crowd that played, before and after
module _ {G : Type 0} (tells : G → GateRecord) (shared : SharedView) (script : List (List Asked)) (olds news : List (Worker G)) (last : PassView)
    (is_last : IsLast shared last) (actors : length script ≡ shared.passes) (size : length olds ≡ shared.passes) (count : length news ≡ length olds)
    (worked : AllWorkedAnew (plays_lines tells script) shared last olds news)
    (old_gates new_gates : List G) (old_is : old_gates ≡ map player_gate olds) (new_is : new_gates ≡ map player_gate news)
    (answers : List (Vec ℕ Global)) (answers_are : answers ≡ map answers_of news) where
  abbrev outcome : Outcome
  outcome = record {
    history = last.seen;
    answers = map (λ text. text.items) answers;
    gates_before = map tells old_gates;
    gates = map tells new_gates;
  }

  below : AreBelow (length script) last.seen
  below = subst (λ (n : ℕ). AreBelow n last.seen) (ap (λ (p : PassView). p.passes) is_last.ended ∙ sym actors) is_last.has_seen.below

  actor_is : (i : ℕ) (d : Worker G) (less : i < length olds) → (worked i d less).pass.actor ≡ i
  actor_is i d less = ap (λ (p : PassView). p.actor) (worked i d less).same

  own_is : (i : ℕ) (d : Worker G) (less : i < length olds) → own i last.seen ≡ own (worked i d less).pass.actor (worked i d less).pass.seen
  own_is i d less =
      let did = worked i d less in
      ap (λ (a : ℕ). own a last.seen) (sym (actor_is i d less)) ∙ did.has_all.own ∙ append-nil (own did.pass.actor did.pass.seen)

  came_at : (i : ℕ) → i < length script → Came i (lines_of_actor script i) (record {
    entries = own i last.seen;
    text = get_or (map (λ text. text.items) answers) i [];
    gate_before = gate_of (map tells old_gates) i;
    gate = gate_of (map tells new_gates) i;
  })
  came_at i less =
      let inside : i < length olds = omega (arith, size, actors) in
      let there : i < length news = omega (arith, count) in
      let d = (element olds i inside).0 in
      let did = worked i d inside in
      let old = get_or olds i d in
      let new = get_or news i d in
      came_as i did.pass.actor (lines_of_actor script i) (own i last.seen) (own did.pass.actor did.pass.seen) (get_or (map (λ text. text.items) answers) i []) new.player.answers.items
      (gate_of (map tells old_gates) i) (tells old.player.gate) (gate_of (map tells new_gates) i) (tells new.player.gate)
      (actor_is i d inside) (own_is i d inside) (text_at news answers answers_are i d [] there) (gate_at tells olds old_gates old_is i d inside) (gate_at tells news new_gates new_is i d there)
      (end_came new.player.end (lines_of_actor script i) did.pass new.player.answers.items (tells old.player.gate) (tells new.player.gate) did.works.ended)

  has_come : HasCome script outcome
  has_come = record { below = below; each = came_at }

  done_at : first_end (map end_of news) ≡ crowd_end.Done → (i : ℕ) → i < length script
      → AreEntriesOf no_places (lines_of_actor script i) (own i last.seen)
      × ((e : List ℕ) → get_or (map (λ text. text.items) answers) i e ≡ actor_text i (lines_of_actor script i) (own i last.seen))
      × HasCalls (passings i (length (lines_of_actor script i))) (gate_of (map tells old_gates) i) (gate_of (map tells new_gates) i)
  done_at done i less =
      let inside : i < length olds = omega (arith, size, actors) in
      let there : i < length news = omega (arith, count) in
      let d = (element olds i inside).0 in
      let did = worked i d inside in
      let old = get_or olds i d in
      let new = get_or news i d in
      let lines = lines_of_actor script i in
      let is : new.player.end ≡ crowd_end.Done =
      sym (get_or-map end_of news i d crowd_end.Done there) ∙ all_from (map end_of news) done i crowd_end.Done (omega (arith, length-map news end_of)) in
      let ends = subst (λ (e : CrowdEnd). PlayerEnds e lines did.pass new.player.answers.items (tells old.player.gate) (tells new.player.gate)) is did.works.ended in (
        subst (AreEntriesOf no_places lines) (sym (own_is i d inside)) ends.made,
        λ e.
            text_at news answers answers_are i d e there ∙ ends.answered
            ∙ ap (λ (a : ℕ). actor_text a lines (own did.pass.actor did.pass.seen)) (actor_is i d inside)
            ∙ ap (actor_text i lines) (sym (own_is i d inside)),
        subst (λ (r : GateRecord). HasCalls (passings i (length lines)) r (gate_of (map tells new_gates) i)) (sym (gate_at tells olds old_gates old_is i d inside))
            (subst (λ (r : GateRecord). HasCalls (passings i (length lines)) (tells old.player.gate) r) (sym (gate_at tells news new_gates new_is i d there))
            (subst (λ (a : ℕ). HasCalls (passings a (length lines)) (tells old.player.gate) (tells new.player.gate)) (actor_is i d inside) ends.asked)),
      )

  -- the worker of the first end that is not Done
  first_at : (e : CrowdEnd) → first_end (map end_of news) ≡ e → (e ≡ crowd_end.Done → ⊥)
      → (i : ℕ) × (d : Worker G) × (less : i < length olds)
      × PlayerEnds e (lines_of_actor script i) (worked i d less).pass (get_or news i d).player.answers.items (tells (get_or olds i d).player.gate) (tells (get_or news i d).player.gate)
  first_at e is not =
      let at = place_of (map end_of news) (λ done. not (sym is ∙ done)) in
      let there : at.0 < length news = let less = at.1 in omega (arith, length-map news end_of) in
      let inside : at.0 < length olds = omega (arith, count) in
      let d = (element olds at.0 inside).0 in
      let did = worked at.0 d inside in
      let new = get_or news at.0 d in
      let end_is : new.player.end ≡ e = sym (get_or-map end_of news at.0 d e there) ∙ at.2 e ∙ is in
      (at.0, d, inside, subst (λ (x : CrowdEnd). PlayerEnds x (lines_of_actor script at.0) did.pass new.player.answers.items (tells (get_or olds at.0 d).player.gate) (tells new.player.gate)) end_is did.works.ended)

  -- the end of the crowd, by that of the first worker that did not play all its lines
  pub crowd_ends : (e : CrowdEnd) → first_end (map end_of news) ≡ e → CrowdEnds e script outcome
  crowd_ends crowd_end.Done is = (
    record { below = below; each = λ i less. (done_at is i less).0 },
    texts_are script (map (λ text. text.items) answers) 0 last.seen (length-map answers (λ text. text.items) ∙ ap length answers_are ∙ length-map news answers_of ∙ count ∙ size ∙ sym actors)
        (λ k d less. (done_at is k less).1 d ∙ ap (λ (a : ℕ). actor_text a (get_or script k []) (own a last.seen)) (omega arith)),
    λ i less. (done_at is i less).2,
  )
  crowd_ends crowd_end.Stopped is =
      let at = first_at crowd_end.Stopped is (λ e. absurd (cc e)) in
      let there : at.0 < length news = let less = at.2 in omega (arith, count) in (
        has_come,
        (
          at.0,
          (let less = at.2 in omega (arith, size, actors)),
          subst (λ (r : GateRecord). Rose r.stops (gate_of (map tells new_gates) at.0).stops) (sym (gate_at tells olds old_gates old_is at.0 at.1 at.2))
              (subst (λ (r : GateRecord). Rose (tells (get_or olds at.0 at.1).player.gate).stops r.stops) (sym (gate_at tells news new_gates new_is at.0 at.1 there)) at.3.0),
        ),
      )
  crowd_ends crowd_end.Worn is =
      let at = first_at crowd_end.Worn is (λ e. absurd (cc e)) in
      let did = worked at.0 at.1 at.2 in
      let begins = did.has_all.begins in
      let long : length last.seen ≡ length did.pass.seen + length begins.0 = ap length (sym begins.1) ∙ length-append did.pass.seen begins.0 in
      let few = is_last.has_seen.few in
      (has_come, omega (arith, long, at.3.0, few))
  crowd_ends crowd_end.OutOfMemory is = has_come

  -- no gate's count fell
  pub stops_kept : StopsKept (map tells old_gates) (map tells new_gates)
  stops_kept = record {
    count =
        length-map new_gates tells ∙ ap length new_is ∙ length-map news player_gate ∙ count ∙ sym (length-map olds player_gate) ∙ sym (ap length old_is)
        ∙ sym (length-map old_gates tells);
    kept = λ i less.
        let inside : i < length olds = omega (arith, less, length-map old_gates tells, ap length old_is, length-map olds player_gate) in
        let there : i < length news = omega (arith, count) in
        let d = (element olds i inside).0 in
        let kept = (worked i d inside).works.stops_kept in
        subst (λ (r : GateRecord). r.stops ≤ (gate_of (map tells new_gates) i).stops) (sym (gate_at tells olds old_gates old_is i d inside))
        (subst (λ (r : GateRecord). (tells (get_or olds i d).player.gate).stops ≤ r.stops) (sym (gate_at tells news new_gates new_is i d there)) kept);
  }

-- nobody made a call
none_came : (script : List (List Asked)) (outcome : Outcome) → AreBelow (length script) outcome.history → ((i : ℕ) → i < length script → own i outcome.history ≡ [])
    → ((i : ℕ) → i < length script → get_or outcome.answers i [] ≡ []) → outcome.gates ≡ outcome.gates_before → HasCome script outcome
none_came script outcome below unseen unanswered same = record {
  below = below;
  each = λ i less.
      inl (record {
        front = record { count = 0; within = omega arith; made = unseen i less };
        answered = unanswered i less;
        asked = HasCalls-none (gate_of outcome.gates_before i) (gate_of outcome.gates i) (ap (λ (gs : List GateRecord). (gate_of gs i).calls) same);
      });
}

-- there was no memory for the workers
pub none_made : {G : Type 0} (tells : G → GateRecord) (shared : SharedView) (script : List (List Asked)) (passes : List PassView) (last : PassView) (gates : List G)
    → passes ≡ map (new_pass shared) (range_with_len 0 shared.passes) → length script ≡ shared.passes → IsLast shared last → All (HasAllOf last) passes
    → HasCome script (record { history = last.seen; answers = []; gates_before = map tells gates; gates = map tells gates })
none_made tells shared script passes last gates are actors is_last all =
    none_came script (record { history = last.seen; answers = []; gates_before = map tells gates; gates = map tells gates })
    (subst (λ (n : ℕ). AreBelow n last.seen) (ap (λ (p : PassView). p.passes) is_last.ended ∙ sym actors) is_last.has_seen.below)
    (λ i less.
    let size = length-map-range_with_len (new_pass shared) 0 shared.passes in
    let here : get_or passes i last ≡ new_pass shared i =
    ap (λ (ps : List PassView). get_or ps i last) are ∙ get_or-map-range_with_len (new_pass shared) 0 shared.passes i i last (omega arith) (omega arith) in
    (subst (HasAllOf last) here (all i last (omega (arith, size, ap length are)))).own)
    (λ i less. refl) refl

-- there was none for their passes
pub none_began : {G : Type 0} (tells : G → GateRecord) (script : List (List Asked)) (workers : List (Worker G)) (seen : List Entry) (gates left : List G) (answers : List (Vec ℕ Global))
    → seen ≡ [] → length workers ≡ length script → gates ≡ map player_gate workers → left ≡ map player_gate workers → answers ≡ map answers_of workers → All IsNew workers
    → HasCome script (record { history = seen; answers = map (λ text. text.items) answers; gates_before = map tells gates; gates = map tells left })
none_began tells script workers seen gates left answers unseen size gates_are left_are answers_are new =
    none_came script (record { history = seen; answers = map (λ text. text.items) answers; gates_before = map tells gates; gates = map tells left })
    (subst (AreBelow (length script)) (sym unseen) tt)
    (λ i less. ap (own i) unseen)
    (λ i less.
    let inside : i < length workers = omega arith in
    let d = (element workers i inside).0 in
    text_at workers answers answers_are i d [] inside ∙ (new i d inside).1)
    (ap (map tells) (left_are ∙ sym gates_are))

pub stops_same : (gates : List GateRecord) → StopsKept gates gates
stops_same gates = record { count = refl; kept = λ i less. omega arith }

-- the end of the crowd, whether its workers began or not
pub hired_ends : {G E : Type 0} (tells : G → GateRecord) (shared : SharedView) (script : List (List Asked)) (olds news : List (Worker G)) (last : PassView)
    → IsLast shared last → length script ≡ shared.passes → length olds ≡ shared.passes → length news ≡ length olds → All IsNew olds
    → (old_gates new_gates : List G) → old_gates ≡ map player_gate olds → new_gates ≡ map player_gate news → (answers : List (Vec ℕ Global)) → answers ≡ map answers_of news
    → (done : Result (Unit {0}) E) → OnOk done (AllWorkedAnew (plays_lines tells script) shared last olds news) → OnErr done (news ≡ olds) → OnErr done (last.seen ≡ [])
    → (end ended : CrowdEnd) → ended ≡ first_end (map end_of news) → OnOk done (end ≡ ended) → OnErr done (end ≡ crowd_end.OutOfMemory)
    → CrowdEnds end script (record { history = last.seen; answers = map (λ text. text.items) answers; gates_before = map tells old_gates; gates = map tells new_gates })
hired_ends tells shared script olds news last is_last actors size count new old_gates new_gates old_is new_is answers answers_are (Ok done) worked untouched unseen end ended ended_is played none_began_is =
    crowd_ends tells shared script olds news last is_last actors size count worked old_gates new_gates old_is new_is answers answers_are end (sym (played ∙ ended_is))
hired_ends tells shared script olds news last is_last actors size count new old_gates new_gates old_is new_is answers answers_are (Err error) worked untouched unseen end ended ended_is played none_began_is =
    subst
    (λ (e : CrowdEnd). CrowdEnds e script (record { history = last.seen; answers = map (λ text. text.items) answers; gates_before = map tells old_gates; gates = map tells new_gates }))
    (sym none_began_is)
    (none_began tells script olds last.seen old_gates new_gates answers unseen (size ∙ sym actors) old_is (new_is ∙ ap (map player_gate) untouched) (answers_are ∙ ap (map answers_of) untouched) new)

-- and no gate's count fell
pub hired_stops : {G E : Type 0} (tells : G → GateRecord) (shared : SharedView) (script : List (List Asked)) (olds news : List (Worker G)) (last : PassView)
    → IsLast shared last → length script ≡ shared.passes → length olds ≡ shared.passes → length news ≡ length olds
    → (old_gates new_gates : List G) → old_gates ≡ map player_gate olds → new_gates ≡ map player_gate news → (answers : List (Vec ℕ Global)) → answers ≡ map answers_of news
    → (done : Result (Unit {0}) E) → OnOk done (AllWorkedAnew (plays_lines tells script) shared last olds news) → OnErr done (news ≡ olds) → StopsKept (map tells old_gates) (map tells new_gates)
hired_stops tells shared script olds news last is_last actors size count old_gates new_gates old_is new_is answers answers_are (Ok done) worked untouched =
    stops_kept tells shared script olds news last is_last actors size count worked old_gates new_gates old_is new_is answers answers_are
hired_stops tells shared script olds news last is_last actors size count old_gates new_gates old_is new_is answers answers_are (Err error) worked untouched =
    subst (λ gs. StopsKept (map tells old_gates) (map tells gs)) (old_is ∙ ap (map player_gate) (sym untouched) ∙ sym new_is) (stops_same (map tells old_gates))

-- what a worker begins with
abbrev pub may_play : {G : Type 0} → List (List Asked) → PassView → Worker G → Type 0
may_play script pass worker = Begins script pass worker.player

-- new workers may begin with new passes
pub all_may_begin : {G : Type 0} (script : List (List Asked)) (shared : SharedView) (workers : List (Worker G)) → length script ≡ shared.passes → length workers ≡ shared.passes → All IsNew workers
    → (i : ℕ) (d : Worker G) → i < length workers → may_play script (new_pass shared i) (get_or workers i d)
all_may_begin script shared workers actors size new i d less = record {
  unseen = refl;
  actor = omega (arith, actors, size);
  unopened = (new i d less).0;
  unanswered = (new i d less).1;
}

-- what the last pass has seen is a legal history of its queue
pub last_legal : (shared : SharedView) (last : PassView) → IsLast shared last → IsLegal shared.arena shared.slots last.seen
last_legal shared last is = subst (λ (p : PassView). IsLegal p.arena p.slots last.seen) is.ended is.has_seen.legal
