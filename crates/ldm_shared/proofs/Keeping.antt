-- Each step on the word of a shared queue keeps the rule.
use Rattle.std.proofs.Common.{◌≡◌, ◌≢◌, ℕ, ◌+◌, ◌*◌, ◌%◌, ◌^◌, ◌<◌, ◌≤◌, ◌==◌, Bool, true, false, cond, List, [], ◌∷◌, ◌++◌, length, set, get_or, Option, Some, MatchBool, refl, ap, sym, subst, ◌∙◌, arith, ◌⊎◌, inl, inr, ⊎_elim, eq-eqb, ne_eqb}
use Rattle.std.specs.List.{AllByRecursion}
use Rattle.std.proofs.lemmas.List.{set-get_or}
use mathlib.Core.Option.{some, none}
use mathlib.Core.Logic.{dite}
use mathlib.Core.List.{IsPrefix}
use native.Mathlib.Decide.{ℕ_discrete}
use lib.ListN.{get_elem?}
use prog.Atomic.{either}
use Rattle.atomic_table.specs.Table.{State, Me, step, keeps, takes as takes_slot, stepped, Allows}
use Rattle.atomic_table.proofs.Lists.{at_set, set_again}
use Rattle.ldm_model.specs.declared.event.Entry.{Entry}
use Rattle.ldm_model.specs.History.{after, IsLegal}
use Rattle.ldm_book.specs.View.{BookView}
use Rattle.ldm_book.specs.Stands.{StandsFor}
use Rattle.ldm_shared.specs.declared.sizes.Sizes.{Sizes}
use Rattle.ldm_shared.specs.declared.view.View.{View}
use Rattle.ldm_shared.specs.Own.{own, AreBelow}
use Rattle.ldm_shared.specs.Rule.{times, AnswersFor, AnswersForAll, turns, holders, spent, IsOld, HasTurn, Knows, IsKept}
use Rattle.ldm_shared.specs.Steps.{Sees, HasTaken, looks, takes}
use Rattle.ldm_shared.proofs.Histories.{prefix_self, own-behind, no_entry, below-rest}
use Rattle.ldm_shared.proofs.Counts.{is_turn, sum-set, sum-two, turn_of, times-self}

abbrev Content : Type 0
Content = Option BookView

abbrev Table : Type 0
Table = State Content View

abbrev IsSeat : Sizes → List Entry → View → Type 0
IsSeat sizes history v = (v ≡ spent) ⊎ Knows sizes history v

module _ (sizes : Sizes) where
  -- a seat that was not taken in
  pub known : (history : List Entry) (v : View) → IsSeat sizes history v → 0 < v.passes → Knows sizes history v
  known history v seat some_pass = ⊎_elim (λ (e : v ≡ spent). let none : v.passes ≡ 0 = ap (λ (w : View). w.passes) e in absurd (omega arith)) (λ (k : Knows sizes history v). k) seat

  -- the views change and the history stays
  pub kept : (s : Table) (k : IsKept sizes s) (views : List View) → turns views ≡ turns s.views → ((actor : ℕ) → holders actor views ≤ holders actor s.views)
      → ((id : ℕ) (v : View) → get_elem? views id ≡ some v → IsSeat sizes k.history v)
      → IsKept sizes record { words = s.words; homes = s.homes; views = views }
  kept s k views same fewer seats = record {
    history = k.history;
    legal = k.legal;
    below = k.below;
    few = k.few;
    may_sleep = k.may_sleep;
    others = k.others;
    put = k.put;
    word = k.word ∙ ap (λ (n : ℕ). (2 * length k.history + n) ∷ k.may_sleep ∷ k.others) (sym same);
    flag = k.flag;
    one_turn = subst (λ (n : ℕ). n ≤ 1) (sym same) k.one_turn;
    book = λ free. k.book (sym same ∙ free);
    apart = λ actor. let a = k.apart actor in let b = fewer actor in omega arith;
    seats = seats;
  }

  -- the others stay as they were, where one view changes
  pub others : (P : View → Type 0) (views : List View) (id : ℕ) (w : View) → P w → ((j : ℕ) (v : View) → j ≢ id → get_elem? views j ≡ some v → P v)
      → (j : ℕ) (v : View) → get_elem? (set views id w) j ≡ some v → P v
  others P views id w mine theirs j v at =
      ⊎_elim (λ (t : (j ≡ id) × (w ≡ v)). subst P t.1 mine) (λ (t : (j ≢ id) × (get_elem? views j ≡ some v)). theirs j v t.0 t.1) (at_set views id j w v at)

  -- one view changes, and the history stays
  pub renewed : (s : Table) (k : IsKept sizes s) (id : ℕ) (v w : View) → get_elem? s.views id ≡ some v → w.turn ≡ v.turn → w.actors ≡ v.actors → IsSeat sizes k.history w
      → IsKept sizes record { words = s.words; homes = s.homes; views = set s.views id w }
  renewed s k id v w at turn actors seat =
      kept s k (set s.views id w)
      (let sums = sum-set is_turn s.views id v w at in let same : is_turn w ≡ is_turn v = ap (λ (b : Bool). cond b 1 0) turn in omega arith)
      (λ actor. let sums = sum-set (λ (u : View). times actor u.actors) s.views id v w at in let same : times actor w.actors ≡ times actor v.actors = ap (times actor) actors in omega arith)
      (others (IsSeat sizes k.history) s.views id w seat (λ j u other. k.seats j u))

  -- a seat that knows the history, once it has seen it
  pub knows_all : (history : List Entry) (v w : View) (k : Knows sizes history v) → w.arena ≡ v.arena → w.slots ≡ v.slots → w.passes ≡ v.passes → w.actors ≡ v.actors → w.seen ≡ history → w.olds ≡ []
      → (w.turn ≡ true → HasTurn history w) → Knows sizes history w
  knows_all history v w k arena slots passes actors seen olds turn = record {
    arena = arena ∙ k.arena;
    slots = slots ∙ k.slots;
    passes = passes ∙ k.passes;
    seen = subst (λ (h : List Entry). IsPrefix h history) (sym seen) (prefix_self history);
    olds = subst (AllByRecursion (IsOld history w.actors)) (sym olds) tt;
    actors = λ actor answers. ((k.actors actor (subst (λ (l : List ℕ). 0 < times actor l) actors answers)).0, ap (own actor) (sym seen));
    turn = turn;
  }

  -- The seat that answers for all actors and has no turn has seen the whole history, and nobody has the turn.
  whole_seen : (s : Table) (k : IsKept sizes s) (v : View) → Knows sizes k.history v → AnswersForAll v → k.history ≡ v.seen
  whole_seen s k v knows all =
      let behind = knows.seen.0 in
      let none : behind ≡ [] = no_entry sizes.passes behind (below-rest sizes.passes v.seen behind (subst (AreBelow sizes.passes) (sym knows.seen.1) k.below))
      (λ actor less. own-behind actor v.seen behind k.history knows.seen.1 (knows.actors actor (all actor (subst (λ (n : ℕ). actor < n) (sym knows.passes) less))).1) in
      sym knows.seen.1 ∙ (ap (λ (h : List Entry). v.seen ++ h) none ∙ append-nil' v.seen)
    where
      append-nil' : (xs : List Entry) → xs ++ [] ≡ xs
      append-nil' [] = refl
      append-nil' (x ∷ xs) = ap (λ (h : List Entry). x ∷ h) (append-nil' xs)

  -- an actor that a seat with the turn answers for
  turned_actor : (history : List Entry) (u : View) → Knows sizes history u → 0 < sizes.passes → HasTurn history u → (actor : ℕ) × (actor < sizes.passes) × AnswersFor u actor
  turned_actor history u knows some_pass turn =
      ⊎_elim
      (λ (one : ((actor : ℕ) × (u.actors ≡ actor ∷ [])) × (length history < 2 ^ 62)).
      let actor = one.0.0 in
      let answers : AnswersFor u actor = subst (λ (l : List ℕ). 0 < times actor l) (sym one.0.1) (let self = times-self actor in omega arith) in
      (actor, (knows.actors actor answers).0, answers))
      (λ (all : AnswersForAll u). (0, some_pass, all 0 (subst (λ (n : ℕ). 0 < n) (sym knows.passes) some_pass)))
      turn.one

  no_turn : (s : Table) (k : IsKept sizes s) (id : ℕ) (v : View) → get_elem? s.views id ≡ some v → v.turn ≡ false → 0 < v.passes → Knows sizes k.history v → AnswersForAll v → turns s.views ≡ 0
  no_turn s k id v at off some_pass knows all =
      dite (ℕ_discrete (turns s.views) 0) (λ e. e)
      (λ taken.
      let t = turn_of s.views (omega arith) in
      let j = t.0 in
      let u = t.1 in
      let here : get_elem? s.views j ≡ some u = t.2 in
      let on : u.turn ≡ true = t.3 in
      let apart : id ≢ j = λ e. absurd (let same : some v ≡ some u = sym at ∙ (ap (get_elem? s.views) e ∙ here) in cc (same, off, on)) in
      let passes : 0 < sizes.passes = subst (λ (n : ℕ). 0 < n) knows.passes some_pass in
      let theirs : Knows sizes k.history u = ⊎_elim (λ (e : u ≡ spent). absurd (let no : u.turn ≡ false = ap (λ (w : View). w.turn) e in cc (no, on))) (λ (x : Knows sizes k.history u). x) (k.seats j u here) in
      let actor = turned_actor k.history u theirs passes (theirs.turn on) in
      let mine : AnswersFor v actor.0 = all actor.0 (subst (λ (n : ℕ). actor.0 < n) (sym knows.passes) actor.1) in
      let its : AnswersFor u actor.0 = actor.2 in
      let two = sum-two (λ (w : View). times actor.0 w.actors) s.views id j v u apart at here in
      let few = k.apart actor.0 in
      absurd (omega arith))

  -- what a seat with no turn sees of the history, at the word that is found
  pub sees : (s : Table) (k : IsKept sizes s) (id : ℕ) (v : View) (turn : Bool) → get_elem? s.views id ≡ some v → v.turn ≡ false → 0 < v.passes → Knows sizes k.history v
      → Sees v (get_or s.words 0 0) (record v { seen = k.history; turn = turn; olds = [] })
  sees s k id v turn at off some_pass knows =
      let found : get_or s.words 0 0 ≡ 2 * length k.history + turns s.views = ap (λ (ws : List ℕ). get_or ws 0 0) k.word in
      let one = k.one_turn in
      let P : ℕ → Type 0 = λ n. n ≤ 1 in
      record {
        same = refl;
        begins = knows.seen;
        olds = knows.olds;
        actors = λ actor answers. (subst (λ (n : ℕ). actor < n) (sym knows.passes) (knows.actors actor answers).0, (knows.actors actor answers).1);
        legal = subst (λ (n : ℕ). IsLegal n v.slots k.history) (sym knows.arena) (subst (λ (n : ℕ). IsLegal sizes.arena n k.history) (sym knows.slots) k.legal);
        below = subst (λ (n : ℕ). AreBelow n k.history) (sym knows.passes) k.below;
        few = k.few;
        counted = dite (ℕ_discrete (turns s.views) 0) (λ none. inl (omega arith)) (λ taken. inr (omega arith));
        whole = λ all.
            let seen = whole_seen s k v knows all in
            let none = no_turn s k id v at off some_pass knows all in
            (omega (arith, found, none, ap length seen), seen);
      }

  -- the word is written as it was
  unwritten : (s : Table) (views : List View) → IsKept sizes record { words = s.words; homes = s.homes; views = views }
      → IsKept sizes record { words = set s.words 0 (get_or s.words 0 0); homes = s.homes; views = views }
  unwritten s views k = subst (λ (ws : List ℕ). IsKept sizes record { words = ws; homes = s.homes; views = views }) (sym (set-get_or s.words 0 0)) k

  -- a look
  pub looking : (count id : ℕ) (me : Me Content View) → me.0.turn ≡ false → 0 < me.0.passes → me.1 ≡ []
      → Allows (IsKept sizes) count id me 0 (λ n. n) (looks (step count 0 0 0 none) me)
  looking count id me off some_pass free s k len at small =
      let v = me.0 in
      let knows = known k.history v (k.seats id v at) some_pass in
      let w : View = record v { seen = k.history; turn = false; olds = [] } in
      let mine : Knows sizes k.history w = knows_all k.history v w knows refl refl refl refl refl refl (λ (e : false ≡ true). absurd cc) in (
        w,
        keeps,
        tt,
        unwritten s (set s.views id w) (renewed s k id v w at (sym off) refl (inr mine)),
        (sees s k id v false at off some_pass knows, refl, free),
      )

  -- what is said of callers that sleep
  pub saying : (count id : ℕ) (me : Me Content View) (f : ℕ → ℕ) → ((n : ℕ) → n ≤ 1 → f n ≤ 1)
      → Allows (IsKept sizes) count id me 1 f (λ n after. after ≡ me)
  saying count id me f few s k len at small =
      let x : ℕ = get_or s.words 1 0 in
      let found : x ≡ k.may_sleep = ap (λ (ws : List ℕ). get_or ws 1 0) k.word in
      let more : IsKept sizes record { words = set s.words 1 (f x); homes = s.homes; views = s.views } = record {
        history = k.history;
        legal = k.legal;
        below = k.below;
        few = k.few;
        may_sleep = f x;
        others = k.others;
        put = k.put;
        word = ap (λ (ws : List ℕ). set ws 1 (f x)) k.word;
        flag = few x (subst (λ (n : ℕ). n ≤ 1) (sym found) k.flag);
        one_turn = k.one_turn;
        book = k.book;
        apart = k.apart;
        seats = k.seats;
      } in (
        me.0,
        keeps,
        tt,
        subst (λ (vs : List View). IsKept sizes record { words = set s.words 1 (f x); homes = s.homes; views = vs }) (sym (set_again s.views id me.0 at)) more,
        refl,
      )

  abbrev MayTake : View → ℕ → Type 0
  MayTake v old = (((actor : ℕ) × (v.actors ≡ actor ∷ [])) × (old < 2 ^ 63)) ⊎ AnswersForAll v

  -- the turn is taken
  taken : (s : Table) (k : IsKept sizes s) (id : ℕ) (v : View) (old : ℕ) → get_elem? s.views id ≡ some v → v.turn ≡ false → Knows sizes k.history v
      → old % 2 ≡ 0 → MayTake v old → get_or s.words 0 0 ≡ old
      → IsKept sizes record { words = set s.words 0 (old + 1); homes = set s.homes 0 none; views = set s.views id (record v { seen = k.history; turn = true; olds = [] }) }
  taken s k id v old at off knows even may hit =
      let w : View = record v { seen = k.history; turn = true; olds = [] } in
      let found : get_or s.words 0 0 ≡ 2 * length k.history + turns s.views = ap (λ (ws : List ℕ). get_or ws 0 0) k.word in
      let one = k.one_turn in
      let free : turns s.views ≡ 0 = omega (arith, found, hit, even, one) in
      let sums = sum-set is_turn s.views id v w at in
      let idle : is_turn v ≡ 0 = ap (λ (b : Bool). cond b 1 0) off in
      let now : turns (set s.views id w) ≡ 1 = omega (arith, sums, idle, free) in
      let turn : HasTurn k.history w = record {
        seen = refl;
        olds = refl;
        one = ⊎_elim (λ (t : ((actor : ℕ) × (v.actors ≡ actor ∷ [])) × (old < 2 ^ 63)). inl (t.0, omega (arith, found, hit, free, t.1))) (λ (t : AnswersForAll v). inr t) may;
      } in
      record {
        history = k.history;
        legal = k.legal;
        below = k.below;
        few = k.few;
        may_sleep = k.may_sleep;
        others = k.others;
        put = k.put;
        word = ap (λ (ws : List ℕ). set ws 0 (old + 1)) k.word ∙ ap (λ (n : ℕ). n ∷ k.may_sleep ∷ k.others) (omega (arith, found, hit, free, now));
        flag = k.flag;
        one_turn = omega (arith, now);
        book = λ none. absurd (omega (arith, now, none));
        apart = λ actor. let a = k.apart actor in let b = sum-set (λ (u : View). times actor u.actors) s.views id v w at in omega arith;
        seats = others (IsSeat sizes k.history) s.views id w (inr (knows_all k.history v w knows refl refl refl refl refl refl (λ _. turn))) (λ j u other. k.seats j u);
      }

  -- a try to take the turn
  pub taking : (count id : ℕ) (me : Me Content View) (old : ℕ) → me.0.turn ≡ false → 0 < me.0.passes → me.1 ≡ [] → old % 2 ≡ 0 → MayTake me.0 old
      → Allows (IsKept sizes) count id me 0 (λ n. either (n == old) (old + 1) n) (takes (step count 0 old (old + 1) none) me)
  taking count id me old off some_pass free even may s k len at small =
      let v = me.0 in
      let knows = known k.history v (k.seats id v at) some_pass in
      let x : ℕ = get_or s.words 0 0 in
      dite (ℕ_discrete x old)
      (λ hit.
      let w : View = record v { seen = k.history; turn = true; olds = [] } in
      let found : x ≡ 2 * length k.history + turns s.views = ap (λ (ws : List ℕ). get_or ws 0 0) k.word in
      let one = k.one_turn in
      let none_has : turns s.views ≡ 0 = omega (arith, found, hit, even, one) in
      let b = k.book none_has in
      let stands : StandsFor b.0 (after v.arena v.slots k.history) =
      subst (λ (n : ℕ). StandsFor b.0 (after n v.slots k.history)) (sym knows.arena) (subst (λ (n : ℕ). StandsFor b.0 (after sizes.arena n k.history)) (sym knows.slots) b.2) in (
        w,
        takes_slot 0 (Some b.0),
        ap (λ (hs : List (mathlib.Core.Option.Option Content)). get_elem? hs 0) b.1,
        subst (λ (t : Bool). IsKept sizes (stepped s 0 (either t (old + 1) x) id me.1 w (takes_slot 0 (Some b.0)))) (sym (eq-eqb x old hit)) (taken s k id v old at off knows even may hit),
        (
          sees s k id v true at off some_pass knows,
          subst (λ (t : Bool). MatchBool t (HasTaken w ((0, Some b.0) ∷ me.1)) ((w.turn ≡ false) × ((0, Some b.0) ∷ me.1 ≡ []))) (sym (eq-eqb x old hit))
              (record { turn = refl; book = b.0; taken = ap (λ (l : List (ℕ × Content)). (0, Some b.0) ∷ l) free; stands = stands }),
        ),
      ))
      (λ miss.
      let w : View = record v { seen = k.history; turn = false; olds = [] } in
      let mine : Knows sizes k.history w = knows_all k.history v w knows refl refl refl refl refl refl (λ (e : false ≡ true). absurd cc) in (
        w,
        keeps,
        tt,
        subst (λ (t : Bool). IsKept sizes (stepped s 0 (either t (old + 1) x) id me.1 w keeps)) (sym (ne_eqb x old miss))
            (unwritten s (set s.views id w) (renewed s k id v w at (sym off) refl (inr mine))),
        (
          sees s k id v false at off some_pass knows,
          subst (λ (t : Bool). MatchBool t (HasTaken w me.1) ((w.turn ≡ false) × (me.1 ≡ []))) (sym (ne_eqb x old miss)) (refl, free),
        ),
      ))
