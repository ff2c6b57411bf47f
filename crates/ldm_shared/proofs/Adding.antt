-- The step that adds an entry to the history, and gives the turn and the book back, keeps the rule.
use Rattle.std.proofs.Common.{◌≡◌, ◌≢◌, ℕ, ◌+◌, ◌*◌, ◌%◌, ◌^◌, ◌<◌, Bool, true, false, cond, List, [], ◌∷◌, ◌++◌, length, set, get_or, Option, Some, refl, ap, sym, subst, ◌∙◌, arith, ◌⊎◌, inl, inr, ⊎_elim, length-append, mod-eq_of_lt}
use Rattle.std.specs.List.{AllByRecursion}
use mathlib.Core.Option.{some, none}
use Rattle.atomic_table.specs.Table.{Me, step, gives, put_back, Allows}
use Rattle.ldm_model.specs.declared.event.Entry.{Entry}
use Rattle.ldm_model.specs.History.{after, IsLegal}
use Rattle.ldm_book.specs.View.{BookView}
use Rattle.ldm_book.specs.Stands.{StandsFor}
use Rattle.ldm_shared.specs.declared.sizes.Sizes.{Sizes}
use Rattle.ldm_shared.specs.declared.view.View.{View}
use Rattle.ldm_shared.specs.declared.view.Old.{Old}
use Rattle.ldm_shared.specs.Own.{AreBelow}
use Rattle.ldm_shared.specs.Rule.{times, AnswersFor, turns, spent, IsOld, Knows, IsKept}
use Rattle.ldm_shared.specs.Steps.{adds}
use Rattle.ldm_shared.proofs.Histories.{prefix_self, prefix_more, own-other, below-append}
use Rattle.ldm_shared.proofs.Counts.{is_turn, idle_turn, sum-set, sum-at, sum-two, times-self}
use Rattle.ldm_shared.proofs.Keeping.{known, others}
use Rattle.ldm_shared.proofs.Puts.{put_later}

abbrev Content : Type 0
Content = Option BookView

-- a row of one slot
set_one : {A : Type 0} (xs : List A) (x : A) → length xs ≡ 1 → set xs 0 x ≡ x ∷ []
set_one [] x e = absurd (omega arith)
set_one (y ∷ []) x e = refl
set_one (y ∷ z ∷ xs) x e = absurd (omega arith)

-- old histories, where another actor's entry is added
olds_more : (olds : List Old) (actors : List ℕ) (history : List Entry) (entry : Entry) → (0 < times entry.actor actors → ⊥) → AllByRecursion (IsOld history actors) olds
    → AllByRecursion (IsOld (history ++ entry ∷ []) actors) olds
olds_more [] actors history entry other all = tt
olds_more (old ∷ olds) actors history entry other all = (
  record {
    begins = prefix_more old.seen history (entry ∷ []) all.0.begins;
    own = λ actor answers.
        own-other actor history entry (λ (e : entry.actor ≡ actor). other (subst (λ (n : ℕ). 0 < times n actors) (sym e) (all.0.among actor answers))) ∙ all.0.own actor answers;
    among = all.0.among;
  },
  olds_more olds actors history entry other all.1,
)

module _ (sizes : Sizes) where
  -- A seat that neither has the turn nor answers for the actor of the new entry
  knows_more : (history : List Entry) (entry : Entry) (u : View) → Knows sizes history u → u.turn ≡ false → (AnswersFor u entry.actor → ⊥) → Knows sizes (history ++ entry ∷ []) u
  knows_more history entry u knows off other = record {
    arena = knows.arena;
    slots = knows.slots;
    passes = knows.passes;
    seen = prefix_more u.seen history (entry ∷ []) knows.seen;
    olds = olds_more u.olds u.actors history entry other knows.olds;
    actors = λ actor answers. (
      (knows.actors actor answers).0,
      own-other actor history entry (λ (e : entry.actor ≡ actor). other (subst (λ (n : ℕ). AnswersFor u n) (sym e) answers)) ∙ (knows.actors actor answers).1,
    );
    turn = λ (on : u.turn ≡ true). absurd (cc (on, off));
  }

  -- the seat of the entry's actor, which has seen all
  knows_own : (history : List Entry) (entry : Entry) (v : View) → Knows sizes history v → v.olds ≡ [] → Knows sizes (history ++ entry ∷ []) (record v { seen = history ++ entry ∷ []; turn = false })
  knows_own history entry v knows olds = record {
    arena = knows.arena;
    slots = knows.slots;
    passes = knows.passes;
    seen = prefix_self (history ++ entry ∷ []);
    olds = subst (AllByRecursion (IsOld (history ++ entry ∷ []) v.actors)) (sym olds) tt;
    actors = λ actor answers. ((knows.actors actor answers).0, refl);
    turn = λ (e : false ≡ true). absurd cc;
  }

  -- an entry is added to the history that the seat with the turn has seen
  pub adding : (count id : ℕ) (me : Me Content View) (entry : Entry) (book : BookView)
      → count ≡ 1 → 0 < me.0.passes → me.0.turn ≡ true → me.1 ≡ (0, Some book) ∷ [] → me.0.actors ≡ entry.actor ∷ [] → length me.0.seen < 2 ^ 62
      → IsLegal me.0.arena me.0.slots (me.0.seen ++ entry ∷ []) → StandsFor book (after me.0.arena me.0.slots (me.0.seen ++ entry ∷ []))
      → Allows (IsKept sizes) count id me 0 (λ n. (n + 1) % 2 ^ 64) (adds entry (step count 0 1 0 none) me)
  adding count id me entry book one_slot some_pass on carried actors few legal stands s k len at small =
      let v = me.0 in
      let H : List Entry = v.seen ++ entry ∷ [] in
      let knows = known sizes k.history v (k.seats id v at) some_pass in
      let has = knows.turn on in
      let w : View = record v { seen = H; turn = false } in
      let found : get_or s.words 0 0 ≡ 2 * length k.history + turns s.views = ap (λ (ws : List ℕ). get_or ws 0 0) k.word in
      let one = k.one_turn in
      let mine : is_turn v ≡ 1 = ap (λ (b : Bool). cond b 1 0) on in
      let most = sum-at is_turn s.views id v at in
      let sums = sum-set is_turn s.views id v w at in
      let now : turns (set s.views id w) ≡ 0 = omega (arith, sums, most, mine, one) in
      let long : length H ≡ length v.seen + 1 = length-append v.seen (entry ∷ []) in
      let same : length k.history ≡ length v.seen = ap length (sym has.seen) in
      let next : get_or s.words 0 0 + 1 ≡ 2 * length H = omega (arith, found, most, mine, one, long, same) in
      let fits : (get_or s.words 0 0 + 1) % 2 ^ 64 ≡ 2 * length H = mod-eq_of_lt (omega (arith, next, long, few)) ∙ next in
      let answers : AnswersFor v entry.actor = subst (λ (l : List ℕ). 0 < times entry.actor l) (sym actors) (let self = times-self entry.actor in omega arith) in
      let knows' : Knows sizes v.seen v = subst (λ (h : List Entry). Knows sizes h v) (sym has.seen) knows in
      let book' : StandsFor book (after sizes.arena sizes.slots H) =
      subst (λ (n : ℕ). StandsFor book (after n sizes.slots H)) knows.arena (subst (λ (n : ℕ). StandsFor book (after v.arena n H)) knows.slots stands) in (
        w,
        gives,
        tt,
        record {
          history = H;
          legal = subst (λ (n : ℕ). IsLegal n sizes.slots H) knows.arena (subst (λ (n : ℕ). IsLegal v.arena n H) knows.slots legal);
          below = below-append sizes.passes v.seen (entry ∷ []) (subst (AreBelow sizes.passes) (sym has.seen) k.below) ((knows.actors entry.actor answers).0, tt);
          few = omega (arith, long, few);
          may_sleep = k.may_sleep;
          others = k.others;
          put = λ actor n told. put_later actor k.history H n (entry ∷ [], ap (λ (h : List Entry). h ++ entry ∷ []) (sym has.seen)) (k.put actor n told);
          word = ap (λ (ws : List ℕ). set ws 0 ((get_or s.words 0 0 + 1) % 2 ^ 64)) k.word ∙ ap (λ (n : ℕ). n ∷ k.may_sleep ∷ k.others) (omega (arith, fits, now));
          flag = k.flag;
          one_turn = omega (arith, now);
          book = λ _. (
            book,
            subst (λ (l : List (ℕ × Content)). put_back s.homes l ≡ some (Some book) ∷ []) (sym carried) (set_one s.homes (some (Some book)) (len ∙ one_slot)),
            book',
          );
          apart = λ actor. let a = k.apart actor in let b = sum-set (λ (u : View). times actor u.actors) s.views id v w at in omega arith;
          seats = others sizes (λ (u : View). (u ≡ spent) ⊎ Knows sizes H u) s.views id w (inr (knows_own v.seen entry v knows' has.olds))
              (λ j u other there. ⊎_elim (λ (e : u ≡ spent). inl e)
              (λ (theirs : Knows sizes k.history u).
              let apart : id ≢ j = λ e. other (sym e) in
              let two = sum-two is_turn s.views id j v u apart at there in
              let idle : u.turn ≡ false = idle_turn u (omega (arith, two, mine, one)) in
              let both = sum-two (λ (x : View). times entry.actor x.actors) s.views id j v u apart at there in
              let few = k.apart entry.actor in
              inr (knows_more v.seen entry u (subst (λ (h : List Entry). Knows sizes h u) (sym has.seen) theirs) idle (λ (h : AnswersFor u entry.actor). absurd (omega (arith, both, few, answers, h)))))
              (k.seats j u there));
        },
        (refl, refl),
      )
