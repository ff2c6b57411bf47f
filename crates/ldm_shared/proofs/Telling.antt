-- What an actor put in is told by a word of its own.
use Rattle.std.proofs.Common.{◌≡◌, ℕ, zero, suc, ◌+◌, ◌-◌, ◌*◌, ◌<◌, false, true, List, [], ◌∷◌, set, get_or, Option, refl, ap, sym, subst, ◌∙◌, arith, ◌⊎◌, inl, inr, ⊎_elim, length}
use Rattle.std.proofs.lemmas.List.{set-get_or}
use mathlib.Core.Option.{none}
use Rattle.atomic_table.specs.Table.{Me, step, keeps, Allows}
use Rattle.atomic_table.proofs.Lists.{set_again}
use Rattle.ldm_book.specs.View.{BookView}
use Rattle.ldm_shared.specs.declared.sizes.Sizes.{Sizes}
use Rattle.ldm_shared.specs.declared.view.View.{View}
use Rattle.ldm_shared.specs.Putting.{HasPut}
use Rattle.ldm_shared.specs.Rule.{turns, Knows, IsKept}
use Rattle.ldm_shared.specs.Steps.{looks_at_put}
use Rattle.ldm_shared.proofs.Keeping.{known, knows_all, renewed, sees}
use Rattle.ldm_shared.proofs.Puts.{put_later}

abbrev Content : Type 0
Content = Option BookView

-- a place of a list where one was set
set_reads : (xs : List ℕ) (i x j : ℕ) → ((j ≡ i) × (get_or (set xs i x) j 0 ≡ x)) ⊎ (get_or (set xs i x) j 0 ≡ get_or xs j 0)
set_reads [] i x j = inr refl
set_reads (y ∷ ys) zero x zero = inl (refl, refl)
set_reads (y ∷ ys) zero x (suc j) = inr refl
set_reads (y ∷ ys) (suc i) x zero = inr refl
set_reads (y ∷ ys) (suc i) x (suc j) =
    ⊎_elim (λ (t : (j ≡ i) × (get_or (set ys i x) j 0 ≡ x)). inl (ap suc t.0, t.1)) (λ (e : get_or (set ys i x) j 0 ≡ get_or ys j 0). inr e) (set_reads ys i x j)

behind : (actor : ℕ) → 8 + actor ≡ suc (suc (6 + actor))
behind actor = omega arith

module _ (sizes : Sizes) where
  -- an actor tells
  pub putting : (count id : ℕ) (me : Me Content View) (actor n : ℕ) → 0 < me.0.passes → HasPut actor me.0.seen n
      → Allows (IsKept sizes) count id me (8 + actor) (λ old. n + 1) (λ found after. after ≡ me)
  putting count id me actor n some_pass has s k len at small =
      let knows = known sizes k.history me.0 (k.seats id me.0 at) some_pass in
      let here : HasPut actor k.history n = put_later actor me.0.seen k.history n knows.seen has in
      let more : IsKept sizes record { words = set s.words (8 + actor) (n + 1); homes = s.homes; views = s.views } = record {
        history = k.history;
        legal = k.legal;
        below = k.below;
        few = k.few;
        may_sleep = k.may_sleep;
        others = set k.others (6 + actor) (n + 1);
        word = ap (λ (ws : List ℕ). set ws (8 + actor) (n + 1)) k.word
            ∙ ap (λ (i : ℕ). set ((2 * length k.history + turns s.views) ∷ k.may_sleep ∷ k.others) i (n + 1)) (behind actor);
        put = λ a m told. ⊎_elim
            (λ (t : (6 + a ≡ 6 + actor) × (get_or (set k.others (6 + actor) (n + 1)) (6 + a) 0 ≡ n + 1)).
            let same : actor ≡ a = omega (arith, t.0) in
            let number : n ≡ m = omega (arith, t.1, told) in
            subst (λ (b : ℕ). HasPut b k.history m) same (subst (HasPut actor k.history) number here))
            (λ (e : get_or (set k.others (6 + actor) (n + 1)) (6 + a) 0 ≡ get_or k.others (6 + a) 0). k.put a m (sym e ∙ told))
            (set_reads k.others (6 + actor) (n + 1) (6 + a));
        flag = k.flag;
        one_turn = k.one_turn;
        book = k.book;
        apart = k.apart;
        seats = k.seats;
      } in (
        me.0,
        keeps,
        tt,
        subst (λ (vs : List View). IsKept sizes record { words = set s.words (8 + actor) (n + 1); homes = s.homes; views = vs }) (sym (set_again s.views id me.0 at)) more,
        refl,
      )

  -- a look at what an actor told
  pub looking_at_put : (count id : ℕ) (me : Me Content View) (actor : ℕ) → me.0.turn ≡ false → 0 < me.0.passes → me.1 ≡ []
      → Allows (IsKept sizes) count id me (8 + actor) (λ n. n) (looks_at_put (step count (8 + actor) 0 0 none) me)
  looking_at_put count id me actor off some_pass free s k len at small =
      let v = me.0 in
      let knows = known sizes k.history v (k.seats id v at) some_pass in
      let w : View = record v { seen = k.history; turn = false; olds = [] } in
      let mine : Knows sizes k.history w = knows_all sizes k.history v w knows refl refl refl refl refl refl (λ (e : false ≡ true). absurd cc) in
      let new : IsKept sizes record { words = s.words; homes = s.homes; views = set s.views id w } = renewed sizes s k id v w at (sym off) refl (inr mine) in
      let found : get_or s.words (8 + actor) 0 ≡ get_or k.others (6 + actor) 0 =
      ap (λ (ws : List ℕ). get_or ws (8 + actor) 0) k.word ∙ ap (λ (i : ℕ). get_or ((2 * length k.history + turns s.views) ∷ k.may_sleep ∷ k.others) i 0) (behind actor) in
      let back : actor ≡ 8 + actor - 8 = omega arith in (
        w,
        keeps,
        tt,
        subst (λ (ws : List ℕ). IsKept sizes record { words = ws; homes = s.homes; views = set s.views id w }) (sym (set-get_or s.words (8 + actor) 0)) new,
        ((get_or s.words 0 0, sees sizes s k id v false at off some_pass knows), refl, free, λ n told. subst (λ (a : ℕ). HasPut a k.history n) back (k.put actor n (sym found ∙ told))),
      )
