-- Cutting a view in two, and making two of them one, keep the rule.
use Rattle.std.proofs.Common.{◌≡◌, ℕ, zero, suc, ◌+◌, ◌<◌, ◌≤◌, Bool, true, false, cond, nat_lt, List, [], ◌∷◌, ◌++◌, length, set, refl, ap, sym, subst, ◌∙◌, arith, ◌⊎◌, inl, inr, ⊎_elim}
use Rattle.std.specs.List.{AllByRecursion}
use Rattle.std.proofs.lemmas.List.Sums.{sum_by-append}
use Rattle.std.proofs.lemmas.Bool.Decides.{nat_tests}
use mathlib.Core.Option.{some}
use mathlib.Core.List.{IsPrefix}
use lib.ListN.{get_elem?}
use Rattle.atomic_table.specs.Table.{State, Splits, Joins}
use Rattle.atomic_table.proofs.Lists.{at_snoc, set_else}
use Rattle.ldm_model.specs.declared.event.Entry.{Entry}
use Rattle.ldm_book.specs.View.{BookView}
use Rattle.ldm_shared.specs.declared.sizes.Sizes.{Sizes}
use Rattle.ldm_shared.specs.declared.view.View.{View}
use Rattle.ldm_shared.specs.declared.view.Old.{Old}
use Rattle.ldm_shared.specs.Own.{own}
use Rattle.ldm_shared.specs.Rule.{times, AnswersFor, spent, IsOld, Knows, IsKept}
use Rattle.ldm_shared.specs.Joining.{first_actor, other_actors, of_pass, without_pass, note, longer, old_of, both}
use Rattle.ldm_shared.proofs.Histories.{prefix_self, prefix_shorter, own-between}
use Rattle.ldm_shared.proofs.Counts.{is_turn, sum-set, times-append, times-cons}
use Rattle.ldm_shared.proofs.Keeping.{known, kept, others}

abbrev Table : Type 0
Table = State (Rattle.std.specs.Prelude.Option BookView) View

abbrev IsSeat : Sizes → List Entry → View → Type 0
IsSeat sizes history v = (v ≡ spent) ⊎ Knows sizes history v

all-append : {A : Type 0} (P : A → Type 0) (xs ys : List A) → AllByRecursion P xs → AllByRecursion P ys → AllByRecursion P (xs ++ ys)
all-append P [] ys p q = q
all-append P (x ∷ xs) ys p q = (p.0, all-append P xs ys p.1 q)

module _ (sizes : Sizes) where
  -- a seat that answers for no more actors than before
  knows_fewer : (history : List Entry) (v w : View) → Knows sizes history v → w.arena ≡ v.arena → w.slots ≡ v.slots → w.passes ≡ v.passes → w.seen ≡ v.seen
      → AllByRecursion (IsOld history w.actors) w.olds → ((actor : ℕ) → times actor w.actors ≤ times actor v.actors) → w.turn ≡ false → Knows sizes history w
  knows_fewer history v w k arena slots passes seen olds fewer off = record {
    arena = arena ∙ k.arena;
    slots = slots ∙ k.slots;
    passes = passes ∙ k.passes;
    seen = subst (λ (h : List Entry). IsPrefix h history) (sym seen) k.seen;
    olds = olds;
    actors = λ actor (answers : AnswersFor w actor).
        let less = fewer actor in
        let known = k.actors actor (omega (arith, less, answers)) in
        (known.0, known.1 ∙ ap (own actor) (sym seen));
    turn = λ (on : w.turn ≡ true). absurd (cc (on, off));
  }

  splitting : (id : ℕ) (v : View) (l r : List ℕ) (olds : List Old) → v.turn ≡ false → 0 < v.passes → ((actor : ℕ) → times actor l + times actor r ≤ times actor v.actors)
      → ((history : List Entry) → Knows sizes history v → AllByRecursion (IsOld history l) olds)
      → Splits (IsKept sizes) id v (record v { actors = l; olds = olds }) (record v { actors = r; olds = [] })
  splitting id v l r olds off some_pass less are_old s k at =
      let left : View = record v { actors = l; olds = olds } in
      let right : View = record v { actors = r; olds = [] } in
      let views : List View = set s.views id left in
      let knows = known sizes k.history v (k.seats id v at) some_pass in
      let idle : is_turn v ≡ 0 = ap (λ (b : Bool). cond b 1 0) off in
      let mine : Knows sizes k.history left = knows_fewer k.history v left knows refl refl refl refl (are_old k.history knows) (λ actor. let a = less actor in omega arith) off in
      let its : Knows sizes k.history right = knows_fewer k.history v right knows refl refl refl refl tt (λ actor. let a = less actor in omega arith) off in
      kept sizes s k (views ++ right ∷ [])
      (omega (arith, sum_by-append is_turn views (right ∷ []), sum-set is_turn s.views id v left at, idle))
      (λ actor.
      let f : View → ℕ = λ (u : View). times actor u.actors in
      omega (arith, sum_by-append f views (right ∷ []), sum-set f s.views id v left at, less actor))
      (λ j u there. ⊎_elim (others sizes (IsSeat sizes k.history) s.views id left (inr mine) (λ i x _. k.seats i x) j u) (λ (e : right ≡ u). subst (IsSeat sizes k.history) e (inr its)) (at_snoc views right u j there))

  dealt : (actor : ℕ) (actors : List ℕ) → times actor (other_actors actors) + times actor (first_actor actors) ≤ times actor actors
  dealt actor [] = omega arith
  dealt actor (a ∷ actors) = omega (arith, times-cons actor a actors)

  -- a pass is made
  pub dealing : (id : ℕ) (v : View) → v.turn ≡ false → 0 < v.passes → Splits (IsKept sizes) id v (without_pass v) (of_pass v)
  dealing id v off some_pass = splitting id v (other_actors v.actors) (first_actor v.actors) [] off some_pass (λ actor. dealt actor v.actors) (λ history knows. tt)

  -- a note is made
  pub noting : (id : ℕ) (v : View) → v.turn ≡ false → 0 < v.passes → Splits (IsKept sizes) id v v (note v)
  noting id v off some_pass = splitting id v v.actors [] v.olds off some_pass (λ actor. omega arith) (λ history knows. knows.olds)

  shorter_seen : (xs ys history : List Entry) → IsPrefix xs history → IsPrefix ys history
      → IsPrefix xs (longer xs ys) × IsPrefix ys (longer xs ys) × IsPrefix (longer xs ys) history
  shorter_seen xs ys history p q = by_test (nat_lt (length xs) (length ys)) refl
    where
      by_test : (b : Bool) → nat_lt (length xs) (length ys) ≡ b → IsPrefix xs (cond b ys xs) × IsPrefix ys (cond b ys xs) × IsPrefix (cond b ys xs) history
      by_test true e = (prefix_shorter xs ys history p q (grind (arith, nat_tests)), prefix_self ys, q)
      by_test false e = (prefix_self xs, prefix_shorter ys xs history q p (grind (arith, nat_tests)), p)

  -- what a seat has seen, as an old history
  is_old : (history : List Entry) (v : View) (all : List ℕ) → Knows sizes history v → ((actor : ℕ) → 0 < times actor v.actors → 0 < times actor all) → IsOld history all (old_of v)
  is_old history v all knows among = record {
    begins = knows.seen;
    own = λ actor answers. (knows.actors actor answers).1;
    among = among;
  }

  olds_among : (history : List Entry) (olds : List Old) (some_actors all : List ℕ) → ((actor : ℕ) → 0 < times actor some_actors → 0 < times actor all)
      → AllByRecursion (IsOld history some_actors) olds → AllByRecursion (IsOld history all) olds
  olds_among history [] some_actors all among each = tt
  olds_among history (old ∷ olds) some_actors all among each = (
    record { begins = each.0.begins; own = each.0.own; among = λ actor answers. among actor (each.0.among actor answers) },
    olds_among history olds some_actors all among each.1,
  )

  knows_both : (history : List Entry) (v w : View) → Knows sizes history v → Knows sizes history w → v.turn ≡ false → Knows sizes history (both v w)
  knows_both history v w a b off =
      let l = shorter_seen v.seen w.seen history a.seen b.seen in
      let all : List ℕ = v.actors ++ w.actors in
      let left : (actor : ℕ) → 0 < times actor v.actors → 0 < times actor all = λ actor answers. omega (arith, times-append actor v.actors w.actors, answers) in
      let right : (actor : ℕ) → 0 < times actor w.actors → 0 < times actor all = λ actor answers. omega (arith, times-append actor v.actors w.actors, answers) in
      record {
        arena = a.arena;
        slots = a.slots;
        passes = a.passes;
        seen = l.2;
        olds = (
          is_old history v all a left,
          (is_old history w all b right, all-append (IsOld history all) v.olds w.olds (olds_among history v.olds v.actors all left a.olds) (olds_among history w.olds w.actors all right b.olds)),
        );
        actors = λ actor (answers : AnswersFor (both v w) actor). dite' (times actor v.actors)
            (λ mine. ((a.actors actor mine).0, own-between actor v.seen (longer v.seen w.seen) history l.0 l.2 (a.actors actor mine).1))
            (λ none.
            let its : AnswersFor w actor = omega (arith, times-append actor v.actors w.actors, none, answers) in
            ((b.actors actor its).0, own-between actor w.seen (longer v.seen w.seen) history l.1 l.2 (b.actors actor its).1));
        turn = λ (on : v.turn ≡ true). absurd (cc (on, off));
      }
    where
      dite' : {P : Type 0} (n : ℕ) → (0 < n → P) → (n ≡ 0 → P) → P
      dite' zero some_case none_case = none_case refl
      dite' (suc n) some_case none_case = some_case (omega arith)

  -- a seat takes in another one
  pub joining : (id : ℕ) (v : View) (other : ℕ) (w : View) → v.turn ≡ false → w.turn ≡ false → 0 < v.passes → 0 < w.passes → Joins (IsKept sizes) id v other w (both v w) spent
  joining id v other w off its_off some_pass its_some s k at apart there =
      let all : View = both v w in
      let views : List View = set s.views id all in
      let before : get_elem? s.views other ≡ some w = sym (set_else s.views id other all apart) ∙ there in
      let knows = known sizes k.history v (k.seats id v at) some_pass in
      let its = known sizes k.history w (k.seats other w before) its_some in
      let idle : is_turn v ≡ 0 = ap (λ (b : Bool). cond b 1 0) off in
      let its_idle : is_turn w ≡ 0 = ap (λ (b : Bool). cond b 1 0) its_off in
      kept sizes s k (set views other spent)
      (omega (arith, sum-set is_turn s.views id v all at, sum-set is_turn views other w spent there, idle, its_idle))
      (λ actor.
      let f : View → ℕ = λ (u : View). times actor u.actors in
      omega (arith, sum-set f s.views id v all at, sum-set f views other w spent there, times-append actor v.actors w.actors))
      (others sizes (IsSeat sizes k.history) views other spent (inl refl)
      (λ j u _. others sizes (IsSeat sizes k.history) s.views id all (inr (knows_both k.history v w knows its off)) (λ i x _. k.seats i x) j u))
