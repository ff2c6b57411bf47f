-- The rule holds of a new queue, and the actors are dealt out one by one.
use Rattle.std.proofs.Common.{get_or, replicate, ◌≡◌, ℕ, zero, suc, ◌+◌, ◌-◌, ◌<◌, ◌≤◌, ◌==◌, Bool, true, false, cond, List, [], ◌∷◌, ◌++◌, map, Option, Some, refl, ap, sym, subst, ◌∙◌, arith, inr}
use Rattle.std.specs.List.{range_with_len}
use mathlib.Core.Option.{some, some-injective, some-ne-none}
use mathlib.Core.Logic.{dite}
use mathlib.Core.List.{map-append}
use Rattle.atomic_table.specs.declared.shared.Seat.{Seat}
use Rattle.ldm_shared.specs.Passes.{SharedView, PassView, new_pass}
use Rattle.ldm_shared.specs.Joining.{without_pass, other_actors}
use native.Mathlib.Decide.{ℕ_discrete}
use lib.ListN.{get_elem?}
use Rattle.atomic_table.specs.Table as table
use Rattle.ldm_model.specs.State.{empty}
use Rattle.ldm_book.specs.View.{BookView}
use Rattle.ldm_book.specs.Stands.{StandsFor}
use Rattle.ldm_shared.specs.declared.sizes.Sizes.{Sizes}
use Rattle.ldm_shared.specs.declared.view.View.{View}
use Rattle.ldm_shared.specs.Rule.{times, opening, Knows, IsKept}
use Rattle.ldm_shared.proofs.Counts.{times-cons, times-only}

-- an actor among the numbers from a on
times_range : (actor a n : ℕ) → 0 < times actor (range_with_len a n) → (a ≤ actor) × (actor < a + n)
times_range actor a zero some_time = absurd (omega arith)
times_range actor a (suc n) some_time =
    let split = times-cons actor a (range_with_len (a + 1) n) in
    dite (ℕ_discrete (times actor (a ∷ [])) 0)
    (λ none. let rest = times_range actor (a + 1) n (omega (arith, split, none, some_time)) in (omega (arith, rest.0), omega (arith, rest.1)))
    (λ here. let same = times-only a actor (omega arith) in (omega (arith, same), omega (arith, same)))

times_at_most : (b : Bool) → 0 + cond b 1 0 ≤ 1
times_at_most true = omega arith
times_at_most false = omega arith

times_range_one : (actor a n : ℕ) → times actor (range_with_len a n) ≤ 1
times_range_one actor a zero = omega arith
times_range_one actor a (suc n) =
    let split = times-cons actor a (range_with_len (a + 1) n) in
    let rest = times_range_one actor (a + 1) n in
    dite (ℕ_discrete (times actor (a ∷ [])) 0)
    (λ none. omega (arith, split, none, rest))
    (λ here.
    let same = times-only a actor (omega arith) in
    let one = times_at_most (a == actor) in
    dite (ℕ_discrete (times actor (range_with_len (a + 1) n)) 0)
    (λ none. omega (arith, split, none, one))
    (λ there. let above = times_range actor (a + 1) n (omega arith) in absurd (omega (arith, same, above.0))))

module _ (sizes : Sizes) where
  knows_none : Knows sizes [] (opening sizes)
  knows_none = record {
    arena = refl;
    slots = refl;
    passes = refl;
    seen = ([], refl);
    olds = tt;
    actors = λ actor answers. (let range = times_range actor 0 sizes.passes answers in omega (arith, range.1), refl);
    turn = λ (e : false ≡ true). absurd cc;
  }

  first_seat : (id : ℕ) (v : View) → get_elem? (opening sizes ∷ []) id ≡ some v → Knows sizes [] v
  first_seat zero v at = subst (Knows sizes []) (some-injective (opening sizes) v at) knows_none
  first_seat (suc id) v at = absurd (some-ne-none v (sym at))

  pub opened : (book : BookView) → StandsFor book (empty sizes.arena sizes.slots) → IsKept sizes (table.opening (replicate 72 0) (Some book ∷ []) (opening sizes))
  opened book stands = record {
    history = [];
    legal = tt;
    below = tt;
    few = omega arith;
    may_sleep = 0;
    others = replicate 70 0;
    put = λ actor n told. absurd (let none = zeros 70 (6 + actor) in omega (arith, none, told));
    word = refl;
    flag = omega arith;
    one_turn = omega arith;
    book = λ _. (book, refl, stands);
    apart = λ actor. let one = times_range_one actor 0 sizes.passes in omega (arith, one, zero_first (times actor (range_with_len 0 sizes.passes)));
    seats = λ id v at. inr (first_seat id v at);
  }
    where
      zeros : (count i : ℕ) → ◌≡◌ {A = ℕ} (get_or (replicate count 0) i 0) 0
      zeros zero i = refl
      zeros (suc count) zero = refl
      zeros (suc count) (suc i) = zeros count i

      zero_first : (n : ℕ) → 0 + n ≡ n
      zero_first n = omega arith

-- the first number of a range
pub range-first : (i n : ℕ) → i < n → range_with_len i (n - i) ≡ i ∷ range_with_len (i + 1) (n - (i + 1))
range-first i n less = let e : n - i ≡ suc (n - (i + 1)) = omega arith in ap (range_with_len i) e

pub range-last : (a n : ℕ) → range_with_len a (suc n) ≡ range_with_len a n ++ (a + n) ∷ []
range-last a zero = ap (λ (k : ℕ). k ∷ []) (omega arith)
range-last a (suc n) =
    let e : a + 1 + n ≡ a + suc n = omega arith in
    ap (λ (ks : List ℕ). a ∷ ks) (range-last (a + 1) n) ∙ ap (λ (k : ℕ). a ∷ (range_with_len (a + 1) n ++ k ∷ [])) e

abbrev pub dealt : Sizes → ℕ → View
dealt sizes i = record (opening sizes) { actors = range_with_len i (sizes.passes - i) }

-- so many passes were dealt out
pub record IsDealt (shared : SharedView) (sizes : Sizes) (i : ℕ) (seat : Seat (Option BookView) View) (items : List PassView) : Type 0 where
  pub queue : seat.table_id ≡ shared.queue
  pub me : seat.me ≡ (dealt sizes i, [])
  pub items_are : items ≡ map (new_pass shared) (range_with_len 0 i)

pub items_more : (shared : SharedView) (i : ℕ) (items more : List PassView) → items ≡ map (new_pass shared) (range_with_len 0 i) → more ≡ items ++ new_pass shared i ∷ []
    → more ≡ map (new_pass shared) (range_with_len 0 (i + 1))
items_more shared i items more are is =
    let last : 0 + i ≡ i = omega arith in
    let next : suc i ≡ i + 1 = omega arith in
    let dealt : map (new_pass shared) (range_with_len 0 (suc i)) ≡ map (new_pass shared) (range_with_len 0 i) ++ new_pass shared i ∷ [] =
    ap (map (new_pass shared)) (range-last 0 i ∙ ap (λ (k : ℕ). range_with_len 0 i ++ k ∷ []) last) ∙ map-append (new_pass shared) (range_with_len 0 i) (i ∷ []) in
    is ∙ (ap (λ (ps : List PassView). ps ++ new_pass shared i ∷ []) are ∙ (sym dealt ∙ ap (λ (n : ℕ). map (new_pass shared) (range_with_len 0 n)) next))

-- the seat answers for the actors from i on
pub dealt-actors : (sizes : Sizes) (i : ℕ) → i < sizes.passes → (dealt sizes i).actors ≡ i ∷ range_with_len (i + 1) (sizes.passes - (i + 1))
dealt-actors sizes i less = range-first i sizes.passes less

pub dealt-more : (sizes : Sizes) (i : ℕ) → i < sizes.passes → without_pass (dealt sizes i) ≡ dealt sizes (i + 1)
dealt-more sizes i less = ap (λ (l : List ℕ). record (opening sizes) { actors = other_actors l }) (dealt-actors sizes i less)
