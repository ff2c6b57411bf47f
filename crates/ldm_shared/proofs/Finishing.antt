-- The end of a shared queue: the seat that answers for all actors takes the turn.
use Rattle.std.proofs.Common.{◌≡◌, ℕ, suc, ◌%◌, ◌<◌, Bool, true, false, cond, nat_eq, slice_index_or, List, [], ◌∷◌, length, MatchBool, Option, Some, None, refl, ap, sym, subst, ◌∙◌, arith, append-nil}
use Rattle.std.specs.List.{All, AllByRecursion}
use mathlib.Core.List.{IsPrefix}
use Rattle.atomic_table.specs.Seated.{TableId}
use Rattle.atomic_table.specs.Table.{Me}
use Rattle.ldm_model.specs.declared.event.Entry.{Entry}
use Rattle.ldm_model.specs.History.{after}
use Rattle.ldm_book.specs.View.{BookView}
use Rattle.ldm_book.specs.Stands.{StandsFor}
use Rattle.ldm_shared.specs.declared.view.View.{View}
use Rattle.ldm_shared.specs.declared.pass.Pass.TheInside.{Inside}
use Rattle.ldm_shared.specs.Own.{own}
use Rattle.ldm_shared.specs.Passes.{SharedView, PassView, AreAllOf, IsLast, HasAllOf}
use Rattle.ldm_shared.specs.Inside.{view_of_pass, IsPass}
use Rattle.ldm_shared.specs.Rule.{times, AnswersForAll}
use Rattle.ldm_shared.specs.Steps.{Sees, HasTaken}
use Rattle.ldm_shared.specs.Seats.{IsHistory, HasGathered, IsSized}
use Rattle.ldm_shared.proofs.Taking.{ASeat, has_taken, history_sees}
use Rattle.ldm_shared.proofs.Gathering.{answers_among}

by_recursion : {A : Type 0} (P : A → Type 0) (xs : List A) → All P xs → AllByRecursion P xs
by_recursion P [] all = tt
by_recursion P (x ∷ xs) all = (all 0 x (omega arith), by_recursion P xs (λ k d less. all (suc k) d (omega arith)))

-- the seat that took in all passes answers for all actors
pub answers_all : (shared : SharedView) (passes : List PassView) (v : View) → AreAllOf shared passes → IsSized shared v → All (HasGathered v) passes → AnswersForAll v
answers_all shared passes v all sized each actor less =
    answers_among v passes actor (by_recursion (HasGathered v) passes each) (all.all actor (subst (λ (n : ℕ). actor < n) sized.passes less))

ended_queue : (b : Bool) (id : TableId) → b ≡ true → cond b None (Some id) ≡ None
ended_queue true id e = refl
ended_queue false id e = absurd cc

module _ (shared : SharedView) (v w : View) (word : ℕ) (sized : IsSized shared v) (all : AnswersForAll v) (sees : Sees v word w) where
  pub even : word % 2 ≡ 0
  even = let whole = sees.whole all in omega (arith, whole.0)

  pub all_seen : AnswersForAll w
  all_seen actor less =
      subst (λ (l : List ℕ). 0 < times actor l) (sym (ap (λ (x : View). x.actors) sees.same))
      (all actor (subst (λ (n : ℕ). actor < n) (ap (λ (x : View). x.passes) sees.same) less))

  module _ (seat : ASeat) (found : ℕ) (taken : MatchBool (nat_eq found word) (HasTaken seat.me.0 seat.me.1) ((seat.me.0.turn ≡ false) × (seat.me.1 ≡ [])))
      (sees_then : Sees w found seat.me.0) where
    pub is_taken : HasTaken seat.me.0 seat.me.1
    is_taken =
        let whole = sees.whole all in
        let whole_then = sees_then.whole all_seen in
        has_taken seat.me.0 seat.me.1 found word (omega (arith, whole.0, whole_then.0, ap length whole.1)) taken

    module _ (actor : ℕ) (out : ASeat) (empty : out.me ≡ (seat.me.0, (0, None) ∷ [])) where
      abbrev last : Inside
      last = record { actor = actor; seat = out }

      view : out.me.0 ≡ seat.me.0
      view = ap (λ (m : Me (Option BookView) View). m.0) empty

      turn : out.me.0.turn ≡ true
      turn = ap (λ (x : View). x.turn) view ∙ is_taken.turn

      arena : out.me.0.arena ≡ shared.arena
      arena = ap (λ (x : View). x.arena) view ∙ (ap (λ (x : View). x.arena) sees_then.same ∙ (ap (λ (x : View). x.arena) sees.same ∙ sized.arena))

      slots : out.me.0.slots ≡ shared.slots
      slots = ap (λ (x : View). x.slots) view ∙ (ap (λ (x : View). x.slots) sees_then.same ∙ (ap (λ (x : View). x.slots) sees.same ∙ sized.slots))

      passes : out.me.0.passes ≡ shared.passes
      passes = ap (λ (x : View). x.passes) view ∙ (ap (λ (x : View). x.passes) sees_then.same ∙ (ap (λ (x : View). x.passes) sees.same ∙ sized.passes))

      seen : out.me.0.seen ≡ v.seen
      seen = ap (λ (x : View). x.seen) view ∙ ((sees_then.whole all_seen).1 ∙ (sees.whole all).1)

      pub last_kept : IsPass last
      last_kept idle = absurd (cc (turn, idle))

      pub last_is : IsLast shared (view_of_pass last)
      last_is =
          let history : IsHistory out.me.0 = subst IsHistory (sym view) (history_sees w seat.me.0 found sees_then) in
          let queue : cond out.me.0.turn None (Some out.table_id) ≡ None = ended_queue out.me.0.turn out.table_id turn in
          record {
            ended = λ i. record { queue = queue i; arena = arena i; slots = slots i; passes = passes i; actor = actor; seen = out.me.0.seen };
            has_seen = record { legal = history.legal; below = history.below; few = history.few };
          }

      pub last_all : (items : List PassView) → All (HasGathered v) items → All (HasAllOf (view_of_pass last)) items
      last_all items each k d less =
          let has = each k d less in
          record { begins = subst (λ (h : List Entry). IsPrefix (slice_index_or items k d).seen h) (sym seen) has.begins; own = ap (own (slice_index_or items k d).actor) seen ∙ (has.own_seen ∙ sym (append-nil (own (slice_index_or items k d).actor (slice_index_or items k d).seen))) }

      pub last_stands : (book : BookView) → StandsFor book (after seat.me.0.arena seat.me.0.slots seat.me.0.seen) → StandsFor book (after shared.arena shared.slots out.me.0.seen)
      last_stands book stands =
          subst (λ (n : ℕ). StandsFor book (after n shared.slots out.me.0.seen)) arena
          (subst (λ (n : ℕ). StandsFor book (after out.me.0.arena n out.me.0.seen)) slots
          (subst (λ (x : View). StandsFor book (after x.arena x.slots x.seen)) (sym view) stands))
