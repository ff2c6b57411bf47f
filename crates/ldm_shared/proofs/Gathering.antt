-- What a seat knows that took in another one and looked.
use Rattle.std.proofs.Common.{◌≡◌, ℕ, zero, suc, ◌+◌, ◌<◌, List, [], ◌∷◌, ◌++◌, map, ap, sym, subst, ◌∙◌, arith, append-nil}
use Rattle.std.specs.List.{All, AllByRecursion, Contains}
use mathlib.Core.List.{IsPrefix}
use Rattle.ldm_model.specs.declared.event.Entry.{Entry}
use Rattle.ldm_shared.specs.declared.view.View.{View}
use Rattle.ldm_shared.specs.Own.{own}
use Rattle.ldm_shared.specs.Rule.{times, AnswersFor}
use Rattle.ldm_shared.specs.Steps.{Sees}
use Rattle.ldm_shared.specs.Joining.{both, note}
use Rattle.ldm_shared.specs.Seats.{GoesOn, Gathers, HasGathered, IsSized}
use Rattle.ldm_shared.specs.Passes.{SharedView, PassView, IsPassOf}
use Rattle.ldm_shared.specs.declared.pass.Pass.TheInside.{Inside}
use Rattle.ldm_shared.specs.Inside.{view_of_pass, IsIdle}
use Rattle.ldm_shared.proofs.Histories.{prefix_self, prefix_trans}
use Rattle.ldm_shared.proofs.Counts.{times-append, times-self}

pub gathers : (v w u : View) (found : ℕ) → Sees (both v w) found u → Gathers v w u
gathers v w u found sees = record {
  arena = ap (λ (x : View). x.arena) sees.same;
  slots = ap (λ (x : View). x.slots) sees.same;
  passes = ap (λ (x : View). x.passes) sees.same;
  actors = ap (λ (x : View). x.actors) sees.same;
  olds = ap (λ (x : View). x.olds) sees.same;
  begins = sees.olds.0.begins;
  its = sees.olds.1.0.begins;
  mine = sees.olds.0.own;
  theirs = sees.olds.1.0.own;
}

-- a note answers for nobody
pub gathers_note : (v w u : View) → Gathers v (note w) u → GoesOn v u
gathers_note v w u g = record {
  arena = g.arena;
  slots = g.slots;
  passes = g.passes;
  actors = g.actors ∙ append-nil v.actors;
  olds = g.olds;
  begins = g.begins;
  own = g.mine;
}

module _ {A : Type 0} (P : A → Type 0) where
  -- what holds of each element by its index
  pub by_index : (xs : List A) → AllByRecursion P xs → All P xs
  by_index [] each k d less = absurd (omega arith)
  by_index (x ∷ xs) each zero d less = each.0
  by_index (x ∷ xs) each (suc k) d less = by_index xs each.1 k d (omega arith)

  pub at_middle : (xs : List A) (x : A) (ys : List A) → All P (xs ++ x ∷ ys) → P x
  at_middle [] x ys all = all 0 x (omega arith)
  at_middle (y ∷ xs) x ys all = at_middle xs x ys (λ k d less. all (suc k) d (omega arith))

-- a pass, and what it keeps
pub gathered_first : (shared : SharedView) (pass : PassView) (p : Inside) → view_of_pass p ≡ pass → IsIdle p → HasGathered p.seat.me.0 pass
gathered_first shared pass p view_is idle =
    let actor : p.actor ≡ pass.actor = ap (λ (v : PassView). v.actor) view_is in
    let seen : p.seat.me.0.seen ≡ pass.seen = ap (λ (v : PassView). v.seen) view_is in
    record {
      answers = subst (λ (n : ℕ). AnswersFor p.seat.me.0 n) actor (subst (λ (l : List ℕ). 0 < times p.actor l) (sym idle.actors) (let self = times-self p.actor in omega arith));
      begins = subst (λ (h : List Entry). IsPrefix h p.seat.me.0.seen) seen (prefix_self p.seat.me.0.seen);
      own_seen = ap (own pass.actor) seen;
    }

pub sized_first : (shared : SharedView) (pass : PassView) (p : Inside) → view_of_pass p ≡ pass → IsPassOf shared pass → IsSized shared p.seat.me.0
sized_first shared pass p view_is of = record {
  arena = ap (λ (v : PassView). v.arena) view_is ∙ of.arena;
  slots = ap (λ (v : PassView). v.slots) view_is ∙ of.slots;
  passes = ap (λ (v : PassView). v.passes) view_is ∙ of.passes;
}

-- one more seat is taken in
module _ (v w u : View) (g : Gathers v w u) where
  abbrev either_of : (actor : ℕ) → times actor u.actors ≡ times actor v.actors + times actor w.actors
  either_of actor = ap (times actor) g.actors ∙ times-append actor v.actors w.actors

  gathered_more : (pass : PassView) → HasGathered v pass → HasGathered u pass
  gathered_more pass has = record {
    answers = omega (arith, either_of pass.actor, has.answers);
    begins = prefix_trans pass.seen v.seen u.seen has.begins g.begins;
    own_seen = g.mine pass.actor has.answers ∙ has.own_seen;
  }

  pub gathered_all : (taken : List PassView) → AllByRecursion (HasGathered v) taken → AllByRecursion (HasGathered u) taken
  gathered_all [] each = tt
  gathered_all (pass ∷ taken) each = (gathered_more pass each.0, gathered_all taken each.1)

  pub gathered_new : (pass : PassView) → HasGathered w pass → HasGathered u pass
  gathered_new pass has = record {
    answers = omega (arith, either_of pass.actor, has.answers);
    begins = prefix_trans pass.seen w.seen u.seen has.begins g.its;
    own_seen = g.theirs pass.actor has.answers ∙ has.own_seen;
  }

  pub sized_more : (shared : SharedView) → IsSized shared v → IsSized shared u
  sized_more shared sized = record { arena = g.arena ∙ sized.arena; slots = g.slots ∙ sized.slots; passes = g.passes ∙ sized.passes }

-- an actor of a pass that was taken in
pub answers_among : (v : View) (passes : List PassView) (actor : ℕ) → AllByRecursion (HasGathered v) passes → Contains (map (λ (pass : PassView). pass.actor) passes) actor → AnswersFor v actor
answers_among v [] actor each has = absurd (let less = has.1 in omega arith)
answers_among v (pass ∷ passes) actor each (zero, less, is) = subst (λ (n : ℕ). AnswersFor v n) is each.0.answers
answers_among v (pass ∷ passes) actor each (suc k, less, is) = answers_among v passes actor each.1 (k, omega arith, is)
