-- A pass grows by a call that takes the turn and gives it back.
use Rattle.std.proofs.Common.{◌≡◌, ℕ, ◌^◌, ◌<◌, Bool, true, false, cond, List, [], ◌∷◌, ◌++◌, length, get_or, Option, Some, None, refl, ap, sym, subst, ◌∙◌, arith, append-nil, length-append}
use mathlib.Core.List.{IsPrefix}
use Rattle.atomic_table.specs.Seated.{TableId}
use Rattle.atomic_table.specs.Table.{Me}
use Rattle.ldm_model.specs.declared.event.Event.{Event}
use Rattle.ldm_model.specs.declared.event.Reply.{Reply}
use Rattle.ldm_model.specs.declared.event.Entry.{Entry}
use Rattle.ldm_model.specs.State.{State}
use Rattle.ldm_model.specs.History.{next_entry, IsLegal, IsLegalFrom, IsPossible}
use Rattle.ldm_book.specs.View.{BookView}
use Rattle.ldm_book.specs.Answers.{Follows}
use Rattle.ldm_shared.specs.declared.view.View.{View}
use Rattle.ldm_shared.specs.declared.pass.Pass.TheInside.{Inside}
use Rattle.ldm_shared.specs.Own.{own, Adds}
use Rattle.ldm_shared.specs.Passes.{SharedView, PassView, IsPassOf, IsSamePass, Makes, entry_of, HasMet, Grows, FindsWorn}
use Rattle.ldm_shared.specs.Inside.{view_of_pass, IsIdle, IsPass}
use Rattle.ldm_shared.specs.Rule.{times, AnswersFor}
use Rattle.ldm_shared.specs.Seats.{IsReady, IsWorn, IsSame, GoesOn, IsHistory}
use Rattle.ldm_shared.proofs.Histories.{below-append}
use Rattle.ldm_shared.proofs.Made.{adds_entry}
use Rattle.ldm_shared.proofs.Counts.{times-self}
use Rattle.ldm_shared.proofs.Taking.{ASeat}

-- the entry of a call that the book answered
pub answered : (s : State) (entry : Entry) (actor : ℕ) (book : BookView) → entry.actor ≡ actor → actor < 64 → IsPossible entry.event → Follows entry.reply book (next_entry s entry)
    → IsLegalFrom s (entry ∷ [])
answered s entry actor book same small possible follows =
    (record { actor = subst (λ (n : ℕ). n < 64) (sym same) small; possible = possible; reply = follows.reply }, tt)

answers_one : (v : View) (actor : ℕ) → v.actors ≡ actor ∷ [] → AnswersFor v actor
answers_one v actor one = subst (λ (l : List ℕ). 0 < times actor l) (sym one) (let self = times-self actor in omega arith)

-- what was seen, and an entry more
pub history-more : (v : View) (me : Me (Option BookView) View) (entry : Entry) → me ≡ (record v { seen = v.seen ++ entry ∷ []; turn = false }, []) → IsHistory v → v.actors ≡ entry.actor ∷ []
    → length v.seen < 2 ^ 62 → IsLegal v.arena v.slots (v.seen ++ entry ∷ []) → IsHistory me.0
history-more v me entry added history one few legal =
    let w : View = record v { seen = v.seen ++ entry ∷ []; turn = false } in
    let whole : IsHistory w = record {
      legal = legal;
      below = below-append v.passes v.seen (entry ∷ []) history.below (history.actors entry.actor (answers_one v entry.actor one), tt);
      few = omega (arith, length-append v.seen (entry ∷ []), few);
      actors = history.actors;
    } in
    subst (λ (m : Me (Option BookView) View). IsHistory m.0) (sym added) whole

idle_of : (b : Bool) (id queue : TableId) → cond b None (Some id) ≡ Some queue → (b ≡ false) × (id ≡ queue)
idle_of true id queue e = absurd cc
idle_of false id queue e = (refl, cc)

has_queue : (b : Bool) (id : TableId) → b ≡ false → cond b None (Some id) ≡ Some id
has_queue true id e = absurd cc
has_queue false id e = refl

-- there is one book in a slot
pub same_book : (slots : List (ℕ × Option BookView)) (a b : BookView) → slots ≡ (0, Some a) ∷ [] → slots ≡ (0, Some b) ∷ [] → a ≡ b
same_book slots a b is also =
    let same : Some a ≡ Some b = ap (λ (l : List (ℕ × Option BookView)). (get_or l 0 (0, Some a)).1) (sym is ∙ also) in
    cc same

-- a seat went on with the history, and then asked the book
pub asked_on : (before taken asked : ASeat) → IsSame before taken → GoesOn before.me.0 taken.me.0 → IsSame taken asked → asked.me.0 ≡ taken.me.0
    → IsSame before asked × GoesOn before.me.0 asked.me.0
asked_on before taken asked same on same_asked view = (
  record { table = same_asked.table ∙ same.table; id = same_asked.id ∙ same.id },
  subst (GoesOn before.me.0) (sym view) on,
)

-- a pass of the queue, and what it keeps
module _ (shared : SharedView) (old : PassView) (p : Inside) (view_is : view_of_pass p ≡ old) (kept : IsPass p) (of : IsPassOf shared old) where
  abbrev its : (p.seat.me.0.turn ≡ false) × (p.seat.table_id ≡ shared.queue)
  its = idle_of p.seat.me.0.turn p.seat.table_id shared.queue (ap (λ (v : PassView). v.queue) view_is ∙ of.queue)

  pub pass_idle : IsIdle p
  pass_idle = kept its.0

  pub pass_ready : IsReady shared p.seat
  pass_ready = record { queue = its.1; idle = its.0; free = (kept its.0).free; passes = (kept its.0).passes }

  -- what a pass has become, whose seat went on with the history
  module _ (seat : ASeat) (same : IsSame p.seat seat) (on : GoesOn p.seat.me.0 seat.me.0) where
    abbrev pub now : Inside
    now = record { actor = p.actor; seat = seat }

    pub pass_kept : seat.me.1 ≡ [] → IsPass now
    pass_kept free idle = record {
      free = free;
      actors = on.actors ∙ (kept its.0).actors;
      olds = on.olds;
      passes = subst (λ (n : ℕ). 0 < n) (sym on.passes) (kept its.0).passes;
    }

    pub same_pass : seat.me.0.turn ≡ false → view_of_pass now ≡ record old { seen = seat.me.0.seen }
    same_pass idle =
        let queue : (view_of_pass now).queue ≡ old.queue = has_queue seat.me.0.turn seat.table_id idle ∙ (ap Some (same.table ∙ its.1) ∙ sym of.queue) in
        let arena : seat.me.0.arena ≡ old.arena = on.arena ∙ ap (λ (v : PassView). v.arena) view_is in
        let slots : seat.me.0.slots ≡ old.slots = on.slots ∙ ap (λ (v : PassView). v.slots) view_is in
        let passes : seat.me.0.passes ≡ old.passes = on.passes ∙ ap (λ (v : PassView). v.passes) view_is in
        let actor : p.actor ≡ old.actor = ap (λ (v : PassView). v.actor) view_is in
        λ i. record { queue = queue i; arena = arena i; slots = slots i; passes = passes i; actor = actor i; seen = seat.me.0.seen }

    -- others alone made calls meanwhile
    pub others_called : Adds old.actor old.seen seat.me.0.seen []
    others_called =
        let actor : p.actor ≡ old.actor = ap (λ (v : PassView). v.actor) view_is in
        let seen : p.seat.me.0.seen ≡ old.seen = ap (λ (v : PassView). v.seen) view_is in
        let none : Adds p.actor p.seat.me.0.seen seat.me.0.seen [] = record {
          begins = on.begins;
          own = on.own p.actor (answers_one p.seat.me.0 p.actor (kept its.0).actors) ∙ sym (append-nil (own p.actor p.seat.me.0.seen));
        } in
        subst (λ (n : ℕ). Adds n old.seen seat.me.0.seen []) actor (subst (λ (h : List Entry). Adds p.actor h seat.me.0.seen []) seen none)

    pub makes_none : IsHistory seat.me.0 → seat.me.0.turn ≡ false → Makes old (view_of_pass now) []
    makes_none history idle = record {
      same = same_pass idle;
      adds = others_called;
      has_seen = record { legal = history.legal; below = history.below; few = history.few };
    }

    pub pass_worn : IsHistory seat.me.0 → (turns : ℕ) → IsWorn shared seat turns → FindsWorn old (view_of_pass now) turns
    pass_worn history turns worn = record {
      turns_are = worn.turns_are;
      makes = makes_none history worn.ready.idle;
      long = worn.long ∙ sym worn.turns_are;
    }

    pub pass_met : (other : PassView) → IsHistory seat.me.0 → seat.me.0.turn ≡ false → IsPrefix other.seen seat.me.0.seen → HasMet old other (view_of_pass now)
    pass_met other history idle its' = record { makes = makes_none history idle; its = its' }

  -- the seat took the turn, and gave it back with an entry more
  module _ (taken given : ASeat) (same : IsSame p.seat taken) (on : GoesOn p.seat.me.0 taken.me.0) (event : Event) (reply : Reply) (same_given : IsSame taken given)
      (added : given.me ≡ (record taken.me.0 { seen = taken.me.0.seen ++ record { actor = p.actor; event = event; reply = reply } ∷ []; turn = false }, [])) where
    abbrev entry : Entry
    entry = record { actor = p.actor; event = event; reply = reply }

    view : given.me.0 ≡ record taken.me.0 { seen = taken.me.0.seen ++ entry ∷ []; turn = false }
    view = ap (λ (m : Me (Option BookView) View). m.0) added

    abbrev pub then : Inside
    then = record { actor = p.actor; seat = given }

    pub grown_kept : IsPass then
    grown_kept idle = record {
      free = ap (λ (m : Me (Option BookView) View). m.1) added;
      actors = ap (λ (v : View). v.actors) view ∙ (on.actors ∙ (kept its.0).actors);
      olds = ap (λ (v : View). v.olds) view ∙ on.olds;
      passes = subst (λ (n : ℕ). 0 < n) (sym (ap (λ (v : View). v.passes) view ∙ on.passes)) (kept its.0).passes;
    }

    pub grown_same : IsSamePass old (view_of_pass then)
    grown_same =
        let queue : (view_of_pass then).queue ≡ old.queue = has_queue given.me.0.turn given.table_id (ap (λ (v : View). v.turn) view) ∙ (ap Some (same_given.table ∙ (same.table ∙ its.1)) ∙ sym of.queue) in
        let arena : given.me.0.arena ≡ old.arena = ap (λ (v : View). v.arena) view ∙ (on.arena ∙ ap (λ (v : PassView). v.arena) view_is) in
        let slots : given.me.0.slots ≡ old.slots = ap (λ (v : View). v.slots) view ∙ (on.slots ∙ ap (λ (v : PassView). v.slots) view_is) in
        let passes : given.me.0.passes ≡ old.passes = ap (λ (v : View). v.passes) view ∙ (on.passes ∙ ap (λ (v : PassView). v.passes) view_is) in
        let actor : p.actor ≡ old.actor = ap (λ (v : PassView). v.actor) view_is in
        λ i. record { queue = queue i; arena = arena i; slots = slots i; passes = passes i; actor = actor i; seen = given.me.0.seen }

    pub grown : IsHistory given.me.0 → Grows old (view_of_pass then) event reply
    grown history =
        let actor : p.actor ≡ old.actor = ap (λ (v : PassView). v.actor) view_is in
        let seen : given.me.0.seen ≡ taken.me.0.seen ++ entry_of old event reply ∷ [] =
        ap (λ (v : View). v.seen) view ∙ ap (λ (n : ℕ). taken.me.0.seen ++ record { actor = n; event = event; reply = reply } ∷ []) actor in
        record {
          makes = record {
            same = grown_same;
            adds = adds_entry old.actor old.seen taken.me.0.seen given.me.0.seen (entry_of old event reply) (others_called taken same on) refl seen;
            has_seen = record { legal = history.legal; below = history.below; few = history.few };
          };
          before = taken.me.0.seen;
          last = seen;
        }
