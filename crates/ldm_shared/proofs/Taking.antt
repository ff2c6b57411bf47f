-- What a seat knows after its looks.
use Rattle.std.proofs.Common.{◌≡◌, ℕ, ◌+◌, ◌*◌, ◌^◌, ◌<◌, ◌≤◌, Bool, true, false, List, [], length, Option, refl, ap, sym, subst, ◌∙◌, arith, ⊎_elim, nat_eq, MatchBool, ◌≢◌, eq-eqb, ne_eqb}
use Rattle.atomic_table.specs.declared.shared.Seat.{Seat}
use Rattle.atomic_table.specs.Table.{Me}
use Rattle.ldm_model.specs.History.{after, IsLegal}
use Rattle.ldm_book.specs.View.{BookView}
use Rattle.ldm_book.specs.Stands.{StandsFor}
use Rattle.ldm_shared.specs.declared.view.View.{View}
use Rattle.ldm_shared.specs.Own.{AreBelow}
use Rattle.ldm_shared.specs.Passes.{SharedView}
use Rattle.ldm_shared.specs.Rule.{times}
use Rattle.ldm_shared.specs.Steps.{Sees, HasTaken}
use Rattle.ldm_shared.specs.Seats.{IsReady, IsWorn, CanCall, IsSame, GoesOn, IsHistory, Waits}
use Rattle.ldm_shared.proofs.Histories.{prefix_self, prefix_trans}

abbrev pub ASeat : Type 0
ASeat = Seat (Option BookView) View

pub goes_on_self : (v : View) → v.olds ≡ [] → GoesOn v v
goes_on_self v olds = record {
  arena = refl;
  slots = refl;
  passes = refl;
  actors = refl;
  olds = olds;
  begins = prefix_self v.seen;
  own = λ actor answers. refl;
}

-- a look more
pub goes_on_sees : (u v w : View) (found : ℕ) → GoesOn u v → Sees v found w → GoesOn u w
goes_on_sees u v w found on sees = record {
  arena = ap (λ (x : View). x.arena) sees.same ∙ on.arena;
  slots = ap (λ (x : View). x.slots) sees.same ∙ on.slots;
  passes = ap (λ (x : View). x.passes) sees.same ∙ on.passes;
  actors = ap (λ (x : View). x.actors) sees.same ∙ on.actors;
  olds = ap (λ (x : View). x.olds) sees.same;
  begins = prefix_trans u.seen v.seen w.seen on.begins sees.begins;
  own = λ actor answers. (sees.actors actor (subst (λ (l : List ℕ). 0 < times actor l) (sym on.actors) answers)).1 ∙ on.own actor answers;
}

pub history_sees : (v w : View) (found : ℕ) → Sees v found w → IsHistory w
history_sees v w found sees =
    let arena : v.arena ≡ w.arena = sym (ap (λ (x : View). x.arena) sees.same) in
    let slots : v.slots ≡ w.slots = sym (ap (λ (x : View). x.slots) sees.same) in
    let passes : v.passes ≡ w.passes = sym (ap (λ (x : View). x.passes) sees.same) in
    let actors : w.actors ≡ v.actors = ap (λ (x : View). x.actors) sees.same in
    record {
      legal = subst (λ (n : ℕ). IsLegal n w.slots w.seen) arena (subst (λ (n : ℕ). IsLegal v.arena n w.seen) slots sees.legal);
      below = subst (λ (n : ℕ). AreBelow n w.seen) passes sees.below;
      few = sees.few;
      actors = λ actor answers. subst (λ (n : ℕ). actor < n) passes (sees.actors actor (subst (λ (l : List ℕ). 0 < times actor l) actors answers)).0;
    }

-- a seat that waits is ready to look again
pub waits_ready : (shared : SharedView) (before now : ASeat) → IsReady shared before → Waits before now → IsReady shared now
waits_ready shared before now ready waits = record {
  queue = waits.same.table ∙ ready.queue;
  idle = waits.idle;
  free = waits.free;
  passes = subst (λ (n : ℕ). 0 < n) (sym waits.goes_on.passes) ready.passes;
}

pub waits_sees : (before now then : ASeat) (found : ℕ) → Waits before now → IsSame now then → Sees now.me.0 found then.me.0 → (then.me.0.turn ≡ false) × (then.me.1 ≡ []) → Waits before then
waits_sees before now then found waits same sees idle = record {
  same = record { table = same.table ∙ waits.same.table; id = same.id ∙ waits.same.id };
  idle = idle.0;
  free = idle.1;
  goes_on = goes_on_sees before.me.0 now.me.0 then.me.0 found waits.goes_on sees;
}

pub seen_all : (v w : View) (found : ℕ) → Sees v found w → 2 ^ 63 ≤ found → length w.seen ≡ 2 ^ 62
seen_all v w found sees many =
    let few = sees.few in
    ⊎_elim (λ (e : found ≡ 2 * length w.seen). omega arith) (λ (e : found ≡ 2 * length w.seen + 1). omega arith) sees.counted

pub seen_few : (v w : View) (found : ℕ) → Sees v found w → found < 2 ^ 63 → length w.seen < 2 ^ 62
seen_few v w found sees less =
    ⊎_elim (λ (e : found ≡ 2 * length w.seen). omega arith) (λ (e : found ≡ 2 * length w.seen + 1). omega arith) sees.counted

pub has_taken : (w : View) (slots : List (ℕ × Option BookView)) (found word : ℕ) → found ≡ word
    → MatchBool (nat_eq found word) (HasTaken w slots) ((w.turn ≡ false) × (slots ≡ [])) → HasTaken w slots
has_taken w slots found word same taken = subst (λ (b : Bool). MatchBool b (HasTaken w slots) ((w.turn ≡ false) × (slots ≡ []))) (eq-eqb found word same) taken

pub has_missed : (w : View) (slots : List (ℕ × Option BookView)) (found word : ℕ) → found ≢ word
    → MatchBool (nat_eq found word) (HasTaken w slots) ((w.turn ≡ false) × (slots ≡ [])) → (w.turn ≡ false) × (slots ≡ [])
has_missed w slots found word other taken = subst (λ (b : Bool). MatchBool b (HasTaken w slots) ((w.turn ≡ false) × (slots ≡ []))) (ne_eqb found word other) taken

-- a seat that stays as it was, at a step that changes nothing that it knows
module _ (shared : SharedView) (now then : ASeat) (same : IsSame now then) (me : then.me ≡ now.me) where
  pub still_goes_on : (v : View) → GoesOn v now.me.0 × IsHistory now.me.0 → GoesOn v then.me.0 × IsHistory then.me.0
  still_goes_on v on = subst (λ (m : Me (Option BookView) View). GoesOn v m.0 × IsHistory m.0) (sym me) on

  pub still_worn : (turns : ℕ) → IsWorn shared now turns → IsWorn shared then turns
  still_worn turns worn = record {
    ready = record {
      queue = same.table ∙ worn.ready.queue;
      idle = subst (λ (m : Me (Option BookView) View). m.0.turn ≡ false) (sym me) worn.ready.idle;
      free = subst (λ (m : Me (Option BookView) View). m.1 ≡ []) (sym me) worn.ready.free;
      passes = subst (λ (m : Me (Option BookView) View). 0 < m.0.passes) (sym me) worn.ready.passes;
    };
    turns_are = worn.turns_are;
    long = subst (λ (m : Me (Option BookView) View). length m.0.seen ≡ 2 ^ 62) (sym me) worn.long;
  }

  pub still_can_call : CanCall shared now → CanCall shared then
  still_can_call can = record {
    book = can.book;
    turn = record {
      queue = same.table ∙ can.turn.queue;
      turn = subst (λ (m : Me (Option BookView) View). m.0.turn ≡ true) (sym me) can.turn.turn;
      slot = ap (λ (m : Me (Option BookView) View). m.1) me ∙ can.turn.slot;
      passes = subst (λ (m : Me (Option BookView) View). 0 < m.0.passes) (sym me) can.turn.passes;
    };
    stands = subst (λ (m : Me (Option BookView) View). StandsFor can.book (after m.0.arena m.0.slots m.0.seen)) (sym me) can.stands;
    few = subst (λ (m : Me (Option BookView) View). length m.0.seen < 2 ^ 62) (sym me) can.few;
  }

-- the turn was taken
module _ (shared : SharedView) (before now then : ASeat) (found : ℕ) (ready : IsReady shared before) (waits : Waits before now)
    (same : IsSame now then) (sees : Sees now.me.0 found then.me.0) (taken : HasTaken then.me.0 then.me.1) where
  pub taken_goes_on : GoesOn before.me.0 then.me.0 × IsHistory then.me.0
  taken_goes_on = (goes_on_sees before.me.0 now.me.0 then.me.0 found waits.goes_on sees, history_sees now.me.0 then.me.0 found sees)

  pub can_call : found < 2 ^ 63 → CanCall shared then
  can_call less = record {
    book = taken.book;
    turn = record {
      queue = same.table ∙ (waits.same.table ∙ ready.queue);
      turn = taken.turn;
      slot = taken.taken;
      passes = subst (λ (n : ℕ). 0 < n) (sym (ap (λ (v : View). v.passes) sees.same ∙ waits.goes_on.passes)) ready.passes;
    };
    stands = taken.stands;
    few = seen_few now.me.0 then.me.0 found sees less;
  }
