-- At every point of its life a reader is tied to its place in the state.
use Rattle.std.proofs.Common.{◌≡◌, ◌∙◌, ℕ, Bool, true, false, cond, List, [], ◌∷◌, ◌++◌, All, Option, refl, sym, ap, subst, append_assoc, append-nil}
use Rattle.std.specs.Prelude.{◌&&◌}
use Rattle.std.proofs.lemmas.List.Elements.{All-head, All-tail}
use Rattle.ldm_model.specs.declared.event.Entry.{Entry}
use Rattle.ldm_model.specs.declared.event.Reply.{Reply}
use Rattle.ldm_model.specs.State.{State, empty}
use Rattle.ldm_model.specs.History.{next_entry, IsAnswered, IsLegalFrom, IsLegal}
use Rattle.ldm_model.specs.Law.{Point, Hold, opening, history_of, at_entries, state_before, state_at, is_own, is_close, with_given, given, after_gap, told, with_count, count_told}
use Rattle.ldm_model.specs.Law.{after_hold, hold_of, IsPointOf}
use Rattle.ldm_model.proofs.Appended.{IsLegalFrom-append}
use Rattle.ldm_model.proofs.Points.{next_point, given-next, told-next, hold-next, count-next, state-next, state-opened}
use Rattle.ldm_model.proofs.Tied.{Tied}
use Rattle.ldm_model.proofs.TiedOthers.{Tied-others}
use Rattle.ldm_model.proofs.TiedOwn.{TiedAt, TiedAfter, TiedAfter-own}
use Rattle.ldm_model.proofs.TiedOpened.{TiedAt-opened}

-- the entry is no close of the owner's
abbrev pub IsNoClose : Point → Entry → Type 0
IsNoClose p entry = (is_own p entry && is_close entry.event) ≡ false

module _ (p : Point) (entry : Entry) where
  after_call : TiedAt p → IsNoClose p entry → TiedAfter p (is_own p entry) (next_entry (state_at p) entry)
  after_call t open_still = by_owner (is_own p entry) refl
    where
      by_owner : (own : Bool) → is_own p entry ≡ own → TiedAfter p own (next_entry (state_at p) entry)
      by_owner true e = TiedAfter-own p t entry.actor entry.event e (sym (ap (λ (b : Bool). b && is_close entry.event) e) ∙ open_still)
      by_owner false e = Tied-others p (state_at p) (given p) (told p) (hold_of p) (count_told p) t entry.actor entry.event e

  after_reply : IsAnswered (state_at p) entry → TiedAfter p (is_own p entry) (next_entry (state_at p) entry)
      → TiedAfter p (is_own p entry) (record { reply = entry.reply; state = (next_entry (state_at p) entry).state })
  after_reply answered t = subst (λ (r : Reply). TiedAfter p (is_own p entry) (record { reply = r; state = (next_entry (state_at p) entry).state })) (sym answered.reply) t

  at_next : (s : State) (given' told' : List ℕ) (hold' : Option Hold) (counted' : ℕ) → Tied p s given' told' hold' counted' → Tied (next_point p entry) s given' told' hold' counted'
  at_next s given' told' hold' counted' t = record { cursor = t.cursor; is_at = t.is_at; owner = t.owner; reads = t.reads }

  pub TiedAt-next : IsAnswered (state_at p) entry → IsNoClose p entry → TiedAt p → TiedAt (next_point p entry)
  TiedAt-next answered open_still t =
      let there = at_next (next_entry (state_at p) entry).state
      (cond (is_own p entry) (with_given (given p) entry.reply) (given p))
      (cond (is_own p entry) (after_gap p (told p) entry.reply) (told p))
      (cond (is_own p entry) (after_hold p (hold_of p) entry.reply) (hold_of p))
      (cond (is_own p entry) (with_count (count_told p) entry.reply) (count_told p))
      (after_reply answered (after_call t open_still)) in
      coe 0 1 (i. Tied (next_point p entry) (sym (state-next p entry) i) (sym (given-next p entry) i) (sym (told-next p entry) i) (sym (hold-next p entry) i) (sym (count-next p entry) i)) there

TiedAt-entries : (p : Point) (so_far entries : List Entry) → TiedAt (at_entries p so_far) → IsLegalFrom (state_at (at_entries p so_far)) entries → All (IsNoClose p) entries
    → TiedAt (at_entries p (so_far ++ entries))
TiedAt-entries p so_far [] t legal open_still = subst (λ (es : List Entry). TiedAt (at_entries p es)) (sym (append-nil so_far)) t
TiedAt-entries p so_far (entry ∷ entries) t legal open_still =
    subst (λ (es : List Entry). TiedAt (at_entries p es)) (append_assoc so_far (entry ∷ []) entries)
    (TiedAt-entries p (so_far ++ entry ∷ []) entries
    (TiedAt-next (at_entries p so_far) entry legal.0 (All-head (IsNoClose p) entry entries open_still) t)
    (subst (λ (s : State). IsLegalFrom s entries) (sym (state-next (at_entries p so_far) entry)) legal.1)
    (All-tail (IsNoClose p) entry entries open_still))

-- what a legal history says of the entries of a life, and of those behind it
pub record IsLegalAt (p : Point) (rest : List Entry) : Type 0 where
  pub so_far : IsLegal p.arena p.slots (history_of p)
  pub opened : IsAnswered (state_before p) (opening p)
  pub since : IsLegalFrom (state_at (at_entries p [])) p.since
  pub behind : IsLegalFrom (state_at p) rest

pub IsLegalAt-point : (arena slots : ℕ) (history : List Entry) → IsLegal arena slots history → (p : Point) (at : IsPointOf arena slots history p) → IsLegalAt p at.rest
IsLegalAt-point arena slots history legal p at =
    let whole : IsLegal p.arena p.slots (history_of p ++ at.rest) = coe 0 1 (i. IsLegal (sym at.same_arena i) (sym at.same_slots i) (sym at.front i)) legal in
    let parts = (IsLegalFrom-append (history_of p) at.rest (empty p.arena p.slots)).0 whole in
    let life = ((IsLegalFrom-append p.before (opening p ∷ p.since) (empty p.arena p.slots)).0 parts.0).1 in
    record {
      so_far = parts.0;
      opened = life.0;
      since = subst (λ (s : State). IsLegalFrom s p.since) (sym (state-opened p)) life.1;
      behind = parts.1;
    }

pub TiedAt-point : (arena slots : ℕ) (history : List Entry) → IsLegal arena slots history → (p : Point) → IsPointOf arena slots history p → TiedAt p
TiedAt-point arena slots history legal p at =
    let life = IsLegalAt-point arena slots history legal p at in
    TiedAt-entries p [] p.since (TiedAt-opened p life.opened) life.since at.not_closed
