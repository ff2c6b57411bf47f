-- The calls before the first turn of a feeding: they open a cursor, or change nothing.
use Rattle.std.proofs.Common.{◌≡◌, ◌∙◌, ℕ, Bool, true, false, List, [], ◌∷◌, filter, Option, Some, None, refl, sym, ap, subst}
use Rattle.std.specs.List.{find}
use Rattle.std.proofs.lemmas.Option.{same_Some}
use Rattle.ldm_model.specs.declared.event.Start.{Start}
use Rattle.ldm_model.specs.declared.event.Start.TheVariants as start
use Rattle.ldm_model.specs.declared.event.Reply.TheVariants as reply
use Rattle.ldm_model.specs.declared.event.Entry.{Entry}
use Rattle.ldm_model.specs.State.{State, Queued, queued}
use Rattle.ldm_model.specs.Cursor.{least_empty}
use Rattle.ldm_model.specs.Open.{open_position, number_or_end}
use Rattle.ldm_model.specs.History.{after_entries, IsLegalFrom}
use Rattle.ldm_class.specs.Classes.{resumed}
use Rattle.ldm_sender.specs.Asked.{Asked}
use Rattle.ldm_sender.specs.Opening.{Opened, Busy, feeds_of, from_instant, opens, opening_calls, opening_entries}
use Rattle.ldm_between_ends.proofs.Coming.{comes, is_of, comes-first}
use Rattle.ldm_between_ends.proofs.Moving.{free, with_cursor, opens-at, refused-at}

-- These calls opened a cursor.
pub record Begun (s : State) (actor : ℕ) (asked : Asked) (k : ℕ) (calls : List Entry) : Type 0 where
  pub at : ℕ
  pub least : least_empty s.cursors ≡ Some k
  pub state : after_entries s calls ≡ with_cursor s k (free actor (feeds_of asked.class) at [])
  pub oldest : resumed asked.class.specs.items ≡ None → asked.class.from ≡ 0 → open_position s start.Oldest ≡ Some at

module _ (s : State) (actor : ℕ) (asked : Asked) where
  -- the call that opens it, and those that it was not opened by
  begun-by : (from : Start) (k : ℕ) → IsLegalFrom s (opens actor asked from (reply.Opened k) ∷ [])
      → ((at : ℕ) → open_position s from ≡ Some at → resumed asked.class.specs.items ≡ None → asked.class.from ≡ 0 → open_position s start.Oldest ≡ Some at)
      → Begun s actor asked k (opens actor asked from (reply.Opened k) ∷ [])
  begun-by from k legal oldest =
      let opened = opens-at s actor (feeds_of asked.class) from k legal.0.reply in
      record { at = opened.at; least = opened.least; state = opened.state; oldest = oldest opened.at opened.position }

  begun-calls : (k : ℕ) (signature : Option (List ℕ)) (missed : Bool) → resumed asked.class.specs.items ≡ signature
      → IsLegalFrom s (opening_calls actor asked signature missed (reply.Opened k)) → Begun s actor asked k (opening_calls actor asked signature missed (reply.Opened k))
  begun-calls k None missed is legal =
      begun-by (from_instant asked.class.from) k legal (λ at position none zero. ap (λ (n : ℕ). open_position s (from_instant n)) (sym zero) ∙ position)
  begun-calls k (Some signature) false is legal = begun-by (start.AfterSignature (record { 0 = signature })) k legal (λ at position none zero. absurd cc)
  begun-calls k (Some signature) true is legal =
      let first = start.AfterSignature (record { 0 = signature }) in
      let last = opens actor asked (from_instant asked.class.from) (reply.Opened k) ∷ [] in
      let same = refused-at s actor (feeds_of asked.class) first reply.NotQueued (λ j e. absurd cc) legal.0.reply in
      let then_legal : IsLegalFrom s last = subst (λ (t : State). IsLegalFrom t last) same legal.1 in
      let opened = begun-by (from_instant asked.class.from) k then_legal (λ at position none zero. absurd cc) in
      record { at = opened.at; least = opened.least; state = ap (λ (t : State). after_entries t last) same ∙ opened.state; oldest = opened.oldest }

  pub begun : (missed : Bool) (k : ℕ) → IsLegalFrom s (opening_entries actor asked (Opened missed k)) → Begun s actor asked k (opening_entries actor asked (Opened missed k))
  begun missed k legal = begun-calls k (resumed asked.class.specs.items) missed refl legal

  -- where all cursors were taken
  busy-by : (from : Start) → IsLegalFrom s (opens actor asked from reply.AllBusy ∷ []) → after_entries s (opens actor asked from reply.AllBusy ∷ []) ≡ s
  busy-by from legal = refused-at s actor (feeds_of asked.class) from reply.AllBusy (λ j e. absurd cc) legal.0.reply

  busy-calls : (signature : Option (List ℕ)) (missed : Bool) → IsLegalFrom s (opening_calls actor asked signature missed reply.AllBusy)
      → after_entries s (opening_calls actor asked signature missed reply.AllBusy) ≡ s
  busy-calls None missed legal = busy-by (from_instant asked.class.from) legal
  busy-calls (Some signature) false legal = busy-by (start.AfterSignature (record { 0 = signature })) legal
  busy-calls (Some signature) true legal =
      let first = start.AfterSignature (record { 0 = signature }) in
      let last = opens actor asked (from_instant asked.class.from) reply.AllBusy ∷ [] in
      let same = refused-at s actor (feeds_of asked.class) first reply.NotQueued (λ j e. absurd cc) legal.0.reply in
      ap (λ (t : State). after_entries t last) same ∙ busy-by (from_instant asked.class.from) (subst (λ (t : State). IsLegalFrom t last) same legal.1)

  pub busy-changes_none : (missed : Bool) → IsLegalFrom s (opening_entries actor asked (Busy missed)) → after_entries s (opening_entries actor asked (Busy missed)) ≡ s
  busy-changes_none missed legal = busy-calls (resumed asked.class.specs.items) missed legal

-- from the oldest on, all of these feedtypes are to come
pub oldest-all : (s : State) (feed at : ℕ) → open_position s start.Oldest ≡ Some at → filter (comes feed at) (queued s) ≡ filter (is_of feed) (queued s)
oldest-all s feed at position = by_first (find (λ (q : Queued). true) (queued s)) refl (same_Some _ _ position)
  where
    by_first : (first : Option Queued) → find (λ (q : Queued). true) (queued s) ≡ first → number_or_end s first ≡ at → filter (comes feed at) (queued s) ≡ filter (is_of feed) (queued s)
    by_first None none is = ap (filter (comes feed at)) (nothing (queued s) none) ∙ sym (ap (filter (is_of feed)) (nothing (queued s) none))
      where
        nothing : (qs : List Queued) → find (λ (q : Queued). true) qs ≡ None → qs ≡ []
        nothing [] e = refl
        nothing (q ∷ qs) e = absurd cc
    by_first (Some q) found is = ap (λ (n : ℕ). filter (comes feed n) (queued s)) (sym is) ∙ comes-first feed 0 s.rows q found
