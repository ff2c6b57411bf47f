-- A turn of a feeding, where no other call stands between its own: it tells the first products that are still to come.
use Rattle.std.proofs.Common.{◌≡◌, ◌∙◌, ℕ, ◌+◌, ◌<◌, ◌≤◌, false, List, [], ◌∷◌, ◌++◌, length, map, filter, Some, refl, sym, ap, subst, append_assoc, arith, length-append}
use Rattle.std.specs.Prelude.{All, slice_get}
use Rattle.std.proofs.lemmas.List.Elements.{All-nil, All-cons, All-head, All-tail}
use Rattle.std.proofs.lemmas.Option.{same_Some}
use Rattle.ldm_model.specs.declared.event.Reply.TheVariants as reply
use Rattle.ldm_model.specs.Product.{Product}
use Rattle.ldm_model.specs.State.{State, Row, Queued, end_of, queued}
use Rattle.ldm_model.specs.Step.{after_give}
use Rattle.ldm_model.specs.History.{after_entries, IsLegalFrom}
use Rattle.ldm_model.proofs.Appended.{after_entries-append, IsLegalFrom-append}
use Rattle.ldm_model.proofs.Coming.{IsRowOf, IsRowOf-found}
use Rattle.ldm_shared.specs.Staying.{HasRow}
use Rattle.ldm_upstream.specs.Blocks.{blocks, reads}
use Rattle.ldm_upstream.specs.Turn.{Given, Handling, Passed, Whole, Declined, InBlocks, Turn, Lost, Gave, Quiet, Alive, let_go, handling_entries, turn_entries}
use Rattle.ldm_sender.specs.Calls.{stepped}
use Rattle.ldm_upstream.specs.Turns.{entries_of_turns, given_in, given_in_turns}
use Rattle.ldm_between_ends.specs.Alone.{queued_given, AreRowsOf, is_lost}
use Rattle.ldm_between_ends.proofs.Coming.{comes, comes-next, comes-none, find-none}
use Rattle.ldm_between_ends.proofs.Moving.{free, with_cursor, read-changes_none, release-given}
use Rattle.ldm_between_ends.proofs.Stepping.{CameToEnd, end-came, product-came, gap-never}

-- the products that are still to come at a position
abbrev pub still : ℕ → ℕ → State → List Given
still feed at s = map queued_given (filter (comes feed at) (queued s))

-- the reads of a body change nothing
reads-change_none : (s : State) (actor k offset : ℕ) (parts : List (List ℕ)) → after_entries s (reads actor k offset parts) ≡ s
reads-change_none s actor k offset [] = refl
reads-change_none s actor k offset (part ∷ parts) =
    ap (λ (t : State). after_entries t (reads actor k (offset + length part) parts)) (read-changes_none s actor k offset (length part))
    ∙ reads-change_none s actor k (offset + length part) parts

handling-changes_none : (s : State) (actor k : ℕ) (given : Given) (handling : Handling) → after_entries s (handling_entries actor k given handling) ≡ s
handling-changes_none s actor k given Passed = refl
handling-changes_none s actor k given (Whole at) = reads-change_none s actor k 0 (blocks given.product.body)
handling-changes_none s actor k given (Declined at) = refl
handling-changes_none s actor k given (InBlocks at blocks_at) = reads-change_none s actor k 0 (blocks given.product.body)

-- whatever row there is, it is there later too, evicted or not
abbrev pub Stays : State → State → Type 0
Stays s later = (n : ℕ) (product : Product) (time : ℕ) → HasRow n product time s → HasRow n product time later

-- and how many they are
abbrev pub count_still : ℕ → ℕ → State → ℕ
count_still feed at s = length (filter (comes feed at) (queued s))

-- What a turn comes to, of a cursor at a position that was given these.
pub record One (s : State) (k actor feed at : ℕ) (given : List ℕ) (turn : Turn) : Type 0 where
  pub position : ℕ
  pub so_far : List ℕ
  pub state : after_entries (with_cursor s k (free actor feed at given)) (turn_entries actor k turn) ≡ with_cursor s k (free actor feed position so_far)
  pub told : (later : State) → Stays s later → AreRowsOf later (given_in turn) → still feed at s ≡ given_in turn ++ still feed position s
  pub not_lost : is_lost turn ≡ false
  pub few : length (given_in turn) + count_still feed position s ≤ count_still feed at s

-- What turns come to.
pub record Turned (s : State) (k actor feed at : ℕ) (given : List ℕ) (turns : List Turn) : Type 0 where
  pub position : ℕ
  pub so_far : List ℕ
  pub state : after_entries (with_cursor s k (free actor feed at given)) (entries_of_turns actor k turns) ≡ with_cursor s k (free actor feed position so_far)
  pub told : (later : State) → Stays s later → AreRowsOf later (given_in_turns turns) → still feed at s ≡ given_in_turns turns ++ still feed position s
  pub none_lost : All (λ (turn : Turn). is_lost turn ≡ false) turns
  pub few : length (given_in_turns turns) + count_still feed position s ≤ count_still feed at s

-- a present row is the product of its number
row-told : (s later : State) (q : Queued) (given : Given) → Stays s later → IsRowOf s.rows q.number q → q.number ≡ given.n → q.time ≡ given.time
    → HasRow given.n given.product given.time later → queued_given q ≡ given
row-told s later q given stays is_row number time has =
    let there : Row = record { product = given.product; time = given.time; place = has.0 } in
    let one : HasRow q.number q.product q.time s =
    (Some q.place, is_row.is_row ∙ (λ i. Some (record { product = is_row.product i; time = is_row.time i; place = is_row.place i }))) in
    let still_one = stays q.number q.product q.time one in
    let kept : Row = record { product = q.product; time = q.time; place = still_one.0 } in
    let same : kept ≡ there = same_Some kept there (sym still_one.1 ∙ ap (slice_get later.rows) number ∙ has.1) in
    let product : q.product ≡ given.product = ap (λ (r : Row). r.product) same in
    λ i. record { n = number i; time = time i; product = product i }

-- the rows to come, of which the first was given
next-told : (s : State) (feed at : ℕ) (given : Given) (q : Queued) → filter (comes feed at) (queued s) ≡ q ∷ filter (comes feed (q.number + 1)) (queued s) → queued_given q ≡ given
    → still feed at s ≡ given ∷ still feed (q.number + 1) s
next-told s feed at given q rows same = ap (map queued_given) rows ∙ ap (λ (g : Given). g ∷ still feed (q.number + 1) s) same

pub none-still : (s : State) (k actor feed at : ℕ) (given : List ℕ) → CameToEnd s k actor feed at given → still feed at s ≡ []
none-still s k actor feed at given came = ap (map queued_given) (find-none (comes feed at) (queued s) came.none)

none-count : (s : State) (feed : ℕ) → count_still feed (end_of s) s ≡ 0
none-count s feed = ap (λ (qs : List Queued). length qs) (comes-none feed (end_of s) 0 s.rows (omega arith))

end-still : (s : State) (feed : ℕ) → still feed (end_of s) s ≡ []
end-still s feed = ap (map queued_given) (comes-none feed (end_of s) 0 s.rows (omega arith))

module _ (P : Given → Type 0) where
  All-left : (xs ys : List Given) → All P (xs ++ ys) → All P xs
  All-left [] ys h = All-nil P
  All-left (x ∷ xs) ys h = All-cons P x xs (All-head P x (xs ++ ys) h) (All-left xs ys (All-tail P x (xs ++ ys) h))

  All-right : (xs ys : List Given) → All P (xs ++ ys) → All P ys
  All-right [] ys h = h
  All-right (x ∷ xs) ys h = All-right xs ys (All-tail P x (xs ++ ys) h)

module _ (s : State) (k : ℕ) (within : k < length s.cursors) (actor feed : ℕ) where
  -- a turn that came to the end
  one-end : (turn : Turn) (at : ℕ) (given : List ℕ) (n : ℕ) → turn_entries actor k turn ≡ stepped actor k (reply.End n) ∷ [] → given_in turn ≡ [] → is_lost turn ≡ false
      → IsLegalFrom (with_cursor s k (free actor feed at given)) (turn_entries actor k turn) → One s k actor feed at given turn
  one-end turn at given n entries none not_lost legal =
      let t = with_cursor s k (free actor feed at given) in
      let stepping = subst (IsLegalFrom t) entries legal in
      let came = end-came s k within actor feed at given n stepping.0.reply in
      record {
        position = end_of s;
        so_far = given;
        state = ap (after_entries t) entries ∙ came.state;
        told = λ later stays rows. none-still s k actor feed at given came ∙ sym (end-still s feed) ∙ ap (λ (gs : List Given). gs ++ still feed (end_of s) s) (sym none);
        not_lost = not_lost;
        few = omega (arith, none-count s feed, ap (λ (gs : List Given). length gs) none);
      }

  one-gave : (g : Given) (handling : Handling) (at : ℕ) (given : List ℕ) → IsLegalFrom (with_cursor s k (free actor feed at given)) (turn_entries actor k (Gave g handling))
      → One s k actor feed at given (Gave g handling)
  one-gave g handling at given legal =
      let came = product-came s k within actor feed at given g.n g.time g.product.info legal.0.reply in
      let holding = with_cursor s k (after_give came.row.number (free actor feed at given)) in
      let handled = handling_entries actor k g handling in
      let release = let_go actor k g ∷ [] in
      record {
        position = came.row.number + 1;
        so_far = given ++ came.row.number ∷ [];
        state = ap (λ (t : State). after_entries t (handled ++ release)) came.state
            ∙ after_entries-append handled release holding
            ∙ ap (λ (t : State). after_entries t release) (handling-changes_none holding actor k g handling)
            ∙ release-given s k within actor feed at came.row.number given;
        told = λ later stays rows. next-told s feed at g came.row (comes-next feed at 0 s.rows came.row came.first)
            (row-told s later came.row g stays (IsRowOf-found (comes feed at) s came.row came.first) came.number came.time_is
            (All-head (λ (x : Given). HasRow x.n x.product x.time later) g [] rows));
        not_lost = refl;
        few = omega (arith, ap (λ (qs : List Queued). length qs) (comes-next feed at 0 s.rows came.row came.first));
      }

  pub one-turn : (turn : Turn) (at : ℕ) (given : List ℕ) → IsLegalFrom (with_cursor s k (free actor feed at given)) (turn_entries actor k turn) → One s k actor feed at given turn
  one-turn (Lost count first last) at given legal = absurd (gap-never s k within actor feed at given count first last legal.0.reply)
  one-turn (Gave g handling) at given legal = one-gave g handling at given legal
  one-turn (Quiet end now) at given legal = one-end (Quiet end now) at given end refl refl refl legal
  one-turn (Alive end now sent) at given legal = one-end (Alive end now sent) at given end refl refl refl legal

  pub turned : (turns : List Turn) (at : ℕ) (given : List ℕ) → IsLegalFrom (with_cursor s k (free actor feed at given)) (entries_of_turns actor k turns)
      → Turned s k actor feed at given turns
  turned [] at given legal = record {
    position = at;
    so_far = given;
    state = refl;
    told = λ later stays rows. refl;
    none_lost = All-nil (λ (turn : Turn). is_lost turn ≡ false);
    few = omega arith;
  }
  turned (turn ∷ turns) at given legal =
      let t = with_cursor s k (free actor feed at given) in
      let first = turn_entries actor k turn in
      let rest = entries_of_turns actor k turns in
      let parts = (IsLegalFrom-append first rest t).0 legal in
      let one = one-turn turn at given parts.0 in
      let then_legal : IsLegalFrom (with_cursor s k (free actor feed one.position one.so_far)) rest = subst (λ (x : State). IsLegalFrom x rest) one.state parts.1 in
      let more = turned turns one.position one.so_far then_legal in
      record {
        position = more.position;
        so_far = more.so_far;
        state = after_entries-append first rest t ∙ ap (λ (x : State). after_entries x rest) one.state ∙ more.state;
        told = λ later stays rows.
            one.told later stays (All-left (λ (x : Given). HasRow x.n x.product x.time later) (given_in turn) (given_in_turns turns) rows)
            ∙ ap (λ (gs : List Given). given_in turn ++ gs)
            (more.told later stays (All-right (λ (x : Given). HasRow x.n x.product x.time later) (given_in turn) (given_in_turns turns) rows))
            ∙ sym (append_assoc (given_in turn) (given_in_turns turns) (still feed more.position s));
        none_lost = All-cons (λ (x : Turn). is_lost x ≡ false) turn turns one.not_lost more.none_lost;
        few = omega (arith, one.few, more.few, length-append (given_in turn) (given_in_turns turns));
      }
