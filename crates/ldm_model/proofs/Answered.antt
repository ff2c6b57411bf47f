-- What the owner is answered at a point of a life, from the reader's place in the state.
use Rattle.std.proofs.Common.{◌≡◌, ◌∙◌, ◌↔◌, ℕ, ◌+◌, ◌≤◌, Bool, true, false, List, [], ◌∷◌, length, find, count_by, Option, Some, None, refl, sym, ap, subst, arith}
use Rattle.std.specs.Prelude.{◌&&◌, ◌==◌, nat_lt, slice_get}
use Rattle.std.proofs.lemmas.Bool.{false≢true, cond_both, and_parts, eqb-true}
use Rattle.ldm_model.specs.declared.event.Event.{Event}
use Rattle.ldm_model.specs.declared.event.Event.TheVariants as event
use Rattle.ldm_model.specs.declared.event.Reply.{Reply}
use Rattle.ldm_model.specs.declared.event.Reply.TheVariants as reply
use Rattle.ldm_model.specs.declared.event.Entry.{Entry}
use Rattle.ldm_model.specs.Product.{Product}
use Rattle.ldm_model.specs.State.{Row, Cursor, Queued, end_of, queued}
use Rattle.ldm_model.specs.Outcome.{Outcome, unchanged}
use Rattle.ldm_model.specs.Cursor.{cursor_of, with_place, awaits, on_cursor, on_held}
use Rattle.ldm_model.specs.Step.{step, step_held, step_free, step_to, least_of, greatest_of}
use Rattle.ldm_model.specs.Read.{read, read_row, part_of}
use Rattle.ldm_model.specs.Release.{release, close, after_release}
use Rattle.ldm_model.specs.Tally.{tally, tally_reply}
use Rattle.ldm_model.specs.Next.{next}
use Rattle.ldm_model.specs.History.{IsAnswered}
use Rattle.ldm_model.specs.Law.{Point, Hold, held_number, place_of_event, is_step, is_release, is_own, history_of, state_at, untold, hold_of, GivesNext, TellsLosses, HasAll, ReadsHeld, IsAnsweredAt}
use Rattle.ldm_types.specs.Cursors.{is_number}
use Rattle.ldm_model.proofs.Ascending.{IsAmong, Contains-from_among, All-from_among}
use Rattle.ldm_model.proofs.Apart.{AreApart, AreApart-from_rises, AreApart-right, length-same, least-among, least-below, greatest-among, greatest-above}
use Rattle.ldm_model.proofs.Coming.{comes, number_of, find-comes, find-range_none, IsRowOf-found}
use Rattle.ldm_model.proofs.Admitted.{AreAdmitted}
use Rattle.ldm_model.proofs.TiedOwn.{TiedAt, cursor-same}
use Rattle.ldm_model.proofs.Served.{all-told, among-untold, untold-among, Rises-untold, find-left, none-left, length-lost, length-left}

-- a reply that says nothing of what the reader was given, lost or holds
is_plain : Reply → Bool
is_plain reply.NotHeld = true
is_plain (reply.BadOffset size) = true
is_plain reply.Closed = true
is_plain _ = false

-- a call of an actor and the reply to it
abbrev IsAnsweredSo : Point → ℕ → Event → Reply → Type 0
IsAnsweredSo p actor e r = IsAnsweredAt p (record { actor = actor; event = e; reply = r })

module _ (p : Point) (t : TiedAt p) (all : AreAdmitted (history_of p) (state_at p)) where
  held-is : held_number (hold_of p) ≡ t.cursor.held
  held-is = sym t.reads.same_held

  -- when a call is answered that it let a product go
  abbrev Releases : Event → Reply → Type 0
  Releases e r = (n : ℕ) → (r ≡ reply.Released n) ↔ ((is_release e ≡ true) × (held_number (hold_of p) ≡ Some n))

  no-release : (e : Event) (r : Reply) → is_release e ≡ false → ((n : ℕ) → r ≡ reply.Released n → ⊥) → Releases e r
  no-release e r none other n = (λ x. absurd (other n x), λ x. absurd (false≢true (sym none ∙ x.0)))

  plain : (actor : ℕ) (e : Event) (r : Reply) → is_step e ≡ false → is_plain r ≡ true → Releases e r → IsAnsweredSo p actor e r
  unfolding is_plain
  plain actor e r no_step h releases = record {
    next_given = λ n time info x. absurd (false≢true (ap is_plain (sym x) ∙ h));
    losses_told = λ count first last x. absurd (false≢true (ap is_plain (sym x) ∙ h));
    end_has_all = λ at x. absurd (false≢true (ap is_plain (sym x) ∙ h));
    one_at_a_time = λ n x. absurd (false≢true (sym no_step ∙ x));
    holding_at_steps = λ n x. absurd (false≢true (ap is_plain (sym x) ∙ h));
    released = releases;
    has_cursor = λ x. false≢true (ap is_plain (sym x) ∙ h);
    held_bytes = λ offset len bytes x y. absurd (false≢true (ap is_plain (sym y) ∙ h));
    tally_counts = λ g l r x. absurd (false≢true (ap is_plain (sym x) ∙ h));
  }

  gives-next : (q : Queued) → t.cursor.untold ≡ [] → find (awaits t.cursor) (queued (state_at p)) ≡ Some q → GivesNext p q.number q.time q.product.info
  gives-next q none found =
      let there = IsRowOf-found (awaits t.cursor) (state_at p) q found in
      record {
        all_told = all-told p t none;
        next = find-left p t ∙ ap number_of found;
        row = there.row;
        is_row = there.is_row;
        admitted = all q.number there.row there.is_row;
        time_of_row = sym there.time;
        info_of_row = ap (λ (product : Product). product.info) (sym there.product);
      }

  tells-losses : (m : ℕ) (ms : List ℕ) → t.cursor.untold ≡ m ∷ ms → TellsLosses p (length (m ∷ ms)) (least_of m ms) (greatest_of m ms)
  tells-losses m ms e = record {
    counted = length-same (m ∷ ms) (untold p) (subst AreApart e (AreApart-right t.cursor.told t.cursor.untold t.reads.apart))
        (AreApart-from_rises 0 (length (state_at p).rows) (untold p) (Rises-untold p t)) to from;
    first_untold = Contains-from_among (untold p) (least_of m ms) (to (least_of m ms) (least-among m ms));
    least = All-from_among (λ n. least_of m ms ≤ n) (untold p) (λ n h. least-below m n ms (from n h));
    last_untold = Contains-from_among (untold p) (greatest_of m ms) (to (greatest_of m ms) (greatest-among m ms));
    greatest = All-from_among (λ n. n ≤ greatest_of m ms) (untold p) (λ n h. greatest-above m n ms (from n h));
  }
    where
      to : (n : ℕ) → IsAmong (m ∷ ms) n → IsAmong (untold p) n
      to n h = untold-among p t n (subst (λ (ns : List ℕ). IsAmong ns n) (sym e) h)

      from : (n : ℕ) → IsAmong (untold p) n → IsAmong (m ∷ ms) n
      from n h = subst (λ (ns : List ℕ). IsAmong ns n) e (among-untold p t n h)

  has-all : t.cursor.untold ≡ [] → find (awaits t.cursor) (queued (state_at p)) ≡ None → HasAll p (end_of (state_at p))
  has-all none found = record {
    all_told = all-told p t none;
    none_left = none-left p t (λ n lt. find-range_none (comes t.cursor (state_at p).rows) 0 (length (state_at p).rows) (sym (find-comes t.cursor (state_at p)) ∙ ap number_of found) n
        (omega arith) (omega arith));
    at_end = refl;
  }

  module _ (actor k : ℕ) where
    abbrev Steps : Outcome → Type 0
    Steps outcome = IsAnsweredSo p actor (event.Step k) outcome.reply

    -- the reader holds nothing, so the answer is not that it does
    not-holding : t.cursor.held ≡ None → (r : Reply) → ((n : ℕ) → r ≡ reply.Holding n → ⊥) → (n : ℕ) → (r ≡ reply.Holding n) ↔ (held_number (hold_of p) ≡ Some n)
    not-holding free r other n = (λ x. absurd (other n x), λ x. let both : None ≡ Some n = sym free ∙ sym held-is ∙ x in absurd cc)

    steps_to : (q : Option Queued) → t.cursor.held ≡ None → t.cursor.untold ≡ [] → find (awaits t.cursor) (queued (state_at p)) ≡ q → Steps (step_to (state_at p) p.k t.cursor q)
    steps_to None free none found = record {
      next_given = λ n time info x. absurd cc;
      losses_told = λ count first last x. absurd cc;
      end_has_all = λ at x. let same : end_of (state_at p) ≡ at = cc in subst (HasAll p) same (has-all none found);
      one_at_a_time = λ n x. not-holding free (reply.End (end_of (state_at p))) (λ i y. absurd cc) n;
      holding_at_steps = λ n x. refl;
      released = no-release (event.Step k) _ refl (λ n x. absurd cc);
      has_cursor = λ x. absurd cc;
      held_bytes = λ offset len bytes x y. absurd cc;
      tally_counts = λ g l r x. absurd cc;
    }
    steps_to (Some q) free none found = record {
      next_given = λ n time info x.
          let same_number : q.number ≡ n = cc in
          let same_time : q.time ≡ time = cc in
          let same_info : q.product.info ≡ info = cc in
          coe 0 1 (i. GivesNext p (same_number i) (same_time i) (same_info i)) (gives-next q none found);
      losses_told = λ count first last x. absurd cc;
      end_has_all = λ at x. absurd cc;
      one_at_a_time = λ n x. not-holding free (reply.Product q.number q.time q.product.info) (λ i y. absurd cc) n;
      holding_at_steps = λ n x. refl;
      released = no-release (event.Step k) _ refl (λ n x. absurd cc);
      has_cursor = λ x. absurd cc;
      held_bytes = λ offset len bytes x y. absurd cc;
      tally_counts = λ g l r x. absurd cc;
    }

    steps_free : (untold : List ℕ) → t.cursor.held ≡ None → t.cursor.untold ≡ untold → Steps (step_free (state_at p) p.k t.cursor untold)
    steps_free [] free e = steps_to (find (awaits t.cursor) (queued (state_at p))) free e refl
    steps_free (m ∷ ms) free e = record {
      next_given = λ n time info x. absurd cc;
      losses_told = λ count first last x.
          let same_count : length (m ∷ ms) ≡ count = cc in
          let same_first : least_of m ms ≡ first = cc in
          let same_last : greatest_of m ms ≡ last = cc in
          coe 0 1 (i. TellsLosses p (same_count i) (same_first i) (same_last i)) (tells-losses m ms e);
      end_has_all = λ at x. absurd cc;
      one_at_a_time = λ n x. not-holding free (reply.Gap (length (m ∷ ms)) (least_of m ms) (greatest_of m ms)) (λ i y. absurd cc) n;
      holding_at_steps = λ n x. refl;
      released = no-release (event.Step k) _ refl (λ n x. absurd cc);
      has_cursor = λ x. absurd cc;
      held_bytes = λ offset len bytes x y. absurd cc;
      tally_counts = λ g l r x. absurd cc;
    }

    steps_held : (held : Option ℕ) → t.cursor.held ≡ held → Steps (step_held (state_at p) p.k t.cursor held)
    steps_held None e = steps_free t.cursor.untold e refl
    steps_held (Some m) e = record {
      next_given = λ n time info x. absurd cc;
      losses_told = λ count first last x. absurd cc;
      end_has_all = λ at x. absurd cc;
      one_at_a_time = λ n x. (
        λ y. let same : m ≡ n = cc in held-is ∙ e ∙ ap (λ (i : ℕ). Some i) same,
        λ y. let same : Some m ≡ Some n = sym e ∙ sym held-is ∙ y in let number : m ≡ n = cc in ap (λ (i : ℕ). reply.Holding i) number,
      );
      holding_at_steps = λ n x. refl;
      released = no-release (event.Step k) _ refl (λ n x. absurd cc);
      has_cursor = λ x. absurd cc;
      held_bytes = λ offset len bytes x y. absurd cc;
      tally_counts = λ g l r x. absurd cc;
    }

    reads-held : (n offset len : ℕ) (row : Row) → held_number (hold_of p) ≡ Some n → slice_get (state_at p).rows n ≡ Some row → ReadsHeld p offset len (part_of row.product offset len)
    reads-held n offset len row mine at = by_hold (hold_of p) refl mine
      where
        by_hold : (hold : Option Hold) → hold_of p ≡ hold → held_number hold ≡ Some n → ReadsHeld p offset len (part_of row.product offset len)
        by_hold None is e = absurd cc
        by_hold (Some hold) is e =
            let same : n ≡ hold.number = cc in
            let there : slice_get (state_at p).rows hold.number ≡ Some row = ap (λ (i : ℕ). slice_get (state_at p).rows i) (sym same) ∙ at in
            record { hold = hold; holds = is; row = row; is_row = there; admitted = all hold.number row there; part = refl }

    abbrev Reading : ℕ → ℕ → Outcome → Type 0
    Reading offset len outcome = IsAnsweredSo p actor (event.Read k offset len) outcome.reply

    read-bytes : (n offset len : ℕ) (row : Row) → held_number (hold_of p) ≡ Some n → slice_get (state_at p).rows n ≡ Some row
        → IsAnsweredSo p actor (event.Read k offset len) (reply.Bytes (part_of row.product offset len))
    read-bytes n offset len row mine at = record {
      next_given = λ n time info x. absurd cc;
      losses_told = λ count first last x. absurd cc;
      end_has_all = λ at x. absurd cc;
      one_at_a_time = λ n x. absurd (false≢true x);
      holding_at_steps = λ n x. absurd cc;
      released = no-release (event.Read k offset len) _ refl (λ n x. absurd cc);
      has_cursor = λ x. absurd cc;
      held_bytes = λ offset' len' bytes x y.
          let same_offset : offset ≡ offset' = cc in
          let same_len : len ≡ len' = cc in
          let same_bytes : part_of row.product offset len ≡ bytes = cc in
          coe 0 1 (i. ReadsHeld p (same_offset i) (same_len i) (same_bytes i)) (reads-held n offset len row mine at);
      tally_counts = λ g l r x. absurd cc;
    }

    read-row : (n offset len : ℕ) (row : Option Row) → held_number (hold_of p) ≡ Some n → slice_get (state_at p).rows n ≡ row → Reading offset len (read_row (state_at p) row offset len)
    unfolding is_plain
    read-row n offset len None mine at = plain actor (event.Read k offset len) reply.NotHeld refl refl (no-release (event.Read k offset len) reply.NotHeld refl (λ i x. absurd cc))
    read-row n offset len (Some row) mine at =
        cond_both (nat_lt row.product.info.size offset) (unchanged (state_at p) (reply.BadOffset row.product.info.size))
        (unchanged (state_at p) (reply.Bytes (part_of row.product offset len))) (Reading offset len)
        (λ e. plain actor (event.Read k offset len) (reply.BadOffset row.product.info.size) refl refl
        (no-release (event.Read k offset len) (reply.BadOffset row.product.info.size) refl (λ i x. absurd cc)))
        (λ e. read-bytes n offset len row mine at)

    read-held : (offset len : ℕ) (held : Option ℕ) → t.cursor.held ≡ held → Reading offset len (on_held (state_at p) held (λ n. read_row (state_at p) (slice_get (state_at p).rows n) offset len))
    unfolding is_plain
    read-held offset len None e = plain actor (event.Read k offset len) reply.NotHeld refl refl (no-release (event.Read k offset len) reply.NotHeld refl (λ i x. absurd cc))
    read-held offset len (Some n) e = read-row n offset len (slice_get (state_at p).rows n) (held-is ∙ e) refl

    tally-own : IsAnsweredSo p actor (event.Tally k) (tally_reply (state_at p) t.cursor)
    tally-own = record {
      next_given = λ n time info x. absurd cc;
      losses_told = λ count first last x. absurd cc;
      end_has_all = λ at x. absurd cc;
      one_at_a_time = λ n x. absurd (false≢true x);
      holding_at_steps = λ n x. absurd cc;
      released = no-release (event.Tally k) _ refl (λ n x. absurd cc);
      has_cursor = λ x. absurd cc;
      held_bytes = λ offset len bytes x y. absurd cc;
      tally_counts = λ g l r x.
          let same_given : length t.cursor.given ≡ g = cc in
          let same_lost : length t.cursor.told + length t.cursor.untold ≡ l = cc in
          let same_left : count_by (awaits t.cursor) (queued (state_at p)) ≡ r = cc in
          (sym same_given ∙ ap (λ (ns : List ℕ). length ns) t.reads.same_given, sym same_lost ∙ length-lost p t, sym same_left ∙ length-left p t);
    }

    lets-go : (n : ℕ) → t.cursor.held ≡ Some n → IsAnsweredSo p actor (event.Release k) (reply.Released n)
    lets-go n mine = record {
      next_given = λ m time info x. absurd cc;
      losses_told = λ count first last x. absurd cc;
      end_has_all = λ at x. absurd cc;
      one_at_a_time = λ m x. absurd (false≢true x);
      holding_at_steps = λ m x. absurd cc;
      released = λ m. (
        λ x. let same : n ≡ m = cc in (refl, held-is ∙ mine ∙ ap (λ (i : ℕ). Some i) same),
        λ x. let same : Some n ≡ Some m = sym mine ∙ sym held-is ∙ x.1 in let number : n ≡ m = cc in ap (λ (i : ℕ). reply.Released i) number,
      );
      has_cursor = λ x. absurd cc;
      held_bytes = λ offset len bytes x y. absurd cc;
      tally_counts = λ g l r x. absurd cc;
    }

    module _ (own : (actor == p.owner && k == p.k) ≡ true) where
      on_own : (e : Event) (act : Cursor → Outcome) → IsAnsweredSo p actor e (act t.cursor).reply → IsAnsweredSo p actor e (on_cursor (state_at p) (cursor_of (state_at p) actor k) act).reply
      on_own e act h = subst (λ (place : Option Cursor). IsAnsweredSo p actor e (on_cursor (state_at p) place act).reply) (sym (cursor-same p t actor k own)) h

      step-own : IsAnsweredSo p actor (event.Step k) (step (state_at p) actor k).reply
      unfolding step
      step-own = on_own (event.Step k) _ (subst (λ (i : ℕ). Steps (step_held (state_at p) i t.cursor t.cursor.held)) (sym (eqb-true k p.k (and_parts (actor == p.owner) (k == p.k) own).1))
          (steps_held t.cursor.held refl))

      read-own : (offset len : ℕ) → IsAnsweredSo p actor (event.Read k offset len) (read (state_at p) actor k offset len).reply
      unfolding read
      read-own offset len = on_own (event.Read k offset len) _ (read-held offset len t.cursor.held refl)

      release-own : IsAnsweredSo p actor (event.Release k) (release (state_at p) actor k).reply
      unfolding release is_plain
      release-own = on_own (event.Release k) _ (by_held t.cursor.held refl)
        where
          by_held : (held : Option ℕ) → t.cursor.held ≡ held → IsAnsweredSo p actor (event.Release k)
              (on_held (state_at p) held (λ n. record { reply = reply.Released n; state = with_place (state_at p) k (Some (after_release t.cursor)) })).reply
          by_held None free = plain actor (event.Release k) reply.NotHeld refl refl
              (λ n. (λ x. absurd cc, λ x. let both : None ≡ Some n = sym free ∙ sym held-is ∙ x.1 in absurd cc))
          by_held (Some n) mine = lets-go n mine

      close-own : IsAnsweredSo p actor (event.Close k) (close (state_at p) actor k).reply
      unfolding close is_plain
      close-own = on_own (event.Close k) _ (plain actor (event.Close k) reply.Closed refl refl (no-release (event.Close k) reply.Closed refl (λ n x. absurd cc)))

      tally-own-call : IsAnsweredSo p actor (event.Tally k) (tally (state_at p) actor k).reply
      unfolding tally
      tally-own-call = on_own (event.Tally k) _ tally-own

  not_about : (b : Bool) → (b && false) ≡ true → ⊥
  not_about true h = false≢true h
  not_about false h = false≢true h

  answered-call : (actor : ℕ) (e : Event) → (actor == p.owner && is_number p.k (place_of_event e)) ≡ true → IsAnsweredSo p actor e (next (state_at p) actor e).reply
  answered-call actor (event.Step k) own = step-own actor k own
  answered-call actor (event.Read k offset len) own = read-own actor k own offset len
  answered-call actor (event.Release k) own = release-own actor k own
  answered-call actor (event.Close k) own = close-own actor k own
  answered-call actor (event.Tally k) own = tally-own-call actor k own
  answered-call actor (event.Insert now info body) own = absurd (not_about (actor == p.owner) own)
  answered-call actor (event.OpenCursor feed start) own = absurd (not_about (actor == p.owner) own)
  answered-call actor (event.Look signature) own = absurd (not_about (actor == p.owner) own)
  answered-call actor event.Expire own = absurd (not_about (actor == p.owner) own)
  answered-call actor event.Stat own = absurd (not_about (actor == p.owner) own)
  answered-call actor (event.Reserve info) own = absurd (not_about (actor == p.owner) own)
  answered-call actor (event.Fill r bytes) own = absurd (not_about (actor == p.owner) own)
  answered-call actor (event.Commit r now) own = absurd (not_about (actor == p.owner) own)
  answered-call actor (event.Discard r) own = absurd (not_about (actor == p.owner) own)

  pub answered : (entry : Entry) → IsAnswered (state_at p) entry → is_own p entry ≡ true → IsAnsweredAt p entry
  answered entry h own = subst (λ (r : Reply). IsAnsweredSo p entry.actor entry.event r) (sym h.reply) (answered-call entry.actor entry.event own)
