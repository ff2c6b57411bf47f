-- What the queue does at the calls on a cursor, by what the book keeps.
use Rattle.std.proofs.Common.{◌≡◌, ℕ, ◌+◌, cond, List, [], ◌∷◌, ◌++◌, length, map, set, Option, Some, None, refl, sym, ap, subst, ◌∙◌, arith}
use Rattle.std.specs.Prelude.{count_by}
use Rattle.std.specs.List.{find}
use Rattle.std.specs.Option.{option_map, IfSome, IsSomeAnd}
use Rattle.std.proofs.lemmas.List.{set-get_or, length-append}
use Rattle.ldm_types.specs.Cursors.{KeptCursor, Losses, Places}
use Rattle.ldm_types.specs.Info.{Metadata}
use Rattle.ldm_cursor.specs.Places.{cursor_at, with_change, without_cursor, numbers_of}
use Rattle.ldm_cursor.specs.Places as kept_places
use Rattle.ldm_model.specs.declared.event.Reply.{Reply}
use Rattle.ldm_model.specs.declared.event.Reply.TheVariants as reply
use Rattle.ldm_model.specs.State.{State, Cursor, Queued, end_of, queued}
use Rattle.ldm_model.specs.Outcome.{Outcome, unchanged}
use Rattle.ldm_model.specs.Cursor.{cursor_of, on_cursor, on_held, with_place, awaits}
use Rattle.ldm_model.specs.Release.{release, close, after_release}
use Rattle.ldm_model.specs.Tally.{tally, tally_reply}
use Rattle.ldm_model.specs.Step.{step, step_held, step_free, step_to, after_tell, after_give, least_of, greatest_of}
use Rattle.ldm_book.specs.View.{BookView, Kept, kept}
use Rattle.ldm_book.specs.Products as products
use Rattle.ldm_book.specs.Stands.{StandsFor, kept_cursor, kept_place, losses_of}
use Rattle.ldm_book.specs.Answers.{Follows}
use Rattle.ldm_book.specs.Stored.{IsStored}
use Rattle.ldm_book.proofs.EveryLemmas.{every_found, find-map}
use Rattle.ldm_book.proofs.MeetingLemmas.{count_cons}
use Rattle.ldm_book.proofs.CursorsLemmas.{IsCursor, with_cursors, StandsFor-place}

unknown : (book : BookView) (s : State) (o : Option Cursor) (act : Cursor → Outcome) → o ≡ None → StandsFor book s → Follows reply.NoCursor book (on_cursor s o act)
unknown book s o act none stands = subst (λ (p : Option Cursor). Follows reply.NoCursor book (on_cursor s p act)) (sym none) (record { reply = refl; state = stands })

known : (r : Reply) (book : BookView) (s : State) (o : Option Cursor) (act : Cursor → Outcome) (cursor : Cursor) → o ≡ Some cursor → Follows r book (act cursor) → Follows r book (on_cursor s o act)
known r book s o act cursor some follows = subst (λ (p : Option Cursor). Follows r book (on_cursor s p act)) (sym some) follows

nothing_held : (book : BookView) (s : State) (o : Option ℕ) (act : ℕ → Outcome) → o ≡ None → StandsFor book s → Follows reply.NotHeld book (on_held s o act)
nothing_held book s o act none stands = subst (λ (p : Option ℕ). Follows reply.NotHeld book (on_held s p act)) (sym none) (record { reply = refl; state = stands })

held : (r : Reply) (book : BookView) (s : State) (o : Option ℕ) (act : ℕ → Outcome) (n : ℕ) → o ≡ Some n → Follows r book (act n) → Follows r book (on_held s o act)
held r book s o act n some follows = subst (λ (p : Option ℕ). Follows r book (on_held s p act)) (sym some) follows

-- what a place is known to have
pub at_cursor : (P : KeptCursor → Type 0) (o : Option KeptCursor) (c : KeptCursor) → o ≡ Some c → IfSome o P → P c
at_cursor P o c is h = subst (λ (p : Option KeptCursor). IfSome p P) is h

-- a place that is known of has a cursor
pub some_cursor : (P : KeptCursor → Type 0) (o : Option KeptCursor) → IsSomeAnd o P → (c : KeptCursor) × (o ≡ Some c)
some_cursor P None h = absurd h
some_cursor P (Some c) h = (c, refl)

no_losses : (o : Option Losses) → None ≡ option_map numbers_of o → o ≡ None
no_losses None e = refl
no_losses (Some l) e = absurd cc

-- without losses, telling them changes nothing
pub told-nothing : (cs : Places) (k : ℕ) (x : KeptCursor) → cursor_at cs k ≡ Some x → None ≡ option_map numbers_of x.untold → with_change cs k kept_places.after_tell ≡ cs
told-nothing cs k x at none =
    let same : kept_places.after_tell x ≡ x = ap (λ (o : Option Losses). record x { untold = o }) (sym (no_losses x.untold none)) in
    ap (λ (o : Option KeptCursor). set cs k (option_map kept_places.after_tell o)) at ∙ ap (λ (c : KeptCursor). set cs k (Some c)) same
    ∙ ap (λ (o : Option KeptCursor). set cs k o) (sym at) ∙ set-get_or cs k None

-- the place that a change makes
changed : (cs : Places) (k : ℕ) (c : Cursor) (d : Cursor) (change : KeptCursor → KeptCursor) → cursor_at cs k ≡ Some (kept_cursor c) → change (kept_cursor c) ≡ kept_cursor d
    → option_map change (cursor_at cs k) ≡ kept_place (Some d)
changed cs k c d change is same = ap (option_map change) is ∙ ap (λ (x : KeptCursor). Some x) same

module _ (book : BookView) (s : State) (stands : StandsFor book s) (actor k : ℕ) where
  pub close-none : cursor_of s actor k ≡ None → Follows reply.NoCursor book (close s actor k)
  unfolding close
  close-none none = unknown book s (cursor_of s actor k) (λ cursor. record { reply = reply.Closed; state = with_place s k None }) none stands

  pub close-some : IsCursor book s actor k → Follows reply.Closed (with_cursors book (without_cursor book.cursors k)) (close s actor k)
  unfolding close
  close-some is =
      known reply.Closed (with_cursors book (without_cursor book.cursors k)) s (cursor_of s actor k) (λ cursor. record { reply = reply.Closed; state = with_place s k None }) is.cursor is.own
      (record { reply = refl; state = StandsFor-place book s k None None stands refl })

  abbrev let_go : Cursor → Outcome
  let_go cursor = on_held s cursor.held (λ n. record { reply = reply.Released n; state = with_place s k (Some (after_release cursor)) })

  pub release-none : cursor_of s actor k ≡ None → Follows reply.NoCursor book (release s actor k)
  unfolding release
  release-none none = unknown book s (cursor_of s actor k) let_go none stands

  pub release-free : (is : IsCursor book s actor k) → is.cursor.held ≡ None → Follows reply.NotHeld book (release s actor k)
  unfolding release
  release-free is free =
      known reply.NotHeld book s (cursor_of s actor k) let_go is.cursor is.own
      (nothing_held book s is.cursor.held (λ n. record { reply = reply.Released n; state = with_place s k (Some (after_release is.cursor)) }) free stands)

  pub release-some : (is : IsCursor book s actor k) (n : ℕ) → is.cursor.held ≡ Some n
      → Follows (reply.Released n) (with_cursors book (with_change book.cursors k kept_places.after_release)) (release s actor k)
  unfolding release
  release-some is n some =
      let new = with_cursors book (with_change book.cursors k kept_places.after_release) in
      known (reply.Released n) new s (cursor_of s actor k) let_go is.cursor is.own
      (held (reply.Released n) new s is.cursor.held (λ m. record { reply = reply.Released m; state = with_place s k (Some (after_release is.cursor)) }) n some
      (record {
        reply = refl;
        state = StandsFor-place book s k (Some (after_release is.cursor)) (option_map kept_places.after_release (cursor_at book.cursors k)) stands
            (changed book.cursors k is.cursor (after_release is.cursor) kept_places.after_release is.kept refl);
      }))

  abbrev tell : Cursor → Outcome
  tell cursor = unchanged s (tally_reply s cursor)

  pub tally-none : cursor_of s actor k ≡ None → Follows reply.NoCursor book (tally s actor k)
  unfolding tally
  tally-none none = unknown book s (cursor_of s actor k) tell none stands

  count-kept : (cursor : Cursor) (qs : List Queued) → count_by (products.awaits cursor.position cursor.feed) (map kept qs) ≡ count_by (awaits cursor) qs
  count-kept cursor [] = refl
  count-kept cursor (q ∷ qs) =
      count_cons (products.awaits cursor.position cursor.feed) (kept q) (map kept qs) ∙ ap (λ (n : ℕ). cond (awaits cursor q) 1 0 + n) (count-kept cursor qs) ∙ sym (count_cons (awaits cursor) q qs)

  pub tally-some : (is : IsCursor book s actor k) (left : ℕ) → left ≡ count_by (products.awaits is.cursor.position is.cursor.feed) book.rows
      → Follows (reply.Tally (length is.cursor.given) (length is.cursor.told + length is.cursor.untold) left) book (tally s actor k)
  unfolding tally
  tally-some is left count =
      let cursor = is.cursor in
      let same : left ≡ count_by (awaits cursor) (queued s) = count ∙ ap (λ (ks : List Kept). count_by (products.awaits cursor.position cursor.feed) ks) stands.rows ∙ count-kept cursor (queued s) in
      known (reply.Tally (length cursor.given) (length cursor.told + length cursor.untold) left) book s (cursor_of s actor k) tell cursor is.own
      (record { reply = ap (λ (n : ℕ). reply.Tally (length cursor.given) (length cursor.told + length cursor.untold) n) same; state = stands })

  abbrev go_on : Cursor → Outcome
  go_on cursor = step_held s k cursor cursor.held

  pub step-none : cursor_of s actor k ≡ None → Follows reply.NoCursor book (step s actor k)
  unfolding step
  step-none none = unknown book s (cursor_of s actor k) go_on none stands

  pub step-holding : (is : IsCursor book s actor k) (n : ℕ) → is.cursor.held ≡ Some n → Follows (reply.Holding n) book (step s actor k)
  unfolding step
  step-holding is n some =
      known (reply.Holding n) book s (cursor_of s actor k) go_on is.cursor is.own
      (subst (λ (p : Option ℕ). Follows (reply.Holding n) book (step_held s k is.cursor p)) (sym some) (record { reply = refl; state = stands }))

  step-free : (r : Reply) (new : BookView) (is : IsCursor book s actor k) (untold : List ℕ) → is.cursor.held ≡ None → is.cursor.untold ≡ untold → Follows r new (step_free s k is.cursor untold)
      → Follows r new (step s actor k)
  unfolding step
  step-free r new is untold free same follows =
      known r new s (cursor_of s actor k) go_on is.cursor is.own
      (subst (λ (p : Option ℕ). Follows r new (step_held s k is.cursor p)) (sym free) (subst (λ (ns : List ℕ). Follows r new (step_free s k is.cursor ns)) (sym same) follows))

  -- losses are told
  told : (is : IsCursor book s actor k) (untold : List ℕ) (numbers : ℕ × ℕ × ℕ) → is.cursor.untold ≡ untold → option_map numbers_of (losses_of untold) ≡ Some numbers
      → Follows (reply.Gap numbers.0 numbers.1 numbers.2) (with_cursors book (with_change book.cursors k kept_places.after_tell)) (step_free s k is.cursor untold)
  told is [] numbers same e = absurd cc
  told is (n ∷ ns) numbers same e =
      let are : (length (n ∷ ns), least_of n ns, greatest_of n ns) ≡ numbers = cc in
      let lost : length is.cursor.told + length is.cursor.untold ≡ length (is.cursor.told ++ is.cursor.untold) + 0 = omega (arith, length-append is.cursor.told is.cursor.untold) in
      let after : kept_places.after_tell (kept_cursor is.cursor) ≡ kept_cursor (after_tell is.cursor) =
      λ i. record { actor = is.cursor.actor; feed = is.cursor.feed; position = is.cursor.position; held = is.cursor.held; untold = None; given = length is.cursor.given; lost = lost i } in
      record {
        reply = ap (λ (p : ℕ × ℕ × ℕ). reply.Gap p.0 p.1 p.2) (sym are);
        state =
            StandsFor-place book s k (Some (after_tell is.cursor)) (option_map kept_places.after_tell (cursor_at book.cursors k)) stands
            (changed book.cursors k is.cursor (after_tell is.cursor) kept_places.after_tell is.kept after);
      }

  pub step-gap : (is : IsCursor book s actor k) (numbers : ℕ × ℕ × ℕ) → is.cursor.held ≡ None → option_map numbers_of (losses_of is.cursor.untold) ≡ Some numbers
      → Follows (reply.Gap numbers.0 numbers.1 numbers.2) (with_cursors book (with_change book.cursors k kept_places.after_tell)) (step s actor k)
  step-gap is numbers free e =
      step-free (reply.Gap numbers.0 numbers.1 numbers.2) (with_cursors book (with_change book.cursors k kept_places.after_tell)) is is.cursor.untold free refl
      (told is is.cursor.untold numbers refl e)

  -- without losses, telling them changes nothing
  none_untold : (ns : List ℕ) → option_map numbers_of (losses_of ns) ≡ None → ns ≡ []
  none_untold [] e = refl
  none_untold (n ∷ ns) e = absurd cc

  find-stands : (cursor : Cursor) → find (products.awaits cursor.position cursor.feed) book.rows ≡ option_map kept (find (awaits cursor) (queued s))
  find-stands cursor = ap (λ (ks : List Kept). find (products.awaits cursor.position cursor.feed) ks) stands.rows ∙ find-map kept (products.awaits cursor.position cursor.feed) (queued s)

  -- the next product is given
  given : (is : IsCursor book s actor k) (o : Option Queued) (row : Kept) (info : Metadata) → option_map kept o ≡ Some row → IfSome o (IsStored book.bytes)
      → ((q : Queued) → IsStored book.bytes q → kept q ≡ row → info ≡ q.product.info) → Follows (reply.Product row.number row.time info)
      (with_cursors book (with_change book.cursors k (kept_places.after_hold row.number))) (step_to s k is.cursor o)
  given is None row info e stored reads = absurd cc
  given is (Some q) row info e stored reads =
      let same : kept q ≡ row = cc in
      let c = is.cursor in
      let count : length (c.given ++ q.number ∷ []) ≡ length c.given + 1 = length-append c.given (q.number ∷ []) in
      let after : kept_places.after_hold q.number (kept_cursor c) ≡ kept_cursor (after_give q.number c) =
      λ i. record { actor = c.actor; feed = c.feed; position = q.number + 1; held = Some q.number; untold = losses_of c.untold; given = sym count i; lost = length c.told + length c.untold } in
      subst (λ (r : Kept). Follows (reply.Product r.number r.time info) (with_cursors book (with_change book.cursors k (kept_places.after_hold r.number))) (step_to s k c (Some q))) same
      (subst (λ (m : Metadata). Follows (reply.Product q.number q.time m) (with_cursors book (with_change book.cursors k (kept_places.after_hold q.number))) (step_to s k c (Some q)))
      (sym (reads q stored same))
      (record {
        reply = refl;
        state =
            StandsFor-place book s k (Some (after_give q.number c)) (option_map (kept_places.after_hold q.number) (cursor_at book.cursors k)) stands
            (changed book.cursors k c (after_give q.number c) (kept_places.after_hold q.number) is.kept after);
      }))

  pub step-product : (is : IsCursor book s actor k) (row : Kept) (info : Metadata) → is.cursor.held ≡ None → option_map numbers_of (losses_of is.cursor.untold) ≡ None
      → Some row ≡ find (products.awaits is.cursor.position is.cursor.feed) book.rows
      → ((q : Queued) → IsStored book.bytes q → kept q ≡ row → info ≡ q.product.info) → Follows (reply.Product row.number row.time info)
      (with_cursors book (with_change book.cursors k (kept_places.after_hold row.number))) (step s actor k)
  step-product is row info free none found reads =
      step-free (reply.Product row.number row.time info) (with_cursors book (with_change book.cursors k (kept_places.after_hold row.number))) is [] free (none_untold is.cursor.untold none)
      (given is (find (awaits is.cursor) (queued s)) row info (sym (find-stands is.cursor) ∙ sym found) (every_found (IsStored book.bytes) (awaits is.cursor) (queued s) stands.stored) reads)

  ended : (is : IsCursor book s actor k) (o : Option Queued) → option_map kept o ≡ None
      → Follows (reply.End book.admitted) (with_cursors book (with_change book.cursors k (kept_places.after_move book.admitted))) (step_to s k is.cursor o)
  ended is (Some q) e = absurd cc
  ended is None e =
      record {
        reply = ap reply.End stands.admitted;
        state = StandsFor-place book s k (Some (record is.cursor { position = end_of s })) (option_map (kept_places.after_move book.admitted) (cursor_at book.cursors k)) stands
            (changed book.cursors k is.cursor (record is.cursor { position = end_of s }) (kept_places.after_move book.admitted) is.kept
            (ap (λ (n : ℕ). record (kept_cursor is.cursor) { position = n }) stands.admitted));
      }

  pub step-end : (is : IsCursor book s actor k) → is.cursor.held ≡ None → option_map numbers_of (losses_of is.cursor.untold) ≡ None
      → None ≡ find (products.awaits is.cursor.position is.cursor.feed) book.rows
      → Follows (reply.End book.admitted) (with_cursors book (with_change book.cursors k (kept_places.after_move book.admitted))) (step s actor k)
  step-end is free none found =
      step-free (reply.End book.admitted) (with_cursors book (with_change book.cursors k (kept_places.after_move book.admitted))) is [] free (none_untold is.cursor.untold none)
      (ended is (find (awaits is.cursor) (queued s)) (sym (find-stands is.cursor) ∙ sym found))
