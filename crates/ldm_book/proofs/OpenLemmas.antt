-- What the queue does where a cursor is opened, by what the book keeps.
use Rattle.std.proofs.Common.{◌≡◌, ℕ, ◌+◌, true, List, Option, Some, None, refl, sym, ap, subst, ◌∙◌}
use Rattle.std.specs.List.{find}
use Rattle.std.specs.Option.{option_map}
use Rattle.ldm_types.specs.Cursors.{Places}
use Rattle.ldm_cursor.specs.Places as kept_places
use Rattle.ldm_model.specs.declared.event.Start.{Start}
use Rattle.ldm_model.specs.declared.event.Start.TheVariants.{Oldest, Next, After, AfterSignature}
use Rattle.ldm_model.specs.declared.event.Reply.{Reply}
use Rattle.ldm_model.specs.declared.event.Reply.TheVariants as reply
use Rattle.ldm_model.specs.State.{State, Queued, queued, queued_with}
use Rattle.ldm_model.specs.Cursor.{least_empty}
use Rattle.ldm_model.specs.Open.{is_later, new_cursor, number_or_end, open_at, open_cursor, open_from, open_position}
use Rattle.ldm_book.specs.View.{BookView, Kept, kept}
use Rattle.ldm_book.specs.Products as kept_products
use Rattle.ldm_book.specs.Lookup.{kept_with}
use Rattle.ldm_book.specs.Making as making
use Rattle.ldm_book.specs.Answers.{Follows}
use Rattle.ldm_book.specs.Stands.{StandsFor}
use Rattle.ldm_book.proofs.CursorsLemmas.{StandsFor-place, least-kept, with_cursors}
use Rattle.ldm_book.proofs.EveryLemmas.{find-map}
use Rattle.ldm_book.proofs.QueuedLemmas.{queued_with-kept}

end-stands : (book : BookView) (s : State) (o : Option Queued) → StandsFor book s → making.number_or_end book (option_map kept o) ≡ number_or_end s o
end-stands book s None stands = stands.admitted
end-stands book s (Some q) stands = refl

behind-kept : (o : Option Queued) → option_map making.number_behind (option_map kept o) ≡ option_map (λ (q : Queued). q.number + 1) o
behind-kept None = refl
behind-kept (Some q) = refl

-- where a cursor begins
pub start-stands : (book : BookView) (s : State) (start : Start) → StandsFor book s → making.start_at book start ≡ open_position s start
start-stands book s Oldest stands =
    ap (λ (n : ℕ). Some n) (ap (λ (ks : List Kept). making.number_or_end book (find (λ (k : Kept). true) ks)) stands.rows
    ∙ ap (making.number_or_end book) (find-map kept (λ (k : Kept). true) (queued s)) ∙ end-stands book s (find (λ (q : Queued). true) (queued s)) stands)
start-stands book s Next stands = ap (λ (n : ℕ). Some n) stands.admitted
start-stands book s (After time) stands =
    ap (λ (n : ℕ). Some n) (ap (λ (ks : List Kept). making.number_or_end book (find (kept_products.is_later time) ks)) stands.rows
    ∙ ap (making.number_or_end book) (find-map kept (kept_products.is_later time) (queued s)) ∙ end-stands book s (find (is_later time) (queued s)) stands)
start-stands book s (AfterSignature signature) stands =
    ap (λ (ks : List Kept). option_map making.number_behind (kept_with signature.0 ks)) stands.rows
    ∙ ap (option_map making.number_behind) (sym (queued_with-kept signature.0 (queued s)))
    ∙ behind-kept (queued_with signature.0 (queued s))

module _ (book : BookView) (s : State) (stands : StandsFor book s) (actor feed : ℕ) (start : Start) where
  pub all_busy : kept_places.least_empty book.cursors ≡ None → Follows reply.AllBusy book (open_cursor s actor feed start)
  unfolding open_cursor
  all_busy full =
      let none : least_empty s.cursors ≡ None = sym (ap (λ (cs : Places). kept_places.least_empty cs) stands.cursors ∙ least-kept s.cursors) ∙ full in
      subst (λ (o : Option ℕ). Follows reply.AllBusy book (open_at s actor feed start o)) (sym none) (record { reply = refl; state = stands })

  at_place : (r : Reply) (new : BookView) (k : ℕ) → kept_places.least_empty book.cursors ≡ Some k → Follows r new (open_from s actor feed k (open_position s start))
      → Follows r new (open_cursor s actor feed start)
  unfolding open_cursor
  at_place r new k least follows =
      let some : least_empty s.cursors ≡ Some k = sym (ap (λ (cs : Places). kept_places.least_empty cs) stands.cursors ∙ least-kept s.cursors) ∙ least in
      subst (λ (o : Option ℕ). Follows r new (open_at s actor feed start o)) (sym some) follows

  pub not_queued : (k : ℕ) → kept_places.least_empty book.cursors ≡ Some k → making.start_at book start ≡ None → Follows reply.NotQueued book (open_cursor s actor feed start)
  not_queued k least none =
      at_place reply.NotQueued book k least (subst (λ (o : Option ℕ). Follows reply.NotQueued book (open_from s actor feed k o)) (sym (sym (start-stands book s start stands) ∙ none))
      (record { reply = refl; state = stands }))

  pub opened : (k at : ℕ) → kept_places.least_empty book.cursors ≡ Some k → making.start_at book start ≡ Some at
      → Follows (reply.Opened k) (with_cursors book (kept_places.with_cursor book.cursors k (kept_places.new_cursor actor feed at))) (open_cursor s actor feed start)
  opened k at least some =
      let new = with_cursors book (kept_places.with_cursor book.cursors k (kept_places.new_cursor actor feed at)) in
      at_place (reply.Opened k) new k least (subst (λ (o : Option ℕ). Follows (reply.Opened k) new (open_from s actor feed k o)) (sym (sym (start-stands book s start stands) ∙ some))
      (record { reply = refl; state = StandsFor-place book s k (Some (new_cursor actor feed at)) (Some (kept_places.new_cursor actor feed at)) stands refl }))

some_least : (o : Option ℕ) → (o ≡ None → ⊥) → (k : ℕ) × (o ≡ Some k)
some_least None full = absurd (full refl)
some_least (Some k) full = (k, refl)

pub is_least : (o : Option ℕ) → (o ≡ None → ⊥) → (k : ℕ) × (o ≡ Some k)
is_least o full = some_least o full
