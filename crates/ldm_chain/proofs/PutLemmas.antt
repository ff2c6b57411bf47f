-- Products that are put one after another.
use Rattle.std.proofs.Common.{◌≡◌, ◌∙◌, ℕ, ◌+◌, Bool, true, false, cond, List, [], ◌∷◌, ◌++◌, drop, filter, Some, refl, sym, ap}
use Rattle.std.specs.Prelude.{slice_get}
use Rattle.ldm_model.specs.declared.event.Event.TheVariants.{Insert}
use Rattle.ldm_model.specs.declared.event.Reply.{Reply}
use Rattle.ldm_types.specs.Info.{Metadata}
use Rattle.ldm_model.specs.State.{State, Queued, empty}
use Rattle.ldm_model.specs.Insert.{insert}
use Rattle.ldm_model.specs.History.{after}
use Rattle.ldm_model.proofs.Appended.{after_entries-append}
use Rattle.ldm_shared.specs.Passes.{PassView, IsSamePass}
use Rattle.ldm_between_ends.specs.OnePass.{state_of}
use Rattle.ldm_chain.specs.Listing.{has_feed}
use Rattle.ldm_chain.specs.Putting.{inserted_all}
use Rattle.ldm_chain.proofs.ListedLemmas.{left-some}

-- one insertion more
pub inserted-one : (old new : PassView) (actor now : ℕ) (info : Metadata) (body : List ℕ) (reply : Reply) → IsSamePass old new
    → new.seen ≡ old.seen ++ record { actor = actor; event = Insert now info body; reply = reply } ∷ []
    → state_of new ≡ (insert (state_of old) now (record { info = info; body = body })).state
inserted-one old new actor now info body reply same goes_on =
    ap (λ (p : PassView). after p.arena p.slots new.seen) same ∙ ap (after old.arena old.slots) goes_on
    ∙ after_entries-append old.seen (record { actor = actor; event = Insert now info body; reply = reply } ∷ []) (empty old.arena old.slots)

-- a product that has a feedtype, and one that has none
pub with_feed : (q : Queued) (s : State) → has_feed q ≡ true → inserted_all (filter has_feed (q ∷ [])) s ≡ (insert s q.time q.product).state
with_feed q s has = ap (λ (b : Bool). inserted_all (cond b (q ∷ []) []) s) has

pub without_feed : (q : Queued) (s : State) → has_feed q ≡ false → inserted_all (filter has_feed (q ∷ [])) s ≡ s
without_feed q s has_not = ap (λ (b : Bool). inserted_all (cond b (q ∷ []) []) s) has_not

-- the first one, and then the others
first-then : (q : Queued) (behind : List Queued) (s : State)
    → inserted_all (filter has_feed (q ∷ behind)) s ≡ inserted_all (filter has_feed behind) (inserted_all (filter has_feed (q ∷ [])) s)
first-then q behind s = by_test (has_feed q)
  where
    by_test : (b : Bool)
        → inserted_all (cond b (q ∷ filter has_feed behind) (filter has_feed behind)) s ≡ inserted_all (filter has_feed behind) (inserted_all (cond b (q ∷ []) []) s)
    by_test true = refl
    by_test false = refl

-- one more of these was put
pub put-more : (qs : List Queued) (i : ℕ) (q : Queued) (old new all : State) → slice_get qs i ≡ Some q → new ≡ inserted_all (filter has_feed (q ∷ [])) old
    → inserted_all (filter has_feed (drop i qs)) old ≡ all → inserted_all (filter has_feed (drop (i + 1) qs)) new ≡ all
put-more qs i q old new all at is so_far =
    let behind = drop (i + 1) qs in
    ap (inserted_all (filter has_feed behind)) is ∙ sym (first-then q behind old)
    ∙ sym (ap (λ (left : List Queued). inserted_all (filter has_feed left) old) (left-some qs i q at)) ∙ so_far

-- none is left
pub put-all : (left : List Queued) (s all : State) → left ≡ [] → inserted_all (filter has_feed left) s ≡ all → s ≡ all
put-all left s all none so_far = sym (ap (λ (qs : List Queued). inserted_all (filter has_feed qs) s) none) ∙ so_far

pub same-then : (first second third : PassView) → IsSamePass first second → IsSamePass second third → IsSamePass first third
same-then first second third one two = two ∙ ap (λ (p : PassView). record p { seen = third.seen }) one
