-- How many calls a feeding makes that has the only pass of a queue.
use Rattle.std.proofs.Common.{◌≡◌, ◌∙◌, ℕ, ◌+◌, ◌*◌, ◌≤◌, Bool, true, false, List, [], ◌∷◌, ◌++◌, length, refl, sym, ap, subst, arith, append_assoc, append-nil, length-append}
use Rattle.std.specs.Prelude.{All}
use Rattle.std.proofs.lemmas.List.Elements.{All-nil, All-cons, All-head, All-tail}
use Rattle.ldm_types.specs.declared.limits.TheConstants.{LARGEST_ARENA}
use Rattle.ldm_model.specs.declared.event.Entry.{Entry}
use Rattle.ldm_model.specs.Product.{Product, extent_of}
use Rattle.ldm_model.specs.Always.{Always, HasSlots}
use Rattle.ldm_model.specs.State.{State, empty}
use Rattle.ldm_model.specs.History.{after, IsLegal, IsLegalFrom}
use Rattle.ldm_model.proofs.Appended.{IsLegalFrom-append}
use Rattle.ldm_shared.specs.Passes.{Makes, PassView}
use Rattle.ldm_shared.specs.Staying.{HasRow}
use Rattle.ldm_outside.specs.Session.{SessionRecord}
use Rattle.ldm_sender.specs.declared.end.SendEnd.{SendEnd}
use Rattle.ldm_sender.specs.Acts.{is_whole}
use Rattle.ldm_sender.specs.Asked.{Asked}
use Rattle.ldm_sender.specs.Calls.{MayBeUnmade}
use Rattle.ldm_sender.specs.Does.{Each, IsAllBut}
use Rattle.ldm_sender.specs.Ending.{closing_of}
use Rattle.ldm_sender.specs.Opening.{opening_entries, place_of}
use Rattle.ldm_upstream.specs.Course.{AreRows}
use Rattle.ldm_upstream.specs.Feeding.{Feeding, entries_of, given_of, last_entries, last_given}
use Rattle.ldm_upstream.specs.Feeds.{Feeds}
use Rattle.ldm_upstream.specs.Turn.{Given}
use Rattle.ldm_upstream.specs.Turns.{entries_of_turns, given_in_turns, goes_of_turns}
use Rattle.ldm_between_ends.specs.Counts.{most_fed}
use Rattle.ldm_between_ends.specs.OnePass.{IsOnlyPass, state_of}
use Rattle.ldm_between_ends.proofs.Entries.{IsShort, all-front, few-closing, few-last, few-opening, few-turns}
use Rattle.ldm_between_ends.proofs.Fronts.{GivesFew, gives-few}
use Rattle.ldm_between_ends.proofs.OnePass.{seen-by, seen-legal}
use Rattle.ldm_between_ends.proofs.Slots.{few-queued}

-- what is behind a front, where only such are missing
pub record Missing {A : Type 0} (Only : A → Type 0) (part whole : List A) : Type 0 where
  pub missing : List A
  pub all : part ++ missing ≡ whole
  pub only : Each Only missing

pub missing-of : {A : Type 0} (Only : A → Type 0) (b : Bool) (part whole : List A) → IsAllBut b Only part whole → Missing Only part whole
missing-of Only true part whole is = record { missing = []; all = append-nil part ∙ is; only = tt }
missing-of Only false part whole is = record { missing = is.0; all = is.1; only = is.2 }

-- the laws that are used
pub record CountLaws : Type 0 where
  pub goes_on : (old new : PassView) (made : List Entry) → Makes old new made → old.passes ≡ 1 → old.actor ≡ 0 → new.seen ≡ old.seen ++ made
  pub slots : Always HasSlots
  pub sized : (arena slots : ℕ) (history : List Entry) → IsLegal arena slots history → (n : ℕ) (product : Product) (time : ℕ)
      → HasRow n product time (after arena slots history) → length product.body ≡ product.info.size
  pub fits : (arena slots : ℕ) (history : List Entry) → IsLegal arena slots history → (n : ℕ) (product : Product) (time : ℕ)
      → HasRow n product time (after arena slots history) → extent_of product.info ≤ arena

all-weaker : {A : Type 0} (P Q : A → Type 0) → ((x : A) → P x → Q x) → (xs : List A) → All P xs → All Q xs
all-weaker P Q weaker [] all = All-nil Q
all-weaker P Q weaker (x ∷ xs) all = All-cons Q x xs (weaker x (All-head P x xs all)) (all-weaker P Q weaker xs (All-tail P x xs all))

module _ (laws : CountLaws) (why : SendEnd) (asked : Asked) (ahead : List ℕ) (old new : PassView) (before after' : SessionRecord)
    (feeds : Feeds why asked ahead old new before after') (only : IsOnlyPass old) (small : old.arena ≤ LARGEST_ARENA) where
  abbrev f : Feeding
  f = feeds.feeding

  makes : Makes old new (feeds.called ++ closing_of old.actor why f.answered)
  makes = seen-by old new (feeds.called ++ closing_of old.actor why f.answered) only.has_seen feeds.made

  seen : new.seen ≡ old.seen ++ (feeds.called ++ closing_of old.actor why f.answered)
  seen = laws.goes_on old new (feeds.called ++ closing_of old.actor why f.answered) makes only.passes only.actor

  legal : IsLegal old.arena old.slots (old.seen ++ (feeds.called ++ closing_of old.actor why f.answered))
  legal = seen-legal old new (feeds.called ++ closing_of old.actor why f.answered) makes seen

  called-legal : IsLegalFrom (state_of old) feeds.called
  called-legal =
      ((IsLegalFrom-append feeds.called (closing_of old.actor why f.answered) (state_of old)).0
      ((IsLegalFrom-append old.seen (feeds.called ++ closing_of old.actor why f.answered) (empty old.arena old.slots)).0 legal).1).0

  gives : GivesFew (state_of old) f.turns f.last
  gives =
      let part = missing-of MayBeUnmade (is_whole why) feeds.called (entries_of old.actor asked f) feeds.called_part in
      gives-few (state_of old) old.actor asked f.answered f.turns f.last feeds.called part.missing
      (part.all ∙ append_assoc (opening_entries old.actor asked f.answered) (entries_of_turns old.actor (place_of f.answered) f.turns) (last_entries old.actor (place_of f.answered) f.last))
      part.only called-legal feeds.is_feeding.opened

  one-short : (given : Given) → HasRow given.n given.product given.time (after new.arena new.slots new.seen) → IsShort given
  one-short given row =
      let arena : new.arena ≡ old.arena = ap (λ (p : PassView). p.arena) feeds.made.same in
      omega (
        arith,
        small,
        arena,
        laws.sized new.arena new.slots new.seen makes.has_seen.legal given.n given.product given.time row,
        laws.fits new.arena new.slots new.seen makes.has_seen.legal given.n given.product given.time row,
      )

  short : All IsShort (given_in_turns f.turns)
  short =
      all-front IsShort (given_in_turns f.turns) (last_given f.last)
      (all-weaker (λ (given : Given). HasRow given.n given.product given.time (after new.arena new.slots new.seen)) IsShort one-short (given_of f) feeds.rows)

  pub fed-few : length new.seen ≤ length old.seen + most_fed (length (goes_of_turns f.turns)) old.slots
  fed-few =
      let k = place_of f.answered in
      let part = missing-of MayBeUnmade (is_whole why) feeds.called (entries_of old.actor asked f) feeds.called_part in
      let opening = opening_entries old.actor asked f.answered in
      let turning = entries_of_turns old.actor k f.turns in
      let ending = last_entries old.actor k f.last in
      omega (
        arith,
        ap length seen,
        length-append old.seen (feeds.called ++ closing_of old.actor why f.answered),
        length-append feeds.called (closing_of old.actor why f.answered),
        few-closing old.actor why f.answered,
        ap length part.all,
        length-append feeds.called part.missing,
        length-append (opening ++ turning) ending,
        length-append opening turning,
        few-opening old.actor asked f.answered,
        few-last old.actor k f.last,
        few-turns old.actor k f.turns gives.none_lost short,
        gives.few,
        few-queued laws.slots old.arena old.slots old.seen only.has_seen.legal,
      )
