-- What is text of a piece, written part by part.
use Rattle.std.proofs.Common.{◌≡◌, ◌∙◌, ℕ, List, [], ◌++◌, take, drop, refl, sym, ap, subst, append_assoc, append-nil}
use Rattle.std.specs.Prelude.{filter}
use Rattle.std.proofs.lemmas.List.{take-append-drop}
use Rattle.std.proofs.lemmas.List.Elements.{filter-append}
use Rattle.ldm_outside.specs.declared.launcher.ChildNo.{ChildNo}
use Rattle.ldm_outside.specs.declared.store.FileNo.{FileNo}
use Rattle.ldm_outside.specs.Launcher.{IsTaking, LauncherFails, LauncherRecord}
use Rattle.ldm_outside.specs.Store.{IsOpen, StoreFails, StoreRecord}
use Rattle.ldm_actions.specs.Strip.{is_text}
use Rattle.ldm_actions.specs.Writing.{AppendsFront, FeedsFront, with_appended, with_given}
use Rattle.ldm_actions.proofs.Fronts.{appended_nothing, appended_then, given_nothing, given_then, still_open, still_taking}

abbrev text : List ℕ → List ℕ
text bytes = filter is_text bytes

text_parts : (n : ℕ) (rest : List ℕ) → text rest ≡ text (take n rest) ++ text (drop n rest)
text_parts n rest = ap text (sym (take-append-drop n rest)) ∙ filter-append is_text (take n rest) (drop n rest)

-- some of what is to be written is written, and what is text of the rest is left
pub record AppendsBefore (file : FileNo) (piece rest : List ℕ) (old now : StoreRecord) : Type 0 where
  pub front : List ℕ
  pub before : front ++ text rest ≡ text piece
  pub stands : now ≡ with_appended file front old

pub record FeedsBefore (child : ChildNo) (piece rest : List ℕ) (old now : LauncherRecord) : Type 0 where
  pub front : List ℕ
  pub before : front ++ text rest ≡ text piece
  pub stands : now ≡ with_given child front old

module _ (piece : List ℕ) where
  -- a part more, of the front before it
  part_more : (front rest : List ℕ) (n : ℕ) → front ++ text rest ≡ text piece → (front ++ text (take n rest)) ++ text (drop n rest) ≡ text piece
  part_more front rest n before =
      append_assoc front (text (take n rest)) (text (drop n rest)) ∙ ap (λ (bytes : List ℕ). front ++ bytes) (sym (text_parts n rest)) ∙ before

  -- a front of a part, where a call fails
  part_front : (front rest first left : List ℕ) (n : ℕ) → front ++ text rest ≡ text piece → first ++ left ≡ text (take n rest) →
      (front ++ first) ++ (left ++ text (drop n rest)) ≡ text piece
  part_front front rest first left n before is_front =
      append_assoc front first (left ++ text (drop n rest))
      ∙ ap (λ (bytes : List ℕ). front ++ bytes)
      (sym (append_assoc first left (text (drop n rest))) ∙ ap (λ (bytes : List ℕ). bytes ++ text (drop n rest)) is_front ∙ sym (text_parts n rest))
      ∙ before

  module _ (file : FileNo) where
    pub append_begins : (old : StoreRecord) → AppendsBefore file piece piece old old
    append_begins old = record { front = []; before = refl; stands = appended_nothing file old }

    pub append_goes_on : (rest : List ℕ) (n : ℕ) (old mid new : StoreRecord) → AppendsBefore file piece rest old mid →
        new ≡ with_appended file (text (take n rest)) mid → AppendsBefore file piece (drop n rest) old new
    append_goes_on rest n old mid new so_far is = record {
      front = so_far.front ++ text (take n rest);
      before = part_more so_far.front rest n so_far.before;
      stands = is ∙ ap (with_appended file (text (take n rest))) so_far.stands ∙ sym (appended_then file so_far.front (text (take n rest)) old);
    }

    pub append_fails : (rest : List ℕ) (n : ℕ) (old mid new : StoreRecord) → AppendsBefore file piece rest old mid →
        AppendsFront file (text (take n rest)) mid new → AppendsFront file (text piece) old new
    append_fails rest n old mid new so_far fails = record {
      front = so_far.front ++ fails.front;
      rest = fails.rest ++ text (drop n rest);
      is_front = part_front so_far.front rest fails.front fails.rest n so_far.before fails.is_front;
      fails = subst (λ (store : StoreRecord). StoreFails store new)
          (ap (with_appended file fails.front) so_far.stands ∙ sym (appended_then file so_far.front fails.front old)) fails.fails;
    }

    pub append_ends : (rest : List ℕ) (old now : StoreRecord) → rest ≡ [] → AppendsBefore file piece rest old now → now ≡ with_appended file (text piece) old
    append_ends rest old now none so_far =
        let whole : so_far.front ≡ text piece = sym (append-nil so_far.front) ∙ ap (λ (bytes : List ℕ). so_far.front ++ text bytes) (sym none) ∙ so_far.before in
        so_far.stands ∙ ap (λ (bytes : List ℕ). with_appended file bytes old) whole

    pub append_open : (rest : List ℕ) (old now : StoreRecord) → IsOpen file old → AppendsBefore file piece rest old now → IsOpen file now
    append_open rest old now was so_far = still_open file old now so_far.front so_far.stands was

  module _ (child : ChildNo) where
    pub feed_begins : (old : LauncherRecord) → FeedsBefore child piece piece old old
    feed_begins old = record { front = []; before = refl; stands = given_nothing child old }

    pub feed_goes_on : (rest : List ℕ) (n : ℕ) (old mid new : LauncherRecord) → FeedsBefore child piece rest old mid →
        new ≡ with_given child (text (take n rest)) mid → FeedsBefore child piece (drop n rest) old new
    feed_goes_on rest n old mid new so_far is = record {
      front = so_far.front ++ text (take n rest);
      before = part_more so_far.front rest n so_far.before;
      stands = is ∙ ap (with_given child (text (take n rest))) so_far.stands ∙ sym (given_then child so_far.front (text (take n rest)) old);
    }

    pub feed_fails : (rest : List ℕ) (n : ℕ) (old mid new : LauncherRecord) → FeedsBefore child piece rest old mid →
        FeedsFront child (text (take n rest)) mid new → FeedsFront child (text piece) old new
    feed_fails rest n old mid new so_far fails = record {
      front = so_far.front ++ fails.front;
      rest = fails.rest ++ text (drop n rest);
      is_front = part_front so_far.front rest fails.front fails.rest n so_far.before fails.is_front;
      fails = subst (λ (launcher : LauncherRecord). LauncherFails launcher new)
          (ap (with_given child fails.front) so_far.stands ∙ sym (given_then child so_far.front fails.front old)) fails.fails;
    }

    pub feed_ends : (rest : List ℕ) (old now : LauncherRecord) → rest ≡ [] → FeedsBefore child piece rest old now → now ≡ with_given child (text piece) old
    feed_ends rest old now none so_far =
        let whole : so_far.front ≡ text piece = sym (append-nil so_far.front) ∙ ap (λ (bytes : List ℕ). so_far.front ++ text bytes) (sym none) ∙ so_far.before in
        so_far.stands ∙ ap (λ (bytes : List ℕ). with_given child bytes old) whole

    pub feed_taking : (rest : List ℕ) (old now : LauncherRecord) → IsTaking child old → FeedsBefore child piece rest old now → IsTaking child now
    feed_taking rest old now was so_far = still_taking child old now so_far.front so_far.stands was
