-- One line more: the entries that it makes, and what it is answered.
use Rattle.std.proofs.Common.{◌≡◌, ℕ, List, [], ◌∷◌, ◌++◌, map, Option, Some, None, refl, sym, ap, subst, ◌∙◌, append_assoc, append-nil}
use Rattle.std.specs.List.{concat}
use Rattle.std.proofs.lemmas.List.{map_push}
use Rattle.ldm_model.specs.declared.event.Event.{Event}
use Rattle.ldm_model.specs.declared.event.Reply.{Reply}
use Rattle.ldm_model.specs.declared.event.Entry.{Entry}
use Rattle.ldm_script.specs.Order.{Asked, Plain, OnCursor, OnReservation}
use Rattle.ldm_script.specs.declared.order.LastPlaces.{LastPlaces}
use Rattle.ldm_script.specs.Resolve.{no_places, resolved, unresolved, last_after}
use Rattle.ldm_shared.specs.Own.{own}
use Rattle.ldm_shared.specs.Passes.{PassView, IsSamePass, FindsWorn}
use Rattle.ldm_crowd.specs.Calls.{GrowsBy}
use Rattle.ldm_crowd.specs.Lines.{Told, told, told_of, IsMade, AreEntriesOf, replies_of, last_of}
use Rattle.ldm_crowd.specs.Interleaving.{crowd_line, actor_text}

-- the entries that a line makes, by its event
abbrev pub made_for : ℕ → Option Event → Reply → List Entry
made_for actor None reply = []
made_for actor (Some event) reply = record { actor = actor; event = event; reply = reply } ∷ []

-- what it is answered
abbrev pub said : Reply → Option Event → Reply → Reply
said without None r = without
said without (Some event) r = r

told_of-more : (last : LastPlaces) (without : Reply) (event : Option Event) (entries more : List Entry) → IsMade event entries
    → (let t = told_of last without event entries in told_of last without event (entries ++ more) ≡ record { reply = t.reply; last = t.last; left = t.left ++ more })
told_of-more last without None entries more made = refl
told_of-more last without (Some event) [] more made = absurd made
told_of-more last without (Some event) (entry ∷ entries) more made = refl

told-more : (last : LastPlaces) (asked : Asked) (entries more : List Entry) → IsMade (resolved last asked) entries
    → (let t = told last asked entries in told last asked (entries ++ more) ≡ record { reply = t.reply; last = t.last; left = t.left ++ more })
told-more last asked entries more made = told_of-more last (unresolved asked) (resolved last asked) entries more made

made-more : (event : Option Event) (entries more : List Entry) → IsMade event entries → IsMade event (entries ++ more)
made-more None entries more made = tt
made-more (Some event) [] more made = absurd made
made-more (Some event) (entry ∷ entries) more made = made

concat_push : (xs : List (List ℕ)) (x : List ℕ) → concat (xs ++ x ∷ []) ≡ concat xs ++ x
concat_push [] x = append-nil x
concat_push (y ∷ xs) x = ap (λ w. y ++ w) (concat_push xs x) ∙ sym (append_assoc y (concat xs) x)

-- where `.` names no place, none is noted
last-unresolved : (last : LastPlaces) (asked : Asked) → last_after last (unresolved asked) ≡ last
last-unresolved last (Plain event) = refl
last-unresolved last (OnCursor place event) = refl
last-unresolved last (OnReservation place event) = refl

module _ (asked : Asked) (actor : ℕ) (answer : Reply) where
  -- the entries that the line makes, where that place was opened last
  abbrev pub made_at : LastPlaces → List Entry
  made_at last = made_for actor (resolved last asked) answer

  one_made : (last : LastPlaces) (without : Reply) (event : Option Event)
      → IsMade event (made_for actor event answer) × ((told_of last without event (made_for actor event answer)).left ≡ [])
  one_made last without None = (tt, refl)
  one_made last without (Some event) = (refl, refl)

  one_reply : (last : LastPlaces) (without : Reply) (event : Option Event) → (told_of last without event (made_for actor event answer)).reply ≡ said without event answer
  one_reply last without None = refl
  one_reply last without (Some event) = refl

  one_last : (last : LastPlaces) (without : Reply) (event : Option Event) → last_after last without ≡ last
      → (told_of last without event (made_for actor event answer)).last ≡ last_after last (said without event answer)
  one_last last without None same = sym same
  one_last last without (Some event) same = refl

  -- the entries of these lines and one more
  pub entries-more : (last : LastPlaces) (lines : List Asked) (entries : List Entry) → AreEntriesOf last lines entries
      → AreEntriesOf last (lines ++ asked ∷ []) (entries ++ made_at (last_of last lines entries))
  entries-more last [] entries none =
      subst (λ (es : List Entry). AreEntriesOf last (asked ∷ []) (es ++ made_at last)) (sym none) (one_made last (unresolved asked) (resolved last asked))
  entries-more last (line ∷ lines) entries are =
      let first = told last line entries in
      let more = made_at (last_of first.last lines first.left) in
      (made-more (resolved last line) entries more are.0, subst (λ (t : Told). AreEntriesOf t.last (lines ++ asked ∷ []) t.left) (sym (told-more last line entries more are.0)) (entries-more first.last lines first.left are.1))

  pub replies-more : (last : LastPlaces) (lines : List Asked) (entries : List Entry) → AreEntriesOf last lines entries
      → replies_of last (lines ++ asked ∷ []) (entries ++ made_at (last_of last lines entries)) ≡ replies_of last lines entries ++ said (unresolved asked) (resolved (last_of last lines entries) asked) answer ∷ []
  replies-more last [] entries none =
      ap (λ (es : List Entry). replies_of last (asked ∷ []) (es ++ made_at last)) none ∙ ap (λ (r : Reply). r ∷ []) (one_reply last (unresolved asked) (resolved last asked))
  replies-more last (line ∷ lines) entries are =
      let first = told last line entries in
      let more = made_at (last_of first.last lines first.left) in
      ap (λ (t : Told). t.reply ∷ replies_of t.last (lines ++ asked ∷ []) t.left) (told-more last line entries more are.0)
      ∙ ap (λ (rs : List Reply). first.reply ∷ rs) (replies-more first.last lines first.left are.1)

  pub last-more : (last : LastPlaces) (lines : List Asked) (entries : List Entry) → AreEntriesOf last lines entries
      → last_of last (lines ++ asked ∷ []) (entries ++ made_at (last_of last lines entries)) ≡ last_after (last_of last lines entries) (said (unresolved asked) (resolved (last_of last lines entries) asked) answer)
  last-more last [] entries none =
      ap (λ (es : List Entry). last_of last (asked ∷ []) (es ++ made_at last)) none ∙ one_last last (unresolved asked) (resolved last asked) (last-unresolved last asked)
  last-more last (line ∷ lines) entries are =
      let first = told last line entries in
      let more = made_at (last_of first.last lines first.left) in
      ap (λ (t : Told). last_of t.last (lines ++ asked ∷ []) t.left) (told-more last line entries more are.0) ∙ last-more first.last lines first.left are.1

  -- what is written for these lines and one more
  pub text-more : (by : ℕ) (lines : List Asked) (entries : List Entry) → AreEntriesOf no_places lines entries
      → actor_text by (lines ++ asked ∷ []) (entries ++ made_at (last_of no_places lines entries))
      ≡ actor_text by lines entries ++ crowd_line by (said (unresolved asked) (resolved (last_of no_places lines entries) asked) answer)
  text-more by lines entries are =
      let last = said (unresolved asked) (resolved (last_of no_places lines entries) asked) answer in
      ap (λ (rs : List Reply). concat (map (crowd_line by) rs)) (replies-more no_places lines entries are)
      ∙ ap concat (map_push (crowd_line by) (replies_of no_places lines entries) last)
      ∙ concat_push (map (crowd_line by) (replies_of no_places lines entries)) (crowd_line by last)

-- what is said is the answer of the call
pub said-is : (without : Reply) (event : Option Event) (answer : Reply) (old new : PassView) → GrowsBy without event answer old new → said without event answer ≡ answer
said-is without None answer old new grows = sym grows.0
said-is without (Some event) answer old new grows = refl

-- it is the same pass after a call
pub same-grows : (without : Reply) (event : Option Event) (answer : Reply) (old new : PassView) → GrowsBy without event answer old new → IsSamePass old new
same-grows without None answer old new grows = grows.1 ∙ ap (λ (p : PassView). record old { seen = p.seen }) (sym grows.1)
same-grows without (Some event) answer old new grows = grows.makes.same

-- the entries of a pass after a call
pub own-grows : (without : Reply) (event : Option Event) (answer : Reply) (old new : PassView) → GrowsBy without event answer old new
    → own old.actor new.seen ≡ own old.actor old.seen ++ made_for old.actor event answer
own-grows without None answer old new grows = ap (λ (p : PassView). own old.actor p.seen) grows.1 ∙ sym (append-nil (own old.actor old.seen))
own-grows without (Some event) answer old new grows = grows.makes.adds.own

-- a pass that found the queue worn has no entry more of its own
pub own-worn : (old new : PassView) (turns : ℕ) → FindsWorn old new turns → own old.actor new.seen ≡ own old.actor old.seen
own-worn old new turns worn = worn.makes.adds.own ∙ append-nil (own old.actor old.seen)
