-- A point of a life, one entry further on: its state, and what its reader was given, told and holds.
use Rattle.std.proofs.Common.{◌≡◌, ◌∙◌, cond, List, [], ◌∷◌, ◌++◌, None, refl, sym, ap, append_assoc, append-nil}
use Rattle.ldm_model.specs.declared.event.Reply.{Reply}
use Rattle.ldm_model.specs.declared.event.Entry.{Entry}
use Rattle.ldm_model.specs.State.{empty}
use Rattle.ldm_model.specs.History.{after_entries, next_entry}
use Rattle.ldm_model.specs.Law.{Point, opening, history_of, at_entries, state_before, state_at, is_own, over_replies, with_given, given, after_gap, told, with_count, count_told, after_hold, hold_of}
use Rattle.ldm_model.proofs.Appended.{after_entries-append}

-- the point after one more entry
abbrev pub next_point : Point → Entry → Point
next_point p entry = at_entries p (p.since ++ entry ∷ [])

module _ {A : Type 0} (p : Point) (change : Point → A → Reply → A) where
  -- the entries of the point itself do not matter
  over_replies-at : (behind : List Entry) (x : A) (so_far entries : List Entry) → over_replies (at_entries p behind) change x so_far entries ≡ over_replies p change x so_far entries
  over_replies-at behind x so_far [] = refl
  over_replies-at behind x so_far (entry ∷ entries) = over_replies-at behind (cond (is_own p entry) (change (at_entries p so_far) x entry.reply) x) (so_far ++ entry ∷ []) entries

  over_replies-push : (x : A) (so_far entries : List Entry) (entry : Entry)
      → over_replies p change x so_far (entries ++ entry ∷ []) ≡ cond (is_own p entry) (change (at_entries p (so_far ++ entries)) (over_replies p change x so_far entries) entry.reply)
      (over_replies p change x so_far entries)
  over_replies-push x so_far [] entry = λ i. cond (is_own p entry) (change (at_entries p (sym (append-nil so_far) i)) x entry.reply) x
  over_replies-push x so_far (other ∷ entries) entry =
      let y : A = cond (is_own p other) (change (at_entries p so_far) x other.reply) x in
      over_replies-push y (so_far ++ other ∷ []) entries entry
      ∙ (λ i. cond (is_own p entry) (change (at_entries p (append_assoc so_far (other ∷ []) entries i)) (over_replies p change y (so_far ++ other ∷ []) entries) entry.reply)
      (over_replies p change y (so_far ++ other ∷ []) entries))

  over_replies-next : (x : A) (entry : Entry)
      → over_replies (next_point p entry) change x [] (p.since ++ entry ∷ []) ≡ cond (is_own p entry) (change p (over_replies p change x [] p.since) entry.reply) (over_replies p change x [] p.since)
  over_replies-next x entry = over_replies-at (p.since ++ entry ∷ []) x [] (p.since ++ entry ∷ []) ∙ over_replies-push x [] p.since entry

module _ (p : Point) (entry : Entry) where
  pub given-next : given (next_point p entry) ≡ cond (is_own p entry) (with_given (given p) entry.reply) (given p)
  given-next = over_replies-next p (λ at ns r. with_given ns r) [] entry

  pub told-next : told (next_point p entry) ≡ cond (is_own p entry) (after_gap p (told p) entry.reply) (told p)
  told-next = over_replies-next p after_gap [] entry

  pub hold-next : hold_of (next_point p entry) ≡ cond (is_own p entry) (after_hold p (hold_of p) entry.reply) (hold_of p)
  hold-next = over_replies-next p after_hold None entry

  pub count-next : count_told (next_point p entry) ≡ cond (is_own p entry) (with_count (count_told p) entry.reply) (count_told p)
  count-next = over_replies-next p (λ at n r. with_count n r) 0 entry

  pub state-next : state_at (next_point p entry) ≡ (next_entry (state_at p) entry).state
  state-next =
      ap (after_entries (empty p.arena p.slots)) (sym (append_assoc p.before (opening p ∷ p.since) (entry ∷ [])))
      ∙ after_entries-append (history_of p) (entry ∷ []) (empty p.arena p.slots)

-- the state at the opening
pub state-opened : (p : Point) → state_at (at_entries p []) ≡ (next_entry (state_before p) (opening p)).state
state-opened p = after_entries-append p.before (opening p ∷ []) (empty p.arena p.slots)
