-- Calls that only read leave all products and reservations as they are.
use Rattle.std.proofs.Common.{◌≡◌, ◌∙◌, true, List, [], ◌∷◌, refl}
use Rattle.std.specs.Prelude.{All}
use Rattle.std.proofs.lemmas.Bool.{false≢true}
use Rattle.std.proofs.lemmas.List.Elements.{All-head, All-tail}
use Rattle.ldm_model.specs.declared.event.Event.{Event}
use Rattle.ldm_model.specs.declared.event.Event.TheVariants as event
use Rattle.ldm_model.specs.declared.event.Entry.{Entry}
use Rattle.ldm_model.specs.State.{State}
use Rattle.ldm_model.specs.Outcome.{Outcome}
use Rattle.ldm_model.specs.History.{after_entries, next_entry}
use Rattle.ldm_model.proofs.Cases.{is_quiet, by_quiet}
use Rattle.ldm_between_ends.specs.Reading.{is_reading, OnlyReads, KeepsProducts}

reading-quiet : (e : Event) → is_reading e ≡ true → is_quiet e ≡ true
reading-quiet (event.Insert now info body) h = absurd (false≢true h)
reading-quiet event.Expire h = absurd (false≢true h)
reading-quiet (event.Reserve info) h = absurd (false≢true h)
reading-quiet (event.Fill r bytes) h = absurd (false≢true h)
reading-quiet (event.Commit r now) h = absurd (false≢true h)
reading-quiet (event.Discard r) h = absurd (false≢true h)
reading-quiet e h = refl

keeps-self : (s : State) → KeepsProducts s s
keeps-self s = record { arena = refl; slots = refl; rows = refl; reservations = refl }

pub keeps-more : (one two three : State) → KeepsProducts one two → KeepsProducts two three → KeepsProducts one three
keeps-more one two three first second = record {
  arena = second.arena ∙ first.arena;
  slots = second.slots ∙ first.slots;
  rows = second.rows ∙ first.rows;
  reservations = second.reservations ∙ first.reservations;
}

keeps-next : (s : State) (entry : Entry) → OnlyReads entry → KeepsProducts s (next_entry s entry).state
keeps-next s entry h = by_quiet s (λ (o : Outcome). KeepsProducts s o.state)
    (λ r cursors none. record { arena = refl; slots = refl; rows = refl; reservations = refl }) entry.actor entry.event (reading-quiet entry.event h)

pub keeps-entries : (s : State) (entries : List Entry) → All OnlyReads entries → KeepsProducts s (after_entries s entries)
keeps-entries s [] h = keeps-self s
keeps-entries s (entry ∷ entries) h =
    keeps-more s (next_entry s entry).state (after_entries (next_entry s entry).state entries) (keeps-next s entry (All-head OnlyReads entry entries h))
    (keeps-entries (next_entry s entry).state entries (All-tail OnlyReads entry entries h))
