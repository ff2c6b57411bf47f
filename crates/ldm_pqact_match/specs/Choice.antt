-- What pqact.conf does with a product.
use Rattle.std.specs.Prelude.{ℕ, not, if◌then◌else◌, min, List, [], ◌∷◌, ◌++◌, length, position, Option, Some, None, Result, Ok, Err}
use Rattle.std.specs.Str.{is_utf8}
use Rattle.ldm_types.specs.Info.{Metadata}
use Rattle.ldm_pqact_conf.specs.Entries.{EntryView}
use Rattle.ldm_pqact_match.specs.Matching.{acts, any_matches, parts_for}
use Rattle.ldm_pqact_match.specs.Dates.{moment_of}
use Rattle.ldm_pqact_match.specs.Substitution.{Meanings, words_text}
use Rattle.ldm_pqact_match.specs.declared.chosen.TheConstants.{LAST_PLACE}
use Rattle.ldm_pqact_match.specs.declared.chosen.Chosen.{Chosen}
use Rattle.ldm_pqact_match.specs.declared.chosen.Decision.{Decision}
use Rattle.ldm_pqact_match.specs.declared.chosen.Decision.TheVariants.{Act, NoDate, NotText}

-- the number of a place, which stays at the greatest that a `u32` has. No place of a pqact.conf comes near it.
abbrev pub place_number : ℕ → ℕ
place_number place = min place LAST_PLACE

-- what the forms in the words of an entry stand for
abbrev pub meanings_for : Metadata → ℕ → EntryView → Meanings
meanings_for info time entry = record { groups = parts_for info entry; inserted = moment_of time; seqno = info.seqno }

-- the action with these words, unless one is no UTF-8
abbrev pub unless_bad : Option ℕ → Decision → Decision
unless_bad None decision = decision
unless_bad (Some place) decision = NotText (place_number place)

-- by what the words of an entry become
abbrev pub decision_by : EntryView → Result (List (List ℕ)) ℕ → Decision
decision_by entry (Err group) = NoDate group
decision_by entry (Ok words) =
    unless_bad (position (λ word. not (is_utf8 word)) words)
    (Act (record { kind = entry.action; options = entry.options; words = words }))

-- what is done by an entry that acts on a product that was inserted at that time
unfoldable pub decision_for : Metadata → ℕ → EntryView → Decision
decision_for info time entry = decision_by entry (words_text (meanings_for info time entry) entry.words)

-- the entries that act, behind these entries
unfoldable pub chosen_behind : List EntryView → Metadata → ℕ → List EntryView → List Chosen
chosen_behind earlier info time [] = []
chosen_behind earlier info time (entry ∷ later) =
    let others = chosen_behind (earlier ++ entry ∷ []) info time later in
    if acts (any_matches info earlier) info entry
    then record { entry = place_number (length earlier); decision = decision_for info time entry } ∷ others
    else others

-- the entries that act on a product that was inserted at that time, in file order, and what each does
abbrev pub choose_of : List EntryView → Metadata → ℕ → List Chosen
choose_of entries info time = chosen_behind [] info time entries
