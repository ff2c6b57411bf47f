-- What the turns of a cursor ask for: actions, each on the body of its product, and log lines.
use Rattle.std.specs.Prelude.{ℕ, List, [], ◌∷◌, codes}
use Rattle.std.specs.List.{flat_map}
use Rattle.ldm_shared.specs.Givens.{Gave, Given, Lost, Turn}
use Rattle.ldm_session.specs.Gaps.{gap_line}
use Rattle.ldm_pqact_conf.specs.Entries.{EntryView}
use Rattle.ldm_pqact_match.specs.declared.chosen.Chosen.{Chosen}
use Rattle.ldm_pqact_match.specs.declared.chosen.Decision.{Decision}
use Rattle.ldm_pqact_match.specs.declared.chosen.Decision.TheVariants.{Act, NoDate, NotText}
use Rattle.ldm_pqact_match.specs.Choice.{choose_of}
use Rattle.ldm_actions.specs.Effects.{Action}
use Rattle.ldm_pqact.specs.Effect.{effect_of}
use Rattle.ldm_pqact.specs.Notes.{notes_of}

abbrev pub deed_by : List ℕ → Decision → List (Action × List ℕ)
deed_by body (Act action) = (effect_of action, body) ∷ []
deed_by body (NoDate group) = []
deed_by body (NotText word) = []

-- what was chosen for a product of that body
abbrev pub deeds_by : List ℕ → List Chosen → List (Action × List ℕ)
deeds_by body chosen = flat_map (λ (it : Chosen). deed_by body it.decision) chosen

-- what entries choose for a product
abbrev pub chosen_for : List EntryView → Given → List Chosen
chosen_for entries given = choose_of entries given.product.info given.time

abbrev pub deeds_for : List EntryView → Given → List (Action × List ℕ)
deeds_for entries given = deeds_by given.product.body (chosen_for entries given)

abbrev pub turn_deeds : List EntryView → Turn → List (Action × List ℕ)
turn_deeds entries (Lost count first last) = []
turn_deeds entries (Gave given) = deeds_for entries given

-- all actions, product by product and entry by entry
abbrev pub deeds_of : List EntryView → List Turn → List (Action × List ℕ)
deeds_of entries turns = flat_map (turn_deeds entries) turns

-- ---- log lines

abbrev pub turn_lines : List EntryView → Turn → List ℕ
turn_lines entries (Lost count first last) = gap_line (codes "pqact") count first last
turn_lines entries (Gave given) = notes_of given.product.info.ident (chosen_for entries given)

-- all log lines, in order
abbrev pub lines_of : List EntryView → List Turn → List ℕ
lines_of entries turns = flat_map (turn_lines entries) turns
