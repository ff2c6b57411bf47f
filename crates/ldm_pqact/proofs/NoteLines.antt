-- Log lines, one after another.
use Rattle.std.proofs.Common.{◌≡◌, ◌∙◌, ℕ, ◌+◌, ◌<◌, ◌≤◌, List, [], ◌∷◌, ◌++◌, take, length, get_or, refl, ap, append-nil}
use Rattle.std.proofs.lemmas.List.{take_all, take_more}
use Rattle.std.proofs.lemmas.List.Concat.{flat_map-append}
use Rattle.ldm_pqact_match.specs.declared.chosen.Chosen.{Chosen}
use Rattle.ldm_pqact.specs.Notes.{note_of, notes_of}

pub notes_more : (ident : List ℕ) (all : List Chosen) (place : ℕ) (it : Chosen) → place < length all → it ≡ get_or all place it
    → notes_of ident (take (place + 1) all) ≡ notes_of ident (take place all) ++ note_of ident it.decision
notes_more ident all place it inside is =
    let more : take (place + 1) all ≡ take place all ++ it ∷ [] = take_more all place it inside ∙ rw (← is) refl in
    ap (notes_of ident) more
    ∙ (flat_map-append (λ (x : Chosen). note_of ident x.decision) (take place all) (it ∷ [])
    ∙ ap (λ (x : List ℕ). notes_of ident (take place all) ++ x) (append-nil (note_of ident it.decision)))

pub notes_whole : (ident : List ℕ) (all : List Chosen) (place : ℕ) (lines : List ℕ) → lines ≡ notes_of ident (take place all) → length all ≤ place → lines ≡ notes_of ident all
notes_whole ident all place lines is past = is ∙ ap (notes_of ident) (take_all place all past)
