-- Entries, one by one.
use Rattle.std.proofs.Common.{◌≡◌, ℕ, suc, ◌+◌, ◌<◌, ◌≤◌, Bool, true, false, not, List, [], ◌∷◌, ◌++◌, take}
use Rattle.std.proofs.Common.{drop, drop-cons, length, length-take, get_or, Option, Some, None, is_none, refl, sym, ap, ◌∙◌, append_assoc, append-nil, arith}
use Rattle.std.specs.Prelude.{◌&&◌, ◌||◌}
use Rattle.std.proofs.lemmas.List.{drop_all, take_more}
use Rattle.std.proofs.lemmas.List.Folds.{list_any-append}
use Rattle.ldm_types.specs.Info.{Metadata}
use Rattle.ldm_pqact_conf.specs.Entries.{EntryView}
use Rattle.ldm_pqact_conf.specs.EntryParts.{found_by}
use Rattle.ldm_pqact_match.specs.declared.chosen.Chosen.{Chosen}
use Rattle.ldm_pqact_match.specs.declared.chosen.Decision.{Decision}
use Rattle.ldm_pqact_match.specs.Dates.{CivilMoment, moment_of}
use Rattle.ldm_pqact_match.specs.Substitution.{Meanings, words_text}
use Rattle.ldm_pqact_match.specs.Matching.{acts, any_matches, matches, meets, parts_for}
use Rattle.ldm_pqact_match.specs.Choice.{chosen_behind, choose_of, decision_by, decision_for, place_number}

-- what was chosen of the entries up to a place, and what is chosen of those behind it, is what is chosen
abbrev pub IsSoFar : List EntryView → Metadata → ℕ → ℕ → List Chosen → Type 0
IsSoFar all info time place chosen = chosen ++ chosen_behind (take place all) info time (drop place all) ≡ choose_of all info time

left : (all : List EntryView) (place : ℕ) (entry : EntryView) → place < length all → entry ≡ get_or all place entry →
    drop place all ≡ entry ∷ drop (place + 1) all
left all place entry inside is =
    let next : suc place ≡ place + 1 = omega arith in
    drop-cons all place entry inside ∙ rw (next, ← is) refl

passed : (all : List EntryView) (place : ℕ) (entry : EntryView) → place < length all → entry ≡ get_or all place entry →
    take (place + 1) all ≡ take place all ++ entry ∷ []
passed all place entry inside is = take_more all place entry inside ∙ rw (← is) refl

choice_acts : (chosen : List Chosen) (earlier : List EntryView) (info : Metadata) (time : ℕ) (entry : EntryView) (later : List EntryView) →
    acts (any_matches info earlier) info entry ≡ true →
    (chosen ++ record { entry = place_number (length earlier); decision = decision_for info time entry } ∷ []) ++ chosen_behind (earlier ++ entry ∷ []) info time later
    ≡ chosen ++ chosen_behind earlier info time (entry ∷ later)
unfolding chosen_behind
choice_acts chosen earlier info time entry later is = rw is (append_assoc chosen _ _)

choice_passes : (earlier : List EntryView) (info : Metadata) (time : ℕ) (entry : EntryView) (later : List EntryView) →
    acts (any_matches info earlier) info entry ≡ false →
    chosen_behind (earlier ++ entry ∷ []) info time later ≡ chosen_behind earlier info time (entry ∷ later)
unfolding chosen_behind
choice_passes earlier info time entry later is = rw is refl

-- an entry that acts is chosen behind those that were
entry_acts : (all : List EntryView) (info : Metadata) (time place : ℕ) (entry : EntryView) (chosen : List Chosen) →
    place < length all → entry ≡ get_or all place entry → IsSoFar all info time place chosen → acts (any_matches info (take place all)) info entry ≡ true →
    IsSoFar all info time (place + 1) (chosen ++ record { entry = place_number place; decision = decision_for info time entry } ∷ [])
entry_acts all info time place entry chosen inside is so_far act =
    let number : length (take place all) ≡ place = (let long = length-take place all in omega (arith, long)) in
    let step = choice_acts chosen (take place all) info time entry (drop (place + 1) all) act in
    rw (passed all place entry inside is)
    ((rw number at step) ∙ rw (left all place entry inside is) at so_far)

-- one that does not act is passed over
entry_passes : (all : List EntryView) (info : Metadata) (time place : ℕ) (entry : EntryView) (chosen : List Chosen) →
    place < length all → entry ≡ get_or all place entry → IsSoFar all info time place chosen → acts (any_matches info (take place all)) info entry ≡ false →
    IsSoFar all info time (place + 1) chosen
entry_passes all info time place entry chosen inside is so_far pass =
    let step = choice_passes (take place all) info time entry (drop (place + 1) all) pass in
    rw (passed all place entry inside is) (ap (λ (others : List Chosen). chosen ++ others) step ∙ rw (left all place entry inside is) at so_far)

-- the choice begins with nothing
pub nothing_chosen : (all : List EntryView) (info : Metadata) (time : ℕ) (chosen : List Chosen) → chosen ≡ [] → IsSoFar all info time 0 chosen
nothing_chosen all info time chosen e = rw e refl

-- and ends where no entry is left
pub all_chosen : (all : List EntryView) (info : Metadata) (time place : ℕ) (chosen : List Chosen) → length all ≤ place →
    IsSoFar all info time place chosen → chosen ≡ choose_of all info time
unfolding chosen_behind
all_chosen all info time place chosen past so_far = sym (append-nil chosen) ∙ rw (drop_all place all past) at so_far

or_false : (a : Bool) → a || false ≡ a
or_false true = refl
or_false false = refl

-- whether one of the entries up to the next place matches
any_more : (all : List EntryView) (info : Metadata) (place : ℕ) (entry : EntryView) → place < length all → entry ≡ get_or all place entry →
    any_matches info (take (place + 1) all) ≡ any_matches info (take place all) || matches info entry
any_more all info place entry inside is =
    ap (any_matches info) (passed all place entry inside is)
    ∙ list_any-append (matches info) (take place all) (entry ∷ [])
    ∙ ap (λ b. any_matches info (take place all) || b) (or_false (matches info entry))

first_false : (a b : Bool) → a || b ≡ false → a ≡ false
first_false true b e = e
first_false false b e = refl

-- what does not act does not match
passes_no_match : (matched : Bool) (info : Metadata) (entry : EntryView) → acts matched info entry ≡ false → matches info entry ≡ false
passes_no_match matched info entry e = first_false (matches info entry) _ e

and_false : (a : Bool) → a && false ≡ false
and_false true = refl
and_false false = refl

kind_of_acting : (meeting matched : Bool) (pattern : Option (List ℕ)) (ident : List ℕ) →
    (meeting && found_by pattern ident) || (is_none pattern && (meeting && not matched)) ≡ true → meeting && found_by pattern ident ≡ not (is_none pattern)
kind_of_acting meeting matched None ident e = and_false meeting
kind_of_acting meeting matched (Some pattern) ident e = sym (or_false _) ∙ e

-- what acts matches, unless it is an `_ELSE_` entry
acting_matches : (matched : Bool) (info : Metadata) (entry : EntryView) → acts matched info entry ≡ true → matches info entry ≡ not (is_none entry.pattern)
acting_matches matched info entry e = kind_of_acting (meets info entry) matched entry.pattern info.ident e

-- the decision of an entry, by what the forms in its words stand for
pub decision_is : (info : Metadata) (time : ℕ) (entry : EntryView) (groups : List (Option (List ℕ))) (inserted : CivilMoment) (seqno : ℕ) (decision : Decision) →
    groups ≡ parts_for info entry → inserted ≡ moment_of time → seqno ≡ info.seqno →
    (let meanings : Meanings = record { groups = groups; inserted = inserted; seqno = seqno } in decision ≡ decision_by entry (words_text meanings entry.words)) →
    decision ≡ decision_for info time entry
unfolding decision_for
decision_is info time entry groups inserted seqno decision g i s e = e ∙ rw (g, i, s) refl

-- a turn at an entry that acts
pub turn_acts : (all : List EntryView) (info : Metadata) (time place : ℕ) (entry : EntryView) (chosen new : List Chosen) (matched after : Bool) (number : ℕ) (decision : Decision) →
    place < length all → entry ≡ get_or all place entry →
    IsSoFar all info time place chosen → matched ≡ any_matches info (take place all) →
    acts matched info entry ≡ true → decision ≡ decision_for info time entry → number ≡ place_number place →
    new ≡ chosen ++ record { entry = number; decision = decision } ∷ [] → after ≡ (matched || not (is_none entry.pattern)) →
    IsSoFar all info time (place + 1) new × (after ≡ any_matches info (take (place + 1) all))
turn_acts all info time place entry chosen new matched after number decision inside is so_far any act decided numbered pushed or =
    let one : Chosen = record { entry = place_number place; decision = decision_for info time entry } in
    let same : new ≡ chosen ++ one ∷ [] = pushed ∙ rw (decided, numbered) refl in
    let step = entry_acts all info time place entry chosen inside is so_far (rw any at act) in (
      rw same step,
      or ∙ ap (λ b. matched || b) (sym (acting_matches matched info entry act)) ∙ rw any (sym (any_more all info place entry inside is)),
    )

-- and at one that does not
pub turn_passes : (all : List EntryView) (info : Metadata) (time place : ℕ) (entry : EntryView) (chosen : List Chosen) (matched : Bool) →
    place < length all → entry ≡ get_or all place entry →
    IsSoFar all info time place chosen → matched ≡ any_matches info (take place all) → acts matched info entry ≡ false →
    IsSoFar all info time (place + 1) chosen × (matched ≡ any_matches info (take (place + 1) all))
turn_passes all info time place entry chosen matched inside is so_far any pass =
    let none = passes_no_match matched info entry pass in (
      entry_passes all info time place entry chosen inside is so_far (rw any at pass),
      any ∙ sym (any_more all info place entry inside is ∙ ap (λ b. any_matches info (take place all) || b) none ∙ or_false _),
    )
