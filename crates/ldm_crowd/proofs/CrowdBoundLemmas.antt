-- A crowd makes no more calls than each of its workers has lines, and that is far less than a queue can have.
use Rattle.std.proofs.Common.{◌≡◌, ℕ, ◌+◌, ◌*◌, ◌<◌, ◌≤◌, ◌==◌, Bool, true, false, cond, List, [], ◌∷◌, length, map, filter, get_or, take, Option, Some, None, Result, Ok, Err, zero, suc, refl, ap, subst, arith, length-append, length-take, eq-eqb}
use Rattle.std.specs.List.{range_with_len}
use Rattle.std.proofs.lemmas.List.{length-map}
use Rattle.std.proofs.lemmas.List.Sums.{count_by-le-length, length-filter}
use mathlib.Core.Logic.{dite}
use native.Mathlib.Decide.{ℕ_discrete}
use Rattle.ldm_model.specs.declared.event.Event.{Event}
use Rattle.ldm_model.specs.declared.event.Reply.{Reply}
use Rattle.ldm_model.specs.declared.event.Entry.{Entry}
use Rattle.ldm_script.specs.Grammar.{read_line}
use Rattle.ldm_script.specs.Lines.{Cut, cut, last_line, lines_of, onto_line, whole_lines}
use Rattle.ldm_script.specs.Order.{Order, Asked}
use Rattle.ldm_script.specs.declared.order.LastPlaces.{LastPlaces}
use Rattle.ldm_script.specs.Resolve.{no_places, resolved, unresolved}
use Rattle.ldm_shared.specs.Own.{own, AreBelow}
use Rattle.ldm_shared.specs.Limits.{IsGoodPasses}
use Rattle.ldm_shared.specs.declared.steps.TheConstants.{MOST_TURNS}
use Rattle.ldm_crowd.specs.declared.orders.OrdersFault.{OrdersFault}
use Rattle.ldm_status.specs.declared.whole_script.TheConstants.{LONGEST_SCRIPT}
use Rattle.ldm_crowd.specs.Script.{asked_by, by_actor, dealt, orders_from, script_of, with_line}
use Rattle.ldm_crowd.specs.Lines.{AreEntriesOf, told, told_of}
use Rattle.ldm_crowd.specs.Interleaving.{IsBegun, IsFront, lines_of_actor}

-- ---- a script has no more lines than bytes

abbrev lines_in : Cut → ℕ
lines_in c = length c.lines + length (last_line c.unfinished)

onto : (byte : ℕ) (lines : List (List ℕ)) (unfinished : List ℕ)
    → lines_in (onto_line byte lines unfinished) ≤ (length lines + length (last_line unfinished)) + 1
onto byte [] unfinished = omega arith
onto byte (line ∷ lines) unfinished = omega arith

one_byte : (newline : Bool) (byte : ℕ) (c : Cut)
    → lines_in (cond newline (record { lines = [] ∷ c.lines; unfinished = c.unfinished }) (onto_line byte c.lines c.unfinished)) ≤ lines_in c + 1
one_byte true byte c = omega arith
one_byte false byte c = onto byte c.lines c.unfinished

cut_few : (text : List ℕ) → lines_in (cut text) ≤ length text
cut_few [] = omega arith
cut_few (byte ∷ bytes) = omega (arith, one_byte (byte == 10) byte (cut bytes), cut_few bytes)

few_lines : (text : List ℕ) → length (lines_of text) ≤ length text
few_lines text = omega (arith, length-append (whole_lines text) (last_line (cut text).unfinished), cut_few text)

-- ---- nor more orders than lines

with_line_few : (number : ℕ) (r : Result (Option Order) ℕ) (behind : Result (List Order) OrdersFault) (orders : List Order) (n : ℕ)
    → ((more : List Order) → behind ≡ Ok more → length more ≤ n) → with_line number r behind ≡ Ok orders → length orders ≤ n + 1
with_line_few number (Err column) behind orders n few is = absurd (cc is)
with_line_few number (Ok None) behind orders n few is = omega (arith, few orders is)
with_line_few number (Ok (Some order)) (Ok more) orders n few is =
    let same : order ∷ more ≡ orders = cc is in
    omega (arith, few more refl, ap length same)
with_line_few number (Ok (Some order)) (Err fault) orders n few is = absurd (cc is)

few_orders : (actors number : ℕ) (lines : List (List ℕ)) (orders : List Order) → orders_from actors number lines ≡ Ok orders
    → length orders ≤ length lines
few_orders actors number [] orders is =
    let same : [] ≡ orders = cc is in
    omega (arith, ap length same)
few_orders actors number (line ∷ lines) orders is =
    let few = with_line_few number (read_line actors line) (orders_from actors (number + 1) lines) orders (length lines)
    (few_orders actors (number + 1) lines) is in
    omega (arith, few)

few_asked : (actor : ℕ) (orders : List Order) → length (asked_by actor orders) ≤ length orders
few_asked actor orders =
    let mine = filter (λ (order : Order). order.actor == actor) orders in
    omega (
      arith,
      length-map mine (λ (order : Order). order.asked),
      length-filter (λ (order : Order). order.actor == actor) orders,
      count_by-le-length (λ (order : Order). order.actor == actor) orders,
    )

few_at : (f : ℕ → List Asked) (most : ℕ) → ((actor : ℕ) → length (f actor) ≤ most) → (actors : List ℕ) (i : ℕ)
    → length (get_or (map f actors) i []) ≤ most
few_at f most few [] i = omega arith
few_at f most few (actor ∷ actors) zero = few actor
few_at f most few (actor ∷ actors) (suc i) = few_at f most few actors i

dealt_few : (actors : ℕ) (read : Result (List Order) OrdersFault) (script : List (List Asked)) (most : ℕ)
    → ((orders : List Order) → read ≡ Ok orders → length orders ≤ most) → dealt actors read ≡ Ok script
    → (actor : ℕ) → length (lines_of_actor script actor) ≤ most
dealt_few actors (Err fault) script most few is actor = absurd (cc is)
dealt_few actors (Ok orders) script most few is actor =
    let same : by_actor actors orders ≡ script = cc is in
    subst (λ (s : List (List Asked)). length (get_or s actor []) ≤ most) same
    (few_at (λ a. asked_by a orders) most (λ a. omega (arith, few_asked a orders, few orders refl)) (range_with_len 0 actors) actor)

-- an actor has no more lines than a script has bytes
few_of_actor : (actors : ℕ) (text : List ℕ) (script : List (List Asked)) → script_of actors text ≡ Ok script
    → (actor : ℕ) → length (lines_of_actor script actor) ≤ length text
few_of_actor actors text script is =
    dealt_few actors (orders_from actors 1 (lines_of text)) script (length text)
    (λ orders read. omega (arith, few_orders actors 1 (lines_of text) orders read, few_lines text)) is

-- ---- nor more entries than lines

one_told : (last : LastPlaces) (without : Reply) (event : Option Event) (entries : List Entry)
    → length entries ≤ length (told_of last without event entries).left + 1
one_told last without None entries = omega arith
one_told last without (Some event) [] = omega arith
one_told last without (Some event) (entry ∷ entries) = omega arith

few_entries : (last : LastPlaces) (lines : List Asked) (entries : List Entry) → AreEntriesOf last lines entries → length entries ≤ length lines
few_entries last [] entries none = omega (arith, ap length none)
few_entries last (asked ∷ lines) entries made =
    let told_here = told last asked entries in
    omega (arith, one_told last (unresolved asked) (resolved last asked) entries, few_entries told_here.last lines told_here.left made.1)

front_few : (lines : List Asked) (entries : List Entry) → IsFront lines entries → length entries ≤ length lines
front_few lines entries front =
    omega (arith, few_entries no_places (take front.count lines) entries front.made, length-take front.count lines)

-- ---- the entries of all actors are the whole history

-- how many entries the first actors have
abbrev of_first : ℕ → List Entry → ℕ
of_first zero history = 0
of_first (suc actors) history = of_first actors history + length (own actors history)

one_more : (b : Bool) (entry : Entry) (entries : List Entry) → length entries ≤ length (cond b (entry ∷ entries) entries)
one_more true entry entries = omega arith
one_more false entry entries = omega arith

one_here : (b : Bool) (entry : Entry) (entries : List Entry) → b ≡ true → length entries + 1 ≤ length (cond b (entry ∷ entries) entries)
one_here true entry entries is = omega arith
one_here false entry entries is = absurd (cc is)

first_more : (actors : ℕ) (entry : Entry) (history : List Entry) → of_first actors history ≤ of_first actors (entry ∷ history)
first_more zero entry history = omega arith
first_more (suc actors) entry history =
    omega (arith, first_more actors entry history, one_more (entry.actor == actors) entry (own actors history))

first_here : (actors : ℕ) (entry : Entry) (history : List Entry) → entry.actor < actors
    → of_first actors history + 1 ≤ of_first actors (entry ∷ history)
first_here zero entry history less = absurd (omega (arith, less))
first_here (suc actors) entry history less =
    dite (ℕ_discrete entry.actor actors)
    (λ same. omega (arith, first_more actors entry history, one_here (entry.actor == actors) entry (own actors history) (eq-eqb entry.actor actors same)))
    (λ other. omega (arith, first_here actors entry history (omega (arith, less, other)), one_more (entry.actor == actors) entry (own actors history)))

all_of_first : (actors : ℕ) (history : List Entry) → AreBelow actors history → length history ≤ of_first actors history
all_of_first actors [] below = omega arith
all_of_first actors (entry ∷ history) below =
    omega (arith, first_here actors entry history below.0, all_of_first actors history below.1)

first_few : (actors : ℕ) (history : List Entry) → ((actor : ℕ) → actor < actors → length (own actor history) ≤ LONGEST_SCRIPT)
    → of_first actors history ≤ actors * LONGEST_SCRIPT
first_few zero history few = omega arith
first_few (suc actors) history few =
    omega (arith, first_few actors history (λ actor less. few actor (omega (arith, less))), few actors (omega arith))

-- The calls that the workers of a crowd have made are not all that a queue can have.
pub never_all : (workers : ℕ) (text : List ℕ) (script : List (List Asked)) (history : List Entry)
    → IsGoodPasses workers → length text ≤ LONGEST_SCRIPT → script_of workers text ≡ Ok script → length script ≡ workers
    → IsBegun script history → length history < MOST_TURNS
never_all workers text script history good short read count begun =
    let few = first_few (length script) history (λ actor less.
    omega (arith, front_few (lines_of_actor script actor) (own actor history) (begun.each actor less), few_of_actor workers text script read actor, short)) in
    omega (arith, all_of_first (length script) history begun.below, few, count, good.most)
