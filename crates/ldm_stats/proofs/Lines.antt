-- Lines that are written one after another.
use Rattle.std.proofs.Common.{◌≡◌, ℕ, ◌==◌, Bool, true, false, cond, List, [], ◌∷◌, ◌++◌, take, length, refl, sym, ap, ◌∙◌, append_assoc, append-nil, Some, None}
use Rattle.std.specs.Prelude.{Option, MatchOption, Result, Ok, Err, OnOk, OnErr}
use Rattle.std.proofs.lemmas.List.Elements.{filter-append}
use Rattle.ldm_stats.specs.Place.{Place}
use Rattle.ldm_stats.specs.Totals.{Product, Total}
use Rattle.ldm_stats.specs.Joining.{Entries}
use Rattle.ldm_stats.specs.Report.{asked_of, line_of, lines_of, AppendsFront}

pub lines-append : (one other : Entries) → lines_of (one ++ other) ≡ lines_of one ++ lines_of other
lines-append [] other = refl
lines-append (entry ∷ one) other =
    ap (λ (l : List ℕ). line_of entry ++ l) (lines-append one other) ∙ sym (append_assoc (line_of entry) (lines_of one) (lines_of other))

asked-append : (hour : Option ℕ) (one other : Entries) → asked_of hour (one ++ other) ≡ asked_of hour one ++ asked_of hour other
asked-append None one other = refl
asked-append (Some hour) one other = filter-append (λ (e : Place × Total). e.0.hour == hour) one other

-- the lines that are asked for, of entries one behind the other
pub asked_lines : (hour : Option ℕ) (one other : Entries) →
    lines_of (asked_of hour (one ++ other)) ≡ lines_of (asked_of hour one) ++ lines_of (asked_of hour other)
asked_lines hour one other = ap lines_of (asked-append hour one other) ∙ lines-append (asked_of hour one) (asked_of hour other)

one_by : (b : Bool) (entry : Place × Total) → lines_of (cond b (entry ∷ []) []) ≡ cond b (line_of entry) []
one_by true entry = append-nil (line_of entry)
one_by false entry = refl

asked_one : (hour : Option ℕ) (entry : Place × Total) (b : Bool) → MatchOption hour (b ≡ true) (λ h. b ≡ (entry.0.hour == h)) →
    lines_of (asked_of hour (entry ∷ [])) ≡ cond b (line_of entry) []
asked_one None entry b h = one_by true entry ∙ ap (λ c. cond c (line_of entry) []) (sym h)
asked_one (Some hour) entry b h = one_by (entry.0.hour == hour) entry ∙ ap (λ c. cond c (line_of entry) []) (sym h)

-- what the next entry adds
pub next_line : (hour : Option ℕ) (done : Entries) (entry : Place × Total) (b : Bool) (before now after : List ℕ) →
    MatchOption hour (b ≡ true) (λ h. b ≡ (entry.0.hour == h)) → now ≡ before ++ lines_of (asked_of hour done) →
    after ≡ now ++ cond b (line_of entry) [] → after ≡ before ++ lines_of (asked_of hour (done ++ entry ∷ []))
next_line hour done entry b before now after h e f =
    f ∙ ap (λ (l : List ℕ). l ++ cond b (line_of entry) []) e
    ∙ append_assoc before (lines_of (asked_of hour done)) (cond b (line_of entry) [])
    ∙ ap (λ (l : List ℕ). before ++ (lines_of (asked_of hour done) ++ l)) (sym (asked_one hour entry b h))
    ∙ ap (λ (l : List ℕ). before ++ l) (sym (asked_lines hour done (entry ∷ [])))

front_of : (one other : List ℕ) → one ≡ take (length one) (one ++ other)
front_of [] other = refl
front_of (x ∷ one) other = ap (λ (l : List ℕ). x ∷ l) (front_of one other)

-- some first lines are some first bytes of all
pub first_lines : (hour : Option ℕ) (all done rest : Entries) (before now : List ℕ) → done ++ rest ≡ all →
    now ≡ before ++ lines_of (asked_of hour done) → AppendsFront (lines_of (asked_of hour all)) before now
first_lines hour all done rest before now e f =
    let text = lines_of (asked_of hour done) in
    let whole : text ++ lines_of (asked_of hour rest) ≡ lines_of (asked_of hour all) = sym (asked_lines hour done rest) ∙ ap (λ (l : Entries). lines_of (asked_of hour l)) e in
    (length text, f ∙ ap (λ (l : List ℕ). before ++ l) (front_of text (lines_of (asked_of hour rest)) ∙ ap (λ (l : List ℕ). take (length text) l) whole))

-- the next entry comes behind those that are done
pub done_more : (all done rest later : Entries) (entry : Place × Total) → done ++ rest ≡ all → rest ≡ entry ∷ later →
    (done ++ entry ∷ []) ++ later ≡ all
done_more all done rest later entry h e = append_assoc done (entry ∷ []) later ∙ ap (λ (l : Entries). done ++ l) (sym e) ∙ h

pub on_err : {T E : Type 0} (r : Result T E) (P : Type 0) → P → OnErr r P
on_err (Ok x) P h = tt
on_err (Err e) P h = h

-- where a call wrote the lines of entries, and these are those of products
pub written_for : {T E : Type 0} (r : Result T E) (before after : List ℕ) (one : Entries) (all : List Product → Entries) (Stands : List Product → Type 0) →
    OnOk r (after ≡ before ++ lines_of one) → ((products : List Product) → Stands products → lines_of one ≡ lines_of (all products)) →
    OnOk r ((products : List Product) → Stands products → after ≡ before ++ lines_of (all products))
written_for (Ok x) before after one all Stands h same = λ products s. h ∙ ap (λ (l : List ℕ). before ++ l) (same products s)
written_for (Err e) before after one all Stands h same = tt
