-- The report is the lines of its hours, one behind the other.
use Rattle.std.proofs.Common.{◌≡◌, ◌∙◌, ℕ, ◌<◌, ◌≤◌, Bool, true, false, cond, refl, sym, ap, List, [], ◌∷◌, ◌++◌, append_assoc, arith, T, Option, Some, None}
use Rattle.std.specs.Prelude.{◌==◌, ◌&&◌, not}
use Rattle.std.proofs.lemmas.Bool.{eq-eqb, eqb-true, eqb-false, ne_eqb}
use Rattle.std.proofs.lemmas.Cmp.{ranked}
use Rattle.std.specs.declared.cmp.Ordering.{Ordering}
use Rattle.std.specs.declared.cmp.Ordering.TheVariants.{Less, Equal, Greater}
use Rattle.std.specs.Ordering.{is_lt, nat_cmp, ordering_then}
use Rattle.std.specs.FinMap.Entries.{below_all, is_sorted}
use Rattle.ldm_stats.specs.Place.{Place, place_cmp}
use Rattle.ldm_stats.specs.Totals.{Product, Total, totals}
use Rattle.ldm_stats.specs.Joining.{Entries}
use Rattle.ldm_stats.specs.Report.{AreOver, AreRising, behind_hour, hours_of, is_other, in_hour, line_of, lines_by, lines_of}
use Rattle.ldm_stats.proofs.Laws.{sorted_totals}

-- ---- hours do not fall

abbrev pub AreFrom : ℕ → Entries → Type 0
AreFrom least [] = Unit {0}
AreFrom least (entry ∷ es) = (least ≤ entry.0.hour) × AreFrom least es

abbrev pub DoNotFall : Entries → Type 0
DoNotFall [] = Unit {0}
DoNotFall (entry ∷ es) = AreFrom entry.0.hour es × DoNotFall es

left : (a b : Bool) → T (a && b) → T a
left true b p = tt
left false b p = p

right : (a b : Bool) → T (a && b) → T b
right true b p = p
right false b p = absurd p

not_before : (one other : Place) (r s : Ordering) → r ≡ nat_cmp one.hour other.hour → T (is_lt (ordering_then r s)) → one.hour ≤ other.hour
not_before one other Less s e p = let lt : one.hour < other.hour = ranked one.hour other.hour Less e in omega (arith, lt)
not_before one other Equal s e p = let eq : one.hour ≡ other.hour = ranked one.hour other.hour Equal e in omega (arith, eq)
not_before one other Greater s e p = absurd p

from_below : (place : Place) (es : Entries) → T (below_all place_cmp place es) → AreFrom place.hour es
from_below place [] p = tt
from_below place (entry ∷ es) p =
    let lt = left _ _ p in
    (not_before place entry.0 (nat_cmp place.hour entry.0.hour) _ refl lt, from_below place es (right _ _ p))

do_not_fall : (es : Entries) → T (is_sorted place_cmp es) → DoNotFall es
do_not_fall [] p = tt
do_not_fall (entry ∷ es) p = (from_below entry.0 es (left _ _ p), do_not_fall es (right _ _ p))

-- ---- the hours

abbrev AreAtLeast : ℕ → List ℕ → Type 0
AreAtLeast least [] = Unit {0}
AreAtLeast least (hour ∷ hours) = (least ≤ hour) × AreAtLeast least hours

behind_least : (least hour : ℕ) (hours : List ℕ) → AreAtLeast least hours → AreAtLeast least (behind_hour hour hours)
behind_least least hour [] are = tt
behind_least least hour (next ∷ hours) are = by_test (hour == next)
  where
    by_test : (b : Bool) → AreAtLeast least (cond b hours (next ∷ hours))
    by_test true = are.1
    by_test false = are

hours_from : (least : ℕ) (es : Entries) → AreFrom least es → AreAtLeast least (hours_of es)
hours_from least [] are = tt
hours_from least (entry ∷ es) are = (are.0, behind_least least entry.0.hour (hours_of es) (hours_from least es are.1))

over_more : (least more : ℕ) (hours : List ℕ) → least ≤ more → AreOver more hours → AreOver least hours
over_more least more [] le are = tt
over_more least more (hour ∷ hours) le are = let lt = are.0 in (omega (arith, le, lt), over_more least more hours le are.1)

behind_over : (hour : ℕ) (hours : List ℕ) → AreAtLeast hour hours → AreRising hours → AreOver hour (behind_hour hour hours) × AreRising (behind_hour hour hours)
behind_over hour [] least rising = (tt, tt)
behind_over hour (next ∷ hours) least rising = by_test (hour == next) refl
  where
    by_test : (b : Bool) → (hour == next) ≡ b → AreOver hour (cond b hours (next ∷ hours)) × AreRising (cond b hours (next ∷ hours))
    by_test true is = (over_more hour next hours least.0 rising.0, rising.1)
    by_test false is =
        let le = least.0 in
        let ne = eqb-false hour next is in
        let lt : hour < next = omega (arith, le, ne) in
        ((lt, over_more hour next hours le rising.0), rising)

pub hours_rise : (es : Entries) → DoNotFall es → AreRising (hours_of es)
hours_rise [] do_not = tt
hours_rise (entry ∷ es) do_not = behind_over entry.0.hour (hours_of es) (hours_from entry.0.hour es do_not.0) (hours_rise es do_not.1)

-- ---- the lines

none_in : (hour least : ℕ) (es : Entries) → hour < least → AreFrom least es → in_hour hour es ≡ []
none_in hour least [] lt are = refl
none_in hour least (entry ∷ es) lt are =
    let le = are.0 in
    let ne : entry.0.hour ≡ hour → ⊥ = λ e. absurd (omega (arith, lt, le, e)) in
    ap (λ b. cond b (entry ∷ in_hour hour es) (in_hour hour es)) (ne_eqb entry.0.hour hour ne) ∙ none_in hour least es lt are.1

passes_over : (hours : List ℕ) (entry : Place × Total) (es : Entries) → AreOver entry.0.hour hours → lines_by hours (entry ∷ es) ≡ lines_by hours es
passes_over [] entry es are = refl
passes_over (hour ∷ hours) entry es are =
    let lt = are.0 in
    let ne : entry.0.hour ≡ hour → ⊥ = λ e. absurd (omega (arith, lt, e)) in
    ap (λ b. lines_of (cond b (entry ∷ in_hour hour es) (in_hour hour es)) ++ lines_by hours (entry ∷ es)) (ne_eqb entry.0.hour hour ne)
    ∙ ap (λ (l : List ℕ). lines_of (in_hour hour es) ++ l) (passes_over hours entry es are.1)

-- the lines of the first hour, and then those of the others
first_apart : (hour : ℕ) (es : Entries) → AreFrom hour es → DoNotFall es → lines_by (hours_of es) es ≡ lines_of (in_hour hour es) ++ lines_by (behind_hour hour (hours_of es)) es
first_apart hour [] are do_not = refl
first_apart hour (entry ∷ es) are do_not = by_test (hour == entry.0.hour) refl
  where
    all : Entries
    all = entry ∷ es

    later : List ℕ
    later = behind_hour entry.0.hour (hours_of es)

    by_test : (b : Bool) → (hour == entry.0.hour) ≡ b → lines_by (hours_of all) all ≡ lines_of (in_hour hour all) ++ lines_by (cond b later (entry.0.hour ∷ later)) all
    by_test true is = ap (λ (h : ℕ). lines_of (in_hour h all) ++ lines_by later all) (sym (eqb-true hour entry.0.hour is))
    by_test false is =
        let le = are.0 in
        let ne = eqb-false hour entry.0.hour is in
        let lt : hour < entry.0.hour = omega (arith, le, ne) in
        let first : entry.0.hour ≤ entry.0.hour = omega arith in
        ap (λ (es : Entries). lines_of es ++ lines_by (hours_of all) all) (sym (none_in hour entry.0.hour all lt (first, do_not.0)))

one_hour : (entry : Place × Total) (es : Entries) → lines_of (in_hour entry.0.hour (entry ∷ es)) ≡ line_of entry ++ lines_of (in_hour entry.0.hour es)
one_hour entry es =
    ap (λ b. lines_of (cond b (entry ∷ in_hour entry.0.hour es) (in_hour entry.0.hour es))) (eq-eqb entry.0.hour entry.0.hour refl)

pub hour_by_hour : (es : Entries) → DoNotFall es → lines_of es ≡ lines_by (hours_of es) es
hour_by_hour [] do_not = refl
hour_by_hour (entry ∷ es) do_not =
    let hour = entry.0.hour in
    let later = behind_hour hour (hours_of es) in
    let over = (hours_rise (entry ∷ es) do_not).0 in
    ap (λ (l : List ℕ). line_of entry ++ l) (hour_by_hour es do_not.1 ∙ first_apart hour es do_not.0 do_not.1)
    ∙ (sym (append_assoc (line_of entry) (lines_of (in_hour hour es)) (lines_by later es))
    ∙ (ap (λ (l : List ℕ). l ++ lines_by later es) (sym (one_hour entry es))
    ∙ ap (λ (l : List ℕ). lines_of (in_hour hour (entry ∷ es)) ++ l) (sym (passes_over later entry es over))))

pub report_joined : (window : ℕ) (products : List Product) → lines_of (totals window products) ≡ lines_by (hours_of (totals window products)) (totals window products)
report_joined window products = hour_by_hour (totals window products) (do_not_fall (totals window products) (sorted_totals window products))

pub report_rising : (window : ℕ) (products : List Product) → AreRising (hours_of (totals window products))
report_rising window products = hours_rise (totals window products) (do_not_fall (totals window products) (sorted_totals window products))

-- ---- the hours, as they are listed from the front

abbrev pub hours_from_last : Option ℕ → Entries → List ℕ
hours_from_last last [] = []
hours_from_last last (entry ∷ es) = cond (is_other last entry.0.hour) (entry.0.hour ∷ hours_from_last (Some entry.0.hour) es) (hours_from_last last es)

list_by : (b : Bool) (hour next : ℕ) (es : Entries) → (hour == next) ≡ b → hours_from_last (Some hour) es ≡ behind_hour hour (hours_of es)
    → hours_from_last (Some next) es ≡ behind_hour next (hours_of es)
    → cond (not b) (next ∷ hours_from_last (Some next) es) (hours_from_last (Some hour) es) ≡ cond b (behind_hour next (hours_of es)) (next ∷ behind_hour next (hours_of es))
list_by true hour next es is one two = one ∙ ap (λ (h : ℕ). behind_hour h (hours_of es)) (eqb-true hour next is)
list_by false hour next es is one two = ap (λ (hs : List ℕ). next ∷ hs) two

listed_behind : (hour : ℕ) (es : Entries) → hours_from_last (Some hour) es ≡ behind_hour hour (hours_of es)
listed_behind hour [] = refl
listed_behind hour (entry ∷ es) = list_by (hour == entry.0.hour) hour entry.0.hour es refl (listed_behind hour es) (listed_behind entry.0.hour es)

pub listed : (es : Entries) → hours_from_last None es ≡ hours_of es
listed [] = refl
listed (entry ∷ es) = ap (λ (hs : List ℕ). entry.0.hour ∷ hs) (listed_behind entry.0.hour es)

-- an hour more is listed
pub list_more : (last : Option ℕ) (entry : Place × Total) (rest es : Entries) (now after all : List ℕ) (x y : ℕ) → es ≡ entry ∷ rest → is_other last entry.0.hour ≡ true
    → x ≡ entry.0.hour → y ≡ entry.0.hour → after ≡ now ++ x ∷ [] → now ++ hours_from_last last es ≡ all → after ++ hours_from_last (Some y) rest ≡ all
list_more last entry rest es now after all x y split other one two added goes =
    ap (λ (l : List ℕ). l ++ hours_from_last (Some y) rest) added
    ∙ (append_assoc now (x ∷ []) (hours_from_last (Some y) rest)
    ∙ (ap (λ (n : ℕ). now ++ (n ∷ hours_from_last (Some y) rest)) one
    ∙ (ap (λ (n : ℕ). now ++ (entry.0.hour ∷ hours_from_last (Some n) rest)) two
    ∙ (ap (λ b. now ++ cond b (entry.0.hour ∷ hours_from_last (Some entry.0.hour) rest) (hours_from_last last rest)) (sym other)
    ∙ (ap (λ (l : Entries). now ++ hours_from_last last l) (sym split) ∙ goes)))))
