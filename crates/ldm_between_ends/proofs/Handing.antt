-- What a feeding hands to who asked: the due ones of the products that its cursor was given.
use Rattle.std.proofs.Common.{◌≡◌, ◌∙◌, ℕ, Bool, true, false, cond, List, [], ◌∷◌, ◌++◌, filter, take, drop, All, refl, sym, ap}
use Rattle.std.specs.List.{flat_map, AllByRecursion}
use Rattle.std.proofs.lemmas.Bool.{false≢true}
use Rattle.std.proofs.lemmas.List.{map-append, take-append-drop}
use Rattle.std.proofs.lemmas.List.Elements.{All-head, All-tail, filter-append}
use mathlib.Core.List.{IsPrefix}
use Rattle.ldm_shared.specs.Staying.{HasRow}
use Rattle.ldm_model.specs.Law.{given}
use Rattle.ldm_sender.specs.declared.standing.Standing.{Standing}
use Rattle.ldm_sender.specs.Asked.{Asked}
use Rattle.ldm_sender.specs.Due.{is_due}
use Rattle.ldm_upstream.specs.Turn.{Given, Handling, Turn, Lost, Gave, Quiet, Alive, after_turn, IsHandled}
use Rattle.ldm_upstream.specs.Turn as turn
use Rattle.ldm_upstream.specs.Turns.{IsTurn, AreTurns, given_in, given_in_turns}
use Rattle.ldm_upstream.specs.Feeding.{Last, GoesOn, Stopped, Unanswered, Feeding, IsFeeding, IsLast, begun, last_given, given_of}
use Rattle.ldm_between_ends.specs.Handed.{Handed, handed, handed_by, handed_in, handed_last}
use Rattle.ldm_between_ends.specs.Session.{Session, IsSession}
use Rattle.ldm_between_ends.specs.Offered.{numbers_of, queue_of, is_due_row, is_due_number, due, offered, count_settled}
use Rattle.ldm_between_ends.proofs.Calls.{numbers, given-numbers}

module _ (asked : Asked) where
  abbrev is_due_given : Given → Bool
  is_due_given given = is_due asked given.time given.product.info

  abbrev due_numbers : List Given → List ℕ
  due_numbers givens = numbers (filter is_due_given givens)

  due_numbers-append : (xs ys : List Given) → due_numbers (xs ++ ys) ≡ due_numbers xs ++ due_numbers ys
  due_numbers-append xs ys = ap numbers (filter-append is_due_given xs ys)
      ∙ map-append (λ (given : Given). given.n) (filter is_due_given xs) (filter is_due_given ys)

  due-one : (given : Given) → is_due_given given ≡ true → given.n ∷ [] ≡ due_numbers (given ∷ [])
  due-one given is = ap (λ (b : Bool). numbers (cond b (given ∷ []) [])) (sym is)

  handed-one : (given : Given) (handling : Handling) → IsHandled asked given handling → numbers_of (handed_by given handling) ≡ due_numbers (given ∷ [])
  handed-one given turn.Passed not_due = ap (λ (b : Bool). numbers (cond b (given ∷ []) [])) (sym not_due)
  handed-one given (turn.Whole at) h = due-one given h.0
  handed-one given (turn.Declined at) h = due-one given h.0
  handed-one given (turn.InBlocks at blocks_at) h = due-one given h.0

  handed-turn : (standing : Standing) (t : Turn) → IsTurn asked standing t → numbers_of (handed_in t) ≡ due_numbers (given_in t)
  handed-turn standing (Lost count first last) is = refl
  handed-turn standing (Gave given handling) is = handed-one given handling is
  handed-turn standing (Quiet end now) is = refl
  handed-turn standing (Alive end now at) is = refl

  handed-turns : (standing : Standing) (turns : List Turn) → AreTurns asked standing turns → numbers_of (flat_map handed_in turns) ≡ due_numbers (given_in_turns turns)
  handed-turns standing [] are = refl
  handed-turns standing (t ∷ turns) are =
      map-append (λ (product : Handed). product.given.n) (handed_in t) (flat_map handed_in turns)
      ∙ (λ i. handed-turn standing t are.0 i ++ handed-turns (after_turn standing t) turns are.1 i)
      ∙ sym (due_numbers-append (given_in t) (given_in_turns turns))

  handed-last : (last : Last) → IsLast asked last → numbers_of (handed_last last) ≡ due_numbers (last_given last)
  handed-last GoesOn is = refl
  handed-last (Stopped end) is = refl
  handed-last (Unanswered given at) is = due-one given is.0

  pub handed-numbers : (feeding : Feeding) → IsFeeding asked feeding → numbers_of (handed feeding) ≡ due_numbers (given_of feeding)
  handed-numbers feeding is =
      map-append (λ (product : Handed). product.given.n) (flat_map handed_in feeding.turns) (handed_last feeding.last)
      ∙ (λ i. handed-turns (begun feeding) feeding.turns is.turns i ++ handed-last feeding.last is.last i)
      ∙ sym (due_numbers-append (given_in_turns feeding.turns) (last_given feeding.last))

-- what is true of each product that was given, is true of each that is handed on
pub handed-all : (P : Given → Type 0) (turns : List Turn) (last : Last) → AllByRecursion P (given_in_turns turns ++ last_given last)
    → AllByRecursion (λ (product : Handed). P product.given) (flat_map handed_in turns ++ handed_last last)
handed-all P [] GoesOn all = tt
handed-all P [] (Stopped end) all = tt
handed-all P [] (Unanswered given at) all = (all.0, tt)
handed-all P (Lost count first final ∷ turns) last all = handed-all P turns last all
handed-all P (Quiet end now ∷ turns) last all = handed-all P turns last all
handed-all P (Alive end now at ∷ turns) last all = handed-all P turns last all
handed-all P (Gave given turn.Passed ∷ turns) last all = handed-all P turns last all.1
handed-all P (Gave given (turn.Whole at) ∷ turns) last all = (all.0, handed-all P turns last all.1)
handed-all P (Gave given (turn.Declined at) ∷ turns) last all = (all.0, handed-all P turns last all.1)
handed-all P (Gave given (turn.InBlocks at blocks_at) ∷ turns) last all = (all.0, handed-all P turns last all.1)

-- ---- of a session

one-more : (given : Given) (ns : List ℕ) (givens : List Given) (b c : Bool) → b ≡ c → ns ≡ numbers givens → cond b (given.n ∷ ns) ns ≡ numbers (cond c (given ∷ givens) givens)
one-more given ns givens true true e same = ap (λ (ms : List ℕ). given.n ∷ ms) same
one-more given ns givens true false e same = absurd (false≢true (sym e))
one-more given ns givens false true e same = absurd (false≢true e)
one-more given ns givens false false e same = same

-- a product is due where the row of its number is
rows-due : (s : Session) (givens : List Given) → All (λ (given : Given). HasRow given.n given.product given.time (queue_of s)) givens
    → filter (is_due_number s) (numbers givens) ≡ due_numbers s.passing.asked givens
rows-due s [] rows = refl
rows-due s (given ∷ givens) rows =
    let row = All-head (λ (g : Given). HasRow g.n g.product g.time (queue_of s)) given givens rows in
    let test = is_due_given s.passing.asked in
    one-more given (filter (is_due_number s) (numbers givens)) (filter test givens) (is_due_number s given.n) (test given)
    (ap (is_due_row s.passing.asked) row.1) (rows-due s givens (All-tail (λ (g : Given). HasRow g.n g.product g.time (queue_of s)) given givens rows))

pub due-handed : (s : Session) → IsSession s → due s ≡ numbers_of (handed s.passing.feeding)
due-handed s is =
    ap (filter (is_due_number s)) (given-numbers s.life s.passing.feeding is.has_life.unmade is.has_life.called is.has_life.none_given)
    ∙ rows-due s (given_of s.passing.feeding) is.rows
    ∙ sym (handed-numbers s.passing.asked s.passing.feeding is.passing.granted.is)

pub offered-first : (s : Session) → IsSession s → IsPrefix (offered s) (due s)
offered-first s is =
    let all = handed s.passing.feeding in
    let n = count_settled s.passing.made in (
      numbers_of (drop n all),
      sym (map-append (λ (product : Handed). product.given.n) (take n all) (drop n all)) ∙ ap numbers_of (take-append-drop n all) ∙ sym (due-handed s is),
    )
