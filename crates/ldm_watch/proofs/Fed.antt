-- Bytes that a link gave behind others.
use Rattle.std.proofs.Common.{◌≡◌, ℕ, ◌+◌, ◌-◌, ◌≤◌, ◌<◌, leb, min, Bool, true, false, List, [], ◌∷◌, ◌++◌, length, take, Option, Some, None, refl, ap, sym, subst, ◌∙◌, arith}
use Rattle.std.proofs.lemmas.Bool.Decides.{nat_tests}
use Rattle.std.proofs.lemmas.List.{length-take, take_all}
use Rattle.std.proofs.Math.Seq.{take-append-add}
use Rattle.ldm_rpc.specs.Reading.{after_byte, is_faulty}
use Rattle.ldm_rpc.specs.Streams.{Position, Placed, forgets, records_in, in_hand}
use Rattle.ldm_rpc.proofs.Joined.{records-append, in_hand-append}
use Rattle.ldm_watch.specs.declared.end.WatchEnd.{WatchEnd}
use Rattle.ldm_watch.specs.declared.end.WatchEnd.TheVariants.{BadFrame, StreamLimit}
use Rattle.ldm_session.specs.declared.limits.TheConstants.{LONGEST_STREAM}
use Rattle.ldm_watch.specs.Sought.{Sought}
use Rattle.ldm_watch.specs.Told.{beginning, end_behind, end_by_bytes, hand, told, with_hand, within}
use Rattle.ldm_watch.specs.Watched.{Watched, opening, watched}
use Rattle.ldm_watch.proofs.Taken.{watched-append, watched-form, watched-none}

pub came-behind : (p : Position) (bytes : List ℕ) → (in_hand p bytes).came ≡ p.came + length bytes
unfolding in_hand
came-behind p [] = omega arith
came-behind p (byte ∷ bytes) =
    let rest = came-behind (forgets p.begins (p.came + 1) (after_byte p.reading byte)) bytes in
    omega (arith, rest)

-- what is in hand does not end it
pub record GoesOn (p : Position) : Type 0 where
  pub sound : is_faulty p.reading ≡ false
  pub below : p.came < LONGEST_STREAM

goes-by : (p : Position) (faulty full : Bool) → is_faulty p.reading ≡ faulty → leb LONGEST_STREAM p.came ≡ full → end_by_bytes p ≡ None → GoesOn p
goes-by p true full faulty_is full_is none = absurd (let same : Some (BadFrame p.begins) ≡ None = sym (rw faulty_is refl) ∙ none in cc same)
goes-by p false true faulty_is full_is none = absurd (let same : Some StreamLimit ≡ None = sym (rw (faulty_is, full_is) refl) ∙ none in cc same)
goes-by p false false faulty_is full_is none = record { sound = faulty_is; below = grind (arith, nat_tests) }

pub goes-on : (p : Position) → end_by_bytes p ≡ None → GoesOn p
goes-on p none = goes-by p (is_faulty p.reading) (leb LONGEST_STREAM p.came) refl refl none

pub none-behind : (p : Position) (by : Option WatchEnd) → end_behind p by ≡ None → (by ≡ None) × (end_by_bytes p ≡ None)
none-behind p None is = (refl, is)
none-behind p (Some end) is = absurd (cc is)

-- what the whole records of these bytes come to
abbrev pub taken_of : Sought → List ℕ → Watched
taken_of sought given = watched (opening sought) (records_in beginning (within beginning given))

-- lines are written as they were asked for
pub form-of : (sought : Sought) (given : List ℕ) → (taken_of sought given).watching.form ≡ sought.form
form-of sought given = watched-form (opening sought) (records_in beginning (within beginning given))

-- nothing came
pub told-none : (sought : Sought) → told sought [] ≡ opening sought
unfolding records_in in_hand
told-none sought =
    let none : within beginning [] ≡ [] = take_all (LONGEST_STREAM - beginning.came) [] (omega arith) in
    ap (λ (bytes : List ℕ). with_hand (in_hand beginning bytes) (watched (opening sought) (records_in beginning bytes))) none
    ∙ ap (with_hand beginning) (watched-none (opening sought))

pub hand-none : hand [] ≡ beginning
unfolding in_hand
hand-none =
    let none : within beginning [] ≡ [] = take_all (LONGEST_STREAM - beginning.came) [] (omega arith) in
    ap (in_hand beginning) none

-- Bytes that come where those before them did not end it.
module _ (given : List ℕ) (goes : end_by_bytes (hand given) ≡ None) where
  few : length given < LONGEST_STREAM
  few =
      let came = came-behind beginning (within beginning given) in
      let len = length-take LONGEST_STREAM given in
      let below = (goes-on (hand given) goes).below in
      grind (arith, came, len, below)

  pub all-given : within beginning given ≡ given
  all-given = take_all LONGEST_STREAM given (omega (arith, few))

  pub came-given : (hand given).came ≡ length given
  came-given = came-behind beginning (within beginning given) ∙ ap (λ (bytes : List ℕ). 0 + length bytes) all-given ∙ omega arith

  module _ (piece : List ℕ) where
    within-more : within beginning (given ++ piece) ≡ within beginning given ++ within (hand given) piece
    within-more =
        let n = LONGEST_STREAM - length given in
        let room : LONGEST_STREAM ≡ length given + n = omega (arith, few) in
        ap (λ (k : ℕ). take k (given ++ piece)) room ∙ take-append-add given piece n
        ∙ ap (λ (k : ℕ). given ++ take (LONGEST_STREAM - k) piece) (sym came-given)
        ∙ ap (λ (bytes : List ℕ). bytes ++ within (hand given) piece) (sym all-given)

    pub hand-more : hand (given ++ piece) ≡ in_hand (hand given) (within (hand given) piece)
    hand-more = ap (in_hand beginning) within-more ∙ in_hand-append beginning (within beginning given) (within (hand given) piece)

    pub taken-more : (sought : Sought)
        → taken_of sought (given ++ piece) ≡ watched (taken_of sought given) (records_in (hand given) (within (hand given) piece))
    taken-more sought =
        ap (λ (bytes : List ℕ). watched (opening sought) (records_in beginning bytes)) within-more
        ∙ ap (watched (opening sought)) (records-append beginning (within beginning given) (within (hand given) piece))
        ∙ watched-append (opening sought) (records_in beginning (within beginning given)) (records_in (hand given) (within (hand given) piece))
