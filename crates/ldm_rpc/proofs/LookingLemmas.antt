-- What becomes of a stream of records where a push looked at what waits.
use Rattle.std.proofs.Common.{◌≡◌, ◌∙◌, ℕ, ◌+◌, ◌≤◌, Bool, true, false, cond, List, [], ◌∷◌, length, take, drop, Some, None, refl, sym, ap, arith}
use Rattle.std.proofs.lemmas.List.{drop_all, length-take-le, take-append-drop}
use Rattle.ldm_rpc.specs.declared.stage.Stage.{Stage}
use Rattle.ldm_rpc.specs.declared.stage.Stage.TheVariants.{Header, Fragment, Whole, Faulty}
use Rattle.ldm_rpc.specs.Reading.{Reading, after, after_byte, bytes_taken, is_open, is_open_at, is_whole, is_whole_at, next_of, whole_of}
use Rattle.ldm_rpc.specs.Streams.{Position, forgets, in_hand, records_in}
use Rattle.ldm_rpc.proofs.Joined.{after-taken, position, pushed, taken-append}
use Rattle.ldm_rpc.proofs.Pushed.{taken_at_end}

-- a place in a stream counts the bytes
pub came-in_hand : (p : Position) (bytes : List ℕ) → (in_hand p bytes).came ≡ p.came + length bytes
unfolding in_hand
came-in_hand p [] = omega arith
came-in_hand p (byte ∷ bytes) =
    let all : p.came + 1 + length bytes ≡ p.came + length (byte ∷ bytes) = omega arith in
    came-in_hand (forgets p.begins (p.came + 1) (after_byte p.reading byte)) bytes ∙ all

ended_at : (stage : Stage) → is_whole_at stage ≡ true → is_open_at stage ≡ false
ended_at (Header came number) whole = absurd cc
ended_at (Fragment left last) whole = absurd cc
ended_at Whole whole = refl
ended_at (Faulty fault) whole = absurd cc

-- A push ends with the record, which begins where the place says.
pub record Completes (p : Position) (piece : List ℕ) (count : ℕ) (r : Reading) : Type 0 where
  pub records : records_in p (take count piece) ≡ record { at = p.begins; content = r.content } ∷ []
  pub hand : in_hand p (take count piece) ≡ record { reading = next_of r; begins = p.came + count; came = p.came + count }

pub completes : (p : Position) (piece : List ℕ) (count : ℕ) (r : Reading) → is_whole p.reading ≡ false → count ≡ bytes_taken p.reading piece → count ≤ length piece
    → r ≡ after p.reading piece → is_whole r ≡ true → Completes p piece count r
unfolding records_in in_hand
completes p piece count r ready count_is within r_is whole =
    let front = take count piece in
    let ended : is_open r ≡ false = ended_at r.stage whole in
    let front_is : after p.reading front ≡ r = ap (λ n. after p.reading (take n piece)) count_is ∙ after-taken p.reading piece ∙ sym r_is in
    let none_more : bytes_taken (after p.reading front) (drop count piece) ≡ 0 = ap (λ (s : Reading). bytes_taken s (drop count piece)) front_is ∙ taken_at_end r (drop count piece) ended in
    let joined : bytes_taken p.reading piece ≡ bytes_taken p.reading front + bytes_taken (after p.reading front) (drop count piece) =
    ap (bytes_taken p.reading) (sym (take-append-drop count piece)) ∙ taken-append p.reading front (drop count piece) in
    let taken : bytes_taken p.reading front ≡ count = omega (arith, none_more, joined, count_is) in
    let none : drop (bytes_taken p.reading front) front ≡ [] = ap (λ n. drop n front) taken ∙ drop_all count front (omega (arith, length-take-le count piece within)) in
    let is = pushed p front ready in
    record {
      records = is.records ∙ rw (none, front_is, whole) refl;
      hand = is.in_hand ∙ rw (none, front_is, taken, whole) refl;
    }

-- A push takes all, and the record is not complete.
pub record Continues (p : Position) (piece : List ℕ) (r : Reading) : Type 0 where
  pub records : records_in p piece ≡ []
  pub hand : in_hand p piece ≡ position p.begins (p.came + length piece) r

pub continues : (p : Position) (piece : List ℕ) (r : Reading) → is_whole p.reading ≡ false → length piece ≡ bytes_taken p.reading piece
    → r ≡ after p.reading piece → is_whole r ≡ false → Continues p piece r
unfolding records_in in_hand
continues p piece r ready count_is r_is not =
    let r_back : after p.reading piece ≡ r = sym r_is in
    let taken : bytes_taken p.reading piece ≡ length piece = sym count_is in
    let none : drop (bytes_taken p.reading piece) piece ≡ [] = ap (λ n. drop n piece) taken ∙ drop_all (length piece) piece (omega arith) in
    let is = pushed p piece ready in
    record {
      records = is.records ∙ rw (none, r_back, not) refl;
      hand = is.in_hand ∙ rw (none, r_back, taken, not) refl;
    }

-- ---- what a call of `whole` shows

chosen_none : (b : Bool) (content : List ℕ) → cond b (Some content) None ≡ None → b ≡ false
chosen_none true content is = absurd cc
chosen_none false content is = refl

chosen_some : (b : Bool) (content shown : List ℕ) → cond b (Some content) None ≡ Some shown → (b ≡ true) × (content ≡ shown)
chosen_some true content shown is = (refl, cc)
chosen_some false content shown is = absurd cc

pub shows_none : (s : Reading) → None ≡ whole_of s → is_whole s ≡ false
shows_none s is = chosen_none (is_whole s) s.content (sym is)

pub shows_some : (s : Reading) (content : List ℕ) → Some content ≡ whole_of s → (is_whole s ≡ true) × (s.content ≡ content)
shows_some s content is = chosen_some (is_whole s) s.content content (sym is)
