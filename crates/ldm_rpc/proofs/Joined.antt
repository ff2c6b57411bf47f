-- A stream in pieces.
use Rattle.std.proofs.Common.{◌≡◌, ℕ, zero, suc, ◌+◌, ◌<◌, true, false, List, [], ◌∷◌, ◌++◌, take, drop, refl, sym, ap, ◌∙◌, append_assoc, zero-add, arith, inl, inr}
use Rattle.std.proofs.lemmas.Bool.{cases_Bool}
use Rattle.ldm_rpc.specs.declared.stage.Stage.{Stage}
use Rattle.ldm_rpc.specs.declared.stage.Stage.TheVariants.{Header, Fragment, Whole, Faulty}
use Rattle.ldm_rpc.specs.Reading.{Reading, after, after_byte, bytes_taken, is_open, is_open_at, is_whole, is_whole_at}
use Rattle.ldm_rpc.specs.Streams.{Position, Placed, forgets, given, in_hand, records_in}
use Rattle.ldm_rpc.proofs.Steps.{taken_open}
use Rattle.ldm_rpc.proofs.Pushed.{after_end, taken_at_end}

pub after-append : (s : Reading) (a b : List ℕ) → after s (a ++ b) ≡ after (after s a) b
unfolding after
after-append s [] b = refl
after-append s (byte ∷ a) b = after-append (after_byte s byte) a b

pub taken-append : (s : Reading) (a b : List ℕ) → bytes_taken s (a ++ b) ≡ bytes_taken s a + bytes_taken (after s a) b
unfolding after bytes_taken
taken-append s [] b = sym (zero-add (bytes_taken s b))
taken-append s (byte ∷ a) b =
    elim (cases_Bool (is_open s)) [
      | inl unended ↦ rw (unended, taken-append (after_byte s byte) a b) (omega arith)
      | inr ended ↦ rw ended (sym (zero-add _) ∙ ap (λ n. 0 + n) (sym (taken_at_end (after s (byte ∷ a)) b (ap is_open (after_end s (byte ∷ a) ended) ∙ ended))))
    ]

taken_suc : (s : Reading) (byte : ℕ) (bytes : List ℕ) → is_open s ≡ true → bytes_taken s (byte ∷ bytes) ≡ suc (bytes_taken (after_byte s byte) bytes)
taken_suc s byte bytes unended = taken_open s byte bytes unended ∙ omega arith

pub records-append : (p : Position) (a b : List ℕ) → records_in p (a ++ b) ≡ records_in p a ++ records_in (in_hand p a) b
unfolding records_in in_hand
records-append p [] b = refl
records-append p (byte ∷ a) b =
    let s = after_byte p.reading byte in
    let t = forgets p.begins (p.came + 1) s in
    ap (λ (x : List Placed). given p.begins s ++ x) (records-append t a b)
    ∙ sym (append_assoc (given p.begins s) (records_in t a) _)

pub in_hand-append : (p : Position) (a b : List ℕ) → in_hand p (a ++ b) ≡ in_hand (in_hand p a) b
unfolding in_hand
in_hand-append p [] b = refl
in_hand-append p (byte ∷ a) b = in_hand-append (forgets p.begins (p.came + 1) (after_byte p.reading byte)) a b

-- ---- a push

not_whole_open : (stage : Stage) → is_whole_at stage ≡ true → is_open_at stage ≡ false
not_whole_open (Header came number) whole = absurd cc
not_whole_open (Fragment left last) whole = absurd cc
not_whole_open Whole whole = refl
not_whole_open (Faulty fault) whole = absurd cc

pub given_none : (begins : ℕ) (s : Reading) → is_whole s ≡ false → given begins s ≡ []
given_none begins s not = rw not refl

abbrev pub position : ℕ → ℕ → Reading → Position
position begins came s = record { reading = s; begins = begins; came = came }

pub forgets_none : (begins came : ℕ) (s : Reading) → is_whole s ≡ false → forgets begins came s ≡ position begins came s
forgets_none begins came s not = rw not refl

-- where a piece has been pushed, and a complete record forgotten
abbrev pub pushed_to : Position → List ℕ → Position
pushed_to p piece = forgets p.begins (p.came + bytes_taken p.reading piece) (after p.reading piece)

-- the records of a piece and what is in hand behind it, by what a push makes of it
pub record IsPushed (p : Position) (piece : List ℕ) : Type 0 where
  pub records : records_in p piece ≡ given p.begins (after p.reading piece) ++ records_in (pushed_to p piece) (drop (bytes_taken p.reading piece) piece)
  pub in_hand : in_hand p piece ≡ in_hand (pushed_to p piece) (drop (bytes_taken p.reading piece) piece)

-- nothing is taken
pushed_end : (p : Position) (piece : List ℕ) → is_open p.reading ≡ false → is_whole p.reading ≡ false → IsPushed p piece
pushed_end p piece ended not =
    let same : after p.reading piece ≡ p.reading = after_end p.reading piece ended in
    let none : bytes_taken p.reading piece ≡ 0 = taken_at_end p.reading piece ended in
    let still : p.came + 0 ≡ p.came = omega arith in
    record { records = rw (same, none, not, still) refl; in_hand = rw (same, none, not, still) refl }

pushed_byte : (p : Position) (byte : ℕ) (bytes : List ℕ) → is_open p.reading ≡ true
    → (is_whole (after_byte p.reading byte) ≡ false → IsPushed (position p.begins (p.came + 1) (after_byte p.reading byte)) bytes) → IsPushed p (byte ∷ bytes)
unfolding after records_in in_hand
pushed_byte p byte bytes unended more =
    let t = after_byte p.reading byte in
    let count = taken_suc p.reading byte bytes unended in
    elim (cases_Bool (is_whole t)) [
      | inl whole ↦
          let ended : is_open t ≡ false = not_whole_open t.stage whole in
          let none : bytes_taken t bytes ≡ 0 = taken_at_end t bytes ended in
          let same : after t bytes ≡ t = after_end t bytes ended in
          record { records = rw (count, none, same) refl; in_hand = rw (count, none, same) refl }
      | inr not ↦
          let m = more not in
          let k = bytes_taken t bytes in
          let all : p.came + 1 + k ≡ p.came + suc k = omega arith in
          record {
            records = rw (count, given_none p.begins t not, forgets_none p.begins (p.came + 1) t not)
                (m.records ∙ ap (λ n. given p.begins (after t bytes) ++ records_in (forgets p.begins n (after t bytes)) (drop k bytes)) all);
            in_hand = rw (count, forgets_none p.begins (p.came + 1) t not) (m.in_hand ∙ ap (λ n. in_hand (forgets p.begins n (after t bytes)) (drop k bytes)) all);
          }
    ]

pub pushed : (p : Position) (piece : List ℕ) → is_whole p.reading ≡ false → IsPushed p piece
unfolding after bytes_taken records_in in_hand
pushed p [] not =
    let still : p.came + 0 ≡ p.came = omega arith in
    record { records = rw (given_none p.begins p.reading not) refl; in_hand = rw (not, still) refl }
pushed p (byte ∷ bytes) not =
    elim (cases_Bool (is_open p.reading)) [
      | inl unended ↦ pushed_byte p byte bytes unended (pushed (position p.begins (p.came + 1) (after_byte p.reading byte)) bytes)
      | inr ended ↦ pushed_end p (byte ∷ bytes) ended not
    ]

open_first : (s : Reading) (byte : ℕ) (bytes : List ℕ) (n : ℕ) → is_open s ≡ true → n < bytes_taken s (byte ∷ bytes) → ((m : ℕ)
    → m < bytes_taken (after_byte s byte) bytes → is_open (after (after_byte s byte) (take m bytes)) ≡ true)
    → is_open (after s (take n (byte ∷ bytes))) ≡ true
unfolding after
open_first s byte bytes zero unended lt more = unended
open_first s byte bytes (suc n) unended lt more = more n (omega (arith, taken_suc s byte bytes unended))

pub open_before : (s : Reading) (piece : List ℕ) (n : ℕ) → n < bytes_taken s piece → is_open (after s (take n piece)) ≡ true
unfolding bytes_taken
open_before s [] n lt = absurd (omega arith)
open_before s (byte ∷ bytes) n lt =
    elim (cases_Bool (is_open s)) [
      | inl unended ↦ open_first s byte bytes n unended lt (open_before (after_byte s byte) bytes)
      | inr ended ↦ absurd (omega (arith, taken_at_end s (byte ∷ bytes) ended))
    ]

after_first : (s : Reading) (byte : ℕ) (bytes : List ℕ) → bytes_taken s (byte ∷ bytes) ≡ suc (bytes_taken (after_byte s byte) bytes)
    → after (after_byte s byte) (take (bytes_taken (after_byte s byte) bytes) bytes) ≡ after (after_byte s byte) bytes
    → after s (take (bytes_taken s (byte ∷ bytes)) (byte ∷ bytes)) ≡ after s (byte ∷ bytes)
unfolding after
after_first s byte bytes count more = rw count more

pub after-taken : (s : Reading) (piece : List ℕ) → after s (take (bytes_taken s piece) piece) ≡ after s piece
unfolding after bytes_taken
after-taken s [] = refl
after-taken s (byte ∷ bytes) =
    elim (cases_Bool (is_open s)) [
      | inl unended ↦ after_first s byte bytes (taken_suc s byte bytes unended) (after-taken (after_byte s byte) bytes)
      | inr ended ↦ rw (taken_at_end s (byte ∷ bytes) ended) (sym (after_end s (byte ∷ bytes) ended))
    ]
