-- What a push has taken of a piece, as it goes on, and where it ends.
use Rattle.std.proofs.Common.{◌≡◌, ℕ, ◌+◌, ◌-◌, ◌<◌, ◌≤◌, true, false, List, [], ◌∷◌, length, drop, drop_of_length-le, Result, Ok, Err, refl, sym, ap, subst, ◌∙◌, arith, inl, inr}
use Rattle.std.proofs.lemmas.List.{drop-drop, length-drop}
use Rattle.std.proofs.lemmas.Bool.{both_ways, cases_Bool}
use Rattle.ldm_rpc.specs.declared.fault.RpcFault.{RpcFault}
use Rattle.ldm_rpc.specs.declared.stage.Stage.{Stage}
use Rattle.ldm_rpc.specs.declared.stage.Stage.TheVariants.{Header, Fragment, Whole, Faulty}
use Rattle.ldm_rpc.specs.Reading.{Reading, after, after_byte, after_byte_in, bytes_taken, is_open, is_open_at, is_whole, is_whole_at, is_faulty, is_faulty_at}
use Rattle.std.specs.Prelude.{IfOk, IfErr}
use Rattle.ldm_rpc.specs.declared.fault.RpcFault.TheVariants.{TooLong, OutOfMemory}
use Rattle.ldm_rpc.specs.Taking.{TakesFront, IsFaultOf, answer_at}

-- So many bytes of the piece are taken, and the others remain to be taken. What had ended before stays as it was.
pub record IsTaking (old : Reading) (piece : List ℕ) (n : ℕ) (now : Reading) : Type 0 where
  pub within : n ≤ length piece
  pub rest : after old piece ≡ after now (drop n piece)
  pub count : bytes_taken old piece ≡ n + bytes_taken now (drop n piece)
  pub stays : is_open old ≡ false → now ≡ old

pub takes_nothing : (old : Reading) (piece : List ℕ) → IsTaking old piece 0 old
takes_nothing old piece = record { within = omega arith; rest = refl; count = omega arith; stays = λ _. refl }

pub takes_more : (old now new : Reading) (piece : List ℕ) (n m : ℕ) → is_open now ≡ true → IsTaking old piece n now
    → TakesFront now (drop n piece) m new → IsTaking old piece (n + m) new
takes_more old now new piece n m unended so_far front =
    let len : length (drop n piece) ≡ length piece - n = length-drop n piece in
    let at : drop m (drop n piece) ≡ drop (n + m) piece = drop-drop m n piece in
    record {
      within = omega (arith, so_far.within, front.within);
      rest = so_far.rest ∙ front.rest ∙ ap (after new) at;
      count = so_far.count ∙ ap (λ k. n + k) front.count ∙ ap (λ (r : List ℕ). n + (m + bytes_taken new r)) at ∙ omega arith;
      stays = λ ended. absurd (both_ways (is_open old) ended (ap is_open (sym (so_far.stays ended)) ∙ unended));
    }

byte_at_end : (stage : Stage) (s : Reading) (byte : ℕ) → is_open_at stage ≡ false → after_byte_in stage s byte ≡ s
byte_at_end (Header came number) s byte ended = absurd cc
byte_at_end (Fragment left last) s byte ended = absurd cc
byte_at_end Whole s byte ended = refl
byte_at_end (Faulty fault) s byte ended = refl

pub after_end : (s : Reading) (bytes : List ℕ) → is_open s ≡ false → after s bytes ≡ s
unfolding after after_byte
after_end s [] ended = refl
after_end s (byte ∷ bytes) ended = ap (λ (r : Reading). after r bytes) (byte_at_end s.stage s byte ended) ∙ after_end s bytes ended

pub taken_at_end : (s : Reading) (bytes : List ℕ) → is_open s ≡ false → bytes_taken s bytes ≡ 0
unfolding bytes_taken
taken_at_end s [] ended = refl
taken_at_end s (byte ∷ bytes) ended = rw ended refl

-- what stands where no more is taken
pub record HasTaken (old : Reading) (piece : List ℕ) (n : ℕ) (now : Reading) : Type 0 where
  pub within : n ≤ length piece
  pub all : now ≡ after old piece
  pub count : n ≡ bytes_taken old piece
  pub ends : n < length piece → is_open now ≡ false
  pub stays : is_open old ≡ false → now ≡ old

pub all_taken : (old now : Reading) (piece : List ℕ) (n : ℕ) → length piece ≤ n → IsTaking old piece n now → HasTaken old piece n now
unfolding after bytes_taken
all_taken old now piece n full so_far =
    let none : drop n piece ≡ [] = drop_of_length-le piece full in
    record {
      within = so_far.within;
      all = sym (so_far.rest ∙ ap (after now) none);
      count = sym (so_far.count ∙ ap (λ (r : List ℕ). n + bytes_taken now r) none ∙ omega arith);
      ends = λ short. absurd (omega arith);
      stays = so_far.stays;
    }

pub end_taken : (old now : Reading) (piece : List ℕ) (n : ℕ) → is_open now ≡ false → IsTaking old piece n now → HasTaken old piece n now
end_taken old now piece n ended so_far =
    record {
      within = so_far.within;
      all = sym (so_far.rest ∙ after_end now (drop n piece) ended);
      count = sym (so_far.count ∙ ap (λ k. n + k) (taken_at_end now (drop n piece) ended) ∙ omega arith);
      ends = λ _. ended;
      stays = so_far.stays;
    }

-- what a push says of the answer
pub record Answers (old : Reading) (piece : List ℕ) (new : Reading) (answer : Result ℕ RpcFault) : Type 0 where
  pub after : IfOk answer (λ _. (new ≡ after old piece) × (is_faulty new ≡ false))
  pub taken : IfOk answer (λ n. (n ≡ bytes_taken old piece) × (n ≤ length piece))
  pub moves : IfOk answer (λ n. 0 < length piece → 0 < n)
  pub ends : IfOk answer (λ n. n < length piece → is_whole new ≡ true)
  pub fault : IfErr answer (IsFaultOf old piece new)
  pub stays : (fault : RpcFault) → old.stage ≡ Faulty fault → (answer ≡ Err fault) × (new ≡ old)

some_taken : (s : Reading) (piece : List ℕ) → is_open s ≡ true → 0 < length piece → 0 < bytes_taken s piece
unfolding bytes_taken
some_taken s [] unended some = absurd (omega arith)
some_taken s (byte ∷ bytes) unended some = rw unended (omega arith)

open_at : (stage : Stage) → is_whole_at stage ≡ false → is_faulty_at stage ≡ false → is_open_at stage ≡ true
open_at (Header came number) whole faulty = refl
open_at (Fragment left last) whole faulty = refl
open_at Whole whole faulty = absurd cc
open_at (Faulty fault) whole faulty = absurd cc

whole_at : (stage : Stage) → is_open_at stage ≡ false → is_faulty_at stage ≡ false → is_whole_at stage ≡ true
whole_at (Header came number) ended faulty = absurd cc
whole_at (Fragment left last) ended faulty = absurd cc
whole_at Whole ended faulty = refl
whole_at (Faulty fault) ended faulty = absurd cc

faulty_ended : (stage : Stage) → is_faulty_at stage ≡ true → is_open_at stage ≡ false
faulty_ended (Header came number) faulty = absurd cc
faulty_ended (Fragment left last) faulty = absurd cc
faulty_ended Whole faulty = absurd cc
faulty_ended (Faulty fault) faulty = refl

-- a reader with no fault now had none before
was_sound : (old now : Reading) (piece : List ℕ) (n : ℕ) → HasTaken old piece n now → is_faulty now ≡ false → is_faulty old ≡ false
was_sound old now piece n h sound =
    elim (cases_Bool (is_faulty old)) [
      | inl faulty ↦ absurd (both_ways (is_faulty now) sound (ap is_faulty (h.stays (faulty_ended old.stage faulty)) ∙ faulty))
      | inr not ↦ not
    ]

answers_ok : (old now : Reading) (piece : List ℕ) (n : ℕ) → is_whole old ≡ false → HasTaken old piece n now → is_faulty now ≡ false → Answers old piece now (Ok n)
answers_ok old now piece n begun h sound =
    let was = was_sound old now piece n h sound in
    record {
      after = (h.all, sound);
      taken = (h.count, h.within);
      moves = λ some. subst (λ k. 0 < k) (sym h.count) (some_taken old piece (open_at old.stage begun was) some);
      ends = λ short. whole_at now.stage (h.ends short) sound;
      fault = tt;
      stays = λ fault at. absurd (both_ways (is_faulty old) was (ap is_faulty_at at));
    }

fault_cause : (old now : Reading) (piece : List ℕ) (fault : RpcFault) → now ≡ after old piece → now.stage ≡ Faulty fault → IsFaultOf old piece now fault
fault_cause old now piece (TooLong at) all is = (all, is)
fault_cause old now piece OutOfMemory all is = is

answers_err : (old now : Reading) (piece : List ℕ) (n : ℕ) (fault : RpcFault) → HasTaken old piece n now → now.stage ≡ Faulty fault → Answers old piece now (Err fault)
answers_err old now piece n fault h is = record {
  after = tt;
  taken = tt;
  moves = tt;
  ends = tt;
  fault = fault_cause old now piece fault h.all is;
  stays = λ earlier at.
      let same = h.stays (ap is_open_at at) in
      let again : Faulty fault ≡ Faulty earlier = sym is ∙ ap (λ (r : Reading). r.stage) same ∙ at in
      (cc, same);
}

answers_at : (old now : Reading) (piece : List ℕ) (n : ℕ) (stage : Stage) → is_whole old ≡ false → HasTaken old piece n now → now.stage ≡ stage
    → Answers old piece now (answer_at stage n)
answers_at old now piece n (Header came number) begun h is = answers_ok old now piece n begun h (ap is_faulty_at is)
answers_at old now piece n (Fragment left last) begun h is = answers_ok old now piece n begun h (ap is_faulty_at is)
answers_at old now piece n Whole begun h is = answers_ok old now piece n begun h (ap is_faulty_at is)
answers_at old now piece n (Faulty fault) begun h is = answers_err old now piece n fault h is

pub answers : (old now : Reading) (piece : List ℕ) (n : ℕ) (answer : Result ℕ RpcFault) → is_whole old ≡ false → HasTaken old piece n now
    → answer ≡ answer_at now.stage n → Answers old piece now answer
answers old now piece n answer begun h is = subst (Answers old piece now) (sym is) (answers_at old now piece n now.stage begun h refl)

-- memory ran out where bytes were still taken
pub answers_memory : (old now new : Reading) (piece : List ℕ) (n : ℕ) → is_open now ≡ true → IsTaking old piece n now
    → new.stage ≡ Faulty OutOfMemory → Answers old piece new (Err OutOfMemory)
answers_memory old now new piece n unended so_far is = record {
  after = tt;
  taken = tt;
  moves = tt;
  ends = tt;
  fault = is;
  stays = λ fault at.
      let ended = ap is_open_at at in
      absurd (both_ways (is_open old) ended (ap is_open (sym (so_far.stays ended)) ∙ unended));
}
