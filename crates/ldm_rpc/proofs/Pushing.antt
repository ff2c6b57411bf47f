-- What a reader that keeps some takes of a piece, in one push behind another.
use Rattle.std.proofs.Common.{◌≡◌, ℕ, ◌+◌, ◌-◌, ◌<◌, ◌≤◌, true, false, List, ◌++◌, length, take, drop, refl, sym, ap, subst, ◌∙◌, arith, inl, inr}
use Rattle.std.proofs.lemmas.Bool.{both_ways, cases_Bool, cases_lt}
use Rattle.std.proofs.lemmas.List.{take-append-drop, take_all, length-take-le, length-drop}
use Rattle.ldm_rpc.specs.declared.fault.RpcFault.{RpcFault}
use Rattle.ldm_rpc.specs.declared.fault.RpcFault.TheVariants.{TooLong, OutOfMemory}
use Rattle.ldm_rpc.specs.declared.stage.Stage.{Stage}
use Rattle.ldm_rpc.specs.declared.stage.Stage.TheVariants.{Header, Fragment, Whole, Faulty}
use Rattle.ldm_rpc.specs.Reading.{Reading, after, bytes_taken, is_faulty, is_open, is_open_at, is_whole, is_whole_at}
use Rattle.ldm_rpc.specs.Taking.{IsFaultOf, TakesFront}
use Rattle.ldm_rpc.proofs.Joined.{after-append, taken-append}
use Rattle.ldm_rpc.proofs.Pushed.{HasTaken, IsTaking, after_end, all_taken, end_taken, taken_at_end, takes_more, takes_nothing}
use Rattle.ldm_rpc.specs.Keeping.{IsFaultIn}

closed_at : (stage : Stage) → is_whole_at stage ≡ true → is_open_at stage ≡ false
closed_at (Header came number) whole = absurd cc
closed_at (Fragment left last) whole = absurd cc
closed_at Whole whole = refl
closed_at (Faulty fault) whole = absurd cc

-- a front of a piece was pushed
pub pushed_some : (old new : Reading) (piece : List ℕ) (count n : ℕ) → count ≤ length piece → new ≡ after old (take count piece)
    → n ≡ bytes_taken old (take count piece) → n ≤ length (take count piece) → 0 < n → (n < length (take count piece) → is_whole new ≡ true)
    → TakesFront old piece n new
pushed_some old new piece count n within all taken most some ends =
    let len : length (take count piece) ≡ count = length-take-le count piece within in
    let parts : take count piece ++ drop count piece ≡ piece = take-append-drop count piece in
    let rest : after old piece ≡ after new (drop count piece) =
    ap (after old) (sym parts) ∙ after-append old (take count piece) (drop count piece) ∙ ap (λ (s : Reading). after s (drop count piece)) (sym all) in
    let counts : bytes_taken old piece ≡ n + bytes_taken new (drop count piece) =
    ap (bytes_taken old) (sym parts) ∙ taken-append old (take count piece) (drop count piece)
    ∙ ap (λ k. k + bytes_taken (after old (take count piece)) (drop count piece)) (sym taken)
    ∙ ap (λ (s : Reading). n + bytes_taken s (drop count piece)) (sym all) in
    elim (cases_lt n count) [
      | inl less ↦
          let ended : is_open new ≡ false = closed_at new.stage (ends (omega (arith, len, less))) in
          record {
            some = some;
            within = omega (arith, len, most, within);
            rest = rest ∙ after_end new (drop count piece) ended ∙ sym (after_end new (drop n piece) ended);
            count = counts ∙ ap (λ k. n + k) (taken_at_end new (drop count piece) ended ∙ sym (taken_at_end new (drop n piece) ended));
          }
      | inr all_of ↦
          let same_count : count ≡ n = omega (arith, len, most, all_of) in
          let same : drop count piece ≡ drop n piece = ap (λ k. drop k piece) same_count in
          record {
            some = some;
            within = omega (arith, len, most, within);
            rest = rest ∙ ap (after new) same;
            count = counts ∙ ap (λ (r : List ℕ). n + bytes_taken new r) same;
          }
    ]

pub fault_of_front : (old new : Reading) (piece : List ℕ) (count : ℕ) (fault : RpcFault) → IsFaultOf old (take count piece) new fault → IsFaultIn old piece fault
fault_of_front old new piece count (TooLong at) is =
    let ended : is_open new ≡ false = ap is_open_at is.1 in
    let all : after old piece ≡ new =
    ap (after old) (sym (take-append-drop count piece)) ∙ after-append old (take count piece) (drop count piece)
    ∙ ap (λ (s : Reading). after s (drop count piece)) (sym is.0) ∙ after_end new (drop count piece) ended in
    ap (λ (s : Reading). s.stage) all ∙ is.1
fault_of_front old new piece count OutOfMemory is = tt

fault_of_rest : (old now : Reading) (piece rest : List ℕ) (fault : RpcFault) → after old piece ≡ after now rest → IsFaultIn now rest fault → IsFaultIn old piece fault
fault_of_rest old now piece rest (TooLong at) same is = ap (λ (s : Reading). s.stage) same ∙ is
fault_of_rest old now piece rest OutOfMemory same is = tt

-- So many bytes of the piece are taken. As long as none is, it stands as before.
pub record IsPushing (old : Reading) (piece : List ℕ) (n : ℕ) (now : Reading) : Type 0 where
  pub taking : IsTaking old piece n now
  pub first : n ≡ 0 → now ≡ old
  pub sound : 0 < n → is_faulty now ≡ false

pub pushing_none : (old : Reading) (piece : List ℕ) → IsPushing old piece 0 old
pushing_none old piece = record { taking = takes_nothing old piece; first = λ _. refl; sound = λ some. absurd (omega arith) }

pub pushing_more : (old now new : Reading) (piece : List ℕ) (n m : ℕ) → IsPushing old piece n now → TakesFront now (drop n piece) m new
    → is_faulty new ≡ false → IsPushing old piece (n + m) new
pushing_more old now new piece n m so_far front sound =
    let some : 0 < m = front.some in
    let unended : is_open now ≡ true = elim (cases_Bool (is_open now)) [
      | inl is ↦ is
      | inr not ↦ absurd (let none : bytes_taken now (drop n piece) ≡ 0 = taken_at_end now (drop n piece) not in omega (arith, none, front.count, front.some))
    ] in
    record {
      taking = takes_more old now new piece n m unended so_far.taking front;
      first = λ none. absurd (omega (arith, none, some));
      sound = λ _. sound;
    }

-- what a push of a piece leaves
pub record HasPushed (old : Reading) (piece : List ℕ) (n : ℕ) (now : Reading) : Type 0 where
  pub after : (now ≡ after old piece) × (is_faulty now ≡ false)
  pub taken : (n ≡ bytes_taken old piece) × (n ≤ length piece)
  pub moves : 0 < n
  pub ends : n < length piece → is_whole now ≡ true

has_pushed : (old now : Reading) (piece : List ℕ) (n : ℕ) → 0 < n → (n < length piece → is_whole now ≡ true) → IsPushing old piece n now
    → HasTaken old piece n now → HasPushed old piece n now
has_pushed old now piece n some ends so_far taken = record { after = (taken.all, so_far.sound some); taken = (taken.count, taken.within); moves = some; ends = ends }

pub pushed_all : (old now : Reading) (piece : List ℕ) (n : ℕ) → 0 < length piece → length piece ≤ n → IsPushing old piece n now → HasPushed old piece n now
pushed_all old now piece n some full so_far =
    has_pushed old now piece n (omega (arith, some, full)) (λ short. absurd (omega (arith, short, full))) so_far (all_taken old now piece n full so_far.taking)

pub pushed_whole : (old now : Reading) (piece : List ℕ) (n : ℕ) → is_whole old ≡ false → is_whole now ≡ true → IsPushing old piece n now → HasPushed old piece n now
pushed_whole old now piece n ready whole so_far =
    let some : 0 < n = elim (cases_lt 0 n) [
      | inl some ↦ some
      | inr none ↦ absurd (both_ways (is_whole old) ready (ap is_whole (sym (so_far.first (omega (arith, none)))) ∙ whole))
    ] in
    has_pushed old now piece n some (λ _. whole) so_far (end_taken old now piece n (closed_at now.stage whole) so_far.taking)

pub fault_behind : (old now : Reading) (piece : List ℕ) (n : ℕ) (fault : RpcFault) → IsPushing old piece n now → IsFaultIn now (drop n piece) fault
    → IsFaultIn old piece fault
fault_behind old now piece n fault so_far is = fault_of_rest old now piece (drop n piece) fault so_far.taking.rest is

-- after a fault no record is complete
pub not_whole_by : (old : Reading) (piece : List ℕ) (new : Reading) (fault : RpcFault) → IsFaultOf old piece new fault → is_whole new ≡ false
not_whole_by old piece new (TooLong at) is = ap is_whole_at is.1
not_whole_by old piece new OutOfMemory is = ap is_whole_at is

-- the rest of a piece
pub rest_of : (piece : List ℕ) (n : ℕ) → take (length piece - n) (drop n piece) ≡ drop n piece
rest_of piece n = take_all (length piece - n) (drop n piece) (subst (λ k. k ≤ length piece - n) (sym (length-drop n piece)) (omega arith))
