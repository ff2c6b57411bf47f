-- What a push takes of a piece.
use Rattle.std.proofs.Common.{◌≡◌, ◌≢◌, ℕ, ◌+◌, ◌-◌, ◌^◌, ◌<◌, ◌≤◌, ◌==◌, ◌||◌, true, not, List, [], ◌∷◌, ◌++◌, length, get_or, take, drop, refl, sym, ap, subst, ◌∙◌, append_assoc, arith, inl, inr, Some, None}
use Rattle.std.proofs.lemmas.Bool.{both_ways, cases_Bool, eq-eqb, eqb-true, ne_eqb}
use Rattle.std.proofs.lemmas.List.{length-append, length-take-le, length-drop, take-append-drop, take_all, take_more, drop_more, drop_all, drop-drop}
use Rattle.memchr.specs.Find.{IsFirstByte, is_byte}
use Rattle.ldm_wmo.specs.declared.stage.Stage.{Stage}
use Rattle.ldm_wmo.specs.declared.stage.Stage.TheVariants.{Outside, Within, Complete}
use Rattle.ldm_wmo.specs.declared.stage.TheConstants.{LARGEST_BULLETIN}
use Rattle.ldm_wmo.specs.Bulletins.{has_no_mark}
use Rattle.ldm_wmo.specs.Courses.{GoesTo}
use Rattle.ldm_wmo.specs.Scanning.{Scanning, after, bytes_taken, is_complete, place}
use Rattle.ldm_wmo.specs.Taking.{TakesFront, advanced}
use Rattle.ldm_wmo.proofs.Marks.{none_before, none_at_all}
use Rattle.ldm_wmo.proofs.Runs.{Goes, after_complete, at_stage, begins_one, ends_before, ends_with, goes_none, goes_on, passes_run, taken_complete, within_run}

pub takes_none : (s : Scanning) (piece : List ℕ) → TakesFront s piece 0 s
takes_none s piece = record { within = omega arith; rest = refl; count = omega arith }

-- a run that is the front of a piece
pub takes_run : (s t : Scanning) (piece : List ℕ) (n : ℕ) → n ≤ length piece → Goes s (take n piece) t (drop n piece) → TakesFront s piece n t
takes_run s t piece n within goes =
    let parts = take-append-drop n piece in
    let len = length-take-le n piece within in
    record {
      within = within;
      rest = ap (after s) (sym parts) ∙ goes.0;
      count = ap (bytes_taken s) (sym parts) ∙ goes.1 ∙ ap (λ k. k + bytes_taken t (drop n piece)) len;
    }

-- one run behind another
takes_two : (s t u : Scanning) (piece : List ℕ) (n m : ℕ) → TakesFront s piece n t → TakesFront t (drop n piece) m u → TakesFront s piece (n + m) u
takes_two s t u piece n m first second =
    let len : length (drop n piece) ≡ length piece - n = length-drop n piece in
    let at : drop m (drop n piece) ≡ drop (n + m) piece = drop-drop m n piece in
    let bound = second.within in
    record {
      within = omega (arith, first.within, second.within);
      rest = first.rest ∙ second.rest ∙ ap (after u) at;
      count = first.count ∙ ap (λ k. n + k) second.count ∙ ap (λ (r : List ℕ). n + (m + bytes_taken u r)) at ∙ omega arith;
    }

-- one byte of what is left
pub takes_one : (s t : Scanning) (piece : List ℕ) (n : ℕ) → n < length piece → Goes s (get_or piece n 0 ∷ []) t (drop (n + 1) piece) → TakesFront s (drop n piece) 1 t
takes_one s t piece n within goes =
    let parts : drop n piece ≡ get_or piece n 0 ∷ drop (n + 1) piece = drop_more piece n 0 within in
    let len : length (drop n piece) ≡ length piece - n = length-drop n piece in
    let left : drop 1 (drop n piece) ≡ drop (n + 1) piece = drop-drop 1 n piece in
    record {
      within = omega arith;
      rest = ap (after s) parts ∙ goes.0 ∙ ap (after t) (sym left);
      count = ap (bytes_taken s) parts ∙ goes.1 ∙ ap (λ (r : List ℕ). 1 + bytes_taken t r) (sym left);
    }

-- ---- outside candidates

pub passes_all : (p : ℕ) (c piece : List ℕ) → p < 2 ^ 64 → IsFirstByte (is_byte 1) piece None → TakesFront (at_stage p c Outside) piece (length piece) (at_stage (place (p + length piece)) c Outside)
passes_all p c piece small none =
    let whole = take_all (length piece) piece (omega arith) in
    takes_run (at_stage p c Outside) (at_stage (place (p + length piece)) c Outside) piece (length piece) (omega arith)
    (subst (λ (x : List ℕ). Goes (at_stage p c Outside) x (at_stage (place (p + length piece)) c Outside) (drop (length piece) piece)) (sym whole)
    (passes_run p c piece (drop (length piece) piece) small (none_at_all (is_byte 1) piece none)))

pub begins_at : (p : ℕ) (c piece : List ℕ) (at : ℕ) → p < 2 ^ 64 → IsFirstByte (is_byte 1) piece (Some at)
    → TakesFront (at_stage p c Outside) piece (at + 1) (at_stage (place (place (p + at) + 1)) (1 ∷ []) (Within (place (p + at))))
begins_at p c piece at small found =
    let within : at < length piece = found.0.high in
    let none = none_before (is_byte 1) piece at (λ k below inside. found.0.before k (omega arith) below) in
    let len = length-take-le at piece (omega arith) in
    let there = at_stage (place (p + at)) c Outside in
    let begun = at_stage (place (place (p + at) + 1)) (1 ∷ []) (Within (place (p + at))) in
    let run : Goes (at_stage p c Outside) (take at piece) there (drop at piece) =
    subst (λ k. Goes (at_stage p c Outside) (take at piece) (at_stage (place (p + k)) c Outside) (drop at piece)) len
    (passes_run p c (take at piece) (drop at piece) small none) in
    takes_two (at_stage p c Outside) there begun piece at 1 (takes_run (at_stage p c Outside) there piece at (omega arith) run)
    (takes_one there begun piece at within
    (goes_on there begun begun (get_or piece at 0) [] (drop (at + 1) piece) refl (begins_one (place (p + at)) c (get_or piece at 0) (eqb-true _ _ found.1)) (goes_none begun (drop (at + 1) piece))))

-- ---- in a candidate

-- a byte that is a 3, or the last for which there is room
ends_same : (byte i j k : ℕ) → (i ≡ j → k ≡ LARGEST_BULLETIN) → (byte == 3 || i == j) ≡ true → (byte == 3 || k == LARGEST_BULLETIN) ≡ true
ends_same byte i j k same last = elim (cases_Bool (byte == 3)) [
  | inl is ↦ rw is refl
  | inr other ↦
      let full : (i == j) ≡ true = rw other at last in
      rw (other, same (eqb-true i j full), eq-eqb LARGEST_BULLETIN LARGEST_BULLETIN refl) refl
]

abbrev pub room_of : List ℕ → ℕ
room_of c = LARGEST_BULLETIN - length c

-- the bytes before the place at which it ends
runs_to : (p : ℕ) (c : List ℕ) (a : ℕ) (piece : List ℕ) (at : ℕ) → p < 2 ^ 64 → GoesTo piece (room_of c) at
    → TakesFront (at_stage p c (Within a)) piece at (at_stage (place (p + at)) (c ++ take at piece) (Within a))
runs_to p c a piece at small goes =
    let within = goes.within in
    let room = goes.room in
    let len = length-take-le at piece (omega arith) in
    takes_run (at_stage p c (Within a)) (at_stage (place (p + at)) (c ++ take at piece) (Within a)) piece at (omega arith)
    (subst (λ k. Goes (at_stage p c (Within a)) (take at piece) (at_stage (place (p + k)) (c ++ take at piece) (Within a)) (drop at piece)) len
    (within_run p c a (take at piece) (drop at piece) small goes.no_mark (omega arith)))

pub gathers_all : (p : ℕ) (c : List ℕ) (a : ℕ) (piece : List ℕ) → p < 2 ^ 64 → length piece < room_of c → has_no_mark piece ≡ true
    → TakesFront (at_stage p c (Within a)) piece (length piece) (at_stage (place (p + length piece)) (c ++ piece) (Within a))
gathers_all p c a piece small room none =
    let whole = take_all (length piece) piece (omega arith) in
    takes_run (at_stage p c (Within a)) (at_stage (place (p + length piece)) (c ++ piece) (Within a)) piece (length piece) (omega arith)
    (subst (λ (x : List ℕ). Goes (at_stage p c (Within a)) x (at_stage (place (p + length piece)) (c ++ piece) (Within a)) (drop (length piece) piece)) (sym whole)
    (within_run p c a piece (drop (length piece) piece) small none (omega arith)))

pub gathers_before : (p : ℕ) (c : List ℕ) (a : ℕ) (piece : List ℕ) (at : ℕ) → p < 2 ^ 64 → GoesTo piece (room_of c) at → get_or piece at 0 ≡ 1
    → TakesFront (at_stage p c (Within a)) piece at (at_stage (place (p + at)) (c ++ take at piece) (Complete a))
gathers_before p c a piece at small goes is =
    let so_far = runs_to p c a piece at small goes in
    let there = at_stage (place (p + at)) (c ++ take at piece) (Complete a) in
    let parts : drop at piece ≡ get_or piece at 0 ∷ drop (at + 1) piece = drop_more piece at 0 goes.within in
    let ends = ends_before (place (p + at)) (c ++ take at piece) a (get_or piece at 0) (drop (at + 1) piece) is in
    record {
      within = so_far.within;
      rest = so_far.rest ∙ ap (after (at_stage (place (p + at)) (c ++ take at piece) (Within a))) parts ∙ ends.0 ∙ sym (after_complete there (drop at piece) refl);
      count = so_far.count ∙ ap (λ (r : List ℕ). at + bytes_taken (at_stage (place (p + at)) (c ++ take at piece) (Within a)) r) parts
          ∙ ap (λ k. at + k) (ends.1 ∙ sym (taken_complete there (drop at piece) refl));
    }

pub gathers_with : (p : ℕ) (c : List ℕ) (a : ℕ) (piece : List ℕ) (at : ℕ) → p < 2 ^ 64 → GoesTo piece (room_of c) at → get_or piece at 0 ≢ 1
    → (get_or piece at 0 == 3 || at + 1 == room_of c) ≡ true
    → TakesFront (at_stage p c (Within a)) piece (at + 1) (at_stage (place (p + (at + 1))) (c ++ take (at + 1) piece) (Complete a))
gathers_with p c a piece at small goes other last =
    let within = goes.within in
    let room = goes.room in
    let byte = get_or piece at 0 in
    let so_far = runs_to p c a piece at small goes in
    let len = length-take-le at piece (omega arith) in
    let count : length (c ++ take at piece) ≡ length c + at = length-append c (take at piece) ∙ ap (λ k. length c + k) len in
    let there = at_stage (place (p + at)) (c ++ take at piece) (Within a) in
    let more : take (at + 1) piece ≡ take at piece ++ byte ∷ [] = take_more piece at 0 within in
    let joined : (c ++ take at piece) ++ byte ∷ [] ≡ c ++ take (at + 1) piece = append_assoc c (take at piece) (byte ∷ []) ∙ ap (λ (x : List ℕ). c ++ x) (sym more) in
    let same : place (place (p + at) + 1) ≡ place (p + (at + 1)) = omega arith in
    let ended : (byte == 3 || length (c ++ take at piece) + 1 == LARGEST_BULLETIN) ≡ true =
    ends_same byte (at + 1) (room_of c) (length (c ++ take at piece) + 1) (λ is. omega arith) last in
    let one = ends_with (place (p + at)) (c ++ take at piece) a byte (drop (at + 1) piece) (ne_eqb byte 1 other) ended in
    let to : at_stage (place (place (p + at) + 1)) ((c ++ take at piece) ++ byte ∷ []) (Complete a) ≡ at_stage (place (p + (at + 1))) (c ++ take (at + 1) piece) (Complete a) = rw (same, joined) refl in
    takes_two (at_stage p c (Within a)) there (at_stage (place (p + (at + 1))) (c ++ take (at + 1) piece) (Complete a)) piece at 1 so_far
    (takes_one there (at_stage (place (p + (at + 1))) (c ++ take (at + 1) piece) (Complete a)) piece at within
    (subst (λ (s : Scanning). Goes there (byte ∷ []) s (drop (at + 1) piece)) to one))

-- ---- a push

not_below : (n m : ℕ) → (n < m → ⊥) → m ≤ n
not_below n m h = omega (arith, h)

pub record HasTaken (old : Scanning) (piece : List ℕ) (n : ℕ) (new : Scanning) : Type 0 where
  pub after_is : new ≡ after old piece
  pub count_is : n ≡ bytes_taken old piece
  pub within : n ≤ length piece

-- what was begun and gathered, up to the end of the piece or of the candidate
pub has_taken : (old mid new : Scanning) (piece : List ℕ) (n m : ℕ) → TakesFront old piece n mid → TakesFront mid (drop n piece) m new
    → (n + m < length piece → is_complete new ≡ true) → HasTaken old piece (n + m) new
unfolding after bytes_taken
has_taken old mid new piece n m first second ends =
    let both = takes_two old mid new piece n m first second in
    elim (cases_Bool (is_complete new)) [
      | inl ended ↦ record {
        after_is = sym (both.rest ∙ after_complete new (drop (n + m) piece) ended);
        count_is = sym (both.count ∙ ap (λ k. n + m + k) (taken_complete new (drop (n + m) piece) ended) ∙ omega arith);
        within = both.within;
      }
      | inr not ↦
          let all : length piece ≤ n + m = not_below (n + m) (length piece) (λ short. both_ways (is_complete new) not (ends short)) in
          let none : drop (n + m) piece ≡ [] = drop_all (n + m) piece all in
          record {
            after_is = sym (both.rest ∙ ap (after new) none);
            count_is = sym (both.count ∙ ap (λ (r : List ℕ). n + m + bytes_taken new r) none ∙ omega arith);
            within = both.within;
          }
    ]

-- ---- the same of a scanner that is seen so

pub begin_passed : (p : ℕ) (c : List ℕ) (stage : Stage) (old new : Scanning) (piece : List ℕ) → at_stage p c stage ≡ old → stage ≡ Outside → p < 2 ^ 64
    → IsFirstByte (is_byte 1) piece None → new ≡ advanced old (length piece) → TakesFront old piece (length piece) new
begin_passed p c stage old new piece is out small none new_is =
    let from : at_stage p c Outside ≡ old = ap (at_stage p c) (sym out) ∙ is in
    let to : at_stage (place (p + length piece)) c Outside ≡ new = ap (λ (s : Scanning). advanced s (length piece)) from ∙ sym new_is in
    subst (λ (s : Scanning). TakesFront s piece (length piece) new) from
    (subst (λ (t : Scanning). TakesFront (at_stage p c Outside) piece (length piece) t) to (passes_all p c piece small none))

pub begin_found : (p : ℕ) (c : List ℕ) (stage : Stage) (old mid new : Scanning) (q : ℕ) (d : List ℕ) (mid_stage : Stage) (piece : List ℕ) (at : ℕ)
    → at_stage p c stage ≡ old → stage ≡ Outside → c ≡ [] → p < 2 ^ 64 → IsFirstByte (is_byte 1) piece (Some at) → mid ≡ advanced old at → at_stage q d mid_stage ≡ mid
    → new ≡ at_stage (place (q + 1)) (d ++ 1 ∷ []) (Within q) → TakesFront old piece (at + 1) new
begin_found p c stage old mid new q d mid_stage piece at is out none small found mid_is seen new_is =
    let from : at_stage p c Outside ≡ old = ap (at_stage p c) (sym out) ∙ is in
    let there : at_stage q d mid_stage ≡ at_stage (place (p + at)) c Outside = seen ∙ mid_is ∙ ap (λ (s : Scanning). advanced s at) (sym from) in
    let q_is : place (p + at) ≡ q = sym (ap (λ (s : Scanning). s.place) there) in
    let d_is : d ≡ [] = ap (λ (s : Scanning). s.candidate) there ∙ none in
    let to : at_stage (place (place (p + at) + 1)) (1 ∷ []) (Within (place (p + at))) ≡ new =
    ap (λ k. at_stage (place (k + 1)) (1 ∷ []) (Within k)) q_is ∙ ap (λ (x : List ℕ). at_stage (place (q + 1)) (x ++ 1 ∷ []) (Within q)) (sym d_is) ∙ sym new_is in
    subst (λ (s : Scanning). TakesFront s piece (at + 1) new) from
    (subst (λ (t : Scanning). TakesFront (at_stage p c Outside) piece (at + 1) t) to (begins_at p c piece at small found))

-- a candidate in hand
from_within : (p : ℕ) (c : List ℕ) (a : ℕ) (stage : Stage) (old made new : Scanning) (piece : List ℕ) (n : ℕ) → at_stage p c stage ≡ old → stage ≡ Within a
    → new ≡ made → TakesFront (at_stage p c (Within a)) piece n made → TakesFront old piece n new
from_within p c a stage old made new piece n is at new_is takes =
    let from : at_stage p c (Within a) ≡ old = ap (at_stage p c) (sym at) ∙ is in
    subst (λ (s : Scanning). TakesFront s piece n new) from (subst (λ (t : Scanning). TakesFront (at_stage p c (Within a)) piece n t) (sym new_is) takes)

pub gather_open : (p : ℕ) (c : List ℕ) (a : ℕ) (stage : Stage) (old new : Scanning) (piece : List ℕ) → at_stage p c stage ≡ old → stage ≡ Within a → p < 2 ^ 64
    → (length piece < room_of c) × (has_no_mark piece ≡ true) → new ≡ at_stage (place (old.place + length piece)) (old.candidate ++ piece) old.stage
    → TakesFront old piece (length piece) new
gather_open p c a stage old new piece is at small goes new_is =
    let from : old ≡ at_stage p c (Within a) = sym (ap (at_stage p c) (sym at) ∙ is) in
    let made_is : new ≡ at_stage (place (p + length piece)) (c ++ piece) (Within a) =
    new_is ∙ ap (λ (s : Scanning). at_stage (place (s.place + length piece)) (s.candidate ++ piece) s.stage) from in
    from_within p c a stage old (at_stage (place (p + length piece)) (c ++ piece) (Within a)) new piece (length piece) is at made_is (gathers_all p c a piece small goes.0 goes.1)

pub gather_before : (p : ℕ) (c : List ℕ) (a : ℕ) (stage : Stage) (old new : Scanning) (piece : List ℕ) (n : ℕ) → at_stage p c stage ≡ old → stage ≡ Within a → p < 2 ^ 64
    → GoesTo piece (room_of c) n × (get_or piece n 0 ≡ 1) → new ≡ at_stage (place (p + length (take n piece))) (c ++ take n piece) (Complete a)
    → TakesFront old piece n new
gather_before p c a stage old new piece n is at small goes new_is =
    let within = goes.0.within in
    let len : length (take n piece) ≡ n = length-take-le n piece (omega arith) in
    let made_is = new_is ∙ ap (λ k. at_stage (place (p + k)) (c ++ take n piece) (Complete a)) len in
    from_within p c a stage old (at_stage (place (p + n)) (c ++ take n piece) (Complete a)) new piece n is at made_is (gathers_before p c a piece n small goes.0 goes.1)

pub gather_with : (p : ℕ) (c : List ℕ) (a : ℕ) (stage : Stage) (old new : Scanning) (piece : List ℕ) (n : ℕ) → at_stage p c stage ≡ old → stage ≡ Within a → p < 2 ^ 64
    → GoesTo piece (room_of c) n × (get_or piece n 0 ≢ 1) × ((get_or piece n 0 == 3 || n + 1 == room_of c) ≡ true)
    → new ≡ at_stage (place (p + length (take (n + 1) piece))) (c ++ take (n + 1) piece) (Complete a) → TakesFront old piece (n + 1) new
gather_with p c a stage old new piece n is at small goes new_is =
    let within = goes.0.within in
    let len : length (take (n + 1) piece) ≡ n + 1 = length-take-le (n + 1) piece (omega arith) in
    let made_is = new_is ∙ ap (λ k. at_stage (place (p + k)) (c ++ take (n + 1) piece) (Complete a)) len in
    from_within p c a stage old (at_stage (place (p + (n + 1))) (c ++ take (n + 1) piece) (Complete a)) new piece (n + 1) is at made_is
    (gathers_with p c a piece n small goes.0 goes.1 goes.2)
