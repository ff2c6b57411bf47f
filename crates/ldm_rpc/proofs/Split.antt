-- A stream is records, and what is in hand behind them.
use Rattle.std.proofs.Common.{◌≡◌, ℕ, ◌+◌, ◌*◌, ◌%◌, ◌<◌, true, false, ltb, eqb, List, [], ◌∷◌, ◌++◌, length, refl, sym, ap, subst, ◌∙◌, append_assoc, arith, inl, inr}
use Rattle.std.specs.List.{flat_map}
use Rattle.std.proofs.lemmas.Bool.{cases_Bool}
use Rattle.std.proofs.lemmas.List.{append-nil, length-append}
use Rattle.std.proofs.lemmas.List.Elements.{All-nil, All-cons, All-head, All-tail}
use Rattle.ldm_rpc.specs.declared.stage.Stage.{Stage}
use Rattle.ldm_rpc.specs.declared.stage.Stage.TheVariants.{Header, Fragment, Whole, Faulty}
use Rattle.ldm_rpc.specs.declared.stage.TheConstants.{LAST_FRAGMENT}
use Rattle.ldm_rpc.specs.Reading.{Reading, after_byte, after_byte_in, after_header, begun, is_whole, is_whole_at}
use Rattle.ldm_rpc.specs.Spelling.{Record, Fits, IsShort, content, spelling}
use Rattle.ldm_rpc.specs.Streams.{Position, Placed, at_start, before_record, in_hand, placed, records_in}
use Rattle.ldm_types.specs.Info.{AreBytes}
use Rattle.ldm_rpc.specs.Fronts.{IsFront, IsFrontAt, IsRecord, Splits}
use Rattle.ldm_rpc.proofs.Joined.{forgets_none, given_none, position}
use Rattle.ldm_rpc.proofs.Found.{front_byte}

limit_of_header : (s : Reading) (number : ℕ) → (after_header s number).limit ≡ s.limit
limit_of_header s number =
    elim (cases_Bool (ltb s.limit (length s.content + number % LAST_FRAGMENT))) [ inl over ↦ rw over refl | inr fits ↦ rw fits refl ]

limit_at : (stage : Stage) (s : Reading) (byte : ℕ) → (after_byte_in stage s byte).limit ≡ s.limit
limit_at (Header came number) s byte =
    elim (cases_Bool (eqb came 3)) [ inl three ↦ rw three (limit_of_header s (number * 256 + byte)) | inr not ↦ rw not refl ]
limit_at (Fragment left last) s byte = refl
limit_at Whole s byte = refl
limit_at (Faulty fault) s byte = refl

pub limit_kept : (s : Reading) (byte : ℕ) → (after_byte s byte).limit ≡ s.limit
unfolding after_byte
limit_kept s byte = limit_at s.stage s byte

whole_front : (stage : Stage) (s : Reading) (bytes : List ℕ) → is_whole_at stage ≡ true → IsFrontAt stage s bytes → IsRecord s bytes
whole_front (Header came number) s bytes whole front = absurd cc
whole_front (Fragment left last) s bytes whole front = absurd cc
whole_front Whole s bytes whole front = front
whole_front (Faulty fault) s bytes whole front = absurd cc

begun_front : (limit : ℕ) → IsFront (begun limit) []
begun_front limit = record {
  before = [];
  part = [];
  spelled = refl;
  short = All-nil IsShort;
  came_is = refl;
  few = omega arith;
  number_is = refl;
  part_bytes = All-nil (λ byte. byte < 256);
  content_is = refl;
  within = omega arith;
  place_is = refl;
}

-- a whole record, and then a stream
record_then : (limit at : ℕ) (r : Record) (stream bytes : List ℕ) (out : List Placed) (p : Position) → Fits limit r → bytes ≡ spelling r ++ stream
    → Splits limit (at + length (spelling r)) stream out p
    → Splits limit at bytes (record { at = at; content = content r } ∷ out) p
unfolding placed
record_then limit at r stream bytes out p fits is split = record {
  records = r ∷ split.records;
  front = split.front;
  spelled = is ∙ ap (λ (x : List ℕ). spelling r ++ x) split.spelled ∙ sym (append_assoc (spelling r) (flat_map spelling split.records) split.front);
  fits = All-cons (Fits limit) r split.records fits split.fits;
  out_is = ap (λ (x : List Placed). record { at = at; content = content r } ∷ x) split.out_is;
  begins_is = omega (arith, split.begins_is, length-append (spelling r) (flat_map spelling split.records));
  came_is = split.came_is ∙ omega (arith, ap (λ (x : List ℕ). length x) is, length-append (spelling r) stream);
  front_is = split.front_is;
}

here : (at : ℕ) → at ≡ at + 0
here at = omega arith

-- a stream of which a front came already
splits_from : (limit at came : ℕ) (s : Reading) (front bytes : List ℕ) → AreBytes bytes → s.limit ≡ limit → is_whole s ≡ false → came ≡ at + length front
    → IsFront s front
    → Splits limit at (front ++ bytes) (records_in (position at came s) bytes) (in_hand (position at came s) bytes)
unfolding records_in in_hand placed
splits_from limit at came s front [] fits limit_is not came_is front_is = record {
  records = [];
  front = front;
  spelled = append-nil front;
  fits = All-nil (Fits limit);
  out_is = refl;
  begins_is = here at;
  came_is = came_is ∙ ap (λ (x : List ℕ). at + length x) (sym (append-nil front));
  front_is = front_is;
}
splits_from limit at came s front (byte ∷ bytes) fits limit_is not came_is front_is =
    let P : ℕ → Type 0 = λ n. n < 256 in
    let t = after_byte s byte in
    let next = front_byte s front byte (All-head P byte bytes fits) not front_is in
    let same : t.limit ≡ limit = limit_kept s byte ∙ limit_is in
    let parts : (front ++ byte ∷ []) ++ bytes ≡ front ++ byte ∷ bytes = append_assoc front (byte ∷ []) bytes in
    let one_more : came + 1 ≡ at + length (front ++ byte ∷ []) = omega (arith, came_is, length-append front (byte ∷ [])) in
    elim (cases_Bool (is_whole t)) [
      | inl whole ↦
          let r = whole_front t.stage t (front ++ byte ∷ []) whole next in
          let end : came + 1 ≡ at + length (spelling r.of) = one_more ∙ ap (λ (x : List ℕ). at + length x) r.spelled in
          let more = splits_from limit (at + length (spelling r.of)) (at + length (spelling r.of)) (begun t.limit) [] bytes (All-tail P byte bytes fits) same refl (here (at + length (spelling r.of))) (begun_front t.limit) in
          let is : front ++ byte ∷ bytes ≡ spelling r.of ++ bytes = sym parts ∙ ap (λ (x : List ℕ). x ++ bytes) r.spelled in
          let p = before_record t.limit (at + length (spelling r.of)) in
          let split = record_then limit at r.of bytes (front ++ byte ∷ bytes) (records_in p bytes) (in_hand p bytes) (subst (λ k. Fits k r.of) same r.fits) is more in
          rw (whole, r.content_is, end) split
      | inr not_yet ↦
          let more = splits_from limit at (came + 1) t (front ++ byte ∷ []) bytes (All-tail P byte bytes fits) same not_yet one_more next in
          rw (given_none at t not_yet, forgets_none at (came + 1) t not_yet, ← parts) more
    ]

pub splits : (limit : ℕ) (stream : List ℕ) → AreBytes stream → Splits limit 0 stream (records_in (at_start limit) stream) (in_hand (at_start limit) stream)
splits limit stream fits = splits_from limit 0 0 (begun limit) [] stream fits refl refl (here 0) (begun_front limit)
