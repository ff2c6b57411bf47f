-- The pieces of a stream, cut behind some of the first records that they complete.
use Rattle.std.proofs.Common.{◌≡◌, ◌∙◌, ℕ, ◌+◌, ◌-◌, ◌≤◌, Bool, true, false, List, [], ◌∷◌, ◌++◌, length, take, drop, inl, inr, refl, sym, ap, arith, append_assoc, append-nil}
use Rattle.std.specs.Prelude.{map}
use Rattle.std.proofs.lemmas.List.{length-append, length-take, take-append-drop, take_all}
use mathlib.Core.List.{IsPrefix}
use Rattle.ldm_rpc.specs.Reading.{Reading, after_byte, is_whole}
use Rattle.ldm_rpc.specs.Streams.{Position, Placed, forgets, given, in_hand, records_in}
use Rattle.ldm_intake.specs.Taken.{Arrival}
use Rattle.ldm_session.specs.declared.limits.TheConstants.{LONGEST_STREAM}
use Rattle.ldm_downstream.specs.Pieces.{Piece, within, arrived, arrivals, joined}
use Rattle.ldm_between_ends.specs.Passing.{moments_of}
use Rattle.ldm_between_ends.proofs.Cutting.{cut-twice}

-- ---- of some bytes

-- The first bytes, which complete just these records.
record CutBytes (p : Position) (bytes : List ℕ) (front : List Placed) : Type 0 where
  pub first : List ℕ
  pub rest : List ℕ
  pub all : first ++ rest ≡ bytes
  pub gives : records_in p first ≡ front

given-one : (begins : ℕ) (s : Reading) → is_whole s ≡ true → given begins s ≡ record { at = begins; content = s.content } ∷ []
given-one begins s whole = rw whole refl

given-none : (begins : ℕ) (s : Reading) → is_whole s ≡ false → given begins s ≡ []
given-none begins s not = rw not refl

-- where they are cut behind the first record, or later
module _ (p : Position) (byte : ℕ) (bytes : List ℕ) (x : Placed) (front behind : List Placed) where
  abbrev read : Reading
  read = after_byte p.reading byte

  abbrev next : Position
  next = forgets p.begins (p.came + 1) read

  with-byte : (those front' : List Placed) → given p.begins read ≡ those → those ++ front' ≡ x ∷ front → CutBytes next bytes front' → CutBytes p (byte ∷ bytes) (x ∷ front)
  unfolding records_in
  with-byte those front' one same cut = record {
    first = byte ∷ cut.first;
    rest = cut.rest;
    all = ap (λ (bs : List ℕ). byte ∷ bs) cut.all;
    gives = ap (λ (ps : List Placed). ps ++ records_in next cut.first) one ∙ ap (λ (ps : List Placed). those ++ ps) cut.gives ∙ same;
  }

  later : ((front' behind' : List Placed) → records_in next bytes ≡ front' ++ behind' → CutBytes next bytes front')
      → (those : List Placed) → given p.begins read ≡ those → those ++ records_in next bytes ≡ x ∷ (front ++ behind) → (whole : Bool) → is_whole read ≡ whole
      → CutBytes p (byte ∷ bytes) (x ∷ front)
  later goes_on those one is true whole =
      let only : Placed = record { at = p.begins; content = read.content } in
      let same : only ∷ records_in next bytes ≡ x ∷ (front ++ behind) =
      ap (λ (ps : List Placed). ps ++ records_in next bytes) (sym (given-one p.begins read whole) ∙ one) ∙ is in
      let head : only ≡ x = cc same in
      let tail : records_in next bytes ≡ front ++ behind = cc same in
      with-byte (only ∷ []) front (given-one p.begins read whole) (ap (λ (y : Placed). y ∷ front) head) (goes_on front behind tail)
  later goes_on those one is false whole =
      let same : records_in next bytes ≡ x ∷ (front ++ behind) =
      ap (λ (ps : List Placed). ps ++ records_in next bytes) (sym (given-none p.begins read whole) ∙ one) ∙ is in
      with-byte [] (x ∷ front) (given-none p.begins read whole) refl (goes_on (x ∷ front) behind same)

cut-bytes : (p : Position) (bytes : List ℕ) (front behind : List Placed) → records_in p bytes ≡ front ++ behind → CutBytes p bytes front
unfolding records_in
cut-bytes p bytes [] behind is = record { first = []; rest = bytes; all = refl; gives = refl }
cut-bytes p [] (x ∷ front) behind is = absurd (cc is)
cut-bytes p (byte ∷ bytes) (x ∷ front) behind is =
    let s = after_byte p.reading byte in
    later p byte bytes x front behind (λ front' behind' same. cut-bytes (forgets p.begins (p.came + 1) s) bytes front' behind' same)
    (given p.begins s) refl is (is_whole s) refl

-- ---- of some pieces

-- The first pieces, the last one perhaps shorter, which complete just these records.
pub record CutPieces (p : Position) (pieces : List Piece) (front : List Arrival) : Type 0 where
  pub first : List Piece
  pub gives : arrivals p first ≡ front
  pub bytes : IsPrefix (joined first) (joined pieces)
  pub moments : IsPrefix (moments_of first) (moments_of pieces)

-- records that came at a moment, cut
record CutRecords (now : ℕ) (records : List Placed) (front : List Arrival) : Type 0 where
  pub first : List Placed
  pub rest : List Placed
  pub all : records ≡ first ++ rest
  pub gives : arrived now first ≡ front

cut-records-at : (now : ℕ) (records : List Placed) (front behind : List Arrival) → arrived now records ≡ front ++ behind → CutRecords now records front
cut-records-at now records [] behind is = record { first = []; rest = records; all = refl; gives = refl }
cut-records-at now [] (a ∷ front) behind is = absurd (cc is)
cut-records-at now (r ∷ records) (a ∷ front) behind is =
    let made : Arrival = record { now = now; at = r.at; content = r.content } in
    let head : made ≡ a = cc is in
    let tail : arrived now records ≡ front ++ behind = cc is in
    let cut = cut-records-at now records front behind tail in
    record {
      first = r ∷ cut.first;
      rest = cut.rest;
      all = ap (λ (rs : List Placed). r ∷ rs) cut.all;
      gives = (λ i. head i ∷ cut.gives i);
    }

-- the bytes that are taken are no more than may be
within-front : (p : Position) (bytes first rest : List ℕ) → first ++ rest ≡ within p bytes → within p first ≡ first
within-front p bytes first rest is =
    take_all (LONGEST_STREAM - p.came) first
    (omega (arith, length-append first rest, ap (λ (bs : List ℕ). length bs) is, length-take-most (LONGEST_STREAM - p.came) bytes))
  where
    length-take-most : (n : ℕ) (bs : List ℕ) → length (take n bs) ≤ n
    length-take-most n bs = omega (arith, length-take n bs)

pub cut-pieces : (p : Position) (pieces : List Piece) (front behind : List Arrival) → arrivals p pieces ≡ front ++ behind → CutPieces p pieces front
unfolding arrivals
cut-pieces p [] [] behind is = record { first = []; gives = refl; bytes = ([], refl); moments = ([], refl) }
cut-pieces p [] (a ∷ front) behind is = absurd (cc is)
cut-pieces p (piece ∷ pieces) front behind is =
    let taken = within p piece.bytes in
    let next = in_hand p taken in
    let one = arrived piece.now (records_in p taken) in
    elim (cut-twice front behind one (arrivals next pieces) (sym is)) [
      | inl w ↦ (
          let cut = cut-pieces next pieces w.0 behind (sym w.2) in
          record {
            first = piece ∷ cut.first;
            gives = ap (λ (came : List Arrival). one ++ came) cut.gives ∙ sym w.1;
            bytes = (cut.bytes.0, append_assoc piece.bytes (joined cut.first) cut.bytes.0 ∙ ap (λ (bs : List ℕ). piece.bytes ++ bs) cut.bytes.1);
            moments = (cut.moments.0, ap (λ (ns : List ℕ). piece.now ∷ ns) cut.moments.1);
          }
          )
      | inr w ↦ (
          let records = cut-records-at piece.now (records_in p taken) front w.0 (sym w.1) in
          let cut = cut-bytes p taken records.first records.rest records.all in
          let shorter : Piece = record { now = piece.now; bytes = cut.first } in
          let over = drop (LONGEST_STREAM - p.came) piece.bytes in
          let rest = cut.rest ++ (over ++ joined pieces) in
          record {
            first = shorter ∷ [];
            gives = append-nil (arrived piece.now (records_in p (within p cut.first)))
                ∙ ap (λ (bs : List ℕ). arrived piece.now (records_in p bs)) (within-front p piece.bytes cut.first cut.rest cut.all)
                ∙ ap (arrived piece.now) cut.gives ∙ records.gives;
            bytes = (
              rest,
              ap (λ (bs : List ℕ). bs ++ rest) (append-nil cut.first)
                  ∙ sym (append_assoc cut.first cut.rest (over ++ joined pieces))
                  ∙ ap (λ (bs : List ℕ). bs ++ (over ++ joined pieces)) cut.all
                  ∙ sym (append_assoc taken over (joined pieces))
                  ∙ ap (λ (bs : List ℕ). bs ++ joined pieces) (take-append-drop (LONGEST_STREAM - p.came) piece.bytes),
            );
            moments = (moments_of pieces, refl);
          }
          )
    ]
