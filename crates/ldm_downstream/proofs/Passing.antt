-- A piece, by the bytes of it that are taken.
use Rattle.std.proofs.Common.{◌≡◌, ℕ, ◌-◌, ◌≤◌, ◌<◌, Bool, true, false, List, [], ◌∷◌, length, take, min, leb, Option, Some, None, is_some, inl, inr, refl, ap, sym, subst, ◌∙◌, arith}
use Rattle.std.proofs.lemmas.Bool.Decides.{nat_tests}
use Rattle.std.proofs.lemmas.List.{take_all}
use Rattle.ldm_rpc.specs.Reading.{is_faulty}
use Rattle.ldm_rpc.specs.Streams.{Position, records_in, in_hand}
use Rattle.ldm_shared.specs.Passes.{PassView}
use Rattle.ldm_intake.specs.declared.end.RecvEnd.{RecvEnd}
use Rattle.ldm_intake.specs.declared.end.RecvEnd.TheVariants.{Ended, Truncated, BadFrame, Refused, LinkFault, LogFault, StreamLimit, Worn, OutOfMemory}
use Rattle.ldm_intake.specs.Taken.{taken, taken_none}
use Rattle.ldm_intake.specs.TakesRecord.{Standing}
use Rattle.ldm_session.specs.declared.limits.TheConstants.{LONGEST_STREAM}
use Rattle.ldm_downstream.specs.Pieces.{Piece, within, arrived, arrivals, hand}
use Rattle.ldm_downstream.specs.ReceiverView.{ReceiverView}
use Rattle.ldm_downstream.specs.Received.{at_stream_end, end_by_bytes}
use Rattle.ldm_downstream.specs.Taking.{Takes, BreaksOff}
use Rattle.ldm_downstream.specs.Turns.{TakesAll, TakesBytes, TakesPiece, Runs, Passes, EndsIn, Stops, StopsBy, TooLong, Cuts}
use Rattle.ldm_downstream.specs.Pushing.{Finishes, EndsAt, ClosesIf}
use Rattle.ldm_downstream.proofs.Arrivals.{arrivals-one, hand-one}
use Rattle.ldm_downstream.proofs.Followed.{takes-same, breaks-same}
use Rattle.ldm_downstream.proofs.Ending.{end-worn}

-- the bytes up to the limit
taken-of : (room : ℕ) (bytes : List ℕ) (few : Bool) → leb room (length bytes) ≡ few → take (min room (length bytes)) bytes ≡ take room bytes
taken-of room bytes true few = let same : min room (length bytes) ≡ room = grind (arith, nat_tests) in ap (λ (n : ℕ). take n bytes) same
taken-of room bytes false few =
    let same : min room (length bytes) ≡ length bytes = grind (arith, nat_tests) in
    let more : length bytes ≤ room = grind (arith, nat_tests) in
    ap (λ (n : ℕ). take n bytes) same ∙ take_all (length bytes) bytes (omega arith) ∙ sym (take_all room bytes more)

pub taken-within : (p : Position) (bytes : List ℕ) (room n : ℕ) → room ≡ LONGEST_STREAM - p.came → n ≡ min room (length bytes) → take n bytes ≡ within p bytes
taken-within p bytes room n room_is n_is =
    ap (λ (k : ℕ). take k bytes) (n_is ∙ ap (λ (r : ℕ). min r (length bytes)) room_is)
    ∙ taken-of (LONGEST_STREAM - p.came) bytes (leb (LONGEST_STREAM - p.came) (length bytes)) refl

module _ (piece : Piece) (p : Position) (bytes : List ℕ) (old new : Standing) (taken_is : bytes ≡ within p piece.bytes) where
  records-are : arrived piece.now (records_in p bytes) ≡ arrivals p (piece ∷ [])
  records-are = ap (λ (xs : List ℕ). arrived piece.now (records_in p xs)) taken_is ∙ sym (arrivals-one p piece)

  hand-is : in_hand p bytes ≡ hand p (piece ∷ [])
  hand-is = ap (in_hand p) taken_is ∙ sym (hand-one p piece)

  all-taken : TakesAll (arrived piece.now (records_in p bytes)) old new → TakesAll (arrivals p (piece ∷ [])) old new
  all-taken takes = takes-same old.receiving (arrived piece.now (records_in p bytes)) (arrivals p (piece ∷ [])) None old new records-are takes

  -- all of it was taken, and the stream goes on
  pub piece-none : (q : Position) → TakesBytes piece.now bytes p q old new → leb LONGEST_STREAM q.came ≡ false → TakesPiece piece p q old new
  piece-none q takes below = record {
    takes = all-taken takes.takes;
    hand_is = takes.hand_is ∙ hand-is;
    goes_on = rw (takes.sound, below) refl;
  }

  -- all of it was taken, up to the limit
  pub piece-limit : (q : Position) → TakesBytes piece.now bytes p q old new → leb LONGEST_STREAM q.came ≡ true → EndsIn StreamLimit (arrivals p (piece ∷ [])) (hand p (piece ∷ [])) old new
  piece-limit q takes reached = record {
    by_record = None;
    takes = all-taken takes.takes;
    end_is = ap end_by_bytes (sym (takes.hand_is ∙ hand-is)) ∙ rw (takes.sound, reached) refl;
  }

  pub pieces-limit : (end : Option RecvEnd) (q : Position) → is_some end ≡ false → Runs end piece.now bytes p q old new → leb LONGEST_STREAM q.came ≡ true
      → EndsIn StreamLimit (arrivals p (piece ∷ [])) (hand p (piece ∷ [])) old new
  pieces-limit None q none runs reached = piece-limit q runs reached
  pieces-limit (Some end) q none runs reached = absurd (cc none)

  by-record : (end : RecvEnd) → Takes (taken (taken_none old.receiving) (arrived piece.now (records_in p bytes))) (Some end) old new
      → EndsIn end (arrivals p (piece ∷ [])) (hand p (piece ∷ [])) old new
  by-record end takes = record {
    by_record = Some end;
    takes = takes-same old.receiving (arrived piece.now (records_in p bytes)) (arrivals p (piece ∷ [])) (Some end) old new records-are takes;
    end_is = refl;
  }

  broken : BreaksOff (arrived piece.now (records_in p bytes)) old new → BreaksOff (arrivals p (piece ∷ [])) old new
  broken breaks = breaks-same (arrived piece.now (records_in p bytes)) (arrivals p (piece ∷ [])) old new records-are breaks

  stopped-by : (end : RecvEnd) → StopsBy end (arrived piece.now (records_in p bytes)) old new → Stops end (arrivals p (piece ∷ [])) (hand p (piece ∷ [])) old new
  stopped-by (BadFrame at) stops = by-record (BadFrame at) stops
  stopped-by (Refused answer) stops = by-record (Refused answer) stops
  stopped-by Worn stops = (broken stops.0, stops.1)
  stopped-by OutOfMemory stops = broken stops
  stopped-by StreamLimit stops = absurd stops
  stopped-by Ended stops = absurd stops
  stopped-by (Truncated at) stops = absurd stops
  stopped-by LinkFault stops = absurd stops
  stopped-by LogFault stops = absurd stops

  too-long : (end : RecvEnd) → TooLong end (arrived piece.now (records_in p bytes)) (in_hand p bytes) old new → Stops end (arrivals p (piece ∷ [])) (hand p (piece ∷ [])) old new
  too-long end cut =
      let h = in_hand p bytes in
      let there : EndsIn (BadFrame h.begins) (arrivals p (piece ∷ [])) (hand p (piece ∷ [])) old new = record {
        by_record = None;
        takes = all-taken cut.takes;
        end_is = ap end_by_bytes (sym hand-is) ∙ rw cut.faulty refl;
      } in
      subst (λ (e : RecvEnd). Stops e (arrivals p (piece ∷ [])) (hand p (piece ∷ [])) old new) (sym cut.end_is) there

  pub piece-cut : (end : RecvEnd) → Cuts end (arrived piece.now (records_in p bytes)) (in_hand p bytes) old new → Stops end (arrivals p (piece ∷ [])) (hand p (piece ∷ [])) old new
  piece-cut end cuts = elim cuts [ inl cut ↦ too-long end cut | inr stops ↦ stopped-by end stops ]

  -- what the bytes came to, where a stream that goes on is below the limit
  pub piece-passes : (end : Option RecvEnd) (q : Position) → Runs end piece.now bytes p q old new → (is_some end ≡ false → leb LONGEST_STREAM q.came ≡ false) → Passes end piece p q old new
  piece-passes None q runs below = piece-none q runs (below refl)
  piece-passes (Some end) q runs below = piece-cut end runs

-- ---- a receiver

-- what is in hand is not too long, where it goes on
pub sound-of : (q : Position) → end_by_bytes q ≡ None → is_faulty q.reading ≡ false
sound-of q none = by (is_faulty q.reading) refl where
  by : (b : Bool) → is_faulty q.reading ≡ b → is_faulty q.reading ≡ false
  by false is = is
  by true is = absurd (let same : Some (BadFrame q.begins) ≡ None = sym (rw is refl) ∙ none in cc same)

pub ends-at : (end : Option RecvEnd) (result : RecvEnd) (receiver new : ReceiverView) (pass after : PassView) → end ≡ None
    → Finishes (at_stream_end receiver.hand receiver.receiving) result receiver new pass after → EndsAt end result receiver pass after
ends-at None result receiver new pass after live finishes =
    let e = at_stream_end receiver.hand receiver.receiving in
    (new.receiving, subst (λ (w : Bool). ClosesIf w e result receiver.receiving new.receiving pass after) (end-worn receiver.hand receiver.receiving) finishes.closes)
ends-at (Some end) result receiver new pass after live finishes = absurd (cc live)

-- ---- the limit

pub below-limit : (limit n : ℕ) → n ≤ limit → (n ≡ limit → ⊥) → leb limit n ≡ false
below-limit limit n most other = let less : n < limit = omega arith in grind (arith, nat_tests)
