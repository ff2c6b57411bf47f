-- A piece, by the bytes of it that are taken.
use Rattle.std.proofs.Common.{◌≡◌, ℕ, ◌-◌, ◌≤◌, ◌<◌, Bool, true, false, List, length, take, min, leb, Option, Some, None, is_some, inl, inr, refl, ap, sym, subst, ◌∙◌, arith}
use Rattle.std.proofs.lemmas.Bool.Decides.{nat_tests}
use Rattle.std.proofs.lemmas.List.{take_all}
use Rattle.ldm_rpc.specs.Reading.{is_faulty}
use Rattle.ldm_rpc.specs.Streams.{Position, Placed, records_in, in_hand}
use Rattle.ldm_watch.specs.declared.end.WatchEnd.{WatchEnd}
use Rattle.ldm_watch.specs.declared.end.WatchEnd.TheVariants.{BadFrame, StreamLimit}
use Rattle.ldm_session.specs.declared.limits.TheConstants.{LONGEST_STREAM}
use Rattle.ldm_watch.specs.declared.stop.Stop.{Stop}
use Rattle.ldm_watch.specs.declared.stop.Stop.TheVariants.{Over, OutOfMemory}
use Rattle.ldm_watch.specs.Taking.{Standing, StopsBy, Takes, TakesAll}
use Rattle.ldm_watch.specs.Told.{end_by_bytes, within}
use Rattle.ldm_watch.specs.Turns.{TakesBytes, TakesPiece, Runs, Passes, EndsIn, TooLong, Cuts}
use Rattle.ldm_watch.proofs.Followed.{takes-same}

-- the bytes up to the limit
taken-of : (room : ℕ) (bytes : List ℕ) (few : Bool) → leb room (length bytes) ≡ few → take (min room (length bytes)) bytes ≡ take room bytes
taken-of room bytes true few = let same : min room (length bytes) ≡ room = grind (arith, nat_tests) in ap (λ (n : ℕ). take n bytes) same
taken-of room bytes false few =
    let same : min room (length bytes) ≡ length bytes = grind (arith, nat_tests) in
    let more : length bytes ≤ room = grind (arith, nat_tests) in
    ap (λ (n : ℕ). take n bytes) same ∙ take_all (length bytes) bytes (omega arith) ∙ sym (take_all room bytes more)

pub taken-within : (p : Position) (bytes : List ℕ) (room n : ℕ) → room ≡ LONGEST_STREAM - p.came → n ≡ min room (length bytes) → take n bytes ≡ within p bytes
taken-within p bytes room n room_is n_is =
    ap (λ (k : ℕ). take k bytes) (n_is ∙ ap (λ (r : ℕ). min r (length bytes)) room_is)
    ∙ taken-of (LONGEST_STREAM - p.came) bytes (leb (LONGEST_STREAM - p.came) (length bytes)) refl

module _ (piece : List ℕ) (p : Position) (bytes : List ℕ) (old new : Standing) (taken_is : bytes ≡ within p piece) where
  records-are : records_in p bytes ≡ records_in p (within p piece)
  records-are = ap (records_in p) taken_is

  hand-is : in_hand p bytes ≡ in_hand p (within p piece)
  hand-is = ap (in_hand p) taken_is

  all-taken : (end : Option WatchEnd) → Takes (records_in p bytes) end old new → Takes (records_in p (within p piece)) end old new
  all-taken end takes = takes-same (records_in p bytes) (records_in p (within p piece)) end old new records-are takes

  -- all of it was taken, and the stream goes on
  piece-none : (q : Position) → TakesBytes bytes p q old new → leb LONGEST_STREAM q.came ≡ false → TakesPiece piece p q old new
  piece-none q takes below = record {
    takes = all-taken None takes.takes;
    hand_is = takes.hand_is ∙ hand-is;
    goes_on = rw (takes.sound, below) refl;
  }

  -- all of it was taken, up to the limit
  piece-limit : (q : Position) → TakesBytes bytes p q old new → leb LONGEST_STREAM q.came ≡ true → EndsIn StreamLimit piece p old new
  piece-limit q takes reached = record {
    by_record = None;
    takes = all-taken None takes.takes;
    end_is = ap end_by_bytes (sym (takes.hand_is ∙ hand-is)) ∙ rw (takes.sound, reached) refl;
  }

  pub pieces-limit : (stop : Option Stop) (q : Position) → is_some stop ≡ false → Runs stop bytes p q old new → leb LONGEST_STREAM q.came ≡ true
      → EndsIn StreamLimit piece p old new
  pieces-limit None q none runs reached = piece-limit q runs reached
  pieces-limit (Some stop) q none runs reached = absurd (cc none)

  stopped-by : (stop : Stop) (q : Position) → StopsBy stop (records_in p bytes) old new → Passes (Some stop) piece p q old new
  stopped-by (Over end) q stops = record { by_record = Some end; takes = all-taken (Some end) stops; end_is = refl }
  stopped-by OutOfMemory q stops = tt

  too-long : (stop : Stop) (q : Position) → TooLong stop (records_in p bytes) (in_hand p bytes) old new → Passes (Some stop) piece p q old new
  too-long stop q cut =
      let h = in_hand p bytes in
      let there : EndsIn (BadFrame h.begins) piece p old new = record {
        by_record = None;
        takes = all-taken None cut.takes;
        end_is = ap end_by_bytes (sym hand-is) ∙ rw cut.faulty refl;
      } in
      subst (λ (s : Stop). Passes (Some s) piece p q old new) (sym cut.stop_is) there

  piece-cut : (stop : Stop) (q : Position) → Cuts stop (records_in p bytes) (in_hand p bytes) old new → Passes (Some stop) piece p q old new
  piece-cut stop q cuts = elim cuts [ inl cut ↦ too-long stop q cut | inr stops ↦ stopped-by stop q stops ]

  -- what the bytes came to, where a stream that goes on is below the limit
  pub piece-passes : (stop : Option Stop) (q : Position) → Runs stop bytes p q old new → (is_some stop ≡ false → leb LONGEST_STREAM q.came ≡ false) → Passes stop piece p q old new
  piece-passes None q runs below = piece-none q runs (below refl)
  piece-passes (Some stop) q runs below = piece-cut stop q runs

pub below-limit : (limit n : ℕ) → n ≤ limit → (n ≡ limit → ⊥) → leb limit n ≡ false
below-limit limit n most other = let less : n < limit = omega arith in grind (arith, nat_tests)
