-- What a receiving comes to where bytes come straight into the record in hand, or none.
use Rattle.std.proofs.Common.{◌≡◌, ℕ, ◌+◌, ◌<◌, ◌≤◌, leb, Bool, true, false, List, [], ◌∷◌, ◌++◌, length, drop, Option, Some, None, refl, ap, sym, subst, ◌∙◌, arith}
use Rattle.std.proofs.lemmas.Bool.Decides.{nat_tests}
use Rattle.std.proofs.lemmas.List.{drop_all}
use Rattle.ldm_outside.specs.Clock.{Answers}
use Rattle.ldm_outside.specs.declared.io.Got.{Got}
use Rattle.ldm_outside.specs.declared.io.Got.TheVariants.{Bytes, End, Failed}
use Rattle.ldm_outside.specs.Link.{LinkRecord}
use Rattle.ldm_outside.specs.Session.{SessionRecord}
use Rattle.ldm_rpc.specs.Filling.{IsFilled, filled}
use Rattle.ldm_rpc.specs.Reading.{Reading, after, bytes_taken, is_faulty, is_whole}
use Rattle.ldm_rpc.specs.Streams.{Placed, Position, forgets, given, in_hand, records_in}
use Rattle.ldm_rpc.proofs.CallerLemmas.{reads_all, reads_more, reads_none}
use Rattle.ldm_rpc.proofs.Joined.{forgets_none, given_none}
use Rattle.ldm_session.proofs.CallerLemmas.{Exchanged-gave}
use Rattle.ldm_session.specs.declared.limits.TheConstants.{LONGEST_STREAM}
use Rattle.ldm_shared.specs.Passes.{PassView}
use Rattle.ldm_intake.specs.declared.end.RecvEnd.{RecvEnd}
use Rattle.ldm_intake.specs.declared.end.RecvEnd.TheVariants.{LinkFault, StreamLimit}
use Rattle.ldm_downstream.specs.declared.limits.TheConstants.{LONGEST_PIECE}
use Rattle.ldm_downstream.specs.Filling.{Came, Fills}
use Rattle.ldm_downstream.specs.Pieces.{Piece, arrived}
use Rattle.ldm_downstream.specs.Pushing.{FailsAt, Finishes}
use Rattle.ldm_downstream.specs.Received.{GoesOnAt, at_stream_end, end_by_bytes}
use Rattle.ldm_downstream.specs.ReceiverView.{ReceiverView}
use Rattle.ldm_downstream.specs.Sessions.{HasCome, RunsOn, RunsOut, settled}
use Rattle.ldm_downstream.specs.Turns.{TakesAll}
use Rattle.ldm_downstream.proofs.Cut.{all-within, came-behind}
use Rattle.ldm_downstream.proofs.Followed.{takes-none}
use Rattle.ldm_downstream.proofs.Rounds.{round-written}
use Rattle.ldm_downstream.proofs.Passing.{below-limit, piece-none, sound-of}
use Rattle.ldm_downstream.proofs.PieceEnds.{takes-continues}
use Rattle.ldm_downstream.proofs.SessionTurns.{nothing-written, turn-ended, turn-failed}

-- where a reader stands behind bytes that complete no record
abbrev pub stands-behind : Position → List ℕ → Position
stands-behind p bytes = record { reading = after p.reading bytes; begins = p.begins; came = p.came + bytes_taken p.reading bytes }

completes-none : (p : Position) (bytes : List ℕ) → is_whole p.reading ≡ false → length bytes ≡ bytes_taken p.reading bytes → is_whole (after p.reading bytes) ≡ false
    → (records_in p bytes ≡ []) × (stands-behind p bytes ≡ in_hand p bytes)
completes-none p bytes ready all not =
    let r = after p.reading bytes in
    let n = bytes_taken p.reading bytes in
    let none : [] ≡ [] ++ given p.begins r = sym (given_none p.begins r not) in
    let here : stands-behind p bytes ≡ forgets p.begins (p.came + n) r = sym (forgets_none p.begins (p.came + n) r not) in
    let left : drop n bytes ≡ [] = drop_all n bytes (omega (arith, all)) in
    let read = reads_all p bytes [] (stands-behind p bytes) (drop n bytes) [] left
    (reads_more p bytes [] p bytes [] n r (stands-behind p bytes) (drop n bytes) [] (reads_none p bytes [] ready) refl refl none here not refl) in
    (sym read.0, read.1)

-- a filler put bytes that a link gave, or none
pub fills : (got : Got) (p : Position) (r : Reading) (most n : ℕ) (old new : LinkRecord) → is_whole p.reading ≡ false → IsFilled p.reading r most n
    → p.came + most < LONGEST_STREAM → most ≤ LONGEST_PIECE → Came got (filled p.reading r) old new → Fills got p (record { reading = r; begins = p.begins; came = p.came + n }) old new
fills got p r most n old new ready is room few came =
    let bytes = filled p.reading r in
    let taken : n ≡ bytes_taken p.reading bytes = is.taken in
    let within : n ≤ most = is.within in
    let none = completes-none p bytes ready (sym is.count ∙ is.taken) (sym (ap is_whole is.after) ∙ is.unended) in
    let count : n ≡ length bytes = is.count in
    record {
      bytes = bytes;
      came = came;
      few = omega (arith, within, few, count);
      no_record = none.0;
      hand_is = ap (λ (s : Reading). record { reading = s; begins = p.begins; came = p.came + n }) is.after
          ∙ ap (λ (k : ℕ). record { reading = after p.reading bytes; begins = p.begins; came = p.came + k }) taken ∙ none.1;
      sound = is.sound;
      below = omega (arith, within, room);
    }

-- ---- a receiver

below_of : (p : Position) (full : Bool) → leb LONGEST_STREAM p.came ≡ full → is_faulty p.reading ≡ false → end_by_bytes p ≡ None → p.came < LONGEST_STREAM
below_of p true full sound none =
    let ended : end_by_bytes p ≡ Some StreamLimit = rw (sound, full) refl in
    absurd (let same : Some StreamLimit ≡ None = sym ended ∙ none in cc same)
below_of p false less sound none = grind (arith, nat_tests)

-- more can be taken of a stream that goes on
pub goes-below : (end : Option RecvEnd) (p : Position) → end ≡ None → GoesOnAt end p → p.came < LONGEST_STREAM
goes-below end p live goes =
    let none : end_by_bytes p ≡ None = subst (λ (e : Option RecvEnd). GoesOnAt e p) live goes in
    below_of p (leb LONGEST_STREAM p.came) refl (sound-of p none) none

-- ---- a turn

-- none came
fills-none : (got : Got) (receiver was : ReceiverView) (old new : LinkRecord) (came : Fills got receiver.hand was.hand old new) → came.bytes ≡ []
    → was ≡ record receiver { hand = was.hand } → was ≡ receiver
unfolding in_hand
fills-none got receiver was old new came none same =
    same ∙ ap (λ (v : Position). record receiver { hand = v }) (came.hand_is ∙ ap (in_hand receiver.hand) none)

module _ (receiver was is_now : ReceiverView) (result : RecvEnd) (pass after : PassView) (old new : SessionRecord) (same : was ≡ record receiver { hand = was.hand })
    (live : receiver.end ≡ None) (goes : GoesOnAt was.end was.hand) (log : new.log ≡ old.log) (clock : new.clock ≡ old.clock) where
  from : was ≡ receiver → RunsOut result [] is_now after was.hand (settled was.receiving pass) old new
      → RunsOut result [] is_now after receiver.hand (settled receiver.receiving pass) old new
  from still there = subst (λ (r : ReceiverView). RunsOut result [] is_now after r.hand (settled r.receiving pass) old new) still there

  live-still : was.end ≡ None
  live-still = ap (λ (r : ReceiverView). r.end) same ∙ live

  -- the stream ended
  pub filled-ended : Fills End receiver.hand was.hand old.link new.link → Finishes (at_stream_end was.hand was.receiving) result was is_now pass after
      → RunsOut result [] is_now after receiver.hand (settled receiver.receiving pass) old new
  filled-ended came finishes =
      from (fills-none End receiver was old.link new.link came came.came.0 same)
      (turn-ended [] result was is_now pass after old new came.came.1 log clock live-still goes finishes)

  -- the link failed
  pub filled-failed : Fills Failed receiver.hand was.hand old.link new.link → FailsAt was.end LinkFault result was is_now pass after
      → RunsOut result [] is_now after receiver.hand (settled receiver.receiving pass) old new
  filled-failed came fails =
      from (fills-none Failed receiver was old.link new.link came came.came.0 same)
      (turn-failed [] result was is_now pass after old new came.came.1 log clock live-still goes fails)

-- some came: they are a piece
pub turn-filled : (n now : ℕ) (receiver is_now : ReceiverView) (pass : PassView) (old new : SessionRecord) → Fills (Bytes n) receiver.hand is_now.hand old.link new.link
    → is_now ≡ record receiver { hand = is_now.hand } → receiver.end ≡ None → new.log ≡ old.log → Answers now old.clock new.clock
    → RunsOn [] is_now pass receiver.hand (settled receiver.receiving pass) old new
turn-filled n now receiver is_now pass old new came same live log moment =
    let p = receiver.hand in
    let q = is_now.hand in
    let bytes = came.bytes in
    let piece : Piece = record { now = now; bytes = bytes } in
    let a = settled receiver.receiving pass in
    let below : q.came < LONGEST_STREAM = came.below in
    let count : q.came ≡ p.came + length bytes = ap (λ (v : Position). v.came) came.hand_is ∙ came-behind p bytes in
    let all = all-within p bytes (omega (arith, below, count)) in
    let takes : TakesAll (arrived now (records_in p bytes)) a a =
    subst (λ (records : List Placed). TakesAll (arrived now records) a a) (sym came.no_record) (takes-none a) in
    let taken = piece-none piece p bytes a a (sym all) q (record { takes = takes; hand_is = came.hand_is; sound = came.sound })
    (below-limit LONGEST_STREAM q.came (omega (arith, below)) (λ full. omega (arith, below, full))) in
    let come : HasCome [] piece old new = record {
      given = bytes;
      all = refl;
      few = came.few;
      exchanged = Exchanged-gave old.link new.link bytes came.came.2;
      gave = ap (λ (l : LinkRecord). l.passed) came.came.2.1;
      faults = ap (λ (l : LinkRecord). l.faults) came.came.2.1;
      log = log;
      moment = moment;
    } in
    let continues = takes-continues p q (piece ∷ []) a a taken.takes (sym (ap end_by_bytes taken.hand_is) ∙ taken.goes_on) taken.hand_is in
    let receiving : receiver.receiving ≡ is_now.receiving = ap (λ (r : ReceiverView). r.receiving) (sym same) in
    round-written None [] piece p is_now pass receiver.receiving pass a old new new (ap (λ (r : ReceiverView). r.end) same ∙ live) receiving refl continues come refl
    (nothing-written new)
