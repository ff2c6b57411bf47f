-- How a turn of a receiving over a link leaves it.
use Rattle.std.proofs.Common.{◌≡◌, ℕ, Bool, true, false, List, [], ◌∷◌, ◌++◌, Option, Some, None, inl, inr, refl, ap, sym, subst, ◌∙◌}
use Rattle.std.specs.Prelude.{if◌then◌else◌}
use Rattle.std.proofs.lemmas.List.{append-nil}
use Rattle.ldm_rpc.specs.Streams.{Position}
use Rattle.ldm_outside.specs.Session.{SessionRecord, KeepsFaults}
use Rattle.ldm_shared.specs.Passes.{PassView}
use Rattle.ldm_intake.specs.declared.end.RecvEnd.{RecvEnd}
use Rattle.ldm_intake.specs.declared.end.RecvEnd.TheVariants.{Ended, Truncated, BadFrame, Refused, LinkFault, LogFault, StreamLimit, Worn, OutOfMemory}
use Rattle.ldm_intake.specs.Receiving.{Receiving}
use Rattle.ldm_intake.specs.TakesRecord.{Standing}
use Rattle.ldm_downstream.specs.Pieces.{Piece}
use Rattle.ldm_downstream.specs.ReceiverView.{ReceiverView}
use Rattle.ldm_downstream.specs.Received.{at_stream_end, is_edge}
use Rattle.ldm_downstream.specs.Pushing.{Continues, EndsEarly, EndsWhole, Ends, Pushes, ClosesIf, FailsAt, is_worn}
use Rattle.ldm_downstream.specs.Answering.{TimedRound, piece_of, place_of, rounds_of}
use Rattle.ldm_downstream.specs.InTurn.{sent_in}
use Rattle.ldm_downstream.specs.Receives.{AnswersInTurn, Comes, Passed, Cause, ReceivingHasEnded, Receives, is_first_sent, is_whole_end}
use Rattle.ldm_session.specs.Part.{IsPart}
use Rattle.ldm_downstream.specs.Sessions.{Advances, HasCome, IsFront, Rounds, RunsOn, RunsOut, Writes, settled}
use Rattle.ldm_downstream.proofs.PieceEnds.{closed_at}
use Rattle.ldm_downstream.proofs.Ending.{in_front_of, anew, comes-stream, comes-fault, comes-ends, early-whole, end-worn}
use Rattle.ldm_downstream.proofs.InTurn.{rounds-none}
use Rattle.ldm_downstream.proofs.Linked.{Advances-then, IsPart-equal, Passed-piece, Receives-then, round-of}

cause-ends : (end : RecvEnd) (pieces : List Piece) (p : Position) (a b : Standing) (old new : SessionRecord) → Ends end pieces p a b → Cause end b.pass old new
cause-ends (BadFrame at) pieces p a b old new ends = tt
cause-ends (Refused answer) pieces p a b old new ends = tt
cause-ends StreamLimit pieces p a b old new ends = tt
cause-ends OutOfMemory pieces p a b old new ends = tt
cause-ends Worn pieces p a b old new ends = ends.worn
cause-ends Ended pieces p a b old new ends = absurd ends
cause-ends (Truncated at) pieces p a b old new ends = absurd ends
cause-ends LinkFault pieces p a b old new ends = absurd ends
cause-ends LogFault pieces p a b old new ends = absurd ends

pub front-all : (xs : List ℕ) → IsFront xs xs
front-all xs = record { rest = []; is = append-nil xs }

pub front-none : (xs : List ℕ) → IsFront [] xs
front-none xs = record { rest = xs; is = refl }

-- a front is what is asked for at an end that is not whole
part-front : (end : RecvEnd) (part all : List ℕ) → is_whole_end end ≡ false → IsFront part all → IsPart (is_whole_end end) part all
part-front end part all is front = subst (λ (w : Bool). IsPart w part all) (sym is) (front.rest, front.is)

-- ---- one piece came

as-round : (ahead given sent : List ℕ) (piece : Piece) → piece.bytes ≡ ahead ++ given → piece ≡ piece_of ahead (round-of piece given sent)
as-round ahead given sent piece all = ap (λ (bytes : List ℕ). record { now = piece.now; bytes = bytes }) all

-- the receiving goes on behind it
pub advances-piece : (ahead : List ℕ) (piece : Piece) (p q : Position) (s : Receiving) (v : PassView) (b : Standing) (begins before after : SessionRecord)
    → HasCome ahead piece begins before → after.clock ≡ before.clock → Writes b.out b.notes before.link after.link before.log after.log
    → Continues (piece ∷ []) p q (settled s v) b → Advances ahead p q (settled s v) b begins after
unfolding Passed-piece
advances-piece ahead piece p q s v b begins before after come clock writes continues =
    let P : Piece → Type 0 = λ x. Continues (x ∷ []) p q (settled s v) b in
    record {
      pieces = piece ∷ [];
      continues = continues;
      passed = Passed-piece ahead piece b.out b.notes begins before after come clock writes;
      first_is = refl;
      in_turn = (
        place_of q b,
        record { short = come.few; notes = b.notes; continues = subst P (as-round ahead come.given b.out piece come.all) continues },
        refl,
      );
    }

-- it came to an end with that piece
pub receives-piece : (ahead : List ℕ) (piece : Piece) (p : Position) (s : Receiving) (v : PassView) (sent lines : List ℕ) (begins before after : SessionRecord)
    → HasCome ahead piece begins before → after.clock ≡ before.clock → Writes sent lines before.link after.link before.log after.log
    → (end : RecvEnd) (c : Standing) → Comes end (piece ∷ []) p (settled s v) c → IsPart (is_whole_end end) sent c.out → IsPart (is_whole_end end) lines c.notes
    → Cause end c.pass begins after → Receives end ahead p (settled s v) c begins after
unfolding Passed-piece
receives-piece ahead piece p s v sent lines begins before after come clock writes end c comes sent_is lines_are cause =
    let P : Piece → Type 0 = λ x. Comes end (x ∷ []) p (settled s v) c in
    record {
      pieces = piece ∷ [];
      comes = comes;
      sent = sent;
      lines = lines;
      passed = Passed-piece ahead piece sent lines begins before after come clock writes;
      sent_is = sent_is;
      lines_are = lines_are;
      cause = cause;
      first_is = refl;
      in_turn = record {
        front = [];
        last = round-of piece come.given sent ∷ [];
        all = refl;
        between = place_of p (settled s v);
        takes = refl;
        at_end = c;
        ends = record { short = come.few; comes = subst P (as-round ahead come.given sent piece come.all) comes; sent_is = sent_is };
        receiving = refl;
        pass = refl;
      };
    }

-- ---- no piece came

-- It came to an end with none. What it came to, where all that was owed was sent before, is the same.
pub receives-none : (p : Position) (a c d : Standing) (sent lines : List ℕ) (old new : SessionRecord) → Passed [] [] sent lines old new → (end : RecvEnd)
    → Comes end [] p a c → Comes end [] p (anew a) d → d.receiving ≡ c.receiving → d.pass ≡ c.pass → c.out ≡ a.out
    → IsPart (is_whole_end end) sent a.out → IsPart (is_whole_end end) lines c.notes → Cause end c.pass old new → Receives end [] p a c old new
receives-none p a c d sent lines old new passed end comes anew_comes receiving pass same sent_is lines_are cause =
    let none = rounds-none passed.rounds passed.pieces_are in
    let P : List TimedRound → Type 0 = λ rounds. AnswersInTurn end [] rounds (place_of p a) c in
    let Q : List TimedRound → Type 0 = λ rounds. IsPart (is_first_sent end rounds) passed.first a.out in
    let first : sent ≡ passed.first = passed.sent_is ∙ ap (λ (rounds : List TimedRound). sent_in (rounds_of passed.first rounds)) none ∙ append-nil passed.first in
    record {
      pieces = [];
      comes = comes;
      sent = sent;
      lines = lines;
      passed = passed;
      sent_is = subst (λ (o : List ℕ). IsPart (is_whole_end end) sent o) (sym same) sent_is;
      lines_are = lines_are;
      cause = cause;
      first_is = subst Q (sym none) (subst (λ (o : List ℕ). IsPart (is_whole_end end) o a.out) first sent_is);
      in_turn = subst P (sym none) (record {
        front = [];
        last = [];
        all = refl;
        between = place_of p a;
        takes = refl;
        at_end = d;
        ends = anew_comes;
        receiving = receiving;
        pass = pass;
      });
    }

-- ---- all was written

pub round-written : (end : Option RecvEnd) (ahead : List ℕ) (piece : Piece) (p : Position) (receiver : ReceiverView) (pass : PassView) (s : Receiving) (v : PassView) (b : Standing)
    (begins before after : SessionRecord) → receiver.end ≡ end → b.receiving ≡ receiver.receiving → b.pass ≡ pass → Pushes end piece p receiver.hand (settled s v) b
    → HasCome ahead piece begins before → after.clock ≡ before.clock → Writes b.out b.notes before.link after.link before.log after.log
    → Rounds end ahead receiver pass p (settled s v) begins after
round-written None ahead piece p receiver pass s v b begins before after live receiving pass_is pushes come clock writes = record {
  at = b;
  advances = advances-piece ahead piece p receiver.hand s v b begins before after come clock writes pushes;
  receiving = receiving;
  pass_is = pass_is;
  live = live;
}
round-written (Some end) ahead piece p receiver pass s v b begins before after live receiving pass_is pushes come clock writes = record {
  at_end = b;
  receives = receives-piece ahead piece p s v b.out b.notes begins before after come clock writes end b (comes-ends end (piece ∷ []) p (settled s v) b pushes)
      (IsPart-equal (is_whole_end end) b.out b.out refl) (IsPart-equal (is_whole_end end) b.notes b.notes refl)
      (cause-ends end (piece ∷ []) p (settled s v) b begins after pushes);
  receiving = receiving;
  pass_is = pass_is;
}

-- ---- a fault

-- a fault of the outside
pub record IsFault (fault : RecvEnd) : Type 0 where
  pub early : (pieces : List Piece) (p : Position) (a b : Standing) → EndsEarly pieces p a b → Comes fault pieces p a b
  pub part : is_whole_end fault ≡ false
  pub not_worn : is_worn fault ≡ false

pub link_fault : IsFault LinkFault
link_fault = record { early = λ pieces p a b early. early; part = refl; not_worn = refl }

pub log_fault : IsFault LogFault
log_fault = record { early = λ pieces p a b early. early; part = refl; not_worn = refl }

-- the end that a fault makes of a receiving that went on: neither is whole
record FaultEnds (fault result : RecvEnd) (pieces : List Piece) (p : Position) (a b : Standing) (s : Receiving) (pass : PassView) (old new : SessionRecord) : Type 0 where
  comes : Comes result pieces p a (closed_at b s pass)
  part : is_whole_end result ≡ false
  cause : Cause result pass old new

fault-ends : (fault result : RecvEnd) (pieces : List Piece) (p q : Position) (a b : Standing) (s : Receiving) (pass : PassView) (old new : SessionRecord) → IsFault fault
    → Continues pieces p q a b → ClosesIf (is_worn fault) fault result b.receiving s b.pass pass → Cause fault pass old new → FaultEnds fault result pieces p a b s pass old new
fault-ends fault result pieces p q a b s pass old new is continues closes cause =
    let c = closed_at b s pass in
    let not : ClosesIf false fault result b.receiving s b.pass pass = subst (λ (w : Bool). ClosesIf w fault result b.receiving s b.pass pass) is.not_worn closes in
    let comes = comes-fault pieces p q a b s pass continues fault result (is.early pieces p a c) not in
    elim not [
      | inl closed ↦ record {
        comes = comes;
        part = ap is_whole_end closed.0 ∙ is.part;
        cause = subst (λ (e : RecvEnd). Cause e pass old new) (sym closed.0) cause;
      }
      | inr kept ↦ record {
        comes = comes;
        part = ap is_whole_end kept.0;
        cause = subst (λ (e : RecvEnd). Cause e pass old new) (sym kept.0) kept.1.worn;
      }
    ]

module _ (ahead : List ℕ) (piece : Piece) (p : Position) (s : Receiving) (v : PassView) (sent lines : List ℕ) (begins before after : SessionRecord)
    (come : HasCome ahead piece begins before) (clock : after.clock ≡ before.clock) (writes : Writes sent lines before.link after.link before.log after.log)
    (b : Standing) (front_out : IsFront sent b.out) (front_lines : IsFront lines b.notes) (fault : RecvEnd) (is : IsFault fault) where
  receives-front : (end : RecvEnd) (c : Standing) → is_whole_end end ≡ false → Comes end (piece ∷ []) p (settled s v) c → c.out ≡ b.out → c.notes ≡ b.notes
      → Cause end c.pass begins after → Receives end ahead p (settled s v) c begins after
  receives-front end c part comes out_is notes_are cause =
      receives-piece ahead piece p s v sent lines begins before after come clock writes end c comes
      (part-front end sent c.out part (subst (λ (o : List ℕ). IsFront sent o) (sym out_is) front_out))
      (part-front end lines c.notes part (subst (λ (o : List ℕ). IsFront lines o) (sym notes_are) front_lines)) cause

  -- where the receiving went on
  failed-live : (q : Position) (result : RecvEnd) (t : Receiving) (pass : PassView) → Continues (piece ∷ []) p q (settled s v) b
      → ClosesIf (is_worn fault) fault result b.receiving t b.pass pass → Cause fault pass begins after
      → Receives result ahead p (settled s v) (closed_at b t pass) begins after
  failed-live q result t pass continues closes cause =
      let ends = fault-ends fault result (piece ∷ []) p q (settled s v) b t pass begins after is continues closes cause in
      receives-front result (closed_at b t pass) ends.part ends.comes refl refl ends.cause

  early-front : (end : RecvEnd) → EndsWhole end (piece ∷ []) p (settled s v) b → Cause fault b.pass begins after → Receives fault ahead p (settled s v) b begins after
  early-front end whole cause =
      receives-front fault b is.part (is.early (piece ∷ []) p (settled s v) b (early-whole end (piece ∷ []) p (settled s v) b whole)) refl refl cause

  -- where the bytes ended it before
  failed-over : (end : RecvEnd) → Ends end (piece ∷ []) p (settled s v) b → Cause fault b.pass begins after
      → Receives (if is_worn end then Worn else fault) ahead p (settled s v) b begins after
  failed-over (BadFrame at) ends cause = early-front (BadFrame at) ends cause
  failed-over (Refused answer) ends cause = early-front (Refused answer) ends cause
  failed-over StreamLimit ends cause = early-front StreamLimit ends cause
  failed-over OutOfMemory ends cause = receives-front fault b is.part (is.early (piece ∷ []) p (settled s v) b ends) refl refl cause
  failed-over Worn ends cause = receives-front Worn b refl ends refl refl ends.worn
  failed-over Ended ends cause = absurd ends
  failed-over (Truncated at) ends cause = absurd ends
  failed-over LinkFault ends cause = absurd ends
  failed-over LogFault ends cause = absurd ends

  -- a fault behind a piece
  pub round-failed : (end : Option RecvEnd) (result : RecvEnd) (was is_now : ReceiverView) (pass : PassView) → b.receiving ≡ was.receiving → Pushes end piece p was.hand (settled s v) b
      → FailsAt end fault result was is_now b.pass pass → Cause fault pass begins after → RunsOut result ahead is_now pass p (settled s v) begins after
  round-failed None result was is_now pass receiving pushes fails cause =
      let closes = subst (λ (r : Receiving). ClosesIf (is_worn fault) fault result r is_now.receiving b.pass pass) (sym receiving) fails.closes in
      record {
        at_end = closed_at b is_now.receiving pass;
        receives = failed-live was.hand result is_now.receiving pass pushes closes cause;
        receiving = refl;
        pass_is = refl;
      }
  round-failed (Some end) result was is_now pass receiving pushes fails cause =
      let same : b.pass ≡ pass = sym fails.2 in
      record {
        at_end = b;
        receives = subst (λ (e : RecvEnd). Receives e ahead p (settled s v) b begins after) (sym fails.0)
            (failed-over end pushes (subst (λ (u : PassView). Cause fault u begins after) (sym same) cause));
        receiving = receiving ∙ sym (ap (λ (r : ReceiverView). r.receiving) fails.1);
        pass_is = same;
      }

-- ---- the stream ended, or the link failed

cause-edge : (p : Position) (s : Receiving) (pass : PassView) (old new : SessionRecord) (edge : Bool) → is_edge p s ≡ edge → ReceivingHasEnded old new
    → Cause (at_stream_end p s) pass old new
cause-edge p s pass old new true edge ended = rw edge ended
cause-edge p s pass old new false edge ended = rw edge ended

-- the stream ended
pub round-ended : (p : Position) (s : Receiving) (v : PassView) (result : RecvEnd) (is_now : ReceiverView) (pass : PassView) (old new : SessionRecord)
    → Continues [] p p (settled s v) (settled s v) → ClosesIf (is_worn (at_stream_end p s)) (at_stream_end p s) result s is_now.receiving v pass
    → Passed [] [] [] [] old new → ReceivingHasEnded old new → RunsOut result [] is_now pass p (settled s v) old new
round-ended p s v result is_now pass old new continues closes passed ended =
    let a = settled s v in
    let end = at_stream_end p s in
    let c = closed_at a is_now.receiving pass in
    let not : ClosesIf false end result s is_now.receiving v pass = subst (λ (w : Bool). ClosesIf w end result s is_now.receiving v pass) (end-worn p s) closes in
    let cause : Cause result pass old new = elim not [
      | inl closed ↦ subst (λ (e : RecvEnd). Cause e pass old new) (sym closed.0) (cause-edge p s pass old new (is_edge p s) refl ended)
      | inr kept ↦ subst (λ (e : RecvEnd). Cause e pass old new) (sym kept.0) kept.1.worn
    ] in
    let comes = comes-stream [] p p a a is_now.receiving pass continues result closes in
    record {
      at_end = c;
      receives = receives-none p a c c [] [] old new passed result comes comes refl refl refl
          (IsPart-equal (is_whole_end result) [] [] refl) (IsPart-equal (is_whole_end result) [] [] refl) cause;
      receiving = refl;
      pass_is = refl;
    }

-- the link failed before a piece came, or what was to be sent before the first one was not sent
pub round-unfed : (p : Position) (a : Standing) (fault result : RecvEnd) (was is_now : ReceiverView) (pass : PassView) (sent lines : List ℕ) (old new : SessionRecord)
    → IsFault fault → ((x : Standing) → Continues [] p was.hand x x) → was.end ≡ None → a.receiving ≡ was.receiving → Passed [] [] sent lines old new
    → IsFront sent a.out → IsFront lines a.notes → FailsAt was.end fault result was is_now a.pass pass → Cause fault pass old new → RunsOut result [] is_now pass p a old new
round-unfed p a fault result was is_now pass sent lines old new is continues live receiving passed front_out front_lines fails cause =
    let finishes = subst (λ (e : Option RecvEnd). FailsAt e fault result was is_now a.pass pass) live fails in
    let closes = subst (λ (r : Receiving). ClosesIf (is_worn fault) fault result r is_now.receiving a.pass pass) (sym receiving) finishes.closes in
    let ends = fault-ends fault result [] p was.hand a a is_now.receiving pass old new is (continues a) closes cause in
    let anew_ends = fault-ends fault result [] p was.hand (anew a) (anew a) is_now.receiving pass old new is (continues (anew a)) closes cause in
    record {
      at_end = closed_at a is_now.receiving pass;
      receives = receives-none p a (closed_at a is_now.receiving pass) (closed_at (anew a) is_now.receiving pass) sent lines old new passed result ends.comes anew_ends.comes
          refl refl refl (part-front result sent a.out ends.part front_out) (part-front result lines a.notes ends.part front_lines) ends.cause;
      receiving = refl;
      pass_is = refl;
    }

-- ---- one turn, and then another one

pub rounds-then : (end : Option RecvEnd) (ahead : List ℕ) (p : Position) (a : Standing) (receiver later : ReceiverView) (pass after : PassView) (old mid new : SessionRecord)
    → RunsOn ahead receiver pass p a old mid → KeepsFaults old mid → Rounds end [] later after receiver.hand (settled receiver.receiving pass) mid new → Rounds end ahead later after p a old new
rounds-then None ahead p a receiver later pass after old mid new before kept rounds =
    let b = before.at in
    let there : settled receiver.receiving pass ≡ anew b =
    ap (λ (r : Receiving). settled r pass) (sym before.receiving) ∙ ap (λ (v : PassView). settled b.receiving v) (sym before.pass_is) in
    record {
      at = in_front_of b rounds.at;
      advances = Advances-then ahead p receiver.hand later.hand a b rounds.at old mid new before.advances
          (subst (λ (v : Standing). Advances [] receiver.hand later.hand v rounds.at mid new) there rounds.advances);
      receiving = rounds.receiving;
      pass_is = rounds.pass_is;
      live = rounds.live;
    }
rounds-then (Some end) ahead p a receiver later pass after old mid new before kept rounds =
    let b = before.at in
    let there : settled receiver.receiving pass ≡ anew b =
    ap (λ (r : Receiving). settled r pass) (sym before.receiving) ∙ ap (λ (v : PassView). settled b.receiving v) (sym before.pass_is) in
    record {
      at_end = in_front_of b rounds.at_end;
      receives = Receives-then end ahead p receiver.hand a b rounds.at_end old mid new before.advances kept
          (subst (λ (v : Standing). Receives end [] receiver.hand v rounds.at_end mid new) there rounds.receives);
      receiving = rounds.receiving;
      pass_is = rounds.pass_is;
    }
