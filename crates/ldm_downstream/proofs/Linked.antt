-- What passed with the outside of a receiving, over one piece after another.
use Rattle.std.proofs.Common.{◌≡◌, ℕ, Bool, true, false, List, [], ◌∷◌, ◌++◌, map, Option, Some, None, refl, ap, sym, subst, ◌∙◌, append_assoc}
use Rattle.std.proofs.lemmas.List.{append-nil}
use Rattle.std.proofs.lemmas.List.Concat.{flat_map-append}
use Rattle.std.specs.Option.{option_map}
use Rattle.ldm_rpc.specs.Streams.{Position}
use Rattle.ldm_outside.proofs.CallerLemmas.{Rose-later}
use Rattle.ldm_outside.specs.Clock.{ClockRecord}
use Rattle.ldm_outside.specs.Io.{SinkRecord, Takes as TakesBytes}
use Rattle.ldm_outside.specs.Session.{SessionRecord, KeepsFaults}
use Rattle.ldm_shared.specs.Passes.{PassView}
use Rattle.ldm_session.specs.Exchange.{AnsweredAll}
use Rattle.ldm_session.proofs.CallerLemmas.{Exchanged-then, Exchanged-same, Exchanged-nothing, AnsweredAll-nothing, AnsweredAll-then}
use Rattle.ldm_intake.specs.declared.end.RecvEnd.{RecvEnd}
use Rattle.ldm_intake.specs.declared.end.RecvEnd.TheVariants.{Ended, Truncated, BadFrame, Refused, LinkFault, LogFault, StreamLimit, Worn, OutOfMemory}
use Rattle.ldm_intake.specs.TakesRecord.{Standing}
use Rattle.ldm_downstream.specs.Pieces.{Piece, joined}
use Rattle.ldm_downstream.specs.Answering.{TimedRound, left_ahead, pieces_in, place_of, rounds_of}
use Rattle.ldm_downstream.specs.InTurn.{PassesRounds, sent_in}
use Rattle.ldm_downstream.specs.Receives.{Passed, Cause, Receives, is_first_sent, is_whole_end}
use Rattle.ldm_session.specs.Part.{IsPart}
use Rattle.ldm_downstream.specs.Sessions.{Advances, Writes, HasCome}
use Rattle.ldm_downstream.proofs.Ending.{in_front_of, anew, comes-anew, continues-anew}
use Rattle.ldm_downstream.proofs.InTurn.{answers-then, none-left, passes-nothing, passes-round, passes-then, pieces-then, sent-append, takes-rounds}

-- ---- lines

lines-then : (first second : List ℕ) (written : Option (List ℕ)) → option_map (λ before. before ++ second) (option_map (λ before. before ++ first) written)
    ≡ option_map (λ before. before ++ (first ++ second)) written
lines-then first second None = refl
lines-then first second (Some before) = ap (λ (t : List ℕ). Some t) (append_assoc before first second)

pub TakesBytes-then : (first second : List ℕ) (old mid new : SinkRecord) → TakesBytes old first mid → TakesBytes mid second new → TakesBytes old (first ++ second) new
TakesBytes-then first second old mid new one other =
    other ∙ ap (option_map (λ (before : List ℕ). before ++ second)) one ∙ lines-then first second old.written

lines-none : (written : Option (List ℕ)) → written ≡ option_map (λ before. before ++ []) written
lines-none None = refl
lines-none (Some before) = ap (λ (t : List ℕ). Some t) (sym (append-nil before))

pub TakesBytes-nothing : (old new : SinkRecord) → new.written ≡ old.written → TakesBytes old [] new
TakesBytes-nothing old new same = same ∙ lines-none old.written

-- ---- all of it

joined-append : (first second : List Piece) → joined (first ++ second) ≡ joined first ++ joined second
joined-append first second = flat_map-append (λ (piece : Piece). piece.bytes) first second

moments : List Piece → List ℕ
moments pieces = map (λ (piece : Piece). piece.now) pieces

moments-append : (first second : List Piece) → moments (first ++ second) ≡ moments first ++ moments second
unfolding moments
moments-append [] second = refl
moments-append (piece ∷ first) second = ap (λ (others : List ℕ). piece.now ∷ others) (moments-append first second)

-- what came ahead is in these pieces
none-ahead : (ahead : List ℕ) (pieces : List Piece) (sent lines : List ℕ) (old new : SessionRecord) (passed : Passed ahead pieces sent lines old new)
    → left_ahead ahead passed.rounds ≡ []
none-ahead ahead pieces sent lines old new passed = none-left ahead passed.given pieces passed.rounds passed.pieces_are passed.all

pub Passed-then : (ahead : List ℕ) (first second : List Piece) (sent more lines others : List ℕ) (old mid new : SessionRecord) → Passed ahead first sent lines old mid
    → (other : Passed [] second more others mid new) → other.first ≡ [] → Passed ahead (first ++ second) (sent ++ more) (lines ++ others) old new
unfolding moments
Passed-then ahead first second sent more lines others old mid new one other settled =
    let P : List ℕ → Type 0 = λ instants. AnsweredAll instants old.clock new.clock in
    let Q : List ℕ → Type 0 = λ bytes. PassesRounds (rounds_of bytes other.rounds) mid.link new.link in
    record {
      given = one.given ++ other.given;
      all = joined-append first second ∙ ap (λ (x : List ℕ). x ++ joined second) one.all ∙ ap (λ (x : List ℕ). (ahead ++ one.given) ++ x) other.all
          ∙ append_assoc ahead one.given other.given;
      exchanged = Exchanged-then old.link mid.link new.link sent one.given more other.given one.exchanged other.exchanged;
      moments = subst P (sym (moments-append first second))
          (AnsweredAll-then (moments first) (moments second) old.clock mid.clock new.clock one.moments other.moments);
      logged = TakesBytes-then lines others old.log mid.log new.log one.logged other.logged;
      first = one.first;
      rounds = one.rounds ++ other.rounds;
      pieces_are = ap (λ (pieces : List Piece). pieces ++ second) one.pieces_are ∙ ap (λ (pieces : List Piece). pieces_in ahead one.rounds ++ pieces) other.pieces_are
          ∙ sym (pieces-then ahead one.rounds other.rounds (none-ahead ahead first sent lines old mid one));
      sent_is = ap (λ (x : List ℕ). x ++ more) one.sent_is
          ∙ ap (λ (x : List ℕ). sent_in (rounds_of one.first one.rounds) ++ x) (other.sent_is ∙ ap (λ (bytes : List ℕ). sent_in (rounds_of bytes other.rounds)) settled)
          ∙ sym (sent-append one.first one.rounds other.rounds);
      in_rounds = passes-then one.first one.rounds other.rounds old.link mid.link new.link one.in_rounds (subst Q settled other.in_rounds);
    }

-- nothing passed, but counts may have risen
unfoldable pub Passed-nothing : (old new : SessionRecord) → new.link.passed ≡ old.link.passed → new.link.left ≡ old.link.left → new.clock ≡ old.clock → new.log.written ≡ old.log.written
    → Passed [] [] [] [] old new
Passed-nothing old new passed left clock written =
    let P : ClockRecord → Type 0 = λ c. AnsweredAll [] old.clock c in
    record {
      given = [];
      all = refl;
      exchanged = Exchanged-nothing old.link new.link passed left;
      moments = subst P (sym clock) (AnsweredAll-nothing old.clock);
      logged = TakesBytes-nothing old.log new.log written;
      first = [];
      rounds = [];
      pieces_are = refl;
      sent_is = refl;
      in_rounds = passes-nothing old.link new.link passed;
    }

-- the round of a piece that came, behind which bytes were sent
abbrev pub round-of : (piece : Piece) (given sent : List ℕ) → TimedRound
round-of piece given sent = record { now = piece.now; round = record { given = given; sent = sent } }

-- one piece came, and then bytes were sent and lines written
unfoldable pub Passed-piece : (ahead : List ℕ) (piece : Piece) (sent lines : List ℕ) (begins before after : SessionRecord) → HasCome ahead piece begins before
    → after.clock ≡ before.clock → Writes sent lines before.link after.link before.log after.log → Passed ahead (piece ∷ []) sent lines begins after
Passed-piece ahead piece sent lines begins before after come clock writes =
    let P : ClockRecord → Type 0 = λ c. AnsweredAll (piece.now ∷ []) begins.clock c in
    let Q : SinkRecord → Type 0 = λ s. TakesBytes s lines after.log in
    record {
      given = come.given;
      all = append-nil piece.bytes ∙ come.all;
      exchanged = Exchanged-same begins.link after.link ([] ++ sent) (come.given ++ []) sent come.given refl (append-nil come.given)
          (Exchanged-then begins.link before.link after.link [] come.given sent [] come.exchanged writes.exchanged);
      moments = subst P (sym clock) come.moment;
      logged = subst Q come.log writes.logged;
      first = [];
      rounds = round-of piece come.given sent ∷ [];
      pieces_are = ap (λ (bytes : List ℕ). record { now = piece.now; bytes = bytes } ∷ []) come.all;
      sent_is = sym (append-nil sent);
      in_rounds = passes-round (round-of piece come.given sent) begins.link before.link after.link come.gave writes.sends;
    }

-- ---- parts and causes

pub IsPart-behind : (whole : Bool) (before part all : List ℕ) → IsPart whole part all → IsPart whole (before ++ part) (before ++ all)
IsPart-behind true before part all is = ap (λ (x : List ℕ). before ++ x) is
IsPart-behind false before part all front = (front.0, append_assoc before part front.0 ∙ ap (λ (x : List ℕ). before ++ x) front.1)

-- a cause that came later
pub Cause-later : (end : RecvEnd) (pass : PassView) (old mid new : SessionRecord) → KeepsFaults old mid → Cause end pass mid new → Cause end pass old new
Cause-later Ended pass old mid new kept cause = (Rose-later old.link.ends mid.link.ends new.link.ends kept.ends cause.0, cause.1)
Cause-later (Truncated at) pass old mid new kept cause = (Rose-later old.link.ends mid.link.ends new.link.ends kept.ends cause.0, cause.1)
Cause-later (BadFrame at) pass old mid new kept cause = tt
Cause-later (Refused answer) pass old mid new kept cause = tt
Cause-later StreamLimit pass old mid new kept cause = tt
Cause-later LinkFault pass old mid new kept cause = Rose-later old.link.faults mid.link.faults new.link.faults kept.link cause
Cause-later LogFault pass old mid new kept cause = Rose-later old.log.faults mid.log.faults new.log.faults kept.log cause
Cause-later OutOfMemory pass old mid new kept cause = tt
Cause-later Worn pass old mid new kept cause = cause

-- all of it, whether or not it has to be
pub IsPart-equal : (whole : Bool) (part all : List ℕ) → part ≡ all → IsPart whole part all
IsPart-equal true part all is = is
IsPart-equal false part all is = ([], append-nil part ∙ is)

part-none : (whole : Bool) (part : List ℕ) → IsPart whole part [] → part ≡ []
part-none true part is = is
part-none false [] front = refl
part-none false (byte ∷ part) front = absurd (let some : byte ∷ (part ++ front.0) ≡ [] = front.1 in cc some)

-- ---- one piece after another

pub Advances-then : (ahead : List ℕ) (p q r : Position) (a b c : Standing) (old mid new : SessionRecord) → Advances ahead p q a b old mid → Advances [] q r (anew b) c mid new → Advances ahead p r a (in_front_of b c) old new
unfolding Passed-then
Advances-then ahead p q r a b c old mid new before later = record {
  pieces = before.pieces ++ later.pieces;
  continues = continues-anew p q before.pieces later.pieces a b before.continues r c later.continues;
  passed = Passed-then ahead before.pieces later.pieces b.out c.out b.notes c.notes old mid new before.passed later.passed later.first_is;
  first_is = before.first_is;
  in_turn = takes-rounds ahead before.passed.rounds later.passed.rounds (place_of p a) (place_of q b) (place_of r c)
      (none-ahead ahead before.pieces b.out b.notes old mid before.passed) before.in_turn later.in_turn;
}

pub Receives-then : (end : RecvEnd) (ahead : List ℕ) (p q : Position) (a b c : Standing) (old mid new : SessionRecord) → Advances ahead p q a b old mid → KeepsFaults old mid
    → Receives end [] q (anew b) c mid new → Receives end ahead p a (in_front_of b c) old new
unfolding Passed-then
Receives-then end ahead p q a b c old mid new before kept later =
    let settled = part-none (is_first_sent end later.passed.rounds) later.passed.first later.first_is in
    record {
      pieces = before.pieces ++ later.pieces;
      comes = comes-anew p q before.pieces later.pieces a b before.continues end c later.comes;
      sent = b.out ++ later.sent;
      lines = b.notes ++ later.lines;
      passed = Passed-then ahead before.pieces later.pieces b.out later.sent b.notes later.lines old mid new before.passed later.passed settled;
      sent_is = IsPart-behind (is_whole_end end) b.out later.sent c.out later.sent_is;
      lines_are = IsPart-behind (is_whole_end end) b.notes later.lines c.notes later.lines_are;
      cause = Cause-later end c.pass old mid new kept later.cause;
      first_is = IsPart-equal (is_first_sent end (before.passed.rounds ++ later.passed.rounds)) before.passed.first a.out before.first_is;
      in_turn = answers-then end ahead before.passed.rounds later.passed.rounds (place_of p a) (place_of q b) c (in_front_of b c)
          (none-ahead ahead before.pieces b.out b.notes old mid before.passed) before.in_turn refl refl later.in_turn;
    }
