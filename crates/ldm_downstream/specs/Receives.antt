-- What receiving over a link does, from its beginning to its end.
use Rattle.std.specs.Prelude.{◌≡◌, ℕ, Bool, true, false, List, [], ◌∷◌, ◌++◌, length, map, Option, None, IfSome}
use Rattle.ldm_rpc.specs.Streams.{Position}
use Rattle.ldm_outside.specs.Count.{Rose}
use Rattle.ldm_outside.specs.Io.{Takes as TakesBytes}
use Rattle.ldm_outside.specs.Session.{SessionRecord}
use Rattle.ldm_shared.specs.declared.steps.TheConstants.{MOST_TURNS}
use Rattle.ldm_shared.specs.Passes.{PassView}
use Rattle.ldm_session.specs.Exchange.{Exchanged, AnsweredAll}
use Rattle.ldm_intake.specs.declared.end.RecvEnd.{RecvEnd}
use Rattle.ldm_intake.specs.declared.end.RecvEnd.TheVariants.{Ended, Truncated, BadFrame, Refused, LinkFault, LogFault, StreamLimit, Worn, OutOfMemory}
use Rattle.ldm_intake.specs.Opening.{request_of}
use Rattle.ldm_intake.specs.Receiving.{Receiving}
use Rattle.ldm_relay.specs.Spelling.{records_of}
use Rattle.ldm_intake.specs.TakesRecord.{Standing}
use Rattle.ldm_downstream.specs.Answering.{IsShort, Place, TakesRounds, TimedRound, left_ahead, piece_of, pieces_in, place_of, rounds_of, settled_at}
use Rattle.ldm_downstream.specs.InTurn.{PassesRounds, sent_in}
use Rattle.ldm_downstream.specs.Pieces.{Piece, beginning, hand, joined}
use Rattle.ldm_downstream.specs.Taking.{Takes, GivesUp}
use Rattle.ldm_downstream.specs.Received.{at_stream_end, received}
use Rattle.ldm_downstream.specs.Pushing.{EndsEarly, EndsWhole, EndsWorn}
use Rattle.ldm_session.specs.Part.{IsPart}

-- The stream ended behind these pieces: all that they ask for was asked, and what was open is given up.
pub record EndsStream (end : RecvEnd) (pieces : List Piece) (p : Position) (old new : Standing) : Type 0 where
  pub between : Standing
  pub takes : Takes (received old.receiving p pieces) None old between
  pub gives_up : GivesUp between new
  pub end_is : end ≡ at_stream_end (hand p pieces) between.receiving

-- how a receiving goes on over these pieces, from a place in the stream to that end
abbrev pub Comes : RecvEnd → List Piece → Position → Standing → Standing → Type 0
Comes Ended pieces p old new = EndsStream Ended pieces p old new
Comes (Truncated at) pieces p old new = EndsStream (Truncated at) pieces p old new
Comes (BadFrame at) pieces p old new = EndsWhole (BadFrame at) pieces p old new
Comes (Refused answer) pieces p old new = EndsWhole (Refused answer) pieces p old new
Comes StreamLimit pieces p old new = EndsWhole StreamLimit pieces p old new
Comes LinkFault pieces p old new = EndsEarly pieces p old new
Comes LogFault pieces p old new = EndsEarly pieces p old new
Comes OutOfMemory pieces p old new = EndsEarly pieces p old new
Comes Worn pieces p old new = EndsWorn pieces p old new

-- whether at that end all was sent that the peer is owed, and all was logged
abbrev pub is_whole_end : RecvEnd → Bool
is_whole_end Ended = true
is_whole_end (Truncated at) = true
is_whole_end (BadFrame at) = true
is_whole_end (Refused answer) = true
is_whole_end StreamLimit = true
is_whole_end LinkFault = false
is_whole_end LogFault = false
is_whole_end OutOfMemory = false
is_whole_end Worn = false

-- A receiving ended with the piece of a round, or once it came: all that this piece made owed was sent, or a front of it.
pub record EndsRound (end : RecvEnd) (ahead : List ℕ) (timed : TimedRound) (at : Place) (new : Standing) : Type 0 where
  pub short : IsShort timed
  pub comes : Comes end (piece_of ahead timed ∷ []) at.hand (settled_at at) new
  pub sent_is : IsPart (is_whole_end end) timed.round.sent new.out

-- it ended with a last round, or no piece came any more
abbrev pub EndsRounds : RecvEnd → List ℕ → List TimedRound → Place → Standing → Type 0
EndsRounds end ahead [] at new = Comes end [] at.hand (settled_at at) new
EndsRounds end ahead (timed ∷ []) at new = EndsRound end ahead timed at new
EndsRounds end ahead (timed ∷ next ∷ rounds) at new = ⊥

-- A receiving came to its end in turn: it went on over these rounds, but the last one, if it ended with one.
pub record AnswersInTurn (end : RecvEnd) (ahead : List ℕ) (rounds : List TimedRound) (at : Place) (new : Standing) : Type 0 where
  pub front : List TimedRound
  pub last : List TimedRound
  pub all : rounds ≡ front ++ last
  pub between : Place
  pub takes : TakesRounds ahead front at between
  -- how it stood at its end, but for what was owed and logged before the last round
  pub at_end : Standing
  pub ends : EndsRounds end (left_ahead ahead front) last between at_end
  pub receiving : at_end.receiving ≡ new.receiving
  pub pass : at_end.pass ≡ new.pass

-- whether all that was owed at first was sent
abbrev pub is_first_sent : RecvEnd → List TimedRound → Bool
is_first_sent end [] = is_whole_end end
is_first_sent end (timed ∷ rounds) = true

-- the stream ended: the link said so, and has nothing left
abbrev pub ReceivingHasEnded : SessionRecord → SessionRecord → Type 0
ReceivingHasEnded old new = Rose old.link.ends new.link.ends × IfSome new.link.left (λ rest. rest ≡ [])

-- what stands at an end besides, in the outside and in what the pass has seen
abbrev pub Cause : RecvEnd → PassView → SessionRecord → SessionRecord → Type 0
Cause Ended pass old new = ReceivingHasEnded old new
Cause (Truncated at) pass old new = ReceivingHasEnded old new
Cause (BadFrame at) pass old new = Unit {0}
Cause (Refused answer) pass old new = Unit {0}
Cause StreamLimit pass old new = Unit {0}
Cause LinkFault pass old new = Rose old.link.faults new.link.faults
Cause LogFault pass old new = Rose old.log.faults new.log.faults
Cause OutOfMemory pass old new = Unit {0}
Cause Worn pass old new = length pass.seen ≡ MOST_TURNS

-- What passed with the outside while these pieces came: the bytes that were sent and those of the log, and the clock's answers. The pieces
-- have the bytes that came ahead, and behind them those that the link gave.
pub record Passed (ahead : List ℕ) (pieces : List Piece) (sent lines : List ℕ) (old new : SessionRecord) : Type 0 where
  pub given : List ℕ
  pub all : joined pieces ≡ ahead ++ given
  pub exchanged : Exchanged old.link sent given new.link
  pub moments : AnsweredAll (map (λ (piece : Piece). piece.now) pieces) old.clock new.clock
  pub logged : TakesBytes old.log lines new.log
  -- In turn: what was sent before a piece came, and then each piece with what was sent behind it.
  pub first : List ℕ
  pub rounds : List TimedRound
  pub pieces_are : pieces ≡ pieces_in ahead rounds
  pub sent_is : sent ≡ sent_in (rounds_of first rounds)
  pub in_rounds : PassesRounds (rounds_of first rounds) old.link new.link

-- A receiving goes on from a place in the stream to its end. Where it then stands are all bytes that the peer was owed since then, and all
-- log lines: these were sent and written, or a front of them.
pub record Receives (end : RecvEnd) (ahead : List ℕ) (p : Position) (old new : Standing) (before after : SessionRecord) : Type 0 where
  pub pieces : List Piece
  pub comes : Comes end pieces p old new
  pub sent : List ℕ
  pub lines : List ℕ
  pub passed : Passed ahead pieces sent lines before after
  pub sent_is : IsPart (is_whole_end end) sent new.out
  pub lines_are : IsPart (is_whole_end end) lines new.notes
  pub cause : Cause end new.pass before after
  -- What was owed at first was sent before a piece came, and what each piece made owed before a byte of the next one.
  pub first_is : IsPart (is_first_sent end passed.rounds) passed.first old.out
  pub in_turn : AnswersInTurn end ahead passed.rounds (place_of p old) new

-- before the first piece: the request is owed to the peer, where there is one
abbrev pub at_first : Receiving → PassView → Standing
at_first s pass = record { receiving = s; pass = pass; out = records_of (request_of s); notes = [] }

-- A receiving from its beginning, with the request that is owed then, to its end. `ahead` are the first bytes of its stream: those that came
-- before it began, and that nobody looked at.
pub record ReceivesAll (end : RecvEnd) (last : Option (List ℕ)) (s : Receiving) (ahead : List ℕ) (old new : PassView) (before after : SessionRecord) : Type 0 where
  pub at_end : Standing
  pub receives : Receives end ahead beginning (at_first s old) at_end before after
  pub pass_is : at_end.pass ≡ new
  pub last_is : last ≡ at_end.receiving.last
