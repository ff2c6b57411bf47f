-- One piece: what a turn comes to, by what its parts do.
use Rattle.std.proofs.Common.{◌≡◌, ◌∙◌, ℕ, ◌<◌, ◌≤◌, List, [], ◌++◌, length, take, Option, Some, None, inl, inr, refl, sym, ap, subst, arith, length-take}
use Rattle.std.proofs.lemmas.List.{take-append-le, take-take}
use Rattle.ldm_outside.specs.declared.io.Got.TheVariants.{Bytes}
use Rattle.ldm_outside.specs.Clock.{Answers, ClockRecord}
use Rattle.ldm_outside.specs.Io.{SinkRecord}
use Rattle.ldm_outside.specs.Link.{Gave, LinkRecord, RecvGives}
use Rattle.ldm_shared.specs.Passes.{PassView}
use Rattle.ldm_intake.specs.declared.end.RecvEnd.{RecvEnd}
use Rattle.ldm_intake.specs.declared.end.RecvEnd.TheVariants.{Ended, Truncated, BadFrame, Refused, LinkFault, LogFault, StreamLimit, Worn, OutOfMemory}
use Rattle.ldm_rpc.specs.Streams.{Position}
use Rattle.ldm_intake.specs.TakesRecord.{Standing, stands}
use Rattle.ldm_downstream.specs.Pieces.{Piece}
use Rattle.ldm_downstream.specs.Pushing.{Pushes, PushesAt}
use Rattle.ldm_downstream.specs.ReceiverView.{ReceiverView}
use Rattle.ldm_gather.specs.declared.end.GatherEnd.TheVariants as end
use Rattle.ldm_gather.specs.declared.end.Handled.{Handled}
use Rattle.ldm_gather.specs.declared.end.Handled.TheVariants as handled
use Rattle.ldm_gather.specs.Gathering.{Comes, EndsBy, TakesPiece}
use Rattle.ldm_gather.specs.Scene.{Scene, GatherMoment}
use Rattle.ldm_gather.specs.Turning.{IsReady, TellsBy, Turns, turned}

-- the bytes that came stand at the front of the buffer
pub take-into : (n len : ℕ) (into behind : List ℕ) → n ≤ len → n ≤ length into → take n (take len (into ++ behind)) ≡ take n into
take-into n len into behind within came = take-take n len (into ++ behind) within ∙ take-append-le n into behind came

-- what the receiver was pushed, before which nothing was owed and nothing was to be logged
pushed-ready : (piece : Piece) (old new : ReceiverView) (pass : PassView) (out notes : List ℕ) (after : Standing) → IsReady out notes
    → PushesAt old.end piece old new (stands old.receiving pass out notes) after → PushesAt old.end piece old new (stands old.receiving pass [] []) after
pushed-ready piece old new pass out notes after ready pushes =
    subst (λ (x : List ℕ). PushesAt old.end piece old new (stands old.receiving pass [] x) after) ready.no_notes
    (subst (λ (x : List ℕ). PushesAt old.end piece old new (stands old.receiving pass x notes) after) ready.no_out pushes)

-- one that is not over
pub pushes-live : (piece : Piece) (old new : ReceiverView) (before after : Standing) → old.end ≡ None → PushesAt old.end piece old new before after
    → Pushes new.end piece old.hand new.hand before after
pushes-live piece old new before after live pushes =
    let at : PushesAt None piece old new before after = subst (λ (end : Option RecvEnd). PushesAt end piece old new before after) live pushes in
    at.0

some-bytes : (n : ℕ) (into : List ℕ) → 0 < n → n ≤ length into → 0 < length (take n into)
some-bytes n into some within = omega (arith, length-take n into)

module _ {W A B : Type 0} where
  pub comes-of : (n : ℕ) (into bytes : List ℕ) (now : ℕ) (receiver receiver' : ReceiverView) (scene : Scene W A B) (mid : PassView) (link link' : LinkRecord) (clock clock' : ClockRecord)
      (out notes out' notes' : List ℕ) → RecvGives (Bytes n) into link link' → bytes ≡ take n into → Answers now clock clock' → IsReady out notes
      → PushesAt receiver.end (record { now = now; bytes = bytes }) receiver receiver' (stands receiver.receiving scene.pass out notes) (stands receiver'.receiving mid out' notes')
      → Comes (record { now = now; bytes = bytes }) out' notes' (record { receiver = receiver; scene = scene; link = link; clock = clock })
      (record { receiver = receiver'; scene = record scene { pass = mid }; link = link'; clock = clock' })
  comes-of n into bytes now receiver receiver' scene mid link link' clock clock' out notes out' notes' gives same answers ready pushes = record {
    some = subst (λ (x : List ℕ). 0 < length x) (sym same) (some-bytes n into gives.0 gives.1);
    gave = subst (λ (x : List ℕ). Gave link x link') (sym same) gives.2;
    asked = answers;
    pushes = pushed-ready (record { now = now; bytes = bytes }) receiver receiver' scene.pass out notes (stands receiver'.receiving mid out' notes') ready pushes;
    others = refl;
  }

  -- The link or the log failed behind a piece.
  pub untold : (handles : Handled → Scene W A B → Scene W A B → Type 0) (fault : RecvEnd) (piece : Piece) (out notes : List ℕ) (old pushed new : GatherMoment W A B) → Comes piece out notes old pushed
      → TellsBy (Some fault) out notes pushed.link new.link pushed.scene.log new.scene.log
      → new ≡ record pushed { link = new.link; scene = record pushed.scene { log = new.scene.log } } → EndsBy handles (end.Received fault) old new
  untold handles LinkFault piece out notes old pushed new comes tells others = inr (record {
    piece = piece;
    out = out;
    notes = notes;
    pushed = pushed;
    comes = comes;
    sends = record {
      front = tells.0;
      rest = tells.1;
      all = tells.2;
      failing = tells.3;
      others = others ∙ ap (λ (log : SinkRecord). record pushed { link = new.link; scene = record pushed.scene { log = log } }) tells.4;
    };
  })
  untold handles LogFault piece out notes old pushed new comes tells others = record {
    piece = piece;
    out = out;
    notes = notes;
    pushed = pushed;
    comes = comes;
    logs = record { sent = tells.0; rose = tells.1; front = tells.2; others = others };
  }
  untold handles Ended piece out notes old pushed new comes tells others = absurd tells
  untold handles (Truncated at) piece out notes old pushed new comes tells others = absurd tells
  untold handles (BadFrame at) piece out notes old pushed new comes tells others = absurd tells
  untold handles (Refused answer) piece out notes old pushed new comes tells others = absurd tells
  untold handles StreamLimit piece out notes old pushed new comes tells others = absurd tells
  untold handles Worn piece out notes old pushed new comes tells others = absurd tells
  untold handles OutOfMemory piece out notes old pushed new comes tells others = absurd tells

  module _ (handles : Handled → Scene W A B → Scene W A B → Type 0) where
    -- the receiver is over by a piece
    over-by : (over : RecvEnd) (piece : Piece) (p q : Position) (a b : Standing) (old new : GatherMoment W A B) → Pushes (Some over) piece p q a b → TakesPiece handles piece handled.On old new
        → new.receiver.end ≡ Some over → EndsBy handles (end.Received over) old new
    over-by (BadFrame at) piece p q a b old new pushes takes is = record { piece = piece; takes = takes; over = is }
    over-by (Refused answer) piece p q a b old new pushes takes is = record { piece = piece; takes = takes; over = is }
    over-by StreamLimit piece p q a b old new pushes takes is = record { piece = piece; takes = takes; over = is }
    over-by OutOfMemory piece p q a b old new pushes takes is = record { piece = piece; takes = takes; over = is }
    over-by Worn piece p q a b old new pushes takes is = inl (record { piece = piece; takes = takes; over = is })
    over-by Ended piece p q a b old new pushes takes is = absurd pushes
    over-by (Truncated at) piece p q a b old new pushes takes is = absurd pushes
    over-by LinkFault piece p q a b old new pushes takes is = absurd pushes
    over-by LogFault piece p q a b old new pushes takes is = absurd pushes

    -- a piece was taken
    pub taken-turns : (answer : Handled) (over : Option RecvEnd) (piece : Piece) (p q : Position) (a b : Standing) (old new : GatherMoment W A B) → Pushes over piece p q a b
        → TakesPiece handles piece answer old new → new.receiver.end ≡ over → Turns handles (turned answer over) old new
    taken-turns handled.On None piece p q a b old new pushes takes is = (piece, record { takes = takes; live = is })
    taken-turns handled.On (Some over) piece p q a b old new pushes takes is = over-by over piece p q a b old new pushes takes is
    taken-turns handled.Enough over piece p q a b old new pushes takes is = record { piece = piece; takes = takes }
    taken-turns handled.Stopped over piece p q a b old new pushes takes is = record { piece = piece; takes = takes }
