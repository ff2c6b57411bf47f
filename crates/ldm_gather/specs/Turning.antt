-- What the functions inside a gathering do. No caller needs this.
use Rattle.std.specs.Prelude.{◌≡◌, ℕ, ◌++◌, List, [], Option, Some, None}
use Rattle.ldm_outside.specs.Count.{Rose}
use Rattle.ldm_outside.specs.Io.{SinkRecord, Takes, WritesFront}
use Rattle.ldm_outside.specs.Link.{Failing, LinkRecord, Sent, after_sent}
use Rattle.ldm_intake.specs.declared.end.RecvEnd.{RecvEnd}
use Rattle.ldm_intake.specs.declared.end.RecvEnd.TheVariants.{LinkFault, LogFault}
use Rattle.ldm_downstream.specs.Pieces.{Piece}
use Rattle.ldm_gather.specs.declared.end.GatherEnd.{GatherEnd}
use Rattle.ldm_gather.specs.declared.end.GatherEnd.TheVariants as end
use Rattle.ldm_gather.specs.declared.end.Handled.{Handled}
use Rattle.ldm_gather.specs.declared.end.Handled.TheVariants as handled
use Rattle.ldm_gather.specs.declared.gatherer.Gatherer.{Gatherer}
use Rattle.ldm_gather.specs.declared.turn.Turned.{Turned}
use Rattle.ldm_gather.specs.declared.turn.Turned.TheVariants.{On, AtEnd, Over}
use Rattle.ldm_gather.specs.Gathering.{EndsBy, Gathers, GoesOn, IsAtEnd, Steps}
use Rattle.ldm_gather.specs.Scene.{Scene, GatherMoment}

-- all but the pass, the receiver and the buffers is as it was
abbrev pub SameButCourse : Gatherer → Gatherer → Type 0
SameButCourse old new = new ≡ record old { pass = new.pass; receiver = new.receiver; buffers = new.buffers }

-- nothing is owed and nothing is to be logged
pub record IsReady (out notes : List ℕ) : Type 0 where
  pub no_out : out ≡ []
  pub no_notes : notes ≡ []

-- What is owed was sent, and the lines were written; or the link failed, after a front of the one; or the log, after a front of the other.
abbrev pub TellsBy : Option RecvEnd → (out notes : List ℕ) → (link new_link : LinkRecord) → (log new_log : SinkRecord) → Type 0
TellsBy None out notes link new_link log new_log = Sent link out new_link × Takes log notes new_log
TellsBy (Some LinkFault) out notes link new_link log new_log =
    (front rest : List ℕ) × (front ++ rest ≡ out) × Failing (after_sent front link) new_link × (new_log ≡ log)
TellsBy (Some LogFault) out notes link new_link log new_log = Sent link out new_link × Rose log.faults new_log.faults × WritesFront log notes new_log
TellsBy (Some _) out notes link new_link log new_log = ⊥

-- how it goes on behind a piece, by what the handler answered and how the receiver ended, if it did
abbrev pub turned : Handled → Option RecvEnd → Turned
turned handled.On None = On
turned handled.On (Some over) = Over (end.Received over)
turned handled.Enough over = Over end.Enough
turned handled.Stopped over = Over end.Stopped

module _ {W A B : Type 0} (handles : Handled → Scene W A B → Scene W A B → Type 0) where
  -- What one turn came to: a piece was taken, and it goes on; or the stream is at its end; or it is over.
  abbrev pub Turns : Turned → GatherMoment W A B → GatherMoment W A B → Type 0
  Turns On old new = (piece : Piece) × Steps handles piece old new
  Turns AtEnd old new = IsAtEnd old new
  Turns (Over end) old new = EndsBy handles end old new

  -- Pieces came, and then the stream was at its end.
  pub record RunsToEnd (old new : GatherMoment W A B) : Type 0 where
    pub pieces : List Piece
    pub last : GatherMoment W A B
    pub goes_on : GoesOn handles pieces old last
    pub is_at_end : IsAtEnd last new

  abbrev pub Runs : Option GatherEnd → GatherMoment W A B → GatherMoment W A B → Type 0
  Runs None old new = RunsToEnd old new
  Runs (Some end) old new = Gathers handles end old new

abbrev pub IfGoesOn : Turned → Type 0 → Type 0
IfGoesOn On P = P
IfGoesOn AtEnd P = Unit {0}
IfGoesOn (Over end) P = Unit {0}
