-- What is told of a run: what was sent, written and logged over items, and which counts rose.
use Rattle.std.specs.Prelude.{◌≡◌, ℕ, List, [], ◌∷◌, ◌++◌, length, Result, Ok, Err}
use Rattle.ldm_outside.specs.Count.{Rose}
use Rattle.ldm_outside.specs.Io.{Takes}
use Rattle.ldm_relay.specs.declared.message.PutAnswer.{PutAnswer}
use Rattle.ldm_session.specs.Exchange.{Exchanged}
use Rattle.ldm_tools.specs.declared.no_reply.NoReply.TheVariants.{BadFrame, StreamLimit, LinkFault, OutOfMemory}
use Rattle.ldm_tools.specs.declared.put_fault.PutFault.TheVariants as put_fault
use Rattle.ldm_tools.specs.Telling.{Product, calls_of, lines_of}
use Rattle.ldm_wmo.specs.Items.{Found, Bulletin, Bad}
use Rattle.ldm_wmo.specs.declared.ingest_fault.IngestFault.{IngestFault}
use Rattle.ldm_wmo.specs.declared.ingest_fault.IngestFault.TheVariants as fault
use Rattle.ldm_wmo.specs.declared.outcome.Outcome.{Outcome}
use Rattle.ldm_wmo.specs.Ingesting.{Ingesting, product_of}
use Rattle.ldm_wmo.specs.IngestLines.{bad_lines}
use Rattle.ldm_wmo.specs.Moments.{IngestMoment, Outside}
use Rattle.ldm_wmo.specs.Outcomes.{Step, Put, Logged}

-- the answers to bulletins, in order
abbrev pub answers_of : List Step → List PutAnswer
answers_of [] = []
answers_of (Put arrival answer ∷ steps) = answer ∷ answers_of steps
answers_of (Logged ∷ steps) = answers_of steps

-- the products of bulletins that were put, in order
abbrev pub products_of : Ingesting → List Found → List Step → List Product
products_of all [] steps = []
products_of all (item ∷ items) [] = []
products_of all (Bulletin at seqno heading bytes ∷ items) (Put arrival answer ∷ steps) =
    product_of all (record { seqno = seqno; heading = heading; bytes = bytes }) arrival ∷ products_of all items steps
products_of all (Bulletin at seqno heading bytes ∷ items) (Logged ∷ steps) = products_of all items steps
products_of all (Bad at ∷ items) (step ∷ steps) = products_of all items steps

-- Over all these items, the link was sent the records of the PUTs of the bulletins, and gave more; the answers came, their lines were written,
-- and the log took the lines of the other candidates.
pub record Told (all : Ingesting) (items : List Found) (steps : List Step) (old new : IngestMoment) : Type 0 where
  pub more : List ℕ
  pub sent : Exchanged old.wire.link (calls_of (length old.wire.answers) (products_of all items steps)) more new.wire.link
  pub given : new.wire.given ≡ old.wire.given ++ more
  pub answers : new.wire.answers ≡ old.wire.answers ++ answers_of steps
  pub written : Takes old.wire.sink (lines_of (answers_of steps)) new.wire.sink
  pub logged : Takes old.log (bad_lines items) new.log

-- Which count rose, by how ingesting ended. Where none is named, what came or the answers are the cause: see `Runs`.
abbrev pub Cause : Result Outcome IngestFault → Outside → Outside → Type 0
Cause (Ok met) old new = Unit {0}
Cause (Err fault.Unreached) old new = Rose old.net.faults new.net.faults
Cause (Err fault.SourceFault) old new = Rose old.streams.source.faults new.streams.source.faults
Cause (Err fault.StreamLimit) old new = Unit {0}
Cause (Err fault.OutOfMemory) old new = Unit {0}
Cause (Err (fault.Put (put_fault.NoAnswer (BadFrame at)))) old new = Unit {0}
Cause (Err (fault.Put (put_fault.NoAnswer StreamLimit))) old new = Unit {0}
Cause (Err (fault.Put (put_fault.NoAnswer LinkFault))) old new = Rose old.net.links.failed new.net.links.failed
Cause (Err (fault.Put (put_fault.NoAnswer OutOfMemory))) old new = Unit {0}
Cause (Err (fault.Put put_fault.Denied)) old new = Unit {0}
Cause (Err (fault.Put put_fault.SinkFault)) old new = Rose old.streams.sink.faults new.streams.sink.faults
Cause (Err fault.LogFault) old new = Rose old.streams.log.faults new.streams.log.faults
