-- What is told of a run: what was sent and what was written over all files, and which counts rose.
use Rattle.std.specs.Prelude.{◌≡◌, ◌⊎◌, ℕ, ◌+◌, Bool, true, List, [], ◌∷◌, ◌++◌, length, Result, Ok, Err}
use Rattle.ldm_outside.specs.Count.{Rose}
use Rattle.ldm_outside.specs.Io.{Takes}
use Rattle.ldm_relay.specs.declared.message.PutAnswer.{PutAnswer}
use Rattle.ldm_session.specs.Exchange.{Exchanged}
use Rattle.ldm_tools.specs.declared.no_reply.NoReply.TheVariants.{BadFrame, StreamLimit, LinkFault, OutOfMemory}
use Rattle.ldm_tools.specs.Owing.{answers_refuse}
use Rattle.ldm_tools.specs.Puts.{put_call, put_number}
use Rattle.ldm_tools.specs.declared.fault.InsertFault.{InsertFault}
use Rattle.ldm_tools.specs.declared.fault.InsertFault.TheVariants as fault
use Rattle.ldm_tools.specs.Inserting.{Inserting, metadata_of}
use Rattle.ldm_tools.specs.Files.{Step, Put, TooLong, line_of}
use Rattle.ldm_tools.specs.Moments.{InsertMoment, Outside}

-- the lines of files, in order
abbrev pub lines_of : List Step → List ℕ
lines_of [] = []
lines_of (step ∷ steps) = line_of step ++ lines_of steps

-- the answers to files that were sent, in order
abbrev pub answers_of : List Step → List PutAnswer
answers_of [] = []
answers_of (TooLong ∷ steps) = answers_of steps
answers_of (Put body arrival answer ∷ steps) = answer ∷ answers_of steps

-- the records of the PUTs of files, in order: the first file has this number, and so many PUTs went before
abbrev pub calls_of : Inserting → (number before : ℕ) → List (List ℕ) → List Step → List ℕ
calls_of all number before [] steps = []
calls_of all number before (path ∷ paths) [] = []
calls_of all number before (path ∷ paths) (TooLong ∷ steps) = calls_of all (number + 1) before paths steps
calls_of all number before (path ∷ paths) (Put body arrival answer ∷ steps) =
    put_call (put_number before) (metadata_of all (record { number = number; path = path }) body arrival) body
    ++ calls_of all (number + 1) (before + 1) paths steps

-- Over all these files, the link was sent the records of their PUTs, and gave more, the answers came, and the lines were written.
pub record AreTold (all : Inserting) (paths : List (List ℕ)) (steps : List Step) (old new : InsertMoment) : Type 0 where
  pub more : List ℕ
  pub sent : Exchanged old.hands.link (calls_of all 0 (length old.answers) paths steps) more new.hands.link
  pub given : new.given ≡ old.given ++ more
  pub answers : new.answers ≡ old.answers ++ answers_of steps
  pub written : Takes old.hands.sink (lines_of steps) new.hands.sink

-- Which count rose, by how inserting ended. Where none is named, what came or the answers are the cause: see `Runs`.
abbrev pub Cause : Result Bool InsertFault → Outside → Outside → Type 0
Cause (Ok refused) old new = Unit {0}
Cause (Err fault.Unreached) old new = Rose old.net.faults new.net.faults
Cause (Err fault.StoreFault) old new = Rose old.store.faults new.store.faults
Cause (Err fault.OutOfMemory) old new = Unit {0}
Cause (Err (fault.NoAnswer (BadFrame at))) old new = Unit {0}
Cause (Err (fault.NoAnswer StreamLimit)) old new = Unit {0}
Cause (Err (fault.NoAnswer LinkFault)) old new = Rose old.net.links.failed new.net.links.failed
Cause (Err (fault.NoAnswer OutOfMemory)) old new = Unit {0}
Cause (Err fault.Denied) old new = Unit {0}
Cause (Err fault.SinkFault) old new = Rose old.sink.faults new.sink.faults

-- A queue did not admit a product that was sent, or the store's count of files that are too long rose.
abbrev pub RefusedCause : List Step → InsertMoment → InsertMoment → Type 0
RefusedCause steps old new = (answers_refuse (answers_of steps) ≡ true) ⊎ Rose old.hands.store.long new.hands.store.long
