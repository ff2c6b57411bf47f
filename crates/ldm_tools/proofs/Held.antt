-- A link that was connected and given back, and what was done over it.
use Rattle.std.proofs.Common.{Bool}
use Rattle.std.specs.Prelude.{Result, Ok, Err}
use Rattle.ldm_outside.specs.declared.dial.Dialled.TheVariants.{Linked}
use Rattle.ldm_outside.specs.Dial.{DialRecord, ConnectGives}
use Rattle.ldm_outside.specs.Link.{LinkRecord}
use Rattle.ldm_tools.proofs.Linked.{linked}
use Rattle.ldm_tools.specs.declared.fault.InsertFault.{InsertFault}
use Rattle.ldm_tools.specs.declared.fault.InsertFault.TheVariants as fault
use Rattle.ldm_tools.specs.Inserting.{Inserting}
use Rattle.ldm_tools.specs.Inserts.{InsertEnds, InsertsOver}
use Rattle.ldm_tools.specs.Moments.{Outside}
use Rattle.ldm_tools.specs.Parts.{HoldsFiles}
use Rattle.ldm_tools.proofs.InsertCompleted.{completes}

inserts_over : (ending : Result Bool InsertFault) (all : Inserting) (came : LinkRecord) (lent : DialRecord) (old new : Outside)
    → ConnectGives (λ (link : LinkRecord). link) (Linked came) all.peer old.net lent → HoldsFiles ending all came (record old { net = lent }) new → InsertsOver ending all old new
inserts_over ending all came lent old new dialled holds =
    let is = linked all.peer came holds.left old.net lent new.net dialled holds.not_closed holds.given_back in
    record {
      came = came;
      left = holds.left;
      linked = is;
      given = holds.runs.given;
      answers = holds.runs.answers;
      runs = holds.runs.runs;
      completes = completes ending all came holds.left old new holds.runs.given holds.runs.answers holds.runs.runs is.failed;
    }

pub insert_ends : (ending : Result Bool InsertFault) (all : Inserting) (came : LinkRecord) (lent : DialRecord) (old new : Outside)
    → ConnectGives (λ (link : LinkRecord). link) (Linked came) all.peer old.net lent → HoldsFiles ending all came (record old { net = lent }) new → InsertEnds ending all old new
insert_ends (Ok refused) all came lent old new dialled holds = inserts_over (Ok refused) all came lent old new dialled holds
insert_ends (Err fault.StoreFault) all came lent old new dialled holds = inserts_over (Err fault.StoreFault) all came lent old new dialled holds
insert_ends (Err fault.OutOfMemory) all came lent old new dialled holds = inserts_over (Err fault.OutOfMemory) all came lent old new dialled holds
insert_ends (Err (fault.NoAnswer why)) all came lent old new dialled holds = inserts_over (Err (fault.NoAnswer why)) all came lent old new dialled holds
insert_ends (Err fault.Denied) all came lent old new dialled holds = inserts_over (Err fault.Denied) all came lent old new dialled holds
insert_ends (Err fault.SinkFault) all came lent old new dialled holds = inserts_over (Err fault.SinkFault) all came lent old new dialled holds
insert_ends (Err fault.Unreached) all came lent old new dialled holds = absurd holds.runs.runs
