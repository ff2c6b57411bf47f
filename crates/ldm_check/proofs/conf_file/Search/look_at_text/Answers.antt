use Rattle.std.proofs.Common.{refl}
use Rattle.ldm_outside.specs.Store.{StoreRecord}
use Rattle.ldm_check.specs.Sources.{left_of}
use Rattle.ldm_check.specs.Walks.{State, state_of}
use Rattle.ldm_check.proofs.Telling.{told_conf}
use Rattle.ldm_check.proofs.conf_file.Search.look_at_text.Goals as goal

pub returns-clause-told : goal.returns-clause-told
returns-clause-told g c =
    let path = c.args.path.now in
    let before : StoreRecord = g.F.Store.tells c.args.store.now in
    let after : StoreRecord = g.F.Store.tells c.look_through.new.store in
    let start : State = record { count = 1; told = c.args.self.now.faults.items } in
    told_conf path c.args.bytes.now before after start (state_of c.look_through.new.self) (left_of path c.of.result) refl (c.of.ensures.lines path) c.in_ok-look_through.ensures.passes
