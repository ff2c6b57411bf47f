use Rattle.std.proofs.Common.{◌≡◌}
use Rattle.ldm_conf.specs.Causes.{IsIn}
use Rattle.ldm_command_files.specs.Texts.{ReadsText}
use Rattle.ldm_command_files.proofs.Taking.{first_failed, takes_text, taking_completes}
use Rattle.ldm_command_files.proofs.conf_file.take_conf_because.Goals as goal

pub returns-in-Bytes-clause-takes : goal.returns-in-Bytes-clause-takes
returns-in-Bytes-clause-takes g c =
    let tells = g.F.Store.tells in
    let came = c.in-Bytes.ensures.read in
    let old = tells c.args.store.now in
    let new = tells c.read_text.new.store in
    let bytes = c.in-Bytes.bytes.items in
    let is_in : IsIn old (record { path = c.args.path.now; bytes = bytes }) = (came.0, came.1) in
    let same : tells c.read_file.new.self ≡ old = came.2 in
    let reads : ReadsText c.read_text.result bytes old new = rw (c.as_slice.ensures.value, same) at c.read_text.ensures.reads in
    takes_text c.args.path.now bytes old new is_in c.read_text.result reads

pub returns-in-Bytes-clause-completes : goal.returns-in-Bytes-clause-completes
returns-in-Bytes-clause-completes g c =
    let tells = g.F.Store.tells in
    taking_completes c.read_text.result c.args.path.now (tells c.args.store.now) (tells c.read_text.new.store) (returns-in-Bytes-clause-takes g c)

pub returns-in-Failed-clause-takes : goal.returns-in-Failed-clause-takes
returns-in-Failed-clause-takes g c =
    let tells = g.F.Store.tells in
    first_failed c.args.path.now (tells c.args.store.now) (tells c.read_file.new.self) c.in-Failed.ensures.read
