use Rattle.std.proofs.Common.{refl, ap}
use Rattle.ldm_outside.specs.Store.{StoreRecord}
use Rattle.ldm_tools.specs.Inserting.{FileAt, inserting}
use Rattle.ldm_tools.specs.Moments.{hands_tell}
use Rattle.ldm_tools.proofs.Taken.{long_broken, long_told, no_memory, not_read, put_told}
use Rattle.ldm_tools.proofs.taking.take_file.Goals as goal

pub returns-in-Bytes-clause-takes : goal.returns-in-Bytes-clause-takes
returns-in-Bytes-clause-takes g c =
    let file : FileAt = record { number = c.args.number; path = c.args.path.now } in
    let old = hands_tell g.F.Store.tells g.L.Link.tells g.K.Sink.tells g.C.Clock.tells c.args.store.now c.args.link.now c.args.sink.now c.args.clock.now in
    let new = hands_tell g.F.Store.tells g.L.Link.tells g.K.Sink.tells g.C.Clock.tells c.read_file.new.self c.put_file.new.link c.put_file.new.sink c.put_file.new.clock in
    let read = c.in-Bytes.ensures.read in
    put_told (inserting c.args.insertion.now) file c.put_file.result c.as_slice.result.now c.args.puts.now c.put_file.new.puts old new
    (rw c.as_slice.ensures.value (record { short = read.0; told = read.1 })) c.put_file.ensures.sends (ap (λ (s : StoreRecord). record new { store = s }) read.2)

pub returns-in-Ok-clause-takes : goal.returns-in-Ok-clause-takes
returns-in-Ok-clause-takes g c =
    let file : FileAt = record { number = c.args.number; path = c.args.path.now } in
    let old = hands_tell g.F.Store.tells g.L.Link.tells g.K.Sink.tells g.C.Clock.tells c.args.store.now c.args.link.now c.args.sink.now c.args.clock.now in
    let new = hands_tell g.F.Store.tells g.L.Link.tells g.K.Sink.tells g.C.Clock.tells c.read_file.new.self c.args.link.now c.write_too_long.new.sink c.args.clock.now in
    long_told (inserting c.args.insertion.now) file c.args.puts.now old new c.in-TooLong.ensures.read c.in-Ok.ensures.written refl

pub returns-in-Err-clause-takes : goal.returns-in-Err-clause-takes
returns-in-Err-clause-takes g c =
    let file : FileAt = record { number = c.args.number; path = c.args.path.now } in
    let old = hands_tell g.F.Store.tells g.L.Link.tells g.K.Sink.tells g.C.Clock.tells c.args.store.now c.args.link.now c.args.sink.now c.args.clock.now in
    let new = hands_tell g.F.Store.tells g.L.Link.tells g.K.Sink.tells g.C.Clock.tells c.read_file.new.self c.args.link.now c.write_too_long.new.sink c.args.clock.now in
    long_broken (inserting c.args.insertion.now) file c.in-Err.field-0 c.args.puts.now old new c.in-TooLong.ensures.read c.in-Err.ensures.written refl

pub returns-in-Failed-clause-takes : goal.returns-in-Failed-clause-takes
returns-in-Failed-clause-takes g c =
    let file : FileAt = record { number = c.args.number; path = c.args.path.now } in
    let old = hands_tell g.F.Store.tells g.L.Link.tells g.K.Sink.tells g.C.Clock.tells c.args.store.now c.args.link.now c.args.sink.now c.args.clock.now in
    let new = hands_tell g.F.Store.tells g.L.Link.tells g.K.Sink.tells g.C.Clock.tells c.read_file.new.self c.args.link.now c.args.sink.now c.args.clock.now in
    not_read (inserting c.args.insertion.now) file c.args.puts.now old new c.in-Failed.ensures.read refl

pub returns-in-OutOfMemory-clause-takes : goal.returns-in-OutOfMemory-clause-takes
returns-in-OutOfMemory-clause-takes g c =
    let file : FileAt = record { number = c.args.number; path = c.args.path.now } in
    let old = hands_tell g.F.Store.tells g.L.Link.tells g.K.Sink.tells g.C.Clock.tells c.args.store.now c.args.link.now c.args.sink.now c.args.clock.now in
    let new = hands_tell g.F.Store.tells g.L.Link.tells g.K.Sink.tells g.C.Clock.tells c.read_file.new.self c.args.link.now c.args.sink.now c.args.clock.now in
    no_memory (inserting c.args.insertion.now) file c.args.puts.now old new (ap (λ (s : StoreRecord). record old { store = s }) c.in-OutOfMemory.ensures.read)
