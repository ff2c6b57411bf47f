use Rattle.std.proofs.Common.{ℕ, List, [], ◌∷◌, refl, sym, subst}
use Rattle.std.specs.Prelude.{Ok, Err}
use Rattle.ldm_wmo.specs.declared.item.Item.{Item}
use Rattle.ldm_wmo.specs.ItemView.{found_of}
use Rattle.ldm_wmo.specs.Items.{IsSound}
use Rattle.ldm_wmo.specs.declared.ingest_fault.IngestFault.TheVariants as fault
use Rattle.ldm_wmo.specs.declared.outcome.Outcome.TheVariants as outcome
use Rattle.ldm_wmo.specs.Ingesting.{ingesting}
use Rattle.ldm_wmo.specs.Parts.{Sends, TakesSome, hands_tell, sent_by, tellers}
use Rattle.ldm_wmo.proofs.Named.{named}
use Rattle.ldm_wmo.proofs.Taken.{bad_broken, bad_told, bulletin_told}
use Rattle.ldm_wmo.proofs.taking.take_item.Goals as goal

pub put_bulletin-requires-clause-named : goal.put_bulletin-requires-clause-named
put_bulletin-requires-clause-named g c =
    let P : Item → Type 0 = λ item. IsSound (found_of item) in
    let sound = subst P c.in-Bulletin.is c.requires.sound in
    rw c.as_slice.ensures.value (named c.args.ingestion.now.origin.now c.in-Bulletin.heading.items c.requires.named sound.0)

pub returns-in-Bulletin-clause-takes : goal.returns-in-Bulletin-clause-takes
returns-in-Bulletin-clause-takes g c =
    let all = ingesting c.args.ingestion.now in
    let tells = tellers g.L.Link.tells g.K.Sink.tells g.E.Sink.tells g.C.Clock.tells in
    let old = hands_tell tells c.args.puts.now c.args.link.now c.args.sink.now c.args.log.now c.args.clock.now in
    let new = hands_tell tells c.put_bulletin.new.puts c.put_bulletin.new.link c.put_bulletin.new.sink c.args.log.now c.put_bulletin.new.clock in
    let old_sent = sent_by g.L.Link.tells g.K.Sink.tells g.C.Clock.tells c.args.puts.now c.args.link.now c.args.sink.now c.args.clock.now in
    let new_sent = sent_by g.L.Link.tells g.K.Sink.tells g.C.Clock.tells c.put_bulletin.new.puts c.put_bulletin.new.link c.put_bulletin.new.sink c.put_bulletin.new.clock in
    let P : List ℕ → Type 0 =
    λ heading. Sends c.put_bulletin.result all (record { seqno = c.in-Bulletin.seqno; heading = heading; bytes = c.in-Bulletin.bytes.now }) old_sent new_sent in
    let Q : Item → Type 0 = λ item. TakesSome c.put_bulletin.result all (found_of item ∷ []) old new in
    subst Q (sym c.in-Bulletin.is)
    (bulletin_told all c.in-Bulletin.at c.in-Bulletin.seqno c.in-Bulletin.heading.items c.in-Bulletin.bytes.now old new refl c.put_bulletin.result
    (subst P c.as_slice.ensures.value c.put_bulletin.ensures.sends))

pub returns-in-Ok-clause-takes : goal.returns-in-Ok-clause-takes
returns-in-Ok-clause-takes g c =
    let all = ingesting c.args.ingestion.now in
    let tells = tellers g.L.Link.tells g.K.Sink.tells g.E.Sink.tells g.C.Clock.tells in
    let old = hands_tell tells c.args.puts.now c.args.link.now c.args.sink.now c.args.log.now c.args.clock.now in
    let new = hands_tell tells c.args.puts.now c.args.link.now c.args.sink.now c.write_bad.new.log c.args.clock.now in
    let Q : Item → Type 0 = λ item. TakesSome (Ok outcome.Bad) all (found_of item ∷ []) old new in
    subst Q (sym c.in-Bad.is) (bad_told all c.in-Bad.at old new c.in-Ok.ensures.written refl)

pub returns-in-Err-clause-takes : goal.returns-in-Err-clause-takes
returns-in-Err-clause-takes g c =
    let all = ingesting c.args.ingestion.now in
    let tells = tellers g.L.Link.tells g.K.Sink.tells g.E.Sink.tells g.C.Clock.tells in
    let old = hands_tell tells c.args.puts.now c.args.link.now c.args.sink.now c.args.log.now c.args.clock.now in
    let new = hands_tell tells c.args.puts.now c.args.link.now c.args.sink.now c.write_bad.new.log c.args.clock.now in
    let Q : Item → Type 0 = λ item. TakesSome (Err fault.LogFault) all (found_of item ∷ []) old new in
    subst Q (sym c.in-Bad.is) (bad_broken all c.in-Err.field-0 c.in-Bad.at old new c.in-Err.ensures.written refl)
