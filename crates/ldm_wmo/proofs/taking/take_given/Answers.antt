use Rattle.std.proofs.Common.{List, ap, subst}
use Rattle.std.specs.Option.{option_to_list}
use Rattle.std.specs.Prelude.{Ok}
use Rattle.ldm_wmo.specs.Items.{Found}
use Rattle.ldm_wmo.specs.declared.outcome.Outcome.TheVariants as outcome
use Rattle.ldm_wmo.specs.Ingesting.{ingesting}
use Rattle.ldm_wmo.specs.Parts.{TakesSome, hands_tell, tellers}
use Rattle.ldm_wmo.proofs.Taken.{none}
use Rattle.ldm_wmo.proofs.taking.take_given.Goals as goal

pub returns-in-Some-clause-takes : goal.returns-in-Some-clause-takes
returns-in-Some-clause-takes g c =
    let tells = tellers g.L.Link.tells g.K.Sink.tells g.E.Sink.tells g.C.Clock.tells in
    let old = hands_tell tells c.args.puts.now c.args.link.now c.args.sink.now c.args.log.now c.args.clock.now in
    let new = hands_tell tells c.take_item.new.puts c.take_item.new.link c.take_item.new.sink c.take_item.new.log c.take_item.new.clock in
    let P : List Found → Type 0 = λ items. TakesSome c.take_item.result (ingesting c.args.ingestion.now) items old new in
    subst P (ap option_to_list c.in-Some.ensures.found) c.take_item.ensures.takes

pub returns-in-None-clause-takes : goal.returns-in-None-clause-takes
returns-in-None-clause-takes g c =
    let tells = tellers g.L.Link.tells g.K.Sink.tells g.E.Sink.tells g.C.Clock.tells in
    let old = hands_tell tells c.args.puts.now c.args.link.now c.args.sink.now c.args.log.now c.args.clock.now in
    let P : List Found → Type 0 = λ items. TakesSome (Ok outcome.Clean) (ingesting c.args.ingestion.now) items old old in
    subst P (ap option_to_list c.in-None.ensures.found) (none (ingesting c.args.ingestion.now) old)
