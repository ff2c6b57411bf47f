use Rattle.std.proofs.Common.{Bool, refl, subst}
use Rattle.std.specs.Prelude.{Result, Ok}
use Rattle.ldm_types.specs.Info.{Metadata}
use Rattle.ldm_tools.specs.declared.put_fault.PutFault.{PutFault}
use Rattle.ldm_tools.specs.Telling.{PutsProduct}
use Rattle.ldm_tools.specs.Parts.{putting_of, sent_by}
use Rattle.ldm_tools.proofs.taking.put_file.Goals as goal

pub returns-in-Ok-clause-sends : goal.returns-in-Ok-clause-sends
returns-in-Ok-clause-sends g c =
    let old = sent_by g.L.Link.tells g.K.Sink.tells g.C.Clock.tells c.args.puts.now c.args.link.now c.args.sink.now c.args.clock.now in
    let new = sent_by g.L.Link.tells g.K.Sink.tells g.C.Clock.tells c.put_product.new.puts c.put_product.new.link c.put_product.new.sink c.now.new.self in
    let put : Result Bool PutFault = Ok c.in-Ok.refused in
    let P : Metadata → Type 0 = λ info. PutsProduct put (record { info = info; body = c.args.body.now }) (putting_of old) (putting_of new) in
    record {
      arrival = c.now.result;
      asked = c.now.ensures;
      put = put;
      result_is = refl;
      puts = subst P c.metadata_of-info.ensures.value c.in-Ok.ensures.puts;
    }
