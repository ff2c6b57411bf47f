use Rattle.std.proofs.Common.{◌≤◌, List, ℕ, subst, arith}
use Rattle.std.specs.Prelude.{Ok, Err}
use Rattle.ldm_outside.specs.Link.{SendsAll}
use Rattle.ldm_tools.specs.Puts.{put_call}
use Rattle.ldm_tools.proofs.Sending.{spelled}
use Rattle.ldm_tools.proofs.puts.send_put.Goals as goal

pub returns-in-Ok-send_parts-clause-sent : goal.returns-in-Ok-send_parts-clause-sent
returns-in-Ok-send_parts-clause-sent g c =
    let tells = g.K.Link.tells in
    let few : c.in-Ok.padding ≤ 3 = omega (arith, c.in-Ok.ensures.padding) in
    let P : List ℕ → Type 0 = λ bytes. SendsAll (Ok tt) bytes (tells c.args.link.now) (tells c.send_parts.new.link) in
    subst P
    (spelled c.as_slice.result.now c.write_head.new.out.items c.clear.new.self.items c.args.body.now (put_call c.args.xid c.args.info.now c.args.body.now) c.in-Ok.padding few c.as_slice.ensures.value
    c.clear.ensures.items (c.in-Ok.ensures.ok c.args.body.now c.requires.size))
    c.in-Ok-send_parts.ensures.sent

pub returns-in-Err-send_parts-clause-sent : goal.returns-in-Err-send_parts-clause-sent
returns-in-Err-send_parts-clause-sent g c =
    let tells = g.K.Link.tells in
    let few : c.in-Ok.padding ≤ 3 = omega (arith, c.in-Ok.ensures.padding) in
    let P : List ℕ → Type 0 = λ bytes. SendsAll (Err c.in-Err-send_parts.field-0) bytes (tells c.args.link.now) (tells c.send_parts.new.link) in
    subst P
    (spelled c.as_slice.result.now c.write_head.new.out.items c.clear.new.self.items c.args.body.now (put_call c.args.xid c.args.info.now c.args.body.now) c.in-Ok.padding few c.as_slice.ensures.value
    c.clear.ensures.items (c.in-Ok.ensures.ok c.args.body.now c.requires.size))
    c.in-Err-send_parts.ensures.sent
