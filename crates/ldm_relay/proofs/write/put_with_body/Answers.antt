use Rattle.std.proofs.Common.{List, ℕ, sym, subst}
use Rattle.ldm_relay.specs.Appends.{HasRoom, Appends}
use Rattle.ldm_relay.specs.Bodies.{front_of}
use Rattle.ldm_xdr.specs.Spelling.{padded}
use Rattle.ldm_relay.proofs.Appending.{room_first, room_behind, both_append}
use Rattle.ldm_relay.proofs.Bodies.{front_and_body}
use Rattle.ldm_relay.proofs.write.put_with_body.Goals as goal

pub put_front-requires : goal.put_front-requires
put_front-requires c =
    let parts = front_and_body c.args.call.now c.args.body.now c.requires.len in
    room_first c.args.out.now (front_of c.args.call.now) (padded c.args.body.now) (subst (HasRoom c.args.out.now) parts c.requires.room)

pub put_padded-requires : goal.put_padded-requires
put_padded-requires c =
    let parts = front_and_body c.args.call.now c.args.body.now c.requires.len in
    room_behind c.args.out.now c.put_front.new.out (front_of c.args.call.now) (padded c.args.body.now) (subst (HasRoom c.args.out.now) parts c.requires.room) c.put_front.ensures

pub returns : goal.returns
returns c =
    let parts = front_and_body c.args.call.now c.args.body.now c.requires.len in
    subst (λ (x : List ℕ). Appends c.args.out.now c.put_padded.new.out x) (sym parts)
    (both_append c.args.out.now c.put_front.new.out c.put_padded.new.out (front_of c.args.call.now) (padded c.args.body.now) c.put_front.ensures c.put_padded.ensures)
