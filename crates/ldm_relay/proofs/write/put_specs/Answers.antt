use Rattle.ldm_relay.specs.Spelling.{spec_bytes}
use Rattle.ldm_relay.proofs.Appending.{room_for_one}
use Rattle.ldm_relay.proofs.write.put_specs.Goals as goal

pub put_spec-requires : goal.put_spec-requires
put_spec-requires c = rw c.spec-item.is (room_for_one c.args.out.now c.loop-spec.out spec_bytes c.args.specs.now c.loop-spec.spec-index c.spec-item.result c.loop-spec-test.true c.requires c.loop-spec.invariant)
