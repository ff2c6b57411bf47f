use Rattle.std.proofs.Common.{length, ap, arith}
use Rattle.ldm_watch.specs.FeedNames.{members_text}
use Rattle.ldm_watch.proofs.Members.{member-more, member-none}
use Rattle.ldm_watch.proofs.names.put_members.Goals as goal
use Rattle.ldm_watch.proofs.names.put_members.Goals.{then-set-bit-eq1, else-set-bit-eq1}

pub loop-bit-init : goal.loop-bit-init
unfolding members_text
loop-bit-init c = record { text = c.requires; room = omega (arith, ap length c.requires) }

pub loop-bit-preserved : goal.loop-bit-preserved
loop-bit-preserved c = elim c.if-set-bit-eq1.branch [
  | then-set-bit-eq1 w ↦ record {
    text = rw w.text-is (member-more c.loop-bit.bit c.args.set c.loop-bit.text.items w.put_member.new.text.items c.loop-bit.invariant.text w.if-set-bit-eq1.true w.put_member.ensures.text);
    room = rw w.text-is (let few = w.put_member.ensures.room in omega (arith, few));
  }
  | else-set-bit-eq1 w ↦ record {
    text = rw w.text-is (member-none c.loop-bit.bit c.args.set c.loop-bit.text.items c.loop-bit.invariant.text w.if-set-bit-eq1.false);
    room = rw w.text-is (let few = c.loop-bit.invariant.room in omega (arith, few));
  }
]
