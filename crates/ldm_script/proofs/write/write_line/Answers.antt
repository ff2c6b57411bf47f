use Rattle.std.proofs.Common.{◌≡◌, ◌++◌}
use Rattle.ldm_script.proofs.RoundTrip.{reads_back, written}
use Rattle.ldm_script.proofs.write.write_line.Goals as goal

pub returns-clause-written : goal.returns-clause-written
returns-clause-written c =
    let old = c.args.out.now.items in
    let front = c.put_front.new.out.items in
    let middle : c.append.new.out.items ≡ old ++ front = cc in
    written c.args.order.now old c.append.new.out.items c.append_back.new.out.items front c.put_front.ensures.text middle c.append_back.ensures.text

pub returns-clause-read_back : goal.returns-clause-read_back
returns-clause-read_back c = reads_back c.args.order.now c.put_front.ensures.actor c.put_front.ensures.read_back c.append_back.ensures.read_back c.requires
