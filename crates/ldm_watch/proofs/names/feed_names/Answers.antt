use Rattle.ldm_watch.proofs.Members.{feeds-members, feeds-named}
use Rattle.ldm_watch.proofs.names.feed_names.Goals as goal

pub returns-in-Some : goal.returns-in-Some
returns-in-Some c = feeds-named c.name_of.result c.in-Some.name c.args.feed.0 c.put.new.out.items c.name_of.ensures.name c.in-Some.is
    (rw c.new-text.ensures at c.put.ensures.text)

pub returns-in-None : goal.returns-in-None
returns-in-None c = feeds-members c.name_of.result c.args.feed.0 c.put_members.new.text.items c.name_of.ensures.name c.in-None.is c.put_members.ensures
