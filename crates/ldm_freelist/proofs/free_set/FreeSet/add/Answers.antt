use Rattle.ldm_freelist.proofs.Kept.{can_fill, can_insert, insert_low, kept_added, room_added, members_added}
use Rattle.ldm_freelist.proofs.free_set.FreeSet.add.Goals as goal

pub fill-self-inside-requires : goal.fill-self-inside-requires
fill-self-inside-requires c = can_fill c.self.inside.table c.self.inside.root c.self.inside.free c.self.invariant c.args.self.now c.self.view_is (c.args.extent, c.args.offset)
    c.requires.room c.requires.new

pub insert_alone-self-inside-requires-clause-addable : goal.insert_alone-self-inside-requires-clause-addable
insert_alone-self-inside-requires-clause-addable c = can_insert c.self.inside.table c.self.inside.root c.self.inside.free c.self.invariant c.args.self.now c.self.view_is
    (c.args.extent, c.args.offset) c.requires.room c.requires.new c.fill-self-inside.new.self c.fill-self-inside.ensures.filled

pub insert_alone-self-inside-requires-clause-low : goal.insert_alone-self-inside-requires-clause-low
insert_alone-self-inside-requires-clause-low c = insert_low c.self.inside.table c.self.inside.root c.self.inside.free c.self.invariant c.args.self.now c.self.view_is
    (c.args.extent, c.args.offset) c.requires.room c.requires.new c.fill-self-inside.new.self c.fill-self-inside.ensures.filled

pub invariant_of-self : goal.invariant_of-self
invariant_of-self c =
    kept_added c.self.inside.table c.self.inside.root c.self.inside.free c.self.invariant c.args.self.now c.self.view_is (c.args.extent, c.args.offset) c.requires.room c.requires.new
    c.fill-self-inside.new.self c.fill-self-inside.ensures.filled
    c.insert_alone-self-inside.new.table c.insert_alone-self-inside.result c.fill-self-inside.result c.insert_alone-self-inside.ensures c.fill-self-inside.ensures.next

pub returns-clause-room : goal.returns-clause-room
returns-clause-room c =
    room_added c.self.inside.table c.self.inside.root c.self.inside.free c.self.invariant c.args.self.now c.self.view_is (c.args.extent, c.args.offset) c.requires.room c.requires.new
    c.fill-self-inside.new.self c.fill-self-inside.ensures.filled
    c.insert_alone-self-inside.new.table c.insert_alone-self-inside.result c.fill-self-inside.result c.insert_alone-self-inside.ensures c.fill-self-inside.ensures.next

pub returns-clause-members : goal.returns-clause-members
returns-clause-members c =
    members_added c.self.inside.table c.self.inside.root c.self.inside.free c.self.invariant c.args.self.now c.self.view_is (c.args.extent, c.args.offset) c.requires.room c.requires.new
    c.fill-self-inside.new.self c.fill-self-inside.ensures.filled
    c.insert_alone-self-inside.new.table c.insert_alone-self-inside.result c.fill-self-inside.result c.insert_alone-self-inside.ensures c.fill-self-inside.ensures.next
