use Rattle.ldm_freelist.proofs.Kept.{can_detach, detach_low, can_clear, kept_taken, room_taken, members_taken}
use Rattle.ldm_freelist.proofs.free_set.FreeSet.remove.Goals as goal

pub detach_alone-root-requires-clause-there : goal.detach_alone-root-requires-clause-there
detach_alone-root-requires-clause-there c = can_detach c.self.inside.table c.self.inside.root c.self.inside.free c.self.invariant c.args.self.now c.self.view_is
    (c.args.extent, c.args.offset) c.requires

pub detach_alone-root-requires-clause-low : goal.detach_alone-root-requires-clause-low
detach_alone-root-requires-clause-low c = detach_low c.self.inside.table c.self.inside.root c.self.inside.free c.self.invariant c.args.self.now c.self.view_is (c.args.extent, c.args.offset) c.requires

pub clear-requires : goal.clear-requires
clear-requires c = can_clear c.self.inside.table c.self.inside.root c.self.inside.free c.self.invariant c.args.self.now c.self.view_is (c.args.extent, c.args.offset) c.requires
    c.detach_alone-root.new.table c.detach_alone-root.result c.detach_alone-root.ensures

pub invariant_of-self : goal.invariant_of-self
invariant_of-self c = kept_taken c.self.inside.table c.self.inside.root c.self.inside.free c.self.invariant c.args.self.now c.self.view_is (c.args.extent, c.args.offset) c.requires
    c.detach_alone-root.new.table c.detach_alone-root.result c.detach_alone-root.ensures c.clear.new.self c.clear.ensures

pub returns-clause-room : goal.returns-clause-room
returns-clause-room c = room_taken c.self.inside.table c.self.inside.root c.self.inside.free c.self.invariant c.args.self.now c.self.view_is (c.args.extent, c.args.offset) c.requires
    c.detach_alone-root.new.table c.detach_alone-root.result c.detach_alone-root.ensures c.clear.new.self c.clear.ensures

pub returns-clause-members : goal.returns-clause-members
returns-clause-members c = members_taken c.self.inside.table c.self.inside.root c.self.inside.free c.self.invariant c.args.self.now c.self.view_is (c.args.extent, c.args.offset) c.requires
    c.detach_alone-root.new.table c.detach_alone-root.result c.detach_alone-root.ensures c.clear.new.self c.clear.ensures
