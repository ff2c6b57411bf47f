use Rattle.std.proofs.Common.{sym, arith}
use Rattle.ldm_sigindex.proofs.Kept.{place_inside, read_found, sought}
use Rattle.ldm_sigindex.proofs.index.SigIndex.find.Goals as goal

pub index-requires : goal.index-requires
index-requires c =
    let is = sought c.self.inside.key c.self.inside.entries.items c.deref.result.now c.self.inside.slots.items c.deref-2.result.now c.args.s.now.0 c.in_ok-place.place c.deref.ensures.value c.deref-2.ensures.value c.in_ok-place.ensures.found in
    let inside = place_inside c.self.inside.key c.self.inside.entries.items c.self.inside.slots.items c.args.self.now c.args.s.now.0 c.in_ok-place.place c.self.invariant c.self.view_is is in
    omega arith

pub returns-clause-slot : goal.returns-clause-slot
returns-clause-slot c =
    let is = sought c.self.inside.key c.self.inside.entries.items c.deref.result.now c.self.inside.slots.items c.deref-2.result.now c.args.s.now.0 c.in_ok-place.place c.deref.ensures.value c.deref-2.ensures.value c.in_ok-place.ensures.found in
    sym (read_found c.self.inside.key c.self.inside.entries.items c.self.inside.slots.items c.args.self.now c.args.s.now.0 c.in_ok-place.place c.self.invariant c.self.view_is is c.index.result.now c.index.ensures)
