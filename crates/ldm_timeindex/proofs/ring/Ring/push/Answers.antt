use Rattle.std.proofs.Common.{◌≡◌, ◌++◌, ◌∷◌, [], length, ap, ◌∙◌, arith, length-take-le}
use Rattle.ldm_timeindex.specs.Ring.{Held, place_of, turned}
use Rattle.ldm_timeindex.proofs.Turned.{held_of, held_push, length-turned}
use Rattle.ldm_timeindex.proofs.ring.Ring.push.Goals as goal

pub returns : goal.returns
returns c =
    let table = c.self.inside.table.items in
    let room = c.requires in
    let has_room = ap (λ (held : Held). length held.entries) c.self.view_is in
    let many = ap (λ (held : Held). held.room) c.self.view_is in
    let few = length-take-le c.self.inside.count (turned c.self.inside.first table) (omega (arith, c.self.invariant.fits, length-turned c.self.inside.first table c.self.invariant.inside)) in
    let same : c.len.result ≡ length table = omega (arith, c.len.ensures) in
    let at = c.place-at.ensures.place ∙ ap (λ n. place_of c.self.inside.first n c.self.inside.count) same in
    held_push table c.self.inside.first c.self.inside.count c.place-at.result c.args.entry c.self.invariant.inside (omega arith) at
    ∙ ap (λ (held : Held). held_of held.room (held.entries ++ c.args.entry ∷ [])) c.self.view_is
