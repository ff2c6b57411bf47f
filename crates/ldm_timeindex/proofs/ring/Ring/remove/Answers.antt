use Rattle.std.proofs.Common.{◌≡◌, ◌-◌, take, remove, length, ap, ◌∙◌, arith, length-take-le}
use Rattle.std.proofs.lemmas.List.{with_items_is}
use Rattle.ldm_timeindex.specs.Ring.{Held, place_of, turned}
use Rattle.ldm_timeindex.specs.declared.ring.Ring.TheInside.{Inside}
use Rattle.ldm_timeindex.proofs.Turned.{held_by, held_from_back, held_from_front, held_of, length-turned}
use Rattle.ldm_timeindex.proofs.ring.Ring.remove.Goals as goal
use Rattle.ldm_timeindex.proofs.ring.Ring.remove.Goals.{then-index-self, else-index-self}

pub returns : goal.returns
returns c =
    let table = c.self.inside.table.items in
    let first = c.self.inside.first in
    let count = c.self.inside.count in
    let within = c.requires in
    let has = ap (λ (held : Held). length held.entries) c.self.view_is in
    let few = length-take-le count (turned first table) (omega (arith, c.self.invariant.fits, length-turned first table c.self.invariant.inside)) in
    let whole = ap (λ (held : Held). held_of held.room (remove held.entries c.args.index)) c.self.view_is in
    elim c.if-index-self.branch [
      | then-index-self w ↦
          let table' = w.close_from_front.new.table in
          let len : length table' ≡ length table = omega (arith, w.close_from_front.auto.table, w.deref_mut.ensures.len) in
          let items = with_items_is c.self.inside.table table' (omega arith) in
          let closed = w.close_from_front.ensures ∙ ap (λ t. remove (turned first t) c.args.index) w.deref_mut.ensures.value in
          let next = w.place-self-inside.ensures.place ∙ ap (λ n. place_of first n 1) (omega arith) in
          ap (λ (i : Inside). held_by i.table.items i.first (i.count - 1)) w.self-inside-is
          ∙ ap (λ t. held_by t w.place-self-inside.result (count - 1)) items
          ∙ held_from_front table table' first count c.args.index w.place-self-inside.result c.self.invariant.inside c.self.invariant.fits (omega arith) len closed next
          ∙ whole
      | else-index-self w ↦
          let table' = w.close_from_back.new.table in
          let len : length table' ≡ length table = omega (arith, w.close_from_back.auto.table, w.deref_mut-else-index-self.ensures.len) in
          let items = with_items_is c.self.inside.table table' (omega arith) in
          let closed = w.close_from_back.ensures ∙ ap (λ t. remove (take count (turned first t)) c.args.index) w.deref_mut-else-index-self.ensures.value in
          ap (λ (i : Inside). held_by i.table.items i.first (i.count - 1)) w.self-inside-is
          ∙ ap (λ t. held_by t first (count - 1)) items
          ∙ held_from_back table table' first count c.args.index len closed
          ∙ whole
    ]
