use Rattle.std.proofs.Common.{List, length, refl, ap, sym, arith}
use Rattle.std.proofs.lemmas.Option.{slice_get_within}
use Rattle.ldm_model.specs.declared.event.Entry.{Entry}
use Rattle.ldm_model.specs.State.{queued}
use Rattle.ldm_model.specs.History.{after}
use Rattle.ldm_book.specs.Listing.{queued_of}
use Rattle.ldm_between_ends.specs.OnePass.{state_of}
use Rattle.ldm_chain.proofs.ListedLemmas.{left-none, none-past, sized-at}
use Rattle.ldm_chain.proofs.PutLemmas.{put-all, put-more, same-then}
use Rattle.ldm_chain.proofs.putting.put_products.Goals as goal

pub loop-i-init : goal.loop-i-init
loop-i-init g c =
    let none = ap (λ (es : List Entry). length es) c.requires.not_called in
    record { same = refl; seen = c.requires.seen; few = omega (arith, none); inside = λ s stands. omega (arith, none); put = λ s stands. refl }

pub put-requires-clause-few : goal.put-requires-clause-few
put-requires-clause-few g c = omega (arith, c.loop-i.invariant.few, c.slots-i-end.ensures.slots, c.slots-i-end.ensures.few)

pub put-requires-clause-size : goal.put-requires-clause-size
put-requires-clause-size g c =
    let there = c.requires.after_calls in
    let s = after there.arena there.slots there.history in
    sized-at s (λ n row is. c.products_stay.ensures.whole there.arena there.slots there.history there.legal n row.product row.time (row.place, is)) c.loop-i.i
    (queued_of c.in-Some.product) (sym (c.in-Some.ensures s there.stands))

pub loop-i-preserved : goal.loop-i-preserved
loop-i-preserved g c =
    let q = queued_of c.in-Some.product in
    record {
      same = same-then c.args.pass.now c.loop-i.pass c.put.new.pass c.loop-i.invariant.same c.put.ensures.kept;
      seen = c.put.ensures.seen;
      few = omega (arith, c.loop-i.invariant.few, c.put.ensures.one);
      inside = λ s stands.
          let within = slice_get_within (queued s) c.loop-i.i q (sym (c.in-Some.ensures s stands)) in
          omega (arith, c.loop-i.invariant.few, c.put.ensures.one, within);
      put = λ s stands.
          put-more (queued s) c.loop-i.i q (state_of c.loop-i.pass) (state_of c.put.new.pass) _ (sym (c.in-Some.ensures s stands)) c.put.ensures.put
          (c.loop-i.invariant.put s stands);
    }

pub returns-in_default-clause-put : goal.returns-in_default-clause-put
returns-in_default-clause-put g c = λ s stands.
    put-all _ _ _ (left-none (queued s) c.loop-i.i (sym (c.in_default.ensures s stands))) (c.loop-i.invariant.put s stands)

pub returns-clause-put : goal.returns-clause-put
returns-clause-put g c = λ s stands.
    put-all _ _ _ (none-past c.args.book.now s c.loop-i.i stands (omega (arith, c.slots-i-end.ensures.slots, c.slots-i-end.ensures.few))) (c.loop-i.invariant.put s stands)
