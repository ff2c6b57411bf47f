use Rattle.std.proofs.Common.{◌≡◌, ◌-◌, ◌++◌, ℕ, List, refl, sym, ap, ◌∙◌, ◌+◌, append-nil, arith}
use Rattle.ldm_book.proofs.CreateLemmas.{down_from, down_more, slotted-none}
use Rattle.ldm_book.proofs.products.Products.create.Goals as goal

pub loop-behind-preserved : goal.loop-behind-preserved
loop-behind-preserved c =
    let sofar = c.loop-behind.invariant in
    record {
      free =
          ap (λ (free : List ℕ). free ++ down_from (c.args.slots - (c.loop-behind.behind + 1))) c.in_ok-push.ensures.items
          ∙ down_more c.loop-behind.free.items c.args.slots c.loop-behind.behind c.loop-behind-test.true sofar.free;
      roomy = omega (arith, sofar.roomy, c.in_ok-push.ensures.capacity);
    }

pub invariant_of-result : goal.invariant_of-result
invariant_of-result c =
    let sofar = c.loop-behind.invariant in
    let slots = c.args.slots in
    let none : slots - c.loop-behind.behind ≡ 0 = omega arith in
    slotted-none
    (record {
      slots = c.in_ok-vec.field-0;
      free = c.loop-behind.free;
      regions = c.in_ok-create.field-0;
      by_signature = c.in_ok-create_keyed.field-0;
      by_number = c.in_ok-create-2.field-0;
      used = 0;
      reserved = c.in_ok-create-3.field-0;
    })
    slots c.args.arena
    (omega (arith, c.in_ok-vec.field-0.ok.0, c.in_ok-vec.ensures.len))
    (sym (append-nil c.loop-behind.free.items) ∙ ap (λ n. c.loop-behind.free.items ++ down_from n) (sym none) ∙ sofar.free)
    sofar.roomy c.in_ok-create.ensures.empty c.in_ok-create.ensures.tiles c.in_ok-create_keyed.ensures c.in_ok-create-2.ensures refl c.in_ok-create-3.ensures c.requires.slots c.requires.greatest
