use Rattle.std.proofs.Common.{◌∙◌, List, [], length, sym, ap, arith, append-nil, length-append}
use Rattle.ldm_model.specs.declared.event.Entry.{Entry}
use Rattle.ldm_types.specs.Feed.{feeds_meet}
use Rattle.ldm_book.specs.Listing.{queued_of}
use Rattle.ldm_between_ends.specs.OnePass.{state_of}
use Rattle.ldm_chain.specs.Listing.{any_feed}
use Rattle.ldm_chain.proofs.PutLemmas.{inserted-one, with_feed, without_feed}
use Rattle.ldm_chain.proofs.putting.put.Goals as goal

pub unreachable-requires : goal.unreachable-requires
unreachable-requires g c =
    let worn = c.in-Worn.ensures.worn in
    let same = c.one_pass.ensures.goes_on c.args.pass.now c.insert.new.pass [] worn.makes c.requires.passes c.requires.actor in
    omega (arith, c.requires.few, worn.long, worn.turns_are, ap (λ (es : List Entry). length es) same, ap (λ (es : List Entry). length es) (append-nil c.args.pass.now.seen))

pub returns-then-not-meets-clause-put : goal.returns-then-not-meets-clause-put
returns-then-not-meets-clause-put g c = sym (without_feed (queued_of c.args.product.now) (state_of c.args.pass.now) (ap (feeds_meet any_feed) (sym c.feed.ensures) ∙ sym c.meets.ensures.value ∙ c.if-not-meets.true))

pub returns-clause-one : goal.returns-clause-one
returns-clause-one g c =
    let made = c.in-Done.ensures.done.makes in
    let same = c.one_pass.ensures.goes_on c.args.pass.now c.insert.new.pass _ made c.requires.passes c.requires.actor in
    omega (arith, ap (λ (es : List Entry). length es) same, length-append {A = Entry})

pub returns-clause-put : goal.returns-clause-put
returns-clause-put g c =
    let q = queued_of c.args.product.now in
    let grows = c.in-Done.ensures.done in
    inserted-one c.args.pass.now c.insert.new.pass c.args.pass.now.actor q.time q.product.info q.product.body _ c.insert.ensures.kept
    (c.one_pass.ensures.goes_on c.args.pass.now c.insert.new.pass _ grows.makes c.requires.passes c.requires.actor)
    ∙ sym (with_feed q (state_of c.args.pass.now) (ap (feeds_meet any_feed) (sym c.feed.ensures) ∙ sym c.meets.ensures.value ∙ c.if-not-meets.false))
