use Rattle.std.proofs.Common.{◌^◌, Some, None, get_or, ap}
use Rattle.ldm_cursor.specs.Kept.{place_of}
use Rattle.ldm_types.specs.Cursors.{KeptCursor}
use Rattle.ldm_cursor.proofs.WithLoss.{LostElsewhere-none, LostElsewhere-more, HasCountsBelow-marked, with_loss-all}
use Rattle.ldm_cursor.proofs.cursors.lose_each.Goals as goal

pub loop-k-init : goal.loop-k-init
loop-k-init c = LostElsewhere-none c.args.n c.args.feed.0 c.args.taken.bits c.args.places.now c.requires.many c.requires.marked

pub lose-requires : goal.lose-requires
lose-requires c =
    let place = c.index-places-get.result in
    HasCountsBelow-marked c.args.n c.args.feed.0 c.loop-k.left.bits c.get.result c.in-Some.k (2 ^ 63) c.loop-k.places c.args.places.now place c.in-Some-places.cursor
    c.loop-k.invariant c.requires.counts c.get.ensures.value c.get.ensures.bound c.in-Some.ensures.marked c.in-Some-places.is

pub loop-k-preserved-in-Some-places : goal.loop-k-preserved-in-Some-places
loop-k-preserved-in-Some-places c =
    let place = c.index-places-get.result in
    LostElsewhere-more c.args.n c.args.feed.0 c.loop-k.left.bits c.take_first.new.self.bits c.get.result c.in-Some.k c.loop-k.places c.args.places.now place (Some c.in-Some-places.cursor) (Some c.lose.new.self)
    c.loop-k.invariant c.get.ensures.value c.get.ensures.bound c.in-Some.ensures.marked c.in-Some.ensures.taken c.in-Some-places.is (ap (λ (seen : KeptCursor). Some seen) c.lose.ensures)

pub loop-k-preserved : goal.loop-k-preserved
loop-k-preserved c =
    let place = c.index-places-get.result in
    let stays = get_or c.loop-k.places c.get.result place in
    LostElsewhere-more c.args.n c.args.feed.0 c.loop-k.left.bits c.take_first.new.self.bits c.get.result c.in-Some.k c.loop-k.places c.args.places.now place None stays
    c.loop-k.invariant c.get.ensures.value c.get.ensures.bound c.in-Some.ensures.marked c.in-Some.ensures.taken c.in_default-places.is (ap place_of c.in_default-places.is)

pub returns : goal.returns
returns c = with_loss-all c.args.n c.args.feed.0 c.loop-k.left.bits c.loop-k.places c.args.places.now c.loop-k.invariant c.in_default.ensures.taken
