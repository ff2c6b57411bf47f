use Rattle.std.proofs.Common.{sym, ◌∙◌, arith, leb-false}
use Rattle.ldm_relay.specs.declared.front.FeedFront.TheVariants as feed_front
use Rattle.ldm_relay.specs.declared.front.TheConstants.{LONGEST_CALL, LONGEST_BLOCK_CALL}
use Rattle.ldm_intake.proofs.KeptFronts.{begins_so}
use Rattle.ldm_intake.proofs.fronts.may_carry.Goals as goal

pub returns-in-Blkdata : goal.returns-in-Blkdata
returns-in-Blkdata c longer content of =
    c.long_records_carry.ensures.blocks content (omega (arith, of.len, leb-false c.args.held.len LONGEST_BLOCK_CALL longer))
    (begins_so LONGEST_CALL c.args.held content feed_front.Blkdata of (omega (arith, c.if-held.false)) (sym c.read_feed_front.ensures ∙ c.in-Blkdata.is))

pub returns-in-Other : goal.returns-in-Other
returns-in-Other c other content of =
    c.long_records_carry.ensures.others content (omega (arith, of.len, c.if-held-le-LONGEST_CALL.false))
    (begins_so LONGEST_CALL c.args.held content feed_front.Other of (omega (arith, c.if-held.false)) (sym c.read_feed_front.ensures ∙ c.in-Other.is))
