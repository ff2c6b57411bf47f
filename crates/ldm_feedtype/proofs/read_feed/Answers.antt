use Rattle.std.proofs.Common.{length, rules}
use Rattle.ldm_types.specs.declared.feed.Feed.{Feed}
use Rattle.ldm_feedtype.specs.FeedSets.{set_of}
use Rattle.ldm_feedtype.specs.Parts.{parts}
use Rattle.ldm_feedtype.specs.Reading.{feed_set}
use Rattle.ldm_feedtype.proofs.Rules.{answers-spell}
use Rattle.ldm_feedtype.proofs.Sets.{answers-number}
use Rattle.ldm_feedtype.proofs.Stops.{answers-first_fault}
use Rattle.ldm_feedtype.proofs.read_feed.Goals as goal

pub returns-clause-expression : goal.returns-clause-expression
returns-clause-expression c =
    answers-spell (λ (feed : Feed). set_of feed.0) (length c.args.text.now) (parts 0 c.args.text.now) c.read.result c.read.ensures

pub returns-clause-first : goal.returns-clause-first
returns-clause-first c =
    answers-first_fault (λ (feed : Feed). set_of feed.0) (length c.args.text.now) (parts 0 c.args.text.now) c.read.result c.read.ensures

pub returns-clause-number : goal.returns-clause-number
returns-clause-number c = answers-number (feed_set c.args.text.now) c.read.result (search rules) c.read.ensures
