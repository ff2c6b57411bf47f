use Rattle.std.proofs.Common.{arith, rules, ◌≡◌, ℕ, Some, Result, ap, ◌∙◌}
use Rattle.std.specs.Option.{option_map}
use Rattle.std.specs.Result.{result_ok}
use Rattle.ldm_feedtype.specs.declared.fault.FeedFault.{FeedFault}
use Rattle.ldm_feedtype.specs.FeedSets.{FeedSet, number_of}
use Rattle.ldm_feedtype.specs.Text.{feed_digits}
use Rattle.ldm_feedtype.specs.Reading.{feed_set}
use Rattle.ldm_feedtype.proofs.Digits.{feed_set-feed_digits}
use Rattle.ldm_feedtype.proofs.Sets.{number_of-set_of}
use Rattle.ldm_feedtype.proofs.text.feed_text.Goals as goal

pub returns-clause-set : goal.returns-clause-set
returns-clause-set c =
    let digits : c.try_extend_from_slice.new.self.items ≡ feed_digits c.args.feed.0 = search rules in
    ap feed_set digits ∙ feed_set-feed_digits c.args.feed.0 (omega arith)

pub returns-clause-read_back : goal.returns-clause-read_back
returns-clause-read_back c =
    ap (λ (read : Result FeedSet FeedFault). option_map number_of (result_ok read)) (returns-clause-set c)
    ∙ ap (λ (n : ℕ). Some n) (number_of-set_of c.args.feed.0 (omega arith))
