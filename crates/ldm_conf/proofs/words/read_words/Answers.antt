use Rattle.std.proofs.Common.{sym, ◌∙◌}
use Rattle.ldm_text.specs.declared.words.Comments.TheVariants.{Hash}
use Rattle.ldm_text.proofs.CallerLemmas.{all_read}
use Rattle.ldm_conf.specs.Kept.{lent}
use Rattle.ldm_conf.proofs.words.read_words.Goals as goal

pub returns : goal.returns
returns c =
    all_read Hash (lent c.loop-rest.words.items) c.loop-rest.rest.now c.args.text.now c.loop-rest.invariant.0 (sym c.is_empty.ensures ∙ c.loop-rest-test.false)
