use Rattle.std.proofs.Common.{refl, sym, ◌∙◌}
use Rattle.ldm_text.specs.declared.words.Comments.TheVariants.{Never}
use Rattle.ldm_text.proofs.CallerLemmas.{all_read}
use Rattle.ldm_pqact_conf.proofs.words.read_words.Goals as goal

pub returns : goal.returns
returns c =
    rw (all_read Never c.loop-rest.words.items c.loop-rest.rest.now c.args.text.now c.loop-rest.invariant.0 (sym c.is_empty.ensures ∙ c.loop-rest-test.false)) refl
