use Rattle.ldm_pqact_match.specs.Views.{meanings_of}
use Rattle.ldm_pqact_match.proofs.Words.{as_many}
use Rattle.ldm_pqact_match.proofs.decide.decide.Goals as goal

pub with_texts-requires : goal.with_texts-requires
with_texts-requires c =
    let same = as_many (meanings_of c.args.sources.now) c.words.result.now c.in-Ok.texts.items c.in-Ok.ensures in
    rw (same, c.words.ensures.words) c.words.ensures.as_many
