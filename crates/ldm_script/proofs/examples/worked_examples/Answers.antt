use Rattle.std.proofs.Common.{refl}
use Rattle.hex.specs.Hex.{decode_pairs}
use Rattle.ldm_script.specs.Grammar.{read_line, read_order, read_insert, read_details, word_of_text}
use Rattle.ldm_script.proofs.examples.worked_examples.Goals as goal

pub returns-clause-other_spelling : goal.returns-clause-other_spelling
unfolding decode_pairs read_line read_order read_insert read_details word_of_text
returns-clause-other_spelling c = refl
