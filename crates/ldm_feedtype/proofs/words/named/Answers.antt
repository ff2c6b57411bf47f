-- The look-up in the program's table is the one in the definitions.
use Rattle.std.proofs.Common.{◌≡◌, ℕ, List, map, ap, ◌∙◌, refl}
use Rattle.ldm_feedtype.specs.declared.names.TheConstants.{NAMES}
use Rattle.ldm_feedtype.specs.Names.{feed_names}
use Rattle.ldm_feedtype.specs.Words.{lookup}
use Rattle.ldm_feedtype.proofs.words.named.Goals as goal

-- the program's table is the one of the definitions
same_table : map (λ row. (row.0.now, row.1)) NAMES ≡ feed_names
unfolding feed_names
same_table = refl

pub returns : goal.returns
returns c = c.lookup.ensures ∙ ap (λ (rows : List (List ℕ × ℕ)). lookup rows c.args.word.now) same_table
