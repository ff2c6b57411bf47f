-- The look-up in the program's table is the one in the definitions.
use Rattle.std.proofs.Common.{◌≡◌, ◌∙◌, ℕ, List, map, ap, refl}
use Rattle.ldm_feedtype.specs.Names.{feed_names}
use Rattle.ldm_feedtype.specs.declared.names.TheConstants.{NAMES}
use Rattle.ldm_watch.specs.FeedNames.{first_named}
use Rattle.ldm_watch.proofs.Members.{short-name}
use Rattle.ldm_watch.proofs.names.name_of.Goals as goal

same_table : map (λ row. (row.0.now, row.1)) NAMES ≡ feed_names
unfolding feed_names
same_table = refl

pub returns-clause-name : goal.returns-clause-name
returns-clause-name c = c.first_named.ensures ∙ ap (λ (rows : List (List ℕ × ℕ)). first_named rows c.args.set) same_table

pub returns-clause-short : goal.returns-clause-short
returns-clause-short c =
    short-name c.first_named.result c.args.set (c.first_named.ensures ∙ ap (λ (rows : List (List ℕ × ℕ)). first_named rows c.args.set) same_table)
