-- The keywords that lines begin with.
use Rattle.std.specs.Prelude.{ℕ, Bool, List, [], ◌∷◌, codes, Option}
use Rattle.std.specs.List.{find}
use Rattle.std.specs.Str.{str_eq_ignore_ascii_case}
use Rattle.ldm_conf.specs.declared.keyword.Keyword.{Keyword}
use Rattle.ldm_conf.specs.declared.keyword.Keyword.TheVariants.{Allow, Accept, Request, Exec, Include}

abbrev pub keyword_name : Keyword → List ℕ
keyword_name Allow = codes "ALLOW"
keyword_name Accept = codes "ACCEPT"
keyword_name Request = codes "REQUEST"
keyword_name Exec = codes "EXEC"
keyword_name Include = codes "INCLUDE"

abbrev pub keywords : List Keyword
keywords = Allow ∷ Accept ∷ Request ∷ Exec ∷ Include ∷ []

abbrev pub has_name : List ℕ → Keyword → Bool
has_name word keyword = str_eq_ignore_ascii_case (keyword_name keyword) word

-- the keyword that a word is, in letters of either case
unfoldable pub keyword_of : List ℕ → Option Keyword
keyword_of word = find (has_name word) keywords
