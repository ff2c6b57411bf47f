-- The lines of the log on what is no bulletin.
use Rattle.std.specs.Prelude.{ℕ, List, [], ◌∷◌, ◌++◌, codes, decimal, Option, Some, None}
use Rattle.ldm_wmo.specs.Items.{Found, Bulletin, Bad}

abbrev pub bad_line : ℕ → List ℕ
bad_line at = codes "bad bulletin at " ++ decimal at ++ 10 ∷ []

abbrev pub cut_line : ℕ → List ℕ
cut_line at = codes "cut bulletin at " ++ decimal at ++ 10 ∷ []

-- the lines of items, in order
abbrev pub bad_lines : List Found → List ℕ
bad_lines [] = []
bad_lines (Bulletin at seqno heading bytes ∷ items) = bad_lines items
bad_lines (Bad at ∷ items) = bad_line at ++ bad_lines items

-- the line of the candidate that the end cuts off, if there is one
abbrev pub cut_lines : Option ℕ → List ℕ
cut_lines None = []
cut_lines (Some at) = cut_line at
