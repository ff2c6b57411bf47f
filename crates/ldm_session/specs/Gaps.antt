-- The log lines of losses.
use Rattle.std.specs.Prelude.{ℕ, List, [], ◌∷◌, ◌++◌, codes}
use Rattle.std.specs.List.{flat_map}
use Rattle.ldm_model.specs.declared.event.Reply.{Reply}
use Rattle.ldm_model.specs.declared.event.Reply.TheVariants as reply
use Rattle.ldm_model.specs.declared.event.Entry.{Entry}
use Rattle.ldm_answers.specs.Answer.{blank_field, blank_number}
use Rattle.ldm_answers.specs.Texts.{spelled}

-- `gap HOST COUNT FIRST LAST` and a newline: so many products that were for the host were evicted before it was given them
abbrev pub gap_line : List ℕ → ℕ → ℕ → ℕ → List ℕ
gap_line host count first last = codes "gap" ++ blank_field (spelled host) ++ blank_number count ++ blank_number first ++ blank_number last ++ 10 ∷ []

-- the line of a reply that tells a loss, and nothing for another one
abbrev pub line_of_reply : List ℕ → Reply → List ℕ
line_of_reply host (reply.Gap count first last) = gap_line host count first last
line_of_reply host _ = []

-- a line for each loss that these calls were told
abbrev pub gap_log : List ℕ → List Entry → List ℕ
gap_log host entries = flat_map (λ (entry : Entry). line_of_reply host entry.reply) entries
