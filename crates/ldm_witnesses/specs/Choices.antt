-- What rules, classes, entries and days of the month come to for a few lines, said without the definitions that the code goes by.
use Rattle.std.specs.Prelude.{◌≡◌, ℕ, true, false, List, [], ◌∷◌, map, Option, Some, None}
use Rattle.ldm_types.specs.Feed.{feeds_meet}
use Rattle.ldm_types.specs.Info.{Metadata}
use Rattle.ldm_types.specs.declared.class.ClassSpec.{ClassSpec}
use Rattle.ldm_types.specs.declared.class.Spec.{Spec}
use Rattle.ldm_pattern.specs.Patterns.{found}
use Rattle.ldm_class.specs.Rules.{Rule, allow_rule, accept_rule}
use Rattle.ldm_class.specs.Access.{is_about, meets, passes, verdict}
use Rattle.ldm_class.specs.Classes.{spec_wants, wants}
use Rattle.ldm_class.specs.declared.answers.Verdict.TheVariants.{Yes, No}
use Rattle.ldm_pqact_conf.specs.Entries.{EntryView}
use Rattle.ldm_pqact_match.specs.Matching.{matches}
use Rattle.ldm_pqact_match.specs.Choice.{choose_of}
use Rattle.ldm_pqact_match.specs.declared.chosen.Chosen.{Chosen}
use Rattle.ldm_pqact_match.specs.Dates.{CivilDate, nearest}

-- How a product is for a host and a rule: the rule is not about both; it is, and lets the product pass, or not.
abbrev pub Unmet : List ℕ → Metadata → Rule → Type 0
Unmet host info rule = meets host info rule ≡ false

abbrev pub Passing : List ℕ → Metadata → Rule → Type 0
Passing host info rule = (meets host info rule ≡ true) × (passes info rule ≡ true)

abbrev pub Stopping : List ℕ → Metadata → Rule → Type 0
Stopping host info rule = (meets host info rule ≡ true) × (passes info rule ≡ false)

-- The verdict by two lines. One that lets the product pass decides, wherever it stands; else the first that meets host and product.
pub record TwoLinesDecide : Type 0 where
  pub first : (host : List ℕ) (info : Metadata) (one other : Rule) → Passing host info one → verdict (one ∷ other ∷ []) host info ≡ Yes 1
  pub behind_a_stop : (host : List ℕ) (info : Metadata) (one other : Rule) → Stopping host info one → Passing host info other
      → verdict (one ∷ other ∷ []) host info ≡ Yes 2
  pub behind_another_host : (host : List ℕ) (info : Metadata) (one other : Rule) → Unmet host info one → Passing host info other
      → verdict (one ∷ other ∷ []) host info ≡ Yes 2
  pub both_stop : (host : List ℕ) (info : Metadata) (one other : Rule) → Stopping host info one → Stopping host info other
      → verdict (one ∷ other ∷ []) host info ≡ No 1
  pub other_stops : (host : List ℕ) (info : Metadata) (one other : Rule) → Unmet host info one → Stopping host info other
      → verdict (one ∷ other ∷ []) host info ≡ No 2
  pub none_meets : (host : List ℕ) (info : Metadata) (one other : Rule) → Unmet host info one → Unmet host info other
      → verdict (one ∷ other ∷ []) host info ≡ No 0

-- What a line says of a product: the pattern of an ALLOW line has to be found in the ident, its notpattern not, and where it has
-- none all pass; the pattern of an ACCEPT line has to be found. A line is about a host in whose name its host pattern is found.
pub record LinesSay : Type 0 where
  pub no_pattern : (info : Metadata) (feed : ℕ) (host : List ℕ) → passes info (allow_rule feed host None None) ≡ true
  pub pattern : (info : Metadata) (feed : ℕ) (host ok : List ℕ) → passes info (allow_rule feed host (Some ok) None) ≡ found ok info.ident
  pub notpattern : (info : Metadata) (feed : ℕ) (host : List ℕ) (ok : Option (List ℕ)) (no : List ℕ) → found no info.ident ≡ true
      → passes info (allow_rule feed host ok (Some no)) ≡ false
  pub both : (info : Metadata) (feed : ℕ) (host ok no : List ℕ) → found ok info.ident ≡ true → found no info.ident ≡ false
      → passes info (allow_rule feed host (Some ok) (Some no)) ≡ true
  pub accept : (info : Metadata) (feed : ℕ) (host pattern : List ℕ) → passes info (accept_rule feed pattern host) ≡ found pattern info.ident
  pub about : (name : List ℕ) (feed : ℕ) (host pattern : List ℕ) → is_about name (accept_rule feed pattern host) ≡ found host name

-- A class of two specifications wants what one of them wants: a product of a common feedtype in whose ident the pattern is found.
pub record ClassesWant : Type 0 where
  pub first : (info : Metadata) (class : ClassSpec) (one other : Spec) → class.specs.items ≡ one ∷ other ∷ [] → spec_wants info one ≡ true
      → wants class info ≡ true
  pub second : (info : Metadata) (class : ClassSpec) (one other : Spec) → class.specs.items ≡ one ∷ other ∷ [] → spec_wants info other ≡ true
      → wants class info ≡ true
  pub neither : (info : Metadata) (class : ClassSpec) (one other : Spec) → class.specs.items ≡ one ∷ other ∷ [] → spec_wants info one ≡ false
      → spec_wants info other ≡ false → wants class info ≡ false
  pub other_pattern : (info : Metadata) (spec : Spec) → found spec.pattern.items info.ident ≡ false → spec_wants info spec ≡ false
  pub other_feedtype : (info : Metadata) (spec : Spec) → feeds_meet spec.feed.0 info.feed ≡ false → spec_wants info spec ≡ false
  pub both : (info : Metadata) (spec : Spec) → feeds_meet spec.feed.0 info.feed ≡ true → found spec.pattern.items info.ident ≡ true
      → spec_wants info spec ≡ true

-- the entries that act, by their places from 0
abbrev pub acting : List EntryView → Metadata → ℕ → List ℕ
acting entries info time = map (λ (it : Chosen). it.entry) (choose_of entries info time)

-- Which of two entries of a pqact.conf act. An `_ELSE_` entry does where no earlier one matched.
pub record EntriesAct : Type 0 where
  pub both_match : (info : Metadata) (time : ℕ) (one other : EntryView) → matches info one ≡ true → matches info other ≡ true
      → acting (one ∷ other ∷ []) info time ≡ 0 ∷ 1 ∷ []
  pub else_behind_a_match : (info : Metadata) (time : ℕ) (one other : EntryView) → matches info one ≡ true → other.pattern ≡ None
      → acting (one ∷ other ∷ []) info time ≡ 0 ∷ []
  pub else_behind_a_miss : (info : Metadata) (time : ℕ) (one other : EntryView) (pattern : List ℕ) → one.pattern ≡ Some pattern
      → matches info one ≡ false → other.pattern ≡ None → feeds_meet other.feed info.feed ≡ true
      → acting (one ∷ other ∷ []) info time ≡ 1 ∷ []
  pub else_of_another_feedtype : (info : Metadata) (time : ℕ) (one other : EntryView) (pattern : List ℕ) → one.pattern ≡ Some pattern
      → matches info one ≡ false → other.pattern ≡ None → feeds_meet other.feed info.feed ≡ false
      → acting (one ∷ other ∷ []) info time ≡ []

abbrev pub date : ℕ → ℕ → ℕ → CivilDate
date year month day = record { year = year; month = month; day = day }

-- The date that a day of the month stands for: the nearest, and of two equally near ones the earlier.
pub record DatesAreNear : Type 0 where
  pub today : nearest (date 2024 3 1) 1 ≡ Some (date 2024 3 1)
  pub month_before : nearest (date 2024 3 1) 28 ≡ Some (date 2024 2 28)
  pub month_behind : nearest (date 2023 12 31) 1 ≡ Some (date 2024 1 1)
  pub year_before : nearest (date 2024 1 1) 31 ≡ Some (date 2023 12 31)
  pub no_31_of_february : nearest (date 2024 2 10) 31 ≡ Some (date 2024 1 31)
  pub no_31_about_march : nearest (date 2024 3 1) 31 ≡ Some (date 2024 3 31)
  pub leap_day : nearest (date 2024 3 1) 29 ≡ Some (date 2024 2 29)
  pub no_leap_day : nearest (date 2023 3 1) 29 ≡ Some (date 2023 3 29)
  pub tie : nearest (date 2023 3 1) 15 ≡ Some (date 2023 2 15)
  pub tie_over_a_month : nearest (date 2024 2 29) 30 ≡ Some (date 2024 1 30)
  pub no_tie : nearest (date 2024 3 1) 15 ≡ Some (date 2024 3 15)
  pub no_day : nearest (date 2024 3 1) 0 ≡ None
  pub behind_31 : nearest (date 2024 3 1) 32 ≡ None
