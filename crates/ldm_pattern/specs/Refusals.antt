-- Why a pattern is not built.
use Rattle.std.specs.Prelude.{◌≡◌, ℕ, List, None}
use Rattle.ldm_pattern.specs.Patterns.{pattern_meaning}
use Rattle.ldm_pattern.specs.declared.pattern.Refusal.{Refusal}
use Rattle.ldm_pattern.specs.declared.pattern.Refusal.TheVariants.{Meaningless, OutOfMemory}

-- the cause of a refusal: the pattern means nothing, or there is too little memory, of which nothing is said
abbrev pub IsRefusedFor : List ℕ → Refusal → Type 0
IsRefusedFor pattern Meaningless = pattern_meaning pattern ≡ None
IsRefusedFor pattern OutOfMemory = Unit {0}
