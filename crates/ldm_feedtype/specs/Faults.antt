-- Which fault a text has, by the grammar's rules: it stands at the first part that cannot continue an expression.
use Rattle.std.specs.Prelude.{◌≡◌, ◌⊎◌, ℕ, List, [], ◌∷◌, ◌++◌, Err}
use Rattle.ldm_feedtype.specs.declared.fault.FeedFault.{FeedFault}
use Rattle.ldm_feedtype.specs.declared.fault.FeedFault.TheVariants.{Syntax, Deep}
use Rattle.ldm_feedtype.specs.declared.reader.TheConstants.{MOST_OPEN}
use Rattle.ldm_feedtype.specs.FeedSets.{FeedSet}
use Rattle.ldm_feedtype.specs.Parts.{Part, Word, Mark}
use Rattle.ldm_feedtype.specs.Words.{word_value}
use Rattle.ldm_feedtype.specs.Grammar.{Spells, Expression}

-- with some parts behind them, these are an expression
abbrev pub Begins : List Part → Type 0
Begins front = (behind : List Part) × (set : FeedSet) × Spells Expression MOST_OPEN (front ++ behind) set

-- a term may stand behind these parts, as the number `0` (48)
abbrev pub TakesTerm : List Part → Type 0
TakesTerm front = Begins (front ++ Word 0 (48 ∷ []) ∷ [])

-- the fault of a part that cannot continue those in front of it: of a word where a term may stand, that of the
-- word itself; of a `(` (40) where a term may stand, that it is one too many
abbrev pub IsFaultOf : List Part → Part → FeedFault → Type 0
IsFaultOf front (Word at bytes) fault =
    (TakesTerm front × (word_value at bytes ≡ Err fault)) ⊎ ((TakesTerm front → ⊥) × (fault ≡ Syntax at))
IsFaultOf front (Mark at byte) fault =
    (TakesTerm front × (byte ≡ 40) × (fault ≡ Deep at)) ⊎ ((TakesTerm front → byte ≡ 40 → ⊥) × (fault ≡ Syntax at))

-- the text ends at that place, too early
pub record EndsEarly (end : ℕ) (ps : List Part) (fault : FeedFault) : Type 0 where
  pub begins : Begins ps
  pub unfinished : (set : FeedSet) → Spells Expression MOST_OPEN ps set → ⊥
  pub is : fault ≡ Syntax end

-- a part is the first that cannot continue an expression
pub record StopsAtPart (ps : List Part) (fault : FeedFault) : Type 0 where
  pub front : List Part
  pub part : Part
  pub behind : List Part
  pub split : ps ≡ front ++ part ∷ behind
  pub begins : Begins front
  pub stops : Begins (front ++ part ∷ []) → ⊥
  pub is : IsFaultOf front part fault

abbrev pub IsFirstFault : ℕ → List Part → FeedFault → Type 0
IsFirstFault end ps fault = EndsEarly end ps fault ⊎ StopsAtPart ps fault
