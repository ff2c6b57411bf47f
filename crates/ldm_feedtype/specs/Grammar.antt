-- The grammar of feed expressions, in rules: which parts are a term or an expression, with what set,
-- with so many parentheses at most inside one another.
use Rattle.std.specs.Prelude.{◌≡◌, ℕ, suc, List, [], ◌∷◌, ◌++◌, Some, Ok}
use Rattle.ldm_feedtype.specs.FeedSets.{FeedSet, set_of, complement}
use Rattle.ldm_feedtype.specs.Parts.{Part, Word, Mark}
use Rattle.ldm_feedtype.specs.Words.{word_value}
use Rattle.ldm_feedtype.specs.Reading.{operator}

pub data Kind : Type 0 where
  Term : Kind
  Expression : Kind

pub data Spells : Kind → ℕ → List Part → FeedSet → Type 0 where
  -- a term is a name or a number,
  value : (depth at n : ℕ) (bytes : List ℕ) → word_value at bytes ≡ Ok n
      → Spells Term depth (Word at bytes ∷ []) (set_of n)
  -- `~` and a term,
  inverted : (depth at : ℕ) (term : List Part) (set : FeedSet) → Spells Term depth term set
      → Spells Term depth (Mark at 126 ∷ term) (complement set)
  -- or an expression in parentheses;
  enclosed : (depth at end : ℕ) (inner : List Part) (set : FeedSet) → Spells Expression depth inner set
      → Spells Term (suc depth) (Mark at 40 ∷ (inner ++ Mark end 41 ∷ [])) set
  -- an expression is a term,
  single : (depth : ℕ) (term : List Part) (set : FeedSet) → Spells Term depth term set
      → Spells Expression depth term set
  -- or an expression, an operator and a term
  joined : (depth at byte : ℕ) (joins : FeedSet → FeedSet → FeedSet) (left right : List Part) (a b : FeedSet)
      → operator byte ≡ Some joins → Spells Expression depth left a → Spells Term depth right b
      → Spells Expression depth (left ++ Mark at byte ∷ right) (joins a b)
