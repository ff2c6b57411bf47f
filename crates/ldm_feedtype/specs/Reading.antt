-- The meaning of a feed expression: a set of feedtypes, or the first fault from the left.
--
-- A text is read part by part. What was read so far is a place for a term, or a set; and for each open
-- parenthesis, the place that the expression in it is to take, the innermost first.
use Rattle.std.specs.Prelude.{◌≡◌, ◌↔◌, IsTrue, MatchResult, ℕ, ◌==◌, nat_lt, if◌then◌else◌, List, [], ◌∷◌, length, Option, Some, None, Result, Ok, Err}
use Rattle.std.specs.Int.{bit_at}
use Rattle.std.specs.Option.{option_map}
use Rattle.std.specs.Result.{result_ok}
use Rattle.ldm_feedtype.specs.declared.fault.FeedFault.{FeedFault}
use Rattle.ldm_feedtype.specs.declared.fault.FeedFault.TheVariants.{Syntax, Deep}
use Rattle.ldm_feedtype.specs.declared.reader.TheConstants.{MOST_OPEN}
use Rattle.ldm_feedtype.specs.FeedSets.{FeedSet, set_of, number_of, union, meet, without, complement}
use Rattle.ldm_feedtype.specs.Parts.{Part, Word, Mark, parts}
use Rattle.ldm_feedtype.specs.Words.{word_value}

-- a place for a set: what becomes of the set that takes it
abbrev pub Place : Type 0
Place = FeedSet → FeedSet

-- the place of a whole expression
abbrev pub whole : Place
whole set = set

pub data State : Type 0 where
  -- a term is to come
  Wanted : (place : Place) → (outer : List Place) → State
  -- an expression may go on or end
  Found : (set : FeedSet) → (outer : List Place) → State

-- the operators: `|`, `&` and `-`
abbrev pub operator : ℕ → Option (FeedSet → FeedSet → FeedSet)
operator byte =
    if byte == 124 then Some union
    else if byte == 38 then Some meet
    else if byte == 45 then Some without
    else None

-- a `(` at that place, if one more may be open
abbrev pub opened : ℕ → Place → List Place → Result State FeedFault
opened at place outer = if nat_lt (length outer) MOST_OPEN then Ok (Wanted whole (place ∷ outer)) else Err (Deep at)

-- a `)` at that place
abbrev pub closed : ℕ → FeedSet → List Place → Result State FeedFault
closed at set [] = Err (Syntax at)
closed at set (place ∷ outer) = Ok (Found (place set) outer)

-- an operator at that place, or what is none
abbrev pub operated : ℕ → FeedSet → List Place → Option (FeedSet → FeedSet → FeedSet) → Result State FeedFault
operated at set outer None = Err (Syntax at)
operated at set outer (Some joins) = Ok (Wanted (joins set) outer)

-- a name or a number
abbrev pub valued : Place → List Place → Result ℕ FeedFault → Result State FeedFault
valued place outer (Ok n) = Ok (Found (place (set_of n)) outer)
valued place outer (Err fault) = Err fault

-- one part more: 126 is `~`, 40 `(` and 41 `)`
abbrev pub step : Part → State → Result State FeedFault
step (Word at bytes) (Wanted place outer) = valued place outer (word_value at bytes)
step (Word at bytes) (Found set outer) = Err (Syntax at)
step (Mark at byte) (Wanted place outer) =
    if byte == 126 then Ok (Wanted (λ set. place (complement set)) outer)
    else if byte == 40 then opened at place outer
    else Err (Syntax at)
step (Mark at byte) (Found set outer) =
    if byte == 41 then closed at set outer else operated at set outer (operator byte)

-- the end of the text, at that place
abbrev pub finished : ℕ → State → Result FeedSet FeedFault
finished end (Wanted place outer) = Err (Syntax end)
finished end (Found set []) = Ok set
finished end (Found set (place ∷ outer)) = Err (Syntax end)

abbrev pub and_then : Result State FeedFault → (State → Result FeedSet FeedFault) → Result FeedSet FeedFault
and_then (Ok state) more = more state
and_then (Err fault) more = Err fault

-- what the parts make of a state, in a text that ends at that place
abbrev pub reading : ℕ → List Part → State → Result FeedSet FeedFault
reading end [] state = finished end state
reading end (part ∷ behind) state = and_then (step part state) (reading end behind)

-- the set that a text means, or its first fault
abbrev pub feed_set : List ℕ → Result FeedSet FeedFault
feed_set text = reading (length text) (parts 0 text) (Wanted whole [])

-- the number whose bits are the set that a text means, where it means one
abbrev pub feed_number : List ℕ → Option ℕ
feed_number text = option_map number_of (result_ok (feed_set text))

-- the ones of a number stand at the members of the set that was read
abbrev pub HasMembers : ℕ → Result FeedSet FeedFault → Type 0
HasMembers n read = MatchResult read (λ set. (bit : ℕ) → (bit_at n bit ≡ 1) ↔ IsTrue (set bit)) (λ _. ⊥)
