-- What the words that a reader keeps stand for.
use Rattle.std.specs.Prelude.{ℕ, if◌then◌else◌, List, length, drop, map, reverse, Result, Ok, Err, MatchResult, ◌≡◌}
use Rattle.ldm_feedtype.specs.declared.fault.FeedFault.{FeedFault}
use Rattle.ldm_feedtype.specs.declared.reader.Operator.{Operator}
use Rattle.ldm_feedtype.specs.declared.reader.Operator.TheVariants.{Union, Meet, Without}
use Rattle.ldm_feedtype.specs.declared.reader.Pending.{Pending}
use Rattle.ldm_feedtype.specs.declared.reader.Stage.{Stage}
use Rattle.ldm_feedtype.specs.declared.reader.Stage.TheVariants as stage
use Rattle.ldm_feedtype.specs.declared.reader.Reader.{Reader}
use Rattle.ldm_feedtype.specs.FeedSets.{FeedSet, set_of, union, meet, without, complement}
use Rattle.ldm_feedtype.specs.Parts.{parts}
use Rattle.ldm_feedtype.specs.Reading.{Place, State, Wanted, Found, reading}

abbrev pub joins_of : Operator → FeedSet → FeedSet → FeedSet
joins_of Union = union
joins_of Meet = meet
joins_of Without = without

abbrev pub place_of : Pending → Place
place_of pending set =
    joins_of pending.operator (set_of pending.left) (if pending.inverted then complement set else set)

abbrev pub state_at : Stage → List Place → State
state_at (stage.Wanted pending) outer = Wanted (place_of pending) outer
state_at (stage.Found word) outer = Found (set_of word) outer

-- the state that a reader has come to: it keeps the innermost place last
abbrev pub state_of : Reader → State
state_of reader = state_at reader.stage (map place_of (reverse reader.outer.items))

-- the reader has come to what a step gives, or answers its fault
abbrev pub Comes : Result Unit FeedFault → Result State FeedFault → Reader → Type 0
Comes result next reader = MatchResult result (λ _. next ≡ Ok (state_of reader)) (λ fault. next ≡ Err fault)

-- what the rest of a text, from that place on, makes of a state
abbrev pub read_on : List ℕ → ℕ → State → Result FeedSet FeedFault
read_on text at state = reading (length text) (parts at (drop at text)) state

-- the reading goes on from a later place, or ends with a fault
abbrev pub GoesOn : List ℕ → Result FeedSet FeedFault → Result ℕ FeedFault → Reader → Type 0
GoesOn text before result reader =
    MatchResult result (λ next. before ≡ read_on text next (state_of reader)) (λ fault. before ≡ Err fault)
