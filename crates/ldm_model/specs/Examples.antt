-- Sample products, events and states for the worked examples.
use Rattle.std.specs.Prelude.{ℕ, ◌-◌, List, [], ◌∷◌, ◌++◌, length, map, take, drop, replicate, Option, Some, None}
use Rattle.ldm_types.specs.Info.{Metadata}
use Rattle.ldm_types.specs.Arena.{Region}
use Rattle.ldm_model.specs.declared.event.Event.{Event}
use Rattle.ldm_model.specs.declared.event.Event.TheVariants.{Insert, OpenCursor, Step, Release, Tally, Look, Expire, Reserve, Fill}
use Rattle.ldm_model.specs.declared.event.Start.{Start}
use Rattle.ldm_model.specs.declared.event.Start.TheVariants as start
use Rattle.ldm_model.specs.declared.event.Entry.{Entry}
use Rattle.ldm_model.specs.declared.event.Reply.{Reply}
use Rattle.ldm_model.specs.State.{State, Cursor, empty}
use Rattle.ldm_model.specs.Next.{Call, next, replies}
use Rattle.ldm_model.specs.History.{entries_of}
use Rattle.ldm_model.specs.Law.{Point}
use Rattle.ldm_model.specs.Reservation.{new_reservation}

-- 16 times the same byte
abbrev pub signature_of : ℕ → List ℕ
signature_of byte = replicate 16 byte

-- origin h, ident p, feed 2, sequence number 1
abbrev pub sample_info : ℕ → ℕ → Metadata
sample_info byte size = record { arrival = 100; signature = signature_of byte; origin = 104 ∷ []; feed = 2; seqno = 1; ident = 112 ∷ []; size = size }

abbrev pub insert_of : ℕ → ℕ → ℕ → Event
insert_of now byte size = Insert now (sample_info byte size) (replicate size 65)

-- the same with other feedtypes
abbrev pub insert_for : ℕ → ℕ → ℕ → Event
insert_for feed byte size = Insert 100 (record (sample_info byte size) { feed = feed }) (replicate size 65)

-- a product with a body of its own
abbrev pub insert_body : ℕ → List ℕ → Event
insert_body byte body = Insert 100 (sample_info byte (length body)) body

-- a cursor for feed 2
abbrev pub open_from : Start → Event
open_from from = OpenCursor (record { 0 = 2 }) from

abbrev pub after_signature : ℕ → Start
after_signature byte = start.AfterSignature (record { 0 = signature_of byte })

-- a region for such a product is reserved, and bytes are filled in
abbrev pub reserve_of : ℕ → ℕ → Event
reserve_of byte size = Reserve (sample_info byte size)

abbrev pub fill_of : ℕ → List ℕ → Event
fill_of r bytes = Fill r bytes

-- an actor's call
abbrev pub by : ℕ → Event → Call
by actor event = record { actor = actor; event = event }

abbrev pub look_for : ℕ → Event
look_for byte = Look (record { 0 = signature_of byte })

abbrev pub expire_from : State → Reply
expire_from s = (next s 0 Expire).reply

-- the replies of a new queue, to calls and to actor 0
abbrev pub answers_to : ℕ → ℕ → List Call → List Reply
answers_to arena slots calls = replies (empty arena slots) calls

abbrev pub answers : ℕ → ℕ → List Event → List Reply
answers arena slots events = answers_to arena slots (map (by 0) events)

-- the last so many replies of a new queue
abbrev pub last_answers : ℕ → List Call → List Reply
last_answers n calls = drop (length calls - n) (answers_to 168 10 calls)

abbrev pub after_calls : State → List Call → State
after_calls s [] = s
after_calls s (call ∷ calls) = after_calls (next s call.actor call.event).state calls

abbrev pub state_after : ℕ → ℕ → List Event → State
state_after arena slots events = after_calls (empty arena slots) (map (by 0) events)

abbrev pub insert_into : State → ℕ → ℕ → ℕ → Reply
insert_into s now byte size = (next s 0 (insert_of now byte size)).reply

-- what reserving is answered with so many places taken, by reservations of actor 1 at the front of the arena
abbrev pub reserved_first : ℕ → State → ℕ → ℕ → Reply
reserved_first count s byte size =
    (next (record s { reservations = replicate count (Some (new_reservation 1 (sample_info 9 0) 0)) }) 0 (reserve_of byte size)).reply

abbrev pub region : ℕ → ℕ → Region
region start extent = record { start = start; extent = extent }

abbrev pub with_cursor : Cursor → State → State
with_cursor cursor s = record s { cursors = Some cursor ∷ replicate 63 None }

-- a cursor holds row 1
abbrev pub holding_second : State → State
holding_second s = with_cursor (record { actor = 1; feed = 2; position = 2; held = Some 1; given = 1 ∷ []; told = []; untold = [] }) s

-- a cursor of these feedtypes stands at the beginning
abbrev pub reading : ℕ → State → State
reading feed s = with_cursor (record { actor = 1; feed = feed; position = 0; held = None; given = []; told = []; untold = [] }) s

abbrev pub untold_of : List (Option Cursor) → List ℕ
untold_of [] = []
untold_of (None ∷ cursors) = []
untold_of (Some cursor ∷ cursors) = cursor.untold

abbrev pub untold_of_first : State → List ℕ
untold_of_first s = untold_of s.cursors

-- Three products of 56 bytes fill an arena of 168. Actor 1 has cursor 0 from the oldest product on, actor 2 has cursor 1
-- behind the first and holds the second, and a fourth product evicts the first.
abbrev pub two_readers : List Call
two_readers =
    by 0 (insert_of 100 1 4) ∷ by 0 (insert_of 100 2 4) ∷ by 0 (insert_of 100 3 4)
    ∷ by 1 (open_from start.Oldest) ∷ by 2 (open_from (after_signature 1)) ∷ by 2 (Step 1) ∷ by 0 (insert_of 100 4 4) ∷ []

-- Reader 1 is told of its loss, is given the second product, and holds it while a fifth one evicts the third.
abbrev pub told_and_given : List Call
told_and_given = by 1 (Step 0) ∷ by 1 (Step 0) ∷ by 1 (Tally 0) ∷ by 0 (insert_of 100 5 4) ∷ by 1 (Step 0) ∷ by 1 (Release 0) ∷ []

-- It is told of the third, and given the fourth.
abbrev pub told_again : List Call
told_again = by 1 (Step 0) ∷ by 1 (Step 0) ∷ by 1 (Tally 0) ∷ []

-- Three products fill an arena of 168. Actor 2 holds the first while the second is evicted, and then the first is: actor 1 was
-- given neither.
abbrev pub evicted_out_of_order : List Call
evicted_out_of_order =
    by 0 (insert_of 100 1 4) ∷ by 0 (insert_of 100 2 4) ∷ by 0 (insert_of 100 3 4)
    ∷ by 1 (open_from start.Oldest) ∷ by 2 (open_from start.Oldest) ∷ by 2 (Step 1) ∷ by 0 (insert_of 100 4 4)
    ∷ by 2 (Release 1) ∷ by 0 (insert_of 100 5 4) ∷ []

-- actor 1 opens a cursor at every place
abbrev pub all_open : List Call
all_open = replicate 64 (by 1 (open_from start.Oldest))

abbrev pub example_calls : List Call
example_calls = two_readers ++ told_and_given ++ told_again

abbrev pub example_entries : List Entry
example_entries = entries_of (empty 168 10) example_calls

-- reader 1, when so many entries have come since its opening
abbrev pub reader : ℕ → Point
reader n = record {
  arena = 168;
  slots = 10;
  before = take 3 example_entries;
  owner = 1;
  feed = 2;
  start = start.Oldest;
  k = 0;
  since = take n (drop 4 example_entries);
}
