-- The first-in-first-out law of every reader.
--
-- A reader is a life of a cursor in a history: it begins with the entry that opened the cursor, and ends with the entry
-- by which its owner closes it, or with the history. The law speaks of the replies to the owner and of rows alone: what
-- the state keeps of the cursor does not appear.
use Rattle.std.specs.Prelude.{◌≡◌, ◌≢◌, ◌↔◌, ◌⊎◌, ℕ, ◌+◌, ◌<◌, ◌≤◌, ◌==◌, Bool, true, false, not, ◌&&◌, ◌||◌, nat_le, List, [], ◌∷◌, ◌++◌, length, filter, All, Contains, IfSome, Option, Some}
use Rattle.std.specs.Prelude.{None, is_some, if◌then◌else◌, slice_get}
use Rattle.std.specs.List.{list_any, find, range_with_len}
use Rattle.std.specs.List.Sorted.{IsStrictlyIncreasing}
use Rattle.std.specs.Option.{option_map}
use Rattle.ldm_types.specs.Info.{Metadata}
use Rattle.ldm_types.specs.Cursors.{is_number}
use Rattle.ldm_types.specs.Feed.{feeds_meet}
use Rattle.ldm_model.specs.declared.event.Start.{Start}
use Rattle.ldm_model.specs.declared.event.Event.{Event}
use Rattle.ldm_model.specs.declared.event.Event.TheVariants.{OpenCursor, Step, Read, Release, Close, Tally}
use Rattle.ldm_model.specs.declared.event.Reply.{Reply}
use Rattle.ldm_model.specs.declared.event.Reply.TheVariants as reply
use Rattle.ldm_model.specs.declared.event.Entry.{Entry}
use Rattle.ldm_model.specs.State.{State, Row, end_of, place_of_row, is_queued}
use Rattle.ldm_model.specs.Evict.{numbers}
use Rattle.ldm_model.specs.Open.{open_position}
use Rattle.ldm_model.specs.Read.{part_of}
use Rattle.ldm_model.specs.History.{after, IsAdmitted}

-- A point of a life: the entries before the opening, the opening, and the entries since then, of all actors.
pub record Point : Type 0 where
  pub arena : ℕ
  pub slots : ℕ
  pub before : List Entry
  -- whose cursor it is, its feedtypes, where it was asked to begin, and its place
  pub owner : ℕ
  pub feed : ℕ
  pub start : Start
  pub k : ℕ
  pub since : List Entry

-- the entry that opened the cursor
abbrev pub opening : Point → Entry
opening p = record { actor = p.owner; event = OpenCursor (record { 0 = p.feed }) p.start; reply = reply.Opened p.k }

-- the history up to the point
abbrev pub history_of : Point → List Entry
history_of p = p.before ++ opening p ∷ p.since

-- the point of the same life at which these entries have come since the opening
abbrev pub at_entries : Point → List Entry → Point
at_entries p entries = record p { since = entries }

-- the rows, with their places: at the opening, and at the point
abbrev pub state_before : Point → State
state_before p = after p.arena p.slots p.before

abbrev pub state_at : Point → State
state_at p = after p.arena p.slots (history_of p)

-- a row that was admitted by the point
abbrev pub row_of : Point → ℕ → Option Row
row_of p n = slice_get (state_at p).rows n

abbrev pub is_present : Point → ℕ → Bool
is_present p n = is_queued (state_at p) n

abbrev pub is_among : List ℕ → ℕ → Bool
is_among ns n = list_any (λ m. m == n) ns

-- the cursor place that an event is about, if it is about one
abbrev pub place_of_event : Event → Option ℕ
place_of_event (Step k) = Some k
place_of_event (Read k offset len) = Some k
place_of_event (Release k) = Some k
place_of_event (Close k) = Some k
place_of_event (Tally k) = Some k
place_of_event _ = None

-- whether an entry is the owner's, and about its cursor
abbrev pub is_own : Point → Entry → Bool
is_own p entry = entry.actor == p.owner && is_number p.k (place_of_event entry.event)

abbrev pub is_step : Event → Bool
is_step (Step k) = true
is_step _ = false

abbrev pub is_release : Event → Bool
is_release (Release k) = true
is_release _ = false

abbrev pub is_close : Event → Bool
is_close (Close k) = true
is_close _ = false

-- A value that each reply to the owner changes, from the opening on: by the point at which the reply came, and the reply.
abbrev pub over_replies : {A : Type 0} → Point → (Point → A → Reply → A) → A → List Entry → List Entry → A
over_replies p change x so_far [] = x
over_replies p change x so_far (entry ∷ entries) =
    over_replies p change (if is_own p entry then change (at_entries p so_far) x entry.reply else x) (so_far ++ entry ∷ []) entries

-- The rows that are for the reader: those whose feedtypes meet the cursor's, and that were admitted since the opening, or
-- were present at the opening and not below the number at which the cursor began.
abbrev pub is_not_below : ℕ → Option ℕ → Bool
is_not_below n None = false
is_not_below n (Some from) = nat_le from n

abbrev pub feed_of_row : Option Row → ℕ
feed_of_row None = 0
feed_of_row (Some row) = row.product.info.feed

abbrev pub is_due : Point → ℕ → Bool
is_due p n =
    feeds_meet p.feed (feed_of_row (row_of p n))
    && (nat_le (end_of (state_before p)) n
    || (is_among (numbers (state_before p)) n && is_not_below n (open_position (state_before p) p.start)))

abbrev pub due : Point → List ℕ
due p = filter (is_due p) (range_with_len 0 (end_of (state_at p)))

-- The products that the reader was given, in order.
abbrev pub with_given : List ℕ → Reply → List ℕ
with_given ns (reply.Product n time info) = ns ++ n ∷ []
with_given ns _ = ns

abbrev pub given : Point → List ℕ
given p = over_replies p (λ at ns r. with_given ns r) [] [] p.since

-- The products that the reader lost: rows for it that were evicted, and that it was not given.
abbrev pub lost : Point → List ℕ
lost p = filter (λ n. not (is_present p n) && not (is_among (given p) n)) (due p)

-- The losses that the reader was told: none at the opening, and at each gap all that were lost by then.
abbrev pub after_gap : Point → List ℕ → Reply → List ℕ
after_gap at ns (reply.Gap count first last) = lost at
after_gap at ns _ = ns

abbrev pub told : Point → List ℕ
told p = over_replies p after_gap [] [] p.since

-- how many losses the reader was told: what the gaps counted, added up
abbrev pub with_count : ℕ → Reply → ℕ
with_count n (reply.Gap count first last) = n + count
with_count n _ = n

abbrev pub count_told : Point → ℕ
count_told p = over_replies p (λ at n r. with_count n r) 0 [] p.since

-- the losses that the reader was not told
abbrev pub untold : Point → List ℕ
untold p = filter (λ n. not (is_among (told p) n)) (lost p)

-- the rows for the reader that it was neither given nor lost
abbrev pub left : Point → List ℕ
left p = filter (λ n. not (is_among (given p) n) && not (is_among (lost p) n)) (due p)

-- The product that the reader holds: since a step gave it, and until it was released. Where it lay when it was given.
pub record Hold : Type 0 where
  pub number : ℕ
  pub place : Option ℕ

abbrev pub after_hold : Point → Option Hold → Reply → Option Hold
after_hold at hold (reply.Product n time info) = Some (record { number = n; place = place_of_row (row_of at n) })
after_hold at hold (reply.Released n) = None
after_hold at hold _ = hold

abbrev pub hold_of : Point → Option Hold
hold_of p = over_replies p after_hold None [] p.since

abbrev pub held_number : Option Hold → Option ℕ
held_number hold = option_map (λ (h : Hold). h.number) hold

-- A step gives the first row for the reader that is left, with its time and metadata, as it was admitted; and no loss is untold.
pub record GivesNext (p : Point) (n time : ℕ) (info : Metadata) : Type 0 where
  pub all_told : lost p ≡ told p
  pub next : find (λ m. is_present p m && not (is_among (given p) m)) (due p) ≡ Some n
  pub row : Row
  pub is_row : row_of p n ≡ Some row
  pub admitted : IsAdmitted (history_of p) n row.product row.time
  pub time_of_row : time ≡ row.time
  pub info_of_row : info ≡ row.product.info

-- A gap tells how many losses are untold, and the least and the greatest number among them. So there is one at least.
pub record TellsLosses (p : Point) (count first last : ℕ) : Type 0 where
  pub counted : count ≡ length (untold p)
  pub first_untold : Contains (untold p) first
  pub least : All (λ n. first ≤ n) (untold p)
  pub last_untold : Contains (untold p) last
  pub greatest : All (λ n. n ≤ last) (untold p)

-- At the end no loss is untold, and every row for the reader was given or lost.
pub record HasAll (p : Point) (at : ℕ) : Type 0 where
  pub all_told : lost p ≡ told p
  pub none_left : All (λ n. Contains (given p) n ⊎ Contains (lost p) n) (due p)
  pub at_end : at ≡ end_of (state_at p)

-- The bytes that were read are the part that was asked for of the body of the product that the reader holds, as it was admitted.
pub record ReadsHeld (p : Point) (offset len : ℕ) (bytes : List ℕ) : Type 0 where
  pub hold : Hold
  pub holds : hold_of p ≡ Some hold
  pub row : Row
  pub is_row : row_of p hold.number ≡ Some row
  pub admitted : IsAdmitted (history_of p) hold.number row.product row.time
  pub part : bytes ≡ part_of row.product offset len

-- Losses are told once: what the gaps counted adds up to the losses that were told, which are different ones.
pub record TellsOnce (p : Point) : Type 0 where
  pub counted : count_told p ≡ length (told p)
  pub different : IsStrictlyIncreasing (told p)
  pub only_lost : All (Contains (lost p)) (told p)

-- What is true of a reader at every point of its life.
pub record IsServed (p : Point) : Type 0 where
  -- it was given rows in the order of their numbers, each once
  pub in_order : IsStrictlyIncreasing (given p)
  -- and only rows that are for it
  pub only_due : All (Contains (due p)) (given p)
  -- a product that it holds is present, at the place where it lay when it was given
  pub held_stays : IfSome (hold_of p) (λ hold. (is_some hold.place ≡ true) × (place_of_row (row_of p hold.number) ≡ hold.place))
  -- no product is passed over: every row for the reader whose number is below one that it was given was given or lost
  pub passes_over_none : (n m : ℕ) → Contains (given p) n → Contains (due p) m → m < n → Contains (given p) m ⊎ Contains (lost p) m
  -- and was given, where it is still queued
  pub gives_queued : (n m : ℕ) → Contains (given p) n → Contains (due p) m → m < n → is_present p m ≡ true → Contains (given p) m
  pub tells_once : TellsOnce p

-- What the owner is answered at a point of the life.
pub record IsAnsweredAt (p : Point) (entry : Entry) : Type 0 where
  pub next_given : (n time : ℕ) (info : Metadata) → entry.reply ≡ reply.Product n time info → GivesNext p n time info
  pub losses_told : (count first last : ℕ) → entry.reply ≡ reply.Gap count first last → TellsLosses p count first last
  pub end_has_all : (at : ℕ) → entry.reply ≡ reply.End at → HasAll p at
  -- a step is answered so exactly while the reader holds a product, and no other call is
  pub one_at_a_time : (n : ℕ) → is_step entry.event ≡ true → (entry.reply ≡ reply.Holding n) ↔ (held_number (hold_of p) ≡ Some n)
  pub holding_at_steps : (n : ℕ) → entry.reply ≡ reply.Holding n → is_step entry.event ≡ true
  -- a release lets just the product go that the reader holds, and no other call does
  pub released : (n : ℕ) → (entry.reply ≡ reply.Released n) ↔ ((is_release entry.event ≡ true) × (held_number (hold_of p) ≡ Some n))
  pub has_cursor : entry.reply ≢ reply.NoCursor
  pub held_bytes : (offset len : ℕ) (bytes : List ℕ) → entry.event ≡ Read p.k offset len → entry.reply ≡ reply.Bytes bytes → ReadsHeld p offset len bytes
  pub tally_counts : (g l r : ℕ) → entry.reply ≡ reply.Tally g l r → (g ≡ length (given p)) × (l ≡ length (lost p)) × (r ≡ length (left p))

-- A point of a life in a history: its entries are a front of the history, and the owner did not close the cursor.
pub record IsPointOf (arena slots : ℕ) (history : List Entry) (p : Point) : Type 0 where
  pub same_arena : p.arena ≡ arena
  pub same_slots : p.slots ≡ slots
  pub rest : List Entry
  pub front : history_of p ++ rest ≡ history
  pub not_closed : All (λ entry. (is_own p entry && is_close entry.event) ≡ false) p.since

-- The law of a history: every reader is served so at every point, and its owner answered so at each call on the cursor.
pub record ObeysLaw (arena slots : ℕ) (history : List Entry) : Type 0 where
  pub served : (p : Point) → IsPointOf arena slots history p → IsServed p
  pub answered : (p : Point) (at : IsPointOf arena slots history p) (entry : Entry) (later : List Entry) → at.rest ≡ entry ∷ later → is_own p entry ≡ true → IsAnsweredAt p entry
