-- What the sending ends of a connection ask of the queue: nothing is put in, and no figures are asked for.
use Rattle.std.proofs.Common.{ℕ, ◌+◌, Bool, true, false, List, [], ◌∷◌, ◌++◌, length, Option, Some, None, sym, subst}
use Rattle.ldm_model.specs.declared.event.Event.{Event}
use Rattle.ldm_model.specs.declared.event.Event.TheVariants.{OpenCursor, Step, Read, Release, Close, Insert, Look, Expire, Tally, Stat}
use Rattle.ldm_model.specs.declared.event.Event.TheVariants.{Reserve, Fill, Commit, Discard}
use Rattle.ldm_model.specs.declared.event.Reply.{Reply}
use Rattle.ldm_model.specs.declared.event.Reply.TheVariants as reply
use Rattle.ldm_model.specs.declared.event.Entry.{Entry}
use Rattle.ldm_sender.specs.declared.end.SendEnd.{SendEnd}
use Rattle.ldm_sender.specs.declared.end.SendEnd.TheVariants as send
use Rattle.ldm_sender.specs.Asked.{Asked}
use Rattle.ldm_class.specs.Classes.{resumed}
use Rattle.ldm_session.specs.Part.{IsPart}
use Rattle.ldm_sender.specs.Ending.{closing_of}
use Rattle.ldm_sender.specs.Opening.{Answered, Denied, Reclassed, Busy, Opened, closing_entries, opening_calls, opening_entries, place_of}
use Rattle.ldm_upstream.specs.Blocks.{blocks, reads}
use Rattle.ldm_upstream.specs.Turn as feed
use Rattle.ldm_upstream.specs.Turns as feed_turns
use Rattle.ldm_upstream.specs.Feeding as feeding
use Rattle.ldm_notify.specs.Turn as notice
use Rattle.ldm_notify.specs.Turns as notice_turns
use Rattle.ldm_notify.specs.Notifying as notifying
use Rattle.ldm_serve.specs.Client.{Client}
use Rattle.ldm_serve.specs.Kept.{AllPutIn, PutsIn}

abbrev PutsNone : Event → Type 0
PutsNone (Insert now info body) = ⊥
PutsNone (Reserve info) = ⊥
PutsNone (Commit r now) = ⊥
PutsNone (OpenCursor feed from) = Unit {0}
PutsNone (Step k) = Unit {0}
PutsNone (Read k offset count) = Unit {0}
PutsNone (Release k) = Unit {0}
PutsNone (Close k) = Unit {0}
PutsNone Stat = ⊥
PutsNone (Fill r bytes) = Unit {0}
PutsNone (Discard r) = Unit {0}
PutsNone (Look signature) = ⊥
PutsNone Expire = ⊥
PutsNone (Tally k) = ⊥

abbrev pub AllPutNone : List Entry → Type 0
AllPutNone [] = Unit {0}
AllPutNone (call ∷ calls) = PutsNone call.event × AllPutNone calls

none-puts : (client : Client) (before : List Entry) (event : Event) → PutsNone event → PutsIn client before event
none-puts client before (Insert now info body) none = absurd none
none-puts client before (Reserve info) none = absurd none
none-puts client before (Commit r now) none = absurd none
none-puts client before (OpenCursor feed from) none = tt
none-puts client before (Step k) none = tt
none-puts client before (Read k offset count) none = tt
none-puts client before (Release k) none = tt
none-puts client before (Close k) none = tt
none-puts client before Stat none = absurd none
none-puts client before (Fill r bytes) none = tt
none-puts client before (Discard r) none = tt
none-puts client before (Look signature) none = absurd none
none-puts client before Expire none = absurd none
none-puts client before (Tally k) none = absurd none

pub none-put_in : (client : Client) (before calls : List Entry) → AllPutNone calls → AllPutIn client before calls
none-put_in client before [] none = tt
none-put_in client before (call ∷ calls) none = (none-puts client before call.event none.0, none-put_in client (before ++ call ∷ []) calls none.1)

pub puts-append : (first second : List Entry) → AllPutNone first → AllPutNone second → AllPutNone (first ++ second)
puts-append [] second one two = two
puts-append (call ∷ first) second one two = (one.0, puts-append first second one.1 two)

puts-front : (first second : List Entry) → AllPutNone (first ++ second) → AllPutNone first
puts-front [] second all = tt
puts-front (call ∷ first) second all = (all.0, puts-front first second all.1)

-- calls that are others or a front of them
pub puts-part : (whole : Bool) (part all : List Entry) → IsPart whole part all → AllPutNone all → AllPutNone part
puts-part true part all is none = subst AllPutNone (sym is) none
puts-part false part all is none = puts-front part is.0 (subst AllPutNone (sym is.1) none)

-- ---- the cursor

opening_calls-none : (actor : ℕ) (asked : Asked) (named : Option (List ℕ)) (missed : Bool) (answer : Reply) → AllPutNone (opening_calls actor asked named missed answer)
opening_calls-none actor asked None missed answer = (tt, tt)
opening_calls-none actor asked (Some signature) false answer = (tt, tt)
opening_calls-none actor asked (Some signature) true answer = (tt, (tt, tt))

opening-none : (actor : ℕ) (asked : Asked) (answered : Answered) → AllPutNone (opening_entries actor asked answered)
opening-none actor asked (Denied rule) = tt
opening-none actor asked (Reclassed class) = tt
opening-none actor asked (Busy missed) = opening_calls-none actor asked (resumed asked.class.specs.items) missed reply.AllBusy
opening-none actor asked (Opened missed k) = opening_calls-none actor asked (resumed asked.class.specs.items) missed (reply.Opened k)

closing_entries-none : (actor : ℕ) (answered : Answered) → AllPutNone (closing_entries actor answered)
closing_entries-none actor (Denied rule) = tt
closing_entries-none actor (Reclassed class) = tt
closing_entries-none actor (Busy missed) = tt
closing_entries-none actor (Opened missed k) = (tt, tt)

pub closing-none : (actor : ℕ) (why : SendEnd) (answered : Answered) → AllPutNone (closing_of actor why answered)
closing-none actor send.Worn answered = tt
closing-none actor _ answered = closing_entries-none actor answered

-- ---- feedings

reads-none : (actor k offset : ℕ) (pieces : List (List ℕ)) → AllPutNone (reads actor k offset pieces)
reads-none actor k offset [] = tt
reads-none actor k offset (block ∷ behind) = (tt, reads-none actor k (offset + length block) behind)

handling-none : (actor k : ℕ) (given : feed.Given) (handling : feed.Handling) → AllPutNone (feed.handling_entries actor k given handling)
handling-none actor k given feed.Passed = tt
handling-none actor k given (feed.Whole at) = reads-none actor k 0 (blocks given.product.body)
handling-none actor k given (feed.Declined at) = tt
handling-none actor k given (feed.InBlocks at blocks_at) = reads-none actor k 0 (blocks given.product.body)

turn-none : (actor k : ℕ) (turn : feed.Turn) → AllPutNone (feed.turn_entries actor k turn)
turn-none actor k (feed.Lost count first last) = (tt, tt)
turn-none actor k (feed.Gave given handling) =
    (tt, puts-append (feed.handling_entries actor k given handling) (feed.let_go actor k given ∷ []) (handling-none actor k given handling) (tt, tt))
turn-none actor k (feed.Quiet end now) = (tt, tt)
turn-none actor k (feed.Alive end now at) = (tt, tt)

turns-none : (actor k : ℕ) (turns : List feed.Turn) → AllPutNone (feed_turns.entries_of_turns actor k turns)
turns-none actor k [] = tt
turns-none actor k (turn ∷ turns) = puts-append (feed.turn_entries actor k turn) (feed_turns.entries_of_turns actor k turns) (turn-none actor k turn) (turns-none actor k turns)

last-none : (actor k : ℕ) (last : feeding.Last) → AllPutNone (feeding.last_entries actor k last)
last-none actor k feeding.GoesOn = tt
last-none actor k (feeding.Stopped end) = (tt, tt)
last-none actor k (feeding.Unanswered given at) = (tt, tt)

pub feeding-puts_none : (actor : ℕ) (asked : Asked) (fed : feeding.Feeding) → AllPutNone (feeding.entries_of actor asked fed)
feeding-puts_none actor asked fed =
    let k = place_of fed.answered in
    let opening = opening_entries actor asked fed.answered in
    let turns = feed_turns.entries_of_turns actor k fed.turns in
    puts-append (opening ++ turns) (feeding.last_entries actor k fed.last)
    (puts-append opening turns (opening-none actor asked fed.answered) (turns-none actor k fed.turns)) (last-none actor k fed.last)

-- ---- sessions of notices

notice-none : (actor k : ℕ) (turn : notice.Turn) → AllPutNone (notice.turn_entries actor k turn)
notice-none actor k (notice.Lost count first last) = (tt, tt)
notice-none actor k (notice.Gave row handling) = (tt, (tt, tt))
notice-none actor k (notice.Quiet end now) = (tt, tt)
notice-none actor k (notice.Alive end now at) = (tt, tt)

notices-none : (actor k : ℕ) (turns : List notice.Turn) → AllPutNone (notice_turns.entries_of_turns actor k turns)
notices-none actor k [] = tt
notices-none actor k (turn ∷ turns) = puts-append (notice.turn_entries actor k turn) (notice_turns.entries_of_turns actor k turns) (notice-none actor k turn) (notices-none actor k turns)

last_notice-none : (actor k : ℕ) (last : notifying.Last) → AllPutNone (notifying.last_entries actor k last)
last_notice-none actor k notifying.GoesOn = tt
last_notice-none actor k (notifying.Stopped end) = (tt, tt)
last_notice-none actor k (notifying.Unanswered row at) = (tt, tt)

pub notifying-puts_none : (actor : ℕ) (asked : Asked) (told : notifying.Notifying) → AllPutNone (notifying.entries_of actor asked told)
notifying-puts_none actor asked told =
    let k = place_of told.answered in
    let opening = opening_entries actor asked told.answered in
    let turns = notice_turns.entries_of_turns actor k told.turns in
    puts-append (opening ++ turns) (notifying.last_entries actor k told.last)
    (puts-append opening turns (opening-none actor asked told.answered) (notices-none actor k told.turns)) (last_notice-none actor k told.last)
