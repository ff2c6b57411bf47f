-- What is done with a product that the cursor of a feeder gives: the calls on the queue, the messages, and the replies
-- that come. What the turns of a feeding come to follows from these.
use Rattle.std.specs.Prelude.{◌≡◌, ℕ, ◌+◌, ◌<◌, ◌≤◌, true, false, List, [], ◌∷◌, length}
use Rattle.ldm_model.specs.declared.event.Reply.{Reply}
use Rattle.ldm_model.specs.declared.event.Entry.{Entry}
use Rattle.ldm_model.specs.Product.{Product}
use Rattle.ldm_model.specs.State.{State}
use Rattle.ldm_shared.specs.Staying.{HasRow}
use Rattle.ldm_relay.specs.declared.message.SoonAnswer.TheVariants as soon
use Rattle.ldm_relay.specs.declared.message.TheConstants.{LARGEST_BLOCK}
use Rattle.ldm_relay.specs.Sent.{Sent}
use Rattle.ldm_relay.specs.Sent as sent
use Rattle.ldm_session.specs.Owed.{Code}
use Rattle.ldm_sender.specs.declared.standing.Standing.{Standing}
use Rattle.ldm_sender.specs.Asked.{Asked}
use Rattle.ldm_sender.specs.Calls.{later_call}
use Rattle.ldm_sender.specs.Due.{is_due}
use Rattle.ldm_sender.specs.Turn as sender
use Rattle.ldm_sender.specs.Turn.{Kind, Row}
pub use Rattle.ldm_sender.specs.Turn.{Lost, Gave, Quiet, Alive, turn_goes}
use Rattle.ldm_upstream.specs.Blocks.{blocks, reads}

-- A product that the cursor was given: its number, its insertion time, its metadata and its body.
pub record Given : Type 0 where
  pub n : ℕ
  pub time : ℕ
  pub product : Product

-- What was done with it. Each `at` is the answer of the clock after a message.
pub data Handling : Type 0 where
  -- it is not due
  Passed : Handling
  -- it went whole
  Whole : (at : ℕ) → Handling
  -- it was announced, and the peer did not want it
  Declined : (at : ℕ) → Handling
  -- it was announced, the peer wanted it, and it went in blocks, after each of which the clock answered one of these
  InBlocks : (at : ℕ) → (blocks_at : List ℕ) → Handling

-- what the step of the cursor tells of it
abbrev pub row_of : Given → Row
row_of given = record { n = given.n; time = given.time; info = given.product.info }

-- whether a state has it so
abbrev pub IsIn : State → Given → Type 0
IsIn state given = HasRow given.n given.product given.time state

-- ---- what is to be done

abbrev pub size_of : Given → ℕ
size_of given = given.product.info.size

abbrev pub IsDue : Asked → Given → Type 0
IsDue asked given = is_due asked given.time given.product.info ≡ true

-- it is larger than the peer asked for
abbrev pub IsAnnounced : Asked → Given → Type 0
IsAnnounced asked given = IsDue asked given × (asked.max_hereis < size_of given)

-- What is done with a product: nothing where it is not due. It goes whole where it is no larger than the peer asked
-- for, and
-- else it is announced.
abbrev pub IsHandled : Asked → Given → Handling → Type 0
IsHandled asked given Passed = is_due asked given.time given.product.info ≡ false
IsHandled asked given (Whole at) = IsDue asked given × (size_of given ≤ asked.max_hereis)
IsHandled asked given (Declined at) = IsDue asked given × (asked.max_hereis < size_of given)
IsHandled asked given (InBlocks at blocks_at) =
    IsDue asked given × (asked.max_hereis < size_of given) × (length blocks_at ≡ length (blocks given.product.body))

-- ---- calls on the queue

abbrev pub given_reply : Given → Reply
given_reply given = sender.given_reply (row_of given)

abbrev pub let_go : ℕ → ℕ → Given → Entry
let_go actor k given = sender.let_go actor k (row_of given)

abbrev pub handling_entries : ℕ → ℕ → Given → Handling → List Entry
handling_entries actor k given Passed = []
handling_entries actor k given (Whole at) = reads actor k 0 (blocks given.product.body)
handling_entries actor k given (Declined at) = []
handling_entries actor k given (InBlocks at blocks_at) = reads actor k 0 (blocks given.product.body)

-- ---- messages, by the number of the next call

abbrev pub announcement : ℕ → Given → Sent
announcement next given = sent.Comingsoon next given.product.info LARGEST_BLOCK

-- blocks, of which the first has that number
abbrev pub block_messages : ℕ → List ℕ → ℕ → List (List ℕ) → List Sent
block_messages next signature number [] = []
block_messages next signature number (block ∷ behind) =
    sent.Blkdata next signature number block ∷ block_messages (later_call next 1) signature (number + 1) behind

abbrev pub handling_messages : ℕ → Given → Handling → List Sent
handling_messages next given Passed = []
handling_messages next given (Whole at) = sent.Hereis next given.product.info given.product.body ∷ []
handling_messages next given (Declined at) = announcement next given ∷ []
handling_messages next given (InBlocks at blocks_at) =
    announcement next given ∷ block_messages (later_call next 1) given.product.info.signature 0
    (blocks given.product.body)

-- ---- what was asked of others

-- what the clock answered
abbrev pub handling_instants : Handling → List ℕ
handling_instants Passed = []
handling_instants (Whole at) = at ∷ []
handling_instants (Declined at) = at ∷ []
handling_instants (InBlocks at blocks_at) = at ∷ blocks_at

-- what the peer replied
abbrev pub handling_codes : ℕ → Handling → List Code
handling_codes next Passed = []
handling_codes next (Whole at) = []
handling_codes next (Declined at) = record { xid = next; answer = soon.DontSend } ∷ []
handling_codes next (InBlocks at blocks_at) = record { xid = next; answer = soon.Ok } ∷ []

-- ---- where the feeding stands then

-- the last of these, or one before them
abbrev pub last_of : ℕ → List ℕ → ℕ
last_of before [] = before
last_of before (at ∷ later) = last_of at later

abbrev pub after_handling : Standing → Given → Handling → Standing
after_handling standing given Passed = standing
after_handling standing given (Whole at) = record { next = later_call standing.next 1; sent_at = at }
after_handling standing given (Declined at) = record { next = later_call standing.next 1; sent_at = at }
after_handling standing given (InBlocks at blocks_at) =
    record { next = later_call standing.next (1 + length (blocks given.product.body)); sent_at = last_of at blocks_at }

-- ---- a feeding, as a kind of sending

abbrev pub feeding_kind : Kind Given Handling
feeding_kind = record {
  answer = λ xid answer. sent.FeedmeReply xid answer;
  row = row_of;
  IsIn = IsIn;
  IsHandled = IsHandled;
  entries = handling_entries;
  messages = handling_messages;
  instants = handling_instants;
  after = after_handling;
  IsAnnounced = IsAnnounced;
  announcement = λ next given. announcement next given ∷ [];
}

-- ---- its turns

abbrev pub Turn : Type 0
Turn = sender.Turn Given Handling

abbrev pub turn_entries : ℕ → ℕ → Turn → List Entry
turn_entries actor k turn = sender.turn_entries feeding_kind actor k turn

abbrev pub turn_messages : ℕ → Turn → List Sent
turn_messages next turn = sender.turn_messages feeding_kind next turn

abbrev pub after_turn : Standing → Turn → Standing
after_turn standing turn = sender.after_turn feeding_kind standing turn

-- what the peer replied
abbrev pub turn_codes : ℕ → Turn → List Code
turn_codes next (Lost count first last) = []
turn_codes next (Gave given handling) = handling_codes next handling
turn_codes next (Quiet end now) = []
turn_codes next (Alive end now at) = []
