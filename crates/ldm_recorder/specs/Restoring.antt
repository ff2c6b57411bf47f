-- What restoring a journal comes to.
use Rattle.std.specs.Prelude.{◌≡◌, ℕ, ◌≤◌, List, [], ◌∷◌, ◌++◌, length, map, Option, option_map, IfSome, Bool, true, false}
use Rattle.std.specs.List.{flat_map}
use Rattle.ldm_disk.specs.Told.{FileRecord}
use Rattle.ldm_model.specs.declared.event.Event.TheVariants as event
use Rattle.ldm_model.specs.declared.event.Reply.{Reply}
use Rattle.ldm_model.specs.declared.event.Reply.TheVariants as reply
use Rattle.ldm_model.specs.declared.event.Entry.{Entry}
use Rattle.ldm_model.specs.declared.replies.InsertReply.{InsertReply}
use Rattle.ldm_model.specs.declared.replies.InsertReply.TheVariants as insert
use Rattle.ldm_model.specs.Answers.{insert_answer}
use Rattle.ldm_shared.specs.declared.steps.TheConstants.{MOST_TURNS}
use Rattle.ldm_shared.specs.declared.turn.Turn.{Turn}
use Rattle.ldm_shared.specs.declared.turn.Turn.TheVariants as turn
use Rattle.ldm_shared.specs.Passes.{PassView, Calls}
use Rattle.ldm_journal.specs.declared.marks.Marks.{Marks}
use Rattle.ldm_journal.specs.Records.{Kept}
use Rattle.ldm_journal.specs.declared.fault.JournalFault.{JournalFault}
use Rattle.ldm_journal.specs.declared.fault.JournalFault.TheVariants as fault
use Rattle.ldm_journal.specs.Standing.{Stands}
use Rattle.ldm_types.specs.declared.signature.Signature.{Signature}
use Rattle.ldm_recorder.specs.declared.line.Line.{Line}
use Rattle.ldm_recorder.specs.declared.end.RestoreEnd.{RestoreEnd}
use Rattle.ldm_recorder.specs.declared.end.RestoreEnd.TheVariants.{Restored, NotRead, Worn}
use Rattle.ldm_recorder.specs.Lines.{found_in}

-- ---- a product

-- An older copy was in the way: the number under which it is queued, and that of the oldest product, which was evicted.
pub record Freed : Type 0 where
  pub queued : ℕ
  pub evicted : ℕ

-- a product is inserted at just the time at which it was before
abbrev pub insertion : ℕ → Kept → Reply → Entry
insertion actor k answer = record { actor = actor; event = event.Insert k.time k.info k.body; reply = answer }

abbrev pub expiration : ℕ → Reply → Entry
expiration actor answer = record { actor = actor; event = event.Expire; reply = answer }

abbrev pub freed_entries : ℕ → Kept → List Freed → List Entry
freed_entries actor k freed =
    flat_map (λ (f : Freed). insertion actor k (reply.Duplicate f.queued) ∷ expiration actor (reply.Expired f.evicted) ∷ []) freed

-- the last insertion; where its signature is queued still, no product could be evicted
abbrev pub last_entries : ℕ → Kept → InsertReply → List Entry
last_entries actor k (insert.Duplicate n) = insertion actor k (reply.Duplicate n) ∷ expiration actor reply.Nothing ∷ []
last_entries actor k answer = insertion actor k (insert_answer answer) ∷ []

-- whether that was all
abbrev pub AnswersLast : Bool → InsertReply → Type 0
AnswersLast last (insert.Duplicate n) = last ≡ false
AnswersLast last answer = last ≡ true

-- A product that was put back: what was evicted for its signature, and what the queue answered then.
pub record PutBack : Type 0 where
  pub product : Kept
  pub freed : List Freed
  pub answer : InsertReply

abbrev pub put_entries : ℕ → PutBack → List Entry
put_entries actor put = freed_entries actor put.product put.freed ++ last_entries actor put.product put.answer

-- A product at which the queue had had all its calls. The last of them may have found its signature queued.
pub record InHand : Type 0 where
  pub product : Kept
  pub freed : List Freed
  pub found : List ℕ

abbrev pub hand_entries : ℕ → InHand → List Entry
hand_entries actor hand =
    freed_entries actor hand.product hand.freed ++ map (λ (n : ℕ). insertion actor hand.product (reply.Duplicate n)) hand.found

-- What came of putting a product back.
pub record PutsOne (k : Kept) (old new : PassView) : Type 0 where
  pub put : PutBack
  pub product : put.product ≡ k
  pub calls : Calls old new (put_entries old.actor put)

pub record PutsPart (k : Kept) (old new : PassView) : Type 0 where
  pub hand : InHand
  pub product : hand.product ≡ k
  pub one : length hand.found ≤ 1
  pub calls : Calls old new (hand_entries old.actor hand)
  pub worn : length new.seen ≡ MOST_TURNS

abbrev pub PutsBy : Turn (Unit {0}) → Kept → PassView → PassView → Type 0
PutsBy (turn.Done done) k old new = PutsOne k old new
PutsBy (turn.Worn turns) k old new = PutsPart k old new

-- ---- all of them

-- at `Worn` one product is in hand
abbrev pub IsInHand : RestoreEnd → List InHand → Type 0
IsInHand Worn in_hand = (length in_hand ≡ 1)
IsInHand _ in_hand = in_hand ≡ []

-- a fault of the disk, or want of memory
abbrev pub IsOfOutside : JournalFault → Type 0
IsOfOutside fault.DiskFault = Unit {0}
IsOfOutside fault.OutOfMemory = Unit {0}
IsOfOutside _ = ⊥

-- products are all that the journal keeps, or the first of them
abbrev pub AreOfKept : RestoreEnd → List Kept → List Kept → Type 0
AreOfKept (Restored count) products kept = (products ≡ kept) × (length kept ≡ count)
AreOfKept (NotRead why) products kept = IsOfOutside why × ((rest : List Kept) × (products ++ rest ≡ kept))
AreOfKept Worn products kept = (rest : List Kept) × (products ++ rest ≡ kept)

abbrev pub CountsWhole : RestoreEnd → ℕ → PassView → Type 0
CountsWhole (Restored count) n new = count ≡ n
CountsWhole (NotRead why) n new = Unit {0}
CountsWhole Worn n new = length new.seen ≡ MOST_TURNS

-- What is put back: what a journal of these marks keeps in a file; and the lines that ask for their last products.
pub record Source : Type 0 where
  pub marks : Marks
  pub file : Option FileRecord
  pub lines : List Line

abbrev pub source_of : Marks → Option FileRecord → List Line → Source
source_of marks file lines = record { marks = marks; file = file; lines = lines }

-- signatures as their bytes
abbrev pub signatures : List (Option Signature) → List (Option (List ℕ))
signatures lasts = map (option_map (λ (s : Signature). s.0)) lasts

-- for each line, the signature is found of the product that it had last, where it is among these
abbrev pub AreFound : List Line → List Kept → List (Option Signature) → Type 0
AreFound lines kept lasts = signatures lasts ≡ map (λ (line : Line). found_in line.last kept) lines

-- Products were put back, in order: just these calls were made with the pass. Each line is told the signature of the one
-- that it had last, where it is among them.
pub record Restores (why : RestoreEnd) (from : Source) (lasts : List (Option Signature)) (old new : PassView) : Type 0 where
  pub whole : List PutBack
  pub in_hand : List InHand
  pub is_in_hand : IsInHand why in_hand
  pub calls : Calls old new (flat_map (put_entries old.actor) whole ++ flat_map (hand_entries old.actor) in_hand)
  pub counts : CountsWhole why (length whole) new
  pub found : AreFound from.lines (map (λ (put : PutBack). put.product) whole) lasts
  pub products : IfSome from.file (λ f. (kept appended : List Kept) → Stands from.marks kept appended f →
      AreOfKept why (map (λ (put : PutBack). put.product) whole ++ map (λ (hand : InHand). hand.product) in_hand) kept)

abbrev pub IfNotRead : RestoreEnd → (JournalFault → Type 0) → Type 0
IfNotRead (NotRead why) P = P why
IfNotRead _ P = Unit {0}
