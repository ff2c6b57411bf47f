-- The calls of a feeding only read.
use Rattle.std.proofs.Common.{ℕ, ◌+◌, Bool, true, false, List, [], ◌∷◌, ◌++◌, length, Option, Some, None, refl}
use Rattle.std.specs.Prelude.{All}
use Rattle.std.proofs.lemmas.List.Elements.{All-nil, All-cons, All-append}
use Rattle.ldm_model.specs.declared.event.Reply.{Reply}
use Rattle.ldm_model.specs.declared.event.Reply.TheVariants as reply
use Rattle.ldm_model.specs.declared.event.Entry.{Entry}
use Rattle.ldm_class.specs.Classes.{resumed}
use Rattle.ldm_sender.specs.Asked.{Asked}
use Rattle.ldm_upstream.specs.Blocks.{blocks, reads}
use Rattle.ldm_sender.specs.Opening.{Answered, Denied, Reclassed, Busy, Opened, from_instant, opens, opening_calls, opening_entries, closing_entries, place_of}
use Rattle.ldm_upstream.specs.Turn.{Given, Handling, Passed, Whole, Declined, InBlocks, Turn, Lost, Gave, Quiet, Alive, let_go, handling_entries, turn_entries}
use Rattle.ldm_upstream.specs.Turns.{entries_of_turns}
use Rattle.ldm_upstream.specs.Feeding.{Last, GoesOn, Stopped, Unanswered, Feeding, last_entries, entries_of}
use Rattle.ldm_between_ends.specs.Reading.{OnlyReads}

none-reads : All OnlyReads []
none-reads = All-nil OnlyReads

one-reads : (entry : Entry) → OnlyReads entry → All OnlyReads (entry ∷ [])
one-reads entry is = All-cons OnlyReads entry [] is none-reads

module _ (actor : ℕ) where
  reads-read : (k offset : ℕ) (parts : List (List ℕ)) → All OnlyReads (reads actor k offset parts)
  reads-read k offset [] = none-reads
  reads-read k offset (part ∷ parts) = All-cons OnlyReads _ (reads actor k (offset + length part) parts) refl (reads-read k (offset + length part) parts)

  handling-reads : (k : ℕ) (given : Given) (handling : Handling) → All OnlyReads (handling_entries actor k given handling)
  handling-reads k given Passed = none-reads
  handling-reads k given (Whole at) = reads-read k 0 (blocks given.product.body)
  handling-reads k given (Declined at) = none-reads
  handling-reads k given (InBlocks at blocks_at) = reads-read k 0 (blocks given.product.body)

  turn-reads : (k : ℕ) (turn : Turn) → All OnlyReads (turn_entries actor k turn)
  turn-reads k (Lost count first last) = one-reads _ refl
  turn-reads k (Gave given handling) =
      All-cons OnlyReads _ (handling_entries actor k given handling ++ let_go actor k given ∷ []) refl
      (All-append OnlyReads (handling_entries actor k given handling) (let_go actor k given ∷ []) (handling-reads k given handling) (one-reads _ refl))
  turn-reads k (Quiet end now) = one-reads _ refl
  turn-reads k (Alive end now at) = one-reads _ refl

  turns-read : (k : ℕ) (turns : List Turn) → All OnlyReads (entries_of_turns actor k turns)
  turns-read k [] = none-reads
  turns-read k (turn ∷ turns) = All-append OnlyReads (turn_entries actor k turn) (entries_of_turns actor k turns) (turn-reads k turn) (turns-read k turns)

  last-reads : (k : ℕ) (last : Last) → All OnlyReads (last_entries actor k last)
  last-reads k GoesOn = none-reads
  last-reads k (Stopped end) = one-reads _ refl
  last-reads k (Unanswered given at) = one-reads _ refl

  calls-read : (asked : Asked) (signature : Option (List ℕ)) (missed : Bool) (answer : Reply) → All OnlyReads (opening_calls actor asked signature missed answer)
  calls-read asked None missed answer = one-reads _ refl
  calls-read asked (Some signature) false answer = one-reads _ refl
  calls-read asked (Some signature) true answer =
      let last : Entry = opens actor asked (from_instant asked.class.from) answer in
      All-cons OnlyReads _ (last ∷ []) refl (one-reads last refl)

  opening-reads : (asked : Asked) (answered : Answered) → All OnlyReads (opening_entries actor asked answered)
  opening-reads asked (Denied rule) = none-reads
  opening-reads asked (Reclassed class) = none-reads
  opening-reads asked (Busy missed) = calls-read asked (resumed asked.class.specs.items) missed reply.AllBusy
  opening-reads asked (Opened missed k) = calls-read asked (resumed asked.class.specs.items) missed (reply.Opened k)

  closing-reads : (answered : Answered) → All OnlyReads (closing_entries actor answered)
  closing-reads (Denied rule) = none-reads
  closing-reads (Reclassed class) = none-reads
  closing-reads (Busy missed) = none-reads
  closing-reads (Opened missed k) = one-reads _ refl

  pub feeding-reads : (asked : Asked) (feeding : Feeding) → All OnlyReads (entries_of actor asked feeding ++ closing_entries actor feeding.answered)
  feeding-reads asked feeding =
      let k = place_of feeding.answered in
      let opening = opening_entries actor asked feeding.answered in
      let turning = entries_of_turns actor k feeding.turns in
      let ending = last_entries actor k feeding.last in
      All-append OnlyReads ((opening ++ turning) ++ ending) (closing_entries actor feeding.answered)
      (All-append OnlyReads (opening ++ turning) ending
      (All-append OnlyReads opening turning (opening-reads asked feeding.answered) (turns-read k feeding.turns))
      (last-reads k feeding.last))
      (closing-reads feeding.answered)
