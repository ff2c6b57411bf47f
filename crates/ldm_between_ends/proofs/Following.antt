-- What a receiver takes of the messages of a feeding, turn by turn.
use Rattle.std.proofs.Common.{◌≡◌, ℕ, ◌^◌, ◌<◌, true, List, [], ◌∷◌, ◌++◌, Option, Some, refl, ap, subst, append_assoc, arith}
use Rattle.std.specs.Prelude.{◌&&◌, nat_le}
use Rattle.std.specs.List.{flat_map, AllByRecursion}
use Rattle.std.proofs.lemmas.Bool.{and_parts}
use Rattle.ldm_types.specs.Info.{Metadata}
use Rattle.ldm_xdr.specs.Spelling.{Fits as InfoFits}
use Rattle.ldm_model.specs.declared.event.Entry.{Entry}
use Rattle.ldm_class.specs.Access.{is_yes, verdict}
use Rattle.ldm_class.specs.Classes.{wants}
use Rattle.ldm_relay.specs.declared.message.SoonAnswer.TheVariants as soon
use Rattle.ldm_relay.specs.Sent.{Sent}
use Rattle.ldm_relay.specs.Sent as sent
use Rattle.ldm_session.specs.Owed.{Code}
use Rattle.ldm_intake.specs.Course.{Leads}
use Rattle.ldm_intake.specs.Notes.{Note}
use Rattle.ldm_intake.specs.Receiving.{Wanting, Receiving, is_wanted}
use Rattle.ldm_intake.specs.Taken.{Arrival, Taken, taken}
use Rattle.ldm_intake.proofs.Courses.{leads-same}
use Rattle.ldm_sender.specs.declared.standing.Standing.{Standing}
use Rattle.ldm_sender.specs.Asked.{Asked}
use Rattle.ldm_upstream.specs.Blocks.{blocks}
use Rattle.ldm_upstream.specs.Turn.{Given, Turn, Lost, Gave, Quiet, Alive, announcement, block_messages, after_turn, IsDue}
use Rattle.ldm_sender.specs.Calls.{later_call}
use Rattle.ldm_upstream.specs.Turn as turn
use Rattle.ldm_upstream.specs.Turns.{AreTurns, after_turns, messages_of_turns, codes_of_turns, given_in_turns}
use Rattle.ldm_upstream.specs.Feeding.{Last, GoesOn, Stopped, Unanswered, IsLast, last_messages, last_given}
use Rattle.ldm_between_ends.specs.Codes.{Agree, soon_codes}
use Rattle.ldm_between_ends.specs.Handed.{Handed, handed_in, handed_last}
use Rattle.ldm_between_ends.specs.Passing.{IsSound, IsAnswered}
use Rattle.ldm_between_ends.proofs.Growing.{none-taken, agree-behind, codes-same}
use Rattle.ldm_between_ends.proofs.Messages.{Again, fed, so_far, alive_comes}
use Rattle.ldm_between_ends.proofs.Reaching.{First, Reaches, Passed, stopped, finished}
use Rattle.ldm_between_ends.proofs.Taking.{some-left, whole_turn}
use Rattle.ldm_between_ends.proofs.Announcing.{code_of, declined_turn, announced_last}
use Rattle.ldm_between_ends.proofs.Filling.{blocks_turn}

pub info-fits : (given : Given) → IsSound given → InfoFits given.product.info
info-fits given sound = record {
  arrival = sound.info.arrival;
  signature = sound.info.signature.0;
  feed = sound.info.feed;
  seqno = sound.info.seqno;
  size = sound.info.size;
  texts = sound.info.texts;
}

-- what is due is wanted by the class that was asked for
due-wanted : (asked : Asked) (given : Given) → IsDue asked given → wants asked.class given.product.info ≡ true
due-wanted asked given due =
    let info = given.product.info in
    (and_parts (nat_le given.time asked.class.to) (wants asked.class info)
    (and_parts (nat_le given.time asked.class.to && wants asked.class info) (is_yes (verdict asked.rules asked.host info)) due).0).1

reaches-same : (actor : ℕ) (moments : List ℕ) (t : Taken) (s : Receiving) (codes : List Code) (ms ns behind : List Sent) (made : List Entry)
    → ms ≡ ns → Reaches actor moments t s codes ms behind made → Reaches actor moments t s codes ns behind made
reaches-same actor moments t s codes ms ns behind made same reaches = subst (λ (x : List Sent). Reaches actor moments t s codes x behind made) same reaches

module _ (again : Again) (actor : ℕ) (moments : List ℕ) (w : Wanting) (max : ℕ) (t : Taken) (asked : Asked)
    (wanted : (info : Metadata) → wants asked.class info ≡ true → is_wanted w info ≡ true) (last_turn : Last) (behind : List Sent) where
  -- an IS_ALIVE
  module _ (last : Option (List ℕ)) (codes : List Code) (xid : ℕ) (number : xid < 2 ^ 32) (ms : List Sent) where
    alive_by : (made : List Entry) (replies : List Sent) (notes : List Note) (arrivals : List Arrival) → soon_codes replies ≡ codes
        → First moments (sent.Isalive xid ∷ ms) arrivals behind → Leads actor (taken (so_far (fed w max last) replies notes) arrivals) made t
        → (products : List Handed) (ended : Type 0)
        → (Reaches actor moments t (fed w max last) codes ms behind made → Passed actor moments w max t last products ended behind made)
        → Passed actor moments w max t last products ended behind made
    alive_by made replies notes [] codes_are first leads products ended goes_on =
        let none = none-taken actor (so_far (fed w max last) replies notes) made t leads in
        stopped actor moments w max t last products ended replies notes behind made none.0 none.1 (some-left (sent.Isalive xid) ms behind first)
    alive_by made replies notes (a ∷ arrivals) codes_are first leads products ended goes_on =
        let comes = alive_comes again w max last replies notes a arrivals xid number first.0 in
        goes_on (record {
          replies = replies ++ [];
          notes = notes ++ [];
          arrivals = arrivals;
          codes_are = codes-same replies codes codes_are;
          first = first.2;
          leads = leads-same actor _ _ made t comes leads;
        })

  -- ---- the last turn

  nothing_left : (last : Option (List ℕ)) (ended : Type 0) (made : List Entry) (replies : List Sent) (notes : List Note) (arrivals : List Arrival)
      → First moments [] arrivals behind → Leads actor (taken (so_far (fed w max last) replies notes) arrivals) made t
      → Passed actor moments w max t last [] ended behind made
  nothing_left last ended made replies notes [] first leads =
      let none = none-taken actor (so_far (fed w max last) replies notes) made t leads in
      finished actor moments w max t last ended replies notes behind made none.0 none.1
  nothing_left last ended made replies notes (a ∷ arrivals) first leads = absurd first

  last_by : (by : Last) (next : ℕ) (last : Option (List ℕ)) (codes : List Code) (made : List Entry) → next < 2 ^ 32 → IsLast asked by → AllByRecursion IsSound (last_given by)
      → Reaches actor moments t (fed w max last) codes (last_messages next by) behind made
      → Passed actor moments w max t last (handed_last by) (IsAnswered by) behind made
  last_by GoesOn next last codes made number is sound reaches = nothing_left last (IsAnswered GoesOn) made reaches.replies reaches.notes reaches.arrivals reaches.first reaches.leads
  last_by (Stopped end) next last codes made number is sound reaches =
      nothing_left last (IsAnswered (Stopped end)) made reaches.replies reaches.notes reaches.arrivals reaches.first reaches.leads
  last_by (Unanswered given at) next last codes made number is sound reaches =
      announced_last again actor moments w max t given last codes next [] behind (number, info-fits given sound.0, omega arith)
      (wanted given.product.info (due-wanted asked given is.0)) (omega (arith, is.1)) (IsAnswered (Unanswered given at)) (λ no. no) refl made reaches

  -- ---- all turns

  pub follow : (turns : List Turn) (standing : Standing) (last : Option (List ℕ)) (codes : List Code) (made : List Entry) → standing.next < 2 ^ 32
      → AreTurns asked standing turns → IsLast asked last_turn → AllByRecursion IsSound (given_in_turns turns ++ last_given last_turn)
      → Agree (codes ++ codes_of_turns standing turns) (soon_codes t.replies)
      → Reaches actor moments t (fed w max last) codes (messages_of_turns standing turns ++ last_messages (after_turns standing turns).next last_turn) behind made
      → Passed actor moments w max t last (flat_map handed_in turns ++ handed_last last_turn) (IsAnswered last_turn) behind made
  follow [] standing last codes made number are is sound agree reaches = last_by last_turn standing.next last codes made number is sound reaches
  follow (Lost count first final ∷ turns) standing last codes made number are is sound agree reaches =
      follow turns standing last codes made number are.1 is sound agree reaches
  follow (Quiet end now ∷ turns) standing last codes made number are is sound agree reaches =
      follow turns standing last codes made number are.1 is sound agree reaches
  follow (Alive end now at ∷ turns) standing last codes made number are is sound agree reaches =
      let behind_it = after_turn standing (Alive end now at) in
      alive_by last codes standing.next number (messages_of_turns behind_it turns ++ last_messages (after_turns behind_it turns).next last_turn)
      made reaches.replies reaches.notes reaches.arrivals reaches.codes_are reaches.first reaches.leads (flat_map handed_in turns ++ handed_last last_turn) (IsAnswered last_turn)
      (λ on. follow turns behind_it last codes made (omega arith) are.1 is sound agree on)
  follow (Gave given turn.Passed ∷ turns) standing last codes made number are is sound agree reaches =
      follow turns standing last codes made number are.1 is sound.1 agree reaches
  follow (Gave given (turn.Whole at) ∷ turns) standing last codes made number are is sound agree reaches =
      let behind_it = after_turn standing (Gave given (turn.Whole at)) in
      whole_turn again actor moments w max t given (flat_map handed_in turns ++ handed_last last_turn) (IsAnswered last_turn) last codes standing.next
      (messages_of_turns behind_it turns ++ last_messages (after_turns behind_it turns).next last_turn) behind
      (number, info-fits given sound.0, sound.0.sized) (wanted given.product.info (due-wanted asked given are.0.0))
      (λ more on. follow turns behind_it (Some given.product.info.signature) codes more (omega arith) are.1 is sound.1 agree on)
      made reaches
  follow (Gave given (turn.Declined at) ∷ turns) standing last codes made number are is sound agree reaches =
      let behind_it = after_turn standing (Gave given (turn.Declined at)) in
      let code = code_of standing.next soon.DontSend in
      declined_turn again actor moments w max t given last codes standing.next
      (messages_of_turns behind_it turns ++ last_messages (after_turns behind_it turns).next last_turn) behind
      (number, info-fits given sound.0, omega arith) (wanted given.product.info (due-wanted asked given are.0.0)) (omega (arith, are.0.1))
      (flat_map handed_in turns ++ handed_last last_turn) (IsAnswered last_turn) (codes_of_turns behind_it turns) agree
      (λ more on. follow turns behind_it (Some given.product.info.signature) (codes ++ code ∷ []) more (omega arith) are.1 is sound.1
      (agree-behind codes (codes_of_turns behind_it turns) code (soon_codes t.replies) agree) on)
      made reaches
  follow (Gave given (turn.InBlocks at blocks_at) ∷ turns) standing last codes made number are is sound agree reaches =
      let behind_it = after_turn standing (Gave given (turn.InBlocks at blocks_at)) in
      let code = code_of standing.next soon.Ok in
      let body_messages = block_messages (later_call standing.next 1) given.product.info.signature 0 (blocks given.product.body) in
      let last_ones = last_messages (after_turns behind_it turns).next last_turn in
      blocks_turn again actor moments w max t given last codes (codes_of_turns behind_it turns) standing.next (messages_of_turns behind_it turns ++ last_ones) behind
      (number, info-fits given sound.0, omega arith) (wanted given.product.info (due-wanted asked given are.0.0)) (omega (arith, are.0.1))
      sound.0.info.signature.0 sound.0.info.size sound.0.sized
      (flat_map handed_in turns ++ handed_last last_turn) (IsAnswered last_turn) agree
      (λ more on. follow turns behind_it (Some given.product.info.signature) (codes ++ code ∷ []) more (omega arith) are.1 is sound.1
      (agree-behind codes (codes_of_turns behind_it turns) code (soon_codes t.replies) agree) on)
      made
      (reaches-same actor moments t (fed w max last) codes _ (announcement standing.next given ∷ (body_messages ++ (messages_of_turns behind_it turns ++ last_ones))) behind made
      (ap (λ (x : List Sent). announcement standing.next given ∷ x) (append_assoc body_messages (messages_of_turns behind_it turns) last_ones)) reaches)
