-- What one message of a feeding makes of a receiver.
use Rattle.std.proofs.Common.{◌≡◌, ℕ, ◌+◌, ◌<◌, ◌≤◌, Bool, true, false, List, [], ◌∷◌, ◌++◌, length, Option, Some, None, Result, Ok, inl, inr, refl, ap, ◌∙◌, arith}
use Rattle.std.specs.Prelude.{◌⊎◌, ◌==◌, ◌&&◌, min, bytes_eq, if◌then◌else◌}
use Rattle.std.proofs.lemmas.Bool.{eq-eqb, ne_eqb, le-leb, lt-leb}
use Rattle.std.proofs.lemmas.Slice.Eq.{bytes_eq-Decides}
use Rattle.ldm_types.specs.Info.{Metadata}
use Rattle.ldm_model.specs.declared.event.Event.TheVariants.{Insert, Reserve, Fill, Commit}
use Rattle.ldm_model.specs.declared.event.Reply.{Reply}
use Rattle.ldm_model.specs.declared.event.Reply.TheVariants.{Reserved}
use Rattle.ldm_relay.specs.declared.fault.RelayFault.{RelayFault}
use Rattle.ldm_relay.specs.declared.message.TheConstants.{LARGEST_BLOCK}
use Rattle.ldm_relay.specs.declared.message.SoonAnswer.TheVariants as soon
use Rattle.ldm_relay.specs.declared.message.ClassAnswer.{ClassAnswer}
use Rattle.ldm_relay.specs.declared.message.ClassAnswer.TheVariants as class_answer
use Rattle.ldm_relay.specs.declared.procedure.Procedure.TheVariants as procedure
use Rattle.ldm_relay.specs.Fits.{Fits}
use Rattle.ldm_relay.specs.Procedure.{number_of}
use Rattle.ldm_relay.specs.Reading.{kind_of, read_as, reply_of}
use Rattle.ldm_relay.specs.Sent.{Sent}
use Rattle.ldm_relay.specs.Sent as sent
use Rattle.ldm_relay.specs.Spelling.{written}
use Rattle.ldm_types.specs.declared.class.ClassSpec.{ClassSpec}
use Rattle.ldm_intake.specs.declared.phase.Pending.{Pending}
use Rattle.ldm_intake.specs.declared.phase.Phase.{Phase}
use Rattle.ldm_intake.specs.declared.phase.Phase.TheVariants.{Asked, Feeding}
use Rattle.ldm_intake.specs.Answered.{number_of_request, by_answer}
use Rattle.ldm_intake.specs.Course.{Course, Comes, Asks, then}
use Rattle.ldm_intake.specs.Notes.{Note, Unwanted}
use Rattle.ldm_intake.specs.Products.{hereis_wanted, comingsoon_wanted, declines, insert_note, reserve_note, commit_note, commits, reserved, fills, filled_in, is_next}
use Rattle.ldm_intake.specs.Receiving.{Wanting, Receiving, is_wanted, left_of, with_last}
use Rattle.ldm_intake.specs.Record.{reply_course, call_course, course_in}
use Rattle.ldm_intake.specs.Step.{Step, Goes, Bad}
use Rattle.ldm_intake.specs.Taken.{Arrival, Taken, taken_none, after_step, taken}
use Rattle.ldm_between_ends.specs.Takings.{is_reserved}

-- a receiver in a feed, and one that waits for blocks
abbrev pub fed : Wanting → ℕ → Option (List ℕ) → Receiving
fed w max last = record { wanting = w; max_hereis = max; phase = Feeding; pending = None; last = last }

abbrev pub waiting : Wanting → ℕ → Option (List ℕ) → Pending → Receiving
waiting w max last pending = record { wanting = w; max_hereis = max; phase = Feeding; pending = Some pending; last = last }

-- what was taken so far, of a receiving that goes on
abbrev pub so_far : Receiving → List Sent → List Note → Taken
so_far s replies notes = record { receiving = s; replies = replies; notes = notes; end = None }

abbrev pub Again : Type 0
Again = (m : Sent) → Fits m → read_as (kind_of m) (written m) ≡ Ok m

-- what is taken of the records behind one
abbrev pub onward : List Arrival → Taken → Course Taken
onward arrivals t = taken t arrivals

module _ (again : Again) (w : Wanting) (max : ℕ) (last : Option (List ℕ)) (replies : List Sent) (notes : List Note) (a : Arrival) (arrivals : List Arrival) where
  read : (m : Sent) → Fits m → a.content ≡ written m → read_as (kind_of m) a.content ≡ Ok m
  read m fits is = ap (read_as (kind_of m)) is ∙ again m fits

  pub whole_comes : (xid : ℕ) (info : Metadata) (body : List ℕ) → Fits (sent.Hereis xid info body) → a.content ≡ written (sent.Hereis xid info body)
      → is_wanted w info ≡ true
      → taken (so_far (fed w max last) replies notes) (a ∷ arrivals)
      ≡ Asks (Insert a.now info body) (λ reply. taken (so_far (fed w max (Some info.signature)) (replies ++ []) (notes ++ insert_note info reply)) arrivals)
  unfolding taken
  whole_comes xid info body fits is wanted =
      let s = fed w max last in
      let t = so_far s replies notes in
      ap (λ (r : Result Sent RelayFault). (then) (call_course s a.now r) (after_step t a.at (onward arrivals))) (read (sent.Hereis xid info body) fits is)
      ∙ ap (λ (b : Bool). (then) (if b then hereis_wanted s a.now info body else Comes (Goes (with_last s info) [] (Unwanted info.ident ∷ []))) (after_step t a.at (onward arrivals))) wanted

  pub announcement_comes : (xid : ℕ) (info : Metadata) → Fits (sent.Comingsoon xid info LARGEST_BLOCK) → a.content ≡ written (sent.Comingsoon xid info LARGEST_BLOCK)
      → is_wanted w info ≡ true
      → taken (so_far (fed w max last) replies notes) (a ∷ arrivals)
      ≡ Asks (Reserve info) (λ reply. (then) (reserved (fed w max last) a.now xid info reply) (after_step (so_far (fed w max last) replies notes) a.at (onward arrivals)))
  unfolding taken
  announcement_comes xid info fits is wanted =
      let s = fed w max last in
      let t = so_far s replies notes in
      ap (λ (r : Result Sent RelayFault). (then) (call_course s a.now r) (after_step t a.at (onward arrivals))) (read (sent.Comingsoon xid info LARGEST_BLOCK) fits is)
      ∙ ap (λ (b : Bool). (then) (if b then comingsoon_wanted s a.now xid info else declines s xid info (Unwanted info.ident ∷ [])) (after_step t a.at (onward arrivals))) wanted

  pub block_comes : (pending : Pending) (xid : ℕ) (block : List ℕ) → Fits (sent.Blkdata xid pending.info.signature pending.blocks block)
      → a.content ≡ written (sent.Blkdata xid pending.info.signature pending.blocks block) → length block ≡ min LARGEST_BLOCK (left_of pending)
      → taken (so_far (waiting w max last pending) replies notes) (a ∷ arrivals)
      ≡ Asks (Fill pending.r block) (λ reply. (then) (filled_in (waiting w max last pending) a.now pending (length block))
      (after_step (so_far (waiting w max last pending) replies notes) a.at (onward arrivals)))
  unfolding taken
  block_comes pending xid block fits is len =
      let s = waiting w max last pending in
      let t = so_far s replies notes in
      let m : Sent = sent.Blkdata xid pending.info.signature pending.blocks block in
      let same : bytes_eq pending.info.signature pending.info.signature ≡ true = (bytes_eq-Decides pending.info.signature pending.info.signature).1 refl in
      let number : (pending.blocks == pending.blocks) ≡ true = eq-eqb pending.blocks pending.blocks refl in
      let long : (length block == min LARGEST_BLOCK (left_of pending)) ≡ true = eq-eqb (length block) (min LARGEST_BLOCK (left_of pending)) len in
      let next : is_next pending pending.info.signature pending.blocks block ≡ true =
      ap (λ (b : Bool). b && (pending.blocks == pending.blocks) && (length block == min LARGEST_BLOCK (left_of pending))) same
      ∙ ap (λ (b : Bool). true && b && (length block == min LARGEST_BLOCK (left_of pending))) number
      ∙ ap (λ (b : Bool). true && true && b) long in
      ap (λ (r : Result Sent RelayFault). (then) (call_course s a.now r) (after_step t a.at (onward arrivals))) (read m fits is)
      ∙ ap (λ (b : Bool). (then) (if b then fills s a.now pending block else Comes Bad) (after_step t a.at (onward arrivals))) next

  pub alive_comes : (xid : ℕ) → Fits (sent.Isalive xid) → a.content ≡ written (sent.Isalive xid)
      → taken (so_far (fed w max last) replies notes) (a ∷ arrivals) ≡ taken (so_far (fed w max last) (replies ++ []) (notes ++ [])) arrivals
  unfolding taken
  alive_comes xid fits is =
      let s = fed w max last in
      let t = so_far s replies notes in
      ap (λ (r : Result Sent RelayFault). (then) (call_course s a.now r) (after_step t a.at (onward arrivals))) (read (sent.Isalive xid) fits is)

-- the reply to the request
module _ (again : Again) (s : Receiving) (class : ClassSpec) (twice : Bool) (a : Arrival) (arrivals : List Arrival) where
  pub answer_comes : (xid : ℕ) (answer : ClassAnswer) → Fits (sent.FeedmeReply xid answer) → a.content ≡ written (sent.FeedmeReply xid answer)
      → s.phase ≡ Asked class twice → xid ≡ number_of_request twice
      → taken (taken_none s) (a ∷ arrivals) ≡ after_step (taken_none s) a.at (onward arrivals) (by_answer s class twice answer)
  unfolding taken
  answer_comes xid answer fits is phase number =
      let m : Sent = sent.FeedmeReply xid answer in
      let got : reply_of (number_of procedure.Feedme) a.content ≡ Ok m = ap (reply_of (number_of procedure.Feedme)) is ∙ again m fits in
      let same : (xid == number_of_request twice) ≡ true = eq-eqb xid (number_of_request twice) number in
      let rest : Step → Course Taken = after_step (taken_none s) a.at (onward arrivals) in
      ap (λ (p : Phase). (then) (course_in p s a.now a.content) rest) phase
      ∙ ap (λ (r : Result Sent RelayFault). (then) (reply_course s class twice r) rest) got
      ∙ ap (λ (b : Bool). rest (if b then by_answer s class twice answer else Bad)) same

  pub reply_comes : (xid : ℕ) → Fits (sent.FeedmeReply xid class_answer.Ok) → a.content ≡ written (sent.FeedmeReply xid class_answer.Ok)
      → s.phase ≡ Asked class twice → s.pending ≡ None → xid ≡ number_of_request twice
      → taken (taken_none s) (a ∷ arrivals) ≡ taken (so_far (fed s.wanting s.max_hereis s.last) [] []) arrivals
  reply_comes xid fits is phase none number =
      answer_comes xid class_answer.Ok fits is phase number
      ∙ ap (λ (p : Option Pending). taken (so_far (record s { phase = Feeding; pending = p }) [] []) arrivals) none

-- ---- behind the reply of the queue

module _ (w : Wanting) (max : ℕ) (last : Option (List ℕ)) (replies : List Sent) (notes : List Note) (now at : ℕ) (rest : Taken → Course Taken) where
  pub declined_goes : (xid : ℕ) (info : Metadata) (reply : Reply) → is_reserved reply ≡ false
      → (then) (reserved (fed w max last) now xid info reply) (after_step (so_far (fed w max last) replies notes) at rest)
      ≡ rest (so_far (fed w max (Some info.signature)) (replies ++ sent.ComingsoonReply xid soon.DontSend ∷ []) (notes ++ reserve_note info reply))
  declined_goes xid info (Reserved r evicted) refused = absurd (cc refused)
  declined_goes xid info reply refused = refl

  pub reserved_goes : (xid : ℕ) (info : Metadata) (r evicted : ℕ) → 0 < info.size
      → (then) (reserved (fed w max last) now xid info (Reserved r evicted)) (after_step (so_far (fed w max last) replies notes) at rest)
      ≡ rest (so_far (waiting w max last (record { info = info; r = r; blocks = 0 })) (replies ++ sent.ComingsoonReply xid soon.Ok ∷ []) (notes ++ []))
  reserved_goes xid info r evicted some =
      let s = fed w max last in
      let pending : Pending = record { info = info; r = r; blocks = 0 } in
      let empty : (info.size == 0) ≡ false = ne_eqb info.size 0 (omega arith) in
      ap (λ (b : Bool). (then) (if b then commits s now (sent.ComingsoonReply xid soon.Ok ∷ []) info r
      else Comes (Goes (waiting w max last pending) (sent.ComingsoonReply xid soon.Ok ∷ []) [])) (after_step (so_far s replies notes) at rest)) empty

  module _ (pending : Pending) (len : ℕ) where
    pub last_block : left_of pending ≤ len
        → (then) (filled_in (waiting w max last pending) now pending len) (after_step (so_far (waiting w max last pending) replies notes) at rest)
        ≡ Asks (Commit pending.r now) (λ reply. rest (so_far (fed w max (Some pending.info.signature)) (replies ++ []) (notes ++ commit_note pending.info reply)))
    last_block le =
        let s = waiting w max last pending in
        ap (λ (b : Bool). (then) (if b then commits s now [] pending.info pending.r
        else Comes (Goes (waiting w max last (record pending { blocks = pending.blocks + 1 })) [] [])) (after_step (so_far s replies notes) at rest))
        (le-leb (left_of pending) len le)

    pub next_block : len < left_of pending
        → (then) (filled_in (waiting w max last pending) now pending len) (after_step (so_far (waiting w max last pending) replies notes) at rest)
        ≡ rest (so_far (waiting w max last (record pending { blocks = pending.blocks + 1 })) (replies ++ []) (notes ++ []))
    next_block lt =
        let s = waiting w max last pending in
        ap (λ (b : Bool). (then) (if b then commits s now [] pending.info pending.r
        else Comes (Goes (waiting w max last (record pending { blocks = pending.blocks + 1 })) [] [])) (after_step (so_far s replies notes) at rest))
        (lt-leb (left_of pending) len lt)

-- a region was reserved
pub record IsReserved (reply : Reply) : Type 0 where
  pub r : ℕ
  pub evicted : ℕ
  pub is : reply ≡ Reserved r evicted

pub reserved_or : (reply : Reply) → IsReserved reply ⊎ (is_reserved reply ≡ false)
reserved_or (Reserved r evicted) = inl (record { r = r; evicted = evicted; is = refl })
reserved_or reply = inr refl
