-- The messages of a feed.
use Rattle.std.specs.Prelude.{ℕ, ◌+◌, ◌==◌, Bool, ◌&&◌, nat_le, min, List, [], ◌∷◌, length, bytes_eq, Option, Some, None, is_none, if◌then◌else◌}
use Rattle.ldm_types.specs.Info.{Metadata}
use Rattle.ldm_model.specs.declared.event.Event.TheVariants.{Insert, Reserve, Fill, Commit}
use Rattle.ldm_model.specs.declared.event.Reply.{Reply}
use Rattle.ldm_model.specs.declared.event.Reply.TheVariants.{Admitted, Duplicate, Reserved, Committed}
use Rattle.ldm_relay.specs.declared.message.SoonAnswer.TheVariants as soon_answer
use Rattle.ldm_relay.specs.declared.message.TheConstants.{LARGEST_BLOCK}
use Rattle.ldm_relay.specs.Sent.{Sent}
use Rattle.ldm_relay.specs.Sent as sent
use Rattle.ldm_intake.specs.declared.phase.Pending.{Pending}
use Rattle.ldm_intake.specs.Course.{Course, Comes, Asks}
use Rattle.ldm_intake.specs.Notes.{Note, Unwanted, Refused}
use Rattle.ldm_intake.specs.Receiving.{Receiving, is_wanted, left_of, with_last}
use Rattle.ldm_intake.specs.Step.{Step, Goes, Bad}

-- what is logged of an insertion
abbrev pub insert_note : Metadata → Reply → List Note
insert_note info (Admitted n time evicted) = []
insert_note info reply = Refused info.ident reply ∷ []

-- what is logged of a commit
abbrev pub commit_note : Metadata → Reply → List Note
commit_note info (Committed n time) = []
commit_note info reply = Refused info.ident reply ∷ []

-- a product, whole
abbrev pub hereis_wanted : Receiving → ℕ → Metadata → List ℕ → Course Step
hereis_wanted s now info body = Asks (Insert now info body) (λ reply. Comes (Goes (with_last s info) [] (insert_note info reply)))

abbrev pub hereis : Receiving → ℕ → Metadata → List ℕ → Course Step
hereis s now info body =
    if is_none s.pending
    then (if is_wanted s.wanting info then hereis_wanted s now info body else Comes (Goes (with_last s info) [] (Unwanted info.ident ∷ [])))
    else Comes Bad

-- a product that is whole in its reserved region
abbrev pub commits : Receiving → ℕ → List Sent → Metadata → ℕ → Course Step
commits s now replies info r = Asks (Commit r now) (λ reply. Comes (Goes (with_last s info) replies (commit_note info reply)))

-- a region was reserved: blocks are to come, or there is no body
abbrev pub accepts : Receiving → ℕ → ℕ → Metadata → ℕ → Course Step
accepts s now xid info r =
    if info.size == 0
    then commits s now (sent.ComingsoonReply xid soon_answer.Ok ∷ []) info r
    else Comes (Goes (record s { pending = Some (record { info = info; r = r; blocks = 0 }) }) (sent.ComingsoonReply xid soon_answer.Ok ∷ []) [])

abbrev pub declines : Receiving → ℕ → Metadata → List Note → Course Step
declines s xid info notes = Comes (Goes (with_last s info) (sent.ComingsoonReply xid soon_answer.DontSend ∷ []) notes)

-- what is logged of a reservation
abbrev pub reserve_note : Metadata → Reply → List Note
reserve_note info (Reserved r evicted) = []
reserve_note info (Duplicate n) = []
reserve_note info reply = Refused info.ident reply ∷ []

-- what the queue answers to a reservation
abbrev pub reserved : Receiving → ℕ → ℕ → Metadata → Reply → Course Step
reserved s now xid info (Reserved r evicted) = accepts s now xid info r
reserved s now xid info reply = declines s xid info (reserve_note info reply)

-- a product is announced
abbrev pub comingsoon_wanted : Receiving → ℕ → ℕ → Metadata → Course Step
comingsoon_wanted s now xid info = Asks (Reserve info) (reserved s now xid info)

abbrev pub comingsoon : Receiving → ℕ → ℕ → Metadata → ℕ → Course Step
comingsoon s now xid info block_size =
    if is_none s.pending && (block_size == LARGEST_BLOCK)
    then (if is_wanted s.wanting info then comingsoon_wanted s now xid info else declines s xid info (Unwanted info.ident ∷ []))
    else Comes Bad

-- whether a block is the next one of the pending product: all of the rest, or as much as a block takes
abbrev pub is_next : Pending → List ℕ → ℕ → List ℕ → Bool
is_next pending signature number block =
    bytes_eq signature pending.info.signature && (number == pending.blocks) && (length block == min LARGEST_BLOCK (left_of pending))

-- The block is filled in. With the last one the product is committed.
abbrev pub filled_in : Receiving → ℕ → Pending → ℕ → Course Step
filled_in s now pending len =
    if nat_le (left_of pending) len
    then commits s now [] pending.info pending.r
    else Comes (Goes (record s { pending = Some (record pending { blocks = pending.blocks + 1 }) }) [] [])

abbrev pub fills : Receiving → ℕ → Pending → List ℕ → Course Step
fills s now pending block = Asks (Fill pending.r block) (λ reply. filled_in s now pending (length block))

abbrev pub blkdata_of : Receiving → ℕ → List ℕ → ℕ → List ℕ → Option Pending → Course Step
blkdata_of s now signature number block None = Comes Bad
blkdata_of s now signature number block (Some pending) = if is_next pending signature number block then fills s now pending block else Comes Bad

-- a block of the pending product
abbrev pub blkdata : Receiving → ℕ → List ℕ → ℕ → List ℕ → Course Step
blkdata s now signature number block = blkdata_of s now signature number block s.pending
