-- Worked examples: a product of four bytes whose blocks are to come, and what each message of a feed does then.
use Rattle.std.specs.Prelude.{◌≡◌, ℕ, List, [], ◌∷◌, true, false, codes, replicate, Some, None}
use Rattle.ldm_types.specs.Info.{Metadata}
use Rattle.ldm_types.specs.declared.class.ClassSpec.{ClassSpec}
use Rattle.ldm_model.specs.declared.event.Event.TheVariants.{Fill, Commit, Discard}
use Rattle.ldm_model.specs.declared.event.Reply.TheVariants as reply
use Rattle.ldm_relay.specs.declared.message.ClassAnswer.TheVariants as class_answer
use Rattle.ldm_relay.specs.declared.message.SoonAnswer.TheVariants as soon_answer
use Rattle.ldm_relay.specs.Sent as sent
use Rattle.ldm_intake.specs.declared.end.RecvEnd.TheVariants.{BadFrame}
use Rattle.ldm_intake.specs.declared.phase.Phase.TheVariants.{Asked, Feeding}
use Rattle.ldm_intake.specs.Course.{Comes, Leads, entry_by}
use Rattle.ldm_intake.specs.Notes.{Refused, Unwanted}
use Rattle.ldm_intake.specs.Receiving.{Receiving, with_last}
use Rattle.ldm_intake.specs.Step.{Goes, Bad, Declined}
use Rattle.ldm_intake.specs.Answered.{answered}
use Rattle.ldm_intake.specs.Products.{blkdata, comingsoon, hereis, reserved}
use Rattle.ldm_intake.specs.Taken.{closing, taken_none}

abbrev pub signature : List ℕ
signature = replicate 16 1

-- the metadata of a product with an ident `p` and a body of so many bytes
abbrev pub product : ℕ → Metadata
product size = record { arrival = 100; signature = signature; origin = codes "h"; feed = 2; seqno = 1; ident = codes "p"; size = size }

-- the class of all instants that wants nothing
abbrev pub class : ClassSpec
class = record { from = 0; to = 4294967295999999; specs = record { items = [] } }

-- a feed with nothing pending
abbrev pub fed : Receiving
fed = record { wanting = record { class = class; policy = None }; max_hereis = 3; phase = Feeding; pending = None; last = None }

-- a product of four bytes is pending at place 5
abbrev pub waiting : Receiving
waiting = record fed { pending = Some (record { info = product 4; r = 5; blocks = 0 }) }

abbrev pub body : List ℕ
body = codes "ABCD"

-- the last block is filled in, and the product is committed
abbrev pub LastBlock : Type 0
LastBlock = Leads 0 (blkdata waiting 500 signature 0 body)
    (entry_by 0 (Fill 5 body) (reply.Filled 0) ∷ entry_by 0 (Commit 5 500) (reply.Committed 7 500) ∷ [])
    (Goes (with_last fed (product 4)) [] [])

-- a commit that is refused is a line of the log, and nothing is pending any more
abbrev pub RefusedCommit : Type 0
RefusedCommit = Leads 0 (blkdata waiting 500 signature 0 body)
    (entry_by 0 (Fill 5 body) (reply.Filled 0) ∷ entry_by 0 (Commit 5 500) (reply.Duplicate 3) ∷ [])
    (Goes (with_last fed (product 4)) [] (Refused (codes "p") (reply.Duplicate 3) ∷ []))

-- another number, another length and another signature are no next block
abbrev pub OtherBlocks : Type 0
OtherBlocks =
    (blkdata waiting 500 signature 1 body ≡ Comes Bad) × (blkdata waiting 500 signature 0 (codes "ABC") ≡ Comes Bad)
    × (blkdata waiting 500 (replicate 16 2) 0 body ≡ Comes Bad) × (blkdata fed 500 signature 0 body ≡ Comes Bad)

-- while blocks are to come, no product may come whole, and none may be announced
abbrev pub OnePending : Type 0
OnePending = (hereis waiting 500 (product 4) body ≡ Comes Bad) × (comingsoon waiting 500 2 (product 4) 16384 ≡ Comes Bad)

-- a block size other than 16,384
abbrev pub OtherBlockSize : Type 0
OtherBlockSize = comingsoon fed 500 2 (product 4) 16383 ≡ Comes Bad

-- a product that is not wanted is not offered to the queue
abbrev pub NotWanted : Type 0
NotWanted =
    (hereis fed 500 (product 4) body ≡ Comes (Goes (with_last fed (product 4)) [] (Unwanted (codes "p") ∷ [])))
    × (comingsoon fed 500 2 (product 4) 16384
    ≡ Comes (Goes (with_last fed (product 4)) (sent.ComingsoonReply 2 soon_answer.DontSend ∷ []) (Unwanted (codes "p") ∷ [])))

-- a product without a body is committed at once
abbrev pub NoBody : Type 0
NoBody = Leads 0 (reserved fed 500 2 (product 0) (reply.Reserved 5 1)) (entry_by 0 (Commit 5 500) (reply.Committed 7 500) ∷ [])
    (Goes (with_last fed (product 0)) (sent.ComingsoonReply 2 soon_answer.Ok ∷ []) [])

-- of the refusals of a reservation all but a duplicate are lines of the log
abbrev pub Refusals : Type 0
Refusals =
    (reserved fed 500 2 (product 4) (reply.Duplicate 3) ≡ Comes (Goes (with_last fed (product 4)) (sent.ComingsoonReply 2 soon_answer.DontSend ∷ []) []))
    × (reserved fed 500 2 (product 4) reply.AllReserved
    ≡ Comes (Goes (with_last fed (product 4)) (sent.ComingsoonReply 2 soon_answer.DontSend ∷ []) (Refused (codes "p") reply.AllReserved ∷ [])))

-- the class that was asked for is no narrower one, a second offer is not followed, and the number of the reply counts
abbrev pub Requests : Type 0
Requests =
    (answered fed class false 1 (class_answer.Reclass class) ≡ Declined (class_answer.Reclass class))
    × (answered fed class true 2 (class_answer.Reclass (record class { from = 1 })) ≡ Declined (class_answer.Reclass (record class { from = 1 })))
    × (answered fed class false 2 class_answer.Ok ≡ Bad)

-- a narrower class is asked for
abbrev pub Narrower : Type 0
Narrower =
    answered fed class false 1 (class_answer.Reclass (record class { from = 1 }))
    ≡ Goes (record fed { wanting = record { class = record class { from = 1 }; policy = None }; phase = Asked (record class { from = 1 }) true })
    (sent.Feedme 2 (record class { from = 1 }) 3 ∷ []) []

-- at an end a reservation is given up
abbrev pub GivenUp : Type 0
GivenUp = Leads 0 (closing (record (taken_none waiting) { end = Some (BadFrame 32) })) (entry_by 0 (Discard 5) reply.Discarded ∷ [])
    (record (taken_none fed) { end = Some (BadFrame 32) })
