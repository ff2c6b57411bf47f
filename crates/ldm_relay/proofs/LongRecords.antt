-- What a record is that is longer than any message without the bytes of a product.
use Rattle.std.proofs.Common.{◌≡◌, ℕ, ◌+◌, ◌-◌, ◌<◌, ◌≤◌, List, [], ◌∷◌, ◌++◌, length, take, Option, Some, None, Result, Ok, Err, refl, sym, ap, subst, ◌∙◌, arith}
use Rattle.std.proofs.Math.Seq.{take-append-add}
use Rattle.std.proofs.lemmas.List.{length-append}
use Rattle.ldm_relay.specs.declared.fault.RelayFault.{RelayFault}
use Rattle.ldm_relay.specs.declared.fault.RelayFault.TheVariants.{NotRpc, BadMessage}
use Rattle.ldm_relay.specs.declared.front.FeedFront.{FeedFront}
use Rattle.ldm_relay.specs.declared.front.FeedFront.TheVariants as feed_front
use Rattle.ldm_relay.specs.declared.front.TheConstants.{LONGEST_CALL, LONGEST_BLOCK_CALL}
use Rattle.ldm_relay.specs.declared.header.CallHeader.{CallHeader}
use Rattle.ldm_relay.specs.declared.procedure.Answered.{Answered}
use Rattle.ldm_relay.specs.declared.procedure.Procedure.{Procedure}
use Rattle.ldm_relay.specs.declared.procedure.Procedure.TheVariants as procedure
use Rattle.ldm_relay.specs.Calls.{call_in, comingsoon_in, blkdata_in}
use Rattle.ldm_relay.specs.FeedCalls.{IsNoFeedCall}
use Rattle.ldm_relay.specs.Fronts.{feed_front_by, feed_front_called, feed_front_of}
use Rattle.ldm_relay.specs.Headers.{call_header_in, reply_header_in}
use Rattle.ldm_relay.specs.Procedure.{answered}
use Rattle.ldm_relay.specs.Reading.{whole, or_at, or_wrong, called, call_of, reply_of, refusal_of}
use Rattle.ldm_relay.specs.Replies.{accepted_in}
use Rattle.ldm_relay.specs.Refusals.{refused_in}
use Rattle.ldm_relay.specs.Sent.{Sent}
use Rattle.ldm_xdr.specs.Fields.{◌>>=◌, no_more}
use Rattle.ldm_xdr.proofs.FieldsFound.{bind_ok}
use Rattle.ldm_relay.proofs.FeedCalls.{feedme_is_other, hiya_is_other, put_is_other, notifyme_is_other, notification_is_other, whole_is_other}
use Rattle.ldm_relay.proofs.HeaderFronts.{IsHeaderFront, call_header_front, reply_header_short}
use Rattle.ldm_relay.proofs.MessagesFound.{or_at_ok}
use Rattle.ldm_relay.proofs.Short.{Short, comingsoon_short, blkdata_short, accepted_short, refused_short}

-- a message that takes fewer bytes than there are is not the whole of them
pub not_whole : (most len : ℕ) (fault : ℕ → RelayFault) (bytes : List ℕ) (body : Result (Sent × List ℕ) ℕ) (m : Sent) → most < len → Short most len body
    → or_at fault bytes (whole body) ≡ Ok m → ⊥
unfolding whole
not_whole most len fault bytes (Ok (x, [])) m long short e = omega arith
not_whole most len fault bytes (Ok (x, byte ∷ left)) m long short e = cc
not_whole most len fault bytes (Err bad) m long short e = cc

no_feed_call : (r : Result Sent RelayFault) → ((m : Sent) → r ≡ Ok m → ⊥) → IsNoFeedCall r
no_feed_call (Ok m) never = absurd (never m refl)
no_feed_call (Err fault) never = tt

-- a body that is behind a header of a procedure that carries no bytes of a product
others_by : (p : Procedure) (xid : ℕ) (fault : ℕ → RelayFault) (bytes left : List ℕ) → 404 < length left → feed_front_by p ≡ feed_front.Other
    → IsNoFeedCall (or_at fault bytes (whole (call_in p xid left)))
others_by procedure.Hereis xid fault bytes left long is = absurd cc
others_by procedure.Feedme xid fault bytes left long is = whole_is_other fault bytes _ (feedme_is_other xid left)
others_by procedure.Hiya xid fault bytes left long is = whole_is_other fault bytes _ (hiya_is_other xid left)
others_by procedure.Comingsoon xid fault bytes left long is =
    no_feed_call _ (λ m. not_whole 404 (length left) fault bytes (comingsoon_in xid left) m long (comingsoon_short xid left))
others_by procedure.Blkdata xid fault bytes left long is = absurd cc
others_by procedure.Isalive xid fault bytes left long is = no_feed_call _ (λ m. not_whole 0 (length left) fault bytes (call_in procedure.Isalive xid left) m (omega arith) (omega arith))
others_by procedure.Qstat xid fault bytes left long is = whole_is_other fault bytes (call_in procedure.Qstat xid left) tt
others_by procedure.Put xid fault bytes left long is = whole_is_other fault bytes _ (put_is_other xid left)
others_by procedure.Notification xid fault bytes left long is = whole_is_other fault bytes _ (notification_is_other xid left)
others_by procedure.Notifyme xid fault bytes left long is = whole_is_other fault bytes _ (notifyme_is_other xid left)

-- a body that is behind a header of BLKDATA
blocks_by : (p : Procedure) (xid : ℕ) (fault : ℕ → RelayFault) (bytes left : List ℕ) → 16415 < length left → feed_front_by p ≡ feed_front.Blkdata
    → IsNoFeedCall (or_at fault bytes (whole (call_in p xid left)))
blocks_by procedure.Blkdata xid fault bytes left long is =
    no_feed_call _ (λ m. not_whole 16415 (length left) fault bytes (blkdata_in xid left) m long (blkdata_short xid left))
blocks_by _ xid fault bytes left long is = absurd cc

-- behind a header that names a procedure, or none
abbrev rest_of : List ℕ → CallHeader × List ℕ → Result Procedure RelayFault → Result Sent RelayFault
rest_of bytes header p = p >>= (λ procedure. or_at (λ at. BadMessage header.0.xid at) bytes (whole (call_in procedure header.0.xid header.1)))

rest_is : (front : FeedFront) (most : ℕ) (bytes : List ℕ) (header : CallHeader × List ℕ) (p : Result Procedure RelayFault) → feed_front_called p ≡ front → most < length header.1
    → ((procedure : Procedure) → feed_front_by procedure ≡ front → IsNoFeedCall (or_at (λ at. BadMessage header.0.xid at) bytes (whole (call_in procedure header.0.xid header.1))))
    → IsNoFeedCall (rest_of bytes header p)
rest_is front most bytes header (Ok procedure) is long each = each procedure is
rest_is front most bytes header (Err fault) is long each = tt

-- The front of a long record begins with the header that the whole begins with.
front_header : (content : List ℕ) (header : CallHeader × List ℕ) → LONGEST_CALL < length content → call_header_in content ≡ Ok header
    → (feed_front_of (take LONGEST_CALL content) ≡ feed_front_called (called header.0)) × (length content ≤ 840 + length header.1)
unfolding feed_front_of
front_header content header long e =
    let found = call_header_front content header e in
    let split : LONGEST_CALL ≡ length found.front + (LONGEST_CALL - length found.front) = omega (arith, found.short) in
    let cut : take LONGEST_CALL content ≡ found.front ++ take (LONGEST_CALL - length found.front) header.1 =
    ap (take LONGEST_CALL) found.parts ∙ ap (λ n. take n (found.front ++ header.1)) split ∙ take-append-add found.front header.1 (LONGEST_CALL - length found.front) in
    (ap feed_front_of cut ∙ rw (found.again (take (LONGEST_CALL - length found.front) header.1)) refl, omega (arith, ap (λ (t : List ℕ). length t) found.parts, length-append found.front header.1, found.short))

-- a record that begins with a front, where no body that is behind such a header and is longer than so much is a call of a feed
no_call : (front : FeedFront) (most : ℕ) (content : List ℕ) (header : Result (CallHeader × List ℕ) ℕ) → call_header_in content ≡ header
    → LONGEST_CALL < length content → 840 + most < length content → feed_front_of (take LONGEST_CALL content) ≡ front
    → ((p : Procedure) (xid : ℕ) (fault : ℕ → RelayFault) (left : List ℕ) → most < length left → feed_front_by p ≡ front
    → IsNoFeedCall (or_at fault content (whole (call_in p xid left)))) → IsNoFeedCall (call_of content)
unfolding call_of
no_call front most content (Ok header) is long longer begins each =
    let found = front_header content header long is in
    rw is (rest_is front most content header (called header.0) (sym found.0 ∙ begins) (omega (arith, found.1))
    (λ p same. each p header.0.xid (λ at. BadMessage header.0.xid at) header.1 (omega (arith, found.1)) same))
no_call front most content (Err left) is long longer begins each = rw is tt

pub others_long : (content : List ℕ) → LONGEST_CALL < length content → feed_front_of (take LONGEST_CALL content) ≡ feed_front.Other → IsNoFeedCall (call_of content)
others_long content long begins =
    no_call feed_front.Other 404 content (call_header_in content) refl long (omega arith) begins (λ p xid fault left above is. others_by p xid fault content left above is)

pub blocks_long : (content : List ℕ) → LONGEST_BLOCK_CALL < length content → feed_front_of (take LONGEST_CALL content) ≡ feed_front.Blkdata → IsNoFeedCall (call_of content)
blocks_long content long begins =
    no_call feed_front.Blkdata 16415 content (call_header_in content) refl (omega arith) (omega arith) begins (λ p xid fault left above is. blocks_by p xid fault content left above is)

-- ---- replies

no_answer : (content : List ℕ) (header : ℕ × List ℕ) (a : Option Answered) (number : ℕ) (m : Sent) → 8612 < length header.1
    → (or_wrong header.0 number a >>= (λ p. or_at (λ at. BadMessage header.0 at) content (whole (accepted_in p header.0 header.1)))) ≡ Ok m → ⊥
no_answer content header (Some p) number m long e =
    not_whole 8612 (length header.1) (λ at. BadMessage header.0 at) content (accepted_in p header.0 header.1) m long (accepted_short p header.0 header.1) e
no_answer content header None number m long e = cc

no_reply : (number : ℕ) (content : List ℕ) (m : Sent) (header : Result (ℕ × List ℕ) ℕ) → reply_header_in content ≡ header → LONGEST_CALL < length content
    → reply_of number content ≡ Ok m → ⊥
unfolding reply_of
no_reply number content m (Ok header) is long e =
    let short = reply_header_short content header is in
    no_answer content header (answered number) number m (omega arith) (rw is at e)
no_reply number content m (Err left) is long e = let bad = rw is at e in cc

pub no_reply_long : (number : ℕ) (content : List ℕ) (m : Sent) → LONGEST_CALL < length content → reply_of number content ≡ Ok m → ⊥
no_reply_long number content m long e = no_reply number content m (reply_header_in content) refl long e

no_refusal : (content : List ℕ) (m : Sent) (header : Result (ℕ × List ℕ) ℕ) → reply_header_in content ≡ header → LONGEST_CALL < length content
    → refusal_of content ≡ Ok m → ⊥
unfolding refusal_of
no_refusal content m (Ok header) is long e =
    let short = reply_header_short content header is in
    not_whole 12 (length header.1) (λ at. BadMessage header.0 at) content (refused_in header.0 header.1) m (omega arith) (refused_short header.0 header.1) (rw is at e)
no_refusal content m (Err left) is long e = let bad = rw is at e in cc

pub no_refusal_long : (content : List ℕ) (m : Sent) → LONGEST_CALL < length content → refusal_of content ≡ Ok m → ⊥
no_refusal_long content m long e = no_refusal content m (reply_header_in content) refl long e
