-- The messages of a feeding of sound products are short enough for a record.
use Rattle.std.proofs.Common.{◌≡◌, ℕ, ◌+◌, ◌≤◌, List, ◌++◌, length, ap, ◌∙◌, arith}
use Rattle.std.proofs.lemmas.List.{length-append}
use Rattle.ldm_types.specs.Info.{metadata_len, pad4}
use Rattle.ldm_xdr.specs.Spelling.{spelling, padded}
use Rattle.ldm_xdr.proofs.Lengths.{length_unsigned, length_padded, length_opaque}
use Rattle.ldm_xdr.proofs.Whole.{length-spelling}
use Rattle.ldm_relay.specs.declared.message.ClassAnswer.TheVariants as class_answer
use Rattle.ldm_relay.specs.declared.message.TheConstants.{LARGEST_BLOCK, LARGEST_CONTENT}
use Rattle.ldm_relay.specs.declared.procedure.Procedure.{Procedure}
use Rattle.ldm_relay.specs.declared.procedure.Procedure.TheVariants as procedure
use Rattle.ldm_relay.specs.Sent.{Sent}
use Rattle.ldm_relay.specs.Sent as sent
use Rattle.ldm_relay.specs.Spelling.{no_authentication, call_header, accepted_header, reply_header, written}
use Rattle.ldm_upstream.specs.Turn.{Given, announcement}
use Rattle.ldm_between_ends.specs.Passing.{IsSound}
use Rattle.ldm_between_ends.proofs.EachMessage.{HoldsOfEach}

abbrev pub IsShortMessage : Sent → Type 0
IsShortMessage m = length (written m) ≤ LARGEST_CONTENT

no_authentication-length : length no_authentication ≡ 8
unfolding no_authentication
no_authentication-length = simp (length-append, length_unsigned)

call_header-length : (xid : ℕ) (p : Procedure) → length (call_header xid p) ≡ 40
unfolding call_header
call_header-length xid p = simp (length-append, length_unsigned, no_authentication-length)

pub reply_header-length : (xid : ℕ) → length (reply_header xid) ≡ 24
unfolding reply_header accepted_header
reply_header-length xid = simp (length-append, length_unsigned, no_authentication-length)

pub short-reply : (xid : ℕ) → IsShortMessage (sent.FeedmeReply xid class_answer.Ok)
unfolding written
short-reply xid = simp (length-append, reply_header-length, length_unsigned) (omega arith)

short-alive : (xid : ℕ) → IsShortMessage (sent.Isalive xid)
unfolding written
short-alive xid = simp call_header-length (omega arith)

short-whole : (next : ℕ) (given : Given) → IsSound given → IsShortMessage (sent.Hereis next given.product.info given.product.body)
unfolding written
short-whole next given sound =
    let info = given.product.info in
    let body = given.product.body in
    let spelled : length (spelling info) ≡ metadata_len info = length-spelling info sound.info.signature.0 in
    let long : length (padded body) ≡ pad4 info.size = length_padded body ∙ ap pad4 sound.sized in
    omega (
      arith,
      length-append (call_header next procedure.Hereis) (spelling info ++ padded body),
      length-append (spelling info) (padded body),
      call_header-length next procedure.Hereis,
      spelled,
      long,
      sound.short,
    )

short-announcement : (next : ℕ) (given : Given) → IsSound given → IsShortMessage (announcement next given)
unfolding written
short-announcement next given sound =
    let info = given.product.info in
    let spelled : length (spelling info) ≡ metadata_len info = length-spelling info sound.info.signature.0 in
    simp (length-append, call_header-length, spelled, length_unsigned) (omega (arith, sound.info.texts.origin_short, sound.info.texts.ident_short))

short-block : (xid : ℕ) (signature : List ℕ) (i : ℕ) (block : List ℕ) → length signature ≡ 16 → length block ≤ LARGEST_BLOCK → IsShortMessage (sent.Blkdata xid signature i block)
unfolding written
short-block xid signature i block signed few =
    simp (length-append, call_header-length, length_unsigned, length_opaque) (omega (arith, signed, few))

pub each-short : HoldsOfEach IsShortMessage
each-short = record {
  alive = λ next number. short-alive next;
  whole = λ next given number sound. short-whole next given sound;
  announced = λ next given number sound. short-announcement next given sound;
  block = λ next i signature block number few signed short. short-block next signature i block signed short;
}
