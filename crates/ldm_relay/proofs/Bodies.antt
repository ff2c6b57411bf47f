-- A call with a body is what stands before the body, the body, and its padding: so another body of that length changes
-- nothing else.
use Rattle.std.proofs.Common.{◌≡◌, ℕ, ◌+◌, ◌-◌, ◌<◌, ◌≤◌, List, ◌++◌, length, drop, sym, ap, ◌∙◌, append_assoc, arith}
use Rattle.std.specs.Prelude.{replicate}
use Rattle.std.specs.Int.{w32}
use Rattle.std.specs.Global.{Vec}
use Rattle.std.specs.Vec.{vec_len, vec_capacity}
use Rattle.std.proofs.lemmas.List.{length-append, length-replicate, replicate-append-replicate, take_at, drop_at}
use Rattle.ldm_types.specs.Info.{pad4}
use Rattle.ldm_xdr.specs.Spelling.{spelling, number, padded, opaque}
use Rattle.ldm_xdr.specs.Writing.{put_at}
use Rattle.ldm_rpc.specs.declared.stage.TheConstants.{LAST_FRAGMENT}
use Rattle.ldm_rpc.specs.Spelling.{Fits as RecordFits}
use Rattle.ldm_relay.specs.declared.body.CallWithBody.{CallWithBody}
use Rattle.ldm_relay.specs.declared.body.CallWithBody.TheVariants as with
use Rattle.ldm_relay.specs.declared.message.Message.{Message}
use Rattle.ldm_relay.specs.declared.message.TheConstants.{LARGEST_CONTENT}
use Rattle.ldm_relay.specs.declared.procedure.Procedure.TheVariants as procedure
use Rattle.ldm_relay.specs.Appends.{HasRoom, Appends}
use Rattle.ldm_relay.specs.Bodies.{body_len, with_body, front_of}
use Rattle.ldm_relay.specs.MessageView.{sent_of}
use Rattle.ldm_relay.specs.Sent.{Sent}
use Rattle.ldm_relay.specs.Spelling.{call_header, written, in_one, record_of}
use Rattle.ldm_xdr.proofs.Lengths.{length_unsigned, length_padded}
use Rattle.ldm_relay.proofs.Records.{one_record}

pub front_and_body : (call : CallWithBody) (body : List ℕ) → length body ≡ body_len call → written (with_body call body) ≡ front_of call ++ padded body
unfolding written front_of opaque
front_and_body (with.Hereis xid info) body len = sym (append_assoc (call_header xid procedure.Hereis) (spelling info.now) (padded body))
front_and_body (with.Put xid info) body len = sym (append_assoc (call_header xid procedure.Put) (spelling info.now) (padded body))
front_and_body (with.Blkdata xid signature n count) body len = rw len (simp append_assoc)

pub length_with_body : (call : CallWithBody) (body : List ℕ) → length body ≡ body_len call → length (written (with_body call body)) ≡ length (front_of call) + pad4 (body_len call)
length_with_body call body len =
    ap (λ (x : List ℕ). length x) (front_and_body call body len) ∙ length-append (front_of call) (padded body)
    ∙ ap (λ n. length (front_of call) + n) (length_padded body ∙ ap pad4 len)

-- the length of the content of a message, by its call and its body
pub content_len_is : (message : Message) (call : CallWithBody) (body : List ℕ) (n : ℕ) → n ≡ length (front_of call) + pad4 (body_len call)
    → sent_of message ≡ with_body call body → length body ≡ body_len call → n ≡ length (written (sent_of message))
content_len_is message call body n is same len = is ∙ sym (length_with_body call body len) ∙ ap (λ (m : Sent). length (written m)) (sym same)

-- the padding of a body of that length
abbrev padding_of : ℕ → List ℕ
padding_of n = replicate (pad4 n - n) 0

-- a record up to its body
abbrev pub record_front : CallWithBody → List ℕ
record_front call = number w32 (LAST_FRAGMENT + (length (front_of call) + pad4 (body_len call))) ++ front_of call

record_parts : (call : CallWithBody) (body : List ℕ) → length body ≡ body_len call
    → record_of (written (with_body call body)) ≡ record_front call ++ (body ++ padding_of (body_len call))
unfolding number
record_parts call body len =
    let n = body_len call in
    let content : written (with_body call body) ≡ front_of call ++ (body ++ padding_of n) =
    front_and_body call body len ∙ ap (λ k. front_of call ++ (body ++ padding_of k)) len in
    ap record_of content
    ∙ ap (λ k. number w32 (LAST_FRAGMENT + k) ++ (front_of call ++ (body ++ padding_of n))) (ap (λ (x : List ℕ). length x) (sym content) ∙ length_with_body call body len)
    ∙ sym (append_assoc (number w32 (LAST_FRAGMENT + (length (front_of call) + pad4 n))) (front_of call) (body ++ padding_of n))

-- bytes in place of as many others
put_between : (before other behind body : List ℕ) (start : ℕ) → start ≡ length before → length body ≡ length other
    → put_at start body (before ++ (other ++ behind)) ≡ before ++ (body ++ behind)
put_between before other behind body start at len =
    let front = take_at before (other ++ behind) start (sym at) in
    let rest : drop (start + length body) (before ++ (other ++ behind)) ≡ behind =
    ap (drop (start + length body)) (sym (append_assoc before other behind))
    ∙ drop_at (before ++ other) behind (start + length body) (omega (arith, length-append before other, at, len)) in
    rw (front, rest) (append_assoc before body behind)

-- ---- a record with zero bytes in the place of its body

abbrev pub zeroed : CallWithBody → List ℕ
zeroed call = front_of call ++ replicate (pad4 (body_len call)) 0

abbrev pub zeros_of : CallWithBody → List ℕ
zeros_of call = replicate (body_len call) 0

pub zeros_len : (call : CallWithBody) → length (zeros_of call) ≡ body_len call
zeros_len call = length-replicate {A = ℕ} (body_len call) 0

zeroed_record : (call : CallWithBody) (len : ℕ) → len ≡ length (front_of call) + pad4 (body_len call)
    → record_of (written (with_body call (zeros_of call))) ≡ number w32 (LAST_FRAGMENT + len) ++ zeroed call
zeroed_record call len is =
    let n = body_len call in
    let all : n + (pad4 n - n) ≡ pad4 n = omega arith in
    let zeros : zeros_of call ++ padding_of n ≡ replicate (pad4 n) 0 =
    replicate-append-replicate {A = ℕ} n (pad4 n - n) 0 ∙ ap (λ k. replicate {A = ℕ} k 0) all in
    record_parts call (zeros_of call) (zeros_len call)
    ∙ append_assoc (number w32 (LAST_FRAGMENT + (length (front_of call) + pad4 n))) (front_of call) (zeros_of call ++ padding_of n)
    ∙ ap (λ (x : List ℕ). number w32 (LAST_FRAGMENT + (length (front_of call) + pad4 n)) ++ (front_of call ++ x)) zeros
    ∙ ap (λ k. number w32 (LAST_FRAGMENT + k) ++ zeroed call) (sym is)

length_record : (call : CallWithBody) (body : List ℕ) → length body ≡ body_len call
    → length (record_of (written (with_body call body))) ≡ 4 + (length (front_of call) + pad4 (body_len call))
length_record call body len = omega (arith, length_with_body call body len)

-- a record for which there is no room does not fit
pub no_room : (out : Vec ℕ) (call : CallWithBody) (len : ℕ) → len ≡ length (front_of call) + pad4 (body_len call)
    → HasRoom out (record_of (written (with_body call (zeros_of call)))) → vec_capacity out < vec_len out + (4 + len) → ⊥
no_room out call len is room full = omega (arith, is, room, full, length_record call (zeros_of call) (zeros_len call))

pub room_to_begin : (out : Vec ℕ) (call : CallWithBody) (len : ℕ) → len ≡ length (front_of call) + pad4 (body_len call) → vec_len out + (4 + len) ≤ vec_capacity out
    → HasRoom out (number w32 (LAST_FRAGMENT + len) ++ zeroed call)
room_to_begin out call len is room =
    let n = pad4 (body_len call) in
    omega (
      arith,
      is,
      room,
      length-append (number w32 (LAST_FRAGMENT + len)) (zeroed call),
      length_unsigned (LAST_FRAGMENT + len),
      length-append (front_of call) (replicate {A = ℕ} n 0),
      length-replicate {A = ℕ} n 0,
    )

pub is_zeroed : (call : CallWithBody) (len : ℕ) (old mid new : Vec ℕ) → len ≡ length (front_of call) + pad4 (body_len call) → mid.items ≡ old.items
    → Appends mid new (number w32 (LAST_FRAGMENT + len) ++ zeroed call)
    → new.items ≡ old.items ++ record_of (written (with_body call (zeros_of call)))
is_zeroed call len old mid new is same all =
    all.items ∙ ap (λ (x : List ℕ). x ++ (number w32 (LAST_FRAGMENT + len) ++ zeroed call)) same
    ∙ ap (λ (x : List ℕ). old.items ++ x) (sym (zeroed_record call len is))

pub start_of_body : (call : CallWithBody) (len : ℕ) (old mid : Vec ℕ) (behind start : ℕ) → len ≡ length (front_of call) + pad4 (body_len call) → vec_len mid ≡ vec_len old
    → behind ≡ vec_len mid + length (number w32 (LAST_FRAGMENT + len)) → start ≡ behind + length (front_of call)
    → start ≡ length old.items + length (record_front call)
start_of_body call len old mid behind start is same behind_is start_is =
    let head = number w32 (LAST_FRAGMENT + (length (front_of call) + pad4 (body_len call))) in
    omega (
      arith,
      same,
      behind_is,
      start_is,
      length_unsigned (LAST_FRAGMENT + len),
      length_unsigned (LAST_FRAGMENT + (length (front_of call) + pad4 (body_len call))),
      length-append head (front_of call),
      old.ok.0,
    )

pub is_filled : (call : CallWithBody) (old new : List ℕ) (start : ℕ) (body : List ℕ) → start ≡ length old + length (record_front call)
    → new ≡ old ++ record_of (written (with_body call (zeros_of call))) → length body ≡ body_len call
    → put_at start body new ≡ old ++ record_of (written (with_body call body))
is_filled call old new start body at is len =
    let n = body_len call in
    let zeros = zeros_of call in
    let behind = padding_of n in
    let now : new ≡ (old ++ record_front call) ++ (zeros ++ behind) =
    is ∙ ap (λ (x : List ℕ). old ++ x) (record_parts call zeros (zeros_len call)) ∙ sym (append_assoc old (record_front call) (zeros ++ behind)) in
    ap (put_at start body) now
    ∙ put_between (old ++ record_front call) zeros behind body start (at ∙ sym (length-append old (record_front call))) (len ∙ sym (zeros_len call))
    ∙ append_assoc old (record_front call) (body ++ behind)
    ∙ ap (λ (x : List ℕ). old ++ x) (sym (record_parts call body len))

pub one_record_with : (call : CallWithBody) (body : List ℕ) → length (front_of call) + pad4 (body_len call) ≤ LARGEST_CONTENT → length body ≡ body_len call
    → RecordFits LARGEST_CONTENT (in_one (written (with_body call body)))
one_record_with call body short len = one_record (written (with_body call body)) (omega (arith, length_with_body call body len, short))

-- ---- a record up to its body

pub room_for_head : (out : Vec ℕ) (call : CallWithBody) (len : ℕ) → vec_len out + (4 + length (front_of call)) ≤ vec_capacity out
    → HasRoom out (number w32 (LAST_FRAGMENT + len) ++ front_of call)
room_for_head out call len room =
    omega (arith, room, length-append (number w32 (LAST_FRAGMENT + len)) (front_of call), length_unsigned (LAST_FRAGMENT + len))

-- what stands before the body, the body and its padding
pub head_and_body : (call : CallWithBody) (len : ℕ) (old mid new : Vec ℕ) (padding : ℕ) (body : List ℕ)
    → len ≡ length (front_of call) + pad4 (body_len call) → mid.items ≡ old.items
    → Appends mid new (number w32 (LAST_FRAGMENT + len) ++ front_of call) → padding ≡ pad4 (body_len call) - body_len call
    → length body ≡ body_len call
    → new.items ++ (body ++ replicate padding 0) ≡ old.items ++ record_of (written (with_body call body))
head_and_body call len old mid new padding body is same all count body_is =
    let head : number w32 (LAST_FRAGMENT + len) ++ front_of call ≡ record_front call =
    ap (λ k. number w32 (LAST_FRAGMENT + k) ++ front_of call) is in
    let now : new.items ≡ old.items ++ record_front call =
    all.items ∙ ap (λ (x : List ℕ). x ++ (number w32 (LAST_FRAGMENT + len) ++ front_of call)) same ∙ ap (λ (x : List ℕ). old.items ++ x) head in
    ap (λ (x : List ℕ). x ++ (body ++ replicate {A = ℕ} padding 0)) now
    ∙ ap (λ k. (old.items ++ record_front call) ++ (body ++ replicate {A = ℕ} k 0)) count
    ∙ append_assoc old.items (record_front call) (body ++ padding_of (body_len call))
    ∙ ap (λ (x : List ℕ). old.items ++ x) (sym (record_parts call body body_is))
