use Rattle.std.proofs.Common.{◌+◌, ◌-◌, ◌≤◌, ◌≡◌, length, arith}
use Rattle.std.specs.Int.{w32}
use Rattle.std.specs.Vec.{vec_len, vec_capacity}
use Rattle.ldm_rpc.specs.declared.stage.TheConstants.{LAST_FRAGMENT}
use Rattle.ldm_xdr.specs.Spelling.{number}
use Rattle.ldm_types.specs.Info.{pad4}
use Rattle.ldm_relay.specs.Bodies.{body_len, front_of}
use Rattle.ldm_relay.proofs.Appending.{room_first, room_behind, both_append}
use Rattle.ldm_relay.proofs.Bodies.{head_and_body, one_record_with, room_for_head}
use Rattle.ldm_relay.proofs.body.write_head.Goals as goal

pub returns-in_err-reserve-clause-record_fits : goal.returns-in_err-reserve-clause-record_fits
returns-in_err-reserve-clause-record_fits c = λ body len. one_record_with c.args.call.now body (omega (arith, c.call_len-len.ensures.value, c.call_len-len.ensures.bound)) len

pub put_unsigned-requires : goal.put_unsigned-requires
put_unsigned-requires c =
    let len = c.call_len-len.result in
    let room : vec_len c.reserve.new.self + (4 + length (front_of c.args.call.now)) ≤ vec_capacity c.reserve.new.self =
    omega (arith, c.in_ok-reserve.ensures.ok, c.call_len-len.ensures.value, c.padded-with_padding.ensures, c.body_len-body.ensures.value) in
    room_first c.reserve.new.self (number w32 (LAST_FRAGMENT + len)) (front_of c.args.call.now) (room_for_head c.reserve.new.self c.args.call.now len room)

pub put_front-requires : goal.put_front-requires
put_front-requires c =
    let len = c.call_len-len.result in
    let room : vec_len c.reserve.new.self + (4 + length (front_of c.args.call.now)) ≤ vec_capacity c.reserve.new.self =
    omega (arith, c.in_ok-reserve.ensures.ok, c.call_len-len.ensures.value, c.padded-with_padding.ensures, c.body_len-body.ensures.value) in
    room_behind c.reserve.new.self c.put_unsigned.new.out (number w32 (LAST_FRAGMENT + len)) (front_of c.args.call.now)
    (room_for_head c.reserve.new.self c.args.call.now len room) c.put_unsigned.ensures

pub returns-clause-ok : goal.returns-clause-ok
returns-clause-ok c =
    let len = c.call_len-len.result in
    let call = c.args.call.now in
    let head = number w32 (LAST_FRAGMENT + len) in
    let appended =
    both_append c.reserve.new.self c.put_unsigned.new.out c.put_front.new.out head (front_of call) c.put_unsigned.ensures c.put_front.ensures in
    let padding = c.padded-with_padding.result - c.body_len-body.result in
    let count : padding ≡ pad4 (body_len call) - body_len call =
    omega (arith, c.padded-with_padding.ensures, c.body_len-body.ensures.value) in
    λ body body_is. head_and_body call len c.args.out.now c.reserve.new.self c.put_front.new.out padding body c.call_len-len.ensures.value
    c.reserve.ensures.items appended count body_is

pub returns-clause-record_fits : goal.returns-clause-record_fits
returns-clause-record_fits c = λ body len. one_record_with c.args.call.now body (omega (arith, c.call_len-len.ensures.value, c.call_len-len.ensures.bound)) len
