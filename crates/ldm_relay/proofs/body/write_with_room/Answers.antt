use Rattle.std.proofs.Common.{◌+◌, arith}
use Rattle.std.specs.Int.{w32}
use Rattle.std.specs.Vec.{vec_len}
use Rattle.ldm_rpc.specs.declared.stage.TheConstants.{LAST_FRAGMENT}
use Rattle.ldm_xdr.specs.Spelling.{number}
use Rattle.ldm_relay.proofs.Appending.{room_first, room_behind, both_append}
use Rattle.ldm_relay.proofs.Bodies.{is_filled, is_zeroed, no_room, one_record_with, room_to_begin, start_of_body, zeroed}
use Rattle.ldm_relay.proofs.body.write_with_room.Goals as goal

pub returns-in_err-reserve-clause-record_fits : goal.returns-in_err-reserve-clause-record_fits
returns-in_err-reserve-clause-record_fits c = λ body len. one_record_with c.args.call.now body (omega (arith, c.call_len-len.ensures.value, c.call_len-len.ensures.bound)) len

pub returns-in_err-reserve-clause-enough : goal.returns-in_err-reserve-clause-enough
returns-in_err-reserve-clause-enough c = λ room. absurd (no_room c.args.out.now c.args.call.now c.call_len-len.result c.call_len-len.ensures.value room c.in_err-reserve.ensures.full)

pub put_unsigned-requires : goal.put_unsigned-requires
put_unsigned-requires c =
    let len = c.call_len-len.result in
    room_first c.reserve.new.self (number w32 (LAST_FRAGMENT + len)) (zeroed c.args.call.now)
    (room_to_begin c.reserve.new.self c.args.call.now len c.call_len-len.ensures.value c.in_ok-reserve.ensures.ok)

pub put_zeroed-start-requires : goal.put_zeroed-start-requires
put_zeroed-start-requires c =
    let len = c.call_len-len.result in
    room_behind c.reserve.new.self c.put_unsigned.new.out (number w32 (LAST_FRAGMENT + len)) (zeroed c.args.call.now)
    (room_to_begin c.reserve.new.self c.args.call.now len c.call_len-len.ensures.value c.in_ok-reserve.ensures.ok) c.put_unsigned.ensures

pub returns-clause-zeros : goal.returns-clause-zeros
returns-clause-zeros c =
    let len = c.call_len-len.result in
    is_zeroed c.args.call.now len c.args.out.now c.reserve.new.self c.put_zeroed-start.new.out c.call_len-len.ensures.value c.reserve.ensures.items
    (both_append c.reserve.new.self c.put_unsigned.new.out c.put_zeroed-start.new.out (number w32 (LAST_FRAGMENT + len)) (zeroed c.args.call.now) c.put_unsigned.ensures
    c.put_zeroed-start.ensures.written)

pub returns-clause-filled : goal.returns-clause-filled
returns-clause-filled c =
    let len = c.call_len-len.result in
    let is = c.call_len-len.ensures.value in
    let zeros = is_zeroed c.args.call.now len c.args.out.now c.reserve.new.self c.put_zeroed-start.new.out is c.reserve.ensures.items
    (both_append c.reserve.new.self c.put_unsigned.new.out c.put_zeroed-start.new.out (number w32 (LAST_FRAGMENT + len)) (zeroed c.args.call.now) c.put_unsigned.ensures
    c.put_zeroed-start.ensures.written) in
    let start = start_of_body c.args.call.now len c.args.out.now c.reserve.new.self (vec_len c.put_unsigned.new.out) c.put_zeroed-start.result is c.reserve.ensures.len
    c.put_unsigned.ensures.len c.put_zeroed-start.ensures.start in
    λ body body_is. is_filled c.args.call.now c.args.out.now.items c.put_zeroed-start.new.out.items c.put_zeroed-start.result body start zeros body_is

pub returns-clause-record_fits : goal.returns-clause-record_fits
returns-clause-record_fits c = λ body len. one_record_with c.args.call.now body (omega (arith, c.call_len-len.ensures.value, c.call_len-len.ensures.bound)) len
