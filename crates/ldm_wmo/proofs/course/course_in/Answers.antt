use Rattle.std.proofs.Common.{◌≡◌, ◌≢◌, ◌∙◌, sym, subst, get_or, take, length, Some, arith}
use Rattle.std.proofs.lemmas.List.{length-take-le}
use Rattle.ldm_wmo.proofs.Marks.{Finds, byte_there, fills, goes_to, is_3, stays_open}
use Rattle.ldm_wmo.proofs.course.course_in.Goals as goal

pub returns-in-Some : goal.returns-in-Some
returns-in-Some c =
    let found : Finds c.args.piece.now c.min.result (Some c.in-Some.at) = c.in-Some.ensures in (
      goes_to c.args.piece.now c.args.room c.min.result c.in-Some.at c.min.ensures found,
      sym (byte_there c.args.piece.now c.args.room c.min.result c.in-Some.at c.min.ensures found) ∙ c.if-front-at-eq-START.true,
    )

pub returns-in-Some-2 : goal.returns-in-Some-2
returns-in-Some-2 c =
    let found : Finds c.args.piece.now c.min.result (Some c.in-Some.at) = c.in-Some.ensures in
    let there = byte_there c.args.piece.now c.args.room c.min.result c.in-Some.at c.min.ensures found in
    let other : get_or c.args.piece.now c.in-Some.at 0 ≢ 1 = λ is. c.if-front-at-eq-START.false (there ∙ is) in (
      goes_to c.args.piece.now c.args.room c.min.result c.in-Some.at c.min.ensures found,
      other,
      is_3 (get_or c.args.piece.now c.in-Some.at 0) _ (rw there at found.1) other,
    )

pub returns-in-None : goal.returns-in-None
returns-in-None c =
    let len : length (take c.min.result c.args.piece.now) ≡ c.min.result = length-take-le c.min.result c.args.piece.now (omega (arith, c.min.ensures)) in
    fills c.args.piece.now c.args.room c.min.result c.requires c.min.ensures (sym len ∙ c.if-front-room.true) c.in-None.ensures

pub returns-in-None-2 : goal.returns-in-None-2
returns-in-None-2 c =
    let len : length (take c.min.result c.args.piece.now) ≡ c.min.result = length-take-le c.min.result c.args.piece.now (omega (arith, c.min.ensures)) in
    stays_open c.args.piece.now c.args.room c.min.result c.min.ensures (λ full. c.if-front-room.false (len ∙ full)) c.in-None-2.ensures
