use Rattle.std.proofs.Common.{ℕ, ◌++◌, subst}
use Rattle.ldm_image.specs.Image.{eight}
use Rattle.ldm_image.specs.Bodies.{Appends}
use Rattle.ldm_image.proofs.BodyLemmas.{appended}
use Rattle.ldm_image.proofs.body.put_row.Goals as goal

pub returns : goal.returns
returns c =
    let n = c.args.note.now.n in
    let time = c.args.note.now.time in
    let place = c.args.note.now.place in
    let first = c.put_number.new.out in
    let next = c.put_number-2.new.out in
    let last = c.put_number-3.new.out in
    appended c.args.out.now first last (eight n) (eight time ++ eight place) c.put_number.ensures
    (appended first next last (eight time) (eight place) (subst (λ (t : ℕ). Appends first next (eight t)) c.get.ensures.value c.put_number-2.ensures) c.put_number-3.ensures)
