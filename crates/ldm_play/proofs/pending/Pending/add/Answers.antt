use Rattle.std.proofs.Common.{◌≡◌, ◌∙◌, ◌+◌, ◌-◌, List, ℕ, ◌++◌, length, take, sym, ap, arith}
use Rattle.std.proofs.lemmas.List.{take_all, length-append}
use Rattle.std.proofs.Math.Seq.{take-append-add}
use Rattle.ldm_play.specs.PendingView.{PendingView}
use Rattle.ldm_play.proofs.pending.Pending.add.Goals as goal

-- the bytes are those of the fields, and so of the view
by_view : (old new : PendingView) (more bytes : List ℕ) → old ≡ new → bytes ≡ take 65536 (old.bytes ++ more) → record old { bytes = bytes } ≡ record new { bytes = take 65536 (new.bytes ++ more) }
by_view old new more bytes same is = ap (λ (t : List ℕ). record old { bytes = t }) is ∙ ap (λ (v : PendingView). record v { bytes = take 65536 (v.bytes ++ more) }) same

pub returns-then-more-room-clause-bytes : goal.returns-then-more-room-clause-bytes
returns-then-more-room-clause-bytes c =
    let inside = c.self.inside in
    let old = inside.bytes.items in
    let more = c.args.more.now in
    by_view (record { number = inside.number; bytes = old }) c.args.self.now more c.extend.new.bytes.items c.self.view_is
    (c.extend.ensures.items ∙ sym (take_all 65536 (old ++ more) (omega (arith, length-append old more, c.if-more-room.true, c.len-room.ensures, inside.bytes.ok.0, c.self.invariant.0))))

pub returns-else-more-room-clause-bytes : goal.returns-else-more-room-clause-bytes
returns-else-more-room-clause-bytes c =
    let inside = c.self.inside in
    let old = inside.bytes.items in
    let more = c.args.more.now in
    let room = 65536 - c.len-room.result in
    let full : length old + room ≡ 65536 = omega (arith, c.len-room.ensures, inside.bytes.ok.0, c.self.invariant.0) in
    by_view (record { number = inside.number; bytes = old }) c.args.self.now more c.extend-else-more-room.new.bytes.items c.self.view_is
    (c.extend-else-more-room.ensures.items ∙ sym (take-append-add old more room) ∙ ap (λ (n : ℕ). take n (old ++ more)) full)
