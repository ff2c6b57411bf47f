use Rattle.std.proofs.Common.{◌≡◌, ℕ, List, [], ◌∷◌, ◌++◌, cond, sym, ap, ◌∙◌, append-nil}
use Rattle.ldm_stats.specs.Place.{Place}
use Rattle.ldm_stats.specs.Totals.{Total}
use Rattle.ldm_stats.specs.Joining.{Entries}
use Rattle.ldm_stats.specs.Report.{line_of}
use Rattle.ldm_stats.proofs.Lines.{next_line, first_lines, done_more, on_err}
use Rattle.ldm_stats.proofs.kept.Kept.write.Goals as goal

pub loop-place-preserved : goal.loop-place-preserved
loop-place-preserved c =
    let entry : Place × Total = (c.in-Some.place.now, c.in-Some.total.now) in
    let before = c.loop-place.invariant in
    let done : Entries = before.2 in
    let now = c.loop-place.out.items in
    let same : now ≡ now ++ cond c.is_asked.result (line_of entry) [] = rw c.if-is_asked.false (sym (append-nil now)) in (
      tt,
      tt,
      done ++ entry ∷ [],
      done_more c.args.self.now done c.loop-place.place-iterator c.next.new.self entry before.3 c.in-Some.ensures.steps,
      next_line c.args.hour done entry c.is_asked.result c.args.out.now.items now now c.is_asked.ensures before.4 same,
    )

pub loop-place-preserved-in-Continue-1 : goal.loop-place-preserved-in-Continue-1
loop-place-preserved-in-Continue-1 c =
    let entry : Place × Total = (c.in-Some.place.now, c.in-Some.total.now) in
    let before = c.loop-place.invariant in
    let done : Entries = before.2 in
    let now = c.loop-place.out.items in
    let after = c.append.new.out.items in
    let more : after ≡ now ++ cond c.is_asked.result (line_of entry) [] =
    rw c.if-is_asked.true (c.in_ok-append.ensures.whole ∙ ap (λ (l : List ℕ). now ++ l) (c.as_slice.ensures.value ∙ c.put_line.ensures)) in (
      tt,
      tt,
      done ++ entry ∷ [],
      done_more c.args.self.now done c.loop-place.place-iterator c.next.new.self entry before.3 c.in-Some.ensures.steps,
      next_line c.args.hour done entry c.is_asked.result c.args.out.now.items now after c.is_asked.ensures before.4 more,
    )

pub returns-in_err-append-clause-begun : goal.returns-in_err-append-clause-begun
returns-in_err-append-clause-begun c =
    let before = c.loop-place.invariant in
    on_err _ _
    (first_lines c.args.hour c.args.self.now before.2 c.loop-place.place-iterator c.args.out.now.items c.append.new.out.items before.3
    (c.in_err-append.ensures.kept ∙ before.4))
