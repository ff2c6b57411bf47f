use Rattle.std.proofs.Common.{◌∙◌, ℕ, List, ◌+◌, arith, ap, refl, []}
use Rattle.std.proofs.lemmas.Result.{err_from_is_err_and}
use Rattle.ldm_outside.specs.Clock.{ClockRecord}
use Rattle.ldm_shared.specs.Passes.{PassView}
use Rattle.ldm_shared.specs.Reader.{Holds}
use Rattle.ldm_upstream.specs.ProductDeeds.{reading_all}
use Rattle.ldm_sender.specs.Does.{moment_of}
use Rattle.ldm_upstream.specs.Giving.{given_of}
use Rattle.ldm_upstream.proofs.Blocks.{IsBlockAt}
use Rattle.ldm_sender.proofs.Doing.{all_left, toward_then}
use Rattle.ldm_upstream.proofs.Reading.{body_read, part_gathered, part_goes_on, reading_fails, reading_from}
use Rattle.ldm_upstream.proofs.Reading.{sending_fails}
use Rattle.ldm_upstream.proofs.body.append_body.Goals as goal

pub loop-at-init : goal.loop-at-init
loop-at-init g c = record {
  size_is = c.size-size.ensures;
  within = omega arith;
  kept = refl;
  not_closed = c.requires.not_closed;
  holds = λ body h. h;
  read = λ body clock h.
      all_left (moment_of c.args.pass.now (g.K.Link.tells c.args.link.now) clock c.args.out.now.items)
      (reading_all c.args.pass.now.actor c.args.lent.now.reader.k body) c.requires.not_closed;
}

pub returns-in_err-append_part-clause-read : goal.returns-in_err-append_part-clause-read
returns-in_err-append_part-clause-read g c =
    let why = err_from_is_err_and c.from_residual.result c.from_residual.ensures.1 in
    rw (why.1, why.2) λ body clock h.
    let tells = g.K.Link.tells in
    let actor = c.args.pass.now.actor in
    let k = c.args.lent.now.reader.k in
    reading_fails c.in_err-append_part.field-0.0
    (moment_of c.args.pass.now (tells c.args.link.now) clock c.args.out.now.items) c.loop-at.pass c.append_part.new.pass
    (tells c.loop-at.link)
    clock c.loop-at.out.items c.append_part.new.out.items k (given_of c.args.lent.now.held.now body)
    (reading_from actor k body c.loop-at.at) (reading_all actor k body)
    c.loop-at.invariant.not_closed (c.loop-at.invariant.holds body h)
    (c.in_err-append_part.ensures.read body (c.loop-at.invariant.holds body h)) (c.loop-at.invariant.read body clock h)

pub returns-in_err-send_where_full-clause-read : goal.returns-in_err-send_where_full-clause-read
returns-in_err-send_where_full-clause-read g c =
    let why =
    err_from_is_err_and c.from_residual-in_err-send_where_full.result c.from_residual-in_err-send_where_full.ensures.1
    in
    rw (why.1, why.2) λ body clock h.
    let tells = g.K.Link.tells in
    let actor = c.args.pass.now.actor in
    let k = c.args.lent.now.reader.k in
    let given = given_of c.args.lent.now.held.now body in
    let at = c.loop-at.at in
    let len = c.min-len.result in
    let invariant = c.loop-at.invariant in
    let first = moment_of c.args.pass.now (tells c.args.link.now) clock c.args.out.now.items in
    let before = moment_of c.loop-at.pass (tells c.loop-at.link) clock c.loop-at.out.items in
    let now = moment_of c.append_part.new.pass (tells c.loop-at.link) clock c.append_part.new.out.items in
    let appends = c.in_ok-append_part.ensures.read body (invariant.holds body h) in
    let is : IsBlockAt body at len =
    record { within = omega (arith, h.whole); len_is = omega (arith, h.whole, c.min-len.ensures) } in
    let toward =
    toward_then [] [] first before now (reading_from actor k body (at + len)) (reading_from actor k body at)
    (reading_all actor k body) (invariant.read body clock h)
    (part_gathered c.loop-at.pass c.append_part.new.pass (tells c.loop-at.link) clock c.loop-at.out.items
    c.append_part.new.out.items actor k given at len invariant.not_closed
    (ap (λ (p : PassView). p.actor) invariant.kept) is appends) in
    sending_fails first c.append_part.new.pass (tells c.loop-at.link)
    (tells c.send_where_full.new.link) clock c.append_part.new.out.items c.send_where_full.new.gathered.items k given
    (reading_from actor k body (at + len))
    (reading_all actor k body) invariant.not_closed c.in_err-send_where_full.ensures.faults_kept appends.holds
    c.in_err-send_where_full.ensures.sent toward

pub loop-at-preserved : goal.loop-at-preserved
loop-at-preserved g c =
    let tells = g.K.Link.tells in
    let old = c.args.pass.now in
    let k = c.args.lent.now.reader.k in
    let held = c.args.lent.now.held.now in
    let at = c.loop-at.at in
    let len = c.min-len.result in
    let invariant = c.loop-at.invariant in
    let appends = λ (body : List ℕ)
    (h : Holds old k held body). c.in_ok-append_part.ensures.read body (invariant.holds body h) in
    record {
      size_is = invariant.size_is;
      within = omega (arith, c.min-len.ensures);
      kept = c.in_ok-append_part.ensures.kept
          ∙ ap (λ (p : PassView). record p { seen = c.append_part.new.pass.seen }) invariant.kept;
      not_closed = c.in_ok-send_where_full.ensures.still_open;
      holds = λ (body : List ℕ) (h : Holds old k held body). (appends body h).holds;
      read = λ (body : List ℕ) (clock : ClockRecord) (h : Holds old k held body).
          part_goes_on (moment_of old (tells c.args.link.now) clock c.args.out.now.items) c.loop-at.pass
          c.append_part.new.pass (tells c.loop-at.link) (tells c.send_where_full.new.link) clock
          c.loop-at.out.items c.append_part.new.out.items c.send_where_full.new.gathered.items old.actor k
          (given_of held body) at len (reading_all old.actor k body) invariant.not_closed
          (ap (λ (p : PassView). p.actor) invariant.kept)
          (record { within = omega (arith, h.whole); len_is = omega (arith, h.whole, c.min-len.ensures) })
          (appends body h) c.in_ok-send_where_full.ensures.sent
          (invariant.read body clock h);
    }

pub returns-clause-read : goal.returns-clause-read
returns-clause-read g c = λ body clock h.
    let tells = g.K.Link.tells in
    body_read (moment_of c.args.pass.now (tells c.args.link.now) clock c.args.out.now.items)
    (moment_of c.loop-at.pass (tells c.loop-at.link) clock c.loop-at.out.items) c.args.pass.now.actor
    c.args.lent.now.reader.k (given_of c.args.lent.now.held.now body) c.loop-at.at (omega (arith, h.whole))
    (c.loop-at.invariant.holds body h) (c.loop-at.invariant.read body clock h)
