use Rattle.std.proofs.Common.{◌≡◌, ◌∙◌, ℕ, length, ap}
use Rattle.ldm_model.specs.declared.event.Reply.TheVariants as reply
use Rattle.ldm_model.specs.Stat.{stat, stat_reply, extents}
use Rattle.ldm_model.specs.State.{end_of, queued, occupied}
use Rattle.ldm_play.specs.Check.{clean_line}
use Rattle.ldm_play.proofs.check_command.line_of.Goals as goal

pub returns : goal.returns
unfolding stat
returns c = λ s stands.
    let r = c.stat-stat.result in
    let follows = c.stat-stat.ensures.answers s stands in
    let e : reply.Stat r ≡ stat_reply s = follows.reply in
    let admitted : r.admitted ≡ end_of s = cc in
    let kept : r.queued ≡ length (queued s) = cc in
    let used : r.used ≡ extents (occupied s) = cc in
    c.line_with.ensures ∙ ap (λ (n : ℕ). clean_line n r.queued r.used) admitted ∙ ap (λ (n : ℕ). clean_line (end_of s) n r.used) kept ∙ ap (λ (n : ℕ). clean_line (end_of s) (length (queued s)) n) used
