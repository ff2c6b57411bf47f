use Rattle.std.proofs.Common.{ap, ◌∙◌, max}
use Rattle.ldm_stats.specs.Joining.{Entries, joined, total_at}
use Rattle.ldm_stats.specs.Table.{Table}
use Rattle.ldm_stats.proofs.Stands.{absorbed}
use Rattle.ldm_stats.proofs.stats.Stats.absorb.Goals as goal

pub returns-clause-absorbed : goal.returns-clause-absorbed
returns-clause-absorbed c = λ products others one two.
    let mine = c.in_ok-both.ensures ∙ ap (λ (t : Table). t.entries) c.self.view_is in
    let other = ap (λ (t : Table). t.entries) c.other.view_is in
    absorbed c.args.self.now c.args.other.now c.advance.new.self c.join_all.new.self products others c.requires.hours one two
    (λ place.
    c.in_ok-join_all.ensures.totals place
    ∙ ap (λ (es : Entries). joined (total_at place es) (total_at place c.other.inside.kept)) mine
    ∙ ap (λ (es : Entries). joined (total_at place c.args.self.now.entries) (total_at place es)) other)
    (c.advance.ensures.window ∙ ap (λ (t : Table). t.window) c.self.view_is)
    (c.advance.ensures.hour
    ∙ ap (λ (t : Table). max t.hour c.other.inside.hour) c.self.view_is ∙ ap (λ (t : Table). max c.args.self.now.hour t.hour) c.other.view_is)
    c.advance.ensures.entries
    c.advance.ensures.ascending
