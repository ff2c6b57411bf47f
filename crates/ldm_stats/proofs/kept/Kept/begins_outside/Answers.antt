use Rattle.ldm_stats.proofs.Outside.{outside}
use Rattle.ldm_stats.proofs.kept.Kept.begins_outside.Goals as goal

pub returns-in-Some-clause-outside : goal.returns-in-Some-clause-outside
returns-in-Some-clause-outside c =
    rw (c.hour.ensures.value, ← c.self.view_is)
    (outside c.args.window c.args.hour c.self.inside.map.entries (c.in-Some.place.now, c.in-Some.field-0-1.now) c.in-Some.ensures.first c.in-Some.ensures.all_from)
