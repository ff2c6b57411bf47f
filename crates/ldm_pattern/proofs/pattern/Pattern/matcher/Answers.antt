use Rattle.ldm_pattern.proofs.Meanings.{means_what_is_built}
use Rattle.ldm_pattern.proofs.pattern.Pattern.matcher.Goals as goal

pub invariant_of-result : goal.invariant_of-result
invariant_of-result c =
    let built = c.self.invariant in
    rw (c.in_ok-search.ensures.pattern, ← c.self.view_is) (means_what_is_built c.self.inside.regex built.utf8 built.config built.read)
