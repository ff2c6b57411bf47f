use Rattle.std.proofs.Common.{◌∙◌, rules}
use Rattle.ldm_shared.proofs.CallerLemmas.{made_are_all}
use Rattle.test_threads.proofs.shared.threads.run.Goals as goal

pub call_in_threads-requires-after_bounds : goal.call_in_threads-requires-after_bounds
call_in_threads-requires-after_bounds g c =
    let are = made_are_all c.in_ok-shared.shared c.deref_mut.result.now 8 (c.deref_mut.ensures.value ∙ c.in_ok-shared.ensures.made) c.in_ok-shared.ensures.sizes.2 in
    search rules
