use Rattle.std.proofs.Common.{◌∙◌, rules}
use Rattle.ldm_shared.proofs.CallerLemmas.{made_are_all}
use Rattle.drive_sessions.proofs.crowd.told_by_all.Goals as goal

pub run-requires : goal.run-requires
run-requires g c =
    let are = made_are_all c.in_ok-shared.shared c.deref_mut.result.now 6 (c.deref_mut.ensures.value ∙ c.in_ok-shared.ensures.made) c.in_ok-shared.ensures.sizes.2 in
    search rules
