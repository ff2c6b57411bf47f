use Rattle.std.proofs.Common.{inl, refl}
use Rattle.ldm_chain.proofs.feeding.feed_next.Goals as goal

pub returns-in-Err-clause-broken : goal.returns-in-Err-clause-broken
returns-in-Err-clause-broken g c = inl (refl, refl)
