use Rattle.std.proofs.Common.{◌≡◌, ◌≤◌, drop, filter, length}
use Rattle.ldm_model.specs.State.{State, queued}
use Rattle.ldm_book.specs.Stands.{StandsFor}
use Rattle.ldm_shared.specs.Passes.{HasSeen, IsSamePass}
use Rattle.ldm_between_ends.specs.OnePass.{state_of}
use Rattle.ldm_chain.specs.Listing.{has_feed, listed}
use Rattle.ldm_chain.specs.Putting.{inserted_all}
use Rattle.ldm_chain.proofs.putting.put_products.Given as goal

abbrev pub invariant-loop-i : goal.invariant-loop-i
invariant-loop-i g l = record {
  same : IsSamePass l.fn.pass l.pass;
  seen : HasSeen l.pass;
  few : length l.pass.seen ≤ l.i;
  inside : (s : State) → StandsFor l.book s → length l.pass.seen ≤ length (queued s);
  put : (s : State) → StandsFor l.book s → inserted_all (filter has_feed (drop l.i (queued s))) (state_of l.pass) ≡ inserted_all (listed s) (state_of l.fn.pass);
}
