use Rattle.std.proofs.Common.{◌≡◌, ◌≤◌, ◌++◌, None, length, map, reverse, vec_len}
use Rattle.std.specs.Vec.{vec_capacity}
use Rattle.ldm_node.specs.Posts.{AreLast, clerk_behind, stations_of, stop_of}
use Rattle.ldm_node.specs.Stops.{first_stop, or_stop}
use Rattle.ldm_node.proofs.post.take_back.Given as goal

abbrev pub invariant-loop-post : goal.invariant-loop-post
invariant-loop-post g l = record {
  room : length (stations_of l.fn.posts.items) ≤ vec_capacity l.stations;
  stations : stations_of l.fn.posts.items ≡ l.stations.items ++ stations_of (reverse l.posts.items);
  clerk : clerk_behind None l.fn.posts.items ≡ clerk_behind None (reverse l.posts.items);
  last : AreLast (reverse l.posts.items);
  first : first_stop (map stop_of l.fn.posts.items) ≡ or_stop l.first (first_stop (map stop_of (reverse l.posts.items)));
}

abbrev pub decreases-loop-post : goal.decreases-loop-post
decreases-loop-post g l = vec_len l.posts
