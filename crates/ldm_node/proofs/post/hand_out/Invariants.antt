use Rattle.std.proofs.Common.{◌≡◌, ◌+◌, ◌<◌, ◌≤◌, ◌++◌, reverse, vec_len}
use Rattle.std.specs.Vec.{vec_capacity}
use Rattle.ldm_node.specs.Posts.{posts_of}
use Rattle.ldm_node.proofs.post.hand_out.Given as goal

abbrev pub invariant-loop-station : goal.invariant-loop-station
invariant-loop-station g l = record {
  posts_room : vec_len l.stations + vec_len l.posts < vec_capacity l.posts;
  stations_room : vec_len l.fn.stations ≤ vec_capacity l.stations;
  posts : posts_of l.fn.stations.items l.clerk ≡ l.posts.items ++ posts_of (reverse l.stations.items) l.clerk;
}

abbrev pub decreases-loop-station : goal.decreases-loop-station
decreases-loop-station g l = vec_len l.stations
