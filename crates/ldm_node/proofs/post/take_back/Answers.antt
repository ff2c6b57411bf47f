use Rattle.std.proofs.Common.{◌≡◌, ◌∙◌, ◌++◌, ◌∷◌, [], None, length, map, reverse, ap, subst, sym, arith}
use Rattle.std.specs.Option.{option_to_list}
use Rattle.std.proofs.lemmas.List.{length-append}
use Rattle.ldm_node.specs.declared.stop.NodeStop.{NodeStop}
use Rattle.ldm_node.specs.Posts.{AreLast, clerk_behind, stations_of, stop_of}
use Rattle.ldm_node.specs.Stops.{first_stop, or_stop}
use Rattle.ldm_node.proofs.Posting.{clerk_taken, last_taken, one_taken}
use Rattle.ldm_node.proofs.Turned.{stop_turned}
use Rattle.ldm_node.proofs.post.take_back.Goals as goal

pub put_station-requires : goal.put_station-requires
put_station-requires g c =
    let l = c.loop-post in
    let posts = c.pop.new.self.items in
    let post = c.in-Some.post in
    let e : l.posts.items ≡ posts ++ post ∷ [] = c.in-Some.ensures.items in
    let t = l.invariant.stations ∙ ap (λ ps. l.stations.items ++ stations_of (reverse ps)) e ∙ one_taken l.stations.items posts post in
    let o = option_to_list post.station in
    omega (
      arith,
      ap length t,
      length-append (l.stations.items ++ o) (stations_of (reverse posts)),
      length-append l.stations.items o,
      l.invariant.room,
      l.stations.ok,
    )

pub loop-post-preserved : goal.loop-post-preserved
loop-post-preserved g c =
    let l = c.loop-post in
    let i = l.invariant in
    let posts = c.pop.new.self.items in
    let post = c.in-Some.post in
    let e : l.posts.items ≡ posts ++ post ∷ [] = c.in-Some.ensures.items in
    let none : post.clerk ≡ None = c.in-None.is in
    record {
      room = omega (arith, i.room, c.put_station.ensures.room);
      stations =
          i.stations ∙ ap (λ ps. l.stations.items ++ stations_of (reverse ps)) e ∙ one_taken l.stations.items posts post
          ∙ ap (λ xs. xs ++ stations_of (reverse posts)) (sym c.put_station.ensures.items);
      clerk = i.clerk ∙ ap (λ ps. clerk_behind None (reverse ps)) e ∙ clerk_taken posts post none;
      last = last_taken posts post (subst (λ ps. AreLast (reverse ps)) e i.last);
      first =
          i.first ∙ ap (λ ps. or_stop l.first (first_stop (map stop_of (reverse ps)))) e ∙ stop_turned stop_of l.first posts post
          ∙ ap (λ (s : NodeStop). or_stop s (first_stop (map stop_of (reverse posts)))) (sym c.or_stop-first.ensures);
    }
