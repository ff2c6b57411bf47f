-- Records that are taken one behind the other.
use Rattle.std.proofs.Common.{◌≡◌, ℕ, List, [], ◌++◌, Option, Some, None, refl, ap, sym, subst, ◌∙◌}
use Rattle.ldm_rpc.specs.Streams.{Placed}
use Rattle.ldm_watch.specs.declared.end.WatchEnd.{WatchEnd}
use Rattle.ldm_watch.specs.declared.stop.Stop.{Stop}
use Rattle.ldm_watch.specs.declared.stop.Stop.TheVariants.{Over, OutOfMemory}
use Rattle.ldm_watch.specs.Taking.{Standing, IsAt, StopsBy, Takes, TakesAll}
use Rattle.ldm_watch.specs.Watched.{Watched, watched}
use Rattle.ldm_watch.proofs.Taken.{watched-append, watched-none, watched-ended}

pub takes-none : (a : Standing) → TakesAll [] a a
takes-none a t sent written is = subst (λ (u : Watched). IsAt u None sent written a) (sym (watched-none t)) is

pub takes-then : (first second : List Placed) (end : Option WatchEnd) (a b c : Standing) → TakesAll first a b → Takes second end b c → Takes (first ++ second) end a c
takes-then first second end a b c one other t sent written is =
    subst (λ (u : Watched). IsAt u end sent written c) (sym (watched-append t first second)) (other (watched t first) sent written (one t sent written is))

pub takes-same : (first second : List Placed) (end : Option WatchEnd) (a b : Standing) → first ≡ second → Takes first end a b → Takes second end a b
takes-same first second end a b same takes = subst (λ (records : List Placed). Takes records end a b) same takes

-- what ended it ends it still
pub takes-ended : (first second : List Placed) (end : WatchEnd) (a b : Standing) → Takes first (Some end) a b → Takes (first ++ second) (Some end) a b
takes-ended first second end a b takes t sent written is =
    let there = takes t sent written is in
    subst (λ (u : Watched). IsAt u (Some end) sent written b)
    (sym (watched-append t first second ∙ watched-ended (watched t first) end there.end_is second)) there

pub stops-then : (stop : Stop) (first second : List Placed) (a b c : Standing) → TakesAll first a b → StopsBy stop second b c → StopsBy stop (first ++ second) a c
stops-then (Over end) first second a b c one stops = takes-then first second (Some end) a b c one stops
stops-then OutOfMemory first second a b c one stops = tt

pub stops-more : (stop : Stop) (first second : List Placed) (a b : Standing) → StopsBy stop first a b → StopsBy stop (first ++ second) a b
stops-more (Over end) first second a b stops = takes-ended first second end a b stops
stops-more OutOfMemory first second a b stops = tt

pub stops-same : (stop : Stop) (first second : List Placed) (a b : Standing) → first ≡ second → StopsBy stop first a b → StopsBy stop second a b
stops-same stop first second a b same stops = subst (λ (records : List Placed). StopsBy stop records a b) same stops
