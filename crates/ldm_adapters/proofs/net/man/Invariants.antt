-- So many stations are made, each is new, and there is room for the others.
use Rattle.std.proofs.Common.{◌≡◌, All, vec_len, vec_capacity}
use Rattle.ldm_outside.specs.Station.{IsNew}
use Rattle.ldm_adapters.specs.Told.{told_by_station}
use Rattle.ldm_adapters.proofs.net.man.Given as goal

abbrev pub invariant-loop : goal.invariant-loop
invariant-loop l =
    (vec_len l.made ≡ l.counter)
    × All (λ one. IsNew l.idles (told_by_station one)) l.made.items
    × (vec_capacity l.made ≡ l.count)
