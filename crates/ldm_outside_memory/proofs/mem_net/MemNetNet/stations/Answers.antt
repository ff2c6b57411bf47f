use Rattle.std.proofs.Common.{rules, List, take, All, sym, subst}
use Rattle.ldm_outside.specs.Station.{IsNew}
use Rattle.ldm_outside_memory.specs.MemNet.{StationState, told_by_station}
use Rattle.ldm_outside_memory.proofs.NetLemmas.{All-IsNew-first}
use Rattle.ldm_outside_memory.proofs.mem_net.MemNetNet.stations.Goals as goal

pub returns-clause-given : goal.returns-clause-given
returns-clause-given c =
    let P : List StationState → Type 0 = λ xs. All (λ station. IsNew c.args.idles (told_by_station station)) xs in
    (search rules, subst P (sym c.in-Some.ensures.taken) (All-IsNew-first c.args.idles (take c.args.count c.self.inside.ready.items)), search rules)
