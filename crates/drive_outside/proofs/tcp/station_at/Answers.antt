use Rattle.drive_outside.proofs.Stations.{unlent_last}
use Rattle.drive_outside.proofs.tcp.station_at.Goals as goal

pub returns-in-Stations : goal.returns-in-Stations
returns-in-Stations c = unlent_last c.pop.result _ _ _ c.pop.ensures.items c.in-Stations.ensures.given.1
