use Rattle.ldm_wmo.proofs.Held.{cause}
use Rattle.ldm_wmo.proofs.Whole.{items_joined, told, whole}
use Rattle.ldm_wmo.specs.Streams.{items_of}
use Rattle.ldm_wmo.specs.Runs.{bytes_of, steps_of}
use Rattle.ldm_wmo.proofs.ingest_laws.what_is_told_of_bulletins.Goals as goal

pub returns-clause-turns : goal.returns-clause-turns
returns-clause-turns c = λ all turns old new each.
    let w = whole all turns old new each in
    (w.read, told all (items_of all.framing (bytes_of turns)) (steps_of turns) old.moment new.moment w.taken)

pub returns-clause-items : goal.returns-clause-items
returns-clause-items c = told

pub returns-clause-behind : goal.returns-clause-behind
returns-clause-behind c = items_joined

pub returns-clause-causes : goal.returns-clause-causes
returns-clause-causes c = cause
