use Rattle.ldm_model.proofs.RoomKept.{room-kept, locked}
use Rattle.ldm_model.proofs.laws.evictions_make_room.Goals as goal

pub returns-clause-kept : goal.returns-clause-kept
returns-clause-kept c = room-kept

pub returns-clause-locked : goal.returns-clause-locked
returns-clause-locked c = locked
