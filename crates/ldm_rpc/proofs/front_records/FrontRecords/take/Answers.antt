use Rattle.ldm_rpc.proofs.Steps.{takes_byte}
use Rattle.ldm_rpc.proofs.front_records.FrontRecords.take.Goals as goal

pub returns-in-Header-clause-taken : goal.returns-in-Header-clause-taken
returns-in-Header-clause-taken c = takes_byte c.args.self.now c.take_header_byte.new.self c.args.piece.now c.requires.unended c.requires.some c.take_header_byte.ensures
