use Rattle.ldm_rpc.proofs.Spelled.{taken_record}
use Rattle.ldm_rpc.proofs.Contents.{record_whole, records_out, in_hand_records}
use Rattle.ldm_rpc.proofs.laws.records_are_read.Goals as goal

pub returns : goal.returns
returns c = record { whole = record_whole; taken = taken_record; records = records_out; in_hand = in_hand_records }
