use Rattle.ldm_rpc.proofs.Spelled.{too_long_fault, too_long_taken}
use Rattle.ldm_rpc.proofs.laws.too_long_at_the_header.Goals as goal

pub returns : goal.returns
returns c = record { fault = too_long_fault; taken = too_long_taken }
