use Rattle.ldm_xdr.proofs.FieldsFound.{bytes_fit}
use Rattle.ldm_xdr.proofs.Faulty.{first_fault_found, spelling_is}
use Rattle.ldm_xdr.proofs.Refused.{first_fault_answered}
use Rattle.ldm_xdr.proofs.laws.finds_the_first_fault.Goals as goal

pub returns-clause-fields : goal.returns-clause-fields
returns-clause-fields c = spelling_is

pub returns-clause-first : goal.returns-clause-first
returns-clause-first c bytes fault are = (first_fault_found bytes fault (bytes_fit bytes are), first_fault_answered bytes fault)
