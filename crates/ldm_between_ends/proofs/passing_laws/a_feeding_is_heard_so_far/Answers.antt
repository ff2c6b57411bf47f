use Rattle.ldm_between_ends.proofs.Hearing.{bytes-heard, codes-heard, feeding-heard, granted-heard}
use Rattle.ldm_between_ends.proofs.passing_laws.a_feeding_is_heard_so_far.Goals as goal

pub returns-clause-feeding : goal.returns-clause-feeding
returns-clause-feeding c = feeding-heard

pub returns-clause-granted : goal.returns-clause-granted
returns-clause-granted c = granted-heard

pub returns-clause-codes : goal.returns-clause-codes
returns-clause-codes c = codes-heard

pub returns-clause-bytes : goal.returns-clause-bytes
returns-clause-bytes c = bytes-heard
