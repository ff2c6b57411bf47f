use Rattle.std.proofs.Common.{◌≤◌, ◌+◌, arith, length}
use Rattle.ldm_session.specs.declared.limits.TheConstants.{LONGEST_STREAM}
use Rattle.ldm_downstream.specs.Pieces.{beginning, joined}
use Rattle.ldm_downstream.proofs.Cut.{cut-records, cut-hand}
use Rattle.ldm_downstream.proofs.laws.pieces_make_no_difference.Goals as goal

pub returns-clause-records : goal.returns-clause-records
returns-clause-records c = λ pieces few. cut-records beginning pieces (let h : 0 + length (joined pieces) ≤ LONGEST_STREAM = omega arith in h)

pub returns-clause-in_hand : goal.returns-clause-in_hand
returns-clause-in_hand c = λ pieces few. cut-hand beginning pieces (let h : 0 + length (joined pieces) ≤ LONGEST_STREAM = omega arith in h)
