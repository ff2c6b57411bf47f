use Rattle.ldm_tools.proofs.InsertTelling.{cause, refused_cause, told_before, told_whole}
use Rattle.ldm_tools.proofs.laws.what_is_told_of_files.Goals as goal

pub returns-clause-whole : goal.returns-clause-whole
returns-clause-whole c = told_whole

pub returns-clause-before : goal.returns-clause-before
returns-clause-before c = told_before

pub returns-clause-refused : goal.returns-clause-refused
returns-clause-refused c = refused_cause

pub returns-clause-causes : goal.returns-clause-causes
returns-clause-causes c = cause
