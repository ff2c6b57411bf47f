use Rattle.ldm_types.specs.declared.limits.TheConstants.{LONGEST_ORIGIN, LONGEST_IDENT}
use Rattle.ldm_answers.specs.TextReads.{text_of}
use Rattle.ldm_answers.proofs.Fitting.{texts_fit}
use Rattle.ldm_script.proofs.line.read_details.Goals as goal

pub returns-clause-fit : goal.returns-clause-fit
returns-clause-fit c =
    texts_fit (text_of LONGEST_ORIGIN c.in_ok-origin.origin) (text_of LONGEST_IDENT c.in_ok-ident.ident) c.in_ok-origin.ensures.short c.in_ok-ident.ensures.short
    c.in_ok-origin.ensures.no_nul c.in_ok-ident.ensures.no_nul
