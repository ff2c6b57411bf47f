use Rattle.ldm_words.proofs.Parsing.{fails, parses}
use Rattle.ldm_words.proofs.command.parse.Goals as goal

pub returns-in-Ok : goal.returns-in-Ok
returns-in-Ok c = parses _ _ c.in-Ok.matches c.requires (c.in-Ok.ensures.kinds c.requires.simple) c.in-Ok.ensures.matches

pub returns-in-Err : goal.returns-in-Err
returns-in-Err c = rw (c.from.ensures, c.kind.ensures) (fails _ _ c.in-Err.error c.in-Err.ensures.passes)
