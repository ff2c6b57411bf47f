use Rattle.std.proofs.Common.{sym}
use Rattle.ldm_tools.proofs.Heard.{shows, shows_long, shows_some}
use Rattle.ldm_tools.proofs.reader.LinkReader.look.Goals as goal

pub returns-in-Ok-clause-shows : goal.returns-in-Ok-clause-shows
returns-in-Ok-clause-shows c = λ given heard h.
    shows given heard c.args.self.now c.push.new.self c.requires h c.in-Ok.ensures c.is_whole.result (sym c.is_whole.ensures)

pub returns-in-Err-TooLong-clause-shows : goal.returns-in-Err-TooLong-clause-shows
returns-in-Err-TooLong-clause-shows c = λ given heard h.
    let long = rw c.in-Err-TooLong.field-0-is at c.in-Err-TooLong.ensures in
    shows_long given heard c.args.self.now c.push.new.self c.requires h c.in-Err-TooLong.field-0-0 long.0 long.1

pub returns-in-Err-OutOfMemory-clause-shows : goal.returns-in-Err-OutOfMemory-clause-shows
returns-in-Err-OutOfMemory-clause-shows c = λ given heard h. shows_some given heard c.args.self.now c.push.new.self c.requires h
