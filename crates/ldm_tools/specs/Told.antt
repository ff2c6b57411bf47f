-- What writing the line of an answer does. No caller needs this.
use Rattle.std.specs.Prelude.{◌≡◌, Bool, true, false, Result, Ok, Err}
use Rattle.ldm_outside.specs.Count.{Rose}
use Rattle.ldm_outside.specs.Io.{SinkRecord, Takes, WritesFront}
use Rattle.ldm_relay.specs.declared.message.PutAnswer.{PutAnswer}
use Rattle.ldm_tools.specs.declared.put_fault.PutFault.{PutFault}
use Rattle.ldm_tools.specs.declared.put_fault.PutFault.TheVariants as fault
use Rattle.ldm_tools.specs.Lines.{is_denied, is_refused, put_line}

-- The line of an answer was written: all of it, or the sink failed after a front. That the caller may not insert has none.
abbrev pub TellsAnswer : Result Bool PutFault → PutAnswer → SinkRecord → SinkRecord → Type 0
TellsAnswer (Ok refused) answer old new = (is_denied answer ≡ false) × (refused ≡ is_refused answer) × Takes old (put_line answer) new
TellsAnswer (Err fault.SinkFault) answer old new = (is_denied answer ≡ false) × Rose old.faults new.faults × WritesFront old (put_line answer) new
TellsAnswer (Err fault.Denied) answer old new = (is_denied answer ≡ true) × (new ≡ old)
TellsAnswer (Err (fault.NoAnswer why)) answer old new = ⊥
