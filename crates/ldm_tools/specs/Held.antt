-- What asking over a link that came does. No caller needs this.
use Rattle.std.specs.Prelude.{Option, Result}
use Rattle.ldm_outside.specs.Dial.{DialRecord, DialTakesBack}
use Rattle.ldm_outside.specs.Io.{SinkRecord}
use Rattle.ldm_outside.specs.Link.{LinkRecord, IsNotClosed}
use Rattle.ldm_model.specs.declared.stat.Stat.{Stat}
use Rattle.ldm_tools.specs.declared.mon.MonFault.{MonFault}
use Rattle.ldm_tools.specs.declared.no_reply.NoReply.{NoReply}
use Rattle.ldm_tools.specs.Asking.{Asks}
use Rattle.ldm_tools.specs.Mon.{TellsStat, stat_call}
use Rattle.ldm_tools.specs.Replies.{IsStatReply}

pub record HoldsStat (result : Result (Unit {0}) MonFault) (came : LinkRecord) (lent new_net : DialRecord) (old_sink new_sink : SinkRecord) : Type 0 where
  pub asked : Result (Option Stat) NoReply
  pub left : LinkRecord
  pub asks : Asks (IsStatReply 1) asked stat_call came left
  pub not_closed : IsNotClosed left
  pub given_back : DialTakesBack left lent new_net
  pub tells : TellsStat result asked old_sink new_sink
