-- What watching over a link that came does. No caller needs this.
use Rattle.ldm_outside.specs.Dial.{DialRecord, DialTakesBack}
use Rattle.ldm_outside.specs.Io.{SinkRecord}
use Rattle.ldm_outside.specs.Link.{LinkRecord, IsNotClosed}
use Rattle.ldm_watch.specs.declared.end.WatchEnd.{WatchEnd}
use Rattle.ldm_watch.specs.Complete.{Completes}
use Rattle.ldm_watch.specs.Sought.{Sought}
use Rattle.ldm_watch.specs.Watches.{Watches}

pub record Holds (end : WatchEnd) (sought : Sought) (came : LinkRecord) (lent new_net : DialRecord) (old_sink new_sink : SinkRecord) : Type 0 where
  pub left : LinkRecord
  pub watches : Watches end sought (record { link = came; sink = old_sink }) (record { link = left; sink = new_sink })
  pub completes : Completes end sought (record { link = came; sink = old_sink }) (record { link = left; sink = new_sink })
  pub not_closed : IsNotClosed left
  pub given_back : DialTakesBack left lent new_net
