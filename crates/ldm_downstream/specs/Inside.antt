-- What a receiver keeps.
use Rattle.ldm_downstream.specs.declared.receiver.Receiver.TheInside.{Inside}
use Rattle.ldm_downstream.specs.Received.{GoesOnAt}
use Rattle.ldm_downstream.specs.ReceiverView.{ReceiverView}

abbrev pub receiver_of : Inside → ReceiverView
receiver_of r = record { receiving = r.stream.receiving; hand = r.stream.hand; owes = r.owes; end = r.end }

-- where it is not over, what is in hand does not end it
abbrev pub IsKept : Inside → Type 0
IsKept r = GoesOnAt r.end r.stream.hand
