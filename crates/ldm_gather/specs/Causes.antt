-- What stands in the outside at an end of a gathering, by counts.
use Rattle.std.specs.Prelude.{◌≡◌, [], IfSome}
use Rattle.ldm_outside.specs.Count.{Rose}
use Rattle.ldm_outside.specs.Link.{LinkRecord}
use Rattle.ldm_intake.specs.declared.end.RecvEnd.TheVariants.{Ended, Truncated, BadFrame, Refused, LinkFault, LogFault, StreamLimit, Worn, OutOfMemory}
use Rattle.ldm_gather.specs.declared.end.GatherEnd.{GatherEnd}
use Rattle.ldm_gather.specs.declared.end.GatherEnd.TheVariants.{Received, Enough, Stopped}
use Rattle.ldm_gather.specs.Scene.{Lent}

-- the link said that the stream is at its end, and has nothing left
abbrev pub LinkHasEnded : LinkRecord → LinkRecord → Type 0
LinkHasEnded old new = Rose old.ends new.ends × IfSome new.left (λ rest. rest ≡ [])

-- At an end that is by the receiver or the handler alone, `EndsBy` says all.
abbrev pub HasCause : {W A B : Type 0} → GatherEnd → Lent W A B → Lent W A B → Type 0
HasCause (Received Ended) old new = LinkHasEnded old.link new.link
HasCause (Received (Truncated at)) old new = LinkHasEnded old.link new.link
HasCause (Received LinkFault) old new = Rose old.link.faults new.link.faults
HasCause (Received LogFault) old new = Rose old.scene.log.faults new.scene.log.faults
HasCause (Received (BadFrame at)) old new = Unit {0}
HasCause (Received (Refused answer)) old new = Unit {0}
HasCause (Received StreamLimit) old new = Unit {0}
HasCause (Received Worn) old new = Unit {0}
HasCause (Received OutOfMemory) old new = Unit {0}
HasCause Enough old new = Unit {0}
HasCause Stopped old new = Unit {0}
