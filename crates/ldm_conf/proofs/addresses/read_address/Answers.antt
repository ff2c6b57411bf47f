use Rattle.std.proofs.Common.{sym}
use Rattle.ldm_conf.specs.Addresses.{address_of}
use Rattle.ldm_conf.proofs.addresses.read_address.Goals as goal

pub returns-in-Some : goal.returns-in-Some
unfolding address_of
returns-in-Some c = rw (sym c.in-Some.ensures, sym c.read_port.ensures.value) c.with_port.ensures

pub returns-in-None : goal.returns-in-None
unfolding address_of
returns-in-None c = rw (sym c.in-None.ensures) c.at_port.ensures
