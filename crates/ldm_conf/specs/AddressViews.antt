-- What an `Address` of the code stands for.
use Rattle.std.specs.Prelude.{ℕ, List}
use Rattle.std.specs.Borrow.{Bor}
use Rattle.ldm_conf.specs.declared.address.Address as code
use Rattle.ldm_conf.specs.Addresses.{Address}

abbrev pub address_view : code.Address → Address
address_view address = record { host = address.host.items; port = address.port }

-- the two halves of a text that references lend
abbrev pub halves_of : Bor (List ℕ) × Bor (List ℕ) → List ℕ × List ℕ
halves_of halves = (halves.0.now, halves.1.now)
