-- What it comes to that a product is handled, as deeds.
use Rattle.std.specs.Prelude.{ℕ}
use Rattle.ldm_sender.specs.Deeds.{Deed, and_then, calling, records_of}
use Rattle.ldm_sender.specs.Turn.{Kind, let_go}

-- what is done with it, between the step that gives it and its release
abbrev pub handling_deed : {P H : Type 0} → Kind P H → ℕ → ℕ → ℕ → P → H → Deed
handling_deed kind actor k next given handling = record {
  entries = kind.entries actor k given handling;
  bytes = records_of (kind.messages next given handling);
  instants = kind.instants handling;
}

-- and its release
abbrev pub product_deed : {P H : Type 0} → Kind P H → ℕ → ℕ → ℕ → P → H → Deed
product_deed kind actor k next given handling = and_then (handling_deed kind actor k next given handling)
    (calling (let_go actor k (kind.row given)))
