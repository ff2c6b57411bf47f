-- What a net gives.
use Rattle.std.specs.Prelude.{◌≡◌, ℕ, All, Option, vec_len}
use Rattle.ldm_outside.specs.declared.net.Manned.{Manned}
use Rattle.ldm_outside.specs.declared.net.Manned.TheVariants.{Stations, Failed, OutOfMemory}
use Rattle.ldm_outside.specs.Count.{Rose}
use Rattle.ldm_outside.specs.Dial.{DialRecord}
use Rattle.ldm_outside.specs.Station.{StationRecord, IsNew}

module _ {S : Type 0} (tells : S → StationRecord) where
  -- What one call of `stations` did, for so many stations whose gates are to stop after so many idle calls.
  abbrev pub StationsGive : Manned S → ℕ → Option ℕ → DialRecord → DialRecord → Type 0
  -- as many stations, and all of them new
  StationsGive (Stations stations) count idles old new =
      (vec_len stations ≡ count) × All (λ station. IsNew idles (tells station)) stations.items × (new ≡ old)
  -- the net failed
  StationsGive Failed count idles old new = Rose old.faults new.faults × (new ≡ record old { faults = new.faults })
  StationsGive OutOfMemory count idles old new = new ≡ old
