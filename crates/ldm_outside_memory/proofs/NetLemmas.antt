-- Lemmas on the stations that a net in memory hands out.
use Rattle.std.proofs.Common.{◌≡◌, ◌∙◌, ℕ, ◌+◌, List, ◌++◌, take, drop, map, Option, get_or, All, refl, ap}
use Rattle.std.proofs.Math.Seq.{take-add}
use Rattle.std.proofs.lemmas.List.{map-append}
use Rattle.std.proofs.lemmas.List.Elements.{All-map}
use Rattle.ldm_outside_memory.specs.declared.mem_net.StationScript.{StationScript}
use Rattle.ldm_outside.specs.Lending.{IsUnlent}
use Rattle.ldm_outside.specs.Station.{IsNew}
use Rattle.ldm_outside_memory.specs.MemLending.{nothing_lent, told_by_lending}
use Rattle.ldm_outside_memory.specs.MemNet.{StationState, first_station, told_by_station}

-- one element more, which is the next
pub map-take-next : {A B : Type 0} (f : A → B) (xs : List A) (i : ℕ) → map f (take (i + 1) xs) ≡ map f (take i xs) ++ map f (take 1 (drop i xs))
map-take-next f xs i = ap (map f) (take-add i 1 xs) ∙ map-append f (take i xs) (take 1 (drop i xs))

-- a station at its beginning is new
IsNew-first : (idles : Option ℕ) (script : StationScript) → IsNew idles (told_by_station (first_station script))
IsNew-first idles script =
    let unlent : IsUnlent (told_by_lending nothing_lent) = record { out = refl; none_ended = refl; none_failed = refl; none_back = refl } in
    record { door = (refl, refl, unlent); dial = (refl, refl, unlent); log = (refl, refl); clock = refl; gate = (refl, refl); stopping = tt }

-- all stations at their beginning are new
pub All-IsNew-first : (idles : Option ℕ) (scripts : List StationScript) → All (λ (station : StationState). IsNew idles (told_by_station station)) (map first_station scripts)
All-IsNew-first idles scripts = All-map (λ (station : StationState). IsNew idles (told_by_station station)) first_station scripts (λ k script below. IsNew-first idles (get_or scripts k script))
