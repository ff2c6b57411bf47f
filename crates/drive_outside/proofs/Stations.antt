-- The last of new stations has a door of which no link is out.
use Rattle.std.specs.Prelude.{◌≡◌, ℕ, suc, List, [], ◌∷◌, ◌++◌, All, Option, Some, None, IfSome, option_to_list}
use Rattle.std.proofs.Common.{false, arith}
use Rattle.ldm_outside.specs.declared.net.Station.{Station}
use Rattle.ldm_outside.specs.Station.{IsNew}
use Rattle.ldm_adapters.specs.declared.clock.RealClock.{RealClock}
use Rattle.ldm_adapters.specs.declared.dials.RealDial.{RealDial}
use Rattle.ldm_adapters.specs.declared.doors.RealDoor.{RealDoor}
use Rattle.ldm_adapters.specs.declared.gate.RealGate.{RealGate}
use Rattle.ldm_adapters.specs.declared.streams.RealSink.{RealSink}
use Rattle.ldm_adapters.specs.Told.{told_by_door, told_by_station}

All-last : {X : Type 0} (P : X → Type 0) → (xs : List X) (x : X) → All P (xs ++ x ∷ []) → P x
All-last P [] x all = all 0 x (omega arith)
All-last P (y ∷ ys) x all = All-last P ys x (λ k d less. all (suc k) d (omega arith))

pub unlent_last : {W : Type 0} → (result : Option (Station RealDoor RealDial (RealSink W) RealClock RealGate))
    → (items rest : List (Station RealDoor RealDial (RealSink W) RealClock RealGate)) (idles : Option ℕ)
    → items ≡ rest ++ option_to_list result → All (λ one. IsNew idles (told_by_station one)) items
    → IfSome result (λ one. (told_by_door one.door).links.out ≡ false)
unlent_last (Some one) items rest idles is new =
    (All-last (λ one. IsNew idles (told_by_station one)) rest one (rw is at new)).door.2.out
unlent_last None items rest idles is new = tt
