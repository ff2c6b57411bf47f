-- The first record in some bytes.
use Rattle.std.proofs.Common.{◌≡◌, ℕ, Bool, true, false, List, [], ◌∷◌, Option, Some, None, inl, refl, ap, sym, subst, ◌∙◌}
use Rattle.ldm_rpc.specs.declared.fault.RpcFault.{RpcFault}
use Rattle.ldm_rpc.specs.declared.fault.RpcFault.TheVariants.{TooLong as too_long}
use Rattle.ldm_rpc.specs.declared.stage.Stage.TheVariants.{Faulty}
use Rattle.ldm_rpc.specs.Reading.{Reading, after, is_faulty, is_faulty_at, is_whole, is_whole_at, next_of, whole_of}
use Rattle.ldm_rpc.specs.Streams.{Position, given}
use Rattle.ldm_rpc.specs.Taking.{IsFaultOf}
use Rattle.ldm_watch.specs.declared.end.WatchEnd.TheVariants.{BadFrame}
use Rattle.ldm_watch.specs.declared.stop.Stop.TheVariants.{Over}
use Rattle.ldm_watch.specs.Taking.{Standing, found}
use Rattle.ldm_watch.specs.Turns.{TooLong, Cuts, first_of, behind}
use Rattle.ldm_watch.proofs.Followed.{takes-none}

found-of : (begins : ℕ) (r : Reading) (b : Bool) → is_whole r ≡ b → found begins (whole_of r) ≡ given begins r
found-of begins r true whole = rw whole refl
found-of begins r false not = rw not refl

pub found-first : (p : Position) (bytes : List ℕ) → found p.begins (whole_of (after p.reading bytes)) ≡ first_of p bytes
found-first p bytes = found-of p.begins (after p.reading bytes) (is_whole (after p.reading bytes)) refl

-- Bytes begin a record that is too long.
first-too_long : (p : Position) (bytes : List ℕ) (fault : RpcFault) (old : Standing) → (after p.reading bytes).stage ≡ Faulty fault
    → TooLong (Over (BadFrame p.begins)) (first_of p bytes) (behind p bytes) old old
first-too_long p bytes fault old faulty =
    let r = after p.reading bytes in
    let not : is_whole r ≡ false = ap is_whole_at faulty in
    let is : is_faulty r ≡ true = ap is_faulty_at faulty in
    record {
      takes = rw not (takes-none old);
      faulty = rw not is;
      stop_is = rw not refl;
    }

pub first-fault : (p : Position) (bytes : List ℕ) (new : Reading) (fault : RpcFault) (place : ℕ) → fault ≡ too_long place → IsFaultOf p.reading bytes new fault
    → (old : Standing) → Cuts (Over (BadFrame p.begins)) (first_of p bytes) (behind p bytes) old old
first-fault p bytes new fault place fault_is is old =
    let there = subst (λ (f : RpcFault). IsFaultOf p.reading bytes new f) fault_is is in
    inl (first-too_long p bytes (too_long place) old (ap (λ (s : Reading). s.stage) (sym there.0) ∙ there.1))

-- `next` leaves no complete record
next-ready_of : (r : Reading) (b : Bool) → is_whole r ≡ b → is_whole (next_of r) ≡ false
next-ready_of r true whole = rw whole refl
next-ready_of r false not = rw not not

pub next-ready : (r : Reading) → is_whole (next_of r) ≡ false
next-ready r = next-ready_of r (is_whole r) refl

next-sound_of : (r : Reading) (b : Bool) → is_whole r ≡ b → is_faulty r ≡ false → is_faulty (next_of r) ≡ false
next-sound_of r true whole sound = rw whole refl
next-sound_of r false not sound = rw not sound

pub next-sound : (r : Reading) → is_faulty r ≡ false → is_faulty (next_of r) ≡ false
next-sound r sound = next-sound_of r (is_whole r) refl sound
