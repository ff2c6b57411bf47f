-- What is read behind the header of another procedure than PUT is no PUT.
use Rattle.std.proofs.Common.{◌≡◌, ◌≢◌, ℕ, List, [], ◌∷◌, Option, Some, None, Result, Ok, Err, refl, ◌∙◌, sym}
use Rattle.ldm_relay.specs.declared.fault.RelayFault.{RelayFault}
use Rattle.ldm_relay.specs.declared.procedure.Procedure.{Procedure}
use Rattle.ldm_relay.specs.declared.procedure.Procedure.TheVariants as procedure
use Rattle.ldm_relay.specs.declared.message.TheConstants.{LARGEST_BLOCK}
use Rattle.ldm_relay.specs.Sent.{Sent}
use Rattle.ldm_relay.specs.Sent as sent
use Rattle.ldm_types.specs.Info.{Metadata}
use Rattle.ldm_xdr.specs.Fields.{◌>>=◌, unsigned_in, fixed_in, opaque_in}
use Rattle.ldm_xdr.specs.Reading.{info_in}
use Rattle.ldm_relay.specs.Classes.{class_in}
use Rattle.ldm_relay.specs.Calls.{call_in, feedme_in, hiya_in, product_in, hereis_in, put_in, comingsoon_in, blkdata_in, notifyme_in, notification_in}
use Rattle.ldm_relay.specs.Reading.{whole, or_at}

-- the procedure that a call calls
abbrev procedure_said : Sent → Option Procedure
procedure_said (sent.Hereis xid info body) = Some procedure.Hereis
procedure_said (sent.Feedme xid class max_hereis) = Some procedure.Feedme
procedure_said (sent.Hiya xid class) = Some procedure.Hiya
procedure_said (sent.Comingsoon xid info block_size) = Some procedure.Comingsoon
procedure_said (sent.Blkdata xid signature number block) = Some procedure.Blkdata
procedure_said (sent.Isalive xid) = Some procedure.Isalive
procedure_said (sent.Qstat xid) = Some procedure.Qstat
procedure_said (sent.Put xid info body) = Some procedure.Put
procedure_said (sent.Notification xid info) = Some procedure.Notification
procedure_said (sent.Notifyme xid class) = Some procedure.Notifyme
procedure_said _ = None

-- what is read is a call of that procedure
abbrev Says : Procedure → Result (Sent × List ℕ) ℕ → Type 0
Says p (Ok x) = procedure_said x.0 ≡ Some p
Says p (Err bad) = Unit {0}

behind : {A : Type 0} (p : Procedure) (r : Result A ℕ) (f : A → Result (Sent × List ℕ) ℕ) → ((x : A) → Says p (f x)) → Says p (r >>= f)
behind p (Ok x) f each = each x
behind p (Err bad) f each = tt

body_says : (p : Procedure) (xid : ℕ) (left : List ℕ) → Says p (call_in p xid left)
unfolding feedme_in hiya_in hereis_in put_in comingsoon_in blkdata_in notifyme_in notification_in
body_says procedure.Hereis xid left = behind procedure.Hereis (product_in left) _ (λ product. refl)
body_says procedure.Feedme xid left = behind procedure.Feedme (class_in left) _ (λ class. behind procedure.Feedme (unsigned_in class.1) _ (λ number. refl))
body_says procedure.Hiya xid left = behind procedure.Hiya (class_in left) _ (λ class. refl)
body_says procedure.Comingsoon xid left = behind procedure.Comingsoon (info_in left) _ (λ info. behind procedure.Comingsoon (unsigned_in info.1) _ (λ number. refl))
body_says procedure.Blkdata xid left =
    behind procedure.Blkdata (fixed_in 16 left) _ (λ signature. behind procedure.Blkdata (unsigned_in signature.1) _ (λ number.
    behind procedure.Blkdata (opaque_in LARGEST_BLOCK number.1) _ (λ block. refl)))
body_says procedure.Isalive xid left = refl
body_says procedure.Qstat xid left = refl
body_says procedure.Put xid left = behind procedure.Put (product_in left) _ (λ product. refl)
body_says procedure.Notification xid left = behind procedure.Notification (info_in left) _ (λ info. refl)
body_says procedure.Notifyme xid left = behind procedure.Notifyme (class_in left) _ (λ class. refl)

whole_says : (p : Procedure) (fault : ℕ → RelayFault) (bytes : List ℕ) (body : Result (Sent × List ℕ) ℕ) (m : Sent) → Says p body
    → or_at fault bytes (whole body) ≡ Ok m → procedure_said m ≡ Some p
unfolding whole
whole_says p fault bytes (Ok (x, [])) m says e = let same : x ≡ m = cc in rw (← same) says
whole_says p fault bytes (Ok (x, byte ∷ left)) m says e = absurd cc
whole_says p fault bytes (Err bad) m says e = absurd cc

pub no_put : (p : Procedure) (fault : ℕ → RelayFault) (bytes left : List ℕ) (xid number : ℕ) (info : Metadata) (body : List ℕ) → p ≢ procedure.Put
    → or_at fault bytes (whole (call_in p number left)) ≡ Ok (sent.Put xid info body) → ⊥
no_put p fault bytes left xid number info body other e =
    let said = whole_says p fault bytes (call_in p number left) (sent.Put xid info body) (body_says p number left) e in
    other cc
