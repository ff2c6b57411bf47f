-- The messages of a feed behind the reply to its request: each is a call, and an announcement among them has a number that fits.
use Rattle.std.proofs.Common.{◌≡◌, ℕ, ◌^◌, ◌<◌, List, Result, Ok, refl, sym, subst, ◌∙◌, arith}
use Rattle.ldm_types.specs.Info.{Metadata}
use Rattle.ldm_relay.specs.declared.fault.RelayFault.{RelayFault}
use Rattle.ldm_relay.specs.Fits.{Fits}
use Rattle.ldm_relay.specs.Reading.{Kind, Call, call_of, kind_of, read_as}
use Rattle.ldm_relay.specs.Sent.{Sent}
use Rattle.ldm_relay.specs.Sent as sent
use Rattle.ldm_relay.specs.Spelling.{written}
use Rattle.ldm_between_ends.proofs.EachMessage.{HoldsOfEach}
use Rattle.ldm_between_ends.proofs.Following.{info-fits}
use Rattle.ldm_between_ends.proofs.Messages.{Again}

-- a call that can be written
pub record IsCall (m : Sent) : Type 0 where
  pub fits : Fits m
  pub call : kind_of m ≡ Call

-- where an announcement is read, its number fits
abbrev pub NumberFits : List ℕ → Type 0
NumberFits content = (xid : ℕ) (info : Metadata) (size : ℕ) → call_of content ≡ Ok (sent.Comingsoon xid info size) → xid < 2 ^ 32

pub number-fits : Again → (m : Sent) → IsCall m → NumberFits (written m)
number-fits again m is xid info size found =
    let read : call_of (written m) ≡ Ok m = subst (λ (k : Kind). read_as k (written m) ≡ Ok m) is.call (again m is.fits) in
    let both : ◌≡◌ {A = Result Sent RelayFault} (Ok m) (Ok (sent.Comingsoon xid info size)) = sym read ∙ found in
    let same : m ≡ sent.Comingsoon xid info size = cc both in
    (subst Fits same is.fits).0

pub each-call : HoldsOfEach IsCall
each-call = record {
  alive = λ next number. record { fits = number; call = refl };
  whole = λ next given number sound. record { fits = (number, info-fits given sound, sound.sized); call = refl };
  announced = λ next given number sound. record { fits = (number, info-fits given sound, omega arith); call = refl };
  block = λ next i signature block number few signed short. record { fits = (number, signed, few, short); call = refl };
}
