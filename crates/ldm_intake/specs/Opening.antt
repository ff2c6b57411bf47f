-- How a receiving begins.
use Rattle.std.specs.Prelude.{ℕ, true, false, List, [], ◌∷◌, Option, Some, None}
use Rattle.ldm_types.specs.declared.class.ClassSpec.{ClassSpec}
use Rattle.ldm_class.specs.Rules.{Rules, rules_for}
use Rattle.ldm_relay.specs.Sent.{Sent}
use Rattle.ldm_relay.specs.Sent as sent
use Rattle.ldm_intake.specs.declared.phase.Phase.{Phase}
use Rattle.ldm_intake.specs.declared.phase.Phase.TheVariants.{Asked, Feeding}
use Rattle.ldm_intake.specs.Answered.{number_of_request}
use Rattle.ldm_class.specs.Asking.{asked_class}
use Rattle.ldm_intake.specs.Receiving.{Receiving}

-- The products of a class are asked for, behind the last one that was received.
abbrev pub requesting : ClassSpec → Option (List ℕ) → ℕ → Receiving
requesting class last max_hereis = record {
  wanting = record { class = class; policy = None };
  max_hereis = max_hereis;
  phase = Asked (asked_class class last) false;
  pending = None;
  last = last;
}

-- A host pushes products of a class, those that the ACCEPT rules let it push.
abbrev pub accepting : ClassSpec → Rules → List ℕ → Receiving
accepting class policy host = record {
  wanting = record { class = class; policy = Some (record { rules = rules_for true policy; host = host }) };
  max_hereis = 0;
  phase = Feeding;
  pending = None;
  last = None;
}

abbrev pub request_in : Phase → ℕ → List Sent
request_in (Asked class again) max_hereis = sent.Feedme (number_of_request again) class max_hereis ∷ []
request_in Feeding max_hereis = []

-- the FEEDME whose reply is owed, where one is
abbrev pub request_of : Receiving → List Sent
request_of s = request_in s.phase s.max_hereis
