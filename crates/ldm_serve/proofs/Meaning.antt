-- Where a record asks to be fed, or to be told of products, each pattern of its class means something.
use Rattle.std.proofs.Common.{◌≡◌, ℕ, Bool, true, false, List, Option, Some, None, refl}
use Rattle.std.specs.Prelude.{if◌then◌else◌, is_none}
use Rattle.ldm_types.specs.declared.class.ClassSpec.{ClassSpec}
use Rattle.ldm_class.specs.Access.{reduce}
use Rattle.ldm_class.specs.Classes.{bad_place}
use Rattle.ldm_class.specs.Rules.{rules_for}
use Rattle.ldm_class.specs.declared.answers.Reduced.{Reduced}
use Rattle.ldm_class.specs.declared.answers.Reduced.TheVariants.{Same, Fewer, Nothing}
use Rattle.ldm_relay.specs.Sent.{Sent}
use Rattle.ldm_relay.specs.Sent as sent
use Rattle.ldm_relay.specs.declared.fault.RelayFault.{RelayFault}
use Rattle.ldm_relay.specs.declared.fault.RelayFault.TheVariants.{NotRpc, WrongProgram, WrongProcedure, BadMessage}
use Rattle.ldm_serve.specs.Access.{may_know, may_push}
use Rattle.ldm_serve.specs.Client.{Client}
use Rattle.ldm_serve.specs.Respond.{means_all, respond, to_call, to_fault, to_offer}
use Rattle.ldm_serve.specs.Response.{Response, Says, Feeds, Notifies}
use Rattle.ldm_serve.specs.Responds.{HasMeaning, goes_on}
use Rattle.ldm_serve.proofs.Cases.{each_response}

asked : (class : ClassSpec) (one : Response) (said : List Sent) → (bad_place class.specs.items ≡ None → HasMeaning (goes_on one))
    → HasMeaning (goes_on (if means_all class then one else Says said))
asked class one said means =
    elim (bad_place class.specs.items) as (λ (place : Option ℕ). bad_place class.specs.items ≡ place → HasMeaning (goes_on (if is_none place then one else Says said))) [
      | None ↦ means
      | Some place ↦ λ _. tt
    ] refl

offered : (xid : ℕ) (class : ClassSpec) (left : Reduced) → HasMeaning (goes_on (to_offer xid class left))
offered xid class Same = tt
offered xid class (Fewer fewer) = tt
offered xid class (Nothing rule) = tt

chosen : (test : Bool) (one other : Response) → HasMeaning (goes_on one) → HasMeaning (goes_on other) → HasMeaning (goes_on (if test then one else other))
chosen true one other first second = first
chosen false one other first second = second

module _ (client : Client) where
  called : (call : Sent) → HasMeaning (goes_on (to_call client.rules client.host call))
  called (sent.Feedme xid class max_hereis) = asked class (Feeds xid class max_hereis) _ (λ none. none)
  called (sent.Notifyme xid class) = asked class (Notifies xid class) _ (λ none. none)
  called (sent.Hiya xid class) = asked class (to_offer xid class (reduce (rules_for true client.rules) client.host class)) _ (λ _. offered xid class (reduce (rules_for true client.rules) client.host class))
  called (sent.Put xid info body) = chosen (may_push client.rules client.host info) _ _ tt tt
  called (sent.Qstat xid) = chosen (may_know client.rules client.host) _ _ tt tt
  called (sent.Isalive xid) = tt
  called _ = tt

  faulty : (fault : RelayFault) → HasMeaning (goes_on (to_fault fault))
  faulty (WrongProcedure xid procedure) = tt
  faulty (WrongProgram xid program version) = tt
  faulty (BadMessage xid at) = tt
  faulty (NotRpc at) = tt

  -- whatever a record has
  pub responds_with_meaning : (content : List ℕ) → HasMeaning (goes_on (respond client content))
  responds_with_meaning = each_response client (λ (response : Response). HasMeaning (goes_on response)) called faulty (λ xid answer. tt) tt
