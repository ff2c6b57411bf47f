use Rattle.std.proofs.Common.{◌≡◌, refl, sym, ap, ◌∙◌}
use Rattle.ldm_relay.specs.declared.fault.RelayFault.{RelayFault}
use Rattle.ldm_relay.specs.declared.fault.RelayFault.TheVariants.{NotRpc, WrongProgram, WrongProcedure, BadMessage}
use Rattle.ldm_serve.specs.declared.responded.Responded.TheVariants as responded
use Rattle.ldm_serve.specs.Respond.{refusals, to_fault}
use Rattle.ldm_serve.specs.Response.{Response, Says, Refuses}
use Rattle.ldm_serve.proofs.Giving.{given_at_once}
use Rattle.ldm_serve.proofs.refusing.refuse.Goals as goal

-- what is responded to a fault, by its kind
kind : (fault : RelayFault) (by : RelayFault → Response) (one : RelayFault) → fault ≡ one → to_fault one ≡ by one → to_fault fault ≡ by fault
kind fault by one is same = ap to_fault is ∙ same ∙ sym (ap by is)

pub returns-in-WrongProcedure : goal.returns-in-WrongProcedure
returns-in-WrongProcedure c = λ pass clock.
    let said = refusals c.args.fault in
    given_at_once pass clock (to_fault c.args.fault) (Says said) responded.GoesOn said c.args.out.now.items c.say_refusal.new.out.items
    (kind c.args.fault (λ f. Says (refusals f)) (WrongProcedure c.in-WrongProcedure.xid c.in-WrongProcedure.procedure) c.in-WrongProcedure.is refl) refl refl refl c.in_ok-say_refusal.ensures.ok

pub returns-in-WrongProgram : goal.returns-in-WrongProgram
returns-in-WrongProgram c = λ pass clock.
    let said = refusals c.args.fault in
    given_at_once pass clock (to_fault c.args.fault) (Refuses said) responded.Refused said c.args.out.now.items c.say_refusal.new.out.items
    (kind c.args.fault (λ f. Refuses (refusals f)) (WrongProgram c.in-WrongProgram.xid c.in-WrongProgram.program c.in-WrongProgram.version) c.in-WrongProgram.is refl) refl refl refl c.in_ok-say_refusal.ensures.ok

pub returns-in-BadMessage : goal.returns-in-BadMessage
returns-in-BadMessage c = λ pass clock.
    let said = refusals c.args.fault in
    given_at_once pass clock (to_fault c.args.fault) (Refuses said) responded.Refused said c.args.out.now.items c.say_refusal.new.out.items
    (kind c.args.fault (λ f. Refuses (refusals f)) (BadMessage c.in-BadMessage.xid c.in-BadMessage.at) c.in-BadMessage.is refl) refl refl refl c.in_ok-say_refusal.ensures.ok

pub returns-in-NotRpc : goal.returns-in-NotRpc
returns-in-NotRpc c = λ pass clock.
    let said = refusals c.args.fault in
    given_at_once pass clock (to_fault c.args.fault) (Refuses said) responded.Refused said c.args.out.now.items c.say_refusal.new.out.items
    (kind c.args.fault (λ f. Refuses (refusals f)) (NotRpc c.in-NotRpc.at) c.in-NotRpc.is refl) refl refl refl c.in_ok-say_refusal.ensures.ok
