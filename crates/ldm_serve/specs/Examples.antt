-- Worked examples, worked out by hand from the rules: what a server responds, and what is asked of its queue.
use Rattle.std.specs.Prelude.{◌≡◌, ℕ, List, [], ◌∷◌, length, codes, replicate, Some, None, Err}
use Rattle.ldm_model.specs.Figures.{figures}
use Rattle.ldm_types.specs.Info.{Metadata}
use Rattle.ldm_types.specs.declared.class.ClassSpec.{ClassSpec}
use Rattle.ldm_types.specs.declared.class.Spec.{Spec}
use Rattle.ldm_class.specs.Access.{reduce}
use Rattle.ldm_class.specs.Rules.{Rule, no_rules, open_rule, with_allow}
use Rattle.ldm_model.specs.declared.event.Event.TheVariants.{Insert, Stat}
use Rattle.ldm_model.specs.declared.event.Reply.TheVariants as reply
use Rattle.ldm_relay.specs.Sent as sent
use Rattle.ldm_relay.specs.Spelling.{written, record_of}
use Rattle.ldm_relay.specs.declared.fault.RelayFault.TheVariants.{NotRpc, WrongProgram, WrongProcedure, BadMessage}
use Rattle.ldm_relay.specs.declared.front.CallFront.TheVariants as front
use Rattle.ldm_relay.specs.declared.message.ClassAnswer.TheVariants as class_answer
use Rattle.ldm_relay.specs.declared.message.PutAnswer.TheVariants as put_answer
use Rattle.ldm_relay.specs.declared.message.Refusal.TheVariants as refusal
use Rattle.ldm_intake.specs.Course.{Leads, entry_by}
use Rattle.ldm_serve.specs.Answering.{answering}
use Rattle.ldm_serve.specs.Client.{Client}
use Rattle.ldm_serve.specs.Respond.{to_call, to_cut, to_fault, to_long, to_offer, to_unread}
use Rattle.ldm_serve.specs.Response.{Says, Puts, Figures, Receives, Refuses, Denies}

abbrev pub spec_of : ℕ → Spec
spec_of feed = record { feed = record { 0 = feed }; pattern = record { items = codes ".*" } }

-- all instants, and the products of these feedtypes
abbrev pub class_of : ℕ → ClassSpec
class_of feed = record { from = 0; to = 4294967295999999; specs = record { items = spec_of feed ∷ [] } }

-- a rule for feed 2 that is about each host
abbrev pub rule : Rule
rule = record { feed = 2; host = None; ok = None; not = None }

abbrev pub info : Metadata
info = record { arrival = 100; signature = replicate 16 1; origin = codes "h"; feed = 2; seqno = 1; ident = codes "p"; size = 4 }

abbrev pub body : List ℕ
body = codes "ABCD"

-- Of the class that is offered all is left, or a part, or nothing.
abbrev pub Accepted : Type 0
Accepted = to_offer 1 (class_of 2) (reduce (rule ∷ []) (codes "a") (class_of 2)) ≡ Receives (class_of 2) (sent.HiyaReply 1 16384 class_answer.Ok ∷ [])

abbrev pub Reclassed : Type 0
Reclassed = to_offer 1 (class_of 3) (reduce (rule ∷ []) (codes "a") (class_of 3)) ≡ Says (sent.HiyaReply 1 16384 (class_answer.Reclass (class_of 2)) ∷ [])

abbrev pub Denied : Type 0
Denied = to_offer 1 (class_of 2) (reduce [] (codes "b") (class_of 2)) ≡ Denies 0 (sent.HiyaReply 1 16384 class_answer.Denied ∷ [])

-- the record of the answer OK has 36 bytes
abbrev pub AcceptedLength : Type 0
AcceptedLength = length (record_of (written (sent.HiyaReply 1 16384 class_answer.Ok))) ≡ 36

-- without an ALLOW rule no host may know the figures, and without an ACCEPT rule none may hand in a product
abbrev pub NoRules : Type 0
NoRules =
    (to_call no_rules (codes "h") (sent.Qstat 7) ≡ Says (sent.QstatReply 7 None ∷ []))
    × (to_call no_rules (codes "h") (sent.Put 8 info body) ≡ Says (sent.PutReply 8 put_answer.Denied ∷ []))

-- with an ALLOW rule that is about each host the queue is asked for its figures
abbrev pub Known : Type 0
Known =
    (to_call (with_allow no_rules open_rule) (codes "h") (sent.Qstat 7) ≡ Figures 7)
    × Leads 0 (answering (Figures 7) 500) (entry_by 0 Stat (reply.Stat (figures 5 4 3 2 1)) ∷ [])
    (sent.QstatReply 7 (Some (figures 5 4 3 2 1)) ∷ [])

-- a product is inserted at the clock's time, and what the queue answers is told
abbrev pub Inserted : Type 0
Inserted =
    (to_call (record { allow = []; accept = rule ∷ [] }) (codes "h") (sent.Put 8 info body) ≡ Puts 8 info body)
    × Leads 0 (answering (Puts 8 info body) 500) (entry_by 0 (Insert 500 info body) (reply.Duplicate 3) ∷ []) (sent.PutReply 8 (put_answer.Duplicate 3) ∷ [])

-- The session outlives a procedure that there is not, and no other fault. What is no call is not answered.
abbrev pub Faults : Type 0
Faults =
    (to_fault (WrongProcedure 9 8) ≡ Says (sent.Refused 9 refusal.ProcedureUnavailable ∷ []))
    × (to_fault (WrongProgram 9 300029 5) ≡ Refuses (sent.Refused 9 (refusal.ProgramMismatch 6 6) ∷ []))
    × (to_fault (WrongProgram 9 300030 6) ≡ Refuses (sent.Refused 9 refusal.ProgramUnavailable ∷ []))
    × (to_fault (BadMessage 9 40) ≡ Refuses (sent.Refused 9 refusal.GarbageArguments ∷ []))
    × (to_fault (NotRpc 4) ≡ Refuses [])

-- a whole HEREIS has no place here, and is not answered
abbrev pub OutOfPlace : Type 0
OutOfPlace = to_call (with_allow no_rules open_rule) (codes "h") (sent.Hereis 1 info body) ≡ Refuses []

-- a host that no rule is about, and one that may hand in products, both of a queue with the smallest arena
abbrev pub unknown : Client
unknown = record { rules = no_rules; host = codes "h"; actor = 0; arena = 64 }

abbrev pub known : Client
known = record { rules = record { allow = []; accept = rule ∷ [] }; host = codes "h"; actor = 0; arena = 64 }

-- A PUT that the rules refuse is denied, whether its body is cut short or bytes stand behind it.
abbrev pub RefusedUnread : Type 0
RefusedUnread =
    (to_unread unknown (BadMessage 8 60) (front.Put 8 info) ≡ Says (sent.PutReply 8 put_answer.Denied ∷ []))
    × ((content : List ℕ) → to_long unknown content (front.Put 8 info) ≡ Says (sent.PutReply 8 put_answer.Denied ∷ []))

-- A product of 100 bytes takes 152 bytes of an arena, which one of 64 has not. One of 4 bytes takes 56: whether its body
-- is there decides.
abbrev pub TooLargeUnread : Type 0
TooLargeUnread =
    (to_unread known (BadMessage 8 60) (front.Put 8 (record info { size = 100 })) ≡ Says (sent.PutReply 8 (put_answer.TooBig 152 64) ∷ []))
    × ((content : List ℕ) → to_long known content (front.Put 8 (record info { size = 100 })) ≡ Says (sent.PutReply 8 (put_answer.TooBig 152 64) ∷ []))
    × (to_unread known (BadMessage 8 60) (front.Put 8 info) ≡ Refuses (sent.Refused 8 refusal.GarbageArguments ∷ []))

-- A long record that is no call is not answered.
abbrev pub LongRefused : Type 0
LongRefused = to_cut (Err (NotRpc 4)) ≡ Refuses []
