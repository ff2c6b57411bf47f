-- What a record says to one who watches.
use Rattle.std.specs.Prelude.{ℕ, ◌==◌, Bool, List, is_none, Result, Ok, if◌then◌else◌}
use Rattle.ldm_types.specs.declared.class.ClassSpec.{ClassSpec}
use Rattle.ldm_class.specs.Classes.{bad_place}
use Rattle.ldm_relay.specs.declared.fault.RelayFault.{RelayFault}
use Rattle.ldm_relay.specs.declared.message.ClassAnswer.{ClassAnswer}
use Rattle.ldm_relay.specs.declared.message.ClassAnswer.TheVariants as class_answer
use Rattle.ldm_relay.specs.declared.procedure.Procedure.TheVariants as procedure
use Rattle.ldm_relay.specs.Procedure.{number_of}
use Rattle.ldm_relay.specs.Reading.{call_of, reply_of}
use Rattle.ldm_relay.specs.Sent.{Sent}
use Rattle.ldm_relay.specs.Sent as sent
use Rattle.ldm_class.specs.Asking.{same_class}
use Rattle.ldm_watch.specs.declared.watching.Phase.{Phase}
use Rattle.ldm_watch.specs.declared.watching.Phase.TheVariants.{Asked, Told}
use Rattle.ldm_watch.specs.declared.watching.Watching.{Watching}
use Rattle.ldm_watch.specs.declared.step.Step.{Step}
use Rattle.ldm_watch.specs.declared.step.Step.TheVariants.{Alive, Begins, AsksAgain, Notice, Bad, Declined}

-- the number of the first or of the second NOTIFYME among the calls of the session
abbrev pub number_of_request : Bool → ℕ
number_of_request again = if again then 2 else 1

-- a class is asked for where each of its patterns means something
abbrev pub asks_again : ClassSpec → Step
asks_again class = if is_none (bad_place class.specs.items) then AsksAgain class else Bad

-- A narrower class is offered: it is asked for, at most once, and where it is another than the one that was asked for.
abbrev pub reclassed : ClassSpec → Bool → ClassSpec → Step
reclassed asked again class =
    if again then Declined (class_answer.Reclass class)
    else (if same_class class asked then Declined (class_answer.Reclass class) else asks_again class)

abbrev pub by_answer : ClassSpec → Bool → ClassAnswer → Step
by_answer asked again class_answer.Ok = Begins
by_answer asked again (class_answer.Reclass class) = reclassed asked again class
by_answer asked again class_answer.Denied = Declined class_answer.Denied
by_answer asked again class_answer.BadPattern = Declined class_answer.BadPattern
by_answer asked again class_answer.Busy = Declined class_answer.Busy

-- the reply to the call of that number, where the class `asked` was asked for
abbrev pub answered : ClassSpec → Bool → ℕ → ClassAnswer → Step
answered asked again xid answer = if xid == number_of_request again then by_answer asked again answer else Bad

-- a reply that was read to the NOTIFYME that asked for a class: no other message is one
abbrev pub by_reply : ClassSpec → Bool → Result Sent RelayFault → Step
by_reply asked again (Ok (sent.NotifymeReply xid answer)) = answered asked again xid answer
by_reply asked again _ = Bad

-- a call that was read behind it: NOTIFICATION and IS_ALIVE are lawful, and nothing else
abbrev pub by_call : Result Sent RelayFault → Step
by_call (Ok (sent.Notification xid info)) = Notice info
by_call (Ok (sent.Isalive xid)) = Alive
by_call _ = Bad

abbrev pub step_in : Phase → ClassSpec → List ℕ → Step
step_in (Asked again) class content = by_reply class again (reply_of (number_of procedure.Notifyme) content)
step_in Told class content = by_call (call_of content)

-- what a record with that content says
abbrev pub watch_step : Watching → List ℕ → Step
watch_step w content = step_in w.phase w.class content
