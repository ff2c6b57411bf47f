-- The reply to a FEEDME.
use Rattle.std.specs.Prelude.{ℕ, ◌==◌, Bool, true, [], ◌∷◌, is_none, if◌then◌else◌}
use Rattle.ldm_types.specs.declared.class.ClassSpec.{ClassSpec}
use Rattle.ldm_relay.specs.declared.message.ClassAnswer.{ClassAnswer}
use Rattle.ldm_relay.specs.declared.message.ClassAnswer.TheVariants as class_answer
use Rattle.ldm_relay.specs.Sent as sent
use Rattle.ldm_class.specs.Classes.{bad_place}
use Rattle.ldm_intake.specs.declared.phase.Phase.TheVariants.{Asked, Feeding}
use Rattle.ldm_class.specs.Asking.{same_class}
use Rattle.ldm_intake.specs.Receiving.{Receiving}
use Rattle.ldm_intake.specs.Step.{Step, Goes, Bad, Declined}

-- the number of the first or of the second FEEDME among the receiver's calls
abbrev pub number_of_request : Bool → ℕ
number_of_request again = if again then 2 else 1

-- a narrower class is asked for, and is in force
abbrev pub asks_again : Receiving → ClassSpec → Step
asks_again s class =
    if is_none (bad_place class.specs.items)
    then Goes (record s { wanting = record s.wanting { class = class }; phase = Asked class true }) (sent.Feedme 2 class s.max_hereis ∷ []) []
    else Bad

-- A narrower class is offered: it is asked for, at most once, and where it is another than the one that was asked for.
abbrev pub reclassed : Receiving → ClassSpec → Bool → ClassSpec → Step
reclassed s asked again class =
    if again then Declined (class_answer.Reclass class)
    else (if same_class class asked then Declined (class_answer.Reclass class) else asks_again s class)

abbrev pub by_answer : Receiving → ClassSpec → Bool → ClassAnswer → Step
by_answer s asked again class_answer.Ok = Goes (record s { phase = Feeding }) [] []
by_answer s asked again (class_answer.Reclass class) = reclassed s asked again class
by_answer s asked again class_answer.Denied = Declined class_answer.Denied
by_answer s asked again class_answer.BadPattern = Declined class_answer.BadPattern
by_answer s asked again class_answer.Busy = Declined class_answer.Busy

-- the reply to the call of that number, where the class `asked` was asked for
abbrev pub answered : Receiving → ClassSpec → Bool → ℕ → ClassAnswer → Step
answered s asked again xid answer = if xid == number_of_request again then by_answer s asked again answer else Bad
