-- The procedures of the program, and their numbers.
use Rattle.std.specs.Prelude.{ℕ, List, [], ◌∷◌, ◌==◌, Option}
use Rattle.std.specs.List.{find}
use Rattle.ldm_relay.specs.declared.procedure.Procedure.{Procedure}
use Rattle.ldm_relay.specs.declared.procedure.Procedure.TheVariants as procedure
use Rattle.ldm_relay.specs.declared.procedure.Answered.{Answered}
use Rattle.ldm_relay.specs.declared.procedure.Answered.TheVariants as with_reply

abbrev pub number_of : Procedure → ℕ
number_of procedure.Hereis = 1
number_of procedure.Feedme = 4
number_of procedure.Hiya = 5
number_of procedure.Comingsoon = 12
number_of procedure.Blkdata = 13
number_of procedure.Isalive = 14
number_of procedure.Qstat = 100
number_of procedure.Put = 101
number_of procedure.Notification = 6
number_of procedure.Notifyme = 7

abbrev pub procedures : List Procedure
procedures =
    procedure.Hereis
    ∷ procedure.Feedme
    ∷ procedure.Hiya
    ∷ procedure.Comingsoon
    ∷ procedure.Blkdata
    ∷ procedure.Isalive
    ∷ procedure.Qstat
    ∷ procedure.Put
    ∷ procedure.Notification
    ∷ procedure.Notifyme
    ∷ []

-- the procedure of a number, where there is one
unfoldable pub numbered : ℕ → Option Procedure
numbered number = find (λ p. number_of p == number) procedures

abbrev pub procedure_of : Answered → Procedure
procedure_of with_reply.Feedme = procedure.Feedme
procedure_of with_reply.Hiya = procedure.Hiya
procedure_of with_reply.Comingsoon = procedure.Comingsoon
procedure_of with_reply.Qstat = procedure.Qstat
procedure_of with_reply.Put = procedure.Put
procedure_of with_reply.Notifyme = procedure.Notifyme

abbrev pub with_replies : List Answered
with_replies = with_reply.Feedme ∷ with_reply.Hiya ∷ with_reply.Comingsoon ∷ with_reply.Qstat ∷ with_reply.Put ∷ with_reply.Notifyme ∷ []

-- the procedure of a number, where there is one and it has a reply
unfoldable pub answered : ℕ → Option Answered
answered number = find (λ a. number_of (procedure_of a) == number) with_replies
