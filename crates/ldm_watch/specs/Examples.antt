-- Worked examples: what single records say to one who watches, and what that comes to.
use Rattle.std.specs.Prelude.{◌≡◌, ℕ, List, [], ◌∷◌, ◌++◌, true, false, codes, replicate, Option, Some, None, Ok}
use Rattle.ldm_types.specs.Info.{Metadata}
use Rattle.ldm_types.specs.declared.class.ClassSpec.{ClassSpec}
use Rattle.ldm_types.specs.declared.limits.TheConstants.{GREATEST_INSTANT}
use Rattle.ldm_relay.specs.declared.message.ClassAnswer.TheVariants as class_answer
use Rattle.ldm_relay.specs.Sent as sent
use Rattle.ldm_answers.specs.Answer.{info_text}
use Rattle.ldm_watch.specs.declared.end.WatchEnd.TheVariants.{Counted, BadFrame}
use Rattle.ldm_watch.specs.declared.step.Step.TheVariants.{Alive, AsksAgain, Notice, Bad, Declined}
use Rattle.ldm_watch.specs.declared.watching.Phase.TheVariants.{Asked, Told}
use Rattle.ldm_watch.specs.declared.form.NoticeForm.TheVariants.{Numbers, Names}
use Rattle.ldm_watch.specs.FeedNames.{feeds_text}
use Rattle.ldm_watch.specs.Instants.{instant_text}
use Rattle.ldm_watch.specs.Notices.{notice_line}
use Rattle.ldm_watch.specs.Sought.{Sought}
use Rattle.ldm_watch.specs.Step.{answered, by_call}
use Rattle.ldm_watch.specs.Watched.{Watched, after_step, opening}

-- the metadata of a product with an ident `p` and four bytes
abbrev pub product : Metadata
product = record { arrival = 100; signature = replicate 16 1; origin = codes "h"; feed = 2; seqno = 1; ident = codes "p"; size = 4 }

-- the class of all instants that wants nothing, and a narrower one
abbrev pub class : ClassSpec
class = record { from = 0; to = 4294967295999999; specs = record { items = [] } }

abbrev pub narrower : ClassSpec
narrower = record class { from = 1 }

abbrev pub sought : ClassSpec → Option ℕ → Sought
sought class count = record { class = class; count = count; form = Numbers }

-- the request was answered, and so many notices are left to come
abbrev pub telling : Option ℕ → Watched
telling left = record (opening (sought class left)) { watching = record { class = class; phase = Told; left = left; form = Numbers } }

-- its line; as numbers, the fields of any are those of an answer of a queue
abbrev pub Line : Type 0
Line =
    (notice_line Numbers product ≡ codes "notice 100 01010101010101010101010101010101 0x00000002 1 h p 4" ++ 10 ∷ [])
    × ((info : Metadata) → notice_line Numbers info ≡ codes "notice" ++ info_text info ++ 10 ∷ [])

-- its line for people
abbrev pub LineOfNames : Type 0
LineOfNames = notice_line Names product ≡ codes "notice 1970-01-01T00:00:00.000100Z 01010101010101010101010101010101 DDS 1 h p 4" ++ 10 ∷ []

-- the first and the last instant, the last microsecond of a leap day and of a year, and one with zeros in front
abbrev pub Dates : Type 0
Dates =
    (instant_text 0 ≡ codes "1970-01-01T00:00:00.000000Z")
    × (instant_text GREATEST_INSTANT ≡ codes "2106-02-07T06:28:15.999999Z")
    × (instant_text 1709251199999999 ≡ codes "2024-02-29T23:59:59.999999Z")
    × (instant_text 1798761599999999 ≡ codes "2026-12-31T23:59:59.999999Z")
    × (instant_text 1796043907000123 ≡ codes "2026-11-30T13:05:07.000123Z")

-- a set has its name, or those of its members
abbrev pub Feeds : Type 0
Feeds =
    (feeds_text 0 ≡ codes "NONE") × (feeds_text 0xffff_ffff ≡ codes "ANY") × (feeds_text 15 ≡ codes "WMO")
    × (feeds_text 11 ≡ codes "PPS|DDS|IDS") × (feeds_text 0xc000_0040 ≡ codes "FT6|EXP|FT31")

-- the last notice that was asked for ends it, and is told
abbrev pub LastNotice : Type 0
LastNotice = after_step (telling (Some 1)) 76 (Notice product) ≡ record (telling (Some 1)) { notices = product ∷ []; end = Some Counted }

-- one before it leaves one fewer to come
abbrev pub OneFewer : Type 0
OneFewer = after_step (telling (Some 2)) 76 (Notice product) ≡ record (telling (Some 1)) { notices = product ∷ [] }

-- an IS_ALIVE is not counted, and a product that comes whole is not lawful
abbrev pub NoNotice : Type 0
NoNotice =
    (after_step (telling (Some 1)) 76 Alive ≡ telling (Some 1))
    × (after_step (telling None) 76 (by_call (Ok (sent.Hereis 1 product (codes "ABCD")))) ≡ record (telling None) { end = Some (BadFrame 76) })

-- the class that was asked for is no narrower one, a second offer is not followed, and the number of the reply counts
abbrev pub Requests : Type 0
Requests =
    (answered class false 1 (class_answer.Reclass class) ≡ Declined (class_answer.Reclass class))
    × (answered class true 2 (class_answer.Reclass narrower) ≡ Declined (class_answer.Reclass narrower))
    × (answered class false 2 class_answer.Ok ≡ Bad)

-- a narrower class is asked for by a second NOTIFYME
abbrev pub Narrower : Type 0
Narrower =
    (answered class false 1 (class_answer.Reclass narrower) ≡ AsksAgain narrower)
    × (after_step (opening (sought class None)) 0 (AsksAgain narrower)
    ≡ record (opening (sought narrower None)) {
      watching = record { class = narrower; phase = Asked true; left = None; form = Numbers };
      owed = sent.Notifyme 1 class ∷ sent.Notifyme 2 narrower ∷ [];
    })
