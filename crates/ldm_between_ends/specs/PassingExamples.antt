-- Samples for the worked examples: two products of four bytes, of which actor 3 is asked.
use Rattle.std.specs.Prelude.{ℕ, List, [], ◌∷◌, Some, replicate}
use Rattle.ldm_model.specs.declared.event.Event.TheVariants.{Insert, Reserve, Fill, Commit}
use Rattle.ldm_model.specs.declared.event.Reply.{Reply}
use Rattle.ldm_model.specs.declared.event.Reply.TheVariants as reply
use Rattle.ldm_model.specs.declared.event.Entry.{Entry}
use Rattle.ldm_model.specs.Product.{Product}
use Rattle.ldm_model.specs.State.{Row}
use Rattle.ldm_relay.specs.declared.message.SoonAnswer.{SoonAnswer}
use Rattle.ldm_session.specs.Owed.{Code}
use Rattle.ldm_intake.specs.Course.{entry_by}
use Rattle.ldm_upstream.specs.Turn.{Given}
use Rattle.ldm_upstream.specs.Examples.{sample, sample_info}
use Rattle.ldm_between_ends.specs.Handed.{Way, Handed}

abbrev pub product_of : Given → Way → Handed
product_of given way = record { given = given; way = way }

-- the sample, and one with another signature
abbrev pub first : Way → Handed
first way = product_of sample way

abbrev pub other_signature : List ℕ
other_signature = replicate 16 2

abbrev pub other : Product
other = record sample.product { info = record sample_info { signature = other_signature } }

abbrev pub second : Way → Handed
second way = product_of (record sample { product = other }) way

-- calls, each with its reply
abbrev pub inserts : ℕ → Reply → Entry
inserts now answer = entry_by 3 (Insert now sample_info sample.product.body) answer

abbrev pub reserves : Reply → Entry
reserves answer = entry_by 3 (Reserve sample_info) answer

abbrev pub fills : List ℕ → Entry
fills block = entry_by 3 (Fill 5 block) (reply.Filled 0)

abbrev pub commits : ℕ → Entry
commits now = entry_by 3 (Commit 5 now) (reply.Committed 7 now)

abbrev pub code : SoonAnswer → Code
code answer = record { xid = 1; answer = answer }

-- the product, as the only one of a queue
abbrev pub only_row : List Row
only_row = record { product = sample.product; time = 500; place = Some 0 } ∷ []
