-- Samples for the worked examples.
use Rattle.std.specs.Prelude.{List, [], ◌∷◌, codes}
use Rattle.ldm_relay.specs.declared.message.PutAnswer.{PutAnswer}
use Rattle.ldm_relay.specs.declared.message.PutAnswer.TheVariants.{Admitted, Duplicate, Denied}
use Rattle.ldm_wmo.specs.declared.framing.Framing.TheVariants.{Line}
use Rattle.ldm_wmo.specs.Items.{Found, Bulletin, Bad}
use Rattle.ldm_wmo.specs.Samples.{sample, sample_heading}
use Rattle.ldm_wmo.specs.Ingesting.{Ingesting}
use Rattle.ldm_wmo.specs.Outcomes.{Step, Put, Logged}

-- for the queue at port 388 of host `a`
abbrev pub sample_ingesting : Ingesting
sample_ingesting = record { framing = Line; peer = record { host = codes "a"; port = 388 }; feed = 4; origin = codes "localhost" }

-- a bulletin, and a candidate that is none
abbrev pub sample_items : List Found
sample_items = Bulletin 2 1 sample_heading sample ∷ Bad 41 ∷ []

-- a bulletin that the queue admits, and a candidate that is none
abbrev pub sample_steps : List Step
sample_steps = Put 100 (Admitted 0 100 0) ∷ Logged ∷ []

-- a bulletin that the queue refuses comes first
abbrev pub refused_first : List Step
refused_first = Put 100 (Duplicate 0) ∷ Logged ∷ []

abbrev pub sample_answers : List PutAnswer
sample_answers = Admitted 0 100 0 ∷ []

abbrev pub sample_denial : List PutAnswer
sample_denial = Denied ∷ []
