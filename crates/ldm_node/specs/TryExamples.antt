-- A sample request, a sample plan and sample tries for the worked examples.
use Rattle.std.specs.Prelude.{ℕ, List, [], ◌∷◌, codes, replicate, Some, None}
use Rattle.ldm_conf.specs.declared.transfer.Transfer.TheVariants.{Primary, Alternate}
use Rattle.ldm_conf.specs.Confs.{RequestView, no_conf}
use Rattle.ldm_intake.specs.declared.end.RecvEnd.TheVariants.{Ended, OutOfMemory}
use Rattle.ldm_node.specs.Roles.{Plan, plan_of}
use Rattle.ldm_node.specs.Tries.{Try, Unreached, Session}

-- host `h` at port 388 is asked for a class, by a line without a last word
abbrev pub sample_request : RequestView
sample_request = record { class = record { from = 0; to = 0; specs = record { items = [] } }; host = codes "h"; port = 388; transfer = Alternate }

-- the same, by a line that says PRIMARY
abbrev pub sample_primary : RequestView
sample_primary = record sample_request { transfer = Primary }

abbrev pub sample_product : List ℕ
sample_product = replicate 16 1

-- Two workers let peers in, and two requests are asked for, of the second of which a last product is known.
abbrev pub sample_plan : Plan
sample_plan = plan_of (record no_conf { requests = sample_request ∷ sample_primary ∷ [] }) 2 1 (None ∷ Some sample_product ∷ [])

-- The host is not reached, then feeds a product, and then there is no memory for a session.
abbrev pub sample_tries : List Try
sample_tries =
    Unreached ∷ Session Ended None (Some sample_product) ∷ Session OutOfMemory (Some sample_product) (Some sample_product) ∷ []

-- the log lines of the sessions themselves
abbrev pub sample_lines : List (List ℕ)
sample_lines = [] ∷ codes "unwanted q\n" ∷ [] ∷ []
