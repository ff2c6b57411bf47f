-- Sample visits for the worked examples.
use Rattle.std.specs.Prelude.{ℕ, List, [], ◌∷◌, codes}
use Rattle.ldm_intake.specs.declared.end.RecvEnd.TheVariants as receiving
use Rattle.ldm_sender.specs.declared.end.SendEnd.TheVariants as sending
use Rattle.ldm_serve.specs.declared.end.ServeEnd.TheVariants as serving
use Rattle.ldm_node.specs.Visits.{Visit, visit_of}

-- Host `a` asks nothing and ends its stream, host `b` pushes until its link fails, and host `c` is fed until the gate stops.
abbrev pub sample_visits : List Visit
sample_visits =
    visit_of (codes "a") serving.Ended ∷ visit_of (codes "b") (serving.Receive receiving.LinkFault)
    ∷ visit_of (codes "c") (serving.Feed sending.Stopped) ∷ []

-- the log lines of the sessions themselves
abbrev pub sample_lines : List (List ℕ)
sample_lines = [] ∷ codes "unwanted q\n" ∷ codes "gap c 2 0 1\n" ∷ []
