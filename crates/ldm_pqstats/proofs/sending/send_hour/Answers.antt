use Rattle.std.proofs.Common.{◌∙◌, ℕ, List, ◌++◌, ap}
use Rattle.ldm_pqstats.specs.Sending.{body_of}
use Rattle.ldm_pqstats.proofs.sending.send_hour.Goals as goal

pub returns-in-Ok-clause-sends : goal.returns-in-Ok-clause-sends
returns-in-Ok-clause-sends g c =
    let stats = c.args.stats.now in
    c.put_hour.ensures.puts stats
    (c.as_slice.ensures.value ∙ (c.in-Ok.ensures.whole ∙ ap (λ (l : List ℕ). l ++ body_of stats c.args.hour) c.new-body.ensures.items))
