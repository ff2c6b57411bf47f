use Rattle.std.proofs.Common.{ℕ, Vec, Global, map}
use Rattle.std.specs.List.{concat}
use Rattle.std.proofs.lemmas.Result.{err_from_is_err_and}
use Rattle.ldm_model.specs.Stat.{stat}
use Rattle.ldm_answers.specs.Answer.{answer_line}
use Rattle.ldm_crowd.proofs.CrowdTextLemmas.{WritesFront-more, WritesAll-then}
use Rattle.ldm_crowd.proofs.crowd_command.write_answers.Goals as goal

pub returns-in_err-write_texts-clause-written : goal.returns-in_err-write_texts-clause-written
returns-in_err-write_texts-clause-written g c = λ s stands.
    let p = err_from_is_err_and c.from_residual.result c.from_residual.ensures.1 in
    let failed = c.in_err-write_texts.ensures.written in
    let first = concat (map (λ (v : Vec ℕ Global). v.items) c.args.answers.now) in
    rw (p.1)
    (failed.0, WritesFront-more (g.K.Sink.tells c.args.sink.now) (g.K.Sink.tells c.write_texts.new.sink) first (answer_line (stat s).reply) failed.1)

pub returns-clause-written : goal.returns-clause-written
returns-clause-written g c = λ s stands.
    let first = concat (map (λ (v : Vec ℕ Global). v.items) c.args.answers.now) in
    WritesAll-then c.write_stat.result (g.K.Sink.tells c.args.sink.now) (g.K.Sink.tells c.write_texts.new.sink) (g.K.Sink.tells c.write_stat.new.sink) first (answer_line (stat s).reply) c.in_ok-write_texts.ensures.written c.write_texts.ensures.faults_kept (c.write_stat.ensures.written s stands)
