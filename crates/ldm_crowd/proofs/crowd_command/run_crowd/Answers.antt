use Rattle.std.proofs.Common.{◌++◌, ℕ, List, Vec, Global, map, subst}
use Rattle.std.specs.List.{concat}
use Rattle.std.proofs.lemmas.Result.{err_from_is_err_and}
use Rattle.ldm_outside.specs.Io.{Takes, WritesFront}
use Rattle.ldm_model.specs.History.{after}
use Rattle.ldm_model.specs.Stat.{stat}
use Rattle.ldm_answers.specs.Answer.{answer_line}
use Rattle.ldm_crowd.specs.CrowdEnding.{CrowdSize}
use Rattle.ldm_crowd.proofs.CrowdPlayLemmas.{played_at, all_answers, plays_whole}
use Rattle.ldm_crowd.proofs.crowd_command.run_crowd.Goals as goal

pub returns-in_err-write_answers-clause-ends : goal.returns-in_err-write_answers-clause-ends
returns-in_err-write_answers-clause-ends g c = λ log_before log_after.
    let p = err_from_is_err_and c.from_residual-in_err-write_answers.result c.from_residual-in_err-write_answers.ensures.1 in
    let size : CrowdSize = record { arena = c.args.arena; slots = c.args.slots; workers = c.args.workers } in
    let made = c.in_ok-shared.ensures in
    let crowd = c.in_ok-crowd.crowd in
    let history = crowd.pass.seen in
    let texts = map (λ (v : Vec ℕ Global). v.items) crowd.answers.items in
    let text = c.in_ok-text.text.items in
    let old = g.K.Sink.tells c.args.sink.now in
    let new = g.K.Sink.tells c.write_answers.new.sink in
    let played = played_at size.arena size.slots size.workers c.in_ok-shared.shared made.sizes.0 made.sizes.1 c.as_slice.result.now text c.as_slice.ensures.value history crowd.book texts c.in_ok-crowd.ensures.played in
    let plays = plays_whole size made.limits.0 made.limits.1 made.limits.2 text (g.S.Source.tells c.args.source.now) (g.S.Source.tells c.take_script.new.source) c.in_ok-text.ensures.whole history crowd.book texts played in
    let failed = c.in_err-write_answers.ensures.written (after size.arena size.slots history) played.stands in
    let front : WritesFront old (all_answers size history texts) new =
    subst (λ (vs : List (Vec ℕ Global)). WritesFront old (concat (map (λ (v : Vec ℕ Global). v.items) vs) ++ answer_line (stat (after size.arena size.slots history)).reply) new) c.as_slice-2.ensures.value failed.1 in
    rw (p.1, p.2) (all_answers size history texts, plays, failed.0, front)

pub returns-clause-ends : goal.returns-clause-ends
returns-clause-ends g c = λ log_before log_after.
    let size : CrowdSize = record { arena = c.args.arena; slots = c.args.slots; workers = c.args.workers } in
    let made = c.in_ok-shared.ensures in
    let crowd = c.in_ok-crowd.crowd in
    let history = crowd.pass.seen in
    let texts = map (λ (v : Vec ℕ Global). v.items) crowd.answers.items in
    let text = c.in_ok-text.text.items in
    let old = g.K.Sink.tells c.args.sink.now in
    let new = g.K.Sink.tells c.write_answers.new.sink in
    let played = played_at size.arena size.slots size.workers c.in_ok-shared.shared made.sizes.0 made.sizes.1 c.as_slice.result.now text c.as_slice.ensures.value history crowd.book texts c.in_ok-crowd.ensures.played in
    let plays = plays_whole size made.limits.0 made.limits.1 made.limits.2 text (g.S.Source.tells c.args.source.now) (g.S.Source.tells c.take_script.new.source) c.in_ok-text.ensures.whole history crowd.book texts played in
    let taken : Takes old (all_answers size history texts) new =
    subst (λ (vs : List (Vec ℕ Global)). Takes old (concat (map (λ (v : Vec ℕ Global). v.items) vs) ++ answer_line (stat (after size.arena size.slots history)).reply) new) c.as_slice-2.ensures.value (c.in_ok-write_answers.ensures.written (after size.arena size.slots history) played.stands) in
    (all_answers size history texts, plays, taken)
