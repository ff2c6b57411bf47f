use Rattle.std.proofs.Common.{ap}
use Rattle.std.proofs.lemmas.Result.{err_from_is_err_and}
use Rattle.ldm_conf.specs.Confs.{ConfView, conf_view}
use Rattle.ldm_conf.specs.LineViews.{left_of}
use Rattle.ldm_conf.specs.States.{State, state_of}
use Rattle.ldm_conf.proofs.Progress.{all_read, text_fails}
use Rattle.ldm_conf.proofs.reader.read_conf.Goals as goal

abbrev first : ConfView → State
first conf = record { count = 1; conf = conf }

pub returns-in_err-read_file-clause-reads : goal.returns-in_err-read_file-clause-reads
returns-in_err-read_file-clause-reads g c = λ short.
    let tells = g.F.Store.tells in
    let why = err_from_is_err_and c.from_residual.result c.from_residual.ensures.1 in
    rw (why.1, why.2)
    (text_fails (tells c.args.store.now) c.args.bytes.now (first (conf_view c.in-Ok.conf)) (left_of c.of.result) c.in_err-read_file.field-0.0 (tells c.read_file.new.store)
    (ap first c.in-Ok.ensures) c.of.ensures.lines c.in_err-read_file.ensures)

pub returns-clause-reads : goal.returns-clause-reads
returns-clause-reads g c = λ short.
    let tells = g.F.Store.tells in
    let read = c.in_ok-read_file.ensures in (
      all_read (tells c.args.store.now) c.args.bytes.now (first (conf_view c.in-Ok.conf)) (state_of c.read_file.new.self) (left_of c.of.result) (ap first c.in-Ok.ensures) c.of.ensures.lines read.0,
      read.1,
    )
