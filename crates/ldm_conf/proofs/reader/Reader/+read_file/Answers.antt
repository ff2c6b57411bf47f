use Rattle.std.proofs.Common.{◌≡◌, ◌∙◌, ◌+◌, [], arith}
use Rattle.std.proofs.lemmas.Result.{err_from_is_err_and}
use Rattle.ldm_conf.specs.Causes.{HasCause, IsIn}
use Rattle.ldm_conf.specs.Confs.{conf_view}
use Rattle.ldm_conf.specs.LineViews.{left_of, line_view}
use Rattle.ldm_conf.specs.Reading.{lines_in}
use Rattle.ldm_conf.specs.States.{EndsIn, Passes, State, state_of}
use Rattle.ldm_conf.proofs.Progress.{file_fails, file_passes, later_fails, line_fails, may_deepen, then_passes, want_fails}
use Rattle.ldm_conf.proofs.reader.Reader.+read_file.Goals as goal

pub returns-in_err-line : goal.returns-in_err-line
returns-in_err-line g t c =
    let tells = g.F.Store.tells in
    let why = err_from_is_err_and c.from_residual.result c.from_residual.ensures.1 in
    rw (why.1, why.2)
    (line_fails (tells c.args.store.now) (state_of c.args.self.now) (state_of c.loop-line.self) (left_of c.args.lines) (left_of c.loop-line.lines) c.in_err-line.field-0.0 (tells c.loop-line.store)
    c.loop-line.invariant.same c.loop-line.invariant.passes c.in_err-line.ensures.read)

pub returns-in_err-bytes : goal.returns-in_err-bytes
returns-in_err-bytes g t c =
    let tells = g.F.Store.tells in
    let why = err_from_is_err_and c.from_residual-in_err-bytes.result c.from_residual-in_err-bytes.ensures.1 in
    let to = rw c.in-Some.is at c.in_ok-line.ensures.read in
    rw (why.1, why.2)
    (want_fails (tells c.args.store.now) (state_of c.args.self.now) (state_of c.loop-line.self) (state_of c.read_to_include.new.self) (left_of c.args.lines) (left_of c.loop-line.lines)
    (left_of c.read_to_include.new.lines) (line_view c.in-Some.line) c.in-Some.path.now c.in_err-bytes.field-0.0 (tells c.loop-line.store) (tells c.include.new.store)
    c.loop-line.invariant.same c.loop-line.invariant.passes to c.in_err-bytes.ensures)

pub read_file-requires : goal.read_file-requires
read_file-requires g t c κs within =
    let came = c.in_ok-bytes.ensures in
    let deep = may_deepen c.read_to_include.new.self.files (line_view c.in-Some.line) came.0 in
    let place : c.in-Some.line.depth ≡ c.loop-line.lines.depth = rw c.in-Some.is at c.in_ok-line.ensures.place in
    let bytes = rw c.as_slice.ensures.value at c.of-included.ensures.room in (
      omega (arith, deep, place, c.loop-line.invariant.depth, c.of-included.ensures.depth, c.decreases),
      (within, omega (arith, bytes, came.1.0)),
    )

pub returns-in_err-read_file : goal.returns-in_err-read_file
returns-in_err-read_file g t c =
    let tells = g.F.Store.tells in
    let why = err_from_is_err_and c.from_residual-in_err-read_file.result c.from_residual-in_err-read_file.ensures.1 in
    let to = rw c.in-Some.is at c.in_ok-line.ensures.read in
    let came = c.in_ok-bytes.ensures in
    let here : IsIn (tells c.args.store.now) (record { path = c.in-Some.path.now; bytes = c.in_ok-bytes.bytes.items }) = rw c.loop-line.invariant.same at came.1 in
    let inside : left_of c.of-included.result ≡ lines_in c.read_to_include.new.self.files (c.in-Some.line.depth + 1) c.in_ok-bytes.bytes.items = rw c.as_slice.ensures.value at c.of-included.ensures.lines in
    let fault = c.in_err-read_file.field-0.0 in
    let start : State = record { count = c.read_to_include.new.self.files + 1; conf = conf_view c.read_to_include.new.self.conf } in
    let failed : HasCause (EndsIn (tells c.include.new.store) start (left_of c.of-included.result)) fault.kind fault (tells c.include.new.store) (tells c.read_file.new.store) = c.in_err-read_file.ensures in
    rw (why.1, why.2)
    (later_fails (tells c.args.store.now) (state_of c.args.self.now) (state_of c.loop-line.self) (left_of c.args.lines) (left_of c.loop-line.lines) fault.kind fault (tells c.read_file.new.store)
    c.loop-line.invariant.passes
    (file_fails (tells c.args.store.now) (state_of c.loop-line.self) (state_of c.read_to_include.new.self) (left_of c.loop-line.lines) (left_of c.read_to_include.new.lines) (line_view c.in-Some.line)
    c.in-Some.path.now to c.in_ok-bytes.bytes.items came.0 here (tells c.include.new.store) (left_of c.of-included.result) (came.2 ∙ c.loop-line.invariant.same) inside
    fault.kind fault (tells c.read_file.new.store) failed))

pub loop-line-preserved : goal.loop-line-preserved
loop-line-preserved g t c =
    let tells = g.F.Store.tells in
    let to = rw c.in-Some.is at c.in_ok-line.ensures.read in
    let came = c.in_ok-bytes.ensures in
    let here : IsIn (tells c.args.store.now) (record { path = c.in-Some.path.now; bytes = c.in_ok-bytes.bytes.items }) = rw c.loop-line.invariant.same at came.1 in
    let inside : left_of c.of-included.result ≡ lines_in c.read_to_include.new.self.files (c.in-Some.line.depth + 1) c.in_ok-bytes.bytes.items = rw c.as_slice.ensures.value at c.of-included.ensures.lines in
    let same : tells c.include.new.store ≡ tells c.args.store.now = came.2 ∙ c.loop-line.invariant.same in
    let start : State = record { count = c.read_to_include.new.self.files + 1; conf = conf_view c.read_to_include.new.self.conf } in
    let read : Passes (tells c.include.new.store) start (left_of c.of-included.result) (state_of c.read_file.new.self) [] × (tells c.read_file.new.store ≡ tells c.include.new.store) = c.in_ok-read_file.ensures in
    record {
      passes =
          then_passes (tells c.args.store.now) (state_of c.args.self.now) (state_of c.loop-line.self) (state_of c.read_file.new.self) (left_of c.args.lines) (left_of c.loop-line.lines)
          (left_of c.read_to_include.new.lines) c.loop-line.invariant.passes
          (file_passes (tells c.args.store.now) (state_of c.loop-line.self) (state_of c.read_to_include.new.self) (left_of c.loop-line.lines) (left_of c.read_to_include.new.lines)
          (line_view c.in-Some.line) c.in-Some.path.now to c.in_ok-bytes.bytes.items came.0 here (tells c.include.new.store) (left_of c.of-included.result) same inside
          (state_of c.read_file.new.self) read.0);
      same = read.1 ∙ same;
      room = omega (arith, c.in_ok-line.ensures.room, c.loop-line.invariant.room);
      depth = c.in_ok-line.ensures.depth ∙ c.loop-line.invariant.depth;
    }
