use Rattle.std.proofs.Common.{◌∙◌, arith}
use Rattle.ldm_conf.specs.LineViews.{left_of, line_view}
use Rattle.ldm_conf.specs.States.{state_of}
use Rattle.ldm_conf.proofs.Progress.{adds, fails_at, includes}
use Rattle.ldm_conf.proofs.reader.Reader.read_to_include.Goals as goal

pub loop-line-preserved : goal.loop-line-preserved
loop-line-preserved c =
    let on = rw c.in-Some.ensures.taken at c.loop-line.invariant.on in
    let adding = rw c.in-Ok-None.field-0-is at c.in-Ok-None.ensures.read in
    record {
      on = adds (state_of c.args.self.now) (state_of c.read_line.new.self) (left_of c.args.lines.now) (left_of c.take.new.self) (state_of c.loop-line.self) (line_view c.in-Some.line) on adding c.in-Ok-None.ensures.files;
      depth = c.in-Some.ensures.depth ∙ c.loop-line.invariant.depth;
      room = omega (arith, c.in-Some.ensures.room, c.loop-line.invariant.room);
      shorter = omega (arith, c.in-Some.ensures.shorter, c.loop-line.invariant.shorter);
    }

pub returns-in-Ok-Some-clause-read : goal.returns-in-Ok-Some-clause-read
returns-in-Ok-Some-clause-read c =
    let on = rw c.in-Some.ensures.taken at c.loop-line.invariant.on in
    let included = rw c.in-Ok-Some.field-0-is at c.in-Ok-Some.ensures.read in
    rw included.1
    (includes (state_of c.args.self.now) (state_of c.loop-line.self) (left_of c.args.lines.now) (left_of c.take.new.self) (line_view c.in-Some.line) c.in-Ok-Some.path.now on included.0)

pub returns-in-Err-clause-read : goal.returns-in-Err-clause-read
returns-in-Err-clause-read c =
    let on = rw c.in-Some.ensures.taken at c.loop-line.invariant.on in
    rw c.fault.ensures
    (fails_at (state_of c.args.self.now) (state_of c.loop-line.self) (left_of c.args.lines.now) (left_of c.take.new.self) (line_view c.in-Some.line) c.in-Err.kind on c.in-Err.ensures.read)
