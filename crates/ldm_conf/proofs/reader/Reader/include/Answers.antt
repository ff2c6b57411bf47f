use Rattle.std.proofs.Common.{refl}
use Rattle.ldm_conf.specs.LineViews.{line_view}
use Rattle.ldm_conf.proofs.Progress.{may, wanted}
use Rattle.ldm_conf.proofs.reader.Reader.include.Goals as goal

pub returns-in-TooLong : goal.returns-in-TooLong
returns-in-TooLong g c =
    let line = line_view c.args.line in
    rw c.fault-in-TooLong.ensures record {
      line = line;
      path = c.args.path.now;
      wanted = wanted c.args.self.now.files line c.args.path.now (may c.args.self.now.files line c.if-line-ge-DEEPEST_INCLUDE.false c.if-self-ge-MOST_FILES.false);
      place = (refl, refl);
      answered = c.in-TooLong.ensures.read;
    }

pub returns-in-Failed : goal.returns-in-Failed
returns-in-Failed g c =
    let line = line_view c.args.line in
    rw c.fault-in-Failed.ensures record {
      line = line;
      path = c.args.path.now;
      wanted = wanted c.args.self.now.files line c.args.path.now (may c.args.self.now.files line c.if-line-ge-DEEPEST_INCLUDE.false c.if-self-ge-MOST_FILES.false);
      place = (refl, refl);
      answered = c.in-Failed.ensures.read;
    }
