use Rattle.std.proofs.Common.{List, arith, refl, subst}
use Rattle.ldm_recorder.specs.declared.line.Line.{Line}
use Rattle.ldm_recorder.specs.Lines.{AreLasts}
use Rattle.ldm_recorder.specs.declared.recorder.TheConstants.{EVERY_FEEDTYPE}
use Rattle.ldm_model.specs.declared.event.Start.TheVariants as start
use Rattle.ldm_recorder.proofs.Numbering.{ahead_opened}
use Rattle.ldm_recorder.proofs.recorder.Recorder.open.Goals as goal

pub returns-in-Done-Opened-clause-opened : goal.returns-in-Done-Opened-clause-opened
returns-in-Done-Opened-clause-opened g c =
    let at = rw c.in-Done-Opened.field-0-is at c.in-Done-Opened.ensures in
    record {
      grows = at.done;
      journal_is = refl;
      base = c.next_number-base.ensures;
      lines_are = refl;
      ready = record {
        cursor = at.cursor;
        least = 0;
        ahead = ahead_opened c.args.pass.now c.open.new.pass c.in-Done-Opened.reader.k EVERY_FEEDTYPE start.Next at.done;
        numbers = omega (arith, c.next_number-base.ensures);
        knows = record {
          at = 0;
          lasts =
              subst (λ (l : List Line). AreLasts c.next_number-base.result 0 c.open.new.pass.seen l c.lasts_of-lasts.result) c.deref.ensures.value
              (c.lasts_of-lasts.ensures c.next_number-base.result c.open.new.pass.seen);
        };
      };
    }
