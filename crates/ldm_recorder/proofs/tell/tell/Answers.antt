use Rattle.std.proofs.Common.{subst, sym}
use Rattle.ldm_recorder.specs.declared.end.RecordEnd.{RecordEnd}
use Rattle.ldm_recorder.specs.Failing.{TellsFault}
use Rattle.ldm_recorder.proofs.Failing.{not_told}
use Rattle.ldm_recorder.proofs.tell.tell.Goals as goal

pub returns-in-DiskFault : goal.returns-in-DiskFault
returns-in-DiskFault g c =
    let lines = g.E.Sink.tells in
    record { told = subst (λ (why : RecordEnd). TellsFault why (lines c.args.log.now) (lines c.say.new.log)) (sym c.in-DiskFault.is) c.say.ensures.said }

pub returns-in-NotAJournal : goal.returns-in-NotAJournal
returns-in-NotAJournal g c =
    let lines = g.E.Sink.tells in
    record {
      told =
          subst (λ (why : RecordEnd). TellsFault why (lines c.args.log.now) (lines c.say-in-NotAJournal.new.log)) (sym c.in-NotAJournal.is) c.say-in-NotAJournal.ensures.said;
    }

pub returns-in_default : goal.returns-in_default
returns-in_default g c =
    record { told = not_told c.args.why (g.E.Sink.tells c.args.log.now) c.in_default.not-DiskFault c.in_default.not-NotAJournal }
