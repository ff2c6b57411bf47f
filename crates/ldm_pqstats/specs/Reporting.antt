-- The report, as it is written.
use Rattle.std.specs.Prelude.{◌≡◌, ℕ, List, Result, Ok, Err}
use Rattle.ldm_outside.specs.Count.{Rose}
use Rattle.ldm_outside.specs.Io.{SinkRecord, Takes, WritesFront}
use Rattle.ldm_stats.specs.Report.{lines_of}
use Rattle.ldm_stats.specs.Table.{Table}
use Rattle.ldm_pqstats.specs.declared.end.ReportFault.{ReportFault}
use Rattle.ldm_pqstats.specs.declared.end.ReportFault.TheVariants.{OutOfMemory, SinkFault}

-- The sink took the text; or it failed, after a front of it; or nothing was written, for want of memory.
abbrev pub WritesText : Result (Unit {0}) ReportFault → List ℕ → SinkRecord → SinkRecord → Type 0
WritesText (Ok written) text old new = Takes old text new
WritesText (Err OutOfMemory) text old new = new ≡ old
WritesText (Err SinkFault) text old new = Rose old.faults new.faults × WritesFront old text new

abbrev pub WritesReport : Result (Unit {0}) ReportFault → Table → SinkRecord → SinkRecord → Type 0
WritesReport written stats old new = WritesText written (lines_of stats.entries) old new
