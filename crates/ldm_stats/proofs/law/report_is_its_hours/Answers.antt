use Rattle.ldm_stats.proofs.Hours.{report_joined, report_rising}
use Rattle.ldm_stats.proofs.law.report_is_its_hours.Goals as goal

pub returns-clause-joined : goal.returns-clause-joined
returns-clause-joined c = report_joined

pub returns-clause-rising : goal.returns-clause-rising
returns-clause-rising c = report_rising
