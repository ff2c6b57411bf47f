use Rattle.ldm_journal.proofs.EventLemmas.{append_breaks, append_event, breaks_early, commit_breaks, commit_event, events_break, events_then, no_event, part_amid}
use Rattle.ldm_journal.proofs.laws.calls_make_events.Goals as goal

pub returns-clause-nothing : goal.returns-clause-nothing
returns-clause-nothing c = no_event

pub returns-clause-appended : goal.returns-clause-appended
returns-clause-appended c = append_event

pub returns-clause-committed : goal.returns-clause-committed
returns-clause-committed c = commit_event

pub returns-clause-not_appended : goal.returns-clause-not_appended
returns-clause-not_appended c = append_breaks

pub returns-clause-not_committed : goal.returns-clause-not_committed
returns-clause-not_committed c = commit_breaks

pub returns-clause-more : goal.returns-clause-more
returns-clause-more c = breaks_early

pub returns-clause-in_a_row : goal.returns-clause-in_a_row
returns-clause-in_a_row c = events_then

pub returns-clause-broken_off : goal.returns-clause-broken_off
returns-clause-broken_off c = events_break

pub returns-clause-part : goal.returns-clause-part
returns-clause-part c = part_amid
