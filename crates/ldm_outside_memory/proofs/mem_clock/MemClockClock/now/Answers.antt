use Rattle.ldm_outside_memory.proofs.ClockLemmas.{Answers-planned}
use Rattle.ldm_outside_memory.proofs.mem_clock.MemClockClock.now.Goals as goal

pub returns-clause-answered : goal.returns-clause-answered
returns-clause-answered c =
    rw (← c.self.view_is, c.saturating_add-self-inside.ensures, c.instant_at-instant.ensures, c.deref.ensures.value) (Answers-planned (record { instants = c.self.inside.instants.items; calls = c.self.inside.calls }))
