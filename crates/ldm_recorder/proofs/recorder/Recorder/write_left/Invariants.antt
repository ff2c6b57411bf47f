use Rattle.std.proofs.Common.{◌≡◌, drop}
use Rattle.ldm_model.specs.State.{State, queued}
use Rattle.ldm_book.specs.Stands.{StandsFor}
use Rattle.ldm_shared.specs.Passes.{PassView}
use Rattle.ldm_recorder.specs.Finishing.{behind_all, turns_queued}
use Rattle.ldm_recorder.specs.Numbers.{IsBehind}
use Rattle.ldm_recorder.specs.Recording.{sight_of, who_of}
use Rattle.ldm_recorder.specs.Taking.{IsSameRecorder}
use Rattle.ldm_recorder.proofs.Leaving.{LeftAt}
use Rattle.ldm_recorder.proofs.recorder.Recorder.write_left.Given as goal

abbrev pub invariant-loop-i : goal.invariant-loop-i
invariant-loop-i g l = record {
  same : IsSameRecorder l.fn.self l.self;
  lasts : l.self.lasts ≡ l.fn.self.lasts;
  behind : IsBehind l.self l.next;
  next : (s : State) → StandsFor l.book s → behind_all l.next (drop l.i (queued s)) ≡ behind_all l.fn.from (queued s);
  wrote : (s : State) → StandsFor l.book s → (pass : PassView) → LeftAt (who_of pass l.fn.self)
      (turns_queued l.fn.self.base l.fn.from (queued s)) (turns_queued l.fn.self.base l.next (drop l.i (queued s)))
      (sight_of pass l.fn.self (g.D.Disk.tells l.fn.disk) (g.E.Sink.tells l.fn.log)) (sight_of pass l.self (g.D.Disk.tells l.disk) (g.E.Sink.tells l.log));
}
