use Rattle.std.proofs.Common.{refl, subst, sym}
use Rattle.std.specs.Prelude.{Err, Ok}
use Rattle.ldm_disk.specs.Desks.{desk_tells}
use Rattle.ldm_recorder.specs.declared.end.RecordEnd.{RecordEnd}
use Rattle.ldm_recorder.specs.declared.end.RecordEnd.TheVariants as recording
use Rattle.ldm_node.specs.Clerks.{Closes, clerk_tells}
use Rattle.ldm_node.proofs.clerk.Seat.close.Goals as goal

pub returns-in-Ok : goal.returns-in-Ok
returns-in-Ok g c =
    let tells = desk_tells g.F.Disk.tells g.E.Sink.tells g.C.Clock.tells g.G.Gate.tells in
    let old = c.args.self.clerk in
    let left = tells (record { disk = c.finish.new.disk; log = c.finish.new.log; clock = old.desk.clock; gate = old.desk.gate }) in
    record {
      closes = λ s stands.
          subst (λ (why : RecordEnd). Closes why s (recording.Stopped c.in-Stopped.at) (clerk_tells tells old) left) (sym c.in-Stopped.is)
          (record {
            recorder = c.finish.new.self;
            same = c.in-Ok.ensures.same;
            gate = refl;
            ended = Ok tt;
            ends = refl;
            finishes = c.in-Ok.ensures.finished s stands;
          });
    }

pub returns-in-Stopped : goal.returns-in-Stopped
returns-in-Stopped g c =
    let tells = desk_tells g.F.Disk.tells g.E.Sink.tells g.C.Clock.tells g.G.Gate.tells in
    let old = c.args.self.clerk in
    let left = tells (record { disk = c.finish.new.disk; log = c.finish.new.log; clock = old.desk.clock; gate = old.desk.gate }) in
    record {
      closes = λ s stands.
          subst (λ (why : RecordEnd). Closes why s c.in-Err.why (clerk_tells tells old) left) (sym c.in-Stopped.is)
          (record {
            recorder = c.finish.new.self;
            same = c.in-Err.ensures.same;
            gate = refl;
            ended = Err c.in-Err.why;
            ends = refl;
            finishes = c.in-Err.ensures.finished s stands;
          });
    }
