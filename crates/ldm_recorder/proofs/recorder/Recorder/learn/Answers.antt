use Rattle.std.proofs.Common.{[], arith, refl, set, subst, sym}
use Rattle.ldm_shared.proofs.Made.{calls_trans}
use Rattle.ldm_recorder.specs.declared.recorder.Recorder.{Recorder}
use Rattle.ldm_recorder.specs.Catching.{IsSameButLasts}
use Rattle.ldm_recorder.specs.Numbers.{KnowsLasts}
use Rattle.ldm_recorder.proofs.Knowing.{knows_later, knows_put}
use Rattle.ldm_recorder.proofs.PuttingBack.{same_then}
use Rattle.ldm_recorder.proofs.recorder.Recorder.learn.Goals as goal
use Rattle.ldm_recorder.proofs.recorder.Recorder.learn.Goals.{in-Some-last_of, in_default-last_of}

pub loop-i-preserved : goal.loop-i-preserved
loop-i-preserved c =
    let begun = c.args.self.now in
    let s = c.loop-i.self in
    let i = c.loop-i.i in
    let p = c.loop-i.pass in
    let q = c.last_of.new.pass in
    let so_far = c.loop-i.invariant in
    let e = c.last_of.ensures in
    record {
      of = same_then c.args.pass.now p q so_far.of e.kept;
      calls = calls_trans c.args.pass.now p q [] [] so_far.calls e.calls;
      same = elim c.match-last_of.branch [
        | in-Some-last_of w ↦
            subst (λ (x : Recorder). IsSameButLasts begun x) (sym w.self-is)
            (record { journal = so_far.same.journal; reader = so_far.same.reader; base = so_far.same.base; lines = so_far.same.lines })
        | in_default-last_of w ↦ subst (λ (x : Recorder). IsSameButLasts begun x) (sym w.self-is) so_far.same
      ];
      knows = λ knows.
          (let still = knows_later p.seen q.seen s e.calls.adds.begins (so_far.knows knows) in
          elim c.match-last_of.branch [
            | in-Some-last_of w ↦
                subst (λ (x : Recorder). KnowsLasts q.seen x) (sym w.self-is)
                (knows_put q.seen s (record s { lasts = set s.lasts i w.in-Some-last_of.last }) i c.in-Some.line c.args.at w.in-Some-last_of.last still (sym c.in-Some.ensures) (omega arith)
                w.in-Some-last_of.ensures.put refl refl refl)
            | in_default-last_of w ↦ subst (λ (x : Recorder). KnowsLasts q.seen x) (sym w.self-is) still
          ]);
    }
