use Rattle.std.proofs.Common.{ℕ, List, subst, arith, rules}
use Rattle.ldm_rpc.specs.Taking.{TakesFront}
use Rattle.ldm_rpc.proofs.Pushing.{pushed_all, pushed_whole, pushing_more, rest_of}
use Rattle.ldm_rpc.proofs.kept_records.KeptRecords.push.Goals as goal

pub loop-taken-preserved : goal.loop-taken-preserved
loop-taken-preserved g c =
    let pushed = c.in_ok-taken.ensures in (
      pushing_more c.args.self.now c.loop-taken.self c.push_some.new.self c.args.piece.now c.loop-taken.taken c.in_ok-taken.field-0
          c.loop-taken.invariant.0
          (subst (λ (rest : List ℕ). TakesFront c.loop-taken.self rest c.in_ok-taken.field-0 c.push_some.new.self) (rest_of c.args.piece.now c.loop-taken.taken) pushed.taken)
          pushed.sound,
      search rules,
    )

pub returns-else-not-is_whole-clause-after : goal.returns-else-not-is_whole-clause-after
returns-else-not-is_whole-clause-after g c =
    (pushed_whole c.args.self.now c.loop-taken.self c.args.piece.now c.loop-taken.taken c.requires.ready (grind arith) c.loop-taken.invariant.0).after

pub returns-else-not-is_whole-clause-taken : goal.returns-else-not-is_whole-clause-taken
returns-else-not-is_whole-clause-taken g c =
    (pushed_whole c.args.self.now c.loop-taken.self c.args.piece.now c.loop-taken.taken c.requires.ready (grind arith) c.loop-taken.invariant.0).taken

pub returns-after-loop-taken-clause-after : goal.returns-after-loop-taken-clause-after
returns-after-loop-taken-clause-after g c =
    (pushed_all c.args.self.now c.loop-taken.self c.args.piece.now c.loop-taken.taken c.requires.some (omega arith) c.loop-taken.invariant.0).after

pub returns-after-loop-taken-clause-taken : goal.returns-after-loop-taken-clause-taken
returns-after-loop-taken-clause-taken g c =
    (pushed_all c.args.self.now c.loop-taken.self c.args.piece.now c.loop-taken.taken c.requires.some (omega arith) c.loop-taken.invariant.0).taken
