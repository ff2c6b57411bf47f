use Rattle.std.proofs.Common.{◌∙◌, subst, sym}
use Rattle.ldm_shared.proofs.Made.{calls_none, calls_some}
use Rattle.ldm_pqact.specs.declared.end.ActEnd.{ActEnd}
use Rattle.ldm_pqact.specs.Acted.{ActsOpened, situation_of}
use Rattle.ldm_actions.specs.Outputs.{standing}
use Rattle.ldm_pqact.proofs.Closing.{acts_closed, acts_worn, worn_cause}
use Rattle.ldm_pqact.proofs.acting.Follower.run.Goals as goal

pub returns-in-Worn : goal.returns-in-Worn
returns-in-Worn g c = record {
  acts = λ first opened.
      let old = situation_of first (g.F.Store.tells c.args.store.now) (g.L.Launcher.tells c.args.launcher.now) (g.E.Sink.tells c.args.log.now) (g.G.Gate.tells c.args.gate.now) in
      let new =
      situation_of c.follow-ended.new.pass (g.F.Store.tells c.close-answer.new.store) (g.L.Launcher.tells c.close-answer.new.launcher) (g.E.Sink.tells c.follow-ended.new.log)
      (g.G.Gate.tells c.follow-ended.new.gate) in
      acts_worn c.products_stay.ensures.stays c.args.self.now.pqact.entries c.args.self.now.reader.k old new c.args.pass.now c.follow-ended.new.pass
      (standing c.follow-ended.new.self.pqact.outputs (g.F.Store.tells c.follow-ended.new.store) (g.L.Launcher.tells c.follow-ended.new.launcher)) c.close-answer.new.self.outputs
      c.follow-ended.result c.close-answer.result c.args.self.now.pqact.outputs c.requires.outputs opened c.follow-ended.ensures.follows c.close-answer.ensures.closed
      (calls_none c.follow-ended.new.pass)
      (worn_cause c.args.self.now.pqact.entries c.args.self.now.reader.k c.follow-ended.result _ _ c.follow-ended.ensures.follows c.in-Worn.is);
}

pub returns-in-Done : goal.returns-in-Done
returns-in-Done g c = record {
  acts = λ first opened.
      let old = situation_of first (g.F.Store.tells c.args.store.now) (g.L.Launcher.tells c.args.launcher.now) (g.E.Sink.tells c.args.log.now) (g.G.Gate.tells c.args.gate.now) in
      let new =
      situation_of c.close.new.pass (g.F.Store.tells c.close-answer.new.store) (g.L.Launcher.tells c.close-answer.new.launcher) (g.E.Sink.tells c.follow-ended.new.log)
      (g.G.Gate.tells c.follow-ended.new.gate) in
      subst (λ (why : ActEnd). ActsOpened why c.args.self.now.pqact.entries old new) (sym c.end_after.ensures)
      (acts_closed c.products_stay.ensures.stays c.args.self.now.pqact.entries c.args.self.now.reader.k old new c.args.pass.now c.follow-ended.new.pass
      (standing c.follow-ended.new.self.pqact.outputs (g.F.Store.tells c.follow-ended.new.store) (g.L.Launcher.tells c.follow-ended.new.launcher)) c.close-answer.new.self.outputs
      c.follow-ended.result c.close-answer.result c.args.self.now.pqact.outputs c.requires.outputs opened c.follow-ended.ensures.follows c.close-answer.ensures.closed
      c.in_default.not-Worn c.in-Done.ensures.done);
}

pub returns-in-Worn-close : goal.returns-in-Worn-close
returns-in-Worn-close g c = record {
  acts = λ first opened.
      let old = situation_of first (g.F.Store.tells c.args.store.now) (g.L.Launcher.tells c.args.launcher.now) (g.E.Sink.tells c.args.log.now) (g.G.Gate.tells c.args.gate.now) in
      let new =
      situation_of c.close.new.pass (g.F.Store.tells c.close-answer.new.store) (g.L.Launcher.tells c.close-answer.new.launcher) (g.E.Sink.tells c.follow-ended.new.log)
      (g.G.Gate.tells c.follow-ended.new.gate) in
      let worn = c.in-Worn-close.ensures.worn in
      acts_worn c.products_stay.ensures.stays c.args.self.now.pqact.entries c.args.self.now.reader.k old new c.args.pass.now c.follow-ended.new.pass
      (standing c.follow-ended.new.self.pqact.outputs (g.F.Store.tells c.follow-ended.new.store) (g.L.Launcher.tells c.follow-ended.new.launcher)) c.close-answer.new.self.outputs
      c.follow-ended.result c.close-answer.result c.args.self.now.pqact.outputs c.requires.outputs opened c.follow-ended.ensures.follows c.close-answer.ensures.closed
      (calls_some c.follow-ended.new.pass c.close.new.pass _ worn.makes) (worn.long ∙ worn.turns_are);
}
