use Rattle.std.proofs.Common.{◌≡◌, []}
use Rattle.ldm_wmo.proofs.Fronts.{begin_found, begin_passed}
use Rattle.ldm_wmo.proofs.scanner.Scanner.begin.Goals as goal

pub returns-in_default-memchr-clause-front : goal.returns-in_default-memchr-clause-front
returns-in_default-memchr-clause-front c =
    begin_passed c.self.inside.place c.self.inside.candidate.items c.self.inside.stage c.args.self.now c.pass.new.self c.args.piece.now c.self.view_is c.in-Outside.is
    c.self.invariant.small c.in_default-memchr.ensures c.pass.ensures

pub returns-clause-front : goal.returns-clause-front
returns-clause-front c =
    let none : c.self.inside.candidate.items ≡ [] = rw c.in-Outside.is at c.self.invariant.stage in
    begin_found c.self.inside.place c.self.inside.candidate.items c.self.inside.stage c.args.self.now c.pass-2.new.self c.copy.new.self
    c.self-2.inside.place c.self-2.inside.candidate.items c.self-2.inside.stage c.args.piece.now c.in-Some.at c.self.view_is c.in-Outside.is none
    c.self.invariant.small c.in-Some.ensures c.pass-2.ensures c.self-2.view_is c.copy.ensures
