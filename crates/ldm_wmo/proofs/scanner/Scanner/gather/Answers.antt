use Rattle.std.proofs.Common.{◌≡◌, length, rules}
use Rattle.ldm_wmo.proofs.Fronts.{gather_before, gather_open, gather_with}
use Rattle.ldm_wmo.proofs.scanner.Scanner.gather.Goals as goal

pub returns-in-Open-clause-front : goal.returns-in-Open-clause-front
returns-in-Open-clause-front c =
    let len : c.len.result ≡ length c.self.inside.candidate.items = search rules in
    gather_open c.self.inside.place c.self.inside.candidate.items c.in-Within.at c.self.inside.stage c.args.self.now c.copy.new.self c.args.piece.now
    c.self.view_is c.in-Within.is c.self.invariant.small (rw len at c.in-Open.ensures) c.copy.ensures

pub returns-in-EndsBefore-clause-front : goal.returns-in-EndsBefore-clause-front
returns-in-EndsBefore-clause-front c =
    let len : c.len.result ≡ length c.self.inside.candidate.items = search rules in
    gather_before c.self.inside.place c.self.inside.candidate.items c.in-Within.at c.self.inside.stage c.args.self.now c.copy-in-EndsBefore.new.self c.args.piece.now c.in-EndsBefore.count
    c.self.view_is c.in-Within.is c.self.invariant.small (rw len at c.in-EndsBefore.ensures) c.copy-in-EndsBefore.ensures

pub returns-in-EndsWith-clause-front : goal.returns-in-EndsWith-clause-front
returns-in-EndsWith-clause-front c =
    let len : c.len.result ≡ length c.self.inside.candidate.items = search rules in
    gather_with c.self.inside.place c.self.inside.candidate.items c.in-Within.at c.self.inside.stage c.args.self.now c.copy-in-EndsWith.new.self c.args.piece.now c.in-EndsWith.last
    c.self.view_is c.in-Within.is c.self.invariant.small (rw len at c.in-EndsWith.ensures) c.copy-in-EndsWith.ensures
