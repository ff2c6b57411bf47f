use Rattle.std.proofs.Common.{◌+◌, ◌-◌, ◌≡◌, drop, length, arith, length-drop}
use Rattle.std.proofs.lemmas.List.{take_rest}
use Rattle.ldm_wmo.proofs.Fronts.{HasTaken, has_taken}
use Rattle.ldm_wmo.proofs.scanner.Scanner.push_line.Goals as goal

taken : (c : goal.After-gather) → HasTaken c.args.self.now c.args.piece.now (c.begin-begun.result + c.gather.result) c.gather.new.self
taken c =
    let piece = c.args.piece.now in
    let n = c.begin-begun.result in
    let m = c.gather.result in
    let len : length (drop n piece) ≡ length piece - n = length-drop n piece in
    let ended = rw take_rest at c.gather.ensures.ends in
    has_taken c.args.self.now c.begin-begun.new.self c.gather.new.self piece n m c.begin-begun.ensures.front (rw take_rest at c.gather.ensures.front)
    (λ short. ended (c.begin-begun.ensures.ends (omega arith)) (omega arith))

pub returns-clause-after : goal.returns-clause-after
returns-clause-after c = (taken c).after_is

pub returns-clause-taken : goal.returns-clause-taken
returns-clause-taken c = (taken c).count_is
