use Rattle.std.proofs.Common.{◌≡◌, ◌-◌, ◌≤◌, false, length}
use Rattle.ldm_wmo.specs.Scanning.{is_complete, is_line}
use Rattle.ldm_wmo.specs.Taking.{TakesFront}
use Rattle.ldm_wmo.proofs.scanner.Scanner.push_framed.Given as goal

abbrev pub invariant-loop-at : goal.invariant-loop-at
invariant-loop-at l = record {
  within : l.at ≤ length l.piece;
  front : TakesFront l.fn.self l.piece l.at l.self;
  framed : is_line l.self ≡ false;
  unmoved : l.at ≡ 0 → is_complete l.self ≡ false;
}

abbrev pub decreases-loop-at : goal.decreases-loop-at
decreases-loop-at l = length l.piece - l.at
