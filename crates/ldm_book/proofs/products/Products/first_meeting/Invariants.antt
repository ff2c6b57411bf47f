use Rattle.std.proofs.Common.{◌≡◌, ◌-◌, ◌^◌}
use Rattle.std.specs.List.{find}
use Rattle.ldm_book.specs.Products.{awaits}
use Rattle.ldm_book.proofs.products.Products.first_meeting.Given as goal

abbrev pub invariant-loop-row : goal.invariant-loop-row
invariant-loop-row l = find (awaits l.at l.feed.0) l.self.rows ≡ find (awaits l.n l.feed.0) l.self.rows

abbrev pub decreases-loop-row : goal.decreases-loop-row
decreases-loop-row l = 2 ^ 63 - l.at
