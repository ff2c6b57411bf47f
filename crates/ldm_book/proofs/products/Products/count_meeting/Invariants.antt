use Rattle.std.proofs.Common.{◌≡◌, ◌+◌, ◌-◌, ◌^◌, ◌≤◌}
use Rattle.std.specs.Prelude.{count_by}
use Rattle.ldm_book.specs.Products.{awaits}
use Rattle.ldm_book.proofs.products.Products.count_meeting.Given as goal

abbrev pub invariant-loop-row : goal.invariant-loop-row
invariant-loop-row l = record {
  counted : l.count + count_by (awaits l.at l.feed.0) l.self.rows ≡ count_by (awaits l.n l.feed.0) l.self.rows;
  few : l.count ≤ l.at;
}

abbrev pub decreases-loop-row : goal.decreases-loop-row
decreases-loop-row l = 2 ^ 63 - l.at
