use Rattle.std.proofs.Common.{◌≡◌, ◌-◌, ◌≤◌, ◌++◌, vec_capacity}
use Rattle.ldm_book.proofs.CreateLemmas.{down_from}
use Rattle.ldm_book.proofs.products.Products.create.Given as goal

-- the free slots so far stand in front of those to come
abbrev pub invariant-loop-behind : goal.invariant-loop-behind
invariant-loop-behind l = record {
  free : l.free.items ++ down_from (l.slots - l.behind) ≡ down_from l.slots;
  roomy : l.slots ≤ vec_capacity l.free;
}
