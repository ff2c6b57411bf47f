use Rattle.ldm_pattern.proofs.bounded.BoundedPattern.matcher.Goals as goal

pub invariant_of-result : goal.invariant_of-result
invariant_of-result c = record {
  finds = rw c.deref.ensures.value c.self.invariant;
  tables = c.in_ok-with_budget.ensures.own;
  room = rw c.in_ok-new.ensures;
}
