use Rattle.std.proofs.Common.{◌≡◌, ◌≢◌, List, ℕ, length, take, subst, sym}
use Rattle.std.specs.Prelude.{IsTrue}
use Rattle.ldm_journal.specs.Format.{opening}
use Rattle.ldm_journal.proofs.OpenLemmas.{not_opened}
use Rattle.std.proofs.lemmas.Bool.{both_ways}
use Rattle.ldm_journal.proofs.open.judge_front.Goals as goal

pub judge_head-requires-clause-opened : goal.judge_head-requires-clause-opened
judge_head-requires-clause-opened c =
    let front = c.args.front.now in
    let held : IsTrue c.begins.result = c.if-begins.true in
    subst (λ (l : List ℕ). take (length l) front ≡ l) c.opening.ensures (c.begins.ensures.0 held)

pub returns-else-begins-clause-judged : goal.returns-else-begins-clause-judged
returns-else-begins-clause-judged c = λ file is long.
    let front = c.args.front.now in
    let other : take 24 front ≢ opening c.args.ring = λ same.
    both_ways c.begins.result c.if-begins.false (c.begins.ensures.1 (subst (λ (l : List ℕ). take (length l) front ≡ l) (sym c.opening.ensures) same)) in
    not_opened c.args.ring front file is other
