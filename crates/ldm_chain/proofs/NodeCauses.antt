-- The cause of a chain's end, at the node that it came from, and what stands in the queues then.
use Rattle.std.proofs.Common.{◌≡◌, ℕ, ◌+◌, List, [], ◌∷◌, ◌++◌, refl, ap, sym, subst, ◌∙◌, arith}
use Rattle.std.specs.List.{AllByRecursion}
use Rattle.ldm_model.specs.declared.event.Entry.{Entry}
use Rattle.ldm_model.specs.History.{after}
use Rattle.ldm_class.specs.Rules.{Rules}
use Rattle.ldm_outside.specs.Clock.{Answers, ClockRecord}
use Rattle.ldm_shared.specs.Passes.{PassView}
use Rattle.ldm_session.specs.Exchange.{AnsweredAll}
use Rattle.ldm_session.proofs.CallerLemmas.{AnsweredAll-one, AnsweredAll-then}
use Rattle.ldm_sender.specs.Asked.{Asked}
use Rattle.ldm_between_ends.specs.OnePass.{IsOnlyPass, state_of}
use Rattle.ldm_between_ends.specs.Reading.{KeepsProducts}
use Rattle.ldm_chain.specs.declared.node.Break.{Break}
use Rattle.ldm_chain.specs.declared.node.ChainEnd.{ChainEnd}
use Rattle.ldm_chain.specs.declared.node.ChainNode.{ChainNode}
use Rattle.ldm_chain.specs.Breaking.{Breaks, BreaksAt, BreaksEach}
use Rattle.ldm_chain.specs.Causes.{AreAllTaken, CauseAt, CauseEach, StoodSo}
use Rattle.ldm_chain.specs.Ending.{end_by}
use Rattle.ldm_chain.specs.Linking.{Links, asked_by, host_name}
use Rattle.ldm_chain.specs.Nodes.{KeepsNode, KeepsNodes}
use Rattle.ldm_chain.specs.Queues.{AreToBeFed, IsChain, QueuesEach, as_reduced, fed_from, new_queue, products_due}
use Rattle.ldm_chain.specs.Standing.{KeepQueues, StandsUpTo}
use Rattle.ldm_chain.proofs.Cursors.{passed-from}
use Rattle.ldm_chain.proofs.KeepingFeeder.{all-kept}
use Rattle.ldm_chain.proofs.NodeLinks.{keeps-same}
use Rattle.ldm_chain.proofs.NodeQueues.{LinkLaw}

-- ---- one after another

-- one of some nodes broke the chain, at the last of the instants that the clock answered
abbrev pub IsBroken : ℕ → Rules → ChainEnd → (olds news : List ChainNode) → (clock clock' : ClockRecord) → Type 0
IsBroken i rules end olds news clock clock' = (instants : List ℕ) × AnsweredAll instants clock clock' × BreaksEach i rules end olds news instants

-- the first of those that are fed broke it
pub breaks-first : (i now : ℕ) (host : List ℕ) (rules : Rules) (end : ChainEnd) (why : Break) (from from' : ChainNode) (all : List ChainNode) (to to' : ChainNode) (olds : List ChainNode)
    (clock clock' : ClockRecord) → all ≡ to ∷ olds → host ≡ host_name i → end ≡ end_by why
    → Breaks why (asked_by host rules 1 to.class to.max_hereis) from.pass from'.pass to.pass to'.pass → Answers now clock clock'
    → IsBroken i rules end (from ∷ all) (from' ∷ to' ∷ olds) clock clock'
breaks-first i now host rules end why from from' all to to' olds clock clock' is named ended breaks answers =
    subst (λ (ns : List ChainNode). IsBroken i rules end (from ∷ ns) (from' ∷ to' ∷ olds) clock clock') (sym is) (
      now ∷ [],
      AnsweredAll-one now clock clock' answers,
      (
        record {
          why = why;
          is = ended;
          breaks = subst (λ (name : List ℕ). Breaks why (asked_by name rules 1 to.class to.max_hereis) from.pass from'.pass to.pass to'.pass) named breaks;
        },
        refl,
      ),
    )

-- where it broke, there was an instant
record HasInstant (instants : List ℕ) : Type 0 where
  first : ℕ
  later : List ℕ
  is : instants ≡ first ∷ later

some-instant : (i : ℕ) (rules : Rules) (end : ChainEnd) (olds news : List ChainNode) (instants : List ℕ) → BreaksEach i rules end olds news instants → HasInstant instants
some-instant i rules end olds news (now ∷ instants) breaks = record { first = now; later = instants; is = refl }
some-instant i rules end [] news [] breaks = absurd breaks
some-instant i rules end (from ∷ []) news [] breaks = absurd breaks
some-instant i rules end (from ∷ old ∷ olds) [] [] breaks = absurd breaks
some-instant i rules end (from ∷ old ∷ olds) (to ∷ []) [] breaks = absurd breaks
some-instant i rules end (from ∷ old ∷ olds) (to ∷ new ∷ news) [] breaks = absurd breaks

-- it was fed, and one behind it broke the chain
pub breaks-behind : (i now : ℕ) (host : List ℕ) (rules : Rules) (end : ChainEnd) (from from' : ChainNode) (all : List ChainNode) (to to' to'' : ChainNode) (olds news : List ChainNode)
    (clock mid clock' : ClockRecord) → all ≡ to ∷ olds → host ≡ host_name i → KeepsNode to to'
    → Links (asked_by host rules 1 to.class to.max_hereis) now from.pass from'.pass to.pass to'.pass → Answers now clock mid → IsBroken (i + 1) rules end (to' ∷ olds) (to'' ∷ news) mid clock' → IsBroken i rules end (from ∷ all) (from' ∷ to'' ∷ news) clock clock'
breaks-behind i now host rules end from from' all to to' to'' olds news clock mid clock' is named keeps links answers behind =
    let has = some-instant (i + 1) rules end (to' ∷ olds) (to'' ∷ news) behind.0 behind.2 in
    let linked = subst (λ (name : List ℕ). Links (asked_by name rules 1 to.class to.max_hereis) now from.pass from'.pass to.pass to'.pass) named links in
    let rest : BreaksEach (i + 1) rules end (to' ∷ olds) (to'' ∷ news) (has.first ∷ has.later) =
    subst (λ (ns : List ℕ). BreaksEach (i + 1) rules end (to' ∷ olds) (to'' ∷ news) ns) has.is behind.2 in
    let all_answered = AnsweredAll-then (now ∷ []) behind.0 clock mid clock' (AnsweredAll-one now clock mid answers) behind.1 in
    subst (λ (ns : List ChainNode). IsBroken i rules end (from ∷ ns) (from' ∷ to'' ∷ news) clock clock') (sym is)
    (now ∷ has.first ∷ has.later, subst (λ (later : List ℕ). AnsweredAll (now ∷ later) clock clock') has.is all_answered, (to', keeps, linked, rest))

-- ---- causes

-- the law of an end
abbrev pub CauseLaw : Type 0
CauseLaw = (end : ChainEnd) (asked : Asked) (found old new before after : PassView) → BreaksAt end asked old new before after → asked.xid ≡ 1 → IsOnlyPass old → IsOnlyPass before → before.seen ≡ []
    → StoodSo found old → CauseAt end asked found new

-- and of what it leaves
abbrev pub KeepLaw : Type 0
KeepLaw = (end : ChainEnd) (asked : Asked) (old new before after : PassView) → BreaksAt end asked old new before after → IsOnlyPass old → KeepsProducts (state_of old) (state_of new)

module _ (law : LinkLaw) (causes : CauseLaw) (rules : Rules) (end : ChainEnd) where
  -- `found`: the node before, as the chain found it; `from`: as it stood when it came to feed the next one
  cause-each : (i : ℕ) (found from to : ChainNode) (olds news : List ChainNode) (instants : List ℕ) → BreaksEach i rules end (from ∷ olds) (to ∷ news) instants
      → StoodSo found.pass from.pass → IsOnlyPass from.pass → AreToBeFed olds → CauseEach i rules end (found ∷ olds) (to ∷ news) instants
  cause-each i found from to [] news instants breaks stood only fed = absurd breaks
  cause-each i found from to (old ∷ olds) [] instants breaks stood only fed = absurd breaks
  cause-each i found from to (old ∷ olds) (new ∷ news) [] breaks stood only fed = absurd breaks
  cause-each i found from to (old ∷ olds) (new ∷ news) (now ∷ []) breaks stood only fed =
      let asked = asked_by (host_name i) rules 1 old.class old.max_hereis in
      causes end asked found.pass from.pass to.pass old.pass new.pass breaks.0 refl only fed.0.only fed.0.not_called stood
  cause-each i found from to (old ∷ olds) (new ∷ news) (now ∷ next ∷ instants) breaks stood only fed =
      let asked = asked_by (host_name i) rules 1 old.class old.max_hereis in
      let there = law.only asked now from.pass to.pass old.pass breaks.0.pass breaks.2 refl only fed.0.only fed.0.class in
      let queue = law.queue asked now from.pass to.pass old.pass breaks.0.pass breaks.2 refl only fed.0.only fed.0.class in
      let there_stood : StoodSo old.pass breaks.0.pass = record {
        calls = law.calls asked now from.pass to.pass old.pass breaks.0.pass breaks.2 refl only fed.0.only fed.0.class;
        taken = λ all. passed-from 0 asked.max_hereis now (products_due (as_reduced asked) (state_of from.pass)) (state_of old.pass) (subst AreAllTaken queue all);
      } in
      cause-each (i + 1) old breaks.0 new olds news (next ∷ instants) breaks.3 there_stood there fed.1

  -- the same, where the nodes are given by the first one and the others
  pub causes-of : (all : List ChainNode) (first : ChainNode) (others : List ChainNode) (new : ChainNode) (news : List ChainNode) (instants : List ℕ) → all ≡ first ∷ others → IsChain all
      → BreaksEach 1 rules end (first ∷ others) (new ∷ news) instants → CauseEach 1 rules end all (new ∷ news) instants
  causes-of all first others new news instants is fed breaks =
      let there : IsChain (first ∷ others) = subst IsChain is fed in
      subst (λ (ns : List ChainNode). CauseEach 1 rules end ns (new ∷ news) instants) (sym is)
      (cause-each 1 first first new others news instants breaks (record { calls = omega arith; taken = λ all. all }) there.0 there.1)

-- ---- what stands

-- The same of nodes behind one that stood so when it came to feed them, and stands so now.
record StandsBehind (i : ℕ) (rules : Rules) (from to : ChainNode) (olds news : List ChainNode) (instants : List ℕ) : Type 0 where
  front : List ChainNode
  broken : ChainNode
  behind : List ChainNode
  olds_are : olds ≡ front ++ broken ∷ behind
  fed : List ChainNode
  moments : List ℕ
  same : KeepsNodes front fed
  only : AllByRecursion (λ (node : ChainNode). IsOnlyPass node.pass) fed
  queues : QueuesEach i rules (state_of from.pass) front fed moments
  last : ℕ
  instants_are : instants ≡ moments ++ last ∷ []
  left : List ChainNode
  from_kept : KeepsProducts (state_of from.pass) (state_of to.pass)
  kept : KeepQueues fed left
  part : ChainNode
  news_are : news ≡ left ++ part ∷ behind

module _ (law : LinkLaw) (keeps : KeepLaw) (rules : Rules) (end : ChainEnd) where
  stands-each : (i : ℕ) (from to : ChainNode) (olds news : List ChainNode) (instants : List ℕ) → BreaksEach i rules end (from ∷ olds) (to ∷ news) instants
      → IsOnlyPass from.pass → AreToBeFed olds → StandsBehind i rules from to olds news instants
  stands-each i from to [] news instants breaks only fed = absurd breaks
  stands-each i from to (old ∷ olds) [] instants breaks only fed = absurd breaks
  stands-each i from to (old ∷ olds) (new ∷ news) [] breaks only fed = absurd breaks
  stands-each i from to (old ∷ olds) (new ∷ news) (now ∷ []) breaks only fed = record {
    front = [];
    broken = old;
    behind = olds;
    olds_are = refl;
    fed = [];
    moments = [];
    same = tt;
    only = tt;
    queues = tt;
    last = now;
    instants_are = refl;
    left = [];
    from_kept = keeps end (asked_by (host_name i) rules 1 old.class old.max_hereis) from.pass to.pass old.pass new.pass breaks.0 only;
    kept = tt;
    part = new;
    news_are = ap (λ (ns : List ChainNode). new ∷ ns) breaks.1;
  }
  stands-each i from to (old ∷ olds) (new ∷ news) (now ∷ next ∷ instants) breaks only fed =
      let asked = asked_by (host_name i) rules 1 old.class old.max_hereis in
      let node = breaks.0 in
      let there = law.only asked now from.pass to.pass old.pass node.pass breaks.2 refl only fed.0.only fed.0.class in
      let queue = law.queue asked now from.pass to.pass old.pass node.pass breaks.2 refl only fed.0.only fed.0.class in
      let same = law.unchanged asked now from.pass to.pass old.pass node.pass breaks.2 refl only fed.0.only fed.0.class in
      let empty_queue : state_of old.pass ≡ new_queue old = ap (λ (seen : List Entry). after old.pass.arena old.pass.slots seen) fed.0.not_called in
      let rest = stands-each (i + 1) node new olds news (next ∷ instants) breaks.3 there fed.1 in
      record {
        front = old ∷ rest.front;
        broken = rest.broken;
        behind = rest.behind;
        olds_are = ap (λ (ns : List ChainNode). old ∷ ns) rest.olds_are;
        fed = node ∷ rest.fed;
        moments = now ∷ rest.moments;
        same = (breaks.1, rest.same);
        only = (there, rest.only);
        queues = (queue ∙ ap (fed_from (state_of from.pass) asked now) empty_queue, rest.queues);
        last = rest.last;
        instants_are = ap (λ (ns : List ℕ). now ∷ ns) rest.instants_are;
        left = new ∷ rest.left;
        from_kept = all-kept (state_of from.pass) (state_of to.pass) same;
        kept = (rest.from_kept, rest.kept);
        part = rest.part;
        news_are = ap (λ (ns : List ChainNode). new ∷ ns) rest.news_are;
      }

  stands-all : (first : ChainNode) (others : List ChainNode) (new : ChainNode) (news : List ChainNode) (instants : List ℕ) → IsChain (first ∷ others)
      → BreaksEach 1 rules end (first ∷ others) (new ∷ news) instants → StandsUpTo rules (first ∷ others) (new ∷ news) instants
  stands-all first others new news instants fed breaks =
      let rest = stands-each 1 first new others news instants breaks fed.0 fed.1 in
      record {
        front = first ∷ rest.front;
        broken = rest.broken;
        behind = rest.behind;
        olds_are = ap (λ (ns : List ChainNode). first ∷ ns) rest.olds_are;
        some = omega arith;
        fed = first ∷ rest.fed;
        moments = rest.moments;
        same = (keeps-same first, rest.same);
        only = (fed.0, rest.only);
        queues = (refl, rest.queues);
        last = rest.last;
        instants_are = rest.instants_are;
        left = new ∷ rest.left;
        kept = (rest.from_kept, rest.kept);
        part = rest.part;
        news_are = ap (λ (ns : List ChainNode). new ∷ ns) rest.news_are;
      }

  -- the same, where the nodes are given by the first one and the others
  pub stands-of : (all : List ChainNode) (first : ChainNode) (others : List ChainNode) (new : ChainNode) (news : List ChainNode) (instants : List ℕ) → all ≡ first ∷ others → IsChain all
      → BreaksEach 1 rules end (first ∷ others) (new ∷ news) instants → StandsUpTo rules all (new ∷ news) instants
  stands-of all first others new news instants is fed breaks =
      subst (λ (ns : List ChainNode). StandsUpTo rules ns (new ∷ news) instants) (sym is) (stands-all first others new news instants (subst IsChain is fed) breaks)
