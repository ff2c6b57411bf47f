-- The way through a ring, from one region to the next, up to the wall.
use Rattle.std.proofs.Common.{◌≡◌, ◌≢◌, ℕ, ◌+◌, ◌-◌, ◌<◌, ◌≤◌, Bool, true, false, List, [], ◌∷◌, length, max, refl, sym, ap, subst, ◌∙◌, arith}
use Rattle.std.specs.List.{AllByRecursion, filter}
use Rattle.ldm_types.specs.Arena.{longest}
use Rattle.ldm_regions.specs.Order.{Used, Lie, spaces}
use Rattle.ldm_regions.specs.Links.{node_at, ordered_from, in_order, Joined, Held, IsRing}
use Rattle.ldm_regions.specs.declared.links.Node.{Node}
use Rattle.ldm_regions.proofs.Lies.{Lie-earlier, longest-skipped, longest-marked}
use Rattle.ldm_regions.proofs.Laid.{no_more}
use Rattle.ldm_regions.proofs.Rings.{spelled_from}

-- these regions are left, from an owner's on
pub record Left (nodes : List Node) (wall owner : ℕ) (rest : List Used) : Type 0 where
  pub place : ℕ
  pub is : owner ≡ (node_at nodes place).behind
  pub joined : Joined nodes place rest wall
  pub held : Held nodes rest
  pub below : AllByRecursion (λ u. u.owner < wall) rest
  pub few : length rest ≤ wall

abbrev pub rest_from : List Node → ℕ → ℕ → List Used
rest_from nodes wall owner = ordered_from nodes wall wall owner

pub spelled_rest : (nodes : List Node) (wall owner : ℕ) (rest : List Used) → Left nodes wall owner rest → rest_from nodes wall owner ≡ rest
spelled_rest nodes wall owner rest left = spelled_from nodes wall left.place rest wall owner left.is left.joined left.held left.below left.few

-- all of them are, at first
pub all_left : (nodes : List Node) (wall arena : ℕ) → IsRing nodes wall arena → Left nodes wall (node_at nodes wall).behind (in_order nodes wall)
all_left nodes wall arena ring = record { place = wall; is = refl; joined = ring.joined; held = ring.held; below = ring.below; few = no_more (in_order nodes wall) wall ring.owners ring.below }

-- the first of them, and the others
pub record Onward (nodes : List Node) (wall owner : ℕ) (rest : List Used) : Type 0 where
  pub first : Used
  pub others : List Used
  pub whole : rest ≡ first ∷ others
  pub owner_is : first.owner ≡ owner
  pub start_is : (node_at nodes owner).start ≡ first.start
  pub end_is : (node_at nodes owner).end ≡ first.start + first.extent
  pub below : owner < wall
  pub left : Left nodes wall (node_at nodes owner).behind others

pub onward : (nodes : List Node) (wall owner : ℕ) (rest : List Used) → Left nodes wall owner rest → owner ≢ wall → Onward nodes wall owner rest
onward nodes wall owner [] left further = absurd (further (left.is ∙ left.joined.0))
onward nodes wall owner (u ∷ us) left further =
    let same : owner ≡ u.owner = left.is ∙ left.joined.0 in
    let below = left.below.0 in
    let few = left.few in
    record {
      first = u;
      others = us;
      whole = refl;
      owner_is = sym same;
      start_is = ap (λ n. (node_at nodes n).start) same ∙ left.held.0;
      end_is = ap (λ n. (node_at nodes n).end) same ∙ left.held.1;
      below = omega arith;
      left = record { place = owner; is = refl; joined = subst (λ n. Joined nodes n us wall) (sym same) left.joined.2; held = left.held.2; below = left.below.1; few = omega arith };
    }

-- how far a walk is that looks for the longest space between regions that pass a test
pub record Walked (p : Used → Bool) (nodes : List Node) (wall arena owner from most total : ℕ) : Type 0 where
  pub left : Left nodes wall owner (rest_from nodes wall owner)
  pub lie : Lie from (rest_from nodes wall owner) arena
  pub so_far : max most (longest (spaces from (filter p (rest_from nodes wall owner)) arena)) ≡ total

pub walked_first : (p : Used → Bool) (nodes : List Node) (wall arena : ℕ) → IsRing nodes wall arena → Walked p nodes wall arena (node_at nodes wall).behind 0 0 (longest (spaces 0 (filter p (in_order nodes wall)) arena))
walked_first p nodes wall arena ring = record { left = all_left nodes wall arena ring; lie = ring.lie; so_far = omega arith }

module _ (p : Used → Bool) (nodes : List Node) (wall arena owner from most total : ℕ) (walked : Walked p nodes wall arena owner from most total) where
  module _ (further : owner ≢ wall) where
    next : Onward nodes wall owner (rest_from nodes wall owner)
    next = onward nodes wall owner (rest_from nodes wall owner) walked.left further

    lie_next : Lie from (next.first ∷ next.others) arena
    lie_next = subst (λ us. Lie from us arena) next.whole walked.lie

    so_far_next : max most (longest (spaces from (filter p (next.first ∷ next.others)) arena)) ≡ total
    so_far_next = ap (λ us. max most (longest (spaces from (filter p us) arena))) (sym next.whole) ∙ walked.so_far

    pub next_behind : from ≤ (node_at nodes owner).start
    next_behind = let low = lie_next.0 in let is = next.start_is in omega arith

    rest_next : rest_from nodes wall (node_at nodes owner).behind ≡ next.others
    rest_next = spelled_rest nodes wall (node_at nodes owner).behind next.others next.left

    pub next_fewer : length (rest_from nodes wall (node_at nodes owner).behind) < length (rest_from nodes wall owner)
    next_fewer = let one = ap length rest_next in let other = ap length next.whole in omega (arith, one, other)

    walked_on : (start most : ℕ) → Lie start next.others arena → max most (longest (spaces start (filter p next.others) arena)) ≡ total → Walked p nodes wall arena (node_at nodes owner).behind start most total
    walked_on start most lie so_far = record {
      left = subst (Left nodes wall (node_at nodes owner).behind) (sym rest_next) next.left;
      lie = subst (λ us. Lie start us arena) (sym rest_next) lie;
      so_far = ap (λ us. max most (longest (spaces start (filter p us) arena))) rest_next ∙ so_far;
    }

    pub walked_skipped : (q : ℕ → Bool) → ((u : Used) → p u ≡ q u.owner) → q owner ≡ false → Walked p nodes wall arena (node_at nodes owner).behind from most total
    walked_skipped q same f =
        let e = same next.first ∙ ap q next.owner_is ∙ f in
        let low = lie_next.0 in
        let some = lie_next.1 in
        walked_on from most (Lie-earlier from (next.first.start + next.first.extent) next.others arena (omega arith) lie_next.2)
        (longest-skipped p from arena most total next.first next.others so_far_next e)

    pub walked_marked : (q : ℕ → Bool) → ((u : Used) → p u ≡ q u.owner) → q owner ≡ true → Walked p nodes wall arena (node_at nodes owner).behind (node_at nodes owner).end (max most ((node_at nodes owner).start - from)) total
    walked_marked q same f =
        let e = same next.first ∙ ap q next.owner_is ∙ f in
        subst (λ n. Walked p nodes wall arena (node_at nodes owner).behind n (max most ((node_at nodes owner).start - from)) total) (sym next.end_is)
        (walked_on (next.first.start + next.first.extent) (max most ((node_at nodes owner).start - from)) lie_next.2
        (ap (λ n. max (max most (n - from)) (longest (spaces (next.first.start + next.first.extent) (filter p next.others) arena))) next.start_is ∙ longest-marked p from arena most total next.first next.others so_far_next e))
