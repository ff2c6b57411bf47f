-- A ring of regions in which one more is linked, or one is unlinked.
use Rattle.std.proofs.Common.{◌≡◌, ◌≢◌, ℕ, zero, suc, ◌+◌, ◌-◌, ◌<◌, ◌≤◌, inl, inr, None, cond, eqb, List, [], ◌∷◌, ◌++◌, length, set, refl, sym, ap, subst, ◌∙◌, arith, get_or-set_other, get_or-set_same, length-set}
use Rattle.std.specs.List.{AllByRecursion}
use Rattle.std.proofs.lemmas.Bool.{cases_eq, ne_eqb, eq-eqb}
use Rattle.ldm_regions.specs.Order.{Used, Lie, HaveOwners}
use Rattle.ldm_regions.specs.Links.{node_at, used_at, ordered_from, in_order, Joined, Held, IsRingOf, linked, unlinked}
use Rattle.ldm_regions.specs.declared.links.Node.{Node}
use Rattle.ldm_regions.proofs.Each.{each, each_in_front, each_behind, each_of_both}
use Rattle.ldm_regions.proofs.Lies.{last_end, first_start}
use Rattle.ldm_regions.proofs.Owners.{region_at, Lacks, none_lacks, owner_once, HaveOwners-less, HaveOwners-more}
use Rattle.ldm_regions.proofs.Seams.{last_owner, first_owner}
use Rattle.ldm_regions.proofs.Laid.{no_more}

-- some regions are linked where those in front of a place are, and those behind it
Joined-front : (nodes : List Node) (place : ℕ) (front behind : List Used) (last : ℕ) → Joined nodes place (front ++ behind) last → Joined nodes place front (first_owner behind last)
Joined-front nodes place [] [] last joined = joined
Joined-front nodes place [] (v ∷ vs) last joined = (joined.0, joined.1)
Joined-front nodes place (u ∷ us) behind last joined = (joined.0, joined.1, Joined-front nodes u.owner us behind last joined.2)

Joined-behind : (nodes : List Node) (place : ℕ) (front behind : List Used) (last : ℕ) → Joined nodes place (front ++ behind) last → Joined nodes (last_owner place front) behind last
Joined-behind nodes place [] behind last joined = joined
Joined-behind nodes place (u ∷ us) behind last joined = Joined-behind nodes u.owner us behind last joined.2

Joined-both : (nodes : List Node) (place : ℕ) (front behind : List Used) (last : ℕ) → Joined nodes place front (first_owner behind last) → Joined nodes (last_owner place front) behind last → Joined nodes place (front ++ behind) last
Joined-both nodes place [] behind last before joined = joined
Joined-both nodes place (u ∷ us) behind last before joined = (before.0, before.1, Joined-both nodes u.owner us behind last before.2 joined)

first_link : (nodes : List Node) (place : ℕ) (used : List Used) (last : ℕ) → Joined nodes place used last → (node_at nodes place).behind ≡ first_owner used last
first_link nodes place [] last joined = joined.0
first_link nodes place (u ∷ us) last joined = joined.0

last_link : (nodes : List Node) (place : ℕ) (used : List Used) (last : ℕ) → Joined nodes place used last → (node_at nodes last).front ≡ last_owner place used
last_link nodes place [] last joined = joined.1
last_link nodes place (u ∷ us) last joined = last_link nodes u.owner us last joined.2

-- no owner is that of a later region
abbrev Unlike : List Used → Type 0
Unlike [] = Unit {0}
Unlike (u ∷ us) = Lacks u.owner us × Unlike us

unlike : (used : List Used) → HaveOwners used → Unlike used
unlike [] have = tt
unlike (u ∷ us) have = (none_lacks u.owner us have.0, unlike us have.1)

Unlike-front : (front behind : List Used) → Unlike (front ++ behind) → Unlike front
Unlike-front [] behind un = tt
Unlike-front (u ∷ us) behind un = (each_in_front (λ v. u.owner ≢ v.owner) us behind un.0, Unlike-front us behind un.1)

Unlike-behind : (front behind : List Used) → Unlike (front ++ behind) → Unlike behind
Unlike-behind [] behind un = un
Unlike-behind (u ∷ us) behind un = Unlike-behind us behind un.1

across : (front behind : List Used) → Unlike (front ++ behind) → AllByRecursion (λ u. Lacks u.owner behind) front
across [] behind un = tt
across (u ∷ us) behind un = (each_behind (λ v. u.owner ≢ v.owner) us behind un.0, across us behind un.1)

-- the last owner in front is none of those behind, and the first behind none of those in front
last_lacks : (wall : ℕ) (front behind : List Used) → Lacks wall behind → AllByRecursion (λ u. Lacks u.owner behind) front → Lacks (last_owner wall front) behind
last_lacks wall [] behind lacks all = lacks
last_lacks wall (u ∷ us) behind lacks all = last_lacks u.owner us behind all.0 all.1

first_lacks : (wall : ℕ) (front behind : List Used) → Lacks wall front → AllByRecursion (λ u. Lacks u.owner behind) front → Lacks (first_owner behind wall) front
first_lacks wall front [] lacks all = lacks
first_lacks wall front (v ∷ vs) lacks all = each (λ u. Lacks u.owner (v ∷ vs)) (λ u. v.owner ≢ u.owner) front (λ u l e. l.0 (sym e)) all

not_last : (place : ℕ) (u : Used) (us : List Used) → Lacks place (u ∷ us) → place ≢ last_owner u.owner us
not_last place u [] lacks = lacks.0
not_last place u (v ∷ vs) lacks = not_last place v vs lacks.1

below_lacks : (wall : ℕ) (used : List Used) → AllByRecursion (λ u. u.owner < wall) used → Lacks wall used
below_lacks wall used below = each (λ u. u.owner < wall) (λ u. wall ≢ u.owner) used (λ u h e. omega arith) below

-- where two entries are linked anew, f to what is behind it and b to what is in front of it, and that of one owner n changes besides
module _ (old new : List Node) (f n b : ℕ)
    (behinds : (k : ℕ) → k ≢ f → k ≢ n → (node_at new k).behind ≡ (node_at old k).behind)
    (fronts : (k : ℕ) → k ≢ b → k ≢ n → (node_at new k).front ≡ (node_at old k).front) where
  Joined-kept : (place : ℕ) (used : List Used) (last : ℕ) → place ≢ f → place ≢ n → Lacks f used → Lacks n used → Lacks b used → last ≢ b → last ≢ n → Joined old place used last → Joined new place used last
  Joined-kept place [] last pf pn lf ln lb hb hn joined = (behinds place pf pn ∙ joined.0, fronts last hb hn ∙ joined.1)
  Joined-kept place (u ∷ us) last pf pn lf ln lb hb hn joined = (
    behinds place pf pn ∙ joined.0,
    fronts u.owner (λ e. lb.0 (sym e)) (λ e. ln.0 (sym e)) ∙ joined.1,
    Joined-kept u.owner us last (λ e. lf.0 (sym e)) (λ e. ln.0 (sym e)) lf.1 ln.1 lb.1 hb hn joined.2,
  )

  Joined-up_to : (place : ℕ) (used : List Used) (last next : ℕ) → f ≡ last_owner place used → place ≢ n → Lacks place used → Unlike used → Lacks n used → Lacks b used → (node_at new f).behind ≡ next → (node_at new next).front ≡ f → Joined old place used last → Joined new place used next
  Joined-up_to place [] last next is pn lp un ln lb here back joined = (ap (λ k. (node_at new k).behind) (sym is) ∙ here, back ∙ is)
  Joined-up_to place (u ∷ us) last next is pn lp un ln lb here back joined = (
    behinds place (λ e. not_last place u us lp (e ∙ is)) pn ∙ joined.0,
    fronts u.owner (λ e. lb.0 (sym e)) (λ e. ln.0 (sym e)) ∙ joined.1,
    Joined-up_to u.owner us last next is (λ e. ln.0 (sym e)) un.0 un.1 ln.1 lb.1 here back joined.2,
  )

  Joined-from : (place other : ℕ) (used : List Used) (last : ℕ) → b ≡ first_owner used last → Lacks f used → Lacks n used → Unlike used → Lacks last used → last ≢ n → (node_at new other).behind ≡ b → (node_at new b).front ≡ other → Joined old place used last → Joined new other used last
  Joined-from place other [] last is lf ln un ll hn here back joined = (here ∙ is, ap (λ k. (node_at new k).front) (sym is) ∙ back)
  Joined-from place other (u ∷ us) last is lf ln un ll hn here back joined = (
    here ∙ is,
    ap (λ k. (node_at new k).front) (sym is) ∙ back,
    Joined-kept u.owner us last (λ e. lf.0 (sym e)) (λ e. ln.0 (sym e)) lf.1 ln.1 (subst (λ k. Lacks k us) (sym is) un.0) (λ e. ll.0 (e ∙ is)) hn joined.2,
  )

-- an entry of a table in which one is written
at_same : (nodes : List Node) (place : ℕ) (node : Node) → place < length nodes → node_at (set nodes place node) place ≡ node
at_same nodes place node h = get_or-set_same nodes place node (record { start = 0; end = 0; front = 0; behind = 0 }) h

at_other : (nodes : List Node) (place k : ℕ) (node : Node) → k ≢ place → node_at (set nodes place node) k ≡ node_at nodes k
at_other nodes place k node ne = get_or-set_other nodes place k node (record { start = 0; end = 0; front = 0; behind = 0 }) ne

-- a field that the write leaves
field_kept : (field : Node → ℕ) (nodes : List Node) (place : ℕ) (node : Node) (k : ℕ) → place < length nodes → field node ≡ field (node_at nodes place) → field (node_at (set nodes place node) k) ≡ field (node_at nodes k)
field_kept field nodes place node k h same =
    elim (cases_eq k place) [
      | inl e ↦ ap (λ j. field (node_at (set nodes place node) j)) e ∙ ap field (at_same nodes place node h) ∙ same ∙ ap (λ j. field (node_at nodes j)) (sym e)
      | inr ne ↦ ap field (at_other nodes place k node ne)
    ]

-- what a table has after one of its regions is linked
record IsLinked (old new : List Node) (n start end f b : ℕ) : Type 0 where
  many : length new ≡ length old
  behinds : (k : ℕ) → k ≢ f → k ≢ n → (node_at new k).behind ≡ (node_at old k).behind
  fronts : (k : ℕ) → k ≢ b → k ≢ n → (node_at new k).front ≡ (node_at old k).front
  starts : (k : ℕ) → k ≢ n → (node_at new k).start ≡ (node_at old k).start
  ends : (k : ℕ) → k ≢ n → (node_at new k).end ≡ (node_at old k).end
  start_is : (node_at new n).start ≡ start
  end_is : (node_at new n).end ≡ end
  from_front : (node_at new f).behind ≡ n
  to_front : (node_at new n).front ≡ f
  to_behind : (node_at new n).behind ≡ b
  from_behind : (node_at new b).front ≡ n

module _ (nodes : List Node) (n start end f : ℕ) (hn : n < length nodes) (hf : f < length nodes) (hb : (node_at nodes f).behind < length nodes) (nf : n ≢ f) (nb : n ≢ (node_at nodes f).behind) where
  linked_is : IsLinked nodes (linked nodes n start end f) n start end f (node_at nodes f).behind
  linked_is =
      let b = (node_at nodes f).behind in
      let fresh : Node = record { start = start; end = end; front = f; behind = b } in
      let one = set nodes n fresh in
      let forth : Node = record (node_at one f) { behind = n } in
      let two = set one f forth in
      let back : Node = record (node_at two b) { front = n } in
      let long_one : length one ≡ length nodes = length-set nodes n fresh in
      let long_two : length two ≡ length one = length-set one f forth in
      let in_one : f < length one = omega arith in
      let in_two : b < length two = omega arith in
      let kept = λ (field : Node → ℕ) (k : ℕ) (front : field back ≡ field (node_at two b)) (behind : field forth ≡ field (node_at one f)). field_kept field two b back k in_two front ∙ field_kept field one f forth k in_one behind in
      record {
        many = length-set two b back ∙ long_two ∙ long_one;
        behinds = λ k kf kn. field_kept (λ m. m.behind) two b back k in_two refl ∙ ap (λ (m : Node). m.behind) (at_other one f k forth kf ∙ at_other nodes n k fresh kn);
        fronts = λ k kb kn. ap (λ (m : Node). m.front) (at_other two b k back kb) ∙ field_kept (λ m. m.front) one f forth k in_one refl ∙ ap (λ (m : Node). m.front) (at_other nodes n k fresh kn);
        starts = λ k kn. kept (λ m. m.start) k refl refl ∙ ap (λ (m : Node). m.start) (at_other nodes n k fresh kn);
        ends = λ k kn. kept (λ m. m.end) k refl refl ∙ ap (λ (m : Node). m.end) (at_other nodes n k fresh kn);
        start_is = kept (λ m. m.start) n refl refl ∙ ap (λ (m : Node). m.start) (at_same nodes n fresh hn);
        end_is = kept (λ m. m.end) n refl refl ∙ ap (λ (m : Node). m.end) (at_same nodes n fresh hn);
        from_front = field_kept (λ m. m.behind) two b back f in_two refl ∙ ap (λ (m : Node). m.behind) (at_same one f forth in_one);
        to_front = ap (λ (m : Node). m.front) (at_other two b n back nb) ∙ field_kept (λ m. m.front) one f forth n in_one refl ∙ ap (λ (m : Node). m.front) (at_same nodes n fresh hn);
        to_behind = field_kept (λ m. m.behind) two b back n in_two refl ∙ ap (λ (m : Node). m.behind) (at_other one f n forth nf ∙ at_same nodes n fresh hn);
        from_behind = ap (λ (m : Node). m.front) (at_same two b back in_two);
      }

-- and after one is unlinked
record IsUnlinked (old new : List Node) (f b : ℕ) : Type 0 where
  many : length new ≡ length old
  behinds : (k : ℕ) → k ≢ f → (node_at new k).behind ≡ (node_at old k).behind
  fronts : (k : ℕ) → k ≢ b → (node_at new k).front ≡ (node_at old k).front
  starts : (k : ℕ) → (node_at new k).start ≡ (node_at old k).start
  ends : (k : ℕ) → (node_at new k).end ≡ (node_at old k).end
  from_front : (node_at new f).behind ≡ b
  from_behind : (node_at new b).front ≡ f

module _ (nodes : List Node) (n : ℕ) (hf : (node_at nodes n).front < length nodes) (hb : (node_at nodes n).behind < length nodes) where
  unlinked_is : IsUnlinked nodes (unlinked nodes n) (node_at nodes n).front (node_at nodes n).behind
  unlinked_is =
      let f = (node_at nodes n).front in
      let b = (node_at nodes n).behind in
      let forth : Node = record (node_at nodes f) { behind = b } in
      let one = set nodes f forth in
      let back : Node = record (node_at one b) { front = f } in
      let long_one : length one ≡ length nodes = length-set nodes f forth in
      let in_one : b < length one = omega arith in
      record {
        many = length-set one b back ∙ long_one;
        behinds = λ k kf. field_kept (λ m. m.behind) one b back k in_one refl ∙ ap (λ (m : Node). m.behind) (at_other nodes f k forth kf);
        fronts = λ k kb. ap (λ (m : Node). m.front) (at_other one b k back kb) ∙ field_kept (λ m. m.front) nodes f forth k hf refl;
        starts = λ k. field_kept (λ m. m.start) one b back k in_one refl ∙ field_kept (λ m. m.start) nodes f forth k hf refl;
        ends = λ k. field_kept (λ m. m.end) one b back k in_one refl ∙ field_kept (λ m. m.end) nodes f forth k hf refl;
        from_front = field_kept (λ m. m.behind) one b back f in_one refl ∙ ap (λ (m : Node). m.behind) (at_same nodes f forth hf);
        from_behind = ap (λ (m : Node). m.front) (at_same one b back in_one);
      }

-- the regions that the table has
Held-kept : (old new : List Node) (n : ℕ) (used : List Used) → ((k : ℕ) → k ≢ n → (node_at new k).start ≡ (node_at old k).start) → ((k : ℕ) → k ≢ n → (node_at new k).end ≡ (node_at old k).end) → Lacks n used → Held old used → Held new used
Held-kept old new n [] starts ends lacks held = tt
Held-kept old new n (u ∷ us) starts ends lacks held = (
  starts u.owner (λ e. lacks.0 (sym e)) ∙ held.0,
  ends u.owner (λ e. lacks.0 (sym e)) ∙ held.1,
  Held-kept old new n us starts ends lacks.1 held.2,
)

Held-front : (nodes : List Node) (front behind : List Used) → Held nodes (front ++ behind) → Held nodes front
Held-front nodes [] behind held = tt
Held-front nodes (u ∷ us) behind held = (held.0, held.1, Held-front nodes us behind held.2)

Held-behind : (nodes : List Node) (front behind : List Used) → Held nodes (front ++ behind) → Held nodes behind
Held-behind nodes [] behind held = held
Held-behind nodes (u ∷ us) behind held = Held-behind nodes us behind held.2

Held-both : (nodes : List Node) (front behind : List Used) → Held nodes front → Held nodes behind → Held nodes (front ++ behind)
Held-both nodes [] behind before held = held
Held-both nodes (u ∷ us) behind before held = (before.0, before.1, Held-both nodes us behind before.2 held)

-- the links spell the regions
pub spelled_from : (nodes : List Node) (wall place : ℕ) (used : List Used) (count at : ℕ) → at ≡ (node_at nodes place).behind → Joined nodes place used wall → Held nodes used → AllByRecursion (λ u. u.owner < wall) used → length used ≤ count → ordered_from nodes wall count at ≡ used
spelled_from nodes wall place [] zero at is joined held below h = refl
spelled_from nodes wall place [] (suc count) at is joined held below h = ap (λ b. cond b [] (used_at nodes at ∷ ordered_from nodes wall count (node_at nodes at).behind)) (eq-eqb at wall (is ∙ joined.0))
spelled_from nodes wall place (u ∷ us) zero at is joined held below h = absurd (omega arith)
spelled_from nodes wall place (u ∷ us) (suc count) at is joined held below h =
    let k = below.0 in
    let owner = is ∙ joined.0 in
    let starts = held.0 in
    let ends = held.1 in
    let extent : (node_at nodes u.owner).end - (node_at nodes u.owner).start ≡ u.extent = omega arith in
    ap (λ n. cond (eqb n wall) [] (used_at nodes n ∷ ordered_from nodes wall count (node_at nodes n).behind)) owner
    ∙ ap (λ b. cond b [] (used_at nodes u.owner ∷ ordered_from nodes wall count (node_at nodes u.owner).behind)) (ne_eqb u.owner wall (λ e. omega arith))
    ∙ (λ i. record { start = held.0 i; extent = extent i; owner = u.owner } ∷ spelled_from nodes wall u.owner us count (node_at nodes u.owner).behind refl joined.2 held.2 below.1 (omega arith) i)

pub spelled : (nodes : List Node) (wall arena : ℕ) (used : List Used) → IsRingOf nodes wall arena used → in_order nodes wall ≡ used
spelled nodes wall arena used ring = spelled_from nodes wall wall used wall (node_at nodes wall).behind refl ring.joined ring.held ring.below (no_more used wall ring.owners ring.below)

-- what a ring tells of the entries next to a place
pub record Beside (nodes : List Node) (wall : ℕ) (front behind : List Used) : Type 0 where
  pub last_inside : last_owner wall front < length nodes
  pub first_inside : first_owner behind wall < length nodes

last_below : (bound place : ℕ) (used : List Used) → place < bound → AllByRecursion (λ u. u.owner < bound) used → last_owner place used < bound
last_below bound place [] h below = h
last_below bound place (u ∷ us) h below = last_below bound u.owner us below.0 below.1

first_below : (bound place : ℕ) (used : List Used) → place < bound → AllByRecursion (λ u. u.owner < bound) used → first_owner used place < bound
first_below bound place [] h below = h
first_below bound place (u ∷ us) h below = below.0

inside : (wall many : ℕ) (used : List Used) → many ≡ wall + 1 → AllByRecursion (λ u. u.owner < wall) used → AllByRecursion (λ u. u.owner < many) used
inside wall many used is below = each (λ u. u.owner < wall) (λ u. u.owner < many) used (λ u h. omega arith) below

beside : (nodes : List Node) (wall : ℕ) (front behind : List Used) → length nodes ≡ wall + 1 → AllByRecursion (λ u. u.owner < wall) front → AllByRecursion (λ u. u.owner < wall) behind → Beside nodes wall front behind
beside nodes wall front behind many before after = record {
  last_inside = last_below (length nodes) wall front (omega arith) (inside wall (length nodes) front many before);
  first_inside = first_below (length nodes) wall behind (omega arith) (inside wall (length nodes) behind many after);
}

-- where regions meet, the table has the entries on both sides
pub ring_seam : (nodes : List Node) (wall arena : ℕ) (front behind : List Used) → IsRingOf nodes wall arena (front ++ behind) → (last_owner wall front < length nodes) × ((node_at nodes (last_owner wall front)).behind < length nodes)
ring_seam nodes wall arena front behind ring =
    let next = beside nodes wall front behind ring.many (each_in_front (λ u. u.owner < wall) front behind ring.below) (each_behind (λ u. u.owner < wall) front behind ring.below) in
    let is = first_link nodes (last_owner wall front) behind wall (Joined-behind nodes wall front behind wall ring.joined) in
    let in_behind = next.first_inside in
    (next.last_inside, omega arith)

-- where the first of some regions begins
first_held : (nodes : List Node) (used : List Used) (wall : ℕ) → Held nodes used → (node_at nodes (first_owner used wall)).start ≡ first_start used (node_at nodes wall).start
first_held nodes [] wall held = refl
first_held nodes (u ∷ us) wall held = held.0

-- and the space between them ends where the next region begins
pub ring_end : (nodes : List Node) (wall arena : ℕ) (front behind : List Used) → IsRingOf nodes wall arena (front ++ behind) → (node_at nodes (node_at nodes (last_owner wall front)).behind).start ≡ first_start behind arena
ring_end nodes wall arena front behind ring =
    let is = first_link nodes (last_owner wall front) behind wall (Joined-behind nodes wall front behind wall ring.joined) in
    ap (λ n. (node_at nodes n).start) is ∙ first_held nodes behind wall (Held-behind nodes front behind ring.held) ∙ ap (first_start behind) ring.ends

not_first : (owner wall : ℕ) (used : List Used) → owner ≢ wall → Lacks owner used → owner ≢ first_owner used wall
not_first owner wall [] apart lacks = apart
not_first owner wall (u ∷ us) apart lacks = lacks.0

-- how a region that is in no ring stands to regions in front and behind, and to the wall
record IsApart (wall n : ℕ) (front behind : List Used) : Type 0 where
  not_wall : wall ≢ n
  n_front : Lacks n front
  n_behind : Lacks n behind
  wall_front : Lacks wall front
  wall_behind : Lacks wall behind
  unlike_front : Unlike front
  unlike_behind : Unlike behind
  first_apart : Lacks (first_owner behind wall) front
  last_apart : Lacks (last_owner wall front) behind

apart : (wall n : ℕ) (front behind : List Used) → n < wall → region_at n (front ++ behind) ≡ None → HaveOwners (front ++ behind) → AllByRecursion (λ u. u.owner < wall) (front ++ behind) → IsApart wall n front behind
apart wall n front behind h none have below =
    let lacks = none_lacks n (front ++ behind) none in
    let un = unlike (front ++ behind) have in
    let wall_front = below_lacks wall front (each_in_front (λ u. u.owner < wall) front behind below) in
    let wall_behind = below_lacks wall behind (each_behind (λ u. u.owner < wall) front behind below) in
    record {
      not_wall = λ e. omega arith;
      n_front = each_in_front (λ u. n ≢ u.owner) front behind lacks;
      n_behind = each_behind (λ u. n ≢ u.owner) front behind lacks;
      wall_front = wall_front;
      wall_behind = wall_behind;
      unlike_front = Unlike-front front behind un;
      unlike_behind = Unlike-behind front behind un;
      first_apart = first_lacks wall front behind wall_front (across front behind un);
      last_apart = last_lacks wall front behind wall_behind (across front behind un);
    }

-- where the last of some regions ends
last_held : (nodes : List Node) (place from : ℕ) (used : List Used) → (node_at nodes place).end ≡ from → Held nodes used → (node_at nodes (last_owner place used)).end ≡ last_end from used
last_held nodes place from [] is held = is
last_held nodes place from (u ∷ us) is held = last_held nodes u.owner (u.start + u.extent) us held.1 held.2

module _ (nodes : List Node) (wall arena : ℕ) (front : List Used) (u : Used) (behind : List Used) where
  -- a region comes into a ring
  pub ring_more : IsRingOf nodes wall arena (front ++ behind) → region_at u.owner (front ++ behind) ≡ None → u.owner < wall → Lie 0 (front ++ u ∷ behind) arena → IsRingOf (linked nodes u.owner u.start (u.start + u.extent) (last_owner wall front)) wall arena (front ++ u ∷ behind)
  ring_more ring none h lie =
      let n = u.owner in
      let f = last_owner wall front in
      let b = (node_at nodes f).behind in
      let new = linked nodes n u.start (u.start + u.extent) f in
      let sides = apart wall n front behind h none ring.owners ring.below in
      let before = Joined-front nodes wall front behind wall ring.joined in
      let after = Joined-behind nodes wall front behind wall ring.joined in
      let is : b ≡ first_owner behind wall = first_link nodes f behind wall after in
      let many = ring.many in
      let below_front = each_in_front (λ u. u.owner < wall) front behind ring.below in
      let below_behind = each_behind (λ u. u.owner < wall) front behind ring.below in
      let next = beside nodes wall front behind many below_front below_behind in
      let in_front = next.last_inside in
      let in_behind = next.first_inside in
      let lacks : Lacks n (record { start = 0; extent = 0; owner = wall } ∷ front) = (λ e. sides.not_wall (sym e), sides.n_front) in
      let l = linked_is nodes n u.start (u.start + u.extent) f (omega arith) in_front (omega (arith, is, in_behind)) (not_last n (record { start = 0; extent = 0; owner = wall }) front lacks)
      (λ e. not_first n wall behind (λ e. sides.not_wall (sym e)) sides.n_behind (e ∙ is)) in
      record {
        many = l.many ∙ many;
        begins = l.ends wall sides.not_wall ∙ ring.begins;
        joined = Joined-both new wall front (u ∷ behind) wall
            (Joined-up_to nodes new f n b l.behinds l.fronts wall front (first_owner behind wall) n refl sides.not_wall sides.wall_front sides.unlike_front sides.n_front (subst (λ k. Lacks k front) (sym is) sides.first_apart) l.from_front l.to_front before)
            (l.from_front, l.to_front, Joined-from nodes new f n b l.behinds l.fronts f n behind wall is sides.last_apart sides.n_behind sides.unlike_behind sides.wall_behind sides.not_wall l.to_behind l.from_behind after);
        held = Held-both new front (u ∷ behind) (Held-kept nodes new n front l.starts l.ends sides.n_front (Held-front nodes front behind ring.held))
            (l.start_is, l.end_is, Held-kept nodes new n behind l.starts l.ends sides.n_behind (Held-behind nodes front behind ring.held));
        ends = l.starts wall sides.not_wall ∙ ring.ends;
        lie = lie;
        owners = HaveOwners-more front u behind none ring.owners;
        below = each_of_both (λ u. u.owner < wall) front (u ∷ behind) below_front (h, below_behind);
      }

  -- what a ring tells of the entry of a region in it
  pub record Around : Type 0 where
    pub front_is : (node_at nodes u.owner).front ≡ last_owner wall front
    pub behind_is : (node_at nodes u.owner).behind ≡ first_owner behind wall
    pub start_is : (node_at nodes u.owner).start ≡ u.start
    pub end_is : (node_at nodes u.owner).end ≡ u.start + u.extent
    pub below : u.owner < wall
    pub inside : u.owner < length nodes
    pub front_inside : (node_at nodes u.owner).front < length nodes
    pub behind_inside : (node_at nodes u.owner).behind < length nodes
    pub front_end : (node_at nodes (node_at nodes u.owner).front).end ≡ last_end 0 front
    pub behind_start : (node_at nodes (node_at nodes u.owner).behind).start ≡ first_start behind arena

  pub around : IsRingOf nodes wall arena (front ++ u ∷ behind) → Around
  around ring =
      let after = Joined-behind nodes wall front (u ∷ behind) wall ring.joined in
      let held = Held-behind nodes front (u ∷ behind) ring.held in
      let front_is = after.1 in
      let behind_is = first_link nodes u.owner behind wall after.2 in
      let below_front = each_in_front (λ u. u.owner < wall) front (u ∷ behind) ring.below in
      let below_behind = each_behind (λ u. u.owner < wall) front (u ∷ behind) ring.below in
      let many = ring.many in
      let h = below_behind.0 in
      let next = beside nodes wall front behind many below_front below_behind.1 in
      let in_front = next.last_inside in
      let in_behind = next.first_inside in
      record {
        front_is = front_is;
        behind_is = behind_is;
        start_is = held.0;
        end_is = held.1;
        below = h;
        inside = omega arith;
        front_inside = omega (arith, front_is, in_front);
        behind_inside = omega (arith, behind_is, in_behind);
        front_end = ap (λ k. (node_at nodes k).end) front_is ∙ last_held nodes wall 0 front ring.begins (Held-front nodes front (u ∷ behind) ring.held);
        behind_start = ap (λ k. (node_at nodes k).start) behind_is ∙ first_held nodes behind wall held.2 ∙ ap (first_start behind) ring.ends;
      }

  -- a region goes out of a ring
  pub ring_less : IsRingOf nodes wall arena (front ++ u ∷ behind) → Lie 0 (front ++ behind) arena → IsRingOf (unlinked nodes u.owner) wall arena (front ++ behind)
  ring_less ring lie =
      let n = u.owner in
      let f = (node_at nodes n).front in
      let b = (node_at nodes n).behind in
      let new = unlinked nodes n in
      let at = around ring in
      let f_is = at.front_is in
      let b_is = at.behind_is in
      let have = HaveOwners-less front u behind ring.owners in
      let below_front = each_in_front (λ u. u.owner < wall) front (u ∷ behind) ring.below in
      let below_behind = (each_behind (λ u. u.owner < wall) front (u ∷ behind) ring.below).1 in
      let below = each_of_both (λ u. u.owner < wall) front behind below_front below_behind in
      let sides = apart wall n front behind at.below (owner_once front u behind ring.owners) have below in
      let before = Joined-front nodes wall front (u ∷ behind) wall ring.joined in
      let after = Joined-behind nodes wall front (u ∷ behind) wall ring.joined in
      let l = unlinked_is nodes n at.front_inside at.behind_inside in
      record {
        many = l.many ∙ ring.many;
        begins = l.ends wall ∙ ring.begins;
        joined = Joined-both new wall front behind wall
            (Joined-up_to nodes new f n b (λ k kf _. l.behinds k kf) (λ k kb _. l.fronts k kb) wall front n (first_owner behind wall) f_is sides.not_wall sides.wall_front sides.unlike_front sides.n_front (subst (λ k. Lacks k front) (sym b_is) sides.first_apart) (l.from_front ∙ b_is) (ap (λ k. (node_at new k).front) (sym b_is) ∙ l.from_behind) before)
            (Joined-from nodes new f n b (λ k kf _. l.behinds k kf) (λ k kb _. l.fronts k kb) n (last_owner wall front) behind wall b_is (subst (λ k. Lacks k behind) (sym f_is) sides.last_apart) sides.n_behind sides.unlike_behind sides.wall_behind sides.not_wall (ap (λ k. (node_at new k).behind) (sym f_is) ∙ l.from_front) (l.from_behind ∙ f_is) after.2);
        held = Held-both new front behind (Held-kept nodes new n front (λ k _. l.starts k) (λ k _. l.ends k) sides.n_front (Held-front nodes front (u ∷ behind) ring.held))
            (Held-kept nodes new n behind (λ k _. l.starts k) (λ k _. l.ends k) sides.n_behind (Held-behind nodes front (u ∷ behind) ring.held).2);
        ends = l.starts wall ∙ ring.ends;
        lie = lie;
        owners = have;
        below = below;
      }
