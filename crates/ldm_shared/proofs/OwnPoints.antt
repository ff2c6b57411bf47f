-- A point of a pass's own entries is a point of the history that it has seen.
use Rattle.std.proofs.Common.{◌≡◌, ℕ, ◌==◌, Bool, true, false, cond, List, [], ◌∷◌, ◌++◌, All, refl, sym, ap, subst, ◌∙◌, append_assoc, append-nil, inl, inr}
use Rattle.std.specs.Prelude.{◌&&◌}
use Rattle.std.proofs.lemmas.Bool.{cases_Bool}
use Rattle.std.proofs.lemmas.List.Elements.{All-nil, All-cons, All-head, All-tail}
use Rattle.ldm_model.specs.declared.event.Entry.{Entry}
use Rattle.ldm_model.specs.Law.{Point, history_of, is_own, is_close}
use Rattle.ldm_shared.specs.Own.{own}
use Rattle.ldm_shared.specs.Passes.{PassView}
use Rattle.ldm_shared.specs.OwnReaders.{OwnPoint, opening_by, is_about, IsOwnPointOf, IsSeenAt, IsCalledAt}
use Rattle.ldm_shared.proofs.Histories.{own-append}

own_mine : (actor : ℕ) (entry : Entry) (entries : List Entry) → (entry.actor == actor) ≡ true → own actor (entry ∷ entries) ≡ entry ∷ own actor entries
own_mine actor entry entries mine = ap (λ (b : Bool). cond b (entry ∷ own actor entries) (own actor entries)) mine

own_theirs : (actor : ℕ) (entry : Entry) (entries : List Entry) → (entry.actor == actor) ≡ false → own actor (entry ∷ entries) ≡ own actor entries
own_theirs actor entry entries other = ap (λ (b : Bool). cond b (entry ∷ own actor entries) (own actor entries)) other

-- A history is cut where an actor's entries are cut.
record Cut (actor : ℕ) (history first second : List Entry) : Type 0 where
  pub front : List Entry
  pub behind : List Entry
  pub whole : front ++ behind ≡ history
  pub front_own : own actor front ≡ first
  pub behind_own : own actor behind ≡ second

cut : (actor : ℕ) (history first second : List Entry) → own actor history ≡ first ++ second → Cut actor history first second
cut actor history [] second e = record { front = []; behind = history; whole = refl; front_own = refl; behind_own = e }
cut actor [] (y ∷ first) second e = absurd (cc e)
cut actor (x ∷ history) (y ∷ first) second e = elim (cases_Bool (x.actor == actor)) [
  | inl mine ↦
      let parts : x ∷ own actor history ≡ y ∷ (first ++ second) = sym (own_mine actor x history mine) ∙ e in
      let rest = cut actor history first second (cc parts) in
      let head : x ≡ y = cc parts in
      record {
        front = x ∷ rest.front;
        behind = rest.behind;
        whole = ap (λ (es : List Entry). x ∷ es) rest.whole;
        front_own = own_mine actor x rest.front mine ∙ (λ i. head i ∷ rest.front_own i);
        behind_own = rest.behind_own;
      }
  | inr other ↦
      let rest = cut actor history (y ∷ first) second (sym (own_theirs actor x history other) ∙ e) in
      record {
        front = x ∷ rest.front;
        behind = rest.behind;
        whole = ap (λ (es : List Entry). x ∷ es) rest.whole;
        front_own = own_theirs actor x rest.front other ∙ rest.front_own;
        behind_own = rest.behind_own;
      }
]

-- The first entry of an actor in a history, and what stands before and behind it.
record First (actor : ℕ) (history : List Entry) (entry : Entry) (later : List Entry) : Type 0 where
  pub before : List Entry
  pub behind : List Entry
  pub whole : before ++ entry ∷ behind ≡ history
  pub none : own actor before ≡ []
  pub behind_own : own actor behind ≡ later
  pub mine : (entry.actor == actor) ≡ true

first : (actor : ℕ) (history : List Entry) (entry : Entry) (later : List Entry) → own actor history ≡ entry ∷ later → First actor history entry later
first actor [] entry later e = absurd (cc e)
first actor (x ∷ history) entry later e = elim (cases_Bool (x.actor == actor)) [
  | inl mine ↦
      let parts : x ∷ own actor history ≡ entry ∷ later = sym (own_mine actor x history mine) ∙ e in
      let head : x ≡ entry = cc parts in
      record {
        before = [];
        behind = history;
        whole = ap (λ (y : Entry). y ∷ history) (sym head);
        none = refl;
        behind_own = cc parts;
        mine = subst (λ (y : Entry). (y.actor == actor) ≡ true) head mine;
      }
  | inr other ↦
      let rest = first actor history entry later (sym (own_theirs actor x history other) ∙ e) in
      record {
        before = x ∷ rest.before;
        behind = rest.behind;
        whole = ap (λ (es : List Entry). x ∷ es) rest.whole;
        none = own_theirs actor x rest.before other ∙ rest.none;
        behind_own = rest.behind_own;
        mine = rest.mine;
      }
]

-- what holds of the own entries that are about a place holds of all that are own and about it
no_close : (p : Point) (entries : List Entry) → All (λ (entry : Entry). (is_about p.k entry && is_close entry.event) ≡ false) (own p.owner entries)
    → All (λ (entry : Entry). (is_own p entry && is_close entry.event) ≡ false) entries
no_close p [] all = All-nil (λ (entry : Entry). (is_own p entry && is_close entry.event) ≡ false)
no_close p (x ∷ entries) all = elim (cases_Bool (x.actor == p.owner)) [
  | inl mine ↦
      let both = subst (All (λ (entry : Entry). (is_about p.k entry && is_close entry.event) ≡ false)) (own_mine p.owner x entries mine) all in
      All-cons (λ (entry : Entry). (is_own p entry && is_close entry.event) ≡ false) x entries
      (ap (λ (b : Bool). (b && is_about p.k x) && is_close x.event) mine ∙ All-head (λ (entry : Entry). (is_about p.k entry && is_close entry.event) ≡ false) x (own p.owner entries) both)
      (no_close p entries (All-tail (λ (entry : Entry). (is_about p.k entry && is_close entry.event) ≡ false) x (own p.owner entries) both))
  | inr other ↦
      All-cons (λ (entry : Entry). (is_own p entry && is_close entry.event) ≡ false) x entries
      (ap (λ (b : Bool). (b && is_about p.k x) && is_close x.event) other)
      (no_close p entries (subst (All (λ (entry : Entry). (is_about p.k entry && is_close entry.event) ≡ false)) (own_theirs p.owner x entries other) all))
]

module _ (pass : PassView) (q : OwnPoint) (at : IsOwnPointOf pass q) where
  abbrev actor : ℕ
  actor = pass.actor

  -- the history, cut at the opening and at the point
  to_opening : Cut actor pass.seen q.earlier (opening_by actor q ∷ (q.since ++ at.rest))
  to_opening = cut actor pass.seen q.earlier (opening_by actor q ∷ (q.since ++ at.rest)) at.front

  opened : First actor to_opening.behind (opening_by actor q) (q.since ++ at.rest)
  opened = first actor to_opening.behind (opening_by actor q) (q.since ++ at.rest) to_opening.behind_own

  life : Cut actor opened.behind q.since at.rest
  life = cut actor opened.behind q.since at.rest opened.behind_own

  abbrev before : List Entry
  before = to_opening.front ++ opened.before

  before_own : own actor before ≡ q.earlier
  before_own = own-append actor to_opening.front opened.before ∙ ((λ i. to_opening.front_own i ++ opened.none i) ∙ append-nil q.earlier)

  abbrev point : List Entry → Point
  point since = record { arena = pass.arena; slots = pass.slots; before = before; owner = actor; feed = q.feed; start = q.start; k = q.k; since = since }

  -- these entries since the opening, and the others behind them, are the history
  joined : (since rest : List Entry) → since ++ rest ≡ opened.behind → history_of (point since) ++ rest ≡ pass.seen
  joined since rest e =
      append_assoc before (opening_by actor q ∷ since) rest
      ∙ (ap (λ (es : List Entry). before ++ opening_by actor q ∷ es) e
      ∙ (append_assoc to_opening.front opened.before (opening_by actor q ∷ opened.behind)
      ∙ (ap (λ (es : List Entry). to_opening.front ++ es) opened.whole ∙ to_opening.whole)))

  seen_at : (since rest : List Entry) → since ++ rest ≡ opened.behind → own actor since ≡ q.since → IsSeenAt pass q (point since)
  seen_at since rest e is = record {
    is_point = record {
      same_arena = refl;
      same_slots = refl;
      rest = rest;
      front = joined since rest e;
      not_closed = no_close (point since) since (subst (All (λ (entry : Entry). (is_about q.k entry && is_close entry.event) ≡ false)) (sym is) at.not_closed);
    };
    owner = refl;
    feed = refl;
    start = refl;
    place = refl;
    earlier = before_own;
    since = is;
  }

  pub point_seen : (p : Point) × IsSeenAt pass q p
  point_seen = (point life.front, seen_at life.front life.behind life.whole life.front_own)

  -- the point just before an entry of the owner
  module _ (entry : Entry) (later : List Entry) (next : at.rest ≡ entry ∷ later) where
    called : First actor life.behind entry later
    called = first actor life.behind entry later (life.behind_own ∙ next)

    pub point_called : (p : Point) × IsCalledAt pass q entry p × ((entry.actor == actor) ≡ true)
    unfolding seen_at
    point_called = (
      point (life.front ++ called.before),
      record {
        at = seen_at (life.front ++ called.before) (entry ∷ called.behind)
            (append_assoc life.front called.before (entry ∷ called.behind) ∙ (ap (λ (es : List Entry). life.front ++ es) called.whole ∙ life.whole))
            (own-append actor life.front called.before ∙ ((λ i. life.front_own i ++ called.none i) ∙ append-nil q.since));
        later = called.behind;
        next = refl;
      },
      called.mine,
    )
