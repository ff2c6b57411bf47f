-- The calls of a feeding give its products, in order.
use Rattle.std.proofs.Common.{◌≡◌, ◌∙◌, ℕ, ◌+◌, ◌==◌, Bool, true, false, cond, List, [], ◌∷◌, ◌++◌, map, length, All, refl, sym, ap, append_assoc, append-nil}
use Rattle.std.proofs.lemmas.Bool.{eq-eqb, cond-true, false≢true}
use Rattle.std.proofs.lemmas.List.{map-append}
use Rattle.std.proofs.lemmas.List.Elements.{All-head, All-tail}
use Rattle.ldm_model.specs.declared.event.Reply.{Reply}
use Rattle.ldm_model.specs.declared.event.Reply.TheVariants as reply
use Rattle.ldm_model.specs.declared.event.Entry.{Entry}
use Rattle.ldm_model.specs.Law.{Point, with_given, given}
use Rattle.ldm_shared.specs.Own.{own}
use Rattle.ldm_shared.specs.OwnReaders.{is_about, over_own}
use Rattle.ldm_shared.proofs.OwnFolds.{over_own-same}
use Rattle.ldm_upstream.specs.Blocks.{blocks, reads}
use Rattle.ldm_upstream.specs.Turn.{Given, Handling, Passed, Whole, Declined, InBlocks, Turn, Lost, Gave, Quiet, Alive, turn_entries, handling_entries, let_go}
use Rattle.ldm_upstream.specs.Turns.{entries_of_turns, given_in, given_in_turns}
use Rattle.ldm_upstream.specs.Feeding.{Last, GoesOn, Stopped, Unanswered, Feeding, last_entries, last_given, given_of}
use Rattle.ldm_between_ends.specs.Life.{gives, calls_of}

-- the numbers of products
abbrev pub numbers : List Given → List ℕ
numbers givens = map (λ (given : Given). given.n) givens

both-same : {A : Type 0} (b : Bool) (x y : A) → x ≡ y → cond b x y ≡ y
both-same true x y same = same
both-same false x y same = refl

module _ (k : ℕ) where
  abbrev over : List ℕ → List Entry → List ℕ
  over ns entries = over_own k with_given ns entries

  over-append : (ns : List ℕ) (front behind : List Entry) → over ns (front ++ behind) ≡ over (over ns front) behind
  over-append ns [] behind = refl
  over-append ns (entry ∷ front) behind = over-append (cond (is_about k entry) (with_given ns entry.reply) ns) front behind

  -- a reply that gives nothing
  nothing-given : (ns : List ℕ) (r : Reply) → gives r ≡ false → with_given ns r ≡ ns
  nothing-given ns (reply.Product n time info) none = absurd (false≢true (sym none))
  nothing-given ns r none = refl

  over-none : (ns : List ℕ) (entries : List Entry) → All (λ (entry : Entry). gives entry.reply ≡ false) entries → over ns entries ≡ ns
  over-none ns [] none = refl
  over-none ns (entry ∷ entries) none =
      ap (λ (ms : List ℕ). over ms entries)
      (both-same (is_about k entry) (with_given ns entry.reply) ns (nothing-given ns entry.reply (All-head (λ (e : Entry). gives e.reply ≡ false) entry entries none)))
      ∙ over-none ns entries (All-tail (λ (e : Entry). gives e.reply ≡ false) entry entries none)

  module _ (actor : ℕ) where
    over-reads : (ns : List ℕ) (offset : ℕ) (bodies : List (List ℕ)) → over ns (reads actor k offset bodies) ≡ ns
    over-reads ns offset [] = refl
    over-reads ns offset (body ∷ bodies) = ap (λ (ms : List ℕ). over ms (reads actor k (offset + length body) bodies)) (both-same (k == k) ns ns refl)
        ∙ over-reads ns (offset + length body) bodies

    over-handling : (ns : List ℕ) (g : Given) (handling : Handling) → over ns (handling_entries actor k g handling) ≡ ns
    over-handling ns g Passed = refl
    over-handling ns g (Whole at) = over-reads ns 0 (blocks g.product.body)
    over-handling ns g (Declined at) = refl
    over-handling ns g (InBlocks at blocks_at) = over-reads ns 0 (blocks g.product.body)

    -- a step that gives a product
    stepped-given : (ns : List ℕ) (g : Given) → cond (k == k) (ns ++ g.n ∷ []) ns ≡ ns ++ g.n ∷ []
    stepped-given ns g = cond-true (k == k) (ns ++ g.n ∷ []) ns (eq-eqb k k refl)

    stepped-none : (ns : List ℕ) → cond (k == k) ns ns ≡ ns ++ []
    stepped-none ns = both-same (k == k) ns ns refl ∙ sym (append-nil ns)

    over-turn : (ns : List ℕ) (turn : Turn) → over ns (turn_entries actor k turn) ≡ ns ++ numbers (given_in turn)
    over-turn ns (Lost count first last) = stepped-none ns
    over-turn ns (Gave g handling) =
        let ms : List ℕ = ns ++ g.n ∷ [] in
        ap (λ (x : List ℕ). over x (handling_entries actor k g handling ++ let_go actor k g ∷ [])) (stepped-given ns g)
        ∙ over-append ms (handling_entries actor k g handling) (let_go actor k g ∷ [])
        ∙ ap (λ (x : List ℕ). over x (let_go actor k g ∷ [])) (over-handling ms g handling)
        ∙ both-same (k == k) ms ms refl
    over-turn ns (Quiet end now) = stepped-none ns
    over-turn ns (Alive end now at) = stepped-none ns

    over-turns : (ns : List ℕ) (turns : List Turn) → over ns (entries_of_turns actor k turns) ≡ ns ++ numbers (given_in_turns turns)
    over-turns ns [] = sym (append-nil ns)
    over-turns ns (turn ∷ turns) =
        over-append ns (turn_entries actor k turn) (entries_of_turns actor k turns)
        ∙ ap (λ (x : List ℕ). over x (entries_of_turns actor k turns)) (over-turn ns turn)
        ∙ over-turns (ns ++ numbers (given_in turn)) turns
        ∙ append_assoc ns (numbers (given_in turn)) (numbers (given_in_turns turns))
        ∙ ap (λ (x : List ℕ). ns ++ x) (sym (map-append (λ (given : Given). given.n) (given_in turn) (given_in_turns turns)))

    over-last : (ns : List ℕ) (last : Last) → over ns (last_entries actor k last) ≡ ns ++ numbers (last_given last)
    over-last ns GoesOn = sym (append-nil ns)
    over-last ns (Stopped end) = stepped-none ns
    over-last ns (Unanswered g at) = stepped-given ns g

    over-calls : (feeding : Feeding) → over [] (calls_of actor k feeding) ≡ numbers (given_of feeding)
    over-calls feeding =
        over-append [] (entries_of_turns actor k feeding.turns) (last_entries actor k feeding.last)
        ∙ ap (λ (x : List ℕ). over x (last_entries actor k feeding.last)) (over-turns [] feeding.turns)
        ∙ over-last (numbers (given_in_turns feeding.turns)) feeding.last
        ∙ sym (map-append (λ (given : Given). given.n) (given_in_turns feeding.turns) (last_given feeding.last))

-- a cursor was given what its feeding was
pub given-numbers : (life : Point) (feeding : Feeding) (unmade : List Entry) → own life.owner life.since ++ unmade ≡ calls_of life.owner life.k feeding
    → All (λ (entry : Entry). gives entry.reply ≡ false) unmade → given life ≡ numbers (given_of feeding)
given-numbers life feeding unmade called none =
    let made = own life.owner life.since in
    over_own-same life with_given [] [] life.since
    ∙ sym (over-none life.k (over life.k [] made) unmade none)
    ∙ sym (over-append life.k [] made unmade)
    ∙ ap (λ (entries : List Entry). over life.k [] entries) called
    ∙ over-calls life.k life.owner feeding
