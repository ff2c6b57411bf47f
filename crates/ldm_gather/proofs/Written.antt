-- The bodies that a whole gathering wrote: product by product.
use Rattle.std.proofs.Common.{◌≡◌, ◌∙◌, ℕ, ◌≤◌, List, [], ◌∷◌, ◌++◌, Option, Some, None, inl, inr, ◌⊎◌, refl, sym, ap, subst, append_assoc, arith}
use Rattle.std.proofs.lemmas.List.{append-nil}
use Rattle.ldm_outside.specs.Io.{SinkRecord, Takes, WritesFront}
use Rattle.ldm_outside.proofs.CallerLemmas.{Takes-nothing, Takes-then}
use Rattle.ldm_gather.specs.declared.end.GatherEnd.{GatherEnd}
use Rattle.ldm_gather.specs.declared.end.Handled.{Handled}
use Rattle.ldm_gather.specs.declared.end.GatherEnd.TheVariants as gather_end
use Rattle.ldm_gather.specs.declared.each_end.EachEnd.{EachEnd}
use Rattle.ldm_gather.specs.declared.taker.EachStop.{EachStop}
use Rattle.ldm_gather.specs.declared.taker.EachStop.TheVariants.{ByTaker, LogFault, Worn}
use Rattle.ldm_gather.specs.EachCourse.{Stage, TakesEach, EndsInHand}
use Rattle.ldm_gather.specs.EachHandling.{EachHandles}
use Rattle.ldm_gather.specs.EachRuns.{GathersEach, Situation, TakesIf, each_at, given_by, given_if, in_hand_by, in_hand_if, stage_in, within}
use Rattle.ldm_shared.specs.Givens.{Gave, Given, Lost, Turn, products_of}
use Rattle.ldm_gather.specs.Orders.{OrderView}
use Rattle.ldm_gather.specs.Runs as runs
use Rattle.ldm_gather.specs.Scene.{Scene}
use Rattle.ldm_gather.specs.Taking.{Hands, TakesAll, TakesLast}
use Rattle.ldm_gather.specs.declared.cat.Cat.{Cat}
use Rattle.ldm_gather.specs.Bodies.{WritesBodies, bodies_of}
use Rattle.ldm_gather.specs.CatTaking.{CatTakes}

-- nothing was written of what is in hand
none : (givens in_hand : List Given) (old new : SinkRecord) → Takes old (bodies_of givens) new → old.faults ≤ new.faults → WritesBodies givens in_hand old new
none givens in_hand old new written kept = record {
  bytes = [];
  is_front = record { rest = bodies_of in_hand; is = refl };
  written = subst (λ (xs : List ℕ). Takes old xs new) (sym (append-nil (bodies_of givens))) written;
  kept = kept;
}

-- of the body in hand a front
front : (givens : List Given) (given : Given) (old mid new : SinkRecord) → Takes old (bodies_of givens) mid → old.faults ≤ mid.faults → WritesFront mid given.product.body new
    → mid.faults ≤ new.faults → WritesBodies givens (given ∷ []) old new
front givens given old mid new written kept writes more = record {
  bytes = writes.0;
  is_front = record { rest = writes.1; is = writes.2 ∙ sym (append-nil given.product.body) };
  written = Takes-then old mid new (bodies_of givens) writes.0 written writes.3;
  kept = omega (arith, kept, more);
}

module _ {K : Type 0} (tells : K → SinkRecord) where
  abbrev H : Type 0
  H = Hands Cat K

  abbrev sink : H → SinkRecord
  sink hands = tells hands.lent

  -- whole
  record Wrote (givens : List Given) (old new : SinkRecord) : Type 0 where
    written : Takes old (bodies_of givens) new
    kept : old.faults ≤ new.faults

  wrote-all : (givens : List Given) (old new : H) → TakesAll (CatTakes tells) givens old new → Wrote givens (sink old) (sink new)
  wrote-all [] old new takes =
      subst (λ (h : H). Wrote [] (sink old) (sink h)) (sym takes) (record { written = Takes-nothing (sink old) (sink old) refl; kept = omega arith })
  wrote-all (given ∷ givens) old new takes =
      let one = takes.1 in
      let rest = wrote-all givens takes.0 new takes.2 in
      record {
        written = Takes-then (sink old) (sink takes.0) (sink new) given.product.body (bodies_of givens) one.0 rest.written;
        kept = omega (arith, one.1, rest.kept);
      }

  none-more : (givens in_hand : List Given) (s : SinkRecord) (mid new : H) → Wrote givens s (sink mid) → new ≡ mid → WritesBodies givens in_hand s (sink new)
  none-more givens in_hand s mid new wrote same =
      subst (λ (h : H). WritesBodies givens in_hand s (sink h)) (sym same) (none givens in_hand s (sink mid) wrote.written wrote.kept)

  wrote-last : (why : EachStop) (givens : List Given) (in_hand : List Turn) (s : SinkRecord) (mid new : H) → Wrote givens s (sink mid) → TakesLast (CatTakes tells) why in_hand mid new
      → WritesBodies givens (products_of in_hand) s (sink new)
  wrote-last ByTaker givens (Gave given ∷ []) s mid new wrote last = front givens given s (sink mid) (sink new) wrote.written wrote.kept last.0 last.1
  wrote-last LogFault givens (Lost count first end ∷ []) s mid new wrote last = none-more givens [] s mid new wrote last
  wrote-last Worn givens [] s mid new wrote last = none-more givens [] s mid new wrote last
  wrote-last Worn givens (Gave given ∷ []) s mid new wrote (inl last) =
      front givens given s (sink mid) (sink new) wrote.written wrote.kept (given.product.body, [], append-nil given.product.body, last.0) last.1
  wrote-last Worn givens (Gave given ∷ []) s mid new wrote (inr last) = front givens given s (sink mid) (sink new) wrote.written wrote.kept last.0 last.1
  wrote-last why givens in_hand s mid new wrote last = absurd last

  -- the same of no turn in hand
  wrote-whole : (givens : List Given) (in_hand : List Turn) (s : SinkRecord) (mid new : H) → Wrote givens s (sink mid) → in_hand ≡ [] → new ≡ mid
      → WritesBodies givens (products_of in_hand) s (sink new)
  wrote-whole givens in_hand s mid new wrote is same =
      subst (λ (ts : List Turn). WritesBodies givens (products_of ts) s (sink new)) (sym is) (none-more givens [] s mid new wrote same)

  wrote-end : (end : GatherEnd) (givens : List Given) (in_hand : List Turn) (s : SinkRecord) (mid : H) (new : Stage Cat K) → Wrote givens s (sink mid)
      → EndsInHand (CatTakes tells) end in_hand mid new → WritesBodies givens (products_of in_hand) s (sink new.hands)
  wrote-end (gather_end.Received e) givens in_hand s mid new wrote ends = wrote-whole givens in_hand s mid new.hands wrote ends.0 ends.1
  wrote-end gather_end.Enough givens in_hand s mid new wrote ends = wrote-whole givens in_hand s mid new.hands wrote ends.0 ends.1
  wrote-end gather_end.Stopped givens in_hand s mid new wrote ends = wrote-last ends.0 givens in_hand s mid new.hands wrote ends.2

  wrote-if : (gathered : Option GatherEnd) (k : ℕ) (old new : Stage Cat K) (took : TakesIf (CatTakes tells) gathered k old new) → (gathered ≡ None → new.hands.lent ≡ old.hands.lent)
      → WritesBodies (given_if (CatTakes tells) gathered k old new took) (in_hand_if (CatTakes tells) gathered k old new took) (sink old.hands) (sink new.hands)
  wrote-if None k old new took untouched =
      subst (λ (lent : K). WritesBodies [] [] (sink old.hands) (tells lent)) (sym (untouched refl))
      (none [] [] (sink old.hands) (sink old.hands) (Takes-nothing (sink old.hands) (sink old.hands) refl) (omega arith))
  wrote-if (Some end) k old new took untouched =
      wrote-end end (products_of took.turns) took.in_hand (sink old.hands) took.mid new (wrote-all (products_of took.turns) old.hands took.mid took.taken) took.ends

  -- where no link was connected, what the handler is lent is as it was
  not-connected : {W A B : Type 0} (handles : Handled → Scene W A B → Scene W A B → Type 0) (gathered : Option GatherEnd) (order : OrderView) (old new : runs.Situation W A B)
      → gathered ≡ None → runs.Connects handles gathered order old new → new.scene.first ≡ old.scene.first
  not-connected {W} {A} {B} handles None order old new is connects = ap (λ (s : runs.Situation W A B). s.scene.first) connects.others
  not-connected {W} {A} {B} handles (Some end) order old new is connects = absurd (cc is)

  -- what a whole gathering wrote
  pub writes-by : (end : EachEnd) (order : OrderView) (name : List ℕ) (old new : Situation Cat K) (gathers : GathersEach (CatTakes tells) end order name old new)
      → WritesBodies (given_by (CatTakes tells) gathers) (in_hand_by (CatTakes tells) gathers) (sink old.hands) (sink new.hands)
  writes-by end order name old new (inl made) =
      none-more [] [] (sink old.hands) old.hands new.hands (record { written = Takes-nothing (sink old.hands) (sink old.hands) refl; kept = omega arith })
      (ap (λ (s : Situation Cat K). s.hands) made.others)
  writes-by end order name old new (inr makes) =
      let all = makes.collects in
      let each = each_at makes.asking makes.k old.hands.taker in
      wrote-if all.gathered makes.k (stage_in each makes.first old) (stage_in all.left all.last new) all.took
      (λ is. not-connected (EachHandles (CatTakes tells)) all.gathered _ (within each makes.first old) (within all.left all.last new) is all.connects)
