-- What each call of a reader comes to, by how its pass grew.
use Rattle.std.proofs.Common.{◌≡◌, ◌∙◌, ℕ, zero, suc, ◌+◌, ◌-◌, ◌^◌, ◌<◌, ◌≤◌, ◌==◌, true, List, [], ◌∷◌, ◌++◌, length, take, drop, min, Option, Some, None, refl, sym, ap, subst, arith, length-take, length-drop, length-append}
use Rattle.std.proofs.lemmas.List.{take_all}
use Rattle.std.proofs.lemmas.Bool.{eq-eqb}
use Rattle.ldm_types.specs.Info.{Metadata}
use Rattle.ldm_model.specs.declared.event.Start.{Start}
use Rattle.ldm_model.specs.declared.event.Event.{Event}
use Rattle.ldm_model.specs.declared.event.Event.TheVariants as event
use Rattle.ldm_model.specs.declared.event.Reply.{Reply}
use Rattle.ldm_model.specs.declared.event.Reply.TheVariants as reply
use Rattle.ldm_model.specs.Product.{Product}
use Rattle.ldm_model.specs.Read.{part_of}
use Rattle.ldm_model.specs.History.{after, IsLegal}
use Rattle.ldm_shared.specs.Passes.{PassView, HasSeen, Grows, FindsWorn}
use Rattle.ldm_shared.specs.OwnReaders.{with_held}
use Rattle.ldm_model.specs.declared.replies.StepReply.{StepReply}
use Rattle.ldm_model.specs.declared.replies.StepReply.TheVariants as stepping
use Rattle.ldm_model.specs.declared.event.Entry.{Entry}
use Rattle.ldm_model.specs.Answers.{step_answer}
use Rattle.ldm_model.specs.State.{empty}
use Rattle.ldm_model.proofs.Appended.{IsLegalFrom-append}
use Rattle.ldm_shared.specs.declared.reader.Opening.{Opening}
use Rattle.ldm_shared.specs.declared.reader.Opening.TheVariants as opening
use Rattle.ldm_shared.specs.declared.reader.Came.{Came}
use Rattle.ldm_shared.specs.declared.reader.Came.TheVariants as came
use Rattle.ldm_shared.specs.Reader.{HasCursor, HoldsProduct, HasOpened, HasStepped, GivesSome, NamesProduct, IfNotQueued, opening_reply, came_reply}
use Rattle.ldm_shared.proofs.Cursors.{names-product}
use Rattle.ldm_shared.proofs.Answered as of_call

pub itself : (k : ℕ) → (k == k) ≡ true
itself k = eq-eqb k k refl

module _ (old new : PassView) where
  -- the queue is worn
  pub worn_keeps : (k turns : ℕ) (held : Option ℕ) → FindsWorn old new turns → HasCursor old k held → HasCursor new k held
  worn_keeps k turns held g has = subst (λ (p : PassView). HasCursor p k held) (sym g.makes.same)
      (of_call.still old new.seen k held has (subst HasSeen g.makes.same g.makes.has_seen) g.makes.adds)

  pub opens : (feed : ℕ) (start : Start) (k : ℕ) → Grows old new (event.OpenCursor (record { 0 = feed }) start) (reply.Opened k) → HasCursor new k None
  opens feed start k g = subst (λ (p : PassView). HasCursor p k None) (sym g.makes.same)
      (of_call.opened old new.seen feed start k (subst HasSeen g.makes.same g.makes.has_seen) g.makes.adds)

  module _ (k : ℕ) where
    -- a step that gives nothing
    pub steps : (r : Reply) → Grows old new (event.Step k) r → HasCursor old k None → with_held None r ≡ None → HasCursor new k None
    steps r g has none = subst (λ (p : PassView). HasCursor p k None) (sym g.makes.same)
        (subst (λ (h : Option ℕ). HasCursor (record old { seen = new.seen }) k h) none
        (of_call.after_call old new.seen k None has (subst HasSeen g.makes.same g.makes.has_seen) (event.Step k) r g.makes.adds (itself k) refl))

    pub gives : (n time : ℕ) (info : Metadata) → Grows old new (event.Step k) (reply.Product n time info) → HasCursor old k None
        → (body : List ℕ) × HoldsProduct new k n time (record { info = info; body = body })
    gives n time info g has =
        let there = of_call.gives old new.seen k None has (subst HasSeen g.makes.same g.makes.has_seen) (event.Step k) (reply.Product n time info) g.makes.adds (itself k) n time info refl refl in
        (there.0, subst (λ (p : PassView). HoldsProduct p k n time (record { info = info; body = there.0 })) (sym g.makes.same) there.1)

    pub no_cursor : (e : Event) (held : Option ℕ) → of_call.is_about_place k e → Grows old new e reply.NoCursor → HasCursor old k held → ⊥
    no_cursor e held about g has =
        of_call.not_no_cursor old new.seen k held has (subst HasSeen g.makes.same g.makes.has_seen) e reply.NoCursor g.makes.adds about refl

    pub no_holding : (n : ℕ) → Grows old new (event.Step k) (reply.Holding n) → HasCursor old k None → ⊥
    no_holding n g has =
        of_call.not_holding old new.seen k None has (subst HasSeen g.makes.same g.makes.has_seen) (event.Step k) (reply.Holding n) g.makes.adds (itself k) refl n refl refl

    -- a release
    pub releases : (n : ℕ) (r : Reply) → Grows old new (event.Release k) r → HasCursor old k (Some n) → r ≡ reply.Released n
    releases n r g has =
        of_call.releases old new.seen k (Some n) has (subst HasSeen g.makes.same g.makes.has_seen) (event.Release k) r g.makes.adds (itself k) n refl refl

    pub released : (n : ℕ) → Grows old new (event.Release k) (reply.Released n) → HasCursor old k (Some n) → HasCursor new k None
    released n g has = subst (λ (p : PassView). HasCursor p k None) (sym g.makes.same)
        (of_call.after_call old new.seen k (Some n) has (subst HasSeen g.makes.same g.makes.has_seen) (event.Release k) (reply.Released n) g.makes.adds (itself k) refl)

    -- a read
    module _ (n time : ℕ) (product : Product) (offset len : ℕ) (r : Reply) (g : Grows old new (event.Read k offset len) r) (holds : HoldsProduct old k n time product)
        (within : offset ≤ product.info.size) where
      has_seen : HasSeen (record old { seen = new.seen })
      has_seen = subst HasSeen g.makes.same g.makes.has_seen

      pub reads : r ≡ reply.Bytes (part_of product offset len)
      reads = of_call.reads old new.seen k (Some n) holds.cursor has_seen (event.Read k offset len) r g.makes.adds (itself k) n refl product time holds.row offset len refl within

      pub holds_still : HoldsProduct new k n time product
      holds_still =
          let r_is = reads in
          let cursor : HasCursor (record old { seen = new.seen }) k (Some n) = subst (λ (h : Option ℕ). HasCursor (record old { seen = new.seen }) k h)
          (ap (λ (a : Reply). with_held (Some n) a) r_is)
          (of_call.after_call old new.seen k (Some n) holds.cursor has_seen (event.Read k offset len) r g.makes.adds (itself k) refl) in
          let there : HoldsProduct (record old { seen = new.seen }) k n time product = record {
            cursor = cursor;
            row = of_call.row_later old new.seen has_seen g.makes.adds.begins n product time holds.row;
            whole = holds.whole;
            fits = holds.fits;
          } in
          subst (λ (p : PassView). HoldsProduct p k n time product) (sym g.makes.same) there

-- so many bytes of a body, where there are so many
pub part-whole : (product : Product) (offset len : ℕ) → offset + len ≤ product.info.size → part_of product offset len ≡ take len (drop offset product.body)
part-whole product offset len within = let fits : min len (product.info.size - offset) ≡ len = omega arith in rw fits refl

-- bytes of which so many are a whole list of as many as there are
filled-whole : (into part : List ℕ) (len : ℕ) → take len into ≡ part → length part ≡ length into → into ≡ part
filled-whole [] part zero e l = e
filled-whole [] part (suc len) e l = e
filled-whole (x ∷ xs) part zero e l = absurd (omega (arith, ap length e))
filled-whole (x ∷ xs) [] (suc len) e l = absurd (cc e)
filled-whole (x ∷ xs) (p ∷ ps) (suc len) e l =
    let head : x ≡ p = cc e in
    let rest : xs ≡ ps = filled-whole xs ps len (cc e) (omega arith) in
    cc

-- a call of `read` of the shared queue
module _ (old new : PassView) (k n time : ℕ) (product : Product) (offset : ℕ) (before into : List ℕ) (len : ℕ)
    (g : Grows old new (event.Read k offset (min (length before) (2 ^ 32 - 1))) (reply.Bytes (take len into))) (holds : HoldsProduct old k n time product)
    (within : offset + length before ≤ product.info.size) (small : product.info.size < 2 ^ 32) (same : length into ≡ length before) where
  asked_is : min (length before) (2 ^ 32 - 1) ≡ length before
  asked_is = omega arith

  part_is : part_of product offset (min (length before) (2 ^ 32 - 1)) ≡ take (length before) (drop offset product.body)
  part_is = ap (part_of product offset) asked_is ∙ part-whole product offset (length before) within

  pub fills : into ≡ take (length before) (drop offset product.body)
  fills =
      let answer = reads old new k n time product offset (min (length before) (2 ^ 32 - 1)) (reply.Bytes (take len into)) g holds (omega arith) in
      let bytes : take len into ≡ part_of product offset (min (length before) (2 ^ 32 - 1)) = cc answer in
      filled-whole into (take (length before) (drop offset product.body)) len (bytes ∙ part_is)
      (omega (arith, length-take (length before) (drop offset product.body), length-drop offset product.body, holds.whole, same))

  pub grown : Grows old new (event.Read k offset (length into)) (reply.Bytes into)
  grown =
      let answer = reads old new k n time product offset (min (length before) (2 ^ 32 - 1)) (reply.Bytes (take len into)) g holds (omega arith) in
      let bytes : take len into ≡ part_of product offset (min (length before) (2 ^ 32 - 1)) = cc answer in
      let whole_is : take len into ≡ into = bytes ∙ part_is ∙ sym fills in
      coe 0 1 (i. Grows old new (event.Read k offset ((asked_is ∙ sym same) i)) (reply.Bytes (whole_is i))) g

  pub held_still : HoldsProduct new k n time product
  held_still = holds_still old new k n time product offset (min (length before) (2 ^ 32 - 1)) (reply.Bytes (take len into)) g holds (omega arith)

-- a call of `read_onto` of the shared queue, which leaves `more` behind what was there
module _ (old new : PassView) (k n time : ℕ) (product : Product) (offset len : ℕ) (more : List ℕ) (count : ℕ)
    (g : Grows old new (event.Read k offset (min len (2 ^ 32 - 1))) (reply.Bytes (take count more))) (holds : HoldsProduct old k n time product)
    (within : offset + len ≤ product.info.size) (small : product.info.size < 2 ^ 32) where
  abbrev asked : ℕ
  asked = min len (2 ^ 32 - 1)

  len_is : asked ≡ len
  len_is = omega arith

  taken_is : take count more ≡ take len (drop offset product.body)
  taken_is =
      let answer = reads old new k n time product offset asked (reply.Bytes (take count more)) g holds (omega arith) in
      let bytes : take count more ≡ part_of product offset asked = cc answer in
      bytes ∙ ap (part_of product offset) len_is ∙ part-whole product offset len within

  pub onto_grown : Grows old new (event.Read k offset len) (reply.Bytes (take len (drop offset product.body)))
  onto_grown = coe 0 1 (i. Grows old new (event.Read k offset (len_is i)) (reply.Bytes (taken_is i))) g

  pub onto_bytes : (before : List ℕ) (after : List ℕ) → after ≡ before ++ more → length after ≡ length before + count → after ≡ before ++ take len (drop offset product.body)
  onto_bytes before after after-is long =
      let count-is : length more ≡ count = omega (arith, ap (λ (xs : List ℕ). length xs) after-is, length-append before more, long) in
      after-is ∙ ap (λ (xs : List ℕ). before ++ xs) (sym (take_all count more (omega (arith, count-is))) ∙ taken_is)

  pub onto_held : HoldsProduct new k n time product
  onto_held = holds_still old new k n time product offset asked (reply.Bytes (take count more)) g holds (omega arith)

-- what a call of the shared queue answered
module _ (old new : PassView) where
  pub opened-cursor : (feed : ℕ) (start : Start) (o : Opening) → Grows old new (event.OpenCursor (record { 0 = feed }) start) (opening_reply o) → HasOpened new o
  opened-cursor feed start (opening.Opened reader) g = opens old new feed start reader.k g
  opened-cursor feed start opening.AllBusy g = tt
  opened-cursor feed start opening.NotQueued g = tt

  -- only a product that is named is not queued
  pub opened-named : (feed : ℕ) (start : Start) (o : Opening) → Grows old new (event.OpenCursor (record { 0 = feed }) start) (opening_reply o) → IfNotQueued o (NamesProduct start)
  opened-named feed start (opening.Opened reader) g = tt
  opened-named feed start opening.AllBusy g = tt
  opened-named feed start opening.NotQueued g =
      let entry : Entry = record { actor = old.actor; event = event.OpenCursor (record { 0 = feed }) start; reply = reply.NotQueued } in
      let legal : IsLegal new.arena new.slots (g.before ++ entry ∷ []) = subst (λ (es : List Entry). IsLegal new.arena new.slots es) g.last g.makes.has_seen.legal in
      let there = ((IsLegalFrom-append g.before (entry ∷ []) (empty new.arena new.slots)).0 legal).1.0 in
      names-product (after new.arena new.slots g.before) old.actor feed start (sym there.reply)

  module _ (k : ℕ) where
    pub gives-some : (r : StepReply) → Grows old new (event.Step k) (step_answer r) → HasCursor old k None → GivesSome r
    gives-some stepping.NoCursor g has = no_cursor old new k (event.Step k) None (itself k) g has
    gives-some (stepping.Holding n) g has = no_holding old new k n g has
    gives-some (stepping.Gap count first last) g has = tt
    gives-some (stepping.Product n time info) g has = tt
    gives-some (stepping.End at) g has = tt

    pub stepped-cursor : (c : Came) → Grows old new (event.Step k) (came_reply c) → HasCursor old k None → HasStepped new k c
    stepped-cursor (came.Gap count first last) g has = steps old new k (reply.Gap count first last) g has refl
    stepped-cursor (came.Product held) g has = gives old new k held.n held.time held.info g has
    stepped-cursor (came.End at) g has = steps old new k (reply.End at) g has refl
