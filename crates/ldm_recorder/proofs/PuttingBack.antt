-- Putting back products, one after another.
use Rattle.std.proofs.Common.{◌≡◌, ℕ, zero, suc, ◌+◌, ◌-◌, ◌≤◌, List, [], ◌∷◌, ◌++◌, length, take, drop, map, refl, sym, ◌∙◌, ap, subst, arith}
use Rattle.std.specs.Prelude.{true, false, Option, Some, None, IfSome, Ok, Err, slice_get}
use Rattle.std.specs.List.{between, flat_map}
use Rattle.std.proofs.lemmas.List.{append-nil, append_assoc, map-append, take-append-drop, take_all, length-append}
use Rattle.std.proofs.lemmas.List.Concat.{flat_map-append}
use Rattle.ldm_disk.specs.Told.{DiskRecord, FileRecord, IsConsistent}
use Rattle.ldm_disk.specs.Calls.{FileChanges, KeepsDisk, KeepsFile}
use Rattle.ldm_outside.proofs.CallerLemmas.{Rose-later}
use Rattle.ldm_model.specs.declared.event.Entry.{Entry}
use Rattle.ldm_model.specs.declared.event.Event.{Event}
use Rattle.ldm_model.specs.declared.event.Event.TheVariants as event
use Rattle.ldm_model.specs.declared.event.Reply.{Reply}
use Rattle.ldm_model.specs.declared.event.Reply.TheVariants as reply
use Rattle.ldm_model.specs.declared.replies.InsertReply.{InsertReply}
use Rattle.ldm_model.specs.declared.replies.InsertReply.TheVariants as insert
use Rattle.ldm_model.specs.Answers.{insert_answer}
use Rattle.ldm_shared.specs.Passes.{PassView, SharedView, Calls, FindsWorn, Grows, IsPassOf, IsSamePass}
use Rattle.ldm_shared.proofs.Made.{calls_none, calls_some, calls_trans}
use Rattle.ldm_journal.specs.declared.marks.Marks.{Marks}
use Rattle.ldm_journal.specs.declared.entry.Entry as kept
use Rattle.ldm_journal.specs.declared.reader.Reader.{Reader}
use Rattle.ldm_journal.specs.declared.fault.JournalFault.{JournalFault}
use Rattle.ldm_journal.specs.declared.fault.JournalFault.TheVariants as fault
use Rattle.ldm_journal.specs.Records.{Kept}
use Rattle.ldm_journal.specs.Format.{around}
use Rattle.ldm_journal.specs.Standing.{Keeps, Stands}
use Rattle.ldm_journal.specs.Reading.{FaultRose, IsBefore, Reads, ReadsNext, kept_of}
use Rattle.ldm_types.specs.declared.signature.Signature.{Signature}
use Rattle.ldm_recorder.specs.declared.line.Line.{Line}
use Rattle.ldm_recorder.specs.declared.end.RestoreEnd.TheVariants.{Restored, NotRead, Worn}
use Rattle.ldm_recorder.specs.Restoring.{AnswersLast, AreFound, AreOfKept, Freed, InHand, IsOfOutside, PutBack, PutsOne, PutsPart, Restores, expiration, freed_entries, hand_entries, insertion, last_entries, put_entries, source_of}

-- ---- one product

freed-append : (actor : ℕ) (k : Kept) (first more : List Freed) → freed_entries actor k (first ++ more) ≡ freed_entries actor k first ++ freed_entries actor k more
freed-append actor k first more =
    flat_map-append (λ (f : Freed). insertion actor k (reply.Duplicate f.queued) ∷ expiration actor (reply.Expired f.evicted) ∷ []) first more

same_actor : (old new : PassView) (made : List Entry) → Calls old new made → new.actor ≡ old.actor
same_actor old new made calls = ap (λ (p : PassView). p.actor) calls.same

-- so often the oldest product was evicted for its signature
pub record FreesSome (k : Kept) (old new : PassView) : Type 0 where
  pub freed : List Freed
  pub calls : Calls old new (freed_entries old.actor k freed)

pub frees_none : (k : Kept) (pass : PassView) → FreesSome k pass pass
frees_none k pass = record { freed = []; calls = calls_none pass }

-- one call more
grown : (old mid new : PassView) (made : List Entry) (asked : Event) (answer : Reply) → Calls old mid made → Grows mid new asked answer
    → Calls old new (made ++ record { actor = old.actor; event = asked; reply = answer } ∷ [])
grown old mid new made asked answer calls grows =
    subst (λ (a : ℕ). Calls old new (made ++ record { actor = a; event = asked; reply = answer } ∷ [])) (same_actor old mid made calls)
    (calls_trans old mid new made (record { actor = mid.actor; event = asked; reply = answer } ∷ []) calls (calls_some mid new _ grows.makes))

worn_then : (old mid new : PassView) (made : List Entry) (turns : ℕ) → Calls old mid made → FindsWorn mid new turns → Calls old new made
worn_then old mid new made turns calls worn =
    subst (λ (l : List Entry). Calls old new l) (append-nil made) (calls_trans old mid new made [] calls (calls_some mid new [] worn.makes))

-- its signature was queued, and the oldest product was evicted
pub frees_more : (k : Kept) (old mid tried new : PassView) (n m : ℕ) → FreesSome k old mid → Grows mid tried (event.Insert k.time k.info k.body) (reply.Duplicate n)
    → Grows tried new event.Expire (reply.Expired m) → FreesSome k old new
frees_more k old mid tried new n m some insertion_grows expires =
    let before = freed_entries old.actor k some.freed in
    let first = insertion old.actor k (reply.Duplicate n) in
    let one = grown old mid tried before (event.Insert k.time k.info k.body) (reply.Duplicate n) some.calls insertion_grows in
    let two = grown old tried new (before ++ first ∷ []) event.Expire (reply.Expired m) one expires in
    record {
      freed = some.freed ++ record { queued = n; evicted = m } ∷ [];
      calls =
          subst (λ (l : List Entry). Calls old new l)
          (append_assoc before (first ∷ []) (expiration old.actor (reply.Expired m) ∷ []) ∙ sym (freed-append old.actor k some.freed (record { queued = n; evicted = m } ∷ []))) two;
    }

-- it was answered otherwise
last_is : (actor : ℕ) (k : Kept) (answer : InsertReply) → AnswersLast true answer → insertion actor k (insert_answer answer) ∷ [] ≡ last_entries actor k answer
last_is actor k (insert.Admitted n time evicted) is = refl
last_is actor k (insert.TooBig need arena) is = refl
last_is actor k (insert.Duplicate n) is = absurd (cc is)
last_is actor k insert.TimeEnd is = refl
last_is actor k (insert.Locked held) is = refl

pub puts_last : (k : Kept) (old mid new : PassView) (answer : InsertReply) → AnswersLast true answer → FreesSome k old mid
    → Grows mid new (event.Insert k.time k.info k.body) (insert_answer answer) → PutsOne k old new
puts_last k old mid new answer last some grows = record {
  put = record { product = k; freed = some.freed; answer = answer };
  product = refl;
  calls =
      subst (λ (l : List Entry). Calls old new (freed_entries old.actor k some.freed ++ l)) (last_is old.actor k answer last)
      (grown old mid new (freed_entries old.actor k some.freed) (event.Insert k.time k.info k.body) (insert_answer answer) some.calls grows);
}

-- it was that its signature is queued
pub is_queued : (answer : InsertReply) → AnswersLast false answer → (n : ℕ) × (insert_answer answer ≡ reply.Duplicate n)
is_queued (insert.Admitted n time evicted) is = absurd (cc is)
is_queued (insert.TooBig need arena) is = absurd (cc is)
is_queued (insert.Duplicate n) is = (n, refl)
is_queued insert.TimeEnd is = absurd (cc is)
is_queued (insert.Locked held) is = absurd (cc is)

pub grows_queued : (k : Kept) (old new : PassView) (answer : InsertReply) → AnswersLast false answer → Grows old new (event.Insert k.time k.info k.body) (insert_answer answer)
    → (n : ℕ) × Grows old new (event.Insert k.time k.info k.body) (reply.Duplicate n)
grows_queued k old new answer is grows =
    let queued = is_queued answer is in
    (queued.0, subst (λ (r : Reply). Grows old new (event.Insert k.time k.info k.body) r) queued.1 grows)

-- no product could be evicted
pub puts_none : (k : Kept) (old mid tried new : PassView) (n : ℕ) → FreesSome k old mid → Grows mid tried (event.Insert k.time k.info k.body) (reply.Duplicate n)
    → Grows tried new event.Expire reply.Nothing → PutsOne k old new
puts_none k old mid tried new n some insertion_grows expires =
    let before = freed_entries old.actor k some.freed in
    let first = insertion old.actor k (reply.Duplicate n) in
    let one = grown old mid tried before (event.Insert k.time k.info k.body) (reply.Duplicate n) some.calls insertion_grows in
    let two = grown old tried new (before ++ first ∷ []) event.Expire reply.Nothing one expires in
    record {
      put = record { product = k; freed = some.freed; answer = insert.Duplicate n };
      product = refl;
      calls = subst (λ (l : List Entry). Calls old new l) (append_assoc before (first ∷ []) (expiration old.actor reply.Nothing ∷ [])) two;
    }

-- the queue had had all its calls
pub puts_part : (k : Kept) (old mid new : PassView) (turns : ℕ) → FreesSome k old mid → FindsWorn mid new turns → PutsPart k old new
puts_part k old mid new turns some worn = record {
  hand = record { product = k; freed = some.freed; found = [] };
  product = refl;
  one = omega arith;
  calls =
      subst (λ (l : List Entry). Calls old new l) (sym (append-nil (freed_entries old.actor k some.freed)))
      (worn_then old mid new (freed_entries old.actor k some.freed) turns some.calls worn);
  worn = worn.long ∙ worn.turns_are;
}

pub puts_tried : (k : Kept) (old mid tried new : PassView) (n turns : ℕ) → FreesSome k old mid → Grows mid tried (event.Insert k.time k.info k.body) (reply.Duplicate n)
    → FindsWorn tried new turns → PutsPart k old new
puts_tried k old mid tried new n turns some insertion_grows worn =
    let before = freed_entries old.actor k some.freed in
    let one = grown old mid tried before (event.Insert k.time k.info k.body) (reply.Duplicate n) some.calls insertion_grows in
    record {
      hand = record { product = k; freed = some.freed; found = n ∷ [] };
      product = refl;
      one = omega arith;
      calls = worn_then old tried new (before ++ insertion old.actor k (reply.Duplicate n) ∷ []) turns one worn;
      worn = worn.long ∙ worn.turns_are;
    }

-- ---- what a reader gives

stands_still : (marks : Marks) (kept appended : List Kept) (old new : FileRecord) → KeepsFile old new → Stands marks kept appended old → Stands marks kept appended new
stands_still marks kept appended old new keeps stands = record {
  crash = λ left leaves.
      (let from = keeps.goes.crash left leaves in subst (λ (file : List ℕ). Keeps marks kept file) (sym from.2) (stands.crash from.0 from.1));
  behind = ap (λ (bytes : List ℕ). around marks.ring (marks.front + marks.used) marks.appended bytes) keeps.bytes ∙ stands.behind;
  lawful = stands.lawful;
  rising = stands.rising;
}

take_more : (i : ℕ) (kept : List Kept) (k : Kept) → slice_get kept i ≡ Some k → take (suc i) kept ≡ take i kept ++ k ∷ []
take_more zero [] k is = absurd (cc is)
take_more zero (x ∷ kept) k is = (let one : x ≡ k = cc is in cc one)
take_more (suc i) [] k is = absurd (cc is)
take_more (suc i) (x ∷ kept) k is = ap (λ (l : List Kept). x ∷ l) (take_more i kept k is)

abbrev pub products_of : List PutBack → List Kept
products_of whole = map (λ (put : PutBack). put.product) whole

-- those are the first of what the journal keeps, and the reader stands behind them
pub record IsBehind (whole : List PutBack) (marks : Marks) (reader : Reader) (kept : List Kept) : Type 0 where
  pub products : products_of whole ≡ take (length whole) kept
  pub before : IsBefore (length whole) kept marks reader

-- so it is for whatever the journal stood for at the start
abbrev pub ReadsOn : List PutBack → Marks → Reader → Option FileRecord → Type 0
ReadsOn whole marks reader file = IfSome file (λ f. (kept appended : List Kept) → Stands marks kept appended f → IsBehind whole marks reader kept)

-- what was found for the lines by then
pub record Asked : Type 0 where
  pub lines : List Line
  pub lasts : List (Option Signature)

abbrev pub asked : List Line → List (Option Signature) → Asked
asked lines lasts = record { lines = lines; lasts = lasts }

pub record RestoresSome (count : ℕ) (marks : Marks) (reader : Reader) (file : Option FileRecord) (for : Asked) (old new : PassView) : Type 0 where
  pub whole : List PutBack
  pub found : AreFound for.lines (products_of whole) for.lasts
  pub counts : count ≡ length whole
  pub calls : Calls old new (flat_map (put_entries old.actor) whole)
  pub reads : ReadsOn whole marks reader file

pub restores_none : (marks : Marks) (reader : Reader) (file : Option FileRecord) (for : Asked) (pass : PassView) → AreFound for.lines [] for.lasts → IfSome file IsConsistent
    → ((kept appended : List Kept) (f : FileRecord) → IsConsistent f → Stands marks kept appended f → IsBefore 0 kept marks reader)
    → RestoresSome 0 marks reader file for pass pass
restores_none marks reader file for pass found consistent first = record { whole = []; found = found; counts = refl; calls = calls_none pass; reads = at_first file consistent }
  where
    at_first : (f : Option FileRecord) → IfSome f IsConsistent → ReadsOn [] marks reader f
    at_first None consistent = tt
    at_first (Some f) consistent = λ kept appended stands. record { products = refl; before = first kept appended f consistent stands }

put_whole : (k : Kept) (old mid new : PassView) (whole : List PutBack) (put : PutBack) → Calls old mid (flat_map (put_entries old.actor) whole) → Calls mid new (put_entries mid.actor put)
    → Calls old new (flat_map (put_entries old.actor) (whole ++ put ∷ []))
put_whole k old mid new whole put calls more =
    let before = flat_map (put_entries old.actor) whole in
    let here : Calls mid new (put_entries old.actor put) = subst (λ (a : ℕ). Calls mid new (put_entries a put)) (same_actor old mid before calls) more in
    subst (λ (l : List Entry). Calls old new l)
    (ap (λ (l : List Entry). before ++ l) (sym (append-nil (put_entries old.actor put))) ∙ sym (flat_map-append (put_entries old.actor) whole (put ∷ [])))
    (calls_trans old mid new before (put_entries old.actor put) calls here)

-- what a reader gave of what the journal stood for at the start
module _ (entry : kept.Entry) (before after : Reader) (buffer : List ℕ) (marks : Marks) where
  abbrev k : Kept
  k = kept_of entry buffer

  behind_more : (whole : List PutBack) (put : PutBack) → put.product ≡ k → (all appended : List Kept) (old now : FileRecord) → KeepsFile old now
      → Reads (Ok (Some entry)) before after buffer now → (Stands marks all appended old → IsBehind whole marks before all) → Stands marks all appended old
      → IsBehind (whole ++ put ∷ []) marks after all
  behind_more whole put is all appended old now keeps reads so_far stands =
      let at = so_far stands in
      let i = length whole in
      let given = reads marks all appended i (stands_still marks all appended old now keeps stands) at.before in
      let long : length (whole ++ put ∷ []) ≡ i + 1 = length-append whole (put ∷ []) in
      let next : suc i ≡ length (whole ++ put ∷ []) = omega (arith, long) in
      record {
        products =
            map-append (λ (p : PutBack). p.product) whole (put ∷ []) ∙ ap (λ (l : List Kept). l ++ put.product ∷ []) at.products
            ∙ ap (λ (p : Kept). take i all ++ p ∷ []) is ∙ sym (take_more i all k given.0)
            ∙ ap (λ (n : ℕ). take n all) next;
        before = subst (λ (n : ℕ). IsBefore n all marks after) (sym long) given.1;
      }

  reads_more : (whole : List PutBack) (put : PutBack) → put.product ≡ k → (old now : Option FileRecord) → FileChanges KeepsFile old now
      → IfSome now (Reads (Ok (Some entry)) before after buffer) → ReadsOn whole marks before old → ReadsOn (whole ++ put ∷ []) marks after old
  reads_more whole put is None now keeps reads so_far = tt
  reads_more whole put is (Some old) None keeps reads so_far = absurd keeps
  reads_more whole put is (Some old) (Some now) keeps reads so_far = λ all appended stands.
      behind_more whole put is all appended old now keeps reads (so_far all appended) stands

  -- the product was looked at for the lines, too
  pub restores_more : (count : ℕ) (start now : Option FileRecord) (lines : List Line) (lasts next : List (Option Signature)) (old mid new : PassView)
      → RestoresSome count marks before start (asked lines lasts) old mid → FileChanges KeepsFile start now → IfSome now (Reads (Ok (Some entry)) before after buffer) → PutsOne k mid new
      → ((one : Kept) (all : List Kept) → one.number ≡ entry.number → one.info.signature ≡ entry.info.signature → AreFound lines all lasts → AreFound lines (all ++ one ∷ []) next)
      → RestoresSome (count + 1) marks after start (asked lines next) old new
  restores_more count start now lines lasts next old mid new some keeps reads puts finds = record {
    whole = some.whole ++ puts.put ∷ [];
    found =
        subst (λ (l : List Kept). AreFound lines l next) (sym (map-append (λ (p : PutBack). p.product) some.whole (puts.put ∷ [])))
        (finds puts.put.product (products_of some.whole) (ap (λ (p : Kept). p.number) puts.product) (ap (λ (p : Kept). p.info.signature) puts.product) some.found);
    counts = omega (arith, some.counts, length-append some.whole (puts.put ∷ []));
    calls = put_whole k old mid new some.whole puts.put some.calls puts.calls;
    reads = reads_more some.whole puts.put puts.product start now keeps reads some.reads;
  }

  -- the queue had had all its calls
  kept_front : (whole : List PutBack) (hand : InHand) → hand.product ≡ k → (all appended : List Kept) (old now : FileRecord) → KeepsFile old now
      → Reads (Ok (Some entry)) before after buffer now → (Stands marks all appended old → IsBehind whole marks before all) → Stands marks all appended old
      → (rest : List Kept) × ((products_of whole ++ hand.product ∷ []) ++ rest ≡ all)
  kept_front whole hand is all appended old now keeps reads so_far stands =
      let at = so_far stands in
      let i = length whole in
      let given = reads marks all appended i (stands_still marks all appended old now keeps stands) at.before in (
        drop (suc i) all,
        ap (λ (l : List Kept). (l ++ hand.product ∷ []) ++ drop (suc i) all) at.products
            ∙ ap (λ (p : Kept). (take i all ++ p ∷ []) ++ drop (suc i) all) is
            ∙ ap (λ (l : List Kept). l ++ drop (suc i) all) (sym (take_more i all k given.0))
            ∙ take-append-drop (suc i) all,
      )

  worn_products : (whole : List PutBack) (hand : InHand) → hand.product ≡ k → (old now : Option FileRecord) → FileChanges KeepsFile old now
      → IfSome now (Reads (Ok (Some entry)) before after buffer) → ReadsOn whole marks before old
      → IfSome old (λ f. (all appended : List Kept) → Stands marks all appended f → AreOfKept Worn (products_of whole ++ hand.product ∷ []) all)
  worn_products whole hand is None now keeps reads so_far = tt
  worn_products whole hand is (Some old) None keeps reads so_far = absurd keeps
  worn_products whole hand is (Some old) (Some now) keeps reads so_far = λ all appended stands.
      kept_front whole hand is all appended old now keeps reads (so_far all appended) stands

  pub restores_worn : (count : ℕ) (start now : Option FileRecord) (for : Asked) (old mid new : PassView) → RestoresSome count marks before start for old mid → FileChanges KeepsFile start now
      → IfSome now (Reads (Ok (Some entry)) before after buffer) → PutsPart k mid new → Restores Worn (source_of marks start for.lines) for.lasts old new
  restores_worn count start now for old mid new some keeps reads puts = record {
    whole = some.whole;
    found = some.found;
    in_hand = puts.hand ∷ [];
    is_in_hand = refl;
    calls =
        (let made = flat_map (put_entries old.actor) some.whole in
        let actor = same_actor old mid made some.calls in
        subst (λ (l : List Entry). Calls old new (made ++ l)) (sym (append-nil (hand_entries old.actor puts.hand)))
        (calls_trans old mid new made (hand_entries old.actor puts.hand) some.calls (subst (λ (a : ℕ). Calls mid new (hand_entries a puts.hand)) actor puts.calls)));
    counts = puts.worn;
    products = worn_products some.whole puts.hand puts.product start now keeps reads some.reads;
  }

-- all was put back, or the next could not be read
module _ (marks : Marks) (before after : Reader) (buffer : List ℕ) (start now : Option FileRecord) (keeps : FileChanges KeepsFile start now) where
  all_products : (whole : List PutBack) (old now : Option FileRecord) → FileChanges KeepsFile old now → IfSome now (Reads (Ok None) before after buffer) → ReadsOn whole marks before old
      → IfSome old (λ f. (all appended : List Kept) → Stands marks all appended f → AreOfKept (Restored (length whole)) (products_of whole ++ []) all)
  all_products whole None now keeps reads so_far = tt
  all_products whole (Some old) None keeps reads so_far = absurd keeps
  all_products whole (Some old) (Some now) keeps reads so_far = λ all appended stands.
      let at = so_far all appended stands in
      let is : length whole ≡ length all = reads marks all appended (length whole) (stands_still marks all appended old now keeps stands) at.before in
      (append-nil (products_of whole) ∙ at.products ∙ take_all (length whole) all (omega (arith, is)), sym is)

  pub restores_all : (count : ℕ) (for : Asked) (old new : PassView) → RestoresSome count marks before start for old new → IfSome now (Reads (Ok None) before after buffer)
      → Restores (Restored count) (source_of marks start for.lines) for.lasts old new
  restores_all count for old new some reads = record {
    whole = some.whole;
    found = some.found;
    in_hand = [];
    is_in_hand = refl;
    calls = subst (λ (l : List Entry). Calls old new l) (sym (append-nil (flat_map (put_entries old.actor) some.whole))) some.calls;
    counts = some.counts;
    products =
        subst
        (λ (n : ℕ). IfSome start (λ f. (all appended : List Kept) → Stands marks all appended f → AreOfKept (Restored n) (products_of some.whole ++ []) all))
        (sym some.counts) (all_products some.whole start now keeps reads some.reads);
  }

of_outside : (why : JournalFault) (i : ℕ) (all : List Kept) (marks : Marks) (reader : Reader) (buffer : List ℕ) → ReadsNext (Err why) i all marks reader buffer → IsOfOutside why
of_outside fault.DiskFault i all marks reader buffer reads = tt
of_outside fault.OutOfMemory i all marks reader buffer reads = tt
of_outside fault.NotAJournal i all marks reader buffer reads = reads
of_outside fault.OtherRing i all marks reader buffer reads = reads
of_outside fault.OtherLength i all marks reader buffer reads = reads
of_outside fault.BadHead i all marks reader buffer reads = reads
of_outside fault.BadRecord i all marks reader buffer reads = reads

front_products : (why : JournalFault) (whole : List PutBack) (marks : Marks) (before after : Reader) (buffer : List ℕ) (start now : Option FileRecord)
    → FileChanges KeepsFile start now → IfSome now (Reads (Err why) before after buffer) → ReadsOn whole marks before start
    → IfSome start (λ f. (all appended : List Kept) → Stands marks all appended f → AreOfKept (NotRead why) (products_of whole ++ []) all)
front_products why whole marks before after buffer None now keeps reads so_far = tt
front_products why whole marks before after buffer (Some start) None keeps reads so_far = absurd keeps
front_products why whole marks before after buffer (Some start) (Some now) keeps reads so_far = λ all appended stands.
    let at = so_far all appended stands in
    let i = length whole in (
      of_outside why i all marks after buffer (reads marks all appended i (stands_still marks all appended start now keeps stands) at.before),
      (
        drop i all,
        ap (λ (l : List Kept). l ++ drop i all) (append-nil (products_of whole) ∙ at.products) ∙ take-append-drop i all,
      ),
    )

pub restores_front : (why : JournalFault) (count : ℕ) (marks : Marks) (before after : Reader) (buffer : List ℕ) (start now : Option FileRecord) (for : Asked) (old new : PassView)
    → RestoresSome count marks before start for old new → FileChanges KeepsFile start now → IfSome now (Reads (Err why) before after buffer)
    → Restores (NotRead why) (source_of marks start for.lines) for.lasts old new
restores_front why count marks before after buffer start now for old new some keeps reads = record {
  whole = some.whole;
  found = some.found;
  in_hand = [];
  is_in_hand = refl;
  calls = subst (λ (l : List Entry). Calls old new l) (sym (append-nil (flat_map (put_entries old.actor) some.whole))) some.calls;
  counts = tt;
  products = front_products why some.whole marks before after buffer start now keeps reads some.reads;
}

-- ---- the pass

pub same_none : (pass : PassView) → IsSamePass pass pass
same_none pass = refl

pub same_then : (a b c : PassView) → IsSamePass a b → IsSamePass b c → IsSamePass a c
same_then a b c one two = two ∙ ap (λ (p : PassView). record p { seen = c.seen }) one

pub of_same : (shared : SharedView) (old new : PassView) → IsPassOf shared old → IsSamePass old new → IsPassOf shared new
of_same shared old new of same = record {
  queue = ap (λ (p : PassView). p.queue) same ∙ of.queue;
  arena = ap (λ (p : PassView). p.arena) same ∙ of.arena;
  slots = ap (λ (p : PassView). p.slots) same ∙ of.slots;
  passes = ap (λ (p : PassView). p.passes) same ∙ of.passes;
}

-- ---- the disk

pub keeps_disk : (old mid new : DiskRecord) → KeepsDisk old mid → KeepsDisk mid new → KeepsDisk old new
keeps_disk old mid new one two = record { faults = omega (arith, one.faults, two.faults); attached = two.attached ∙ one.attached }

pub no_call : (disk : DiskRecord) → KeepsDisk disk disk
no_call disk = record { faults = omega arith; attached = refl }

pub fault_later : (why : JournalFault) (old mid new : DiskRecord) → old.faults ≤ mid.faults → FaultRose why mid new → FaultRose why old new
fault_later fault.DiskFault old mid new le rose = Rose-later old.faults mid.faults new.faults le rose
fault_later fault.OutOfMemory old mid new le rose = tt
fault_later fault.NotAJournal old mid new le rose = tt
fault_later fault.OtherRing old mid new le rose = tt
fault_later fault.OtherLength old mid new le rose = tt
fault_later fault.BadHead old mid new le rose = tt
fault_later fault.BadRecord old mid new le rose = tt

-- a product whose body is that part of the buffer
pub puts_entry : (entry : kept.Entry) (buffer body : List ℕ) (old new : PassView) → body ≡ (kept_of entry buffer).body
    → PutsOne (record { number = entry.number; time = entry.time; info = entry.info; body = body }) old new → PutsOne (kept_of entry buffer) old new
puts_entry entry buffer body old new same puts =
    subst (λ (b : List ℕ). PutsOne (record { number = entry.number; time = entry.time; info = entry.info; body = b }) old new) same puts

pub parts_entry : (entry : kept.Entry) (buffer body : List ℕ) (old new : PassView) → body ≡ (kept_of entry buffer).body
    → PutsPart (record { number = entry.number; time = entry.time; info = entry.info; body = body }) old new → PutsPart (kept_of entry buffer) old new
parts_entry entry buffer body old new same puts =
    subst (λ (b : List ℕ). PutsPart (record { number = entry.number; time = entry.time; info = entry.info; body = b }) old new) same puts

pub slice_is : (at n m : ℕ) (xs ys : List ℕ) → n ≡ m → xs ≡ ys → take ((at + n) - at) (drop at xs) ≡ between at (at + m) ys
slice_is at n m xs ys long same =
    ap (λ (k : ℕ). take ((at + k) - at) (drop at xs)) long ∙ ap (λ (l : List ℕ). take ((at + m) - at) (drop at l)) same
