-- The cursor of a class is opened.
use Rattle.std.proofs.Common.{◌≡◌, ◌∙◌, ℕ, true, false, List, [], ◌∷◌, Option, Some, refl, sym, ap, subst}
use Rattle.std.specs.Prelude.{IsSome}
use Rattle.ldm_types.specs.declared.class.ClassSpec.{ClassSpec}
use Rattle.ldm_class.specs.Classes.{resumed}
use Rattle.ldm_model.specs.declared.event.Event.TheVariants.{OpenCursor}
use Rattle.ldm_model.specs.declared.event.Reply.TheVariants as reply
use Rattle.ldm_model.specs.declared.event.Start.TheVariants as start
use Rattle.ldm_shared.specs.Passes.{PassView, Makes, Grows, FindsWorn}
use Rattle.ldm_shared.proofs.Made.{makes_trans}
use Rattle.ldm_sender.specs.Asked.{Asked}
use Rattle.ldm_sender.specs.Opening.{Busy, feeds_of, opening_calls, opening_entries, opens}
use Rattle.ldm_sender.specs.Answering.{FindsWornFirst}

-- no call could be made
pub worn_at_once : (asked : Asked) (old new : PassView) (turns : ℕ) → FindsWorn old new turns
    → FindsWornFirst asked old new
worn_at_once asked old new turns worn = record {
  missed = false;
  may_miss = tt;
  called = [];
  makes = worn.makes;
  part = (opening_entries old.actor asked (Busy false), refl);
  long = worn.long ∙ worn.turns_are;
}

-- the product that the class names was not queued, and then no call could be made
pub worn_behind : (asked : Asked) (class : ClassSpec) (signature : List ℕ) (feeds : ℕ) (old mid new : PassView)
    (turns : ℕ) → asked.class ≡ class → resumed class.specs.items ≡ Some signature
    → feeds ≡ feeds_of class
    → Grows old mid (OpenCursor (record { 0 = feeds })
    (start.AfterSignature (record { 0 = signature }))) reply.NotQueued → FindsWorn mid new turns
    → FindsWornFirst asked old new
worn_behind asked class signature feeds old mid new turns class_is named feeds_are grows worn =
    let named_there : resumed asked.class.specs.items ≡ Some signature =
    ap (λ (spec : ClassSpec). resumed spec.specs.items) class_is ∙ named in
    let feeds_there : feeds ≡ feeds_of asked.class = feeds_are ∙ ap feeds_of (sym class_is) in
    let first = opens old.actor asked (start.AfterSignature (record { 0 = signature })) reply.NotQueued in
    let P : ℕ → Type 0 =
    λ n. Makes old mid (record {
      actor = old.actor;
      event = OpenCursor (record { 0 = n })
          (start.AfterSignature (record { 0 = signature }));
      reply = reply.NotQueued;
    } ∷ []) in
    let made : Makes old mid (first ∷ []) = subst P feeds_there grows.makes in
    let Q : Option (List ℕ) → Type 0 = λ o. IsSome o in
    let entries : opening_entries old.actor asked (Busy true) ≡ opening_calls old.actor asked (Some signature) true
    reply.AllBusy =
    ap (λ (o : Option (List ℕ)). opening_calls old.actor asked o true reply.AllBusy) named_there in
    let some : IsSome (Some signature) = refl in
    record {
      missed = true;
      may_miss = subst Q (sym named_there) some;
      called = first ∷ [];
      makes = makes_trans old mid new (first ∷ []) [] made worn.makes;
      part = (_, sym entries);
      long = worn.long ∙ worn.turns_are;
    }
