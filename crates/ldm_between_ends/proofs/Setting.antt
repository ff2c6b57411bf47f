-- How the setting comes to be.
use Rattle.std.proofs.Common.{◌≡◌, ℕ, ◌≤◌, Bool, true, false, cond, List, [], ◌∷◌, ◌++◌, length, Option, Some, None, refl, ap, sym, subst, ◌∙◌, arith}
use Rattle.std.specs.Prelude.{◌||◌, nat_lt}
use Rattle.std.specs.List.{list_any}
use Rattle.std.proofs.lemmas.List.Folds.{list_any-append}
use Rattle.ldm_types.specs.declared.class.ClassSpec.{ClassSpec}
use Rattle.ldm_types.specs.declared.limits.TheConstants.{LARGEST_ARENA, MOST_SPECS}
use Rattle.ldm_types.specs.Info.{Metadata}
use Rattle.ldm_model.specs.Product.{extent_of}
use Rattle.ldm_class.specs.Classes.{wants, spec_wants}
use Rattle.ldm_relay.specs.Writable.{IsShortProduct}
use Rattle.ldm_session.specs.Owed.{Code}
use Rattle.ldm_intake.specs.declared.phase.Phase.TheVariants as phase
use Rattle.ldm_intake.specs.Answered.{number_of_request}
use Rattle.ldm_class.specs.Asking.{asked_class, resuming}
use Rattle.ldm_intake.specs.Opening.{requesting}
use Rattle.ldm_sender.specs.Asked.{Asked}
use Rattle.ldm_between_ends.specs.Codes.{Agree}
use Rattle.ldm_between_ends.specs.Passing.{HasAsked}

-- the specification of the last product wants none
resuming-wants : (info : Metadata) (signature : List ℕ) → spec_wants info (resuming signature) ≡ false
resuming-wants info signature = refl

or-false : (b c : Bool) → c ≡ false → (b || (c || false)) ≡ true → b ≡ true
or-false true c not is = refl
or-false false c not is = absurd (let same : c ≡ true = last c is in cc (not, same)) where
  last : (c : Bool) → (c || false) ≡ true → c ≡ true
  last true is = refl
  last false is = absurd (cc is)

module _ (class : ClassSpec) (info : Metadata) where
  longer : List ℕ → ClassSpec
  longer signature = record class { specs = record { items = class.specs.items ++ resuming signature ∷ [] } }

  longer-wants : (signature : List ℕ) → wants (longer signature) info ≡ true → wants class info ≡ true
  unfolding longer
  longer-wants signature is =
      or-false (list_any (spec_wants info) class.specs.items) (spec_wants info (resuming signature)) (resuming-wants info signature)
      (sym (list_any-append (spec_wants info) class.specs.items (resuming signature ∷ [])) ∙ is)

  by-room : (room : Bool) (signature : List ℕ) → wants (cond room (longer signature) class) info ≡ true → wants class info ≡ true
  by-room true signature is = longer-wants signature is
  by-room false signature is = is

  asked-wants : (last : Option (List ℕ)) → wants (asked_class class last) info ≡ true → wants class info ≡ true
  unfolding longer
  asked-wants None is = is
  asked-wants (Some signature) is = by-room (nat_lt (length class.specs.items) MOST_SPECS) signature is

pub has-requested : (asked : Asked) (class : ClassSpec) (last : Option (List ℕ)) (max : ℕ) → asked.class ≡ asked_class class last → asked.xid ≡ number_of_request false
    → HasAsked asked (requesting class last max)
has-requested asked class last max class_is xid_is = record {
  again = false;
  phase_is = ap (λ (c : ClassSpec). phase.Asked c false) (sym class_is);
  xid_is = xid_is;
  none_pending = refl;
  no_policy = refl;
  wanted = λ info is. asked-wants class info last (subst (λ (c : ClassSpec). wants c info ≡ true) class_is is);
}

pub short-of_extent : (info : Metadata) → extent_of info ≤ LARGEST_ARENA → IsShortProduct info info.size
short-of_extent info within = omega (arith, within)

pub agrees-front : (codes behind : List Code) → Agree codes (codes ++ behind)
agrees-front [] behind = tt
agrees-front (code ∷ codes) behind = (refl, agrees-front codes behind)
