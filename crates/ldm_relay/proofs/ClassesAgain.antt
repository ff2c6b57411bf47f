-- Classes that were written are read again, whatever follows them, and so is what is said to one.
use Rattle.std.proofs.Common.{◌≡◌, ℕ, suc, ◌+◌, ◌*◌, ◌/◌, ◌%◌, ◌≤◌, List, [], ◌∷◌, ◌++◌, length, Ok, refl, ap, ◌∙◌, append_assoc, arith, lit<}
use Rattle.std.specs.List.{flat_map, AllByRecursion}
use Rattle.ldm_types.specs.declared.limits.TheConstants.{GREATEST_INSTANT, LONGEST_PATTERN, MOST_SPECS}
use Rattle.ldm_types.specs.declared.class.ClassSpec.{ClassSpec}
use Rattle.ldm_types.specs.declared.class.Spec.{Spec}
use Rattle.ldm_relay.specs.declared.message.ClassAnswer.{ClassAnswer}
use Rattle.ldm_relay.specs.declared.message.ClassAnswer.TheVariants as class_answer
use Rattle.ldm_relay.specs.Classes.{instant_in, spec_in, specs_in, class_in, reclass_in, class_answer_in}
use Rattle.ldm_relay.specs.Fits.{SpecFits, ClassFits, ClassAnswerFits}
use Rattle.ldm_xdr.specs.Spelling.{unsigned, opaque}
use Rattle.ldm_relay.specs.Spelling.{instant_bytes, spec_bytes, class_bytes, class_answer_bytes}
use Rattle.ldm_xdr.proofs.FieldsAgain.{unsigned_again, up_to_again, opaque_again}

pub instant_again : (micros : ℕ) (rest : List ℕ) → micros ≤ GREATEST_INSTANT → instant_in (instant_bytes micros ++ rest) ≡ Ok (micros, rest)
unfolding instant_in instant_bytes
instant_again micros rest le =
    let back : micros / 1000000 * 1000000 + micros % 1000000 ≡ micros = omega arith in
    ap instant_in (append_assoc (unsigned (micros / 1000000)) (unsigned (micros % 1000000)) rest)
    ∙ rw (
      unsigned_again (micros / 1000000) (unsigned (micros % 1000000) ++ rest) (omega arith),
      up_to_again 999999 (micros % 1000000) rest (omega arith) (omega arith),
      back,
    ) refl

pub spec_again : (spec : Spec) (rest : List ℕ) → SpecFits spec → spec_in (spec_bytes spec ++ rest) ≡ Ok (spec, rest)
unfolding spec_in spec_bytes
spec_again spec rest fits =
    ap spec_in (append_assoc (unsigned spec.feed.0) (opaque spec.pattern.items) rest)
    ∙ rw (unsigned_again spec.feed.0 (opaque spec.pattern.items ++ rest) fits.0, opaque_again LONGEST_PATTERN spec.pattern.items rest fits.1 (lit< tt)) refl

pub specs_again : (specs : List Spec) (rest : List ℕ) → AllByRecursion SpecFits specs → specs_in (length specs) (flat_map spec_bytes specs ++ rest) ≡ Ok (specs, rest)
unfolding specs_in
specs_again [] rest fits = refl
specs_again (spec ∷ specs) rest fits =
    ap (specs_in (suc (length specs))) (append_assoc (spec_bytes spec) (flat_map spec_bytes specs) rest)
    ∙ rw (spec_again spec (flat_map spec_bytes specs ++ rest) fits.0, specs_again specs rest fits.1) refl

pub class_again : (class : ClassSpec) (rest : List ℕ) → ClassFits class → class_in (class_bytes class ++ rest) ≡ Ok (class, rest)
unfolding class_in class_bytes
class_again class rest fits =
    let specs = class.specs.items in
    let behind = flat_map spec_bytes specs ++ rest in
    let regrouped : class_bytes class ++ rest ≡ instant_bytes class.from ++ (instant_bytes class.to ++ (unsigned (length specs) ++ (flat_map spec_bytes specs ++ rest))) = simp append_assoc in
    ap class_in regrouped
    ∙ rw (
      instant_again class.from (instant_bytes class.to ++ (unsigned (length specs) ++ (flat_map spec_bytes specs ++ rest))) fits.from,
      instant_again class.to (unsigned (length specs) ++ (flat_map spec_bytes specs ++ rest)) fits.to,
      up_to_again MOST_SPECS (length specs) (flat_map spec_bytes specs ++ rest) (omega (arith, fits.few)) fits.few,
      specs_again specs rest fits.each,
    ) refl

pub class_answer_again : (answer : ClassAnswer) (rest : List ℕ) → ClassAnswerFits answer → class_answer_in (class_answer_bytes answer ++ rest) ≡ Ok (answer, rest)
unfolding class_answer_in reclass_in
class_answer_again class_answer.Ok rest fits = rw (unsigned_again 0 rest (lit< tt)) refl
class_answer_again (class_answer.Reclass class) rest fits =
    ap class_answer_in (append_assoc (unsigned 1) (class_bytes class) rest)
    ∙ rw (unsigned_again 1 (class_bytes class ++ rest) (lit< tt), class_again class rest fits) refl
class_answer_again class_answer.Denied rest fits = rw (unsigned_again 2 rest (lit< tt)) refl
class_answer_again class_answer.BadPattern rest fits = rw (unsigned_again 3 rest (lit< tt)) refl
class_answer_again class_answer.Busy rest fits = rw (unsigned_again 4 rest (lit< tt)) refl
