-- Lists of which all is there, or all but such.
use Rattle.std.proofs.Common.{◌∙◌, List, [], ◌∷◌, ◌++◌, Bool, true, false, refl, sym, ap, subst, append_assoc}
use Rattle.std.proofs.Common.{append-nil}
use Rattle.ldm_sender.specs.Does.{Each, IsAllBut}
use Rattle.ldm_session.specs.Part.{IsPart}

pub each_then : {A : Type 0} → (Only : A → Type 0) → (xs ys : List A) → Each Only xs → Each Only ys
    → Each Only (xs ++ ys)
each_then Only [] ys one two = two
each_then Only (x ∷ xs) ys one two = (one.0, each_then Only xs ys one.1 two)

pub each_last : {A : Type 0} → (Only : A → Type 0) → (xs ys : List A) → Each Only (xs ++ ys) → Each Only ys
each_last Only [] ys each = each
each_last Only (x ∷ xs) ys each = each_last Only xs ys each.1

pub front_of : {A : Type 0} → (Only : A → Type 0) → (whole : Bool) → (part all : List A) → IsAllBut whole Only part all
    → IsPart whole part all
front_of Only true part all is = is
front_of Only false part all is = (is.0, is.1)

-- all is there
pub all_there : {A : Type 0} → (Only : A → Type 0) → (whole : Bool) → (xs : List A) → IsAllBut whole Only xs xs
all_there Only true xs = refl
all_there Only false xs = ([], append-nil xs, tt)

pub all_but_at_most : {A : Type 0} → (Only : A → Type 0) → (whole : Bool) → (part all : List A)
    → IsAllBut whole Only part all → IsAllBut false Only part all
all_but_at_most Only true part all is = ([], append-nil part ∙ is, tt)
all_but_at_most Only false part all is = is

-- any front of a list of such is all but such
pub all_such : {A : Type 0} → (Only : A → Type 0) → (part all : List A) → IsPart false part all → Each Only all
    → IsAllBut false Only part all
all_such {A} Only part all is each =
    let P : List A → Type 0 = λ xs. Each Only xs in (is.0, is.1, each_last Only part is.0 (subst P (sym is.1) each))

pub all_but_behind : {A : Type 0} → (Only : A → Type 0) → (whole : Bool) → (before part all : List A)
    → IsAllBut whole Only part all
    → IsAllBut whole Only (before ++ part) (before ++ all)
all_but_behind Only true before part all is = ap (λ xs. before ++ xs) is
all_but_behind Only false before part all is =
    (is.0, append_assoc before part is.0 ∙ ap (λ xs. before ++ xs) is.1, is.2)

-- such were to come behind it
pub all_but_more : {A : Type 0} → (Only : A → Type 0) → (part all behind : List A) → IsAllBut false Only part all
    → Each Only behind → IsAllBut false Only part (all ++ behind)
all_but_more Only part all behind is each = (
  is.0 ++ behind,
  sym (append_assoc part is.0 behind)
      ∙ ap (λ xs. xs ++ behind) is.1,
  each_then Only is.0 behind is.2 each,
)
