-- The first bytes of several spellings: whole ones, and then a part of the next one.
use Rattle.std.proofs.Common.{◌≡◌, ℕ, ◌+◌, ◌<◌, ◌≤◌, List, [], ◌∷◌, ◌++◌, length, take, drop, inl, inr, refl, ap, sym, ◌∙◌, append_assoc, arith, length-drop}
use Rattle.std.specs.List.{flat_map}
use Rattle.std.proofs.lemmas.Bool.{cases_lt}
use Rattle.std.proofs.lemmas.List.{append_cancel_left, length-append, take-append-drop, take-append-le, take_at}
use Rattle.std.proofs.lemmas.List.Concat.{flat_map-append}

-- A proper part of the first of these spellings, or nothing where there is none.
pub record IsPartOf (spelling part : List ℕ) : Type 0 where
  pub more : List ℕ
  pub all : part ++ more ≡ spelling
  pub some : 0 < length more

abbrev pub IsPart : {X : Type 0} → (X → List ℕ) → List X → List ℕ → Type 0
IsPart f [] part = part ≡ []
IsPart f (x ∷ behind) part = IsPartOf (f x) part

pub record Splits {X : Type 0} (f : X → List ℕ) (xs : List X) (got : List ℕ) : Type 0 where
  pub front : List X
  pub behind : List X
  pub part : List ℕ
  pub all : front ++ behind ≡ xs
  pub got_is : got ≡ flat_map f front ++ part
  pub part_is : IsPart f behind part

no_bytes : (got rest : List ℕ) → got ++ rest ≡ [] → got ≡ []
no_bytes [] rest none = refl
no_bytes (byte ∷ got) rest none = cc none

-- fewer bytes than there are in front are a part of these
part_of_front : (got rest front others : List ℕ) → got ++ rest ≡ front ++ others → length got < length front → IsPartOf front got
part_of_front got rest front others same less =
    let n = length got in
    let taken : take n front ≡ got = sym (take-append-le n front others (omega arith)) ∙ ap (take n) (sym same) ∙ take_at got rest n refl in
    record {
      more = drop n front;
      all = ap (λ (x : List ℕ). x ++ drop n front) (sym taken) ∙ take-append-drop n front;
      some = omega (arith, length-drop n front);
    }

-- Those that are in front come first, and then others.
record HasFront (got rest front others : List ℕ) : Type 0 where
  left : List ℕ
  got_is : got ≡ front ++ left
  others_are : left ++ rest ≡ others

front_of : (got rest front others : List ℕ) → got ++ rest ≡ front ++ others → length front ≤ length got → HasFront got rest front others
front_of got rest front others same most =
    let n = length front in
    let taken : take n got ≡ front = sym (take-append-le n got rest most) ∙ ap (take n) same ∙ take_at front others n refl in
    let got_is : got ≡ front ++ drop n got = sym (take-append-drop n got) ∙ ap (λ (x : List ℕ). x ++ drop n got) taken in
    record {
      left = drop n got;
      got_is = got_is;
      others_are = append_cancel_left front (drop n got ++ rest) others
          (sym (append_assoc front (drop n got) rest) ∙ ap (λ (x : List ℕ). x ++ rest) (sym got_is) ∙ same);
    }

pub splits : {X : Type 0} (f : X → List ℕ) (xs : List X) (got rest : List ℕ) → got ++ rest ≡ flat_map f xs → Splits f xs got
splits f [] got rest same =
    let none = no_bytes got rest same in
    record { front = []; behind = []; part = []; all = refl; got_is = none; part_is = refl }
splits {X} f (x ∷ xs) got rest same =
    elim (cases_lt (length got) (length (f x))) [
      | inl less ↦ record { front = []; behind = x ∷ xs; part = got; all = refl; got_is = refl; part_is = part_of_front got rest (f x) (flat_map f xs) same less }
      | inr most ↦
          let has = front_of got rest (f x) (flat_map f xs) same most in
          let later = splits f xs has.left rest has.others_are in
          record {
            front = x ∷ later.front;
            behind = later.behind;
            part = later.part;
            all = ap (λ (ys : List X). x ∷ ys) later.all;
            got_is = has.got_is ∙ ap (λ (y : List ℕ). f x ++ y) later.got_is ∙ sym (append_assoc (f x) (flat_map f later.front) later.part);
            part_is = later.part_is;
          }
    ]

-- where all bytes came, nothing is behind
no_part : {X : Type 0} (f : X → List ℕ) (behind : List X) (part : List ℕ) → IsPart f behind part → part ≡ flat_map f behind → behind ≡ []
no_part f [] part is all = refl
no_part f (x ∷ behind) part is all =
    let long : length part ≡ length (f x) + length (flat_map f behind) = ap length all ∙ length-append (f x) (flat_map f behind) in
    let short : length part + length is.more ≡ length (f x) = sym (length-append part is.more) ∙ ap length is.all in
    absurd (omega (arith, long, short, is.some))

pub splits-all : {X : Type 0} (f : X → List ℕ) (xs : List X) (got : List ℕ) (s : Splits f xs got) → got ≡ flat_map f xs → s.behind ≡ []
splits-all {X} f xs got s all =
    let same : flat_map f s.front ++ s.part ≡ flat_map f s.front ++ flat_map f s.behind =
    sym s.got_is ∙ all ∙ ap (flat_map f) (sym s.all) ∙ flat_map-append f s.front s.behind in
    no_part f s.behind s.part s.part_is (append_cancel_left (flat_map f s.front) s.part (flat_map f s.behind) same)
