-- A field at which a line stops being read is the first at which no line goes on.
use Rattle.std.proofs.Common.{◌≡◌, ℕ, ◌⊎◌, inl, inr, ◌+◌, Bool, true, false, cond, eqb, List, [], ◌∷◌, ◌++◌, length, Option, Some, None, Result, Ok, Err, refl, sym, ap, subst, ◌∙◌, append_assoc}
use Rattle.std.proofs.lemmas.Bool.{eqb-true}
use Rattle.std.proofs.lemmas.List.{append-nil}
use Rattle.std.proofs.lemmas.List.Elements.{All-nil, All-cons}
use Rattle.ldm_script.specs.Split.{Lacks}
use Rattle.ldm_script.specs.Fields.{◌>>=◌, Left, first_field, behind_field, or_bad, field, no_more}
use Rattle.ldm_script.specs.Faults.{EndsField}
use Rattle.ldm_script.proofs.Taking.{field_then, field_last}
use Rattle.ldm_script.proofs.Splitting.{first_field-front}

-- ---- what is left of a line, and the bytes from the blank in front of it on

abbrev pub left_of : List ℕ → Left
left_of [] = None
left_of (byte ∷ bytes) = Some bytes

abbrev pub tail_of : Left → List ℕ
tail_of None = []
tail_of (Some bytes) = 32 ∷ bytes

left_of_tail : (left : Left) → left_of (tail_of left) ≡ left
left_of_tail None = refl
left_of_tail (Some bytes) = refl

tail_ends : (left : Left) → EndsField (tail_of left)
tail_ends None = tt
tail_ends (Some bytes) = refl

-- a line is its first field and what is behind it
pub field_and_tail : (bytes : List ℕ) → bytes ≡ first_field bytes ++ tail_of (behind_field bytes)
field_and_tail [] = refl
field_and_tail (byte ∷ bytes) = by_test (eqb byte 32) refl (field_and_tail bytes) where
  by_test : (b : Bool) → eqb byte 32 ≡ b → bytes ≡ first_field bytes ++ tail_of (behind_field bytes)
      → byte ∷ bytes ≡ cond b [] (byte ∷ first_field bytes) ++ tail_of (cond b (Some bytes) (behind_field bytes))
  by_test true is behind = ap (λ (c : ℕ). c ∷ bytes) (eqb-true byte 32 is)
  by_test false is behind = ap (λ (xs : List ℕ). byte ∷ xs) behind

pub lacks-first_field : (bytes : List ℕ) → Lacks 32 (first_field bytes)
lacks-first_field [] = All-nil (λ x. eqb x 32 ≡ false)
lacks-first_field (byte ∷ bytes) = by_test (eqb byte 32) refl (lacks-first_field bytes) where
  by_test : (b : Bool) → eqb byte 32 ≡ b → Lacks 32 (first_field bytes) → Lacks 32 (cond b [] (byte ∷ first_field bytes))
  by_test true is behind = All-nil (λ x. eqb x 32 ≡ false)
  by_test false is behind = All-cons (λ x. eqb x 32 ≡ false) byte (first_field bytes) is behind

-- ---- where a reader stops

-- these bytes are read
abbrev pub Reads : {B : Type 0} → (Left → Result B ℕ) → List ℕ → Type 0
Reads {B} r tail = (y : B) × (r (left_of tail) ≡ Ok y)

pub record Wrong {B : Type 0} (r : Left → Result B ℕ) (tail : List ℕ) (n : ℕ) : Type 0 where
  pub front : List ℕ
  pub wrong : List ℕ
  pub behind : List ℕ
  pub split : tail ≡ front ++ 32 ∷ (wrong ++ behind)
  pub before : EndsField front
  pub solid : Lacks 32 wrong
  pub ends : EndsField behind
  pub left : n ≡ length (wrong ++ behind)
  pub goes_on : (more : List ℕ) × Reads r (front ++ 32 ∷ more)
  pub stops : (more : List ℕ) → EndsField more → Reads r (front ++ 32 ∷ (wrong ++ more)) → ⊥

pub record Lacking {B : Type 0} (r : Left → Result B ℕ) (tail : List ℕ) (n : ℕ) : Type 0 where
  pub left : n ≡ 0
  pub goes_on : (more : List ℕ) × Reads r (tail ++ 32 ∷ more)

pub record TooMany {B : Type 0} (r : Left → Result B ℕ) (tail : List ℕ) (n : ℕ) : Type 0 where
  pub front : List ℕ
  pub surplus : List ℕ
  pub split : tail ≡ front ++ 32 ∷ surplus
  pub before : EndsField front
  pub left : n ≡ length surplus + 1
  pub whole : Reads r front
  pub stops : (more : List ℕ) → Reads r (front ++ 32 ∷ more) → ⊥

abbrev pub Stops : {B : Type 0} → (Left → Result B ℕ) → List ℕ → ℕ → Type 0
Stops r tail n = Wrong r tail n ⊎ (Lacking r tail n ⊎ TooMany r tail n)

-- each fault of a reader is explained so
abbrev pub Explains : {B : Type 0} → (Left → Result B ℕ) → Type 0
Explains r = (left : Left) (n : ℕ) → r left ≡ Err n → Stops r (tail_of left) n

-- a reader reads something
abbrev pub Completes : {B : Type 0} → (Left → Result B ℕ) → Type 0
Completes r = (tail : List ℕ) × EndsField tail × Reads r tail

abbrev pub Sound : {B : Type 0} → (Left → Result B ℕ) → Type 0
Sound r = Explains r × Completes r

-- ---- two readers that read the same tails stop alike

module _ {A B : Type 0} (r : Left → Result A ℕ) (s : Left → Result B ℕ) (on : (tail : List ℕ) → Reads r tail → Reads s tail) (back : (tail : List ℕ) → Reads s tail → Reads r tail) where
  stops_alike : (tail : List ℕ) (n : ℕ) → Stops r tail n → Stops s tail n
  stops_alike tail n (inl w) = inl (record {
    front = w.front;
    wrong = w.wrong;
    behind = w.behind;
    split = w.split;
    before = w.before;
    solid = w.solid;
    ends = w.ends;
    left = w.left;
    goes_on = (w.goes_on.0, on (w.front ++ 32 ∷ w.goes_on.0) w.goes_on.1);
    stops = λ more ends h. w.stops more ends (back (w.front ++ 32 ∷ (w.wrong ++ more)) h);
  })
  stops_alike tail n (inr (inl l)) = inr (inl (record { left = l.left; goes_on = (l.goes_on.0, on (tail ++ 32 ∷ l.goes_on.0) l.goes_on.1) }))
  stops_alike tail n (inr (inr m)) = inr (inr (record {
    front = m.front;
    surplus = m.surplus;
    split = m.split;
    before = m.before;
    left = m.left;
    whole = on m.front m.whole;
    stops = λ more h. m.stops more (back (m.front ++ 32 ∷ more) h);
  }))

-- ---- readers that answer the same

module _ {B : Type 0} (r s : Left → Result B ℕ) (same : (left : Left) → r left ≡ s left) where
  reads_same : (tail : List ℕ) → Reads s tail → Reads r tail
  reads_same tail h = (h.0, same (left_of tail) ∙ h.1)

  reads_other : (tail : List ℕ) → Reads r tail → Reads s tail
  reads_other tail h = (h.0, sym (same (left_of tail)) ∙ h.1)

  stops_same : (tail : List ℕ) (n : ℕ) → Stops s tail n → Stops r tail n
  stops_same = stops_alike s r reads_same reads_other

  pub sound_same : Sound s → Sound r
  sound_same sound = (
    λ left n e. stops_same (tail_of left) n (sound.0 left n (sym (same left) ∙ e)),
    (sound.1.0, sound.1.1, reads_same sound.1.0 sound.1.2),
  )

-- ---- what is made of what was read

abbrev pub told : {B : Type 0} → B → Result B ℕ
told y = Ok y

abbrev pub refused : {B : Type 0} → ℕ → Result B ℕ
refused n = Err n

pub refused_is : {B : Type 0} (x y : ℕ) → refused {B = B} x ≡ refused {B = B} y → x ≡ y
refused_is x y e = cc

pub not_both : {B : Type 0} (r : Result B ℕ) (y : B) (n : ℕ) → r ≡ Ok y → r ≡ Err n → ⊥
not_both r y n ok bad = cc

abbrev pub made : {A B : Type 0} → (A → B) → Result A ℕ → Result B ℕ
made g r = r >>= λ x. Ok (g x)

made_err : {A B : Type 0} (g : A → B) (r : Result A ℕ) (n : ℕ) → made g r ≡ Err n → r ≡ Err n
made_err g (Ok x) n e = absurd cc
made_err {A} {B} g (Err m) n e = ap (λ k. refused {B = A} k) (refused_is {B = B} m n e)

made_ok : {A B : Type 0} (g : A → B) (r : Result A ℕ) (y : B) → made g r ≡ Ok y → (x : A) × (r ≡ Ok x)
made_ok g (Ok x) y e = (x, refl)
made_ok g (Err m) y e = absurd cc

module _ {A B : Type 0} (g : A → B) (r : Left → Result A ℕ) where
  reads_made : (tail : List ℕ) → Reads r tail → Reads (λ left. made g (r left)) tail
  reads_made tail h = (g h.0, ap (made g) h.1)

  reads_unmade : (tail : List ℕ) → Reads (λ left. made g (r left)) tail → Reads r tail
  reads_unmade tail h = made_ok g (r (left_of tail)) h.0 h.1

  stops_made : (tail : List ℕ) (n : ℕ) → Stops r tail n → Stops (λ left. made g (r left)) tail n
  stops_made = stops_alike r (λ left. made g (r left)) reads_made reads_unmade

  pub sound_made : Sound r → Sound (λ left. made g (r left))
  sound_made sound = (
    λ left n e. stops_made (tail_of left) n (sound.0 left n (made_err g (r left) n e)),
    (sound.1.0, sound.1.1, reads_made sound.1.0 sound.1.2),
  )

-- ---- one field, and what is behind it

abbrev pub then : {A B : Type 0} → (List ℕ → Option A) → (A → Left → Result B ℕ) → Left → Result B ℕ
then read rest left = field read left >>= λ x. rest x.0 x.1

-- a field that is read, whatever ends it
field_ends : {A : Type 0} (read : List ℕ → Option A) (text : List ℕ) (x : A) (tail : List ℕ) → Lacks 32 text → read text ≡ Some x → EndsField tail → field read (Some (text ++ tail)) ≡ Ok (x, left_of tail)
field_ends read text x [] solid is ends = ap (λ (xs : List ℕ). field read (Some xs)) (append-nil text) ∙ field_last read text x solid is
field_ends read text x (byte ∷ bytes) solid is ends = ap (λ (c : ℕ). field read (Some (text ++ c ∷ bytes))) ends ∙ field_then read text bytes x solid is

-- a field that is not read, whatever ends it
field_stops : {A : Type 0} (read : List ℕ → Option A) (text : List ℕ) (tail : List ℕ) → Lacks 32 text → read text ≡ None → EndsField tail → field read (Some (text ++ tail)) ≡ Err (length (text ++ tail))
field_stops {A} read text tail solid is ends =
    ap (λ (o : Option A). or_bad (text ++ tail) o) (ap read (first text tail solid ends) ∙ is) where
      first : (text tail : List ℕ) → Lacks 32 text → EndsField tail → first_field (text ++ tail) ≡ text
      first text [] solid ends = first_field-front text [] solid ∙ append-nil text
      first text (byte ∷ bytes) solid ends =
          ap (λ (c : ℕ). first_field (text ++ c ∷ bytes)) ends ∙ first_field-front text (32 ∷ bytes) solid ∙ append-nil text

ends_before : (front more : List ℕ) → EndsField front → EndsField (front ++ 32 ∷ more)
ends_before [] more h = refl
ends_before (byte ∷ bytes) more h = h

module _ {A B : Type 0} (read : List ℕ → Option A) (rest : A → Left → Result B ℕ) (text : List ℕ) (x : A) (solid : Lacks 32 text) (is : read text ≡ Some x) where
  -- what is behind a field is read as that what stands there
  behind_is : (tail : List ℕ) → EndsField tail → then read rest (left_of (32 ∷ (text ++ tail))) ≡ rest x (left_of tail)
  behind_is tail ends = ap (λ (r : Result (A × Left) ℕ). r >>= λ (y : A × Left). rest y.0 y.1) (field_ends read text x tail solid is ends)

  reads_behind : (tail : List ℕ) → EndsField tail → Reads (rest x) tail → Reads (then read rest) (32 ∷ (text ++ tail))
  reads_behind tail ends h = (h.0, behind_is tail ends ∙ h.1)

  reads_only : (tail : List ℕ) → EndsField tail → Reads (then read rest) (32 ∷ (text ++ tail)) → Reads (rest x) tail
  reads_only tail ends h = (h.0, sym (behind_is tail ends) ∙ h.1)

  regroup : (front more : List ℕ) → 32 ∷ (text ++ (front ++ more)) ≡ (32 ∷ (text ++ front)) ++ more
  regroup front more = ap (λ (xs : List ℕ). 32 ∷ xs) (sym (append_assoc text front more))

  stops_behind : (tail : List ℕ) (n : ℕ) → EndsField tail → Stops (rest x) tail n → Stops (then read rest) (32 ∷ (text ++ tail)) n
  stops_behind tail n ends (inl w) = inl (record {
    front = 32 ∷ (text ++ w.front);
    wrong = w.wrong;
    behind = w.behind;
    split = ap (λ (xs : List ℕ). 32 ∷ (text ++ xs)) w.split ∙ regroup w.front (32 ∷ (w.wrong ++ w.behind));
    before = refl;
    solid = w.solid;
    ends = w.ends;
    left = w.left;
    goes_on = (
      w.goes_on.0,
      subst (Reads (then read rest)) (regroup w.front (32 ∷ w.goes_on.0))
          (reads_behind (w.front ++ 32 ∷ w.goes_on.0) (ends_before w.front w.goes_on.0 w.before) w.goes_on.1),
    );
    stops = λ more at h. w.stops more at (reads_only (w.front ++ 32 ∷ (w.wrong ++ more)) (ends_before w.front (w.wrong ++ more) w.before)
        (subst (Reads (then read rest)) (sym (regroup w.front (32 ∷ (w.wrong ++ more)))) h));
  })
  stops_behind tail n ends (inr (inl l)) = inr (inl (record {
    left = l.left;
    goes_on = (
      l.goes_on.0,
      subst (Reads (then read rest)) (regroup tail (32 ∷ l.goes_on.0)) (reads_behind (tail ++ 32 ∷ l.goes_on.0) (ends_before tail l.goes_on.0 ends) l.goes_on.1),
    );
  }))
  stops_behind tail n ends (inr (inr m)) = inr (inr (record {
    front = 32 ∷ (text ++ m.front);
    surplus = m.surplus;
    split = ap (λ (xs : List ℕ). 32 ∷ (text ++ xs)) m.split ∙ regroup m.front (32 ∷ m.surplus);
    before = refl;
    left = m.left;
    whole = reads_behind m.front m.before m.whole;
    stops = λ more h. m.stops more (reads_only (m.front ++ 32 ∷ more) (ends_before m.front more m.before) (subst (Reads (then read rest)) (sym (regroup m.front (32 ∷ more))) h));
  }))

-- a field, of which one is known that is read so and behind which something is read
module _ {A B : Type 0} (read : List ℕ → Option A) (rest : A → Left → Result B ℕ) (text : List ℕ) (x : A) (solid : Lacks 32 text) (is : read text ≡ Some x)
    (all : (v : A) → Explains (rest v)) (some : Completes (rest x)) where
  example : List ℕ
  example = text ++ some.0

  reads_example : Reads (then read rest) (32 ∷ example)
  unfolding example
  reads_example = reads_behind read rest text x solid is some.0 some.1 some.2

  explains_then : Explains (then read rest)
  unfolding example
  explains_then None n e = inr (inl (record { left = sym (refused_is {B = B} 0 n e); goes_on = (example, reads_example) }))
  explains_then (Some bytes) n e = by_read (read (first_field bytes)) refl where
    by_read : (o : Option A) → read (first_field bytes) ≡ o → Stops (then read rest) (32 ∷ bytes) n
    by_read None none =
        let whole : field read (Some bytes) ≡ Err (length bytes) = ap (λ (o : Option A). or_bad bytes o) none in
        let left : refused {B = B} (length bytes) ≡ refused n = sym (ap (λ (r : Result (A × Left) ℕ). r >>= λ (y : A × Left). rest y.0 y.1) whole) ∙ e in
        inl (record {
          front = [];
          wrong = first_field bytes;
          behind = tail_of (behind_field bytes);
          split = ap (λ (xs : List ℕ). 32 ∷ xs) (field_and_tail bytes);
          before = tt;
          solid = lacks-first_field bytes;
          ends = tail_ends (behind_field bytes);
          left = sym (refused_is {B = B} (length bytes) n left) ∙ ap length (field_and_tail bytes);
          goes_on = (example, reads_example);
          stops = λ more at h. not_both (then read rest (Some (first_field bytes ++ more))) h.0 (length (first_field bytes ++ more)) h.1
              (ap (λ (r : Result (A × Left) ℕ). r >>= λ (y : A × Left). rest y.0 y.1) (field_stops read (first_field bytes) more (lacks-first_field bytes) none at));
        })
    by_read (Some v) found =
        let whole : field read (Some bytes) ≡ Ok (v, behind_field bytes) = ap (λ (o : Option A). or_bad bytes o) found in
        let on : rest v (behind_field bytes) ≡ Err n = sym (ap (λ (r : Result (A × Left) ℕ). r >>= λ (y : A × Left). rest y.0 y.1) whole) ∙ e in
        subst (λ (xs : List ℕ). Stops (then read rest) (32 ∷ xs) n) (sym (field_and_tail bytes))
        (stops_behind read rest (first_field bytes) v (lacks-first_field bytes) found (tail_of (behind_field bytes)) n (tail_ends (behind_field bytes)) (all v (behind_field bytes) n on))

  pub sound_then : Sound (then read rest)
  sound_then = (explains_then, (32 ∷ example, refl, reads_example))

-- nothing behind the last field
pub sound_end : {B : Type 0} (b : B) → Sound (λ left. no_more left >>= λ _. told b)
sound_end {B} b = (explains, ([], tt, (b, refl))) where
  explains : Explains (λ left. no_more left >>= λ _. told b)
  explains None n e = absurd (not_both (told b) b n refl e)
  explains (Some bytes) n e = inr (inr (record {
    front = [];
    surplus = bytes;
    split = refl;
    before = tt;
    left = sym (refused_is {B = B} (length bytes + 1) n e);
    whole = (b, refl);
    stops = λ more h. not_both (refused {B = B} (length more + 1)) h.0 (length more + 1) h.1 refl;
  }))
