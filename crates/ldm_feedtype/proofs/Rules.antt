-- What is read is what the rules of the grammar spell.
use Rattle.std.proofs.Common.{◌≡◌, ℕ, suc, ◌+◌, ◌-◌, ◌<◌, ◌≤◌, List, [], ◌∷◌, ◌++◌, length, false, cond, eqb, Option, Some, None, Result, Ok, Err, refl, sym, ap, ◌∙◌, subst, inl, inr, arith, append_assoc, append-nil}
use Rattle.std.specs.Prelude.{◌↔◌, MatchResult}
use Rattle.std.proofs.lemmas.Bool.{cases_Bool, cases_lt, cond_below, cond_above, cond-true, cond-false, eqb-true}
use Rattle.ldm_feedtype.specs.declared.reader.TheConstants.{MOST_OPEN}
use Rattle.ldm_feedtype.specs.declared.fault.FeedFault.{FeedFault}
use Rattle.ldm_feedtype.specs.declared.fault.FeedFault.TheVariants.{Syntax, Deep}
use Rattle.ldm_feedtype.specs.FeedSets.{FeedSet, set_of, complement}
use Rattle.ldm_feedtype.specs.Parts.{Part, Word, Mark}
use Rattle.ldm_feedtype.specs.Words.{word_value}
use Rattle.ldm_feedtype.specs.Reading.{Place, State, Wanted, Found, whole, operator, opened, closed, operated, valued, step, finished, and_then, reading}
use Rattle.ldm_feedtype.specs.Grammar.{Kind, Term, Expression, Spells, value, inverted, enclosed, single, joined}

-- ---- all that the rules spell is read

-- a term is read into its place, and an expression into the place of a whole one
abbrev IsRead : Kind → ℕ → List Part → FeedSet → Type 0
IsRead Term depth ps set =
    (end : ℕ) (behind : List Part) (place : Place) (outer : List Place) → length outer + depth ≤ MOST_OPEN
    → reading end (ps ++ behind) (Wanted place outer) ≡ reading end behind (Found (place set) outer)
IsRead Expression depth ps set =
    (end : ℕ) (behind : List Part) (outer : List Place) → length outer + depth ≤ MOST_OPEN
    → reading end (ps ++ behind) (Wanted whole outer) ≡ reading end behind (Found set outer)

-- an operator is no closing parenthesis
operator-open : (byte : ℕ) (joins : FeedSet → FeedSet → FeedSet) → operator byte ≡ Some joins → eqb byte 41 ≡ false
operator-open byte joins is =
    elim (cases_Bool (eqb byte 41)) [
      | inl closing ↦ cc (ap operator (sym (eqb-true byte 41 closing)) ∙ is)
      | inr other ↦ other
    ]

step-operator : (at byte : ℕ) (joins : FeedSet → FeedSet → FeedSet) (set : FeedSet) (outer : List Place) → operator byte ≡ Some joins
    → step (Mark at byte) (Found set outer) ≡ Ok (Wanted (joins set) outer)
step-operator at byte joins set outer is =
    cond-false (eqb byte 41) (closed at set outer) _ (operator-open byte joins is)
    ∙ ap (operated at set outer) is

is_read : (kind : Kind) (depth : ℕ) (ps : List Part) (set : FeedSet) → Spells kind depth ps set → IsRead kind depth ps set
is_read _ _ _ _ (value depth at n bytes is) =
    λ end behind place outer room.
    ap (λ (number : Result ℕ FeedFault). and_then (valued place outer number) (reading end behind)) is
is_read _ _ _ _ (inverted depth at term set spells) =
    λ end behind place outer room.
    is_read Term depth term set spells end behind (λ s. place (complement s)) outer room
is_read _ _ _ _ (enclosed depth at close inner set spells) =
    λ end behind place outer room.
    let fits : length outer < MOST_OPEN = omega arith in
    ap (λ (next : Result State FeedFault). and_then next (reading end ((inner ++ Mark close 41 ∷ []) ++ behind)))
    (sym (cond_below (length outer) MOST_OPEN (Ok (Wanted whole (place ∷ outer))) _ fits))
    ∙ ap (λ (ps : List Part). reading end ps (Wanted whole (place ∷ outer))) (append_assoc inner (Mark close 41 ∷ []) behind)
    ∙ is_read Expression depth inner set spells end (Mark close 41 ∷ behind) (place ∷ outer) (omega arith)
is_read _ _ _ _ (single depth term set spells) =
    λ end behind outer room.
    is_read Term depth term set spells end behind whole outer room
is_read _ _ _ _ (joined depth at byte joins left right a b is first second) =
    λ end behind outer room.
    ap (λ (ps : List Part). reading end ps (Wanted whole outer)) (append_assoc left (Mark at byte ∷ right) behind)
    ∙ is_read Expression depth left a first end (Mark at byte ∷ (right ++ behind)) outer room
    ∙ ap (λ (next : Result State FeedFault). and_then next (reading end (right ++ behind))) (step-operator at byte joins a outer is)
    ∙ is_read Term depth right b second end behind (joins a) outer room

-- ---- all that is read is spelled by the rules

-- the parts in front have brought an expression into the places, with so many parentheses still allowed
abbrev HasFound : ℕ → List Part → FeedSet → List Place → Type 0
HasFound depth front set [] = (depth ≡ MOST_OPEN) × Spells Expression MOST_OPEN front set
HasFound depth front set (place ∷ outer) =
    (before inner : List Part) × (at : ℕ) × (front ≡ before ++ Mark at 40 ∷ inner) × Spells Expression depth inner set
    × ((right : List Part) (b : FeedSet) → Spells Term (suc depth) right b → HasFound (suc depth) (before ++ right) (place b) outer)

-- with any term behind them, the parts in front have brought an expression
abbrev Awaits : ℕ → List Part → Place → List Place → Type 0
Awaits depth front place outer =
    (right : List Part) (b : FeedSet) → Spells Term depth right b → HasFound depth (front ++ right) (place b) outer

abbrev HasReached : ℕ → List Part → State → Type 0
HasReached depth front (Wanted place outer) = (length outer + depth ≡ MOST_OPEN) × Awaits depth front place outer
HasReached depth front (Found set outer) = (length outer + depth ≡ MOST_OPEN) × HasFound depth front set outer

-- a state that was reached, with some depth
abbrev Reached : List Part → State → Type 0
Reached front state = (depth : ℕ) × HasReached depth front state

-- the parts at the end go to the parts behind
regroup : (front : List Part) (part : Part) (behind : List Part) → (front ++ part ∷ []) ++ behind ≡ front ++ part ∷ behind
regroup front part behind = append_assoc front (part ∷ []) behind

reached-value : (front : List Part) (at n : ℕ) (bytes : List ℕ) (place : Place) (outer : List Place) → word_value at bytes ≡ Ok n
    → Reached front (Wanted place outer) → Reached (front ++ Word at bytes ∷ []) (Found (place (set_of n)) outer)
reached-value front at n bytes place outer is (depth, (room, awaits)) =
    (depth, (room, awaits (Word at bytes ∷ []) (set_of n) (value depth at n bytes is)))

reached-inverted : (front : List Part) (at : ℕ) (place : Place) (outer : List Place)
    → Reached front (Wanted place outer) → Reached (front ++ Mark at 126 ∷ []) (Wanted (λ set. place (complement set)) outer)
reached-inverted front at place outer (depth, (room, awaits)) = (
  depth,
  (
    room,
    λ right b spells.
        subst (λ (ps : List Part). HasFound depth ps (place (complement b)) outer) (sym (regroup front (Mark at 126) right))
        (awaits (Mark at 126 ∷ right) (complement b) (inverted depth at right b spells)),
  ),
)

reached-opened : (front : List Part) (at : ℕ) (place : Place) (outer : List Place) → length outer < MOST_OPEN
    → Reached front (Wanted place outer) → Reached (front ++ Mark at 40 ∷ []) (Wanted whole (place ∷ outer))
reached-opened front at place outer free (depth, (room, awaits)) =
    let deeper : depth ≡ suc (depth - 1) = omega arith in (
      depth - 1,
      (
        omega arith,
        λ right b spells. (
          front,
          right,
          at,
          regroup front (Mark at 40) right,
          single (depth - 1) right b spells,
          subst (λ (d : ℕ). Awaits d front place outer) deeper awaits,
        ),
      ),
    )

reached-operator : (front : List Part) (at byte : ℕ) (joins : FeedSet → FeedSet → FeedSet) (set : FeedSet) (outer : List Place)
    → operator byte ≡ Some joins → Reached front (Found set outer) → Reached (front ++ Mark at byte ∷ []) (Wanted (joins set) outer)
reached-operator front at byte joins set [] is (depth, (room, (all, spells))) = (
  depth,
  (
    room,
    λ right b term. (
      all,
      subst (λ (ps : List Part). Spells Expression MOST_OPEN ps (joins set b)) (sym (regroup front (Mark at byte) right))
          (joined MOST_OPEN at byte joins front right set b is spells (subst (λ (d : ℕ). Spells Term d right b) all term)),
    ),
  ),
)
reached-operator front at byte joins set (place ∷ outer) is (depth, (room, (before, inner, opening, split, spells, awaits))) = (
  depth,
  (
    room,
    λ right b term. (
      before,
      inner ++ Mark at byte ∷ right,
      opening,
      regroup front (Mark at byte) right ∙ ap (λ (ps : List Part). ps ++ Mark at byte ∷ right) split
          ∙ append_assoc before (Mark opening 40 ∷ inner) (Mark at byte ∷ right),
      joined depth at byte joins inner right set b is spells term,
      awaits,
    ),
  ),
)

reached-closed : (front : List Part) (at : ℕ) (set : FeedSet) (place : Place) (outer : List Place)
    → Reached front (Found set (place ∷ outer)) → Reached (front ++ Mark at 41 ∷ []) (Found (place set) outer)
reached-closed front at set place outer (depth, (room, (before, inner, opening, split, spells, awaits))) = (
  suc depth,
  (
    omega arith,
    subst (λ (ps : List Part). HasFound (suc depth) ps (place set) outer)
        (sym (ap (λ (ps : List Part). ps ++ Mark at 41 ∷ []) split ∙ append_assoc before (Mark opening 40 ∷ inner) (Mark at 41 ∷ [])))
        (awaits (Mark opening 40 ∷ (inner ++ Mark at 41 ∷ [])) set (enclosed depth opening at inner set spells)),
  ),
)

-- ---- each step

valued-ok : (place : Place) (outer : List Place) (read : Result ℕ FeedFault) (next : State) → valued place outer read ≡ Ok next
    → (n : ℕ) × (read ≡ Ok n) × (Found (place (set_of n)) outer ≡ next)
valued-ok place outer (Ok n) next is = (n, refl, cc)
valued-ok place outer (Err fault) next is = cc is

opened-ok : (at : ℕ) (place : Place) (outer : List Place) (next : State) → opened at place outer ≡ Ok next
    → (length outer < MOST_OPEN) × (Wanted whole (place ∷ outer) ≡ next)
opened-ok at place outer next is =
    elim (cases_lt (length outer) MOST_OPEN) [
      | inl room ↦
          let opens : Ok (Wanted whole (place ∷ outer)) ≡ opened at place outer = cond_below (length outer) MOST_OPEN _ _ room in
          let same = opens ∙ is in (room, cc)
      | inr full ↦
          let refused : Err (Deep at) ≡ opened at place outer = cond_above (length outer) MOST_OPEN _ _ _ full refl in
          cc (refused ∙ is)
    ]

operated-ok : (at : ℕ) (set : FeedSet) (outer : List Place) (found : Option (FeedSet → FeedSet → FeedSet)) (next : State)
    → operated at set outer found ≡ Ok next → (joins : FeedSet → FeedSet → FeedSet) × (found ≡ Some joins) × (Wanted (joins set) outer ≡ next)
operated-ok at set outer None next is = cc is
operated-ok at set outer (Some joins) next is = (joins, refl, cc)

reached-front : (front : List Part) (at byte : ℕ) (place : Place) (outer : List Place) (next : State)
    → Reached front (Wanted place outer) → step (Mark at byte) (Wanted place outer) ≡ Ok next → Reached (front ++ Mark at byte ∷ []) next
reached-front front at byte place outer next reached is =
    elim (cases_Bool (eqb byte 126)) [
      | inl tilde ↦
          let same : Ok (Wanted (λ set. place (complement set)) outer) ≡ Ok next = sym (cond-true (eqb byte 126) _ _ tilde) ∙ is in
          let goes : Wanted (λ set. place (complement set)) outer ≡ next = cc in
          subst (λ (mark : ℕ). Reached (front ++ Mark at mark ∷ []) next) (sym (eqb-true byte 126 tilde))
          (subst (Reached (front ++ Mark at 126 ∷ [])) goes (reached-inverted front at place outer reached))
      | inr other ↦
          let others : cond (eqb byte 40) (opened at place outer) (Err (Syntax at)) ≡ Ok next =
          sym (cond-false (eqb byte 126) (Ok (Wanted (λ set. place (complement set)) outer)) _ other) ∙ is in
          elim (cases_Bool (eqb byte 40)) [
            | inl opening ↦
                let goes = opened-ok at place outer next (sym (cond-true (eqb byte 40) (opened at place outer) (Err (Syntax at)) opening) ∙ others) in
                subst (λ (mark : ℕ). Reached (front ++ Mark at mark ∷ []) next) (sym (eqb-true byte 40 opening))
                (subst (Reached (front ++ Mark at 40 ∷ [])) goes.1 (reached-opened front at place outer goes.0 reached))
            | inr neither ↦ cc (sym (cond-false (eqb byte 40) (opened at place outer) (Err (Syntax at)) neither) ∙ others)
          ]
    ]

closed-step : (front : List Part) (at : ℕ) (set : FeedSet) (outer : List Place) (next : State) → Reached front (Found set outer)
    → closed at set outer ≡ Ok next → Reached (front ++ Mark at 41 ∷ []) next
closed-step front at set [] next reached is = cc is
closed-step front at set (place ∷ outer) next reached is =
    let goes : Found (place set) outer ≡ next = cc in
    subst (Reached (front ++ Mark at 41 ∷ [])) goes (reached-closed front at set place outer reached)

reached-behind : (front : List Part) (at byte : ℕ) (set : FeedSet) (outer : List Place) (next : State)
    → Reached front (Found set outer) → step (Mark at byte) (Found set outer) ≡ Ok next → Reached (front ++ Mark at byte ∷ []) next
reached-behind front at byte set outer next reached is =
    elim (cases_Bool (eqb byte 41)) [
      | inl closing ↦
          subst (λ (mark : ℕ). Reached (front ++ Mark at mark ∷ []) next) (sym (eqb-true byte 41 closing))
          (closed-step front at set outer next reached (sym (cond-true (eqb byte 41) _ _ closing) ∙ is))
      | inr other ↦
          let goes = operated-ok at set outer (operator byte) next (sym (cond-false (eqb byte 41) (closed at set outer) _ other) ∙ is) in
          subst (Reached (front ++ Mark at byte ∷ [])) goes.2 (reached-operator front at byte goes.0 set outer goes.1 reached)
    ]

reached-step : (front : List Part) (part : Part) (state next : State) → Reached front state → step part state ≡ Ok next
    → Reached (front ++ part ∷ []) next
reached-step front (Word at bytes) (Wanted place outer) next reached is =
    let found = valued-ok place outer (word_value at bytes) next is in
    subst (Reached (front ++ Word at bytes ∷ [])) found.2 (reached-value front at found.0 bytes place outer found.1 reached)
reached-step front (Word at bytes) (Found set outer) next reached is = cc is
reached-step front (Mark at byte) (Wanted place outer) next reached is = reached-front front at byte place outer next reached is
reached-step front (Mark at byte) (Found set outer) next reached is = reached-behind front at byte set outer next reached is

-- ---- the end

reached-end : (end : ℕ) (front : List Part) (state : State) (set : FeedSet) → Reached front state → finished end state ≡ Ok set
    → Spells Expression MOST_OPEN front set
reached-end end front (Wanted place outer) set reached is = cc is
reached-end end front (Found found []) set (depth, (room, (all, spells))) is =
    let same : found ≡ set = cc is in
    subst (Spells Expression MOST_OPEN front) same spells
reached-end end front (Found found (place ∷ outer)) set reached is = cc is

and_then-ok : (next : Result State FeedFault) (more : State → Result FeedSet FeedFault) (set : FeedSet) → and_then next more ≡ Ok set
    → (state : State) × (next ≡ Ok state) × (more state ≡ Ok set)
and_then-ok (Ok state) more set is = (state, refl, is)
and_then-ok (Err fault) more set is = cc is

is_spelled : (end : ℕ) (ps front : List Part) (state : State) (set : FeedSet) → Reached front state → reading end ps state ≡ Ok set
    → Spells Expression MOST_OPEN (front ++ ps) set
is_spelled end [] front state set reached is =
    subst (λ (all : List Part). Spells Expression MOST_OPEN all set) (sym (append-nil front)) (reached-end end front state set reached is)
is_spelled end (part ∷ behind) front state set reached is =
    let next = and_then-ok (step part state) (reading end behind) set is in
    subst (λ (all : List Part). Spells Expression MOST_OPEN all set) (regroup front part behind)
    (is_spelled end behind (front ++ part ∷ []) next.0 set (reached-step front part state next.0 reached next.1) next.2)

-- what is read from the beginning is an expression, and each expression is read
pub reading-spells : (end : ℕ) (ps : List Part) (set : FeedSet)
    → (reading end ps (Wanted whole []) ≡ Ok set) ↔ Spells Expression MOST_OPEN ps set
reading-spells end ps set = (
  λ is. is_spelled end ps [] (Wanted whole []) set (MOST_OPEN, (refl, λ right b spells. (refl, single MOST_OPEN right b spells))) is,
  λ spells.
      ap (λ (all : List Part). reading end all (Wanted whole [])) (sym (append-nil ps))
      ∙ is_read Expression MOST_OPEN ps set spells end [] [] (omega arith),
)

-- what a reader answers tells whether the parts are an expression
pub answers-spell : {X : Type 0} (view : X → FeedSet) (end : ℕ) (ps : List Part) (answer : Result X FeedFault)
    → MatchResult answer (λ x. reading end ps (Wanted whole []) ≡ Ok (view x)) (λ fault. reading end ps (Wanted whole []) ≡ Err fault)
    → MatchResult answer (λ x. Spells Expression MOST_OPEN ps (view x)) (λ _. (set : FeedSet) → Spells Expression MOST_OPEN ps set → ⊥)
answers-spell view end ps (Ok x) is = (reading-spells end ps (view x)).0 is
answers-spell view end ps (Err fault) is = λ set spells. cc (sym is ∙ (reading-spells end ps set).1 spells)
