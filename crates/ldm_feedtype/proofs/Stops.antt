-- A fault stands at the first part that cannot continue an expression.
use Rattle.std.proofs.Common.{◌≡◌, ℕ, List, [], ◌∷◌, ◌++◌, length, cond, eqb, ◌⊎◌, Option, Some, None, Result, Ok, Err, refl, sym, ap, ◌∙◌, subst, inl, inr, append_assoc, append-nil}
use Rattle.std.specs.Prelude.{MatchResult, IfErr}
use Rattle.std.proofs.lemmas.Bool.{cases_Bool, cases_lt, cond_below, cond_above, cond-true, cond-false, eqb-true, eqb-false}
use Rattle.ldm_feedtype.specs.declared.reader.TheConstants.{MOST_OPEN}
use Rattle.ldm_feedtype.specs.declared.fault.FeedFault.{FeedFault}
use Rattle.ldm_feedtype.specs.declared.fault.FeedFault.TheVariants.{Syntax, Deep}
use Rattle.ldm_feedtype.specs.FeedSets.{FeedSet, set_of, complement}
use Rattle.ldm_feedtype.specs.Parts.{Part, Word, Mark}
use Rattle.ldm_feedtype.specs.Words.{word_value}
use Rattle.ldm_feedtype.specs.Reading.{Place, State, Wanted, Found, whole, operator, opened, closed, operated, valued, step, finished, and_then, reading}
use Rattle.ldm_feedtype.specs.Faults.{Begins, TakesTerm, IsFaultOf, EndsEarly, IsFirstFault}
use Rattle.ldm_feedtype.proofs.Rules.{reading-spells}

-- the parts in front are read as that state
abbrev Leads : List Part → State → Type 0
Leads front state =
    (end : ℕ) (behind : List Part) → reading end (front ++ behind) (Wanted whole []) ≡ reading end behind state

regroup : (front : List Part) (part : Part) (behind : List Part) → (front ++ part ∷ []) ++ behind ≡ front ++ part ∷ behind
regroup front part behind = append_assoc front (part ∷ []) behind

Leads-step : (front : List Part) (part : Part) (state next : State) → Leads front state → step part state ≡ Ok next
    → Leads (front ++ part ∷ []) next
Leads-step front part state next leads is end behind =
    ap (λ (ps : List Part). reading end ps (Wanted whole [])) (regroup front part behind)
    ∙ leads end (part ∷ behind)
    ∙ ap (λ (read : Result State FeedFault). and_then read (reading end behind)) is

-- ---- what is read so far can always go on to an end

abbrev Completes : State → Type 0
Completes state = (behind : List Part) × (set : FeedSet) × (reading 0 behind state ≡ Ok set)

found-completes : (set : FeedSet) (outer : List Place) → Completes (Found set outer)
found-completes set [] = ([], set, refl)
found-completes set (place ∷ outer) =
    let closes = found-completes (place set) outer in (Mark 0 41 ∷ closes.0, closes.1, closes.2)

completes : (state : State) → Completes state
completes (Found set outer) = found-completes set outer
completes (Wanted place outer) =
    let closes = found-completes (place (set_of 0)) outer in (Word 0 (48 ∷ []) ∷ closes.0, closes.1, closes.2)

Leads-begins : (front : List Part) (state : State) → Leads front state → Begins front
Leads-begins front state leads =
    let more = completes state in
    (more.0, more.1, (reading-spells 0 (front ++ more.0) more.1).0 (leads 0 more.0 ∙ more.2))

-- a part that is refused begins nothing
refused-stops : (front : List Part) (part : Part) (state : State) (fault : FeedFault) → Leads front state → step part state ≡ Err fault
    → Begins (front ++ part ∷ []) → ⊥
refused-stops front part state fault leads is (behind, set, spells) =
    let read : reading 0 (part ∷ behind) state ≡ Ok set =
    sym (leads 0 (part ∷ behind)) ∙ ap (λ (ps : List Part). reading 0 ps (Wanted whole [])) (sym (regroup front part behind))
    ∙ (reading-spells 0 ((front ++ part ∷ []) ++ behind) set).1 spells in
    let refused : and_then (step part state) (reading 0 behind) ≡ Err fault =
    ap (λ (next : Result State FeedFault). and_then next (reading 0 behind)) is in
    cc (sym refused ∙ read)

-- a term may stand where one is wanted, and nowhere else
wanted-takes : (front : List Part) (place : Place) (outer : List Place) → Leads front (Wanted place outer) → TakesTerm front
wanted-takes front place outer leads =
    Leads-begins (front ++ Word 0 (48 ∷ []) ∷ []) (Found (place (set_of 0)) outer)
    (Leads-step front (Word 0 (48 ∷ [])) (Wanted place outer) (Found (place (set_of 0)) outer) leads refl)

found-takes : (front : List Part) (set : FeedSet) (outer : List Place) → Leads front (Found set outer) → TakesTerm front → ⊥
found-takes front set outer leads = refused-stops front (Word 0 (48 ∷ [])) (Found set outer) (Syntax 0) leads refl

-- ---- which fault it is

valued-err : (place : Place) (outer : List Place) (read : Result ℕ FeedFault) (fault : FeedFault) → valued place outer read ≡ Err fault
    → read ≡ Err fault
valued-err place outer (Ok n) fault is = cc is
valued-err place outer (Err found) fault is = cc

opened-err : (at : ℕ) (place : Place) (outer : List Place) (fault : FeedFault) → opened at place outer ≡ Err fault → fault ≡ Deep at
opened-err at place outer fault is =
    elim (cases_lt (length outer) MOST_OPEN) [
      | inl room ↦
          let opens : Ok (Wanted whole (place ∷ outer)) ≡ opened at place outer = cond_below (length outer) MOST_OPEN _ _ room in
          cc (opens ∙ is)
      | inr full ↦
          let refused : Err (Deep at) ≡ opened at place outer = cond_above (length outer) MOST_OPEN _ _ _ full refl in
          let same = refused ∙ is in
          cc
    ]

closed-err : (at : ℕ) (set : FeedSet) (outer : List Place) (fault : FeedFault) → closed at set outer ≡ Err fault → fault ≡ Syntax at
closed-err at set [] fault is = cc
closed-err at set (place ∷ outer) fault is = cc is

operated-err : (at : ℕ) (set : FeedSet) (outer : List Place) (found : Option (FeedSet → FeedSet → FeedSet)) (fault : FeedFault)
    → operated at set outer found ≡ Err fault → fault ≡ Syntax at
operated-err at set outer None fault is = cc
operated-err at set outer (Some joins) fault is = cc is

wanted-fault : (front : List Part) (at byte : ℕ) (place : Place) (outer : List Place) (fault : FeedFault)
    → TakesTerm front → step (Mark at byte) (Wanted place outer) ≡ Err fault → IsFaultOf front (Mark at byte) fault
wanted-fault front at byte place outer fault takes is =
    elim (cases_Bool (eqb byte 126)) [
      | inl tilde ↦ cc (sym (cond-true (eqb byte 126) (Ok (Wanted (λ set. place (complement set)) outer)) _ tilde) ∙ is)
      | inr other ↦
          let others : cond (eqb byte 40) (opened at place outer) (Err (Syntax at)) ≡ Err fault =
          sym (cond-false (eqb byte 126) (Ok (Wanted (λ set. place (complement set)) outer)) _ other) ∙ is in
          elim (cases_Bool (eqb byte 40)) [
            | inl opening ↦
                let deep = opened-err at place outer fault (sym (cond-true (eqb byte 40) (opened at place outer) (Err (Syntax at)) opening) ∙ others) in
                inl (takes, eqb-true byte 40 opening, deep)
            | inr neither ↦
                let refused : Err (Syntax at) ≡ Err fault =
                sym (cond-false (eqb byte 40) (opened at place outer) (Err (Syntax at)) neither) ∙ others in
                inr (λ _ same. eqb-false byte 40 neither same, cc)
          ]
    ]

found-fault : (at byte : ℕ) (set : FeedSet) (outer : List Place) (fault : FeedFault)
    → step (Mark at byte) (Found set outer) ≡ Err fault → fault ≡ Syntax at
found-fault at byte set outer fault is =
    elim (cases_Bool (eqb byte 41)) [
      | inl closing ↦ closed-err at set outer fault (sym (cond-true (eqb byte 41) (closed at set outer) _ closing) ∙ is)
      | inr other ↦
          operated-err at set outer (operator byte) fault (sym (cond-false (eqb byte 41) (closed at set outer) _ other) ∙ is)
    ]

fault-of : (front : List Part) (part : Part) (state : State) (fault : FeedFault) → Leads front state → step part state ≡ Err fault
    → IsFaultOf front part fault
fault-of front (Word at bytes) (Wanted place outer) fault leads is =
    inl (wanted-takes front place outer leads, valued-err place outer (word_value at bytes) fault is)
fault-of front (Word at bytes) (Found set outer) fault leads is = inr (found-takes front set outer leads, cc)
fault-of front (Mark at byte) (Wanted place outer) fault leads is =
    wanted-fault front at byte place outer fault (wanted-takes front place outer leads) is
fault-of front (Mark at byte) (Found set outer) fault leads is =
    inr (λ takes _. absurd (found-takes front set outer leads takes), found-fault at byte set outer fault is)

finished-err : (end : ℕ) (state : State) (fault : FeedFault) → finished end state ≡ Err fault → fault ≡ Syntax end
finished-err end (Wanted place outer) fault is = cc
finished-err end (Found set []) fault is = cc is
finished-err end (Found set (place ∷ outer)) fault is = cc

-- ---- the first fault

cases-step : (read : Result State FeedFault)
    → ((next : State) × (read ≡ Ok next)) ⊎ ((fault : FeedFault) × (read ≡ Err fault))
cases-step (Ok next) = inl (next, refl)
cases-step (Err fault) = inr (fault, refl)

ends-early : (end : ℕ) (front : List Part) (state : State) (fault : FeedFault) → Leads front state → finished end state ≡ Err fault
    → EndsEarly end front fault
ends-early end front state fault leads is =
    let read : reading end front (Wanted whole []) ≡ Err fault =
    ap (λ (ps : List Part). reading end ps (Wanted whole [])) (sym (append-nil front)) ∙ leads end [] ∙ is in
    record {
      begins = Leads-begins front state leads;
      unfinished = λ set spells. cc (sym read ∙ (reading-spells end front set).1 spells);
      is = finished-err end state fault is;
    }

first-fault : (end : ℕ) (ps front : List Part) (state : State) (fault : FeedFault) → Leads front state → reading end ps state ≡ Err fault
    → IsFirstFault end (front ++ ps) fault
first-fault end [] front state fault leads is =
    subst (λ (ps : List Part). IsFirstFault end ps fault) (sym (append-nil front)) (inl (ends-early end front state fault leads is))
first-fault end (part ∷ behind) front state fault leads is =
    elim (cases-step (step part state)) [
      | inl goes ↦
          subst (λ (ps : List Part). IsFirstFault end ps fault) (regroup front part behind)
          (first-fault end behind (front ++ part ∷ []) goes.0 fault (Leads-step front part state goes.0 leads goes.1)
          (sym (ap (λ (read : Result State FeedFault). and_then read (reading end behind)) goes.1) ∙ is))
      | inr stops ↦
          let found : Err stops.0 ≡ Err fault =
          sym (ap (λ (read : Result State FeedFault). and_then read (reading end behind)) stops.1) ∙ is in
          let same : stops.0 ≡ fault = cc in
          inr (record {
            front = front;
            part = part;
            behind = behind;
            split = refl;
            begins = Leads-begins front state leads;
            stops = refused-stops front part state stops.0 leads stops.1;
            is = subst (IsFaultOf front part) same (fault-of front part state stops.0 leads stops.1);
          })
    ]

pub reading-first_fault : (end : ℕ) (ps : List Part) (fault : FeedFault) → reading end ps (Wanted whole []) ≡ Err fault
    → IsFirstFault end ps fault
reading-first_fault end ps fault is = first-fault end ps [] (Wanted whole []) fault (λ _ behind. refl) is

-- what a reader answers in place of a set is the first fault
pub answers-first_fault : {X : Type 0} (view : X → FeedSet) (end : ℕ) (ps : List Part) (answer : Result X FeedFault)
    → MatchResult answer (λ x. reading end ps (Wanted whole []) ≡ Ok (view x)) (λ fault. reading end ps (Wanted whole []) ≡ Err fault)
    → IfErr answer (IsFirstFault end ps)
answers-first_fault view end ps (Ok x) is = tt
answers-first_fault view end ps (Err fault) is = reading-first_fault end ps fault is
