-- Receiving, taken apart: records that come behind others, and what was taken before.
use Rattle.std.proofs.Common.{◌≡◌, ℕ, List, [], ◌∷◌, ◌++◌, Option, Some, None, refl, ap, sym, subst, ◌∙◌, append_assoc}
use Rattle.std.proofs.lemmas.List.{append-nil}
use Rattle.ldm_model.specs.declared.event.Entry.{Entry}
use Rattle.ldm_relay.specs.Sent.{Sent}
use Rattle.ldm_intake.specs.declared.end.RecvEnd.{RecvEnd}
use Rattle.ldm_intake.specs.declared.end.RecvEnd.TheVariants.{BadFrame, Refused}
use Rattle.ldm_intake.specs.declared.phase.Pending.{Pending}
use Rattle.ldm_intake.specs.Course.{Course, Comes, then, Leads, Begins}
use Rattle.ldm_intake.specs.Notes.{Note}
use Rattle.ldm_intake.specs.Receiving.{Receiving}
use Rattle.ldm_intake.specs.Step.{Step, Goes, Bad, Declined}
use Rattle.ldm_intake.specs.Record.{record_course}
use Rattle.ldm_intake.specs.Taken.{Arrival, Taken, taken_none, after_step, taken, discards, closing}
use Rattle.ldm_intake.proofs.Courses.{then-then, then-same, leads-then, leads-then_comes, leads-then_parts, leads-begins, begins-then, begins-then_more}
use Rattle.ldm_intake.proofs.QuietEnds.{bad_is_quiet, declined_is_quiet}

-- what is taken behind: nothing more, where a record ended it
abbrev pub goes_on_at : List Arrival → Taken → Option RecvEnd → Course Taken
goes_on_at arrivals t None = taken t arrivals
goes_on_at arrivals t (Some end) = Comes t

abbrev pub goes_on : List Arrival → Taken → Course Taken
goes_on arrivals t = goes_on_at arrivals t t.end

-- what was taken, with a record behind it that came to a step
abbrev pub stepped : Taken → ℕ → Step → Taken
stepped t at (Goes s replies notes) = record t { receiving = s; replies = t.replies ++ replies; notes = t.notes ++ notes }
stepped t at Bad = record t { end = Some (BadFrame at) }
stepped t at (Declined answer) = record t { end = Some (Refused answer) }

-- with messages and notes in front
abbrev pub in_front : List Sent → List Note → Taken → Taken
in_front replies notes t = record t { replies = replies ++ t.replies; notes = notes ++ t.notes }

-- the first records, and then the others
pub taken-append : (t : Taken) (first second : List Arrival) → t.end ≡ None → taken t (first ++ second) ≡ then (taken t first) (goes_on second)
unfolding taken
taken-append t [] second open_ = ap (goes_on_at second t) (sym open_)
taken-append t (a ∷ first) second open_ =
    then-same (record_course t.receiving a.now a.content) (after_step t a.at (λ (next : Taken). taken next (first ++ second)))
    (λ (step : Step). then (after_step t a.at (λ (next : Taken). taken next first) step) (goes_on second))
    (λ (step : Step). elim step as (λ (v : Step). after_step t a.at (λ (next : Taken). taken next (first ++ second)) v ≡ then (after_step t a.at (λ (next : Taken). taken next first) v) (goes_on second)) [
      | Goes s replies notes ↦ taken-append (stepped t a.at (Goes s replies notes)) first second open_
      | Bad ↦ refl
      | Declined answer ↦ refl
    ])
    ∙ sym (then-then (record_course t.receiving a.now a.content) (after_step t a.at (λ (next : Taken). taken next first)) (goes_on second))

-- a step behind what stands in front
front_step : (replies : List Sent) (notes : List Note) (t : Taken) (s : Receiving) (more : List Sent) (lines : List Note)
    → ◌≡◌ {A = Taken} (record t { receiving = s; replies = replies ++ t.replies ++ more; notes = notes ++ t.notes ++ lines })
    (record t { receiving = s; replies = replies ++ (t.replies ++ more); notes = notes ++ (t.notes ++ lines) })
front_step replies notes t s more lines =
    ap (λ (r : List Sent). record t { receiving = s; replies = r; notes = notes ++ t.notes ++ lines }) (append_assoc replies t.replies more)
    ∙ ap (λ (n : List Note). record t { receiving = s; replies = replies ++ (t.replies ++ more); notes = n }) (append_assoc notes t.notes lines)

-- What was taken before stands in front, and changes nothing else.
pub taken-in_front : (replies : List Sent) (notes : List Note) (t : Taken) (arrivals : List Arrival)
    → taken (in_front replies notes t) arrivals ≡ then (taken t arrivals) (λ (u : Taken). Comes (in_front replies notes u))
unfolding taken
taken-in_front replies notes t [] = refl
taken-in_front replies notes t (a ∷ arrivals) =
    then-same (record_course t.receiving a.now a.content) (after_step (in_front replies notes t) a.at (λ (next : Taken). taken next arrivals))
    (λ (step : Step). then (after_step t a.at (λ (next : Taken). taken next arrivals) step) (λ (u : Taken). Comes (in_front replies notes u)))
    (λ (step : Step). elim step as (λ (v : Step). after_step (in_front replies notes t) a.at (λ (next : Taken). taken next arrivals) v
    ≡ then (after_step t a.at (λ (next : Taken). taken next arrivals) v) (λ (u : Taken). Comes (in_front replies notes u))) [
      | Goes s more lines ↦
          ap (λ (u : Taken). taken u arrivals) (front_step replies notes t s more lines)
          ∙ taken-in_front replies notes (stepped t a.at (Goes s more lines)) arrivals
      | Bad ↦ refl
      | Declined answer ↦ refl
    ])
    ∙ sym (then-then (record_course t.receiving a.now a.content) (after_step t a.at (λ (next : Taken). taken next arrivals)) (λ (u : Taken). Comes (in_front replies notes u)))

none_in_front : (t : Taken) → t.end ≡ None → t ≡ in_front t.replies t.notes (taken_none t.receiving)
none_in_front t open_ =
    ap (λ (end : Option RecvEnd). record t { end = end }) open_
    ∙ ap (λ (r : List Sent). record t { replies = r; end = None }) (sym (append-nil t.replies))
    ∙ ap (λ (n : List Note). record t { replies = t.replies ++ []; notes = n; end = None }) (sym (append-nil t.notes))

pub taken-from_none : (t : Taken) (arrivals : List Arrival) → t.end ≡ None
    → taken t arrivals ≡ then (taken (taken_none t.receiving) arrivals) (λ (u : Taken). Comes (in_front t.replies t.notes u))
taken-from_none t arrivals open_ =
    ap (λ (u : Taken). taken u arrivals) (none_in_front t open_) ∙ taken-in_front t.replies t.notes (taken_none t.receiving) arrivals

module _ (actor : ℕ) (t : Taken) (open_ : t.end ≡ None) where
  -- what records lead to that are taken behind others
  pub leads-from_none : (arrivals : List Arrival) (made : List Entry) (u : Taken)
      → Leads actor (taken (taken_none t.receiving) arrivals) made u → Leads actor (taken t arrivals) made (in_front t.replies t.notes u)
  leads-from_none arrivals made u leads =
      subst (λ (c : Course Taken). Leads actor c made (in_front t.replies t.notes u)) (sym (taken-from_none t arrivals open_))
      (leads-then_comes actor (taken (taken_none t.receiving) arrivals) (λ (v : Taken). Comes (in_front t.replies t.notes v)) made u
      (in_front t.replies t.notes u) leads refl)

  pub begins-from_none : (arrivals : List Arrival) (made : List Entry)
      → Begins actor (taken (taken_none t.receiving) arrivals) made → Begins actor (taken t arrivals) made
  begins-from_none arrivals made begins =
      subst (λ (c : Course Taken). Begins actor c made) (sym (taken-from_none t arrivals open_))
      (begins-then actor (taken (taken_none t.receiving) arrivals) (λ (v : Taken). Comes (in_front t.replies t.notes v)) made begins)

  -- one record
  pub leads-one : (a : Arrival) (made : List Entry) (step : Step)
      → Leads actor (record_course t.receiving a.now a.content) made step → Leads actor (taken t (a ∷ [])) made (stepped t a.at step)
  unfolding taken
  leads-one a made step leads =
      leads-then_comes actor (record_course t.receiving a.now a.content) (after_step t a.at (λ (next : Taken). taken next [])) made step (stepped t a.at step) leads
      (elim step as (λ (v : Step). after_step t a.at (λ (next : Taken). taken next []) v ≡ Comes (stepped t a.at v)) [
        | Goes s replies notes ↦ refl
        | Bad ↦ refl
        | Declined answer ↦ refl
      ])

  pub begins-one : (a : Arrival) (arrivals : List Arrival) (made : List Entry)
      → Begins actor (record_course t.receiving a.now a.content) made → Begins actor (taken t (a ∷ arrivals)) made
  unfolding taken
  begins-one a arrivals made begins =
      begins-then actor (record_course t.receiving a.now a.content) (after_step t a.at (λ (next : Taken). taken next arrivals)) made begins

  -- The first records, and then the others. Where a record ends it, the others change nothing.
  pub leads-append : (first second : List Arrival) (made more : List Entry) (u v : Taken)
      → Leads actor (taken t first) made u → u.end ≡ None → Leads actor (taken u second) more v → Leads actor (taken t (first ++ second)) (made ++ more) v
  leads-append first second made more u v leads going goes =
      subst (λ (c : Course Taken). Leads actor c (made ++ more) v) (sym (taken-append t first second open_))
      (leads-then actor (taken t first) (goes_on second) made more u v leads
      (subst (λ (end : Option RecvEnd). Leads actor (goes_on_at second u end) more v) (sym going) goes))

  pub begins-append : (first second : List Arrival) (made more : List Entry) (u : Taken)
      → Leads actor (taken t first) made u → u.end ≡ None → Begins actor (taken u second) more → Begins actor (taken t (first ++ second)) (made ++ more)
  begins-append first second made more u leads going begins =
      subst (λ (c : Course Taken). Begins actor c (made ++ more)) (sym (taken-append t first second open_))
      (begins-then_more actor (taken t first) (goes_on second) made more u leads
      (subst (λ (end : Option RecvEnd). Begins actor (goes_on_at second u end) more) (sym going) begins))

  pub leads-ended : (first second : List Arrival) (made : List Entry) (u : Taken) (end : RecvEnd)
      → Leads actor (taken t first) made u → u.end ≡ Some end → Leads actor (taken t (first ++ second)) made u
  leads-ended first second made u end leads ended =
      subst (λ (c : Course Taken). Leads actor c made u) (sym (taken-append t first second open_))
      (leads-then_comes actor (taken t first) (goes_on second) made u u leads (ap (goes_on_at second u) ended))

  -- a front of the records
  pub begins-front : (first second : List Arrival) (made : List Entry) → Begins actor (taken t first) made → Begins actor (taken t (first ++ second)) made
  begins-front first second made begins =
      subst (λ (c : Course Taken). Begins actor c made) (sym (taken-append t first second open_)) (begins-then actor (taken t first) (goes_on second) made begins)

  pub leads-front : (first second : List Arrival) (made : List Entry) (u : Taken)
      → Leads actor (taken t first) made u → Begins actor (taken t (first ++ second)) made
  leads-front first second made u leads = begins-front first second made (leads-begins actor (taken t first) made u leads)

-- one more record behind others
pub leads-more : (actor : ℕ) (t : Taken) (first : List Arrival) (a : Arrival) (made more : List Entry) (u : Taken) (step : Step) → t.end ≡ None
    → Leads actor (taken t first) made u → u.end ≡ None → Leads actor (record_course u.receiving a.now a.content) more step
    → Leads actor (taken t (first ++ a ∷ [])) (made ++ more) (stepped u a.at step)
leads-more actor t first a made more u step open_ leads going goes =
    leads-append actor t open_ first (a ∷ []) made more u (stepped u a.at step) leads going (leads-one actor u going a more step goes)

pub begins-more : (actor : ℕ) (t : Taken) (first : List Arrival) (a : Arrival) (rest : List Arrival) (made more : List Entry) (u : Taken) → t.end ≡ None
    → Leads actor (taken t first) made u → u.end ≡ None → Begins actor (record_course u.receiving a.now a.content) more
    → Begins actor (taken t (first ++ a ∷ rest)) (made ++ more)
begins-more actor t first a rest made more u open_ leads going begins =
    begins-append actor t open_ first (a ∷ rest) made more u leads going (begins-one actor u going a rest more begins)

-- what an end does depends on the receiving alone
discards-from_none : (actor : ℕ) (t : Taken) (pending : Option Pending) (made : List Entry) (s : Receiving)
    → Leads actor (discards (taken_none t.receiving) pending) made (taken_none s) → Leads actor (discards t pending) made (record t { receiving = s })
discards-from_none actor t None [] s leads = ap (λ (u : Taken). record t { receiving = u.receiving }) leads
discards-from_none actor t None (entry ∷ made) s leads = absurd leads
discards-from_none actor t (Some pending) [] s leads = absurd leads
discards-from_none actor t (Some pending) (entry ∷ []) s leads = (leads.0, ap (λ (u : Taken). record t { receiving = u.receiving }) leads.1)
discards-from_none actor t (Some pending) (entry ∷ other ∷ made) s leads = absurd leads.1

pub closing-from_none : (actor : ℕ) (t : Taken) (made : List Entry) (s : Receiving)
    → Leads actor (closing (taken_none t.receiving)) made (taken_none s) → Leads actor (closing t) made (record t { receiving = s })
closing-from_none actor t made s leads = discards-from_none actor t t.receiving.pending made s leads

-- at an end nothing is pending any more, and all else is as it was
discards-none : (actor : ℕ) (t : Taken) (pending : Option Pending) (made : List Entry) (s : Receiving) → t.receiving.pending ≡ pending
    → Leads actor (discards t pending) made (taken_none s) → s ≡ record t.receiving { pending = None }
discards-none actor t None [] s is leads =
    sym (ap (λ (u : Taken). u.receiving) leads) ∙ ap (λ (o : Option Pending). record t.receiving { pending = o }) is
discards-none actor t None (entry ∷ made) s is leads = absurd leads
discards-none actor t (Some pending) [] s is leads = absurd leads
discards-none actor t (Some pending) (entry ∷ []) s is leads = sym (ap (λ (u : Taken). u.receiving) leads.1)
discards-none actor t (Some pending) (entry ∷ other ∷ made) s is leads = absurd leads.1

pub closing-none : (actor : ℕ) (s : Receiving) (made : List Entry) (next : Receiving)
    → Leads actor (closing (taken_none s)) made (taken_none next) → next ≡ record s { pending = None }
closing-none actor s made next leads = discards-none actor (taken_none s) s.pending made next refl leads

-- with nothing pending nothing is given up
closed-nothing : (actor : ℕ) (s : Receiving) (made : List Entry) (next : Receiving) → Leads actor (Comes (taken_none s)) made (taken_none next) → (made ≡ []) × (next ≡ s)
closed-nothing actor s [] next leads = (refl, sym (ap (λ (u : Taken). u.receiving) leads))
closed-nothing actor s (entry ∷ made) next leads = absurd leads

pub closed-again : (actor : ℕ) (s : Receiving) (made : List Entry) (next : Receiving) → s.pending ≡ None
    → Leads actor (closing (taken_none s)) made (taken_none next) → (made ≡ []) × (next ≡ s)
closed-again actor s made next none leads =
    closed-nothing actor s made next (subst (λ (o : Option Pending). Leads actor (discards (taken_none s) o) made (taken_none next)) none leads)

pub closing-begins_nothing : (actor : ℕ) (s : Receiving) → s.pending ≡ None → Leads actor (closing (taken_none s)) [] (taken_none s)
closing-begins_nothing actor s none = subst (λ (o : Option Pending). Leads actor (discards (taken_none s) o) [] (taken_none s)) (sym none) refl

-- Where a record ended it, the records before it were taken, and what they led to stands but for the end.
pub record Stopped (actor : ℕ) (t : Taken) (arrivals : List Arrival) (made : List Entry) (u : Taken) (end : RecvEnd) : Type 0 where
  pub front : List Arrival
  pub behind : List Arrival
  pub before : Taken
  pub all : arrivals ≡ front ++ behind
  pub leads : Leads actor (taken t front) made before
  pub goes_on : before.end ≡ None
  pub is : u ≡ record before { end = Some end }

module _ (actor : ℕ) where
  -- nothing was asked behind
  comes-made : {X : Type 0} (x y : X) (made : List Entry) → Leads actor (Comes x) made y → (made ≡ []) × (y ≡ x)
  comes-made x y [] leads = (refl, sym leads)
  comes-made x y (entry ∷ made) leads = absurd leads

  -- a record that ends it
  stopped_here : (t : Taken) (arrivals : List Arrival) (made : List Entry) (u : Taken) (end other : RecvEnd) → t.end ≡ None
      → made ≡ [] → u ≡ record t { end = Some other } → u.end ≡ Some end → Stopped actor t arrivals made u end
  unfolding taken
  stopped_here t arrivals made u end other open_ none is ended = record {
    front = [];
    behind = arrivals;
    before = t;
    all = refl;
    leads = subst (λ (m : List Entry). Leads actor (taken t []) m t) (sym none) refl;
    goes_on = open_;
    is = is ∙ ap (λ (o : Option RecvEnd). record t { end = o }) (sym (ap (λ (v : Taken). v.end) is) ∙ ended);
  }

  pub ended-front : (t : Taken) (arrivals : List Arrival) (made : List Entry) (u : Taken) (end : RecvEnd) → t.end ≡ None
      → Leads actor (taken t arrivals) made u → u.end ≡ Some end → Stopped actor t arrivals made u end
  unfolding taken
  ended-front t [] made u end open_ leads ended =
      let none : Option RecvEnd = None in
      absurd (let is = (comes-made t u made leads).1 in let same : None ≡ Some end = sym open_ ∙ sym (ap (λ (v : Taken). v.end) is) ∙ ended in cc same)
  ended-front t (a ∷ arrivals) made u end open_ leads ended =
      let parts = leads-then_parts actor (record_course t.receiving a.now a.content) (after_step t a.at (λ (next : Taken). taken next arrivals)) made u leads in
      by_step (λ v more going leads_on. ended-front v arrivals more u end going leads_on ended) parts.mid parts.made parts.more parts.all parts.first parts.second
    where
      by_step : ((v : Taken) (more : List Entry) → v.end ≡ None → Leads actor (taken v arrivals) more u → Stopped actor v arrivals more u end)
          → (step : Step) (first more : List Entry) → made ≡ first ++ more → Leads actor (record_course t.receiving a.now a.content) first step
          → Leads actor (after_step t a.at (λ (next : Taken). taken next arrivals) step) more u → Stopped actor t (a ∷ arrivals) made u end
      by_step next (Goes s replies notes) first more all leads then_leads =
          let rest = next (stepped t a.at (Goes s replies notes)) more open_ then_leads in
          record {
            front = a ∷ rest.front;
            behind = rest.behind;
            before = rest.before;
            all = ap (λ (others : List Arrival). a ∷ others) rest.all;
            leads = subst (λ (m : List Entry). Leads actor (taken t (a ∷ rest.front)) m rest.before) (sym all)
                (leads-then actor (record_course t.receiving a.now a.content) (after_step t a.at (λ (next : Taken). taken next rest.front)) first more
                (Goes s replies notes) rest.before leads rest.leads);
            goes_on = rest.goes_on;
            is = rest.is;
          }
      by_step next Bad first more all leads then_leads =
          let there = comes-made (record t { end = Some (BadFrame a.at) }) u more then_leads in
          stopped_here t (a ∷ arrivals) made u end (BadFrame a.at) open_
          (all ∙ ap (λ (m : List Entry). m ++ more) (bad_is_quiet actor t.receiving a.now a.content first leads) ∙ there.0) there.1 ended
      by_step next (Declined answer) first more all leads then_leads =
          let there = comes-made (record t { end = Some (Refused answer) }) u more then_leads in
          stopped_here t (a ∷ arrivals) made u end (Refused answer) open_
          (all ∙ ap (λ (m : List Entry). m ++ more) (declined_is_quiet actor t.receiving a.now a.content first answer leads) ∙ there.0) there.1 ended
