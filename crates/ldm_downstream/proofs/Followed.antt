-- What becomes of a receiving, and then what becomes of it later.
use Rattle.std.proofs.Common.{◌≡◌, ℕ, List, [], ◌∷◌, ◌++◌, Option, Some, None, refl, ap, sym, subst, ◌∙◌, append_assoc}
use Rattle.std.proofs.lemmas.List.{append-nil}
use Rattle.std.proofs.lemmas.List.Concat.{flat_map-append}
use Rattle.ldm_model.specs.declared.event.Entry.{Entry}
use Rattle.ldm_relay.specs.Sent.{Sent}
use Rattle.ldm_relay.specs.Spelling.{written, record_of, records_of}
use Rattle.ldm_shared.specs.Passes.{PassView, Calls}
use Rattle.ldm_shared.proofs.Made.{calls_none, calls_trans}
use Rattle.ldm_intake.specs.declared.end.RecvEnd.{RecvEnd}
use Rattle.ldm_intake.specs.Course.{Leads}
use Rattle.ldm_intake.specs.Notes.{Note, note_line, note_lines}
use Rattle.ldm_intake.specs.Receiving.{Receiving}
use Rattle.ldm_intake.specs.Taken.{Arrival, Taken, taken_none, taken}
use Rattle.ldm_intake.specs.TakesRecord.{Standing}
use Rattle.ldm_intake.proofs.Courses.{begins_none}
use Rattle.ldm_intake.proofs.TakenRecords.{in_front, leads-from_none, leads-append, leads-ended, ended-front}
use Rattle.ldm_downstream.specs.Taking.{Takes, BeginsNext, BreaksOff}
use Rattle.ldm_downstream.specs.Turns.{TakesAll}

-- ---- passes

pub actor_of : (old new : PassView) (made : List Entry) → Calls old new made → new.actor ≡ old.actor
actor_of old new made calls = ap (λ (p : PassView). p.actor) calls.same

-- ---- bytes

records-append : (first second : List Sent) → records_of (first ++ second) ≡ records_of first ++ records_of second
records-append first second = flat_map-append (λ (m : Sent). record_of (written m)) first second

lines-append : (first second : List Note) → note_lines (first ++ second) ≡ note_lines first ++ note_lines second
lines-append first second = flat_map-append note_line first second

-- bytes behind some, and more behind those
appended : (old mid new first second both : List ℕ) → mid ≡ old ++ first → new ≡ mid ++ second → both ≡ first ++ second → new ≡ old ++ both
appended old mid new first second both mid_is new_is both_is =
    new_is ∙ ap (λ (x : List ℕ). x ++ second) mid_is ∙ append_assoc old first second ∙ ap (λ (x : List ℕ). old ++ x) (sym both_is)

-- ---- records that are taken behind others

leads_on : (actor other : ℕ) (s : Receiving) (first second : List Arrival) (made more : List Entry) (u : Taken) (t : Receiving) (v : Taken)
    → Leads actor (taken (taken_none s) first) made u → u.end ≡ None → t ≡ u.receiving → other ≡ actor → Leads other (taken (taken_none t) second) more v
    → Leads actor (taken (taken_none s) (first ++ second)) (made ++ more) (in_front u.replies u.notes v)
leads_on actor other s first second made more u t v leads going t_is other_is later =
    let there : Leads actor (taken (taken_none t) second) more v = subst (λ (a : ℕ). Leads a (taken (taken_none t) second) more v) other_is later in
    let here : Leads actor (taken (taken_none u.receiving) second) more v = subst (λ (r : Receiving). Leads actor (taken (taken_none r) second) more v) t_is there in
    leads-append actor (taken_none s) refl first second made more u (in_front u.replies u.notes v) leads going
    (leads-from_none actor u going second more v here)

pub takes-then : (first second : List Arrival) (end : Option RecvEnd) (a b c : Standing) → TakesAll first a b → Takes (taken (taken_none b.receiving) second) end b c
    → Takes (taken (taken_none a.receiving) (first ++ second)) end a c
takes-then first second end a b c before later = record {
  made = before.made ++ later.made;
  to = in_front before.to.replies before.to.notes later.to;
  leads = leads_on a.pass.actor b.pass.actor a.receiving first second before.made later.made before.to b.receiving later.to before.leads before.end_is
      before.receiving (actor_of a.pass b.pass before.made before.calls) later.leads;
  end_is = later.end_is;
  calls = calls_trans a.pass b.pass c.pass before.made later.made before.calls later.calls;
  receiving = later.receiving;
  sends = appended a.out b.out c.out (records_of before.to.replies) (records_of later.to.replies) (records_of (before.to.replies ++ later.to.replies))
      before.sends later.sends (records-append before.to.replies later.to.replies);
  logs = appended a.notes b.notes c.notes (note_lines before.to.notes) (note_lines later.to.notes) (note_lines (before.to.notes ++ later.to.notes))
      before.logs later.logs (lines-append before.to.notes later.to.notes);
}

-- no records
pub takes-none : (a : Standing) → TakesAll [] a a
unfolding taken
takes-none a = record {
  made = [];
  to = taken_none a.receiving;
  leads = refl;
  end_is = refl;
  calls = calls_none a.pass;
  receiving = refl;
  sends = sym (append-nil a.out);
  logs = sym (append-nil a.notes);
}

-- the same records
pub takes-same : (s : Receiving) (first second : List Arrival) (end : Option RecvEnd) (a b : Standing) → first ≡ second
    → Takes (taken (taken_none s) first) end a b → Takes (taken (taken_none s) second) end a b
takes-same s first second end a b same takes = subst (λ (xs : List Arrival). Takes (taken (taken_none s) xs) end a b) same takes

-- Records behind one that ended it change nothing.
pub takes-ended : (first second : List Arrival) (end : RecvEnd) (a b : Standing) → Takes (taken (taken_none a.receiving) first) (Some end) a b
    → Takes (taken (taken_none a.receiving) (first ++ second)) (Some end) a b
takes-ended first second end a b takes = record {
  made = takes.made;
  to = takes.to;
  leads = leads-ended a.pass.actor (taken_none a.receiving) refl first second takes.made takes.to end takes.leads takes.end_is;
  end_is = takes.end_is;
  calls = takes.calls;
  receiving = takes.receiving;
  sends = takes.sends;
  logs = takes.logs;
}

-- ---- breaking off

begins-nothing : (actor : ℕ) (s : Receiving) (arrivals : List Arrival) → BeginsNext actor s arrivals []
begins-nothing actor s [] = refl
begins-nothing actor s (arrival ∷ arrivals) = begins_none actor _

begins-more : (actor : ℕ) (s : Receiving) (first second : List Arrival) (made : List Entry) → BeginsNext actor s first made → BeginsNext actor s (first ++ second) made
begins-more actor s [] second made none = subst (λ (m : List Entry). BeginsNext actor s second m) (sym none) (begins-nothing actor s second)
begins-more actor s (arrival ∷ first) second made begins = begins

-- After the records that were taken it breaks off.
pub breaks-off : (front behind : List Arrival) (a b c : Standing) (made : List Entry) → TakesAll front a b → BeginsNext a.pass.actor b.receiving behind made
    → Calls b.pass c.pass made → c ≡ record b { pass = c.pass } → BreaksOff (front ++ behind) a c
breaks-off front behind a b c made takes begins calls same = record {
  front = front;
  behind = behind;
  all = refl;
  between = b;
  takes = takes;
  made = made;
  begins = begins;
  calls = calls;
  same = same;
}

-- No call more was made.
pub breaks-quiet : (front behind : List Arrival) (a b c : Standing) → TakesAll front a b → Calls b.pass c.pass [] → c ≡ record b { pass = c.pass }
    → BreaksOff (front ++ behind) a c
breaks-quiet front behind a b c takes calls same =
    breaks-off front behind a b c [] takes (begins-nothing a.pass.actor b.receiving behind) calls same

pub breaks-here : (front behind : List Arrival) (a b : Standing) → TakesAll front a b → BreaksOff (front ++ behind) a b
breaks-here front behind a b takes = breaks-quiet front behind a b b takes (calls_none b.pass) refl

pub breaks-same : (first second : List Arrival) (a b : Standing) → first ≡ second → BreaksOff first a b → BreaksOff second a b
breaks-same first second a b same breaks = subst (λ (xs : List Arrival). BreaksOff xs a b) same breaks

pub breaks-more : (first second : List Arrival) (a b : Standing) → BreaksOff first a b → BreaksOff (first ++ second) a b
breaks-more first second a b breaks = record {
  front = breaks.front;
  behind = breaks.behind ++ second;
  all = ap (λ (xs : List Arrival). xs ++ second) breaks.all ∙ append_assoc breaks.front breaks.behind second;
  between = breaks.between;
  takes = breaks.takes;
  made = breaks.made;
  begins = begins-more a.pass.actor breaks.between.receiving breaks.behind second breaks.made breaks.begins;
  calls = breaks.calls;
  same = breaks.same;
}

pub breaks-then : (first second : List Arrival) (a b c : Standing) → TakesAll first a b → BreaksOff second b c → BreaksOff (first ++ second) a c
breaks-then first second a b c takes breaks = record {
  front = first ++ breaks.front;
  behind = breaks.behind;
  all = ap (λ (xs : List Arrival). first ++ xs) breaks.all ∙ sym (append_assoc first breaks.front breaks.behind);
  between = breaks.between;
  takes = takes-then first breaks.front None a b breaks.between takes breaks.takes;
  made = breaks.made;
  begins = subst (λ (actor : ℕ). BeginsNext actor breaks.between.receiving breaks.behind breaks.made) (actor_of a.pass b.pass takes.made takes.calls) breaks.begins;
  calls = breaks.calls;
  same = breaks.same;
}

-- Then it looks at the queue without a call.
pub breaks-looks : (arrivals : List Arrival) (a b c : Standing) → BreaksOff arrivals a b → Calls b.pass c.pass [] → c ≡ record b { pass = c.pass } → BreaksOff arrivals a c
breaks-looks arrivals a b c breaks calls same = record {
  front = breaks.front;
  behind = breaks.behind;
  all = breaks.all;
  between = breaks.between;
  takes = breaks.takes;
  made = breaks.made;
  begins = breaks.begins;
  calls = subst (λ (m : List Entry). Calls breaks.between.pass c.pass m) (append-nil breaks.made)
      (calls_trans breaks.between.pass b.pass c.pass breaks.made [] breaks.calls calls);
  same = same ∙ ap (λ (s : Standing). record s { pass = c.pass }) breaks.same;
}

-- A record that ends it makes no call: what stands then stood before that record.
pub breaks-ended : (arrivals : List Arrival) (end : RecvEnd) (a b : Standing) → Takes (taken (taken_none a.receiving) arrivals) (Some end) a b → BreaksOff arrivals a b
breaks-ended arrivals end a b takes =
    let stopped = ended-front a.pass.actor (taken_none a.receiving) arrivals takes.made takes.to end refl takes.leads takes.end_is in
    let front : TakesAll stopped.front a b = record {
      made = takes.made;
      to = stopped.before;
      leads = stopped.leads;
      end_is = stopped.goes_on;
      calls = takes.calls;
      receiving = takes.receiving ∙ ap (λ (t : Taken). t.receiving) stopped.is;
      sends = takes.sends ∙ ap (λ (t : Taken). a.out ++ records_of t.replies) stopped.is;
      logs = takes.logs ∙ ap (λ (t : Taken). a.notes ++ note_lines t.notes) stopped.is;
    } in
    breaks-same (stopped.front ++ stopped.behind) arrivals a b (sym stopped.all) (breaks-here stopped.front stopped.behind a b front)
