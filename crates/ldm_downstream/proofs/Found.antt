-- A record that was found, by what taking it came to.
use Rattle.std.proofs.Common.{◌≡◌, ℕ, ◌+◌, ◌<◌, ◌≤◌, length, Bool, true, false, List, [], ◌∷◌, ◌++◌, Option, Some, None, inl, inr, refl, ap, sym, subst, ◌∙◌}
use Rattle.std.proofs.lemmas.List.{append-nil}
use Rattle.ldm_rpc.specs.declared.fault.RpcFault.{RpcFault}
use Rattle.ldm_rpc.specs.declared.fault.RpcFault.TheVariants.{TooLong as too_long, OutOfMemory as out_of_memory}
use Rattle.ldm_rpc.specs.declared.stage.Stage.TheVariants.{Faulty}
use Rattle.ldm_rpc.specs.Reading.{Reading, after, begun, bytes_taken, is_faulty, is_faulty_at, is_whole, is_whole_at, next_of, whole_of}
use Rattle.ldm_rpc.specs.Streams.{Position, given}
use Rattle.ldm_rpc.specs.Keeping.{IsFaultIn, IsFrontIn}
use Rattle.ldm_model.specs.declared.event.Entry.{Entry}
use Rattle.ldm_relay.specs.declared.message.ClassAnswer.{ClassAnswer}
use Rattle.ldm_shared.specs.Passes.{Calls}
use Rattle.ldm_shared.proofs.Made.{calls_none}
use Rattle.ldm_intake.specs.declared.end.RecvEnd.{RecvEnd}
use Rattle.ldm_intake.specs.declared.end.RecvEnd.TheVariants.{BadFrame, Refused, Worn, OutOfMemory}
use Rattle.ldm_intake.specs.Course.{Leads}
use Rattle.ldm_intake.specs.Notes.{note_lines}
use Rattle.ldm_intake.specs.Record.{record_course}
use Rattle.ldm_relay.specs.Spelling.{records_of}
use Rattle.ldm_intake.specs.Step.{Step, Goes, Bad, Declined}
use Rattle.ldm_intake.specs.Taken.{Arrival, taken_none, taken}
use Rattle.ldm_intake.specs.declared.record_end.AnswerEnd.{AnswerEnd}
use Rattle.ldm_intake.specs.declared.record_end.AnswerEnd.TheVariants as answer_end
use Rattle.ldm_intake.specs.declared.record_end.MessageEnd.{MessageEnd}
use Rattle.ldm_intake.specs.declared.record_end.MessageEnd.TheVariants as message_end
use Rattle.ldm_intake.specs.TakesRecord.{Standing, GoesOn, RunsOut, TakesAnswer, TakesRecord}
use Rattle.ldm_intake.proofs.TakenRecords.{stepped, leads-one}
use Rattle.ldm_downstream.specs.Pieces.{arrived}
use Rattle.ldm_downstream.specs.Taking.{Takes, BreaksOff}
use Rattle.ldm_downstream.specs.Turns.{Reads, TakesAll, Turns, StopsBy, TooLong, Cuts, Finds, found, first_of, behind, turned, end_of_answer, end_of_fault, end_of_message}
use Rattle.ldm_downstream.proofs.Followed.{takes-none, breaks-here}

-- what one record came to
taken-one : (now at : ℕ) (content : List ℕ) (made : List Entry) (step : Step) (end : Option RecvEnd) (old new : Standing)
    → Leads old.pass.actor (record_course old.receiving now content) made step → (stepped (taken_none old.receiving) at step).end ≡ end
    → Calls old.pass new.pass made → new ≡ record new { receiving = (stepped (taken_none old.receiving) at step).receiving }
    → new.out ≡ old.out ++ records_of (stepped (taken_none old.receiving) at step).replies
    → new.notes ≡ old.notes ++ note_lines (stepped (taken_none old.receiving) at step).notes
    → Takes (taken (taken_none old.receiving) (record { now = now; at = at; content = content } ∷ [])) end old new
taken-one now at content made step end old new leads end_is calls receiving sends logs = record {
  made = made;
  to = stepped (taken_none old.receiving) at step;
  leads = leads-one old.pass.actor (taken_none old.receiving) refl (record { now = now; at = at; content = content }) made step leads;
  end_is = end_is;
  calls = calls;
  receiving = ap (λ (s : Standing). s.receiving) receiving;
  sends = sends;
  logs = logs;
}

pub found-goes : (now at : ℕ) (content : List ℕ) (old new : Standing) → GoesOn (record_course old.receiving now content) old new
    → TakesAll (found now at (Some content)) old new
found-goes now at content old new goes =
    taken-one now at content goes.made (Goes new.receiving goes.replies goes.notes) None old new goes.leads refl goes.calls refl goes.sends goes.logs

still : (old new : Standing) → new ≡ old → Calls old.pass new.pass []
still old new same = subst (λ (s : Standing). Calls old.pass s.pass []) (sym same) (calls_none old.pass)

pub found-bad : (now at : ℕ) (content : List ℕ) (old new : Standing) → Leads old.pass.actor (record_course old.receiving now content) [] Bad → new ≡ old
    → StopsBy (BadFrame at) (found now at (Some content)) old new
found-bad now at content old new leads same =
    taken-one now at content [] Bad (Some (BadFrame at)) old new leads refl (still old new same)
    (ap (λ (s : Standing). record new { receiving = s.receiving }) same)
    (ap (λ (s : Standing). s.out) same ∙ sym (append-nil old.out)) (ap (λ (s : Standing). s.notes) same ∙ sym (append-nil old.notes))

pub found-declined : (now at : ℕ) (content : List ℕ) (answer : ClassAnswer) (old new : Standing)
    → Leads old.pass.actor (record_course old.receiving now content) [] (Declined answer) → new ≡ old → StopsBy (Refused answer) (found now at (Some content)) old new
found-declined now at content answer old new leads same =
    taken-one now at content [] (Declined answer) (Some (Refused answer)) old new leads refl (still old new same)
    (ap (λ (s : Standing). record new { receiving = s.receiving }) same)
    (ap (λ (s : Standing). s.out) same ∙ sym (append-nil old.out)) (ap (λ (s : Standing). s.notes) same ∙ sym (append-nil old.notes))

pub found-worn : (now at : ℕ) (content : List ℕ) (old new : Standing) → RunsOut (record_course old.receiving now content) old new
    → StopsBy Worn (found now at (Some content)) old new
found-worn now at content old new runs = (
  record {
    front = [];
    behind = record { now = now; at = at; content = content } ∷ [];
    all = refl;
    between = old;
    takes = takes-none old;
    made = runs.made;
    begins = runs.begins;
    calls = runs.calls;
    same = runs.same;
  },
  runs.worn,
)

-- nothing was done
pub quiet : (xs : List Arrival) (old new : Standing) → new ≡ old → BreaksOff xs old new
quiet xs old new same = subst (λ (s : Standing). BreaksOff xs old s) (sym same) (breaks-here [] xs old old (takes-none old))

pub found-memory : (now at : ℕ) (content : List ℕ) (old new : Standing) → new ≡ old → StopsBy OutOfMemory (found now at (Some content)) old new
found-memory now at content old new same = quiet (found now at (Some content)) old new same

-- a message of a feed that was found
pub found-message : (now at : ℕ) (content : List ℕ) (by : MessageEnd) (end : Option RecvEnd) (old new : Standing) → end ≡ None
    → TakesRecord by (record_course old.receiving now content) old new → Finds (end_of_message end by at) now at (Some content) old new
found-message now at content message_end.Goes end old new none takes = rw none (found-goes now at content old new takes)
found-message now at content message_end.Bad end old new none takes = found-bad now at content old new takes.0 takes.1
found-message now at content message_end.Worn end old new none takes = found-worn now at content old new takes
found-message now at content message_end.OutOfMemory end old new none takes = found-memory now at content old new takes

-- the reply to a request that was found
pub found-answer : (now at : ℕ) (content : List ℕ) (by : AnswerEnd) (old new : Standing)
    → TakesAnswer by (record_course old.receiving now content) old new → Finds (end_of_answer by at) now at (Some content) old new
found-answer now at content answer_end.Goes old new takes = found-goes now at content old new takes
found-answer now at content answer_end.Bad old new takes = found-bad now at content old new takes.0 takes.1
found-answer now at content (answer_end.Declined answer) old new takes = found-declined now at content answer old new takes.0 takes.1
found-answer now at content answer_end.OutOfMemory old new takes = found-memory now at content old new takes

-- a record that was found, by what is kept of it
pub held-none : (now at : ℕ) (content : Option (List ℕ)) (end : Option RecvEnd) (old : Standing) → IsFrontIn None content → end ≡ None → Finds end now at content old old
held-none now at None end old is none = rw none (takes-none old)
held-none now at (Some content) end old is none = absurd is

-- ---- the first record in some bytes

found-of : (now begins : ℕ) (r : Reading) (b : Bool) → is_whole r ≡ b → found now begins (whole_of r) ≡ arrived now (given begins r)
found-of now begins r true whole = rw whole refl
found-of now begins r false not = rw not refl

pub found-first : (now : ℕ) (p : Position) (bytes : List ℕ) → found now p.begins (whole_of (after p.reading bytes)) ≡ first_of now p bytes
found-first now p bytes = found-of now p.begins (after p.reading bytes) (is_whole (after p.reading bytes)) refl

-- Bytes begin a record that is too long.
pub first-too_long : (now : ℕ) (p : Position) (bytes : List ℕ) (fault : RpcFault) (old : Standing) → (after p.reading bytes).stage ≡ Faulty fault
    → TooLong (BadFrame p.begins) (first_of now p bytes) (behind p bytes) old old
first-too_long now p bytes fault old faulty =
    let r = after p.reading bytes in
    let not : is_whole r ≡ false = ap is_whole_at faulty in
    let is : is_faulty r ≡ true = ap is_faulty_at faulty in
    record {
      takes = rw not (takes-none old);
      faulty = rw not is;
      end_is = rw not refl;
    }

-- Bytes begin a record that is too long, or for which there is no memory.
pub first-faulty : (now : ℕ) (p : Position) (bytes : List ℕ) (fault : RpcFault) → IsFaultIn p.reading bytes fault
    → (old : Standing) → Cuts (end_of_fault fault p.begins) (first_of now p bytes) (behind p bytes) old old
first-faulty now p bytes (too_long place) is old = inl (first-too_long now p bytes (too_long place) old is)
first-faulty now p bytes out_of_memory is old = inr (quiet (first_of now p bytes) old old refl)

-- what taking the record came to ended it
pub first-ends : (now : ℕ) (p : Position) (bytes : List ℕ) (end : RecvEnd) (old new : Standing)
    → Finds (Some end) now p.begins (whole_of (after p.reading bytes)) old new → Cuts end (first_of now p bytes) (behind p bytes) old new
first-ends now p bytes end old new finds = inr (subst (λ (xs : List Arrival). StopsBy end xs old new) (found-first now p bytes) finds)

-- `next` leaves no complete record
next-ready_of : (r : Reading) (b : Bool) → is_whole r ≡ b → is_whole (next_of r) ≡ false
next-ready_of r true whole = rw whole refl
next-ready_of r false not = rw not not

pub next-ready : (r : Reading) → is_whole (next_of r) ≡ false
next-ready r = next-ready_of r (is_whole r) refl

next-sound_of : (r : Reading) (b : Bool) → is_whole r ≡ b → is_faulty r ≡ false → is_faulty (next_of r) ≡ false
next-sound_of r true whole sound = rw whole refl
next-sound_of r false not sound = rw not sound

pub next-sound : (r : Reading) → is_faulty r ≡ false → is_faulty (next_of r) ≡ false
next-sound r sound = next-sound_of r (is_whole r) refl sound

-- ---- a record that lies whole in the bytes

pub record LiesIn (p : Position) (bytes content : List ℕ) (n : ℕ) : Type 0 where
  pub whole : whole_of (after p.reading bytes) ≡ Some content
  pub count : n ≡ bytes_taken p.reading bytes
  pub most : n ≤ length bytes
  pub some : 0 < n
  pub stays : next_of (after p.reading bytes) ≡ p.reading

no_content : (content : List ℕ) → None ≡ Some content → ⊥
no_content content e = cc

has_content : (r : Reading) (b : Bool) (content : List ℕ) → is_whole r ≡ b → whole_of r ≡ Some content → is_whole r ≡ true
has_content r true content whole is = whole
has_content r false content not is =
    let none : whole_of r ≡ None = rw not refl in
    absurd (no_content content (sym none ∙ is))

-- where a reader stands behind it
abbrev pub passed-in_place : Position → ℕ → Position
passed-in_place p n = record { reading = p.reading; begins = p.came + n; came = p.came + n }

reads-in_place : (p : Position) (bytes content : List ℕ) (n : ℕ) → LiesIn p bytes content n → Reads p bytes n (passed-in_place p n)
reads-in_place p bytes content n lies =
    let r = after p.reading bytes in
    let whole : is_whole r ≡ true = has_content r (is_whole r) content refl lies.whole in
    let next : next_of r ≡ begun r.limit = rw whole refl in
    let begins : p.reading ≡ begun r.limit = sym lies.stays ∙ next in
    record {
      count = lies.count;
      some = lies.some;
      most = lies.most;
      hand_is = ap (λ (s : Reading). record { reading = s; begins = p.came + n; came = p.came + n }) begins ∙ rw (whole, lies.count) refl;
      sound = ap is_faulty begins;
    }

-- what taking it came to
pub first-in_place : (now : ℕ) (p : Position) (bytes content : List ℕ) (n : ℕ) (end : Option RecvEnd) (old new : Standing) → LiesIn p bytes content n
    → Finds end now p.begins (Some content) old new → Turns (turned n end) now bytes p (passed-in_place p n) old new
first-in_place now p bytes content n None old new lies finds =
    let same : found now p.begins (Some content) ≡ first_of now p bytes = ap (found now p.begins) (sym lies.whole) ∙ found-first now p bytes in
    record { reads = reads-in_place p bytes content n lies; takes = subst (λ (xs : List Arrival). TakesAll xs old new) same finds }
first-in_place now p bytes content n (Some end) old new lies finds =
    first-ends now p bytes end old new (subst (λ (o : Option (List ℕ)). Finds (Some end) now p.begins o old new) (sym lies.whole) finds)
