-- The turns of receiving over a link, by what their calls ensure.
use Rattle.std.proofs.Common.{◌≡◌, ℕ, ◌≤◌, List, [], ◌++◌, length, take, Option, Some, None, refl, ap, sym, subst, ◌∙◌, arith}
use Rattle.std.specs.Prelude.{IfSome}
use Rattle.std.proofs.lemmas.List.{append-nil, length-take, take-take, take-append-le}
use Rattle.ldm_rpc.specs.Streams.{Position}
use Rattle.ldm_outside.specs.declared.io.Got.TheVariants.{Bytes, End, Failed}
use Rattle.ldm_outside.specs.declared.link.Way.TheVariants as way
use Rattle.ldm_outside.specs.Clock.{ClockRecord, Answers}
use Rattle.ldm_outside.specs.Gate.{GateRecord}
use Rattle.ldm_outside.specs.Io.{SinkRecord}
use Rattle.ldm_outside.specs.Link.{LinkRecord, RecvGives}
use Rattle.ldm_outside.specs.Session.{SessionRecord, KeepsFaults}
use Rattle.ldm_shared.specs.Passes.{PassView, IsSamePass}
use Rattle.ldm_session.proofs.CallerLemmas.{Exchanged-gave, Exchanged-nothing, AnsweredAll-nothing}
use Rattle.ldm_session.specs.Exchange.{AnsweredAll}
use Rattle.ldm_intake.specs.declared.end.RecvEnd.{RecvEnd}
use Rattle.ldm_intake.specs.declared.end.RecvEnd.TheVariants.{Ended, Truncated, BadFrame, Refused, LinkFault, LogFault, StreamLimit, Worn, OutOfMemory}
use Rattle.ldm_intake.specs.Opening.{request_of}
use Rattle.ldm_intake.specs.Receiving.{Receiving}
use Rattle.ldm_relay.specs.Spelling.{records_of}
use Rattle.ldm_intake.specs.TakesRecord.{Standing, stands}
use Rattle.ldm_downstream.specs.declared.limits.TheConstants.{LONGEST_PIECE}
use Rattle.ldm_downstream.specs.Pieces.{Piece, beginning}
use Rattle.ldm_downstream.specs.ReceiverView.{ReceiverView}
use Rattle.ldm_downstream.specs.Received.{GoesOnAt, at_stream_end, end_by_bytes}
use Rattle.ldm_downstream.specs.Pushing.{Continues, Pushes, PushesAt, FailsAt, Finishes}
use Rattle.ldm_downstream.specs.Receives.{Passed, at_first}
use Rattle.ldm_downstream.specs.Sessions.{HasCome, Writes, WritesAt, Rounds, RunsOn, RunsOut, settled}
use Rattle.ldm_downstream.proofs.Ending.{continues-none}
use Rattle.ldm_downstream.proofs.InTurn.{passes-no-piece, passes-none, passes-sent}
use Rattle.ldm_downstream.proofs.Linked.{Passed-nothing, TakesBytes-nothing}
use Rattle.ldm_downstream.proofs.Rounds.{front-all, front-none, link_fault, log_fault, round-written, round-ended, round-unfed}
use Rattle.ldm_downstream.proofs.Written.{failed-round}

settled-at : (s : Receiving) (pass : PassView) (out notes : List ℕ) → out ≡ [] → notes ≡ [] → stands s pass out notes ≡ settled s pass
settled-at s pass out notes no_out no_notes = ap (λ (o : List ℕ). stands s pass o notes) no_out ∙ ap (λ (n : List ℕ). stands s pass [] n) no_notes

live-pushes : (end : Option RecvEnd) (piece : Piece) (old new : ReceiverView) (a b : Standing) → end ≡ None → PushesAt end piece old new a b → Pushes new.end piece old.hand new.hand a b
live-pushes None piece old new a b live pushes = pushes.0
live-pushes (Some end) piece old new a b live pushes = absurd (cc live)

module _ (now : ℕ) (bytes : List ℕ) (old mid was : ReceiverView) (pass between : PassView) (out notes out2 notes2 ahead : List ℕ) (begins before later : SessionRecord)
    (live : old.end ≡ None) (no_out : out ≡ []) (no_notes : notes ≡ [])
    (pushed : PushesAt old.end (record { now = now; bytes = bytes }) old mid (stands old.receiving pass out notes) (stands mid.receiving between out2 notes2))
    (kept : was ≡ mid) (come : HasCome ahead (record { now = now; bytes = bytes }) begins before) (clock : later.clock ≡ before.clock) where
  piece-of : Piece
  piece-of = record { now = now; bytes = bytes }

  here : Pushes was.end piece-of old.hand was.hand (settled old.receiving pass) (stands was.receiving between out2 notes2)
  unfolding piece-of
  here =
      let P : ReceiverView → Type 0 = λ r. Pushes r.end (record { now = now; bytes = bytes }) old.hand r.hand (settled old.receiving pass) (stands r.receiving between out2 notes2) in
      let first = live-pushes old.end (record { now = now; bytes = bytes }) old mid (stands old.receiving pass out notes) (stands mid.receiving between out2 notes2) live pushed in
      let second = subst (λ (a : Standing). Pushes mid.end (record { now = now; bytes = bytes }) old.hand mid.hand a (stands mid.receiving between out2 notes2))
      (settled-at old.receiving pass out notes no_out no_notes) first in
      subst P (sym kept) second

  pub take-failed : (fault result : RecvEnd) (is_now : ReceiverView) (after : PassView) → WritesAt (Some fault) out2 notes2 before.link later.link before.log later.log
      → FailsAt was.end fault result was is_now between after → RunsOut result ahead is_now after old.hand (settled old.receiving pass) begins later
  unfolding piece-of
  take-failed fault result is_now after writes fails =
      failed-round fault was.end result ahead piece-of old.hand old.receiving pass (stands was.receiving between out2 notes2) was is_now after begins before later
      come clock writes refl here fails

  pub take-written : (result : Option RecvEnd) → result ≡ was.end → Writes out2 notes2 before.link later.link before.log later.log
      → Rounds result ahead was between old.hand (settled old.receiving pass) begins later
  unfolding piece-of
  take-written result is writes =
      round-written result ahead piece-of old.hand was between old.receiving pass (stands was.receiving between out2 notes2) begins before later (sym is) refl refl
      (subst (λ (e : Option RecvEnd). Pushes e piece-of old.hand was.hand (settled old.receiving pass) (stands was.receiving between out2 notes2)) (sym is) here)
      come clock writes

-- ---- what the link gave

pub piece-came : (n : ℕ) (into : List ℕ) (now : ℕ) (old new : SessionRecord) → n ≤ LONGEST_PIECE → RecvGives (Bytes n) into old.link new.link → new.log ≡ old.log
    → Answers now old.clock new.clock → HasCome [] (record { now = now; bytes = take n into }) old new
piece-came n into now old new few gives log answered = record {
  given = take n into;
  all = refl;
  few = omega (arith, length-take n into);
  gave = ap (λ (l : LinkRecord). l.passed) gives.2.1;
  exchanged = Exchanged-gave old.link new.link (take n into) gives.2;
  faults = ap (λ (l : LinkRecord). l.faults) gives.2.1;
  log = log;
  moment = answered;
}

-- all of a piece came ahead
pub all-ahead : (bytes : List ℕ) (now : ℕ) (old new : SessionRecord) → new.link ≡ old.link → new.log ≡ old.log → Answers now old.clock new.clock
    → HasCome bytes (record { now = now; bytes = bytes }) old new
all-ahead bytes now old new link log answered = record {
  given = [];
  all = sym (append-nil bytes);
  few = omega arith;
  gave = ap (λ (l : LinkRecord). l.passed) link ∙ passes-no-piece old.link;
  exchanged = Exchanged-nothing old.link new.link (ap (λ (l : LinkRecord). l.passed) link) (ap (λ (l : LinkRecord). l.left) link);
  faults = ap (λ (l : LinkRecord). l.faults) link;
  log = log;
  moment = answered;
}

-- nothing was sent and written
pub nothing-written : (now : SessionRecord) → Writes [] [] now.link now.link now.log now.log
nothing-written now = record {
  exchanged = Exchanged-nothing now.link now.link refl refl;
  sends = passes-none now.link;
  logged = TakesBytes-nothing now.log now.log refl;
}

-- what came stands at the front of the buffer
pub take-into : (n len : ℕ) (into rest : List ℕ) → n ≤ len → n ≤ length into → take n (take len (into ++ rest)) ≡ take n into
take-into n len into rest within came = take-take n len (into ++ rest) within ∙ take-append-le n into rest came

live-at : (p : Position) (end : Option RecvEnd) (a : Standing) → end ≡ None → GoesOnAt end p → Continues [] p p a a
live-at p end a live goes = continues-none p a (subst (λ (e : Option RecvEnd). GoesOnAt e p) live goes)

-- the stream ended
pub turn-ended : (into : List ℕ) (result : RecvEnd) (receiver is_now : ReceiverView) (pass after : PassView) (old new : SessionRecord) → RecvGives End into old.link new.link
    → new.log ≡ old.log → new.clock ≡ old.clock → receiver.end ≡ None → GoesOnAt receiver.end receiver.hand
    → Finishes (at_stream_end receiver.hand receiver.receiving) result receiver is_now pass after
    → RunsOut result [] is_now after receiver.hand (settled receiver.receiving pass) old new
turn-ended into result receiver is_now pass after old new gives log clock live goes finishes =
    let left : new.link.left ≡ old.link.left = ap (λ (l : LinkRecord). l.left) gives.2 in
    let a = settled receiver.receiving pass in
    round-ended receiver.hand receiver.receiving pass result is_now after old new (live-at receiver.hand receiver.end a live goes) finishes.closes
    (Passed-nothing old new (ap (λ (l : LinkRecord). l.passed) gives.2) left clock (ap (λ (s : SinkRecord). s.written) log))
    (gives.0, subst (λ (o : Option (List ℕ)). IfSome o (λ rest. rest ≡ [])) (sym left) gives.1)

-- the link failed
pub turn-failed : (into : List ℕ) (result : RecvEnd) (receiver is_now : ReceiverView) (pass after : PassView) (old new : SessionRecord) → RecvGives Failed into old.link new.link
    → new.log ≡ old.log → new.clock ≡ old.clock → receiver.end ≡ None → GoesOnAt receiver.end receiver.hand
    → FailsAt receiver.end LinkFault result receiver is_now pass after
    → RunsOut result [] is_now after receiver.hand (settled receiver.receiving pass) old new
turn-failed into result receiver is_now pass after old new gives log clock live goes fails =
    let a = settled receiver.receiving pass in
    round-unfed receiver.hand a LinkFault result receiver is_now after [] [] old new link_fault (λ x. live-at receiver.hand receiver.end x live goes) live refl
    (Passed-nothing old new (ap (λ (l : LinkRecord). l.passed) gives.1) (ap (λ (l : LinkRecord). l.left) gives.1) clock (ap (λ (s : SinkRecord). s.written) log))
    (front-none []) (front-none []) fails gives.0

-- ---- the request

unfoldable Passed-written : (sent lines : List ℕ) (old new : SessionRecord) → Writes sent lines old.link new.link old.log new.log → new.clock ≡ old.clock → Passed [] [] sent lines old new
Passed-written sent lines old new writes clock =
    let P : ClockRecord → Type 0 = λ c. AnsweredAll [] old.clock c in
    record {
      given = [];
      all = refl;
      exchanged = writes.exchanged;
      moments = subst P (sym clock) (AnsweredAll-nothing old.clock);
      logged = writes.logged;
      first = sent;
      rounds = [];
      pieces_are = refl;
      sent_is = sym (append-nil sent);
      in_rounds = passes-sent sent old.link new.link writes.sends;
    }

-- it was not sent
pub request-failed : (fault result : RecvEnd) (a : Standing) (was is_now : ReceiverView) (pass after : PassView) (old new : SessionRecord)
    → WritesAt (Some fault) a.out a.notes old.link new.link old.log new.log → new.clock ≡ old.clock → was.end ≡ None → GoesOnAt was.end was.hand → a.receiving ≡ was.receiving → a.pass ≡ pass
    → FailsAt was.end fault result was is_now pass after → RunsOut result [] is_now after was.hand a old new
request-failed LinkFault result a was is_now pass after old new writes clock live goes receiving pass_is fails =
    round-unfed was.hand a LinkFault result was is_now after writes.sent [] old new link_fault (λ x. live-at was.hand was.end x live goes) live receiving
    (Passed-written writes.sent [] old new writes.writes clock) writes.front (front-none a.notes)
    (subst (λ (v : PassView). FailsAt was.end LinkFault result was is_now v after) (sym pass_is) fails) writes.rose
request-failed LogFault result a was is_now pass after old new writes clock live goes receiving pass_is fails =
    round-unfed was.hand a LogFault result was is_now after a.out writes.lines old new log_fault (λ x. live-at was.hand was.end x live goes) live receiving
    (Passed-written a.out writes.lines old new writes.writes clock) (front-all a.out) writes.front
    (subst (λ (v : PassView). FailsAt was.end LogFault result was is_now v after) (sym pass_is) fails) writes.rose
request-failed Ended result a was is_now pass after old new writes clock live goes receiving pass_is fails = absurd writes
request-failed (Truncated at) result a was is_now pass after old new writes clock live goes receiving pass_is fails = absurd writes
request-failed (BadFrame at) result a was is_now pass after old new writes clock live goes receiving pass_is fails = absurd writes
request-failed (Refused answer) result a was is_now pass after old new writes clock live goes receiving pass_is fails = absurd writes
request-failed StreamLimit result a was is_now pass after old new writes clock live goes receiving pass_is fails = absurd writes
request-failed Worn result a was is_now pass after old new writes clock live goes receiving pass_is fails = absurd writes
request-failed OutOfMemory result a was is_now pass after old new writes clock live goes receiving pass_is fails = absurd writes

-- it was sent
pub request-sent : (a : Standing) (receiver : ReceiverView) (pass : PassView) (old new : SessionRecord) → Writes a.out a.notes old.link new.link old.log new.log → new.clock ≡ old.clock
    → receiver.end ≡ None → end_by_bytes receiver.hand ≡ None → a.receiving ≡ receiver.receiving → a.pass ≡ pass → RunsOn [] receiver pass receiver.hand a old new
unfolding Passed-written
request-sent a receiver pass old new writes clock live goes receiving pass_is = record {
  at = a;
  advances = record {
    pieces = [];
    continues = continues-none receiver.hand a goes;
    passed = Passed-written a.out a.notes old new writes clock;
    first_is = refl;
    in_turn = refl;
  };
  receiving = receiving;
  pass_is = pass_is;
  live = live;
}

-- ---- the whole

run-at : (first : ReceiverView) (pass : PassView) (out notes : List ℕ) → out ≡ records_of (request_of first.receiving) → notes ≡ []
    → stands first.receiving pass out notes ≡ at_first first.receiving pass
run-at first pass out notes owed no_notes =
    ap (λ (o : List ℕ). stands first.receiving pass o notes) owed
    ∙ ap (λ (n : List ℕ). stands first.receiving pass (records_of (request_of first.receiving)) n) no_notes

-- the request was not sent
pub run-failed : (fault result : RecvEnd) (first was is_now : ReceiverView) (pass after : PassView) (out notes : List ℕ) (old new : SessionRecord)
    → was ≡ first → first.hand ≡ beginning → first.end ≡ None → out ≡ records_of (request_of first.receiving) → notes ≡ []
    → WritesAt (Some fault) out notes old.link new.link old.log new.log → new.clock ≡ old.clock → GoesOnAt was.end was.hand → FailsAt was.end fault result was is_now pass after
    → RunsOut result [] is_now after beginning (at_first first.receiving pass) old new
run-failed fault result first was is_now pass after out notes old new same begins live owed no_notes writes clock goes fails =
    let there = request-failed fault result (stands first.receiving pass out notes) was is_now pass after old new writes clock
    (ap (λ (r : ReceiverView). r.end) same ∙ live) goes (sym (ap (λ (r : ReceiverView). r.receiving) same)) refl fails in
    let P : Position → Type 0 = λ p. RunsOut result [] is_now after p (stands first.receiving pass out notes) old new in
    let Q : Standing → Type 0 = λ a. RunsOut result [] is_now after beginning a old new in
    subst Q (run-at first pass out notes owed no_notes) (subst P (ap (λ (r : ReceiverView). r.hand) same ∙ begins) there)

-- the request was sent
pub run-sent : (first was : ReceiverView) (pass : PassView) (out notes : List ℕ) (old new : SessionRecord) → was ≡ first → first.hand ≡ beginning → first.end ≡ None
    → out ≡ records_of (request_of first.receiving) → notes ≡ [] → Writes out notes old.link new.link old.log new.log → new.clock ≡ old.clock
    → RunsOn [] was pass beginning (at_first first.receiving pass) old new
run-sent first was pass out notes old new same begins live owed no_notes writes clock =
    let hand_is : was.hand ≡ beginning = ap (λ (r : ReceiverView). r.hand) same ∙ begins in
    let there = request-sent (stands first.receiving pass out notes) was pass old new writes clock (ap (λ (r : ReceiverView). r.end) same ∙ live)
    (ap end_by_bytes hand_is) (sym (ap (λ (r : ReceiverView). r.receiving) same)) refl in
    let P : Position → Type 0 = λ p. RunsOn [] was pass p (stands first.receiving pass out notes) old new in
    let Q : Standing → Type 0 = λ a. RunsOn [] was pass beginning a old new in
    subst Q (run-at first pass out notes owed no_notes) (subst P hand_is there)

pub kept-then : (old mid new : SessionRecord) → KeepsFaults old mid → KeepsFaults mid new → KeepsFaults old new
kept-then old mid new one other = record {
  link = (let a = one.link in let b = other.link in omega arith);
  ends = (let a = one.ends in let b = other.ends in omega arith);
  log = (let a = one.log in let b = other.log in omega arith);
  stops = (let a = one.stops in let b = other.stops in omega arith);
}

-- no count fell
pub kept-by : (old new : SessionRecord) → old.link.faults ≤ new.link.faults → new.link.ends ≡ old.link.ends → old.log.faults ≤ new.log.faults → old.gate ≡ new.gate → KeepsFaults old new
kept-by old new link ends log gate = record {
  link = link;
  ends = omega (arith, ends);
  log = log;
  stops = let stops : old.gate.stops ≡ new.gate.stops = ap (λ (g : GateRecord). g.stops) gate in omega (arith, stops);
}

pub kept-none : (old new : SessionRecord) → new.link ≡ old.link → new.log ≡ old.log → new.gate ≡ old.gate → KeepsFaults old new
kept-none old new link log gate = record {
  link = let same : new.link.faults ≡ old.link.faults = ap (λ (l : LinkRecord). l.faults) link in omega (arith, same);
  ends = let same : new.link.ends ≡ old.link.ends = ap (λ (l : LinkRecord). l.ends) link in omega (arith, same);
  log = let same : new.log.faults ≡ old.log.faults = ap (λ (s : SinkRecord). s.faults) log in omega (arith, same);
  stops = let same : new.gate.stops ≡ old.gate.stops = ap (λ (g : GateRecord). g.stops) gate in omega (arith, same);
}

pub same-then : (old mid new : PassView) → IsSamePass old mid → IsSamePass mid new → IsSamePass old new
same-then old mid new one other = other ∙ ap (λ (p : PassView). record p { seen = new.seen }) one
