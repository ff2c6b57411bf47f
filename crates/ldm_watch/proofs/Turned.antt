-- The turns of a session, and its beginning, by what their calls ensure.
use Rattle.std.proofs.Common.{◌≡◌, ℕ, ◌+◌, ◌-◌, ◌<◌, ◌≤◌, min, Bool, true, false, List, [], ◌∷◌, ◌++◌, length, take, Option, Some, None, IfSome, IfNone, inl, inr, refl, ap, sym, subst, ◌∙◌, arith}
use Rattle.std.specs.Option.{ForSome}
use Rattle.std.proofs.lemmas.List.{append-nil, length-take, take-take, take-append-le}
use Rattle.ldm_outside.specs.declared.io.Got.TheVariants.{Bytes, End, Failed}
use Rattle.ldm_outside.specs.Io.{SinkRecord, Takes as TakesBytes}
use Rattle.ldm_outside.specs.Link.{LinkRecord, RecvGives}
use Rattle.ldm_outside.proofs.CallerLemmas.{Rose-later, Takes-nothing}
use Rattle.ldm_relay.specs.Sent as sent
use Rattle.ldm_rpc.specs.Reading.{is_faulty}
use Rattle.ldm_rpc.specs.Streams.{Position}
use Rattle.ldm_session.specs.Exchange.{Exchanged}
use Rattle.ldm_session.proofs.CallerLemmas.{Exchanged-gave, Exchanged-nothing, Exchanged-still}
use Rattle.ldm_relay.specs.Spelling.{records_of}
use Rattle.ldm_watch.specs.declared.end.WatchEnd.{WatchEnd}
use Rattle.ldm_watch.specs.declared.end.WatchEnd.TheVariants.{Ended, Counted, Truncated, BadFrame, Refused, LinkFault, SinkFault, StreamLimit, OutOfMemory}
use Rattle.ldm_session.specs.declared.limits.TheConstants.{LONGEST_STREAM}
use Rattle.ldm_watch.specs.declared.watching.Phase.{Phase}
use Rattle.ldm_watch.specs.declared.watching.Phase.TheVariants.{Asked}
use Rattle.ldm_watch.specs.declared.watching.Watching.{Watching}
use Rattle.ldm_watch.specs.Notices.{notice_lines}
use Rattle.ldm_watch.specs.Outside.{WatchRecord, KeepsWatchCounts}
use Rattle.ldm_watch.specs.Sessions.{HasGiven, Rounds, RunsOn, Writes, WritesAt, WritesLast}
use Rattle.ldm_watch.specs.StreamView.{StreamView}
use Rattle.ldm_watch.specs.Taking.{Standing}
use Rattle.ldm_watch.specs.Sought.{Sought, sought_by}
use Rattle.ldm_watch.specs.Told.{at_stream_end, beginning, hand, is_edge, told, within}
use Rattle.ldm_watch.specs.Turns.{EndsIn, TakesPiece}
use Rattle.ldm_watch.specs.Watched.{Watched, opening}
use Rattle.ldm_watch.specs.Watches.{Cause, WatchHasEnded, Watches, sends_all, writes_all}
use Rattle.ldm_session.specs.Part.{IsPart}
use Rattle.ldm_watch.proofs.Fed.{came-behind, goes-on, hand-none, none-behind, taken_of, told-none}
use Rattle.ldm_watch.proofs.Rounds.{here, kept-then, part-of, round-failed, round-memory, round-on, round-over}

-- ---- a piece

-- there are more bytes in front of what is in hand
pub moves : (piece : List ℕ) (p q : Position) (a b : Standing) → 0 < length piece → TakesPiece piece p q a b → p.came < q.came
moves piece p q a b some takes =
    let below = (goes-on q takes.goes_on).below in
    let came = ap (λ (v : Position). v.came) takes.hand_is ∙ came-behind p (within p piece) in
    let len = length-take (LONGEST_STREAM - p.came) piece in
    omega (arith, below, came, len, some)

module _ (sought : Sought) (some : ForSome sought.count (λ n. 0 < n)) (old : WatchRecord) (stream : StreamView) (begins mid : WatchRecord)
    (runs : RunsOn sought old stream begins) (bytes piece out lines : List ℕ) (same : bytes ≡ piece) (no_out : out ≡ []) (no_lines : lines ≡ [])
    (given : HasGiven piece begins mid) where
  abbrev before : Standing
  before = record { watching = stream.watching; out = out; lines = lines }

  takes-here : (q : Position) (b : Standing) → TakesPiece bytes stream.hand q before b → TakesPiece piece (hand runs.given) q before b
  takes-here q b takes =
      let P : List ℕ → Type 0 = λ xs. TakesPiece xs stream.hand q before b in
      let Q : Position → Type 0 = λ p. TakesPiece piece p q before b in
      subst Q runs.hand_is (subst P same takes)

  ends-here : (end : WatchEnd) (b : Standing) → EndsIn end bytes stream.hand before b → EndsIn end piece (hand runs.given) before b
  ends-here end b ends =
      let P : List ℕ → Type 0 = λ xs. EndsIn end xs stream.hand before b in
      let Q : Position → Type 0 = λ p. EndsIn end piece p before b in
      subst Q runs.hand_is (subst P same ends)

  abbrev so_far : Watched
  so_far = taken_of sought runs.given

  -- all of it was taken
  pub take-on : (q : Position) (b : Standing) (new : StreamView) (result : Option WatchEnd) (after : WatchRecord) → TakesPiece bytes stream.hand q before b
      → new ≡ record { watching = b.watching; hand = q } → WritesAt result b.out b.lines mid after → KeepsWatchCounts mid after → Rounds result sought old new after
  take-on q b new None after takes new_is writes kept =
      let there = takes-here q b takes in
      let is = there.takes so_far (records_of so_far.owed) (notice_lines sought.form so_far.notices) (here sought some old stream begins runs out lines no_out no_lines) in
      subst (λ (v : StreamView). RunsOn sought old v after) (sym new_is)
      (round-on sought some old stream begins runs piece mid given None b is after q refl there.hand_is there.goes_on writes kept)
  take-on q b new (Some fault) after takes new_is writes kept =
      let there = takes-here q b takes in
      let is = there.takes so_far (records_of so_far.owed) (notice_lines sought.form so_far.notices) (here sought some old stream begins runs out lines no_out no_lines) in
      round-failed sought some old stream begins runs piece mid given None b is after fault writes

  -- it ended so
  pub take-over : (end result : WatchEnd) (b : Standing) (after : WatchRecord) → EndsIn end bytes stream.hand before b → WritesLast result end b.out b.lines mid after
      → Watches result sought old after
  take-over end result b after ends (inr fails) =
      let there = ends-here end b ends in
      let is = there.takes so_far (records_of so_far.owed) (notice_lines sought.form so_far.notices) (here sought some old stream begins runs out lines no_out no_lines) in
      round-failed sought some old stream begins runs piece mid given there.by_record b is after result fails
  take-over end result b after ends (inl done) =
      let there = ends-here end b ends in
      let is = there.takes so_far (records_of so_far.owed) (notice_lines sought.form so_far.notices) (here sought some old stream begins runs out lines no_out no_lines) in
      subst (λ (e : WatchEnd). Watches e sought old after) (sym done.0)
      (round-over sought some old stream begins runs piece mid given there.by_record b is after end there.end_is done.1)

-- ---- what the link gave

pub gave-given : (n : ℕ) (into : List ℕ) (old new : WatchRecord) → RecvGives (Bytes n) into old.link new.link → new.sink ≡ old.sink → HasGiven (take n into) old new
gave-given n into old new gives sink = record {
  exchanged = Exchanged-gave old.link new.link (take n into) gives.2;
  faults = ap (λ (l : LinkRecord). l.faults) gives.2.1;
  ends = ap (λ (l : LinkRecord). l.ends) gives.2.1;
  sink = sink;
}

-- what came stands at the front of the buffer
pub take-into : (n len : ℕ) (into rest : List ℕ) → n ≤ len → n ≤ length into → take n (take len (into ++ rest)) ≡ take n into
take-into n len into rest in_len came = take-take n len (into ++ rest) in_len ∙ take-append-le n into rest came

cause-edge : (p : Position) (phase : Phase) (edge : Bool) → is_edge p phase ≡ edge → (count : Option ℕ) (given : List ℕ) (t : Watched) (old new : WatchRecord) → t.end ≡ None
    → at_stream_end p phase ≡ at_stream_end (hand given) t.watching.phase → WatchHasEnded old new → Cause (at_stream_end p phase) count given t old new
cause-edge p phase true edge count given t old new none same ended =
    let is : Ended ≡ at_stream_end (hand given) t.watching.phase = sym (rw edge refl) ∙ same in
    rw edge ((none, is), ended)
cause-edge p phase false edge count given t old new none same ended =
    let is : Truncated p.came ≡ at_stream_end (hand given) t.watching.phase = sym (rw edge refl) ∙ same in
    rw edge ((none, is), ended)

module _ (sought : Sought) (old : WatchRecord) (stream : StreamView) (begins now : WatchRecord)
    (runs : RunsOn sought old stream begins) (sink : now.sink ≡ begins.sink) where
  abbrev all : Watched
  all = told sought runs.given

  written-still : TakesBytes old.sink (notice_lines sought.form all.notices) now.sink
  written-still = subst (λ (s : SinkRecord). TakesBytes old.sink (notice_lines sought.form all.notices) s) (sym sink) runs.written

  -- the stream ended
  pub turn-ended : (into : List ℕ) → RecvGives End into begins.link now.link → Watches (at_stream_end stream.hand stream.watching.phase) sought old now
  turn-ended into gives =
      let left : now.link.left ≡ begins.link.left = ap (λ (l : LinkRecord). l.left) gives.2 in
      let end = at_stream_end stream.hand stream.watching.phase in
      let same : end ≡ at_stream_end (hand runs.given) all.watching.phase =
      ap (λ (p : Position). at_stream_end p stream.watching.phase) runs.hand_is ∙ ap (λ (w : Watching). at_stream_end (hand runs.given) w.phase) runs.watching_is in
      let ended : WatchHasEnded old now = (
        Rose-later old.link.ends begins.link.ends now.link.ends runs.kept.ends gives.0,
        subst (λ (o : Option (List ℕ)). IfSome o (λ rest. rest ≡ [])) (sym left) gives.1,
      ) in
      record {
        given = runs.given;
        sent = records_of all.owed;
        lines = notice_lines sought.form all.notices;
        exchanged = Exchanged-still old.link begins.link now.link _ runs.given runs.exchanged (ap (λ (l : LinkRecord). l.passed) gives.2) left;
        written = written-still;
        sent_is = part-of (sends_all end) _ _ refl;
        lines_are = part-of (writes_all end) _ _ refl;
        cause = cause-edge stream.hand stream.watching.phase (is_edge stream.hand stream.watching.phase) refl sought.count runs.given all old now runs.goes_on same ended;
      }

  -- the link failed
  pub turn-failed : (into : List ℕ) → RecvGives Failed into begins.link now.link → Watches LinkFault sought old now
  turn-failed into gives = record {
    given = runs.given;
    sent = records_of all.owed;
    lines = notice_lines sought.form all.notices;
    exchanged = Exchanged-still old.link begins.link now.link _ runs.given runs.exchanged (ap (λ (l : LinkRecord). l.passed) gives.1) (ap (λ (l : LinkRecord). l.left) gives.1);
    written = written-still;
    sent_is = ([], append-nil (records_of all.owed));
    lines_are = ([], append-nil (notice_lines sought.form all.notices));
    cause = Rose-later old.link.faults begins.link.faults now.link.faults runs.kept.link gives.0;
  }

-- ---- the request

module _ (sought : Sought) (out lines : List ℕ) (owed : out ≡ records_of (sent.Notifyme 1 sought.class ∷ [])) (no_lines : lines ≡ []) (old new : WatchRecord) where
  owed-is : out ≡ records_of (told sought []).owed
  owed-is = owed ∙ ap (λ (t : Watched). records_of t.owed) (sym (told-none sought))

  told-is : lines ≡ notice_lines sought.form (told sought []).notices
  told-is = no_lines ∙ ap (λ (t : Watched). notice_lines sought.form t.notices) (sym (told-none sought))

  -- it was not sent
  pub request-failed : (fault : WatchEnd) → WritesAt (Some fault) out lines old new → Watches fault sought old new
  request-failed LinkFault fails = record {
    given = [];
    sent = fails.sent;
    lines = [];
    exchanged = fails.writes.exchanged;
    written = fails.writes.written;
    sent_is = (fails.rest, fails.all ∙ owed-is);
    lines_are = (lines, told-is);
    cause = fails.rose;
  }
  request-failed SinkFault fails = record {
    given = [];
    sent = out;
    lines = fails.front;
    exchanged = fails.writes.exchanged;
    written = fails.writes.written;
    sent_is = owed-is;
    lines_are = (fails.rest, fails.all ∙ told-is);
    cause = fails.rose;
  }
  request-failed Ended fails = absurd fails
  request-failed Counted fails = absurd fails
  request-failed (Truncated at) fails = absurd fails
  request-failed (BadFrame at) fails = absurd fails
  request-failed (Refused answer) fails = absurd fails
  request-failed StreamLimit fails = absurd fails
  request-failed OutOfMemory fails = absurd fails

  -- it was sent
  pub request-sent : (stream : StreamView) → stream ≡ record { watching = (opening sought).watching; hand = beginning } → Writes out lines old new → KeepsWatchCounts old new
      → RunsOn sought old stream new
  request-sent stream stream_is writes kept = record {
    given = [];
    exchanged = subst (λ (xs : List ℕ). Exchanged old.link xs [] new.link) owed-is writes.exchanged;
    written = subst (λ (xs : List ℕ). TakesBytes old.sink xs new.sink) told-is writes.written;
    goes_on = ap (λ (t : Watched). t.end) (told-none sought);
    watching_is = ap (λ (s : StreamView). s.watching) stream_is ∙ ap (λ (t : Watched). t.watching) (sym (told-none sought));
    hand_is = ap (λ (s : StreamView). s.hand) stream_is ∙ sym hand-none;
    kept = kept;
  }

-- there is no memory to begin with
pub none-watched : (sought : Sought) (outside : WatchRecord) → Watches OutOfMemory sought outside outside
none-watched sought outside = record {
  given = [];
  sent = [];
  lines = [];
  exchanged = Exchanged-nothing outside.link outside.link refl refl;
  written = Takes-nothing outside.sink outside.sink refl;
  sent_is = (records_of (told sought []).owed, refl);
  lines_are = (notice_lines sought.form (told sought []).notices, refl);
  cause = tt;
}

-- what is in hand where it runs on
pub sound-of : (sought : Sought) (old : WatchRecord) (stream : StreamView) (now : WatchRecord) → RunsOn sought old stream now
    → is_faulty stream.hand.reading ≡ false
sound-of sought old stream now runs =
    let t = taken_of sought runs.given in
    ap (λ (p : Position). is_faulty p.reading) runs.hand_is ∙ (goes-on (hand runs.given) (none-behind (hand runs.given) t.end runs.goes_on).1).sound

pub below-of : (sought : Sought) (old : WatchRecord) (stream : StreamView) (now : WatchRecord) → RunsOn sought old stream now
    → stream.hand.came < LONGEST_STREAM
below-of sought old stream now runs =
    let t = taken_of sought runs.given in
    let below = (goes-on (hand runs.given) (none-behind (hand runs.given) t.end runs.goes_on).1).below in
    let same = ap (λ (p : Position). p.came) runs.hand_is in
    omega (arith, below, same)

pub if-none : {P : Type 0} (o : Option WatchEnd) → P → IfNone o P
if-none None fact = fact
if-none (Some end) fact = tt

pub stands-at : (stream : StreamView) → stream.hand ≡ beginning → stream.watching.phase ≡ Asked false
    → stream ≡ record { watching = (opening (sought_by stream.watching)).watching; hand = beginning }
stands-at stream hand_is phase_is =
    ap (λ (p : Position). record stream { hand = p }) hand_is
    ∙ ap (λ (p : Phase). record { watching = record stream.watching { phase = p }; hand = beginning }) phase_is
