-- A turn of watching over a link, by what its calls ensure.
use Rattle.std.proofs.Common.{◌≡◌, ℕ, ◌<◌, ◌≤◌, Bool, true, false, List, [], ◌++◌, length, take, Option, Some, None, IfSome, inl, inr, refl, ap, sym, subst, ◌∙◌, append_assoc, arith}
use Rattle.std.specs.Option.{ForSome, option_map}
use Rattle.std.proofs.lemmas.List.{append-nil, take-take, take-append-le}
use Rattle.std.proofs.lemmas.List.Concat.{flat_map-append}
use Rattle.ldm_types.specs.Info.{Metadata}
use Rattle.ldm_outside.specs.declared.io.Got.TheVariants.{Bytes, End, Failed}
use Rattle.ldm_outside.specs.Count.{Rose}
use Rattle.ldm_outside.specs.Io.{SinkRecord, Takes as TakesBytes}
use Rattle.ldm_outside.specs.Link.{LinkRecord, RecvGives}
use Rattle.ldm_outside.proofs.CallerLemmas.{Rose-later, Takes-then, Takes-nothing}
use Rattle.ldm_relay.specs.Sent.{Sent}
use Rattle.ldm_relay.specs.Spelling.{record_of, written as spelling_of, records_of}
use Rattle.ldm_rpc.specs.Streams.{Position, Placed, records_in, in_hand}
use Rattle.ldm_session.specs.Exchange.{Exchanged}
use Rattle.ldm_session.proofs.CallerLemmas.{Exchanged-gave, Exchanged-nothing, Exchanged-same, Exchanged-still, Exchanged-then_given, Exchanged-then_sent}
use Rattle.ldm_watch.specs.declared.end.WatchEnd.{WatchEnd}
use Rattle.ldm_watch.specs.declared.end.WatchEnd.TheVariants.{Ended, Counted, Truncated, BadFrame, Refused, LinkFault, SinkFault, StreamLimit, OutOfMemory}
use Rattle.ldm_watch.specs.declared.form.NoticeForm.{NoticeForm}
use Rattle.ldm_watch.specs.declared.stop.Stop.TheVariants.{Over}
use Rattle.ldm_watch.specs.Notices.{notice_line, notice_lines}
use Rattle.ldm_watch.specs.Outside.{WatchRecord, KeepsWatchCounts}
use Rattle.ldm_watch.specs.Sessions.{FailsToSend, FailsToWrite, HasGiven, Rounds, RunsOn, Writes, WritesAt, WritesLast}
use Rattle.ldm_watch.specs.StreamView.{StreamView}
use Rattle.ldm_watch.specs.Taking.{Standing, IsAt}
use Rattle.ldm_watch.specs.Sought.{Sought}
use Rattle.ldm_watch.specs.Told.{at_stream_end, end_behind, end_by_bytes, hand, is_edge, told, within}
use Rattle.ldm_watch.specs.Turns.{EndsIn, TakesPiece}
use Rattle.ldm_watch.specs.Watched.{Watched, watched}
use Rattle.ldm_watch.specs.Watches.{Cause, WatchHasEnded, Watches, sends_all, writes_all}
use Rattle.ldm_session.specs.Part.{IsPart}
use Rattle.ldm_watch.proofs.Counting.{IsMade, IsMore, hand-made, taken-made, watched-more}
use Rattle.ldm_watch.proofs.Fed.{form-of, hand-more, none-behind, taken-more, taken_of}

-- ---- parts, counts and causes

pub part-of : (whole : Bool) (part all : List ℕ) → part ≡ all → IsPart whole part all
part-of true part all is = is
part-of false part all is = ([], append-nil part ∙ is)

front-of : (part rest more all : List ℕ) → part ++ rest ≡ all → (before : List ℕ) → before ++ all ≡ more → IsPart false (before ++ part) more
front-of part rest more all is before all_is = (rest, append_assoc before part rest ∙ ap (λ (xs : List ℕ). before ++ xs) is ∙ all_is)

pub kept-then : (old mid new : WatchRecord) → KeepsWatchCounts old mid → KeepsWatchCounts mid new → KeepsWatchCounts old new
kept-then old mid new one other = record {
  link = (let a = one.link in let b = other.link in omega arith);
  ends = (let a = one.ends in let b = other.ends in omega arith);
  sink = (let a = one.sink in let b = other.sink in omega arith);
}

kept-given : (bytes : List ℕ) (old now : WatchRecord) → HasGiven bytes old now → KeepsWatchCounts old now
kept-given bytes old now given = record {
  link = (let a = given.faults in omega arith);
  ends = (let a = given.ends in omega arith);
  sink = (let a = ap (λ (s : SinkRecord). s.faults) given.sink in omega arith);
}

-- an end that the bytes made
cause-made : (end : WatchEnd) (count left : Option ℕ) (given : List ℕ) (t : Watched) (old new : WatchRecord) → t.end ≡ Some end → IsMade (Some end) count left (length t.notices)
    → Cause end count given t old new
cause-made Counted count left given t old new is made = (is, made)
cause-made (BadFrame at) count left given t old new is made = is
cause-made (Refused answer) count left given t old new is made = is
cause-made StreamLimit count left given t old new is made = is
cause-made Ended count left given t old new is made = absurd made
cause-made (Truncated at) count left given t old new is made = absurd made
cause-made LinkFault count left given t old new is made = absurd made
cause-made SinkFault count left given t old new is made = absurd made
cause-made OutOfMemory count left given t old new is made = absurd made

cause-told : (sought : Sought) (given : List ℕ) (end : WatchEnd) (old new : WatchRecord) → ForSome sought.count (λ n. 0 < n) → (told sought given).end ≡ Some end
    → Cause end sought.count given (told sought given) old new
cause-told sought given end old new some is =
    let t = taken_of sought given in
    let made = hand-made (hand given) t.end sought.count t.watching.left (length t.notices) (taken-made sought _ some) in
    cause-made end sought.count t.watching.left given (told sought given) old new is
    (subst (λ (e : Option WatchEnd). IsMade e sought.count t.watching.left (length t.notices)) is made)

-- ---- a piece

module _ (sought : Sought) (some : ForSome sought.count (λ n. 0 < n)) (old : WatchRecord) (stream : StreamView) (begins : WatchRecord)
    (runs : RunsOn sought old stream begins) where
  abbrev so_far : Watched
  so_far = taken_of sought runs.given

  goes : (so_far.end ≡ None) × (end_by_bytes (hand runs.given) ≡ None)
  goes = none-behind (hand runs.given) so_far.end runs.goes_on

  pub here : (out lines : List ℕ) → out ≡ [] → lines ≡ [] → IsAt so_far None (records_of so_far.owed) (notice_lines sought.form so_far.notices)
      (record { watching = stream.watching; out = out; lines = lines })
  here out lines no_out no_lines = record {
    end_is = goes.0;
    watching_is = runs.watching_is;
    owed = ap (λ (xs : List ℕ). records_of so_far.owed ++ xs) no_out ∙ append-nil (records_of so_far.owed);
    told = ap (λ (xs : List ℕ). notice_lines sought.form so_far.notices ++ xs) no_lines ∙ append-nil (notice_lines sought.form so_far.notices)
        ∙ ap (λ (form : NoticeForm). notice_lines form so_far.notices) (sym (form-of sought runs.given));
  }

  module _ (piece : List ℕ) (mid : WatchRecord) (given : HasGiven piece begins mid) where
    abbrev all : List ℕ
    all = runs.given ++ piece

    abbrev more : Watched
    more = watched so_far (records_in (hand runs.given) (within (hand runs.given) piece))

    more-is : taken_of sought all ≡ more
    more-is = taken-more runs.given goes.1 piece sought

    hand-is : hand all ≡ in_hand (hand runs.given) (within (hand runs.given) piece)
    hand-is = hand-more runs.given goes.1 piece

    exchanged-given : Exchanged old.link (records_of so_far.owed) all mid.link
    exchanged-given = Exchanged-then_given old.link begins.link mid.link (records_of so_far.owed) runs.given piece runs.exchanged given.exchanged

    written-given : TakesBytes old.sink (notice_lines sought.form so_far.notices) mid.sink
    written-given = subst (λ (s : SinkRecord). TakesBytes old.sink (notice_lines sought.form so_far.notices) s) (sym given.sink) runs.written

    kept-mid : KeepsWatchCounts old mid
    kept-mid = kept-then old begins mid runs.kept (kept-given piece begins mid given)

    -- there is no memory
    pub round-memory : Watches OutOfMemory sought old mid
    round-memory =
        let later = watched-more so_far (records_in (hand runs.given) (within (hand runs.given) piece)) in
        let m : Sent → List ℕ = λ (m : Sent). record_of (spelling_of m) in
        record {
          given = all;
          sent = records_of so_far.owed;
          lines = notice_lines sought.form so_far.notices;
          exchanged = exchanged-given;
          written = written-given;
          sent_is = (
            records_of later.owed,
            sym (flat_map-append m so_far.owed later.owed) ∙ ap records_of (sym later.owed_is) ∙ ap (λ (t : Watched). records_of t.owed) (sym more-is),
          );
          lines_are = (
            notice_lines sought.form later.notices,
            sym (flat_map-append (notice_line sought.form) so_far.notices later.notices) ∙ ap (notice_lines sought.form) (sym later.notices_are)
                ∙ ap (λ (t : Watched). notice_lines sought.form t.notices) (sym more-is),
          );
          cause = tt;
        }

    -- what the piece made was taken
    module _ (by : Option WatchEnd) (b : Standing) (is : IsAt more by (records_of so_far.owed) (notice_lines sought.form so_far.notices) b) (after : WatchRecord) where
      owed-is : records_of so_far.owed ++ b.out ≡ records_of (told sought all).owed
      owed-is = is.owed ∙ ap (λ (t : Watched). records_of t.owed) (sym more-is)

      told-is : notice_lines sought.form so_far.notices ++ b.lines ≡ notice_lines sought.form (told sought all).notices
      told-is = is.told ∙ ap (λ (form : NoticeForm). notice_lines form more.notices) (ap (λ (t : Watched). t.watching.form) (sym more-is) ∙ form-of sought all)
          ∙ ap (λ (t : Watched). notice_lines sought.form t.notices) (sym more-is)

      end-is : (told sought all).end ≡ end_behind (in_hand (hand runs.given) (within (hand runs.given) piece)) by
      end-is =
          ap (λ (t : Watched). end_behind (hand all) t.end) more-is ∙ ap (end_behind (hand all)) is.end_is
          ∙ ap (λ (p : Position). end_behind p by) hand-is

      exchanged-sent : (sent : List ℕ) → Exchanged mid.link sent [] after.link → Exchanged old.link (records_of so_far.owed ++ sent) all after.link
      exchanged-sent sent exchanged = Exchanged-then_sent old.link mid.link after.link (records_of so_far.owed) all sent exchanged-given exchanged

      written-more : (lines : List ℕ) → TakesBytes mid.sink lines after.sink → TakesBytes old.sink (notice_lines sought.form so_far.notices ++ lines) after.sink
      written-more lines written = Takes-then old.sink mid.sink after.sink (notice_lines sought.form so_far.notices) lines written-given written

      -- it ended so, and all was written
      pub round-over : (end : WatchEnd) → end_behind (in_hand (hand runs.given) (within (hand runs.given) piece)) by ≡ Some end → Writes b.out b.lines mid after
          → Watches end sought old after
      round-over end ended writes = record {
        given = all;
        sent = records_of so_far.owed ++ b.out;
        lines = notice_lines sought.form so_far.notices ++ b.lines;
        exchanged = exchanged-sent b.out writes.exchanged;
        written = written-more b.lines writes.written;
        sent_is = part-of (sends_all end) _ _ owed-is;
        lines_are = part-of (writes_all end) _ _ told-is;
        cause = cause-told sought all end old after some (end-is ∙ ended);
      }

      -- the link or the sink failed
      pub round-failed : (fault : WatchEnd) → WritesAt (Some fault) b.out b.lines mid after → Watches fault sought old after
      round-failed LinkFault fails = record {
        given = all;
        sent = records_of so_far.owed ++ fails.sent;
        lines = notice_lines sought.form so_far.notices ++ [];
        exchanged = exchanged-sent fails.sent fails.writes.exchanged;
        written = written-more [] fails.writes.written;
        sent_is = front-of fails.sent fails.rest _ b.out fails.all (records_of so_far.owed) owed-is;
        lines_are = front-of [] b.lines _ b.lines refl (notice_lines sought.form so_far.notices) told-is;
        cause = Rose-later old.link.faults mid.link.faults after.link.faults kept-mid.link fails.rose;
      }
      round-failed SinkFault fails = record {
        given = all;
        sent = records_of so_far.owed ++ b.out;
        lines = notice_lines sought.form so_far.notices ++ fails.front;
        exchanged = exchanged-sent b.out fails.writes.exchanged;
        written = written-more fails.front fails.writes.written;
        sent_is = owed-is;
        lines_are = front-of fails.front fails.rest _ b.lines fails.all (notice_lines sought.form so_far.notices) told-is;
        cause = Rose-later old.sink.faults mid.sink.faults after.sink.faults kept-mid.sink fails.rose;
      }
      round-failed Ended fails = absurd fails
      round-failed Counted fails = absurd fails
      round-failed (Truncated at) fails = absurd fails
      round-failed (BadFrame at) fails = absurd fails
      round-failed (Refused answer) fails = absurd fails
      round-failed StreamLimit fails = absurd fails
      round-failed OutOfMemory fails = absurd fails

      -- it goes on, and all was written
      pub round-on : (q : Position) → by ≡ None → q ≡ in_hand (hand runs.given) (within (hand runs.given) piece) → end_by_bytes q ≡ None → Writes b.out b.lines mid after
          → KeepsWatchCounts mid after → RunsOn sought old (record { watching = b.watching; hand = q }) after
      round-on q none q_is goes_on writes kept = record {
        given = all;
        exchanged = Exchanged-same old.link after.link _ all _ all owed-is refl (exchanged-sent b.out writes.exchanged);
        written = subst (λ (lines : List ℕ). TakesBytes old.sink lines after.sink) told-is (written-more b.lines writes.written);
        goes_on = end-is ∙ ap (λ (o : Option WatchEnd). end_behind (in_hand (hand runs.given) (within (hand runs.given) piece)) o) none ∙ ap end_by_bytes (sym q_is) ∙ goes_on;
        watching_is = is.watching_is ∙ ap (λ (t : Watched). t.watching) (sym more-is);
        hand_is = q_is ∙ sym hand-is;
        kept = kept-then old mid after kept-mid kept;
      }
