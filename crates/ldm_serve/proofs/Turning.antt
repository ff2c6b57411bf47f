-- What serving a connection comes to, by what its bytes came to.
use Rattle.std.proofs.Common.{◌≡◌, ℕ, ◌+◌, ◌-◌, ◌<◌, ◌≤◌, Bool, true, false, List, [], ◌∷◌, ◌++◌, length, take, drop, Option, Some, None, Err, refl, ap, sym, subst, ◌∙◌, arith, inl, inr, append-nil, append_assoc, length-append}
use Rattle.std.specs.Prelude.{IfNone, is_some}
use Rattle.std.proofs.lemmas.List.{drop_all, length-drop, map-append, take_all}
use Rattle.ldm_types.specs.declared.class.ClassSpec.{ClassSpec}
use Rattle.ldm_outside.specs.Clock.{ClockRecord}
use Rattle.ldm_outside.specs.Count.{Rose}
use Rattle.ldm_outside.specs.Link.{IsNotClosed}
use Rattle.ldm_outside.specs.Session.{KeepsFaults}
use Rattle.ldm_outside.proofs.CallerLemmas.{Rose-later}
use Rattle.ldm_rpc.specs.Reading.{is_faulty, is_pending}
use Rattle.ldm_rpc.specs.Streams.{Placed, Position, in_hand, records_in}
use Rattle.ldm_shared.specs.Passes.{Calls, PassView}
use Rattle.ldm_session.specs.Exchange.{AnsweredAll, Exchanged}
use Rattle.ldm_relay.specs.Spelling.{records_of}
use Rattle.ldm_serve.specs.declared.responded.Responded.{Responded}
use Rattle.ldm_serve.specs.Respond.{respond}
use Rattle.ldm_serve.specs.Response.{Response, Says, Puts, Figures, Feeds, Receives, Notifies, Refuses, Denies}
use Rattle.ldm_serve.specs.Responds.{RunsOut, Standing, goes_on, stands}
use Rattle.ldm_serve.specs.declared.end.ServeEnd.{ServeEnd}
use Rattle.ldm_serve.specs.declared.end.ServeEnd.TheVariants as end
use Rattle.ldm_serve.specs.declared.serving.Answered.{Answered}
use Rattle.ldm_serve.specs.Client.{Client}
use Rattle.ldm_serve.specs.Steps.{Step, placed_of, response_of}
use Rattle.ldm_serve.specs.Turns.{AnswersAll, RunsOutAt}
use Rattle.ldm_serve.specs.Served.{BreaksOff, GoesOn, IsOver, IsTooLong, IsWorn, Serves}
use Rattle.ldm_serve.specs.Outlived.{IsNarrowedTo, Narrowed, Outlived, narrower}
use Rattle.ldm_serve.specs.Connection.{Answers, ServingMoment, Reaches, moment_of, placed_in}
use Rattle.ldm_serve.specs.Becoming.{Becomes, NarrowsBy}
use Rattle.ldm_serve.specs.Serve.{EndsByRecord, LeavesLink, ServesAll}
use Rattle.ldm_serve.specs.Reading.{EndsAt}
use Rattle.ldm_serve.specs.Rounds.{Advances, HasRoom, IsServed, ReadsOn, Runs, Takes, outliving}
use Rattle.ldm_serve.specs.ServingView.{beginning}
use Rattle.ldm_serve.proofs.Doing.{does-then}
use Rattle.ldm_serve.proofs.Outliving.{answered, extends-answered, extends-ended, extends-narrowed}
use Rattle.ldm_serve.proofs.Reaching.{PutsOut, came-behind, counts-link, counts-then, hand-behind, placed-extended, puts-none, reaches-more, reaches-steps, records-behind}

-- ---- ends

-- the link failed
pub fault-served : (client : Client) (begins now : ServingMoment) (answers : Answers) (taken ahead : List ℕ) → Reaches true false client answers taken ahead begins now
    → length answers.last ≤ 1 → Rose begins.outside.link.faults now.outside.link.faults → IsNotClosed now.outside.link → KeepsFaults begins.outside now.outside
    → IsServed end.LinkFault client begins now
fault-served client begins now answers taken ahead reaches few rose unclosed counts = record {
  serves = record { answers = answers; taken = taken; ahead = ahead; between = now; reaches = reaches; counts = counts; ends = (few, refl); cause = rose; left = unclosed };
  counts = counts;
}

-- a moment that differs by the pass and the clock
abbrev pub asked : ServingMoment → PassView → ClockRecord → ServingMoment
asked now pass clock = moment_of pass (record now.outside { clock = clock })

module _ (client : Client) (begins : ServingMoment) (p : Position) (bytes : List ℕ) (now : ServingMoment) (here : ReadsOn client begins p bytes now) where
  module _ (whole : Bool) (out : List ℕ) (new : ServingMoment) (puts : PutsOut whole out now.outside.link new.outside.link)
      (log : new.outside.log ≡ now.outside.log) (gate : new.outside.gate ≡ now.outside.gate) where
    pub counts-now : KeepsFaults begins.outside new.outside
    counts-now = counts-then begins.outside now.outside new.outside here.counts (counts-link now.outside new.outside puts.faults puts.ends log gate)

    rose-now : Rose now.outside.link.faults new.outside.link.faults → Rose begins.outside.link.faults new.outside.link.faults
    rose-now rose = Rose-later begins.outside.link.faults now.outside.link.faults new.outside.link.faults here.counts.link rose

    -- all records that the bytes complete were answered
    module _ (answers : AnswersAll client (records_in p bytes) (stands now.pass now.outside.clock []) (stands new.pass new.outside.clock out)) where
      reaches-all : Reaches true whole client (outliving (here.outlived ++ answered answers.steps)) (here.taken ++ bytes) [] begins new
      reaches-all =
          reaches-steps client begins p bytes now here true whole (outliving (here.outlived ++ answered answers.steps)) answers.steps bytes [] out new
          (extends-answered client here.outlived here.reaches.outlived answers.steps answers.does.are answers.outlived)
          answers.does (append-nil bytes) answers.placed puts (ap (λ l. l.written) log) gate

      pub all-failed : whole ≡ false → Rose now.outside.link.faults new.outside.link.faults → IsNotClosed new.outside.link → IsServed end.LinkFault client begins new
      all-failed part rose unclosed =
          fault-served client begins new (outliving (here.outlived ++ answered answers.steps)) (here.taken ++ bytes) []
          (subst (λ (w : Bool). Reaches true w client (outliving (here.outlived ++ answered answers.steps)) (here.taken ++ bytes) [] begins new) part reaches-all)
          (omega arith) (rose-now rose) unclosed counts-now

    -- and the session goes on
    pub on-reads : whole ≡ true → (q : Position) → GoesOn client p bytes q (stands now.pass now.outside.clock []) (stands new.pass new.outside.clock out)
        → ReadsOn client begins q (drop (length bytes) bytes) new
    on-reads all q goes = subst (λ (rest : List ℕ). ReadsOn client begins q rest new) (sym (drop_all (length bytes) bytes (omega arith))) (record {
      outlived = here.outlived ++ answered goes.answers.steps;
      taken = here.taken ++ bytes;
      reaches = subst (λ (w : Bool). Reaches true w client (outliving (here.outlived ++ answered goes.answers.steps)) (here.taken ++ bytes) [] begins new) all
          (reaches-all goes.answers);
      hand_is = goes.hand_is ∙ hand-behind p here.taken bytes here.hand_is;
      counts = counts-now;
    })

    -- the record behind them is too long
    pub long-served : whole ≡ true → (at : ℕ) → IsTooLong client at p bytes (stands now.pass now.outside.clock []) (stands new.pass new.outside.clock out)
        → IsNotClosed new.outside.link → IsServed (end.BadFrame at) client begins new
    long-served all at long unclosed =
        let hand = hand-behind p here.taken bytes here.hand_is in
        let b = outliving (here.outlived ++ answered long.answers.steps) in
        record {
          serves = record {
            answers = b;
            taken = here.taken ++ bytes;
            ahead = [];
            between = new;
            reaches = subst (λ (w : Bool). Reaches true w client b (here.taken ++ bytes) [] begins new) all (reaches-all long.answers);
            counts = counts-now;
            ends = inr (record {
              outlived = refl;
              faulty = ap (λ (v : Position). is_faulty v.reading) (sym hand) ∙ long.faulty;
              at_is = long.at_is ∙ ap (λ (v : Position). v.begins) hand;
              same = refl;
            });
            cause = tt;
            left = unclosed;
          };
          counts = counts-now;
        }

    -- the session does not outlive a record
    module _ (next : Responded) (at : ℕ) (q : Position) (over : IsOver client next at p bytes q (stands now.pass now.outside.clock []) (stands new.pass new.outside.clock out)) where
      -- the answers with that one
      abbrev pub last-of : Answers
      last-of = record { outlived = here.outlived ++ answered over.answers.steps; last = over.ends.step ∷ [] }

      pub reaches-over : Reaches true whole client last-of (here.taken ++ over.taken) over.rest begins new
      reaches-over =
          let steps = over.answers.steps in
          let last = over.ends.step in
          let does = does-then client steps (last ∷ []) (stands now.pass now.outside.clock []) over.between (stands new.pass new.outside.clock out) over.answers.does over.ends.does in
          let placed : placed_of (steps ++ last ∷ []) ≡ records_in p over.taken =
          map-append (λ (step : Step). step.placed) steps (last ∷ []) ∙ ap (λ (xs : List Placed). xs ++ last.placed ∷ []) over.answers.placed
          ∙ ap (λ (x : Placed). over.front ++ x ∷ []) over.ends.placed_is ∙ over.records in
          reaches-steps client begins p bytes now here true whole last-of (steps ++ last ∷ []) over.taken over.rest out new
          (extends-ended client here.outlived here.reaches.outlived steps last over.answers.does.are over.answers.outlived over.ends.does.are.0)
          does over.all placed puts (ap (λ l. l.written) log) gate

      pub over-failed : whole ≡ false → Rose now.outside.link.faults new.outside.link.faults → IsNotClosed new.outside.link → IsServed end.LinkFault client begins new
      over-failed part rose unclosed =
          fault-served client begins new last-of (here.taken ++ over.taken) over.rest
          (subst (λ (w : Bool). Reaches true w client last-of (here.taken ++ over.taken) over.rest begins new) part reaches-over)
          (omega arith) (rose-now rose) unclosed counts-now

  -- ---- the first records were answered

  module _ (front others : List Placed) (between : Standing) (answers : AnswersAll client front (stands now.pass now.outside.clock []) between)
      (records : front ++ others ≡ records_in p bytes) where
    b-of : Answers
    b-of = outliving (here.outlived ++ answered answers.steps)

    there : ServingMoment
    there = asked now between.pass between.clock

    reaches-front : Reaches false false client b-of (here.taken ++ bytes) [] begins there
    unfolding b-of there
    reaches-front =
        reaches-steps client begins p bytes now here false false b-of answers.steps bytes [] between.out there
        (extends-answered client here.outlived here.reaches.outlived answers.steps answers.does.are answers.outlived)
        answers.does (append-nil bytes) (others, ap (λ (xs : List Placed). xs ++ others) answers.placed ∙ records) (puts-none between.out now.outside.link) refl refl

    counts-there : KeepsFaults begins.outside there.outside
    unfolding there
    counts-there = counts-then begins.outside now.outside (record now.outside { clock = between.clock }) here.counts
        (counts-link now.outside (record now.outside { clock = between.clock }) (omega arith) (omega arith) refl refl)

    placed-front : placed_in b-of ++ others ≡ records_in beginning (here.taken ++ bytes)
    unfolding b-of there
    placed-front =
        let before = outliving here.outlived in
        let extends = extends-answered client here.outlived here.reaches.outlived answers.steps answers.does.are answers.outlived in
        ap (λ (xs : List Placed). xs ++ others) (placed-extended client begins before b-of answers.steps _ _ extends)
        ∙ append_assoc (placed_in before) (placed_of answers.steps) others
        ∙ ap (λ (xs : List Placed). xs ++ (placed_of answers.steps ++ others)) here.reaches.records
        ∙ ap (λ (xs : List Placed). records_in beginning here.taken ++ xs) (ap (λ (xs : List Placed). xs ++ others) answers.placed ∙ records)
        ∙ records-behind p here.taken bytes here.hand_is

    -- there is no memory
    front-memory : (pass : PassView) (clock : ClockRecord) (out : List ℕ) → stands pass clock out ≡ between → IsNotClosed now.outside.link
        → IsServed end.OutOfMemory client begins (asked now pass clock)
    unfolding b-of there
    front-memory pass clock out same unclosed =
        let at : (asked now pass clock) ≡ there = ap (λ (s : Standing). asked now s.pass s.clock) same in
        record {
          serves = record {
            answers = b-of;
            taken = here.taken ++ bytes;
            ahead = [];
            between = there;
            reaches = reaches-front;
            counts = counts-there;
            ends = (refl, at);
            cause = tt;
            left = unclosed;
          };
          counts = counts-then begins.outside now.outside (record now.outside { clock = clock }) here.counts
              (counts-link now.outside (record now.outside { clock = clock }) (omega arith) (omega arith) refl refl);
        }

    -- the next record asks the queue, which can have no call more
    front-worn : (asks : Placed) (behind : List Placed) → others ≡ asks ∷ behind → (pass : PassView) (clock : ClockRecord) (out : List ℕ)
        → RunsOut (respond client asks.content) between (stands pass clock out) → IsNotClosed now.outside.link
        → IsServed end.Worn client begins (asked now pass clock)
    unfolding b-of there
    front-worn asks behind is pass clock out runs unclosed =
        record {
          serves = record {
            answers = b-of;
            taken = here.taken ++ bytes;
            ahead = [];
            between = there;
            reaches = reaches-front;
            counts = counts-there;
            ends = record {
              outlived = refl;
              asks = asks;
              others = behind;
              records = ap (λ (xs : List Placed). placed_in b-of ++ xs) (sym is) ∙ placed-front;
              runs_out = record { asks = runs.asks; now = runs.now; asks_clock = runs.asks_clock; calls = runs.calls; worn = runs.worn; same = refl };
              same = refl;
            };
            cause = tt;
            left = unclosed;
          };
          counts = counts-then begins.outside now.outside (record now.outside { clock = clock }) here.counts
              (counts-link now.outside (record now.outside { clock = clock }) (omega arith) (omega arith) refl refl);
        }

    worn-at : (rest : List Placed) → others ≡ rest → (pass : PassView) (clock : ClockRecord) (out : List ℕ)
        → RunsOutAt client rest between (stands pass clock out) → IsNotClosed now.outside.link → IsServed end.Worn client begins (asked now pass clock)
    worn-at [] is pass clock out runs unclosed = absurd runs
    worn-at (asks ∷ behind) is pass clock out runs unclosed = front-worn asks behind is pass clock out runs unclosed

  pub memory-served : (pass : PassView) (clock : ClockRecord) (out : List ℕ) → BreaksOff client p bytes (stands now.pass now.outside.clock []) (stands pass clock out)
      → IsNotClosed now.outside.link → IsServed end.OutOfMemory client begins (asked now pass clock)
  memory-served pass clock out breaks unclosed =
      front-memory breaks.front breaks.others (stands pass clock out) breaks.answers breaks.records pass clock out refl unclosed

  pub worn-served : (pass : PassView) (clock : ClockRecord) (out : List ℕ) → IsWorn client p bytes (stands now.pass now.outside.clock []) (stands pass clock out)
      → IsNotClosed now.outside.link → IsServed end.Worn client begins (asked now pass clock)
  worn-served pass clock out worn unclosed =
      worn-at worn.front worn.others worn.between worn.answers worn.records worn.others refl pass clock out worn.runs_out unclosed

-- ---- behind a record that the session does not outlive

-- A part of the class that a response asks for is left to the host, which was told so.
record IsNarrowed (client : Client) (response : Response) (old new : ServingMoment) : Type 0 where
  fewer : ClassSpec
  narrowed : IsNarrowedTo client response fewer
  at : ℕ
  calls : Calls old.pass new.pass []
  exchanged : Exchanged old.outside.link (records_of (narrower response fewer)) [] new.outside.link
  clock : AnsweredAll (at ∷ []) old.outside.clock new.outside.clock
  log : new.outside.log.written ≡ old.outside.log.written
  gate : new.outside.gate ≡ old.outside.gate

narrows-by : (client : Client) (response : Response) (old new : ServingMoment) → NarrowsBy (goes_on response) client old new → IsNarrowed client response old new
narrows-by client (Feeds xid class max_hereis) old new by =
    record { fewer = by.fewer; narrowed = by.part; at = by.at; calls = by.calls; exchanged = by.exchanged; clock = by.clock; log = by.log; gate = by.gate }
narrows-by client (Notifies xid class) old new by =
    record { fewer = by.fewer; narrowed = by.part; at = by.at; calls = by.calls; exchanged = by.exchanged; clock = by.clock; log = by.log; gate = by.gate }
narrows-by client (Says messages) old new by = absurd by
narrows-by client (Puts xid info body) old new by = absurd by
narrows-by client (Figures xid) old new by = absurd by
narrows-by client (Receives class messages) old new by = absurd by
narrows-by client (Refuses messages) old new by = absurd by
narrows-by client (Denies rule messages) old new by = absurd by

module _ (client : Client) (begins now new : ServingMoment) (answers : Answers) (taken rest : List ℕ) (last : Step) (is_last : answers.last ≡ last ∷ [])
    (reaches : Reaches true true client answers taken rest begins now) (counts : KeepsFaults begins.outside now.outside) (more : KeepsFaults now.outside new.outside)
    (next : Responded) (next_is : next ≡ goes_on (response_of client last)) where
  all-counts : KeepsFaults begins.outside new.outside
  all-counts = counts-then begins.outside now.outside new.outside counts more

  -- it becomes something else, or is over
  module _ (at : ℕ) (at_is : at ≡ last.placed.at) (edge : is_pending (in_hand beginning taken).reading ≡ false) where
    by-record : (end : ServeEnd) → Becomes end next at client rest now new → EndsByRecord end client answers taken rest now new
    by-record end becomes = record {
      last = last;
      is_last = is_last;
      edge = edge;
      becomes = subst (λ (r : Responded). Becomes end r last.placed.at client rest now new) next_is
          (subst (λ (n : ℕ). Becomes end next n client rest now new) at_is becomes);
    }

    serves-by : (end : ServeEnd) → Becomes end next at client rest now new → LeavesLink end new.outside.link → ServesAll end client begins new
    serves-by (end.Feed why) becomes left =
        record { answers = answers; taken = taken; ahead = rest; between = now; reaches = reaches; counts = counts; ends = by-record (end.Feed why) becomes; cause = tt; left = left }
    serves-by (end.Receive why) becomes left =
        record { answers = answers; taken = taken; ahead = rest; between = now; reaches = reaches; counts = counts; ends = by-record (end.Receive why) becomes; cause = tt; left = left }
    serves-by (end.Notify why) becomes left =
        record { answers = answers; taken = taken; ahead = rest; between = now; reaches = reaches; counts = counts; ends = by-record (end.Notify why) becomes; cause = tt; left = left }
    serves-by (end.Denied rule) becomes left =
        record { answers = answers; taken = taken; ahead = rest; between = now; reaches = reaches; counts = counts; ends = by-record (end.Denied rule) becomes; cause = tt; left = left }
    serves-by (end.BadFrame place) becomes left =
        record { answers = answers; taken = taken; ahead = rest; between = now; reaches = reaches; counts = counts; ends = inl (by-record (end.BadFrame place) becomes); cause = tt; left = left }
    serves-by end.Ended becomes left = absurd becomes
    serves-by (end.Truncated place) becomes left = absurd becomes
    serves-by end.LinkFault becomes left = absurd becomes
    serves-by end.StreamLimit becomes left = absurd becomes
    serves-by end.Worn becomes left = absurd becomes
    serves-by end.OutOfMemory becomes left = absurd becomes

    pub becomes-served : (end : ServeEnd) → Becomes end next at client rest now new → LeavesLink end new.outside.link → IsServed end client begins new
    becomes-served end becomes left = record { serves = serves-by end becomes left; counts = all-counts }

-- a part of the class is left to the host, and the next record is read
pub narrowed-reads : (client : Client) (begins now new : ServingMoment) (before : List Outlived) (taken rest : List ℕ) (last : Step) (p : Position)
    → Reaches true true client (record { outlived = before; last = last ∷ [] }) taken rest begins now → KeepsFaults begins.outside now.outside → KeepsFaults now.outside new.outside
    → (next : Responded) → next ≡ goes_on (response_of client last) → NarrowsBy next client now new → p ≡ in_hand beginning taken → ReadsOn client begins p rest new
narrowed-reads client begins now new before taken rest last p reaches counts more next next_is by hand_is =
    let is = narrows-by client (response_of client last) now new (subst (λ (r : Responded). NarrowsBy r client now new) next_is by) in
    let a : Answers = record { outlived = before; last = last ∷ [] } in
    let b = outliving (before ++ Narrowed last is.fewer is.at ∷ []) in
    let messages = narrower (response_of client last) is.fewer in
    record {
      outlived = before ++ Narrowed last is.fewer is.at ∷ [];
      taken = taken;
      reaches = reaches-more client begins a b [] messages (is.at ∷ [])
          (extends-narrowed client before reaches.outlived last is.fewer is.at reaches.last.0 is.narrowed) true true taken rest taken rest now new reaches
          (append-nil (placed_in a) ∙ reaches.records) refl is.calls is.clock
          (record { sent = records_of messages; part = refl; exchanged = is.exchanged; faults = more.link; ends = more.ends }) is.log is.gate;
      hand_is = hand_is;
      counts = counts-then begins.outside now.outside new.outside counts more;
    }

-- ---- the bytes up to that record were taken, and what is owed for them was sent

module _ (client : Client) (begins : ServingMoment) (p : Position) (bytes : List ℕ) (now mid new : ServingMoment) (here : ReadsOn client begins p bytes now) (out : List ℕ)
    (puts : PutsOut true out now.outside.link mid.outside.link) (log : mid.outside.log ≡ now.outside.log) (gate : mid.outside.gate ≡ now.outside.gate)
    (next : Responded) (at : ℕ) (q : Position) (over : IsOver client next at p bytes q (stands now.pass now.outside.clock []) (stands mid.pass mid.outside.clock out))
    (more : KeepsFaults mid.outside new.outside) (actor : ℕ) (same : actor ≡ client.actor) where
  before-last : List Outlived
  before-last = here.outlived ++ answered over.answers.steps

  hand-there : q ≡ in_hand beginning (here.taken ++ over.taken)
  hand-there = over.hand_is ∙ hand-behind p here.taken over.taken here.hand_is

  pub over-served : (ahead : List ℕ) → ahead ≡ drop (q.came - p.came) bytes → (end : ServeEnd) → Becomes end next at (record client { actor = actor }) ahead mid new
      → LeavesLink end new.outside.link → IsServed end client begins new
  unfolding before-last
  over-served ahead ahead_is end becomes left =
      becomes-served client begins mid new (record { outlived = before-last; last = over.ends.step ∷ [] }) (here.taken ++ over.taken) over.rest over.ends.step refl
      (reaches-over client begins p bytes now here true out mid puts log gate next at q over) (counts-now client begins p bytes now here true out mid puts log gate) more
      next over.ends.next_is at (over.at_is ∙ ap (λ (x : Placed). x.at) (sym over.ends.placed_is))
      (ap (λ (v : Position). is_pending v.reading) (sym hand-there) ∙ over.edge) end
      (subst (λ (rest : List ℕ). Becomes end next at client rest mid new) (ahead_is ∙ sym over.rest_is)
      (subst (λ (n : ℕ). Becomes end next at (record client { actor = n }) ahead mid new) same becomes)) left

  pub over-reads : NarrowsBy next (record client { actor = actor }) mid new → ReadsOn client begins q (drop (q.came - p.came) bytes) new
  unfolding before-last
  over-reads by =
      subst (λ (rest : List ℕ). ReadsOn client begins q rest new) over.rest_is
      (narrowed-reads client begins mid new before-last (here.taken ++ over.taken) over.rest over.ends.step q
      (reaches-over client begins p bytes now here true out mid puts log gate next at q over) (counts-now client begins p bytes now here true out mid puts log gate) more
      next over.ends.next_is (subst (λ (n : ℕ). NarrowsBy next (record client { actor = n }) mid new) same by) hand-there)

-- ---- how far the bytes were taken

pub on-advances : (client : Client) (p : Position) (bytes : List ℕ) (q : Position) (old new : Standing) → 0 < length bytes → GoesOn client p bytes q old new
    → Advances (length bytes) p bytes q
on-advances client p bytes q old new some goes = record {
  some = some;
  most = omega arith;
  came = ap (λ (v : Position). v.came) goes.hand_is ∙ came-behind p bytes;
  sound = goes.sound;
}

pub over-advances : (client : Client) (next : Responded) (at : ℕ) (p : Position) (bytes : List ℕ) (q : Position) (old new : Standing) → IsOver client next at p bytes q old new
    → Advances (q.came - p.came) p bytes q
over-advances client next at p bytes q old new over =
    let came : q.came ≡ p.came + length over.taken = ap (λ (v : Position). v.came) over.hand_is ∙ came-behind p over.taken in
    let len : length over.taken + length over.rest ≡ length bytes = sym (length-append over.taken over.rest) ∙ ap length over.all in
    record {
      some = omega (arith, came, over.some);
      most = omega (arith, came, len);
      came = omega (arith, came);
      sound = over.sound;
    }

-- nothing was gathered before
pub from-empty : (stop : Answered) (next : Responded) (client : Client) (p : Position) (bytes : List ℕ) (q : Position) (pass : PassView) (clock : ClockRecord) (out : List ℕ) (new : Standing) → out ≡ []
    → Serves stop next client p bytes q (stands pass clock out) new → Serves stop next client p bytes q (stands pass clock []) new
from-empty stop next client p bytes q pass clock out new none serves = subst (λ (o : List ℕ). Serves stop next client p bytes q (stands pass clock o) new) none serves

-- ---- a loop over bytes

pub rest-is : (n : ℕ) (rest left : List ℕ) → n ≤ length rest → left ≡ take (length rest - n) (drop n rest) → left ≡ drop n rest
rest-is n rest left most is =
    let len : length (drop n rest) ≡ length rest - n = length-drop n rest in
    is ∙ take_all (length rest - n) (drop n rest) (omega (arith, len))

pub room-behind : (n : ℕ) (p : Position) (bytes : List ℕ) (q : Position) (left : List ℕ) → HasRoom p (length bytes) → Advances n p bytes q → left ≡ drop n bytes → HasRoom q (length left)
room-behind n p bytes q left room advances is =
    let len : length left ≡ length bytes - n = ap length is ∙ length-drop n bytes in
    record { sound = advances.sound; room = omega (arith, len, room.room, advances.came, advances.most) }

-- ---- an end that was written

-- it came to that one
pub ends-written : (client : Client) (p : Position) (bytes : List ℕ) (q : Position) (old new : ServingMoment) (written : Option ServeEnd) (why : ServeEnd) → written ≡ Some why
    → ((end : ServeEnd) → written ≡ Some end → Takes (Err end) client p bytes q old new) → EndsAt written client p bytes q old new
ends-written client p bytes q old new None why is takes = absurd (cc is)
ends-written client p bytes q old new (Some end) why is takes = takes end refl

-- what is behind the bytes that were taken before comes to it
pub ends-run : (client : Client) (p : Position) (bytes : List ℕ) (first : Position) (all : List ℕ) (q last : Position) (begin old new : ServingMoment) (written : Option ServeEnd)
    → ((begins : ServingMoment) → ReadsOn client begins first all begin → ReadsOn client begins p bytes old) → EndsAt written client p bytes q old new
    → Runs written client first all last begin new
ends-run client p bytes first all q last begin old new None reads ends = absurd ends
ends-run client p bytes first all q last begin old new (Some end) reads ends = λ begins here. ends begins (reads begins here)

pub ends-not : (X : Type 0) (client : Client) (p : Position) (bytes : List ℕ) (q : Position) (old new : ServingMoment) (written : Option ServeEnd)
    → EndsAt written client p bytes q old new → IfNone written X
ends-not X client p bytes q old new None ends = absurd ends
ends-not X client p bytes q old new (Some end) ends = tt

pub none-written : (written : Option ServeEnd) → is_some written ≡ false → written ≡ None
none-written None none = refl
none-written (Some end) none = absurd (cc none)
