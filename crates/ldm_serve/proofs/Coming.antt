-- What a connection comes to where a piece comes, or none; and where it begins.
use Rattle.std.proofs.Common.{◌≡◌, ℕ, ◌≤◌, Bool, true, false, List, [], ◌++◌, length, take, Option, Some, None, refl, ap, sym, subst, ◌∙◌, arith, append-nil}
use Rattle.std.specs.Prelude.{IfSome, if◌then◌else◌, map}
use Rattle.std.proofs.lemmas.List.{take-append-le, take-take}
use Rattle.ldm_outside.specs.declared.io.Got.TheVariants.{Bytes, End, Failed}
use Rattle.ldm_outside.specs.Count.{Rose}
use Rattle.ldm_outside.specs.Link.{Gave, IsNotClosed, LinkRecord, RecvGives}
use Rattle.ldm_outside.specs.Session.{KeepsFaults}
use Rattle.ldm_outside.proofs.CallerLemmas.{Rose-later}
use Rattle.ldm_rpc.specs.Reading.{is_pending}
use Rattle.ldm_rpc.specs.Streams.{Position, in_hand, records_in}
use Rattle.ldm_shared.proofs.Made.{calls_none}
use Rattle.ldm_session.specs.declared.limits.TheConstants.{LONGEST_STREAM}
use Rattle.ldm_session.specs.Exchange.{Exchanged}
use Rattle.ldm_session.proofs.CallerLemmas.{AnsweredAll-nothing, Exchanged-failing, Exchanged-gave, Exchanged-nothing, Exchanged-then_given}
use Rattle.ldm_serve.specs.declared.end.ServeEnd.{ServeEnd}
use Rattle.ldm_serve.specs.declared.end.ServeEnd.TheVariants as end
use Rattle.ldm_relay.specs.Spelling.{records_of}
use Rattle.ldm_downstream.specs.declared.limits.TheConstants.{LONGEST_PIECE}
use Rattle.ldm_serve.specs.Client.{Client}
use Rattle.ldm_downstream.specs.InTurn.{Round}
use Rattle.ldm_serve.specs.InTurn.{InTurn}
use Rattle.ldm_serve.specs.Outlived.{Outlived, messages_for_all, step_of}
use Rattle.ldm_serve.specs.Steps.{placed_of}
use Rattle.ldm_serve.specs.Connection.{Answers, ServingMoment, Reaches, moment_of}
use Rattle.ldm_serve.specs.Rounds.{IsServed, ReadsOn, Runs, end_at, outliving}
use Rattle.ldm_serve.specs.ServingView.{beginning}
use Rattle.ldm_serve.proofs.InTurn.{turn-given, turn-none, turn-sent}
use Rattle.ldm_serve.proofs.Reaching.{came-behind, counts-link, counts-then}
use Rattle.ldm_serve.proofs.Turning.{fault-served}

-- a moment that differs by the link
abbrev pub linked : ServingMoment → LinkRecord → ServingMoment
linked now link = moment_of now.pass (record now.outside { link = link })

-- ---- what the link gave

module _ (client : Client) (begins : ServingMoment) (outlived : List Outlived) (taken : List ℕ) (now : ServingMoment)
    (reaches : Reaches true true client (outliving outlived) taken [] begins now) where
  -- what passed in all up to now
  abbrev total : Round
  total = record { given = taken ++ []; sent = reaches.sent }

  -- with more bytes ahead
  reaches-link : (ahead : List ℕ) (link : LinkRecord) → Exchanged begins.outside.link reaches.sent (taken ++ ahead) link
      → InTurn client outlived (record { given = taken ++ ahead; sent = reaches.sent }) begins.outside.link link
      → Reaches true true client (outliving outlived) taken ahead begins (linked now link)
  reaches-link ahead link exchanged in_turn = record {
    by = reaches.by;
    outlived = reaches.outlived;
    last = reaches.last;
    records = reaches.records;
    calls = reaches.calls;
    sent = reaches.sent;
    sent_part = reaches.sent_part;
    exchanged = exchanged;
    clock = reaches.clock;
    log = reaches.log;
    gate = reaches.gate;
    in_turn = in_turn;
  }

  exchanged-more : (bytes : List ℕ) (link : LinkRecord) → Exchanged now.outside.link [] bytes link → Exchanged begins.outside.link reaches.sent (taken ++ bytes) link
  exchanged-more bytes link gave =
      let given : (taken ++ []) ++ bytes ≡ taken ++ bytes = ap (λ (xs : List ℕ). xs ++ bytes) (append-nil taken) in
      subst (λ (all : List ℕ). Exchanged begins.outside.link reaches.sent all link) given
      (Exchanged-then_given begins.outside.link now.outside.link link reaches.sent (taken ++ []) bytes reaches.exchanged gave)

  -- all was sent that is owed for what came
  reaches-gave : (bytes : List ℕ) (link : LinkRecord) → Gave now.outside.link bytes link → length bytes ≤ LONGEST_PIECE
      → Reaches true true client (outliving outlived) taken bytes begins (linked now link)
  reaches-gave bytes link gave few =
      let given : (taken ++ []) ++ bytes ≡ taken ++ bytes = ap (λ (xs : List ℕ). xs ++ bytes) (append-nil taken) in
      let records : placed_of (map step_of outlived) ≡ records_in beginning (taken ++ []) =
      ap placed_of (sym (append-nil (map step_of outlived))) ∙ reaches.records ∙ ap (records_in beginning) (sym (append-nil taken)) in
      let sent : reaches.sent ≡ records_of (messages_for_all client outlived) =
      reaches.sent_part ∙ ap records_of (append-nil (messages_for_all client outlived)) in
      reaches-link bytes link (exchanged-more bytes link (Exchanged-gave now.outside.link link bytes gave))
      (subst (λ (all : List ℕ). InTurn client outlived (record { given = all; sent = reaches.sent }) begins.outside.link link) given
      (turn-given client outlived total begins.outside.link now.outside.link link reaches.in_turn records sent bytes (ap (λ (l : LinkRecord). l.passed) gave.1) few))

  reaches-still : (link : LinkRecord) → Exchanged now.outside.link [] [] link → Reaches true true client (outliving outlived) taken [] begins (linked now link)
  reaches-still link still =
      reaches-link [] link (exchanged-more [] link still)
      (subst (λ (sent : List ℕ). InTurn client outlived (record { given = taken ++ []; sent = sent }) begins.outside.link link) (append-nil reaches.sent)
      (subst (λ (answered : List Outlived). InTurn client answered (record { given = taken ++ []; sent = reaches.sent ++ [] }) begins.outside.link link) (append-nil outlived)
      (turn-sent client outlived total begins.outside.link now.outside.link link reaches.in_turn [] [] still.passed)))

-- a front of what is owed, and of the records
reaches-part : (all : Bool) (client : Client) (begins : ServingMoment) (answers : Answers) (taken ahead : List ℕ) (now : ServingMoment) → Reaches all true client answers taken ahead begins now
    → Reaches all false client answers taken ahead begins now
reaches-part all client begins answers taken ahead now reaches = record {
  by = reaches.by;
  outlived = reaches.outlived;
  last = reaches.last;
  records = reaches.records;
  calls = reaches.calls;
  sent = reaches.sent;
  sent_part = ([], append-nil reaches.sent ∙ reaches.sent_part);
  exchanged = reaches.exchanged;
  clock = reaches.clock;
  log = reaches.log;
  gate = reaches.gate;
  in_turn = reaches.in_turn;
}

reaches-few : (whole : Bool) (client : Client) (begins : ServingMoment) (answers : Answers) (taken ahead : List ℕ) (now : ServingMoment) → Reaches true whole client answers taken ahead begins now
    → Reaches false whole client answers taken ahead begins now
reaches-few whole client begins answers taken ahead now reaches = record {
  by = reaches.by;
  outlived = reaches.outlived;
  last = reaches.last;
  records = ([], append-nil _ ∙ reaches.records);
  calls = reaches.calls;
  sent = reaches.sent;
  sent_part = reaches.sent_part;
  exchanged = reaches.exchanged;
  clock = reaches.clock;
  log = reaches.log;
  gate = reaches.gate;
  in_turn = reaches.in_turn;
}

module _ (client : Client) (begins : ServingMoment) (p : Position) (now : ServingMoment) (here : ReadsOn client begins p [] now) where
  came-is : p.came ≡ length here.taken
  came-is = ap (λ (v : Position). v.came) here.hand_is ∙ came-behind beginning here.taken ∙ omega arith

  pending-is : is_pending (in_hand beginning here.taken).reading ≡ is_pending p.reading
  pending-is = ap (λ (v : Position). is_pending v.reading) (sym here.hand_is)

  -- as many bytes came as are taken of a stream
  pub limit-served : p.came ≡ LONGEST_STREAM → IsNotClosed now.outside.link → IsServed end.StreamLimit client begins now
  limit-served full unclosed = record {
    serves = record {
      answers = outliving here.outlived;
      taken = here.taken;
      ahead = [];
      between = now;
      reaches = here.reaches;
      counts = here.counts;
      ends = (record { outlived = refl; none_ahead = refl; same = refl }, sym came-is ∙ full);
      cause = tt;
      left = unclosed;
    };
    counts = here.counts;
  }

  module _ (into : List ℕ) (link : LinkRecord) (faults : now.outside.link.faults ≤ link.faults) (ends : now.outside.link.ends ≤ link.ends) where
    counts-here : KeepsFaults begins.outside (linked now link).outside
    counts-here = counts-then begins.outside now.outside (linked now link).outside here.counts (counts-link now.outside (linked now link).outside faults ends refl refl)

    -- some bytes came
    pub came-reads : (n : ℕ) → RecvGives (Bytes n) into now.outside.link link → length (take n into) ≤ LONGEST_PIECE
        → ReadsOn client begins p (take n into) (linked now link)
    came-reads n gives few = record {
      outlived = here.outlived;
      taken = here.taken;
      reaches = reaches-gave client begins here.outlived here.taken now here.reaches (take n into) link gives.2 few;
      hand_is = here.hand_is;
      counts = counts-here;
    }

    -- the link failed
    pub failed-served : RecvGives Failed into now.outside.link link → IsNotClosed link → IsServed end.LinkFault client begins (linked now link)
    failed-served failing unclosed =
        fault-served client begins (linked now link) (outliving here.outlived) here.taken []
        (reaches-part true client begins (outliving here.outlived) here.taken [] (linked now link)
        (reaches-still client begins here.outlived here.taken now here.reaches link (Exchanged-failing now.outside.link link failing)))
        (omega arith) (Rose-later begins.outside.link.faults now.outside.link.faults link.faults here.counts.link failing.0) unclosed counts-here

    -- the stream ended
    module _ (gives : RecvGives End into now.outside.link link) (unclosed : IsNotClosed link) where
      left-is : link.left ≡ now.outside.link.left
      left-is = ap (λ (l : LinkRecord). l.left) gives.2

      reaches-end : Reaches true true client (outliving here.outlived) here.taken [] begins (linked now link)
      reaches-end =
          reaches-still client begins here.outlived here.taken now here.reaches link
          (Exchanged-nothing now.outside.link link (ap (λ (l : LinkRecord). l.passed) gives.2) left-is)

      has-ended : Rose begins.outside.link.ends link.ends × IfSome link.left (λ rest. rest ≡ [])
      has-ended = (
        Rose-later begins.outside.link.ends now.outside.link.ends link.ends here.counts.ends gives.0,
        subst (λ (left : Option (List ℕ)). IfSome left (λ rest. rest ≡ [])) (sym left-is) gives.1,
      )

      ended-at : (pending : Bool) → is_pending p.reading ≡ pending → IsServed (if pending then end.Truncated p.came else end.Ended) client begins (linked now link)
      ended-at true is = record {
        serves = record {
          answers = outliving here.outlived;
          taken = here.taken;
          ahead = [];
          between = linked now link;
          reaches = reaches-end;
          counts = counts-here;
          ends = (record { outlived = refl; none_ahead = refl; same = refl }, pending-is ∙ is, came-is);
          cause = has-ended;
          left = unclosed;
        };
        counts = counts-here;
      }
      ended-at false is = record {
        serves = record {
          answers = outliving here.outlived;
          taken = here.taken;
          ahead = [];
          between = linked now link;
          reaches = reaches-end;
          counts = counts-here;
          ends = (record { outlived = refl; none_ahead = refl; same = refl }, pending-is ∙ is);
          cause = has-ended;
          left = unclosed;
        };
        counts = counts-here;
      }

      pub ended-served : IsServed (end_at p) client begins (linked now link)
      ended-served = ended-at (is_pending p.reading) refl

-- what came stands at the front of the buffer
pub take-into : (n len : ℕ) (into rest : List ℕ) → n ≤ len → n ≤ length into → take n (take len (into ++ rest)) ≡ take n into
take-into n len into rest within came = take-take n len (into ++ rest) within ∙ take-append-le n into rest came

-- ---- a piece, and what taking it comes to

pub runs-behind : (result : Option ServeEnd) (client : Client) (p : Position) (bytes : List ℕ) (q : Position) (old mid new : ServingMoment)
    → ((begins : ServingMoment) → ReadsOn client begins p [] old → ReadsOn client begins p bytes mid) → Runs result client p bytes q mid new → Runs result client p [] q old new
runs-behind None client p bytes q old mid new came runs = λ begins here. runs begins (came begins here)
runs-behind (Some end) client p bytes q old mid new came runs = λ begins here. runs begins (came begins here)

-- ---- the beginning

pub begins-reads : (client : Client) (now : ServingMoment) → now.pass.actor ≡ client.actor → ReadsOn client now beginning [] now
unfolding in_hand records_in
begins-reads client now by = record {
  outlived = [];
  taken = [];
  reaches = record {
    by = by;
    outlived = tt;
    last = tt;
    records = refl;
    calls = calls_none now.pass;
    sent = [];
    sent_part = refl;
    exchanged = Exchanged-nothing now.outside.link now.outside.link refl refl;
    clock = AnsweredAll-nothing now.outside.clock;
    log = refl;
    gate = refl;
    in_turn = turn-none client [] now.outside.link;
  };
  hand_is = refl;
  counts = record { link = omega arith; ends = omega arith; log = omega arith; stops = omega arith };
}

-- there is no memory to begin
pub memory-begins : (client : Client) (now : ServingMoment) → now.pass.actor ≡ client.actor → IsNotClosed now.outside.link → IsServed end.OutOfMemory client now now
memory-begins client now by unclosed =
    let here = begins-reads client now by in
    record {
      serves = record {
        answers = outliving here.outlived;
        taken = here.taken;
        ahead = [];
        between = now;
        reaches = reaches-few false client now (outliving here.outlived) here.taken [] now
            (reaches-part true client now (outliving here.outlived) here.taken [] now here.reaches);
        counts = here.counts;
        ends = (refl, refl);
        cause = tt;
        left = unclosed;
      };
      counts = here.counts;
    }
