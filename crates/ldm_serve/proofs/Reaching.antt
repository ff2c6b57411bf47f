-- A connection that came to a moment, and then to a later one.
use Rattle.std.proofs.Common.{◌≡◌, ℕ, ◌+◌, ◌≤◌, Bool, true, false, List, [], ◌∷◌, ◌++◌, length, refl, ap, sym, subst, ◌∙◌, arith, append_assoc, append-nil}
use Rattle.std.proofs.lemmas.List.{map-append}
use Rattle.std.proofs.lemmas.List.Concat.{flat_map-append}
use Rattle.ldm_model.specs.declared.event.Entry.{Entry}
use Rattle.ldm_outside.specs.Count.{Rose}
use Rattle.ldm_outside.specs.Gate.{GateRecord}
use Rattle.ldm_outside.specs.Io.{SinkRecord}
use Rattle.ldm_outside.specs.Link.{LinkRecord}
use Rattle.ldm_outside.specs.Session.{KeepsFaults, SessionRecord}
use Rattle.ldm_relay.specs.Sent.{Sent}
use Rattle.ldm_relay.specs.Spelling.{written, record_of, records_of}
use Rattle.ldm_rpc.specs.Reading.{after_byte}
use Rattle.ldm_rpc.specs.Streams.{Placed, Position, forgets, in_hand, records_in}
use Rattle.ldm_rpc.proofs.Joined.{in_hand-append, records-append}
use Rattle.ldm_shared.specs.Passes.{Calls, IsSamePass, PassView}
use Rattle.ldm_shared.proofs.Made.{calls_trans}
use Rattle.ldm_session.specs.Exchange.{AnsweredAll, Exchanged}
use Rattle.ldm_session.specs.Gathering.{Breaks, MovesOn}
use Rattle.ldm_session.proofs.CallerLemmas.{AnsweredAll-then, Exchanged-front, Exchanged-nothing, Exchanged-sent, Exchanged-then_sent}
use Rattle.ldm_session.specs.Part.{IsPart}
use Rattle.ldm_serve.specs.Responds.{stands}
use Rattle.ldm_serve.specs.Client.{Client}
use Rattle.ldm_serve.specs.Steps.{Does, Step, entries_of, instants_of, messages_of, placed_of}
use Rattle.ldm_serve.specs.Connection.{Answers, ServingMoment, Reaches, entries_in, messages_in, placed_in, steps_in}
use Rattle.ldm_serve.specs.InTurn.{InTurn}
use Rattle.ldm_serve.specs.Outlived.{Outlived}
use Rattle.ldm_serve.specs.Rounds.{ReadsOn, outliving}
use Rattle.ldm_serve.specs.ServingView.{beginning}
use Rattle.ldm_serve.proofs.InTurn.{turn-sent}
use Rattle.ldm_serve.proofs.Outliving.{Extends}

-- ---- parts of lists

module _ {A : Type 0} where
  pub part-behind : (whole : Bool) (front part all : List A) → IsPart whole part all → IsPart whole (front ++ part) (front ++ all)
  part-behind true front part all is = ap (λ (xs : List A). front ++ xs) is
  part-behind false front part all is = (is.0, append_assoc front part is.0 ∙ ap (λ (xs : List A). front ++ xs) is.1)

-- ---- what was gathered goes out

-- All of some bytes was sent, or a front of them, and nothing came.
pub record PutsOut (whole : Bool) (out : List ℕ) (old new : LinkRecord) : Type 0 where
  pub sent : List ℕ
  pub part : IsPart whole sent out
  pub exchanged : Exchanged old sent [] new
  pub faults : old.faults ≤ new.faults
  pub ends : old.ends ≤ new.ends

pub puts-all : (out left : List ℕ) (old new : LinkRecord) → MovesOn out old left new → left ≡ [] → PutsOut true out old new
puts-all out left old new moves none =
    let faults : new.faults ≡ old.faults = ap (λ (l : LinkRecord). l.faults) moves.is_sent in
    let ends : new.ends ≡ old.ends = ap (λ (l : LinkRecord). l.ends) moves.is_sent in
    record {
      sent = moves.sent;
      part = sym (moves.all ∙ ap (λ (xs : List ℕ). moves.sent ++ xs) none ∙ append-nil moves.sent);
      exchanged = Exchanged-sent old new moves.sent moves.is_sent;
      faults = omega (arith, faults);
      ends = omega (arith, ends);
    }

-- the link failed
pub puts-front : (out : List ℕ) (old new : LinkRecord) → Breaks out old new → old.faults ≤ new.faults → PutsOut false out old new × Rose old.faults new.faults
puts-front out old new breaks faults =
    let front = Exchanged-front old new breaks.sent breaks.failing in
    let ends : new.ends ≡ old.ends = ap (λ (l : LinkRecord). l.ends) breaks.failing.1 in (
      record {
        sent = breaks.sent;
        part = (breaks.left, sym breaks.all);
        exchanged = front.0;
        faults = faults;
        ends = omega (arith, ends);
      },
      front.1,
    )

-- nothing was sent
pub puts-none : (out : List ℕ) (link : LinkRecord) → PutsOut false out link link
puts-none out link = record { sent = []; part = (out, refl); exchanged = Exchanged-nothing link link refl refl; faults = omega arith; ends = omega arith }

-- ---- counts

pub counts-then : (old mid new : SessionRecord) → KeepsFaults old mid → KeepsFaults mid new → KeepsFaults old new
counts-then old mid new one other = record {
  link = (let a = one.link in let b = other.link in omega (arith, a, b));
  ends = (let a = one.ends in let b = other.ends in omega (arith, a, b));
  log = (let a = one.log in let b = other.log in omega (arith, a, b));
  stops = (let a = one.stops in let b = other.stops in omega (arith, a, b));
}

pub counts-link : (old new : SessionRecord) → old.link.faults ≤ new.link.faults → old.link.ends ≤ new.link.ends → new.log ≡ old.log → new.gate ≡ old.gate → KeepsFaults old new
counts-link old new faults ends log gate = record {
  link = faults;
  ends = ends;
  log = let same : new.log.faults ≡ old.log.faults = ap (λ (s : SinkRecord). s.faults) log in omega (arith, same);
  stops = let same : new.gate.stops ≡ old.gate.stops = ap (λ (g : GateRecord). g.stops) gate in omega (arith, same);
}

pub same-then : (old mid new : PassView) → IsSamePass old mid → IsSamePass mid new → IsSamePass old new
same-then old mid new one other = other ∙ ap (λ (p : PassView). record p { seen = new.seen }) one

pub same-actor : (old new : PassView) → IsSamePass old new → new.actor ≡ old.actor
same-actor old new same = ap (λ (p : PassView). p.actor) same

-- ---- a moment, and a later one

module _ (client : Client) (begins : ServingMoment) (a b : Answers) (steps : List Step) (messages : List Sent) (instants : List ℕ) (extends : Extends client a b steps messages instants)
  where
    pub placed-extended : placed_in b ≡ placed_in a ++ placed_of steps
    placed-extended = ap (λ (xs : List Step). placed_of xs) extends.steps_are ∙ map-append (λ (step : Step). step.placed) (steps_in a) steps

    entries-extended : entries_in b ≡ entries_in a ++ entries_of steps
    entries-extended = ap (λ (xs : List Step). entries_of xs) extends.steps_are ∙ flat_map-append (λ (step : Step). step.made) (steps_in a) steps

    records-extended : records_of (messages_in client b) ≡ records_of (messages_in client a) ++ records_of messages
    records-extended = ap records_of extends.messages_are ∙ flat_map-append (λ (m : Sent). record_of (written m)) (messages_in client a) messages

    -- with more answers
    pub reaches-more : (all whole : Bool) (taken ahead more rest : List ℕ) (now new : ServingMoment) → Reaches true true client a taken ahead begins now
        → IsPart all (placed_in a ++ placed_of steps) (records_in beginning more) → taken ++ ahead ≡ more ++ rest
        → Calls now.pass new.pass (entries_of steps) → AnsweredAll instants now.outside.clock new.outside.clock
        → PutsOut whole (records_of messages) now.outside.link new.outside.link
        → new.outside.log.written ≡ now.outside.log.written → new.outside.gate ≡ now.outside.gate
        → Reaches all whole client b more rest begins new
    reaches-more all whole taken ahead more rest now new reaches records bytes calls clock puts log gate =
        let before = records_of (messages_in client a) in
        let P : List Placed → Type 0 = λ placed. IsPart all placed (records_in beginning more) in
        let Q : List Entry → Type 0 = λ made. Calls begins.pass new.pass made in
        let R : List ℕ → Type 0 = λ front. IsPart whole (front ++ puts.sent) (before ++ records_of messages) in
        let S : List ℕ → Type 0 = λ all_sent. IsPart whole (reaches.sent ++ puts.sent) all_sent in
        let T : List ℕ → Type 0 = λ given. Exchanged begins.outside.link (reaches.sent ++ puts.sent) given new.outside.link in
        let U : List ℕ → Type 0 = λ asked. AnsweredAll asked begins.outside.clock new.outside.clock in
        let V : List Outlived → Type 0 = λ outlived.
        InTurn client outlived (record { given = taken ++ ahead; sent = reaches.sent ++ puts.sent }) begins.outside.link new.outside.link in
        let W : List ℕ → Type 0 = λ given.
        InTurn client b.outlived (record { given = given; sent = reaches.sent ++ puts.sent }) begins.outside.link new.outside.link in
        record {
          by = reaches.by;
          outlived = extends.outlived;
          last = extends.last;
          records = subst P (sym placed-extended) records;
          calls = subst Q (sym entries-extended) (calls_trans begins.pass now.pass new.pass (entries_in a) (entries_of steps) reaches.calls calls);
          sent = reaches.sent ++ puts.sent;
          sent_part = subst S (sym records-extended) (subst R (sym reaches.sent_part) (part-behind whole before puts.sent (records_of messages) puts.part));
          exchanged = subst T bytes
              (Exchanged-then_sent begins.outside.link now.outside.link new.outside.link reaches.sent (taken ++ ahead) puts.sent reaches.exchanged puts.exchanged);
          clock = subst U (sym extends.instants_are)
              (AnsweredAll-then _ instants begins.outside.clock now.outside.clock new.outside.clock reaches.clock clock);
          log = log ∙ reaches.log;
          gate = gate ∙ reaches.gate;
          in_turn = subst W bytes (subst V (sym extends.grows)
              (turn-sent client a.outlived (record { given = taken ++ ahead; sent = reaches.sent }) begins.outside.link now.outside.link new.outside.link reaches.in_turn
              extends.more puts.sent puts.exchanged.passed));
        }

-- ---- the place in the stream

-- it counts the bytes
pub came-behind : (p : Position) (bytes : List ℕ) → (in_hand p bytes).came ≡ p.came + length bytes
unfolding in_hand
came-behind p [] = omega arith
came-behind p (byte ∷ bytes) =
    let all : p.came + 1 + length bytes ≡ p.came + length (byte ∷ bytes) = omega arith in
    came-behind (forgets p.begins (p.came + 1) (after_byte p.reading byte)) bytes ∙ all

pub hand-behind : (p : Position) (taken more : List ℕ) → p ≡ in_hand beginning taken → in_hand p more ≡ in_hand beginning (taken ++ more)
hand-behind p taken more is = ap (λ (v : Position). in_hand v more) is ∙ sym (in_hand-append beginning taken more)

pub records-behind : (p : Position) (taken more : List ℕ) → p ≡ in_hand beginning taken → records_in beginning taken ++ records_in p more ≡ records_in beginning (taken ++ more)
records-behind p taken more is =
    ap (λ (v : Position). records_in beginning taken ++ records_in v more) is ∙ sym (records-append beginning taken more)

-- ---- steps were done, and what they owe was sent

module _ (client : Client) (begins : ServingMoment) (p : Position) (bytes : List ℕ) (now : ServingMoment) (here : ReadsOn client begins p bytes now) where
  pub reaches-steps : (all whole : Bool) (b : Answers) (steps : List Step) (more rest out : List ℕ) (new : ServingMoment)
      → Extends client (outliving here.outlived) b steps (messages_of steps) (instants_of client steps)
      → Does client steps (stands now.pass now.outside.clock []) (stands new.pass new.outside.clock out)
      → more ++ rest ≡ bytes → IsPart all (placed_of steps) (records_in p more)
      → PutsOut whole out now.outside.link new.outside.link → new.outside.log.written ≡ now.outside.log.written → new.outside.gate ≡ now.outside.gate
      → Reaches all whole client b (here.taken ++ more) rest begins new
  reaches-steps all whole b steps more rest out new extends does bytes_are records puts log gate =
      let P : List Placed → Type 0 = λ placed. IsPart all (placed ++ placed_of steps) (records_in beginning (here.taken ++ more)) in
      let Q : List Placed → Type 0 = λ placed. IsPart all (records_in beginning here.taken ++ placed_of steps) placed in
      let R : List ℕ → Type 0 = λ sent. PutsOut whole sent now.outside.link new.outside.link in
      reaches-more client begins (outliving here.outlived) b steps (messages_of steps) (instants_of client steps) extends all whole here.taken bytes (here.taken ++ more) rest
      now new here.reaches
      (subst P (sym here.reaches.records) (subst Q (records-behind p here.taken more here.hand_is) (part-behind all (records_in beginning here.taken) (placed_of steps) (records_in p more) records)))
      (ap (λ (xs : List ℕ). here.taken ++ xs) (sym bytes_are) ∙ sym (append_assoc here.taken more rest))
      does.calls does.clock (subst R does.sends puts) log gate
