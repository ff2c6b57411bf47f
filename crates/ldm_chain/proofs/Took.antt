-- What the receiver of a mirror took, and what a feeding over a mirror sent and heard.
use Rattle.std.proofs.Common.{◌≡◌, ℕ, ◌<◌, List, ◌++◌, length, Option, Some, None, ap, sym, subst, ◌∙◌, append_assoc, arith}
use Rattle.std.proofs.lemmas.List.{append_cancel_left}
use Rattle.ldm_model.specs.declared.event.Entry.{Entry}
use Rattle.ldm_rpc.specs.Streams.{Position}
use Rattle.ldm_outside.specs.declared.link.Passed.{Passed}
use Rattle.ldm_outside.specs.declared.link.Way.TheVariants as way
use Rattle.ldm_outside.specs.Link.{bytes_given, bytes_sent, then_piece}
use Rattle.ldm_outside.proofs.LinkLemmas.{bytes_given-append, bytes_given-more, bytes_sent-append}
use Rattle.ldm_shared.specs.Passes.{PassView, Calls}
use Rattle.ldm_session.specs.Exchange.{PassesMore}
use Rattle.ldm_intake.specs.declared.end.RecvEnd.{RecvEnd}
use Rattle.ldm_intake.specs.declared.end.RecvEnd.TheVariants as receive
use Rattle.ldm_intake.specs.Course.{Leads}
use Rattle.ldm_intake.specs.Opening.{request_of}
use Rattle.ldm_intake.specs.Receiving.{Receiving}
use Rattle.ldm_relay.specs.Spelling.{records_of}
use Rattle.ldm_intake.specs.Taken.{Taken}
use Rattle.ldm_intake.specs.TakesRecord.{Standing, stands}
use Rattle.ldm_session.specs.declared.limits.TheConstants.{LONGEST_STREAM}
use Rattle.ldm_downstream.specs.Pieces.{Piece, beginning, joined}
use Rattle.ldm_downstream.specs.Pushing.{Continues, Ends, EndsWhole}
use Rattle.ldm_downstream.specs.Received.{received}
use Rattle.ldm_downstream.specs.Receives.{at_first}
use Rattle.ldm_downstream.proofs.PieceEnds.{continues-takes}
use Rattle.ldm_chain.specs.Beginning.{Beginning}
use Rattle.ldm_chain.specs.MirrorView.{MirrorView}
use Rattle.ldm_chain.specs.Reflecting.{Reflects, Went, pieces_at}
use Rattle.ldm_chain.proofs.Mirroring.{bytes_sent-given}
use Rattle.ldm_chain.proofs.Moment.{few-came}

-- The receiver of a mirror began so and took the bytes that were sent, all at one moment. It goes on, or ended by what it was told.
pub record Took (s : Receiving) (before : PassView) (now : ℕ) (m : MirrorView) : Type 0 where
  pub parts : List (List ℕ)
  pub came : joined (pieces_at now parts) ≡ bytes_sent m.passed
  pub made : List Entry
  pub to : Taken
  pub leads : Leads before.actor (received s beginning (pieces_at now parts)) made to
  pub end_is : to.end ≡ m.receiver.end
  pub calls : m.receiver.end ≡ None → Calls before m.pass made
  pub out : bytes_given m.passed ++ m.waiting ≡ records_of (request_of s) ++ records_of to.replies
  pub few : length (joined (pieces_at now parts)) < LONGEST_STREAM

pub took : (b : Beginning) (s : Receiving) (before : PassView) (now : ℕ) (m : MirrorView) → Reflects b m → b.first ≡ at_first s before → b.now ≡ now
    → m.receiver.end ≡ None → Took s before now m
took b s before now m r first moment live =
    let after : Standing = stands m.receiver.receiving m.pass (bytes_given m.passed ++ m.waiting) r.notes in
    let hand : Position = m.receiver.hand in
    let went : Continues (pieces_at b.now r.parts) beginning hand b.first after = subst (λ (e : Option RecvEnd). Went e (pieces_at b.now r.parts) hand b.first after) live r.went in
    let on : Continues (pieces_at now r.parts) beginning hand (at_first s before) after =
    subst (λ (n : ℕ). Continues (pieces_at n r.parts) beginning hand (at_first s before) after) moment
    (subst (λ (f : Standing). Continues (pieces_at b.now r.parts) beginning hand f after) first went) in
    let takes = on.takes in
    let sound = (continues-takes beginning hand (pieces_at now r.parts) (at_first s before) after on).1 in
    let few = few-came beginning (pieces_at now r.parts) (omega arith) sound in
    record {
      parts = r.parts;
      came = subst (λ (n : ℕ). joined (pieces_at n r.parts) ≡ bytes_sent m.passed) moment r.sent_is;
      made = takes.made;
      to = takes.to;
      leads = takes.leads;
      end_is = takes.end_is ∙ sym live;
      calls = λ goes_on. takes.calls;
      out = takes.sends;
      few = omega (arith, few);
    }

-- an end by what the receiver was told
abbrev pub IsTold : RecvEnd → Type 0
IsTold (receive.BadFrame at) = Unit {0}
IsTold (receive.Refused answer) = Unit {0}
IsTold receive.StreamLimit = Unit {0}
IsTold _ = ⊥

ends-whole : (told : RecvEnd) (pieces : List Piece) (p : Position) (old new : Standing) → IsTold told → Ends told pieces p old new → EndsWhole told pieces p old new
ends-whole (receive.BadFrame at) pieces p old new is ends = ends
ends-whole (receive.Refused answer) pieces p old new is ends = ends
ends-whole receive.StreamLimit pieces p old new is ends = ends
ends-whole receive.Ended pieces p old new is ends = absurd is
ends-whole (receive.Truncated at) pieces p old new is ends = absurd is
ends-whole receive.LinkFault pieces p old new is ends = absurd is
ends-whole receive.LogFault pieces p old new is ends = absurd is
ends-whole receive.Worn pieces p old new is ends = absurd is
ends-whole receive.OutOfMemory pieces p old new is ends = absurd is

pub took-told : (b : Beginning) (s : Receiving) (before : PassView) (m : MirrorView) (told : RecvEnd) → Reflects b m → b.first ≡ at_first s before → IsTold told
    → m.receiver.end ≡ Some told → length (bytes_sent m.passed) < LONGEST_STREAM → Took s before b.now m
took-told b s before m told r first is over few =
    let after : Standing = stands m.receiver.receiving m.pass (bytes_given m.passed ++ m.waiting) r.notes in
    let pieces = pieces_at b.now r.parts in
    let went : Ends told pieces beginning b.first after = subst (λ (e : Option RecvEnd). Went e pieces m.receiver.hand b.first after) over r.went in
    let whole : EndsWhole told pieces beginning (at_first s before) after =
    subst (λ (f : Standing). EndsWhole told pieces beginning f after) first (ends-whole told pieces beginning b.first after is went) in
    let takes = whole.takes in
    record {
      parts = r.parts;
      came = r.sent_is;
      made = takes.made;
      to = takes.to;
      leads = takes.leads;
      end_is = takes.end_is ∙ sym over;
      calls = λ goes_on. absurd (let no : Some told ≡ None = sym over ∙ goes_on in cc no);
      out = whole.gives_up.sends ∙ takes.sends;
      few = omega (arith, few, ap length r.sent_is);
    }

-- ---- what passed

pub sent-then : (old new : List Passed) (sent given : List ℕ) → PassesMore old new sent given → bytes_sent new ≡ bytes_sent old ++ sent
sent-then old new sent given more =
    ap bytes_sent more.goes_on ∙ bytes_sent-append old more.more ∙ ap (λ (x : List ℕ). bytes_sent old ++ x) more.sent_is

pub given-then : (old new : List Passed) (sent given : List ℕ) → PassesMore old new sent given → bytes_given new ≡ bytes_given old ++ given
given-then old new sent given more =
    ap bytes_given more.goes_on ∙ bytes_given-append old more.more ∙ ap (λ (x : List ℕ). bytes_given old ++ x) more.given_is

-- all that waited was read, and then this passed
module _ (m : MirrorView) (new : List Passed) (sent given : List ℕ) (more : PassesMore (then_piece m.waiting m.passed) new sent given) where
  pub sent-behind : bytes_sent new ≡ bytes_sent m.passed ++ sent
  sent-behind = sent-then (then_piece m.waiting m.passed) new sent given more ∙ ap (λ (x : List ℕ). x ++ sent) (bytes_sent-given m.waiting m.passed)

  pub given-behind : bytes_given new ≡ (bytes_given m.passed ++ m.waiting) ++ given
  given-behind = given-then (then_piece m.waiting m.passed) new sent given more ∙ ap (λ (x : List ℕ). x ++ given) (bytes_given-more m.waiting m.passed)

  -- what was replied behind that is what was given and what waits
  pub replied-behind : (waiting front replies : List ℕ) → bytes_given m.passed ++ m.waiting ≡ front → bytes_given new ++ waiting ≡ front ++ replies → given ++ waiting ≡ replies
  replied-behind waiting front replies before all =
      append_cancel_left front (given ++ waiting) replies
      (sym (append_assoc front given waiting) ∙ ap (λ (x : List ℕ). x ++ given ++ waiting) (sym before) ∙ ap (λ (x : List ℕ). x ++ waiting) (sym given-behind) ∙ all)
