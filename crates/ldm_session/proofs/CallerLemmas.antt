-- Lemmas for callers: what passed on a link, what a clock and a gate answered, the log of losses and the replies that were heard, over
-- one call after another.
use Rattle.std.proofs.Common.{◌≡◌, ◌∙◌, ℕ, List, [], ◌∷◌, ◌++◌, Option, Some, None, inl, inr, refl, sym, ap, subst, append_assoc}
use Rattle.std.specs.Option.{option_map}
use Rattle.std.proofs.lemmas.List.{append-nil}
use Rattle.std.proofs.lemmas.List.Concat.{flat_map-append}
use Rattle.ldm_model.specs.declared.event.Entry.{Entry}
use Rattle.ldm_outside.specs.declared.gate.Go.{Go}
use Rattle.ldm_outside.specs.declared.link.Passed.{Passed}
use Rattle.ldm_outside.specs.declared.link.Way.TheVariants as way
use Rattle.ldm_outside.specs.Clock.{ClockRecord, Answers}
use Rattle.ldm_outside.specs.Count.{Rose}
use Rattle.ldm_outside.specs.Gate.{GateRecord, Idles}
use Rattle.ldm_outside.specs.Link.{LinkRecord, Sent, Gave, Failing, passed_all, passed_piece, then_all, then_piece, after_sent, bytes_sent, bytes_given}
use Rattle.ldm_outside.proofs.LinkLemmas.{bytes_given-append, bytes_sent-append, given-none, given-piece, sent-all, sent-piece}
use Rattle.ldm_relay.specs.declared.message.TheConstants.{LARGEST_REPLY}
use Rattle.ldm_rpc.specs.Streams.{Placed, at_start, records_in}
use Rattle.ldm_rpc.proofs.Joined.{records-append}
use Rattle.ldm_session.specs.declared.replies.Replies.{Replies}
use Rattle.ldm_session.specs.Exchange.{PassesMore, TellsPassed, Exchanged, AnsweredAll, IdledAll}
use Rattle.ldm_session.specs.Gaps.{gap_log, line_of_reply}
use Rattle.ldm_session.specs.Hearing.{Heard}
use Rattle.ldm_session.specs.Owed.{Code, AreReplies, Said, hand_given, records_given}

-- ---- links

PassesMore-then : (old mid new : List Passed) (sent given more_sent more_given : List ℕ) → PassesMore old mid sent given → PassesMore mid new more_sent more_given
    → PassesMore old new (sent ++ more_sent) (given ++ more_given)
PassesMore-then old mid new sent given more_sent more_given first second = record {
  more = first.more ++ second.more;
  goes_on = second.goes_on ∙ ap (λ (x : List Passed). x ++ second.more) first.goes_on ∙ append_assoc old first.more second.more;
  sent_is = bytes_sent-append first.more second.more ∙ ap (λ (x : List ℕ). x ++ bytes_sent second.more) first.sent_is ∙ ap (λ (x : List ℕ). sent ++ x) second.sent_is;
  given_is = bytes_given-append first.more second.more ∙ ap (λ (x : List ℕ). x ++ bytes_given second.more) first.given_is ∙ ap (λ (x : List ℕ). given ++ x) second.given_is;
}

TellsPassed-then : (old mid new : Option (List Passed)) (sent given more_sent more_given : List ℕ) → TellsPassed old mid sent given → TellsPassed mid new more_sent more_given
    → TellsPassed old new (sent ++ more_sent) (given ++ more_given)
TellsPassed-then (Some old) (Some mid) (Some new) sent given more_sent more_given first second =
    PassesMore-then old mid new sent given more_sent more_given first second
TellsPassed-then None None None sent given more_sent more_given first second = tt
TellsPassed-then (Some old) (Some mid) None sent given more_sent more_given first second = absurd second
TellsPassed-then (Some old) None new sent given more_sent more_given first second = absurd first
TellsPassed-then None (Some mid) new sent given more_sent more_given first second = absurd first
TellsPassed-then None None (Some new) sent given more_sent more_given first second = absurd second

before_rest-append : (first second : List ℕ) (left : Option (List ℕ)) → option_map (λ rest. first ++ rest) (option_map (λ rest. second ++ rest) left) ≡ option_map (λ rest. (first ++ second) ++ rest) left
before_rest-append first second None = refl
before_rest-append first second (Some rest) = ap (λ (t : List ℕ). Some t) (sym (append_assoc first second rest))

-- What passed, and then what passed later.
pub Exchanged-then : (old mid new : LinkRecord) (sent given more_sent more_given : List ℕ) → Exchanged old sent given mid → Exchanged mid more_sent more_given new
    → Exchanged old (sent ++ more_sent) (given ++ more_given) new
Exchanged-then old mid new sent given more_sent more_given first second = record {
  passed = TellsPassed-then old.passed mid.passed new.passed sent given more_sent more_given first.passed second.passed;
  left = first.left ∙ ap (option_map (λ (rest : List ℕ). given ++ rest)) second.left ∙ before_rest-append given more_given new.left;
}

-- the same bytes
pub Exchanged-same : (old new : LinkRecord) (sent given same_sent same_given : List ℕ) → sent ≡ same_sent → given ≡ same_given → Exchanged old sent given new
    → Exchanged old same_sent same_given new
Exchanged-same old new sent given same_sent same_given sent_is given_is exchanged =
    let P : List ℕ → Type 0 = λ bytes. Exchanged old bytes given new in
    let Q : List ℕ → Type 0 = λ bytes. Exchanged old same_sent bytes new in
    subst Q given_is (subst P sent_is exchanged)

-- What passed, and then bytes that were sent.
pub Exchanged-then_sent : (old mid new : LinkRecord) (sent given more : List ℕ) → Exchanged old sent given mid → Exchanged mid more [] new → Exchanged old (sent ++ more) given new
Exchanged-then_sent old mid new sent given more first second =
    Exchanged-same old new (sent ++ more) (given ++ []) (sent ++ more) given refl (append-nil given) (Exchanged-then old mid new sent given more [] first second)

-- What passed, and then bytes that the link gave.
pub Exchanged-then_given : (old mid new : LinkRecord) (sent given more : List ℕ) → Exchanged old sent given mid → Exchanged mid [] more new → Exchanged old sent (given ++ more) new
Exchanged-then_given old mid new sent given more first second =
    Exchanged-same old new (sent ++ []) (given ++ more) sent (given ++ more) (append-nil sent) refl (Exchanged-then old mid new sent given [] more first second)

nothing_passed : (passed : Option (List Passed)) → TellsPassed passed passed [] []
nothing_passed None = tt
nothing_passed (Some passed) = record { more = []; goes_on = sym (append-nil passed); sent_is = refl; given_is = refl }

nothing_left_out : (left : Option (List ℕ)) → left ≡ option_map (λ rest. [] ++ rest) left
nothing_left_out None = refl
nothing_left_out (Some rest) = refl

-- Nothing passed. Counts may have risen, and the link may have been closed.
pub Exchanged-nothing : (old new : LinkRecord) → new.passed ≡ old.passed → new.left ≡ old.left → Exchanged old [] [] new
Exchanged-nothing old new passed left =
    let P : Option (List Passed) → Type 0 = λ after. TellsPassed old.passed after [] [] in
    record {
      passed = subst P (sym passed) (nothing_passed old.passed);
      left = nothing_left_out old.left ∙ ap (option_map (λ (rest : List ℕ). [] ++ rest)) (sym left);
    }

-- What passed, and then nothing.
pub Exchanged-still : (old mid new : LinkRecord) (sent given : List ℕ) → Exchanged old sent given mid → new.passed ≡ mid.passed → new.left ≡ mid.left → Exchanged old sent given new
Exchanged-still old mid new sent given exchanged passed left =
    let P : Option (List Passed) → Type 0 = λ after. TellsPassed old.passed after sent given in
    record {
      passed = subst P (sym passed) exchanged.passed;
      left = exchanged.left ∙ ap (option_map (λ (rest : List ℕ). given ++ rest)) (sym left);
    }

passed_sent : (piece : List ℕ) (passed : Option (List Passed)) → TellsPassed passed (option_map (then_all way.Sent piece) passed) piece []
passed_sent piece None = tt
passed_sent piece (Some passed) =
    record { more = passed_all way.Sent piece; goes_on = refl; sent_is = sent-all piece; given_is = given-none piece }

passed_given : (piece : List ℕ) (passed : Option (List Passed)) → TellsPassed passed (option_map (then_piece piece) passed) [] piece
passed_given piece None = tt
passed_given piece (Some passed) =
    record { more = passed_piece piece; goes_on = refl; sent_is = sent-piece piece; given_is = given-piece piece }

-- The link was sent a piece.
pub Exchanged-sent : (old new : LinkRecord) (piece : List ℕ) → Sent old piece new → Exchanged old piece [] new
Exchanged-sent old new piece sent =
    let P : LinkRecord → Type 0 = λ link. Exchanged old piece [] link in
    let there : Exchanged old piece [] (after_sent piece old) = record { passed = passed_sent piece old.passed; left = nothing_left_out old.left } in
    subst P (sym sent) there

-- The link gave a piece.
pub Exchanged-gave : (old new : LinkRecord) (piece : List ℕ) → Gave old piece new → Exchanged old [] piece new
Exchanged-gave old new piece gave =
    let P : Option (List Passed) → Type 0 = λ after. TellsPassed old.passed after [] piece in
    record { passed = subst P (sym (ap (λ (link : LinkRecord). link.passed) gave.1)) (passed_given piece old.passed); left = gave.0 }

-- The link failed, and nothing passed.
pub Exchanged-failing : (old new : LinkRecord) → Failing old new → Exchanged old [] [] new
Exchanged-failing old new failing =
    Exchanged-nothing old new (ap (λ (link : LinkRecord). link.passed) failing.1) (ap (λ (link : LinkRecord). link.left) failing.1)

-- The link failed once it was sent a front of a piece.
pub Exchanged-front : (old new : LinkRecord) (front : List ℕ) → Failing (after_sent front old) new → Exchanged old front [] new × Rose old.faults new.faults
Exchanged-front old new front failing =
    let there : Exchanged old front [] (after_sent front old) = Exchanged-sent old (after_sent front old) front refl in (
      Exchanged-still old (after_sent front old) new front [] there (ap (λ (link : LinkRecord). link.passed) failing.1) (ap (λ (link : LinkRecord). link.left) failing.1),
      failing.0,
    )

-- ---- clocks and gates

after_none : (answers : Option (List ℕ)) → answers ≡ option_map (λ before. before ++ []) answers
after_none None = refl
after_none (Some before) = ap (λ (t : List ℕ). Some t) (sym (append-nil before))

after_more : (first second : List ℕ) (answers : Option (List ℕ)) → option_map (λ before. before ++ second) (option_map (λ before. before ++ first) answers) ≡ option_map (λ before. before ++ (first ++ second)) answers
after_more first second None = refl
after_more first second (Some before) = ap (λ (t : List ℕ). Some t) (append_assoc before first second)

-- A clock that was not asked.
pub AnsweredAll-nothing : (clock : ClockRecord) → AnsweredAll [] clock clock
AnsweredAll-nothing clock = inl (after_none clock.answers)

-- One answer.
pub AnsweredAll-one : (instant : ℕ) (old new : ClockRecord) → Answers instant old new → AnsweredAll (instant ∷ []) old new
AnsweredAll-one instant old new answered = answered

-- Answers, and then later ones.
pub AnsweredAll-then : (first second : List ℕ) (old mid new : ClockRecord) → AnsweredAll first old mid → AnsweredAll second mid new → AnsweredAll (first ++ second) old new
AnsweredAll-then first second old mid new one (inr silent) = inr silent
AnsweredAll-then first second old mid new (inl told) (inl more) =
    inl (more ∙ ap (option_map (λ (before : List ℕ). before ++ second)) told ∙ after_more first second old.answers)
AnsweredAll-then first second old mid new (inr silent) (inl more) = inr (more ∙ ap (option_map (λ (before : List ℕ). before ++ second)) silent)

-- One answer to an idle call.
pub IdledAll-one : (go : Go) (old new : GateRecord) → Idles go old new → IdledAll (go ∷ []) old new
IdledAll-one go old new idled = (new, idled, refl)

-- Answers to idle calls, and then later ones.
pub IdledAll-then : (first second : List Go) (old mid new : GateRecord) → IdledAll first old mid → IdledAll second mid new → IdledAll (first ++ second) old new
IdledAll-then [] second old mid new one more =
    let P : GateRecord → Type 0 = λ gate. IdledAll second gate new in
    subst P one more
IdledAll-then (go ∷ first) second old mid new one more = (one.0, one.1, IdledAll-then first second one.0 mid new one.2 more)

-- ---- fronts of bytes

module _ {A : Type 0} where
  -- What is gathered goes out in parts: what was there and what was added is what went out and what is there.
  pub gathered-then : (before first went mid second went_then after : List A) → before ++ first ≡ went ++ mid → mid ++ second ≡ went_then ++ after
      → before ++ (first ++ second) ≡ (went ++ went_then) ++ after
  gathered-then before first went mid second went_then after one two =
      sym (append_assoc before first second) ∙ ap (λ (t : List A). t ++ second) one ∙ append_assoc went mid second
      ∙ ap (λ (t : List A). went ++ t) two ∙ sym (append_assoc went went_then after)

  -- The same, where a front of the last part went out.
  pub gathered-front : (before first went mid second went_then rest : List A) → before ++ first ≡ went ++ mid → went_then ++ rest ≡ mid ++ second
      → (went ++ went_then) ++ rest ≡ before ++ (first ++ second)
  gathered-front before first went mid second went_then rest one two = sym (gathered-then before first went mid second went_then rest one (sym two))

  -- A front of what follows, behind all of what is before it.
  pub front-behind : (first front rest second : List A) → front ++ rest ≡ second → (first ++ front) ++ rest ≡ first ++ second
  front-behind first front rest second is = append_assoc first front rest ∙ ap (λ (t : List A). first ++ t) is

  -- A front, whatever follows.
  pub front-before : (front rest first more : List A) → front ++ rest ≡ first → front ++ (rest ++ more) ≡ first ++ more
  front-before front rest first more is = sym (append_assoc front rest more) ∙ ap (λ (t : List A). t ++ more) is

-- ---- the log of losses

pub gap_log-append : (host : List ℕ) (first second : List Entry) → gap_log host (first ++ second) ≡ gap_log host first ++ gap_log host second
gap_log-append host first second = flat_map-append (λ (entry : Entry). line_of_reply host entry.reply) first second

-- ---- replies

-- The first records are the first replies.
AreReplies-front : (codes more : List Code) (records : List Placed) → AreReplies (codes ++ more) records → (first later : List Placed) × (records ≡ first ++ later) × AreReplies codes first
AreReplies-front [] more records each = ([], records, refl, tt)
AreReplies-front (code ∷ codes) more [] each = absurd each
AreReplies-front (code ∷ codes) more (placed ∷ records) each =
    let front = AreReplies-front codes more records each.1 in
    (placed ∷ front.0, front.1, ap (λ (t : List Placed). placed ∷ t) front.2, (each.0, front.3))

-- Fewer replies, with the others behind them.
pub Said-front : (given : List ℕ) (codes more : List Code) (behind : List Placed) → Said given (codes ++ more) behind → (later : List Placed) × Said given codes later
Said-front given codes more behind said =
    let front = AreReplies-front codes more said.replies said.each in (
      front.1 ++ behind,
      record {
        replies = front.0;
        records_are = said.records_are ∙ ap (λ (t : List Placed). t ++ behind) front.2 ∙ append_assoc front.0 front.1 behind;
        each = front.3;
      },
    )

-- What was heard is the first replies, whatever waits.
pub Heard-said : (given : List ℕ) (codes : List Code) (replies : Replies) → Heard given codes replies → (behind : List Placed) × Said given codes behind
Heard-said given codes replies heard = (
  records_in (hand_given heard.seen) replies.waiting,
  record {
    replies = records_given heard.seen;
    records_are = ap records_given heard.all ∙ records-append (at_start LARGEST_REPLY) heard.seen replies.waiting;
    each = heard.each;
  },
)
