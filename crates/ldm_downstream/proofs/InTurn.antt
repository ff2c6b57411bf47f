-- Rounds, one after another: what passed in them, and what a receiving made of them.
use Rattle.std.proofs.Common.{◌≡◌, ℕ, List, [], ◌∷◌, ◌++◌, map, Option, Some, None, refl, ap, sym, subst, ◌∙◌, append_assoc}
use Rattle.std.specs.Option.{option_map}
use Rattle.std.proofs.lemmas.List.{append-nil, map-append}
use Rattle.std.proofs.lemmas.List.Concat.{flat_map-append}
use Rattle.ldm_outside.specs.declared.link.Passed.{Passed}
use Rattle.ldm_outside.specs.declared.link.Way.TheVariants as way
use Rattle.ldm_outside.specs.Link.{LinkRecord, bytes_given, bytes_sent, passed_all, passed_piece}
use Rattle.ldm_outside.proofs.LinkLemmas.{bytes_given-append, bytes_sent-append, given-none, given-piece, sent-all, sent-piece}
use Rattle.ldm_intake.specs.declared.end.RecvEnd.{RecvEnd}
use Rattle.ldm_intake.specs.TakesRecord.{Standing}
use Rattle.ldm_downstream.specs.Answering.{Place, TakesRounds, TimedRound, left_ahead, piece_of, pieces_in, rounds_of}
use Rattle.ldm_downstream.specs.InTurn.{PassesRounds, Round, given_in, passed_in, sent_in}
use Rattle.ldm_downstream.specs.Pieces.{Piece, joined}
use Rattle.ldm_downstream.specs.Receives.{AnswersInTurn, EndsRounds}
use Rattle.ldm_downstream.specs.Sessions.{PassesPiece, PassesSent}

-- ---- what passed

-- a round that is timed
round_at : TimedRound → Round
round_at timed = timed.round

rounds-append : (first : List ℕ) (xs ys : List TimedRound) → rounds_of first (xs ++ ys) ≡ rounds_of first xs ++ map round_at ys
unfolding round_at
rounds-append first xs ys =
    ap (λ (rounds : List Round). record { given = []; sent = first } ∷ rounds) (map-append (λ (timed : TimedRound). timed.round) xs ys)

passed-append : (first : List ℕ) (xs ys : List TimedRound) → passed_in (rounds_of first (xs ++ ys)) ≡ passed_in (rounds_of first xs) ++ passed_in (rounds_of [] ys)
unfolding round_at
passed-append first xs ys =
    ap passed_in (rounds-append first xs ys)
    ∙ flat_map-append (λ (round : Round). passed_piece round.given ++ passed_all way.Sent round.sent) (rounds_of first xs) (map round_at ys)

pub sent-append : (first : List ℕ) (xs ys : List TimedRound) → sent_in (rounds_of first (xs ++ ys)) ≡ sent_in (rounds_of first xs) ++ sent_in (rounds_of [] ys)
unfolding round_at
sent-append first xs ys =
    ap sent_in (rounds-append first xs ys) ∙ flat_map-append (λ (round : Round). round.sent) (rounds_of first xs) (map round_at ys)

behind-both : (first second : List Passed) (passed : Option (List Passed)) → option_map (λ before. before ++ second) (option_map (λ before. before ++ first) passed)
    ≡ option_map (λ before. before ++ (first ++ second)) passed
behind-both first second None = refl
behind-both first second (Some before) = ap (λ (t : List Passed). Some t) (append_assoc before first second)

behind-none : (passed : Option (List Passed)) → passed ≡ option_map (λ before. before ++ []) passed
behind-none None = refl
behind-none (Some before) = ap (λ (t : List Passed). Some t) (sym (append-nil before))

-- nothing was sent
pub passes-none : (link : LinkRecord) → PassesSent [] link link
passes-none link = behind-none link.passed

-- no piece came
pub passes-no-piece : (link : LinkRecord) → PassesPiece [] link link
passes-no-piece link = behind-none link.passed

-- the same items
passes-same : (old new : LinkRecord) (items same : List Passed) → items ≡ same → new.passed ≡ option_map (λ before. before ++ items) old.passed
    → new.passed ≡ option_map (λ before. before ++ same) old.passed
passes-same old new items same is passes = passes ∙ ap (λ (more : List Passed). option_map (λ (before : List Passed). before ++ more) old.passed) is

-- rounds, and then others
pub passes-then : (first : List ℕ) (xs ys : List TimedRound) (old mid new : LinkRecord) → PassesRounds (rounds_of first xs) old mid → PassesRounds (rounds_of [] ys) mid new
    → PassesRounds (rounds_of first (xs ++ ys)) old new
passes-then first xs ys old mid new one other =
    passes-same old new (passed_in (rounds_of first xs) ++ passed_in (rounds_of [] ys)) (passed_in (rounds_of first (xs ++ ys))) (sym (passed-append first xs ys))
    (other ∙ ap (option_map (λ (before : List Passed). before ++ passed_in (rounds_of [] ys))) one
    ∙ behind-both (passed_in (rounds_of first xs)) (passed_in (rounds_of [] ys)) old.passed)

-- nothing passed
pub passes-nothing : (old new : LinkRecord) → new.passed ≡ old.passed → PassesRounds (rounds_of [] []) old new
passes-nothing old new same = same ∙ behind-none old.passed

-- bytes were sent, and no piece came
pub passes-sent : (sent : List ℕ) (old new : LinkRecord) → PassesSent sent old new → PassesRounds (rounds_of sent []) old new
passes-sent sent old new sends = passes-same old new (passed_all way.Sent sent) (passed_in (rounds_of sent [])) (sym (append-nil (passed_all way.Sent sent))) sends

-- one round
pub passes-round : (timed : TimedRound) (old mid new : LinkRecord) → PassesPiece timed.round.given old mid → PassesSent timed.round.sent mid new
    → PassesRounds (rounds_of [] (timed ∷ [])) old new
passes-round timed old mid new gave sends =
    let given = passed_piece timed.round.given in
    let sent = passed_all way.Sent timed.round.sent in
    passes-same old new (given ++ sent) (passed_in (rounds_of [] (timed ∷ []))) (sym (append-nil (given ++ sent)))
    (sends ∙ ap (option_map (λ (before : List Passed). before ++ sent)) gave ∙ behind-both given sent old.passed)

-- ---- their pieces

pieces-append : (xs ys : List TimedRound) → pieces_in [] (xs ++ ys) ≡ pieces_in [] xs ++ pieces_in [] ys
pieces-append [] ys = refl
pieces-append (timed ∷ xs) ys = ap (λ (pieces : List Piece). piece_of [] timed ∷ pieces) (pieces-append xs ys)

pub pieces-then : (ahead : List ℕ) (xs ys : List TimedRound) → left_ahead ahead xs ≡ [] → pieces_in ahead (xs ++ ys) ≡ pieces_in ahead xs ++ pieces_in [] ys
pieces-then ahead [] ys none = ap (λ (bytes : List ℕ). pieces_in bytes ys) none
pieces-then ahead (timed ∷ xs) ys none = ap (λ (pieces : List Piece). piece_of ahead timed ∷ pieces) (pieces-append xs ys)

-- what came ahead is in these pieces
pub none-left : (ahead given : List ℕ) (pieces : List Piece) (rounds : List TimedRound) → pieces ≡ pieces_in ahead rounds → joined pieces ≡ ahead ++ given
    → left_ahead ahead rounds ≡ []
none-left [] given pieces [] are all = refl
none-left (byte ∷ ahead) given pieces [] are all = absurd (let nothing : [] ≡ byte ∷ (ahead ++ given) = sym (ap joined are) ∙ all in cc nothing)
none-left ahead given pieces (timed ∷ rounds) are all = refl

-- no piece came in no round
pub rounds-none : (rounds : List TimedRound) → [] ≡ pieces_in [] rounds → rounds ≡ []
rounds-none [] none = refl
rounds-none (timed ∷ rounds) none = absurd (cc none)

left-none : (rounds : List TimedRound) → left_ahead [] rounds ≡ []
left-none [] = refl
left-none (timed ∷ rounds) = refl

left-append : (ahead : List ℕ) (xs ys : List TimedRound) → left_ahead ahead xs ≡ [] → left_ahead ahead (xs ++ ys) ≡ []
left-append ahead [] ys none = ap (λ (bytes : List ℕ). left_ahead bytes ys) none ∙ left-none ys
left-append ahead (timed ∷ xs) ys none = refl

-- ---- what a receiving made of them

pub takes-rounds : (ahead : List ℕ) (xs ys : List TimedRound) (a b c : Place) → left_ahead ahead xs ≡ [] → TakesRounds ahead xs a b → TakesRounds [] ys b c
    → TakesRounds ahead (xs ++ ys) a c
takes-rounds ahead [] ys a b c none same later =
    let P : List ℕ → Type 0 = λ bytes. TakesRounds bytes ys a c in
    let Q : Place → Type 0 = λ place. TakesRounds [] ys place c in
    subst P (sym none) (subst Q same later)
takes-rounds ahead (timed ∷ xs) ys a b c none before later =
    (before.0, before.1, takes-rounds [] xs ys before.0 b c (left-none xs) before.2 later)

pub answers-then : (end : RecvEnd) (ahead : List ℕ) (xs ys : List TimedRound) (a b : Place) (c new : Standing) → left_ahead ahead xs ≡ [] → TakesRounds ahead xs a b
    → c.receiving ≡ new.receiving → c.pass ≡ new.pass → AnswersInTurn end [] ys b c → AnswersInTurn end ahead (xs ++ ys) a new
answers-then end ahead xs ys a b c new none before receiving pass later = record {
  front = xs ++ later.front;
  last = later.last;
  all = ap (λ (rounds : List TimedRound). xs ++ rounds) later.all ∙ sym (append_assoc xs later.front later.last);
  between = later.between;
  takes = takes-rounds ahead xs later.front a b later.between none before later.takes;
  at_end = later.at_end;
  ends = subst (λ (bytes : List ℕ). EndsRounds end bytes later.last later.between later.at_end)
      (left-none later.front ∙ sym (left-append ahead xs later.front none)) later.ends;
  receiving = later.receiving ∙ receiving;
  pass = later.pass ∙ pass;
}

-- ---- what a link tells of rounds

pub told-sent : (rounds : List Round) → bytes_sent (passed_in rounds) ≡ sent_in rounds
told-sent [] = refl
told-sent (round ∷ rounds) =
    let given = passed_piece round.given in
    let sent = passed_all way.Sent round.sent in
    bytes_sent-append (given ++ sent) (passed_in rounds)
    ∙ ap (λ (x : List ℕ). x ++ bytes_sent (passed_in rounds))
    (bytes_sent-append given sent ∙ ap (λ (x : List ℕ). x ++ bytes_sent sent) (sent-piece round.given) ∙ sent-all round.sent)
    ∙ ap (λ (x : List ℕ). round.sent ++ x) (told-sent rounds)

pub told-given : (rounds : List Round) → bytes_given (passed_in rounds) ≡ given_in rounds
told-given [] = refl
told-given (round ∷ rounds) =
    let given = passed_piece round.given in
    let sent = passed_all way.Sent round.sent in
    bytes_given-append (given ++ sent) (passed_in rounds)
    ∙ ap (λ (x : List ℕ). x ++ bytes_given (passed_in rounds))
    (bytes_given-append given sent ∙ ap (λ (x : List ℕ). bytes_given given ++ x) (given-none round.sent) ∙ append-nil (bytes_given given)
    ∙ given-piece round.given)
    ∙ ap (λ (x : List ℕ). round.given ++ x) (told-given rounds)
