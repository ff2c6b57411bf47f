-- What passed in turn, and then more.
use Rattle.std.proofs.Common.{◌≡◌, ◌∙◌, ℕ, ◌≤◌, ◌⊎◌, List, [], ◌∷◌, ◌++◌, length, Option, Some, None, inl, inr, refl, sym, ap, subst, arith, append_assoc, append-nil}
use Rattle.std.specs.Prelude.{All, map}
use Rattle.std.specs.List.{flat_map}
use Rattle.std.specs.Option.{option_map}
use Rattle.std.proofs.lemmas.List.{map-append}
use Rattle.std.proofs.lemmas.List.Concat.{flat_map-append}
use Rattle.std.proofs.lemmas.List.Elements.{All-nil, All-push}
use Rattle.ldm_outside.specs.declared.link.Passed.{Passed}
use Rattle.ldm_outside.specs.declared.link.Way.{Way}
use Rattle.ldm_outside.specs.declared.link.Way.TheVariants as way
use Rattle.ldm_outside.specs.Link.{LinkRecord, bytes_given, bytes_sent, passed_all, passed_piece, then_all, then_piece, with_given, with_sent}
use Rattle.ldm_rpc.specs.Streams.{records_in}
use Rattle.ldm_session.specs.Exchange.{TellsPassed}
use Rattle.ldm_relay.specs.Spelling.{records_of}
use Rattle.ldm_downstream.specs.declared.limits.TheConstants.{LONGEST_PIECE}
use Rattle.ldm_serve.specs.Client.{Client}
use Rattle.ldm_downstream.specs.InTurn.{PassesRounds, Round, given_in, passed_in, sent_in}
use Rattle.ldm_downstream.specs.Sessions.{PassesPiece}
use Rattle.ldm_serve.specs.InTurn.{AreAnswered, InTurn, IsSmall}
use Rattle.ldm_serve.specs.Outlived.{Outlived, messages_for_all, step_of}
use Rattle.ldm_serve.specs.ServingView.{beginning}
use Rattle.ldm_serve.specs.Steps.{placed_of}

-- ---- bytes that all went one way

only-first : (w : Way) (byte : ℕ) (more : List Passed) (others bytes : List ℕ) → with_given w byte others ≡ []
    → (others ≡ [] → more ≡ passed_all way.Sent bytes) → record { way = w; byte = byte } ∷ more ≡ passed_all way.Sent (with_sent w byte bytes)
only-first way.Sent byte more others bytes none same = ap (λ (xs : List Passed). record { way = way.Sent; byte = byte } ∷ xs) (same none)
only-first way.First byte more others bytes none same = absurd (cc none)
only-first way.Given byte more others bytes none same = absurd (cc none)

only-sent : (more : List Passed) → bytes_given more ≡ [] → more ≡ passed_all way.Sent (bytes_sent more)
only-sent [] none = refl
only-sent (item ∷ more) none = only-first item.way item.byte more (bytes_given more) (bytes_sent more) none (λ none_more. only-sent more none_more)

tells-sent : (old new : Option (List Passed)) (sent : List ℕ) → TellsPassed old new sent [] → new ≡ option_map (then_all way.Sent sent) old
tells-sent (Some old) (Some new) sent passes =
    let all : passes.more ≡ passed_all way.Sent sent = only-sent passes.more passes.given_is ∙ ap (passed_all way.Sent) passes.sent_is in
    ap (λ (xs : List Passed). Some xs) (passes.goes_on ∙ ap (λ (xs : List Passed). old ++ xs) all)
tells-sent None None sent passes = refl
tells-sent (Some old) None sent passes = absurd passes
tells-sent None (Some new) sent passes = absurd passes

-- ---- rounds

-- what passed then goes on with what passed behind it
passed-then : (old : Option (List Passed)) (first more all : List Passed) → all ≡ first ++ more
    → option_map (λ (before : List Passed). before ++ more) (option_map (λ (before : List Passed). before ++ first) old) ≡ option_map (λ (before : List Passed). before ++ all) old
passed-then None first more all is = refl
passed-then (Some old) first more all is = ap (λ (xs : List Passed). Some xs) (append_assoc old first more ∙ ap (λ (xs : List Passed). old ++ xs) (sym is))

-- the latest round, with more that is sent
abbrev pub sends-more : Round → List ℕ → Round
sends-more latest more = record { given = latest.given; sent = latest.sent ++ more }

-- a round in which some bytes came
abbrev pub brings : List ℕ → Round
brings bytes = record { given = bytes; sent = [] }

module _ {A : Type 0} where
  behind-one : (xs ys more : List A) → ((xs ++ (ys ++ more)) ++ []) ≡ ((xs ++ ys) ++ []) ++ more
  behind-one xs ys more =
      append-nil (xs ++ (ys ++ more)) ∙ sym (append_assoc xs ys more) ∙ ap (λ (all : List A). all ++ more) (sym (append-nil (xs ++ ys)))

passed-sent : (before : List Round) (latest : Round) (more : List ℕ)
    → passed_in (before ++ sends-more latest more ∷ []) ≡ passed_in (before ++ latest ∷ []) ++ passed_all way.Sent more
passed-sent before latest more =
    let of : Round → List Passed = λ (round : Round). passed_piece round.given ++ passed_all way.Sent round.sent in
    let given = passed_piece latest.given in
    let sent = passed_all way.Sent latest.sent in
    let rest = passed_all way.Sent more in
    flat_map-append of before (sends-more latest more ∷ [])
    ∙ ap (λ (xs : List Passed). passed_in before ++ ((given ++ xs) ++ [])) (map-append (λ (byte : ℕ). record { way = way.Sent; byte = byte }) latest.sent more)
    ∙ ap (λ (xs : List Passed). passed_in before ++ xs) (behind-one given sent rest)
    ∙ sym (append_assoc (passed_in before) ((given ++ sent) ++ []) rest)
    ∙ ap (λ (xs : List Passed). xs ++ rest) (sym (flat_map-append of before (latest ∷ [])))

sent-sent : (before : List Round) (latest : Round) (more : List ℕ) → sent_in (before ++ sends-more latest more ∷ []) ≡ sent_in (before ++ latest ∷ []) ++ more
sent-sent before latest more =
    let of : Round → List ℕ = λ (round : Round). round.sent in
    flat_map-append of before (sends-more latest more ∷ [])
    ∙ ap (λ (xs : List ℕ). sent_in before ++ xs) (append-nil (latest.sent ++ more) ∙ ap (λ (xs : List ℕ). xs ++ more) (sym (append-nil latest.sent)))
    ∙ sym (append_assoc (sent_in before) (latest.sent ++ []) more)
    ∙ ap (λ (xs : List ℕ). xs ++ more) (sym (flat_map-append of before (latest ∷ [])))

given-sent : (before : List Round) (latest : Round) (more : List ℕ) → given_in (before ++ sends-more latest more ∷ []) ≡ given_in (before ++ latest ∷ [])
given-sent before latest more =
    let of : Round → List ℕ = λ (round : Round). round.given in
    flat_map-append of before (sends-more latest more ∷ []) ∙ sym (flat_map-append of before (latest ∷ []))

passed-given : (rounds : List Round) (bytes : List ℕ) → passed_in (rounds ++ brings bytes ∷ []) ≡ passed_in rounds ++ passed_piece bytes
passed-given rounds bytes =
    let of : Round → List Passed = λ (round : Round). passed_piece round.given ++ passed_all way.Sent round.sent in
    let given = passed_piece bytes in
    flat_map-append of rounds (brings bytes ∷ []) ∙ ap (λ (xs : List Passed). passed_in rounds ++ xs) (append-nil (given ++ []) ∙ append-nil given)

sent-given : (rounds : List Round) (bytes : List ℕ) → sent_in (rounds ++ brings bytes ∷ []) ≡ sent_in rounds
sent-given rounds bytes =
    let of : Round → List ℕ = λ (round : Round). round.sent in
    flat_map-append of rounds (brings bytes ∷ []) ∙ append-nil (sent_in rounds)

given-given : (rounds : List Round) (bytes : List ℕ) → given_in (rounds ++ brings bytes ∷ []) ≡ given_in rounds ++ bytes
given-given rounds bytes =
    let of : Round → List ℕ = λ (round : Round). round.given in
    flat_map-append of rounds (brings bytes ∷ []) ∙ ap (λ (xs : List ℕ). given_in rounds ++ xs) (append-nil bytes)

-- ---- fronts of rounds

module _ {A : Type 0} where
  -- a front of some is all of them, or a front of those before the last
  front-of : (front rest before : List A) (last : A) → front ++ rest ≡ before ++ last ∷ [] → (front ≡ before ++ last ∷ []) ⊎ ((behind : List A) × (front ++ behind ≡ before))
  front-of [] rest before last is = inr (before, refl)
  front-of (x ∷ front) rest [] last is = inl (only-one front rest is)
    where
      only-one : (front rest : List A) → x ∷ (front ++ rest) ≡ last ∷ [] → x ∷ front ≡ last ∷ []
      only-one [] rest is = let same : x ≡ last = cc is in ap (λ (y : A). y ∷ []) same
      only-one (y ∷ front) rest is = absurd (cc is)
  front-of (x ∷ front) rest (y ∷ before) last is =
      let same : x ≡ y = cc is in
      let behind : front ++ rest ≡ before ++ last ∷ [] = cc is in
      elim (front-of front rest before last behind) [
        | inl all ↦ inl (ap (λ (z : A). z ∷ front) same ∙ ap (λ (zs : List A). y ∷ zs) all)
        | inr some ↦ inr (some.0, ap (λ (z : A). z ∷ (front ++ some.0)) same ∙ ap (λ (zs : List A). y ∷ zs) some.1)
      ]

none-front : {A : Type 0} (front rest : List A) → front ++ rest ≡ [] → front ≡ []
none-front [] rest is = refl
none-front (x ∷ front) rest is = absurd (cc is)

passed-none : (passed : Option (List Passed)) → passed ≡ option_map (λ (before : List Passed). before ++ []) passed
passed-none None = refl
passed-none (Some passed) = ap (λ (xs : List Passed). Some xs) (sym (append-nil passed))

module _ (client : Client) (outlived : List Outlived) where
  -- more records were answered since then
  answered-more : (more : List Outlived) (rounds : List Round) → AreAnswered client outlived rounds → AreAnswered client (outlived ++ more) rounds
  answered-more more rounds are = record {
    first = are.first;
    others = are.others ++ more;
    all = sym (append_assoc are.first are.others more) ∙ ap (λ (xs : List Outlived). xs ++ more) are.all;
    records = are.records;
    sent = are.sent;
  }

  -- nothing passed yet
  pub turn-none : (link : LinkRecord) → InTurn client outlived (record { given = []; sent = [] }) link link
  unfolding records_in
  turn-none link = record {
    before = [];
    latest = record { given = []; sent = [] };
    passed = passed-none link.passed;
    given = refl;
    sent = refl;
    small = All-nil IsSmall;
    latest_small = omega arith;
    answered = λ front rest is.
        subst (λ (rounds : List Round). AreAnswered client outlived rounds) (sym (none-front front rest is))
        (record { first = []; others = outlived; all = refl; records = refl; sent = refl });
  }

  module _ (total : Round) (old mid new : LinkRecord) (turn : InTurn client outlived total old mid) where
    -- more was answered, and more was sent
    pub turn-sent : (more : List Outlived) (sent : List ℕ) → TellsPassed mid.passed new.passed sent [] → InTurn client (outlived ++ more) (sends-more total sent) old new
    turn-sent more sent tells = record {
      before = turn.before;
      latest = sends-more turn.latest sent;
      passed = tells-sent mid.passed new.passed sent tells ∙ ap (option_map (then_all way.Sent sent)) turn.passed
          ∙ passed-then old.passed (passed_in (turn.before ++ turn.latest ∷ [])) (passed_all way.Sent sent) _ (passed-sent turn.before turn.latest sent);
      given = given-sent turn.before turn.latest sent ∙ turn.given;
      sent = sent-sent turn.before turn.latest sent ∙ ap (λ (xs : List ℕ). xs ++ sent) turn.sent;
      small = turn.small;
      latest_small = turn.latest_small;
      answered = λ front rest is. answered-more more front (turn.answered front rest is);
    }

    -- all was answered, and then bytes came
    module _ (records : placed_of (map step_of outlived) ≡ records_in beginning total.given) (sent : total.sent ≡ records_of (messages_for_all client outlived)) where
      answered-all : AreAnswered client outlived (turn.before ++ turn.latest ∷ [])
      answered-all = record {
        first = outlived;
        others = [];
        all = append-nil outlived;
        records = records ∙ ap (records_in beginning) (sym turn.given);
        sent = turn.sent ∙ sent;
      }

      pub turn-given : (bytes : List ℕ) → PassesPiece bytes mid new → length bytes ≤ LONGEST_PIECE
          → InTurn client outlived (record { given = total.given ++ bytes; sent = total.sent }) old new
      turn-given bytes tells few = record {
        before = turn.before ++ turn.latest ∷ [];
        latest = brings bytes;
        passed = tells ∙ ap (option_map (then_piece bytes)) turn.passed
            ∙ passed-then old.passed (passed_in (turn.before ++ turn.latest ∷ [])) (passed_piece bytes) _ (passed-given (turn.before ++ turn.latest ∷ []) bytes);
        given = given-given (turn.before ++ turn.latest ∷ []) bytes ∙ ap (λ (xs : List ℕ). xs ++ bytes) turn.given;
        sent = sent-given (turn.before ++ turn.latest ∷ []) bytes ∙ turn.sent;
        small = All-push IsSmall turn.before turn.latest turn.small turn.latest_small;
        latest_small = few;
        answered = λ front rest is.
            elim (front-of front rest turn.before turn.latest is) [
              | inl all ↦ subst (λ (rounds : List Round). AreAnswered client outlived rounds) (sym all) answered-all
              | inr some ↦ turn.answered front some.0 some.1
            ];
      }
