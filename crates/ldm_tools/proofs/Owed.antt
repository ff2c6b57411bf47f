-- Answers that are owed, and those that were heard: they agree.
use Rattle.std.proofs.Common.{◌≡◌, ◌∙◌, ◌⊎◌, ℕ, ◌+◌, ◌<◌, ◌≤◌, Bool, true, false, ◌||◌, List, [], ◌∷◌, ◌++◌, length, inl, inr, refl, sym, ap, subst, arith}
use Rattle.std.specs.Prelude.{Result, Ok}
use Rattle.std.proofs.lemmas.List.{append-nil, length-append}
use Rattle.ldm_relay.specs.declared.fault.RelayFault.{RelayFault}
use Rattle.ldm_relay.specs.declared.message.PutAnswer.{PutAnswer}
use Rattle.ldm_relay.specs.Sent.{Sent}
use Rattle.ldm_relay.specs.Sent as sent
use Rattle.ldm_rpc.specs.Streams.{Placed}
use Rattle.ldm_tools.specs.Puts.{AreAnswers, put_number}
use Rattle.ldm_tools.specs.Replies.{IsPutReply}
use Rattle.ldm_tools.specs.Lines.{is_denied}
use Rattle.ldm_tools.specs.Owing.{AreOwed, are_denied}

-- a record is one reply to a PUT at most
pub one_answer : (xid : ℕ) (a b : PutAnswer) (content : List ℕ) → IsPutReply xid a content → IsPutReply xid b content → a ≡ b
one_answer xid a b content is_a is_b =
    let said_a : Result Sent RelayFault = Ok (sent.PutReply xid a) in
    let said_b : Result Sent RelayFault = Ok (sent.PutReply xid b) in
    let same : said_a ≡ said_b = sym is_a ∙ is_b in
    cc

-- these are the first of those
abbrev pub IsFront : List PutAnswer → List PutAnswer → Type 0
IsFront front all = (more : List PutAnswer) × (all ≡ front ++ more)

-- of two lists of answers that the same records say, one begins with the other
pub agree : (before : ℕ) (a b : List PutAnswer) (heard_a heard_b behind_a behind_b : List Placed) → heard_a ++ behind_a ≡ heard_b ++ behind_b → AreAnswers before a heard_a
    → AreAnswers before b heard_b → IsFront a b ⊎ IsFront b a
agree before [] b heard_a heard_b behind_a behind_b same each_a each_b = inl (b, refl)
agree before (x ∷ a) [] heard_a heard_b behind_a behind_b same each_a each_b = inr (x ∷ a, refl)
agree before (x ∷ a) (y ∷ b) [] heard_b behind_a behind_b same each_a each_b = absurd each_a
agree before (x ∷ a) (y ∷ b) (p ∷ heard_a) [] behind_a behind_b same each_a each_b = absurd each_b
agree before (x ∷ a) (y ∷ b) (p ∷ heard_a) (q ∷ heard_b) behind_a behind_b same each_a each_b =
    let first : p ≡ q = cc in
    let rest : heard_a ++ behind_a ≡ heard_b ++ behind_b = cc in
    let P : Placed → Type 0 = λ placed. IsPutReply (put_number before) x placed.content in
    let one : x ≡ y = one_answer (put_number before) x y q.content (subst P first each_a.0) each_b.0 in
    by_rest one (agree (before + 1) a b heard_a heard_b behind_a behind_b rest each_a.1 each_b.1)
  where
    by_rest : x ≡ y → IsFront a b ⊎ IsFront b a → IsFront (x ∷ a) (y ∷ b) ⊎ IsFront (y ∷ b) (x ∷ a)
    by_rest one (inl front) = inl (front.0, cc (one, front.1))
    by_rest one (inr front) = inr (front.0, cc (one, front.1))

-- owed are as many as there are products, or the last of them denies
pub owed_whole : {A : Type 0} (products : List A) (answers : List PutAnswer) → AreOwed products answers → (length answers ≡ length products) ⊎ (are_denied answers ≡ true)
owed_whole [] [] owed = inl refl
owed_whole [] (answer ∷ answers) owed = absurd owed
owed_whole (product ∷ products) [] owed = absurd owed
owed_whole (product ∷ products) (answer ∷ []) (inl denied) = inr (ap (λ (b : Bool). b || false) denied)
owed_whole (product ∷ products) (answer ∷ []) (inr none) = inl (let n : length products ≡ 0 = ap length none in omega arith)
owed_whole (product ∷ products) (answer ∷ next ∷ answers) owed = by_rest (owed_whole products (next ∷ answers) owed.1)
  where
    by_rest : (length (next ∷ answers) ≡ length products) ⊎ (are_denied (next ∷ answers) ≡ true) → (length (answer ∷ next ∷ answers) ≡ length (product ∷ products)) ⊎ (are_denied (answer ∷ next ∷ answers) ≡ true)
    by_rest (inl same) = inl (omega (arith, same))
    by_rest (inr denied) = inr (ap (λ (b : Bool). b || are_denied (next ∷ answers)) owed.0 ∙ denied)

pub owed_most : {A : Type 0} (products : List A) (answers : List PutAnswer) → AreOwed products answers → length answers ≤ length products
owed_most [] [] owed = omega arith
owed_most [] (answer ∷ answers) owed = absurd owed
owed_most (product ∷ products) [] owed = absurd owed
owed_most (product ∷ products) (answer ∷ []) owed = omega arith
owed_most (product ∷ products) (answer ∷ next ∷ answers) owed = omega (arith, owed_most products (next ∷ answers) owed.1)

either_more : (b c d : Bool) → (c ≡ true → d ≡ true) → (b || c) ≡ true → (b || d) ≡ true
either_more true c d later is = refl
either_more false c d later is = later is

either_last : (b c : Bool) → c ≡ true → (b || c) ≡ true
either_last true c is = refl
either_last false c is = is

-- where a front denies, all do
pub denied_more : (front more : List PutAnswer) → are_denied front ≡ true → are_denied (front ++ more) ≡ true
denied_more [] more is = absurd cc
denied_more (x ∷ front) more is = either_more (is_denied x) (are_denied front) (are_denied (front ++ more)) (denied_more front more) is

pub denied_last : (front : List PutAnswer) (x : PutAnswer) → is_denied x ≡ true → are_denied (front ++ x ∷ []) ≡ true
denied_last [] x is = ap (λ (b : Bool). b || false) is
denied_last (y ∷ front) x is = either_last (is_denied y) (are_denied (front ++ x ∷ [])) (denied_last front x is)

nothing_more : (more : List PutAnswer) → length more ≡ 0 → more ≡ []
nothing_more [] none = refl
nothing_more (x ∷ more) none = absurd (omega (arith, none))

-- All that were heard, one for each product and none that denies, are those that are owed.
pub all_heard : {A : Type 0} (products : List A) (heard owed : List PutAnswer) → IsFront heard owed ⊎ IsFront owed heard → length heard ≡ length products → are_denied heard ≡ false
    → AreOwed products owed → owed ≡ heard
all_heard products heard owed (inl front) long none are =
    let few = owed_most products owed are in
    let count : length front.0 ≡ 0 = omega (arith, ap length front.1, length-append heard front.0, few, long) in
    front.1 ∙ ap (λ (x : List PutAnswer). heard ++ x) (nothing_more front.0 count) ∙ append-nil heard
all_heard products heard owed (inr front) long none are = by_whole (owed_whole products owed are)
  where
    by_whole : (length owed ≡ length products) ⊎ (are_denied owed ≡ true) → owed ≡ heard
    by_whole (inl same) =
        let count : length front.0 ≡ 0 = omega (arith, ap length front.1, length-append owed front.0, same, long) in
        sym (front.1 ∙ ap (λ (x : List PutAnswer). owed ++ x) (nothing_more front.0 count) ∙ append-nil owed)
    by_whole (inr denied) =
        let both : true ≡ false = sym (denied_more owed front.0 denied) ∙ ap are_denied (sym front.1) ∙ none in
        absurd cc

-- where one of the answers that were heard denies, one of those that are owed does
pub denial_heard : {A : Type 0} (products : List A) (heard owed : List PutAnswer) → IsFront heard owed ⊎ IsFront owed heard → length heard ≤ length products → are_denied heard ≡ true
    → AreOwed products owed → are_denied owed ≡ true
denial_heard products heard owed (inl front) few denied are = ap are_denied front.1 ∙ denied_more heard front.0 denied
denial_heard products heard owed (inr front) few denied are = by_whole (owed_whole products owed are)
  where
    by_whole : (length owed ≡ length products) ⊎ (are_denied owed ≡ true) → are_denied owed ≡ true
    by_whole (inl same) =
        let count : length front.0 ≡ 0 = omega (arith, ap length front.1, length-append owed front.0, same, few) in
        let all : heard ≡ owed = front.1 ∙ ap (λ (x : List PutAnswer). owed ++ x) (nothing_more front.0 count) ∙ append-nil owed in
        ap are_denied (sym all) ∙ denied
    by_whole (inr is) = is

-- Where fewer were heard than there are products, and none denies, one more is owed.
pub one_more : {A : Type 0} (products : List A) (heard owed : List PutAnswer) → IsFront heard owed ⊎ IsFront owed heard → length heard < length products → are_denied heard ≡ false
    → AreOwed products owed → (next : PutAnswer) × (more : List PutAnswer) × (owed ≡ heard ++ next ∷ more)
one_more products heard owed (inl front) few none are = by_more front.0 front.1
  where
    never : (length owed ≡ length products) ⊎ (are_denied owed ≡ true) → owed ≡ heard → ⊥
    never (inl same) is = omega (arith, ap length is, same, few)
    never (inr denied) is = (let both : true ≡ false = sym denied ∙ ap are_denied is ∙ none in absurd cc)

    by_more : (more : List PutAnswer) → owed ≡ heard ++ more → (next : PutAnswer) × (rest : List PutAnswer) × (owed ≡ heard ++ next ∷ rest)
    by_more [] is = absurd (never (owed_whole products owed are) (is ∙ append-nil heard))
    by_more (next ∷ rest) is = (next, rest, is)
one_more products heard owed (inr front) few none are = absurd (by_whole (owed_whole products owed are))
  where
    by_whole : (length owed ≡ length products) ⊎ (are_denied owed ≡ true) → ⊥
    by_whole (inl same) = omega (arith, ap length front.1, length-append owed front.0, same, few)
    by_whole (inr denied) =
        let both : true ≡ false = sym (denied_more owed front.0 denied) ∙ ap are_denied (sym front.1) ∙ none in
        absurd cc

-- the record that says the answer behind some
pub record Next (before : ℕ) (front : List PutAnswer) (next : PutAnswer) (heard : List Placed) : Type 0 where
  pub first : List Placed
  pub placed : Placed
  pub behind : List Placed
  pub heard_is : heard ≡ first ++ placed ∷ behind
  pub as_many : length first ≡ length front
  pub is : IsPutReply (put_number (before + length front)) next placed.content

pub next_of : (before : ℕ) (front : List PutAnswer) (next : PutAnswer) (more : List PutAnswer) (heard : List Placed) → AreAnswers before (front ++ next ∷ more) heard → Next before front next heard
next_of before [] next more [] each = absurd each
next_of before [] next more (p ∷ heard) each =
    let same : before ≡ before + 0 = omega arith in
    let P : ℕ → Type 0 = λ n. IsPutReply (put_number n) next p.content in
    record { first = []; placed = p; behind = heard; heard_is = refl; as_many = refl; is = subst P same each.0 }
next_of before (x ∷ front) next more [] each = absurd each
next_of before (x ∷ front) next more (p ∷ heard) each =
    let rest = next_of (before + 1) front next more heard each.1 in
    let same : (before + 1) + length front ≡ before + length (x ∷ front) = omega arith in
    let P : ℕ → Type 0 = λ n. IsPutReply (put_number n) next rest.placed.content in
    record { first = p ∷ rest.first; placed = rest.placed; behind = rest.behind; heard_is = ap (λ (h : List Placed). p ∷ h) rest.heard_is; as_many = (let n = rest.as_many in omega arith); is = subst P same rest.is }

pub answers_length : (before : ℕ) (answers : List PutAnswer) (heard : List Placed) → AreAnswers before answers heard → length heard ≡ length answers
answers_length before [] [] each = refl
answers_length before [] (p ∷ heard) each = absurd each
answers_length before (x ∷ answers) [] each = absurd each
answers_length before (x ∷ answers) (p ∷ heard) each = (let n = answers_length (before + 1) answers heard each.1 in omega arith)
