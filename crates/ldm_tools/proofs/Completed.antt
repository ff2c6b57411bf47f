-- Where the reply that is owed comes, it is heard.
use Rattle.std.proofs.Common.{◌≡◌, ◌∙◌, ◌⊎◌, ℕ, ◌<◌, List, [], ◌∷◌, ◌++◌, length, false, inl, inr, refl, sym, ap, subst, arith}
use Rattle.std.specs.Prelude.{Result, Ok, Err, Option, Some, None, IfSome}
use Rattle.std.specs.Option.{option_map}
use Rattle.std.proofs.lemmas.List.{append-nil, length-append}
use Rattle.ldm_outside.specs.Count.{Rose}
use Rattle.ldm_outside.specs.Dial.{DialRecord}
use Rattle.ldm_outside.specs.Link.{LinkRecord}
use Rattle.ldm_relay.specs.declared.fault.RelayFault.{RelayFault}
use Rattle.ldm_model.specs.declared.stat.Stat.{Stat}
use Rattle.ldm_relay.specs.declared.message.TheConstants.{LARGEST_REPLY}
use Rattle.ldm_relay.specs.Sent.{Sent}
use Rattle.ldm_relay.specs.Sent as sent
use Rattle.ldm_rpc.specs.declared.fault.RpcFault.TheVariants as fault
use Rattle.ldm_rpc.specs.declared.stage.Stage.TheVariants.{Faulty}
use Rattle.ldm_rpc.specs.Reading.{is_open, is_open_at, is_whole, is_whole_at}
use Rattle.ldm_rpc.specs.Streams.{Position, Placed, at_start, records_in}
use Rattle.ldm_rpc.proofs.CallerLemmas.{reads_fault, reads_none}
use Rattle.ldm_rpc.proofs.Joined.{records-append}
use Rattle.ldm_rpc.proofs.Pushed.{after_end}
use Rattle.ldm_session.specs.declared.limits.TheConstants.{LONGEST_STREAM}
use Rattle.ldm_session.specs.Owed.{hand_given, records_given}
use Rattle.ldm_tools.specs.declared.no_reply.NoReply.{NoReply}
use Rattle.ldm_tools.specs.declared.no_reply.NoReply.TheVariants.{BadFrame, StreamLimit, LinkFault, OutOfMemory}
use Rattle.ldm_tools.specs.Replies.{Answers, IsStatReply, Says}
use Rattle.ldm_tools.specs.Asking.{Asks, Completes}

-- no record comes behind one that is too long
faulty_none : (p : Position) (rest : List ℕ) (place : ℕ) → p.reading.stage ≡ Faulty (fault.TooLong place) → records_in p rest ≡ []
faulty_none p rest place long =
    let ended : is_open p.reading ≡ false = ap is_open_at long in
    let ready : is_whole p.reading ≡ false = ap is_whole_at long in
    let ends = reads_fault p rest [] p rest [] p.reading (fault.TooLong place) (reads_none p rest [] ready) (sym (after_end p.reading rest ended)) long in
    sym ends.0

-- what a link had left is what it gave and what it has left
behind : (left : Option (List ℕ)) (stream given : List ℕ) → Some stream ≡ option_map (λ rest. given ++ rest) left → (rest : List ℕ) × (left ≡ Some rest) × (stream ≡ given ++ rest)
behind None stream given is = cc
behind (Some rest) stream given is = (rest, refl, cc)

given_more : (stream given rest : List ℕ) → stream ≡ given ++ rest → records_given stream ≡ records_given given ++ records_in (hand_given given) rest
given_more stream given rest is = ap records_given is ∙ records-append (at_start LARGEST_REPLY) given rest

first_same : (all front more : List Placed) (p q : Placed) (b c : List Placed) → all ≡ front ++ more → front ≡ p ∷ b → all ≡ q ∷ c → p ≡ q
first_same all front more p q b c all_is front_is q_is =
    let joined : p ∷ (b ++ more) ≡ q ∷ c = ap (λ (x : List Placed). x ++ more) (sym front_is) ∙ sym all_is ∙ q_is in
    cc

none_first : (all : List Placed) (q : Placed) (c : List Placed) → all ≡ [] → all ≡ q ∷ c → ⊥
none_first all q c none some =
    let never : [] ≡ q ∷ c = sym none ∙ some in
    cc

left_none : (left : Option (List ℕ)) (rest : List ℕ) → left ≡ Some rest → IfSome left (λ r. r ≡ []) → rest ≡ []
left_none None rest is none = cc
left_none (Some r) rest is none =
    let same : r ≡ rest = cc in
    sym same ∙ none

module _ {A : Type 0} (Is : A → List ℕ → Type 0) (unique : (a b : A) (content : List ℕ) → Is a content → Is b content → a ≡ b) where
  by_answer : (result : Result A NoReply) (answer : A) (stream given rest : List ℕ) (came left : LinkRecord) (old new : DialRecord) → stream ≡ given ++ rest → left.left ≡ Some rest
      → Answers Is result given [] came left → Says Is answer stream [] → length stream < LONGEST_STREAM
      → (Rose came.faults left.faults → Rose old.links.failed new.links.failed) → ¬ Rose old.links.failed new.links.failed
      → (result ≡ Ok answer) ⊎ (result ≡ Err OutOfMemory)
  by_answer (Ok a) answer stream given rest came left old new is left_is says owed short failed none =
      let same = first_same (records_given stream) (records_given given) (records_in (hand_given given) rest) says.placed owed.placed says.behind owed.behind
      (given_more stream given rest is) says.records owed.records in
      let P : Placed → Type 0 = λ placed. Is a placed.content in
      inl (ap (λ (x : A). let r : Result A NoReply = Ok x in r) (unique a answer owed.placed.content (subst P same says.is) owed.is))
  by_answer (Err (BadFrame at)) answer stream given rest came left old new is left_is (inl ended) owed short failed none =
      let nothing = left_none left.left rest left_is ended.nothing_left in
      let all : stream ≡ given = is ∙ ap (λ (x : List ℕ). given ++ x) nothing ∙ append-nil given in
      absurd (none_first (records_given stream) owed.placed owed.behind (ap records_given all ∙ ended.none) owed.records)
  by_answer (Err (BadFrame at)) answer stream given rest came left old new is left_is (inr (inl long)) owed short failed none =
      let more = faulty_none (hand_given given) rest long.place long.too_long in
      let nothing : records_given stream ≡ [] = given_more stream given rest is ∙ ap (λ (x : List Placed). x ++ records_in (hand_given given) rest) long.none ∙ more in
      absurd (none_first (records_given stream) owed.placed owed.behind nothing owed.records)
  by_answer (Err (BadFrame at)) answer stream given rest came left old new is left_is (inr (inr other)) owed short failed none =
      let same = first_same (records_given stream) (records_given given) (records_in (hand_given given) rest) other.placed owed.placed other.behind owed.behind
      (given_more stream given rest is) other.records owed.records in
      let P : Placed → Type 0 = λ placed. Is answer placed.content in
      absurd (other.is_not answer (subst P (sym same) owed.is))
  by_answer (Err StreamLimit) answer stream given rest came left old new is left_is says owed short failed none =
      absurd (omega (arith, says.1, short, ap length is, length-append given rest))
  by_answer (Err LinkFault) answer stream given rest came left old new is left_is says owed short failed none = absurd (none (failed says.1))
  by_answer (Err OutOfMemory) answer stream given rest came left old new is left_is says owed short failed none = inr refl

  pub completes : (result : Result A NoReply) (call : List ℕ) (came left : LinkRecord) (old new : DialRecord) → Asks Is result call came left
      → (Rose came.faults left.faults → Rose old.links.failed new.links.failed) → Completes Is result came old new
  completes result call came left old new asks failed = λ stream answer left_is owed short none.
      let rest = behind left.left stream asks.given (sym left_is ∙ asks.exchanged.left) in
      by_answer result answer stream asks.given rest.0 came left old new rest.2 rest.1 asks.answers owed short failed none

-- a record is one reply to a QSTAT at most
pub one_stat : (xid : ℕ) (a b : Option Stat) (content : List ℕ) → IsStatReply xid a content → IsStatReply xid b content → a ≡ b
one_stat xid a b content is_a is_b =
    let said_a : Result Sent RelayFault = Ok (sent.QstatReply xid a) in
    let said_b : Result Sent RelayFault = Ok (sent.QstatReply xid b) in
    let same : said_a ≡ said_b = sym is_a ∙ is_b in
    cc
