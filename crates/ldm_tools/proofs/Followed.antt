-- Where all that a link had left to give begins with the replies that are owed, those are the answers that come.
use Rattle.std.proofs.Common.{◌≡◌, ◌∙◌, ◌⊎◌, ℕ, ◌+◌, ◌<◌, ◌≤◌, Bool, true, false, ◌||◌, List, [], ◌∷◌, ◌++◌, length, Option, Some, None, IfSome, inl, inr, refl, sym, ap, subst, append_assoc, arith}
use Rattle.std.specs.Prelude.{option_map}
use Rattle.std.proofs.lemmas.List.{append-nil, length-append}
use Rattle.ldm_outside.specs.Count.{Rose}
use Rattle.ldm_outside.specs.Link.{LinkRecord}
use Rattle.ldm_outside.proofs.CallerLemmas.{Rose-later}
use Rattle.ldm_relay.specs.declared.message.PutAnswer.{PutAnswer}
use Rattle.ldm_relay.specs.declared.message.PutAnswer.TheVariants as put_answer
use Rattle.ldm_relay.specs.declared.message.TheConstants.{LARGEST_REPLY}
use Rattle.ldm_rpc.specs.declared.fault.RpcFault.TheVariants as rpc_fault
use Rattle.ldm_rpc.specs.declared.stage.Stage.TheVariants.{Faulty}
use Rattle.ldm_rpc.specs.Reading.{is_open, is_open_at, is_whole, is_whole_at}
use Rattle.ldm_rpc.specs.Streams.{Position, Placed, at_start, records_in}
use Rattle.ldm_rpc.proofs.CallerLemmas.{reads_fault, reads_none}
use Rattle.ldm_rpc.proofs.Joined.{records-append}
use Rattle.ldm_rpc.proofs.Pushed.{after_end}
use Rattle.ldm_session.specs.declared.limits.TheConstants.{LONGEST_STREAM}
use Rattle.ldm_session.specs.Exchange.{Exchanged}
use Rattle.ldm_session.specs.Owed.{hand_given, records_given}
use Rattle.ldm_tools.specs.declared.no_reply.NoReply.{NoReply}
use Rattle.ldm_tools.specs.declared.no_reply.NoReply.TheVariants.{BadFrame, StreamLimit, LinkFault, OutOfMemory}
use Rattle.ldm_tools.specs.declared.put_fault.PutFault.{PutFault}
use Rattle.ldm_tools.specs.declared.put_fault.PutFault.TheVariants as fault
use Rattle.ldm_tools.specs.Lines.{is_denied}
use Rattle.ldm_tools.specs.Owing.{AreOwed, are_denied}
use Rattle.ldm_tools.specs.Puts.{AreAnswers, NoAnswer, put_number}
use Rattle.ldm_tools.specs.Replies.{IsPutReply, SaysNone}
use Rattle.ldm_tools.specs.Telling.{AreTold, Breaks, HasAnswers, Product, Wire}
use Rattle.ldm_tools.proofs.Owed.{IsFront, agree, all_heard, answers_length, denial_heard, denied_last, next_of, one_more}

-- ---- what a link has left of a stream

-- what a link had left is what it gave and what it has left
behind : (left : Option (List ℕ)) (stream given : List ℕ) → Some stream ≡ option_map (λ rest. given ++ rest) left → (rest : List ℕ) × (left ≡ Some rest) × (stream ≡ given ++ rest)
behind None stream given is = cc
behind (Some rest) stream given is = (rest, refl, cc)

-- Of a stream, this was given, and the link has the rest left.
pub record Follows (stream given : List ℕ) (link : LinkRecord) : Type 0 where
  pub rest : List ℕ
  pub left : link.left ≡ Some rest
  pub all : stream ≡ given ++ rest

pub follows_more : (stream given new_given sent more : List ℕ) (old new : LinkRecord) → Exchanged old sent more new → new_given ≡ given ++ more → Follows stream given old
    → Follows stream new_given new
follows_more stream given new_given sent more old new exchanged is follows =
    let b = behind new.left follows.rest more (sym follows.left ∙ exchanged.left) in
    record {
      rest = b.0;
      left = b.1;
      all = follows.all ∙ ap (λ (x : List ℕ). given ++ x) b.2 ∙ sym (append_assoc given more b.0) ∙ ap (λ (x : List ℕ). x ++ b.0) (sym is);
    }

stream_records : (stream given : List ℕ) (link : LinkRecord) → (follows : Follows stream given link) → records_given stream ≡ records_given given ++ records_in (hand_given given) follows.rest
stream_records stream given link follows = ap records_given follows.all ∙ records-append (at_start LARGEST_REPLY) given follows.rest

-- what was heard agrees with what is owed
pub heard_agree : (stream given : List ℕ) (link : LinkRecord) (heard owed : List PutAnswer) → Follows stream given link → HasAnswers given heard → HasAnswers stream owed
    → IsFront heard owed ⊎ IsFront owed heard
heard_agree stream given link heard owed follows has says =
    let more = records_in (hand_given given) follows.rest in
    let same : has.heard ++ (has.behind ++ more) ≡ says.heard ++ says.behind =
    sym (append_assoc has.heard has.behind more) ∙ ap (λ (x : List Placed). x ++ more) (sym has.records) ∙ sym (stream_records stream given link follows) ∙ says.records in
    agree 0 heard owed has.heard says.heard (has.behind ++ more) says.behind same has.each says.each

pub nothing_heard : HasAnswers [] []
nothing_heard = record { heard = []; behind = records_given []; records = refl; each = tt }

pub from_start : (stream : List ℕ) (came : LinkRecord) → came.left ≡ Some stream → Follows stream [] came
from_start stream came left = record { rest = stream; left = left; all = refl }

-- ---- no answer, though one is owed

-- no record comes behind one that is too long
faulty_none : (p : Position) (rest : List ℕ) (place : ℕ) → p.reading.stage ≡ Faulty (rpc_fault.TooLong place) → records_in p rest ≡ []
faulty_none p rest place long =
    let ended : is_open p.reading ≡ false = ap is_open_at long in
    let ready : is_whole p.reading ≡ false = ap is_whole_at long in
    let ends = reads_fault p rest [] p rest [] p.reading (rpc_fault.TooLong place) (reads_none p rest [] ready) (sym (after_end p.reading rest ended)) long in
    sym ends.0

left_none : (left : Option (List ℕ)) (rest : List ℕ) → left ≡ Some rest → IfSome left (λ r. r ≡ []) → rest ≡ []
left_none None rest is none = cc
left_none (Some r) rest is none =
    let same : r ≡ rest = cc in
    sym same ∙ none

-- fewer cannot be as many
too_few : (all heard first behind : List Placed) (placed : Placed) → all ≡ heard → all ≡ first ++ placed ∷ behind → length heard ≡ length first → ⊥
too_few all heard first behind placed one other same = omega (arith, ap length one, ap length other, length-append first (placed ∷ behind), same)

-- what stands behind as many
same_next : (heard first : List Placed) (p q : Placed) (b c : List Placed) → heard ++ p ∷ b ≡ first ++ q ∷ c → length heard ≡ length first → p ≡ q
same_next [] [] p q b c same long = cc
same_next [] (y ∷ first) p q b c same long = absurd (omega (arith, long))
same_next (x ∷ heard) [] p q b c same long = absurd (omega (arith, long))
same_next (x ∷ heard) (y ∷ first) p q b c same long =
    let rest : heard ++ p ∷ b ≡ first ++ q ∷ c = cc in
    same_next heard first p q b c rest (omega arith)

-- what is owed behind those that were heard, in the records of the stream
pub record OwedNext (stream : List ℕ) (answers : List PutAnswer) : Type 0 where
  pub next : PutAnswer
  pub first : List Placed
  pub placed : Placed
  pub behind : List Placed
  pub records : records_given stream ≡ first ++ placed ∷ behind
  pub as_many : length first ≡ length answers
  pub is : IsPutReply (put_number (length answers)) next placed.content

pub owed_next : {A : Type 0} (stream : List ℕ) (products : List A) (heard owed : List PutAnswer) → IsFront heard owed ⊎ IsFront owed heard → length heard < length products
    → are_denied heard ≡ false → AreOwed products owed → HasAnswers stream owed → OwedNext stream heard
owed_next stream products heard owed agrees few none are says =
    let one = one_more products heard owed agrees few none are in
    let each = next_of 0 heard one.0 one.1 says.heard (let Q : List PutAnswer → Type 0 = λ a. AreAnswers 0 a says.heard in subst Q one.2 says.each) in
    let N : ℕ → Type 0 = λ n. IsPutReply (put_number n) one.0 each.placed.content in
    let zero_more : 0 + length heard ≡ length heard = omega arith in
    record {
      next = one.0;
      first = each.first;
      placed = each.placed;
      behind = each.behind ++ says.behind;
      records = says.records ∙ ap (λ (x : List Placed). x ++ says.behind) each.heard_is ∙ append_assoc each.first (each.placed ∷ each.behind) says.behind;
      as_many = each.as_many;
      is = subst N zero_more each.is;
    }

-- where no link failed, an answer that is owed is not heard for want of memory alone
pub no_answer : (why : NoReply) (stream given : List ℕ) (answers : List PutAnswer) (came left : LinkRecord) → Follows stream given left → OwedNext stream answers
    → NoAnswer why given answers came left → length stream < LONGEST_STREAM → ¬ Rose came.faults left.faults → why ≡ OutOfMemory
no_answer (BadFrame at) stream given answers came left follows owed unheard short none = absurd (by_says unheard.says)
  where
    heard_len : length unheard.heard ≡ length owed.first
    heard_len = answers_length 0 answers unheard.heard unheard.each ∙ sym owed.as_many

    by_says : SaysNone (IsPutReply (put_number (length answers))) (BadFrame at) given unheard.heard came left → ⊥
    by_says (inl ended) =
        let nothing = left_none left.left follows.rest follows.left ended.nothing_left in
        let whole : stream ≡ given = follows.all ∙ ap (λ (x : List ℕ). given ++ x) nothing ∙ append-nil given in
        too_few (records_given stream) unheard.heard owed.first owed.behind owed.placed (ap records_given whole ∙ ended.none) owed.records heard_len
    by_says (inr (inl long)) =
        let more = faulty_none (hand_given given) follows.rest long.place long.too_long in
        let whole : records_given stream ≡ unheard.heard =
        stream_records stream given left follows ∙ ap (λ (x : List Placed). x ++ records_in (hand_given given) follows.rest) long.none
        ∙ ap (λ (x : List Placed). unheard.heard ++ x) more ∙ append-nil unheard.heard in
        too_few (records_given stream) unheard.heard owed.first owed.behind owed.placed whole owed.records heard_len
    by_says (inr (inr other)) =
        let more = records_in (hand_given given) follows.rest in
        let records : unheard.heard ++ other.placed ∷ (other.behind ++ more) ≡ owed.first ++ owed.placed ∷ owed.behind =
        sym (append_assoc unheard.heard (other.placed ∷ other.behind) more) ∙ ap (λ (x : List Placed). x ++ more) (sym other.records) ∙ sym (stream_records stream given left follows) ∙ owed.records in
        let same = same_next unheard.heard owed.first other.placed owed.placed (other.behind ++ more) owed.behind records heard_len in
        let P : Placed → Type 0 = λ placed. IsPutReply (put_number (length answers)) owed.next placed.content in
        other.is_not owed.next (subst P (sym same) owed.is)
no_answer StreamLimit stream given answers came left follows owed unheard short none =
    absurd (omega (arith, unheard.says.1, short, ap length follows.all, length-append given follows.rest))
no_answer LinkFault stream given answers came left follows owed unheard short none = absurd (none unheard.says.1)
no_answer OutOfMemory stream given answers came left follows owed unheard short none = refl

-- ---- why PUTs ended at a product, to one who looks at the link from its beginning

says_none_from : (before : ℕ) (why : NoReply) (given : List ℕ) (heard : List Placed) (old mid new : LinkRecord) → old.ends ≤ mid.ends → old.faults ≤ mid.faults
    → SaysNone (IsPutReply before) why given heard mid new → SaysNone (IsPutReply before) why given heard old new
says_none_from before (BadFrame at) given heard old mid new ends faults (inl ended) =
    inl (record { none = ended.none; at_is = ended.at_is; rose = Rose-later old.ends mid.ends new.ends ends ended.rose; nothing_left = ended.nothing_left })
says_none_from before (BadFrame at) given heard old mid new ends faults (inr other) = inr other
says_none_from before StreamLimit given heard old mid new ends faults says = says
says_none_from before LinkFault given heard old mid new ends faults says = (says.0, Rose-later old.faults mid.faults new.faults faults says.1)
says_none_from before OutOfMemory given heard old mid new ends faults says = says

pub no_answer_from : (why : NoReply) (given : List ℕ) (answers : List PutAnswer) (old mid new : LinkRecord) → old.ends ≤ mid.ends → old.faults ≤ mid.faults
    → NoAnswer why given answers mid new → NoAnswer why given answers old new
no_answer_from why given answers old mid new ends faults no_answer =
    record { heard = no_answer.heard; each = no_answer.each; says = says_none_from (put_number (length answers)) why given no_answer.heard old mid new ends faults no_answer.says }

pub breaks_from : (why : PutFault) (product : Product) (came now : LinkRecord) (old new : Wire) → came.ends ≤ now.ends → came.faults ≤ now.faults → Breaks why product now old new
    → Breaks why product came old new
breaks_from (fault.NoAnswer why) product came now old new ends faults breaks = record {
  sent = breaks.sent;
  more = breaks.more;
  exchanged = breaks.exchanged;
  sent_is = breaks.sent_is;
  given = breaks.given;
  answers = breaks.answers;
  says = no_answer_from why new.given old.answers came now new.link ends faults breaks.says;
  sink = breaks.sink;
}
breaks_from fault.Denied product came now old new ends faults breaks = breaks
breaks_from fault.SinkFault product came now old new ends faults breaks = breaks

-- ---- products one after another

none_more : (a b : Bool) → a ≡ false → b ≡ false → (a || b) ≡ false
none_more a b one other = ap (λ (x : Bool). x || b) one ∙ other

-- Products were put over a link that had that stream left.
pub record Followed (stream : List ℕ) (products : List Product) (answers : List PutAnswer) (old new : Wire) : Type 0 where
  pub follows : Follows stream new.given new.link
  pub answers_are : new.answers ≡ old.answers ++ answers
  pub count : length answers ≡ length products
  pub none : are_denied answers ≡ false
  pub has : HasAnswers new.given new.answers

pub followed : (stream : List ℕ) (products : List Product) (answers : List PutAnswer) (old new : Wire) → AreTold products answers old new → Follows stream old.given old.link
    → HasAnswers old.given old.answers → Followed stream products answers old new
followed stream [] [] old new each follows has =
    let P : Wire → Type 0 = λ w. Follows stream w.given w.link in
    let Q : Wire → Type 0 = λ w. HasAnswers w.given w.answers in
    record {
      follows = subst P (sym each) follows;
      answers_are = ap (λ (w : Wire). w.answers) each ∙ sym (append-nil old.answers);
      count = refl;
      none = refl;
      has = subst Q (sym each) has;
    }
followed stream [] (answer ∷ answers) old new each follows has = absurd each
followed stream (product ∷ products) [] old new each follows has = absurd each
followed stream (product ∷ products) (answer ∷ answers) old new each follows has =
    let mid = each.0 in
    let told = each.1 in
    let put = told.put in
    let went : Follows stream mid.given mid.link = follows_more stream old.given mid.given _ put.more old.link mid.link put.exchanged put.given follows in
    let rest = followed stream products answers mid new each.2 went put.says in
    record {
      follows = rest.follows;
      answers_are = rest.answers_are ∙ ap (λ (a : List PutAnswer). a ++ answers) put.answers ∙ append_assoc old.answers (answer ∷ []) answers;
      count = (let n = rest.count in omega arith);
      none = none_more (is_denied answer) (are_denied answers) told.not_denied rest.none;
      has = rest.has;
    }

-- where the PUTs begin
abbrev pub IsStart : Wire → Type 0
IsStart old = (old.given ≡ []) × (old.answers ≡ [])

start_follows : (stream : List ℕ) (old : Wire) → IsStart old → old.link.left ≡ Some stream → Follows stream old.given old.link
start_follows stream old start left = let P : List ℕ → Type 0 = λ g. Follows stream g old.link in subst P (sym start.0) (from_start stream old.link left)

start_has : (old : Wire) → IsStart old → HasAnswers old.given old.answers
start_has old start =
    let P : List ℕ → Type 0 = λ g. HasAnswers g old.answers in
    let Q : List PutAnswer → Type 0 = λ a. HasAnswers [] a in
    subst P (sym start.0) (subst Q (sym start.1) nothing_heard)

answers_from : (old new : Wire) (answers : List PutAnswer) → IsStart old → new.answers ≡ old.answers ++ answers → new.answers ≡ answers
answers_from old new answers start is = is ∙ ap (λ (a : List PutAnswer). a ++ answers) start.1

-- where all products were put, their answers are those that are owed
pub told_all : {A : Type 0} (all : List A) (stream : List ℕ) (owed : List PutAnswer) (products : List Product) (answers : List PutAnswer) (old new : Wire) → IsStart old
    → old.link.left ≡ Some stream → HasAnswers stream owed → AreOwed all owed → length all ≡ length products → AreTold products answers old new → owed ≡ answers
told_all all stream owed products answers old new start left says are count each =
    let f = followed stream products answers old new each (start_follows stream old start left) (start_has old start) in
    let heard = answers_from old new answers start f.answers_are in
    let P : List PutAnswer → Type 0 = λ a. HasAnswers new.given a in
    all_heard all answers owed (heard_agree stream new.given new.link answers owed f.follows (subst P heard f.has) says) (omega (arith, f.count, count)) f.none are

-- where the peer denied the product behind these, one of the answers that are owed denies
pub told_denied : {A : Type 0} (all : List A) (stream : List ℕ) (owed : List PutAnswer) (products : List Product) (answers : List PutAnswer) (product : Product) (old mid new : Wire)
    → IsStart old → old.link.left ≡ Some stream → HasAnswers stream owed → AreOwed all owed → length products < length all → AreTold products answers old mid
    → Breaks fault.Denied product old.link mid new → are_denied owed ≡ true
told_denied all stream owed products answers product old mid new start left says are few each denies_it =
    let put = denies_it.put in
    let f = followed stream products answers old mid each (start_follows stream old start left) (start_has old start) in
    let went = follows_more stream mid.given new.given _ put.more mid.link new.link put.exchanged put.given f.follows in
    let heard : new.answers ≡ answers ++ put_answer.Denied ∷ [] =
    put.answers ∙ ap (λ (a : List PutAnswer). a ++ put_answer.Denied ∷ []) (answers_from old mid answers start f.answers_are) in
    let denies : are_denied new.answers ≡ true = ap are_denied heard ∙ denied_last answers put_answer.Denied refl in
    let most : length new.answers ≤ length all = omega (arith, ap length heard, length-append answers (put_answer.Denied ∷ []), f.count, few) in
    denial_heard all new.answers owed (heard_agree stream new.given new.link new.answers owed went put.says says) most denies are

-- where no answer came to the product behind these, there was no memory
pub told_no_answer : {A : Type 0} (why : NoReply) (all : List A) (stream : List ℕ) (owed : List PutAnswer) (products : List Product) (answers : List PutAnswer) (product : Product)
    (old mid new : Wire) → IsStart old → old.link.left ≡ Some stream → HasAnswers stream owed → AreOwed all owed → length products < length all → AreTold products answers old mid
    → Breaks (fault.NoAnswer why) product old.link mid new → length stream < LONGEST_STREAM → ¬ Rose old.link.faults new.link.faults → why ≡ OutOfMemory
told_no_answer why all stream owed products answers product old mid new start left says are few each breaks short none =
    let f = followed stream products answers old mid each (start_follows stream old start left) (start_has old start) in
    let went = follows_more stream mid.given new.given breaks.sent breaks.more mid.link new.link breaks.exchanged breaks.given f.follows in
    let heard = answers_from old mid answers start f.answers_are in
    let D : List PutAnswer → Type 0 = λ a. are_denied a ≡ false in
    let quiet : are_denied mid.answers ≡ false = subst D (sym heard) f.none in
    let most : length mid.answers < length all = omega (arith, ap length heard, f.count, few) in
    let next = owed_next stream all mid.answers owed (heard_agree stream mid.given mid.link mid.answers owed f.follows f.has says) most quiet are says in
    no_answer why stream new.given mid.answers old.link new.link went next breaks.says short none
