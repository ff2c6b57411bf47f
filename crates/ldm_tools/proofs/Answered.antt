-- PUTs and their answers, one behind the other.
use Rattle.std.proofs.Common.{◌≡◌, ◌∙◌, ℕ, ◌+◌, ◌%◌, ◌^◌, List, [], ◌∷◌, ◌++◌, length, refl, sym, ap, subst, arith}
use Rattle.std.specs.Prelude.{Result, Ok, Err}
use Rattle.std.proofs.lemmas.List.{append-nil, length-append}
use Rattle.ldm_types.specs.Info.{Metadata}
use Rattle.ldm_outside.specs.Link.{LinkRecord}
use Rattle.ldm_relay.specs.declared.message.PutAnswer.{PutAnswer}
use Rattle.ldm_rpc.specs.Streams.{Placed}
use Rattle.ldm_session.proofs.CallerLemmas.{Exchanged-front, Exchanged-nothing, Exchanged-sent, Exchanged-then_given}
use Rattle.ldm_tools.specs.declared.no_reply.NoReply.{NoReply}
use Rattle.ldm_tools.specs.declared.no_reply.NoReply.TheVariants.{BadFrame, StreamLimit, LinkFault, OutOfMemory}
use Rattle.ldm_tools.specs.declared.puts.Puts.{Puts}
use Rattle.ldm_tools.specs.Hearing.{Heard, in_reader}
use Rattle.ldm_tools.specs.Puts.{AreAnswers, HasPut, PutsOne, SendsPut, TellsPut, put_call, put_number}
use Rattle.ldm_tools.specs.Replies.{HearsReply, IsPutReply, Replies, SaysNone}
use Rattle.ldm_tools.proofs.Replied.{all_sent, heard_some, says_none_from}

-- one more answer
answers_push : (before : ℕ) (answers : List PutAnswer) (records : List Placed) (answer : PutAnswer) (placed : Placed) → AreAnswers before answers records
    → IsPutReply (put_number (before + length answers)) answer placed.content → AreAnswers before (answers ++ answer ∷ []) (records ++ placed ∷ [])
answers_push before [] [] answer placed each is =
    let same : before + 0 ≡ before = omega arith in
    let P : ℕ → Type 0 = λ n. IsPutReply (put_number n) answer placed.content in
    (subst P same is, tt)
answers_push before [] (first ∷ records) answer placed each is = absurd each
answers_push before (first ∷ answers) [] answer placed each is = absurd each
answers_push before (first ∷ answers) (record_first ∷ records) answer placed each is =
    let same : before + length (first ∷ answers) ≡ (before + 1) + length answers = omega arith in
    let P : ℕ → Type 0 = λ n. IsPutReply (put_number n) answer placed.content in
    (each.0, answers_push (before + 1) answers records answer placed each.1 (subst P same is))

next_number : (n k : ℕ) → n ≡ (k + 1) % 2 ^ 32 → (n + 1) % 2 ^ 32 ≡ (k + 1 + 1) % 2 ^ 32
next_number n k is = omega (arith, is)

-- before the first PUT
pub put_none : (puts : Puts) → Heard [] [] puts.reader → puts.next ≡ 1 → HasPut [] [] puts
put_none puts behind next = record { heard = []; behind = behind; each = tt; next = next ∙ refl }

-- what the reply says
tells_put : (result : Result PutAnswer NoReply) (given : List ℕ) (answers : List PutAnswer) (old new : Puts) (old_link mid new_link : LinkRecord)
    → mid.ends ≡ old_link.ends → mid.faults ≡ old_link.faults → new.next ≡ (old.next + 1) % 2 ^ 32 → (h : HasPut given answers old) → (more : List ℕ)
    → Replies (IsPutReply old.next) result (given ++ more) h.heard new.reader mid new_link → TellsPut result (given ++ more) answers new old_link new_link
tells_put (Ok answer) given answers old new old_link mid new_link ends faults next h more replies =
    let P : ℕ → Type 0 = λ n. IsPutReply n answer (in_reader new.reader).content in
    record {
      heard = h.heard ++ in_reader new.reader ∷ [];
      behind = replies.0.0;
      each = answers_push 0 answers h.heard answer (in_reader new.reader) h.each (let same : put_number (length answers) ≡ put_number (0 + length answers) = ap put_number (omega arith) in subst P (h.next ∙ same) replies.1);
      next = next ∙ next_number old.next (length answers) h.next ∙ (let len : length answers + 1 ≡ length (answers ++ answer ∷ []) = omega (arith, length-append answers (answer ∷ [])) in ap put_number len);
    }
tells_put (Err why) given answers old new old_link mid new_link ends faults next h more says =
    let P : ℕ → Type 0 = λ n. SaysNone (IsPutReply n) why (given ++ more) h.heard old_link new_link in
    record { heard = h.heard; each = h.each; says = subst P h.next (says_none_from (IsPutReply old.next) why (given ++ more) h.heard old_link mid new_link ends faults says) }

-- the PUT was sent, and what became of it was heard
pub puts_heard : (result : Result PutAnswer NoReply) (info : Metadata) (body : List ℕ) (old new : Puts) (old_link mid new_link : LinkRecord) → SendsPut (Ok tt) (put_call old.next info body) old_link mid
    → new.next ≡ (old.next + 1) % 2 ^ 32 → HearsReply (IsPutReply old.next) result old.reader new.reader mid new_link → PutsOne result info body old new old_link new_link
puts_heard result info body old new old_link mid new_link sent next hears =
    let call = put_call old.next info body in
    record {
      sent = call;
      more = hears.more;
      exchanged = Exchanged-then_given old_link mid new_link call [] hears.more (Exchanged-sent old_link mid call sent) hears.exchanged;
      sent_is = all_sent (IsPutReply old.next) result call;
      told = λ given answers h.
          tells_put result given answers old new old_link mid new_link (ap (λ (link : LinkRecord). link.ends) sent) (ap (λ (link : LinkRecord). link.faults) sent) next h hears.more
          (hears.told given h.heard h.behind);
    }

-- the PUT was not sent, all of it
pub puts_failed : (why : NoReply) (info : Metadata) (body : List ℕ) (old new : Puts) (old_link new_link : LinkRecord) → SendsPut (Err why) (put_call old.next info body) old_link new_link
    → PutsOne (Err why) info body old new old_link new_link
puts_failed (BadFrame at) info body old new old_link new_link sent = absurd sent
puts_failed StreamLimit info body old new old_link new_link sent = absurd sent
puts_failed LinkFault info body old new old_link new_link sent =
    let front = Exchanged-front old_link new_link sent.0 sent.3 in
    record {
      sent = sent.0;
      more = [];
      exchanged = front.0;
      sent_is = (sent.1, sent.2);
      told = λ given answers h.
          let P : List ℕ → Type 0 = λ bytes. SaysNone (IsPutReply (put_number (length answers))) LinkFault bytes h.heard old_link new_link in
          record { heard = h.heard; each = h.each; says = subst P (sym (append-nil given)) (heard_some given h.heard old.reader h.behind, front.1) };
    }
puts_failed OutOfMemory info body old new old_link new_link sent =
    record {
      sent = [];
      more = [];
      exchanged = Exchanged-nothing old_link new_link (ap (λ (link : LinkRecord). link.passed) sent) (ap (λ (link : LinkRecord). link.left) sent);
      sent_is = (put_call old.next info body, refl);
      told = λ given answers h.
          let P : List ℕ → Type 0 = λ bytes. SaysNone (IsPutReply (put_number (length answers))) OutOfMemory bytes h.heard old_link new_link in
          record { heard = h.heard; each = h.each; says = subst P (sym (append-nil given)) (heard_some given h.heard old.reader h.behind) };
    }
