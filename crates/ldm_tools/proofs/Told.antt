-- One product, by what its calls promise, and products one after another.
use Rattle.std.proofs.Common.{◌≡◌, ◌∙◌, ℕ, ◌+◌, Bool, true, List, [], ◌∷◌, ◌++◌, length, refl, sym, ap, subst, append_assoc, arith}
use Rattle.std.specs.Prelude.{Result, Ok, Err}
use Rattle.std.proofs.lemmas.List.{append-nil, length-append}
use Rattle.ldm_outside.proofs.CallerLemmas.{Takes-nothing, Takes-then}
use Rattle.ldm_relay.specs.declared.message.PutAnswer.{PutAnswer}
use Rattle.ldm_relay.specs.declared.message.PutAnswer.TheVariants as put_answer
use Rattle.ldm_relay.specs.declared.message.TheConstants.{LARGEST_REPLY}
use Rattle.ldm_rpc.specs.Streams.{Placed, at_start, records_in}
use Rattle.ldm_rpc.proofs.Joined.{records-append}
use Rattle.ldm_session.specs.Exchange.{Exchanged}
use Rattle.ldm_session.specs.Owed.{hand_given, records_given}
use Rattle.ldm_session.proofs.CallerLemmas.{Exchanged-nothing, Exchanged-then}
use Rattle.ldm_tools.specs.declared.no_reply.NoReply.{NoReply}
use Rattle.ldm_tools.specs.declared.put_fault.PutFault.{PutFault}
use Rattle.ldm_tools.specs.declared.put_fault.PutFault.TheVariants as fault
use Rattle.ldm_tools.specs.declared.puts.Puts.{Puts}
use Rattle.ldm_tools.specs.Asking.{sends_all}
use Rattle.ldm_session.specs.Part.{IsPart}
use Rattle.ldm_tools.specs.Lines.{is_denied, put_line}
use Rattle.ldm_tools.specs.Puts.{HasPut, PutsOne, put_call}
use Rattle.ldm_tools.specs.Telling.{AreTold, HasAnswers, IsPut, Product, Putting, PutsProduct, Tells, Wire, call_of, calls_of, lines_of, wire_of}
use Rattle.ldm_tools.specs.Told.{TellsAnswer}

-- what a reader is behind is what all that the link gave says first
pub has_answers : (given : List ℕ) (answers : List PutAnswer) (puts : Puts) → HasPut given answers puts → HasAnswers given answers
has_answers given answers puts has =
    let behind = records_in (hand_given has.behind.seen) puts.reader.waiting in
    record {
      heard = has.heard;
      behind = behind;
      records = ap records_given has.behind.all ∙ records-append (at_start LARGEST_REPLY) has.behind.seen puts.reader.waiting
          ∙ ap (λ (x : List Placed). x ++ behind) has.behind.records;
      each = has.each;
    }

denied : (answer : PutAnswer) → is_denied answer ≡ true → answer ≡ put_answer.Denied
denied (put_answer.Admitted n time evicted) is = cc
denied (put_answer.TooBig need arena) is = cc
denied (put_answer.Duplicate n) is = cc
denied put_answer.TimeEnd is = cc
denied (put_answer.Locked held) is = cc
denied put_answer.Denied is = refl

-- ---- one product

module _ (product : Product) (old new : Putting) where
  is_put : (answer : PutAnswer) (sent : PutsOne (Ok answer) product.info product.body old.puts new.puts old.link new.link) (given : List ℕ) (answers : List PutAnswer)
      → HasPut given answers old.puts → IsPut product answer (wire_of old given answers) (wire_of new (given ++ sent.more) (answers ++ answer ∷ []))
  is_put answer sent given answers has =
      let told = sent.told given answers has in
      let call = sent.sent_is ∙ ap (λ (n : ℕ). put_call n product.info product.body) has.next in
      let P : List ℕ → Type 0 = λ bytes. Exchanged old.link bytes sent.more new.link in
      record {
        more = sent.more;
        exchanged = subst P call sent.exchanged;
        given = refl;
        answers = refl;
        says = has_answers (given ++ sent.more) (answers ++ answer ∷ []) new.puts told;
      }

  -- an answer came
  pub line_told : (result : Result Bool PutFault) (answer : PutAnswer) → PutsOne (Ok answer) product.info product.body old.puts new.puts old.link new.link
      → TellsAnswer result answer old.sink new.sink → PutsProduct result product old new
  line_told (Ok refused) answer sent tells = λ given answers has. (
    answer,
    given ++ sent.more,
    record { put = is_put answer sent given answers has; not_denied = tells.0; written = tells.2 },
    sent.told given answers has,
    tells.1,
  )
  line_told (Err fault.SinkFault) answer sent tells = λ given answers has. (
    given ++ sent.more,
    answers ++ answer ∷ [],
    record { answer = answer; put = is_put answer sent given answers has; not_denied = tells.0; rose = tells.1; front = tells.2 },
  )
  line_told (Err fault.Denied) answer sent tells = λ given answers has.
      let behind : List PutAnswer = answers ++ answer ∷ [] in
      let P : PutAnswer → Type 0 = λ x. IsPut product x (wire_of old given answers) (wire_of new (given ++ sent.more) behind) in
      (given ++ sent.more, behind, record { put = subst P (denied answer tells.0) (is_put answer sent given answers has); sink = tells.1 })
  line_told (Err (fault.NoAnswer why)) answer sent tells = absurd tells

  -- no answer came
  pub not_answered : (why : NoReply) → PutsOne (Err why) product.info product.body old.puts new.puts old.link new.link → new.sink ≡ old.sink
      → PutsProduct (Err (fault.NoAnswer why)) product old new
  not_answered why sent still = λ given answers has.
      let P : ℕ → Type 0 = λ n. let result : Result PutAnswer NoReply = Err why in IsPart (sends_all result) sent.sent (put_call n product.info product.body) in (
        given ++ sent.more,
        answers,
        record {
          sent = sent.sent;
          more = sent.more;
          exchanged = sent.exchanged;
          sent_is = subst P has.next sent.sent_is;
          given = refl;
          answers = refl;
          says = sent.told given answers has;
          sink = still;
        },
      )

-- ---- products one after another

-- what was sent, given and written over all these products
pub tells : (products : List Product) (answers : List PutAnswer) (old new : Wire) → AreTold products answers old new → Tells products answers old new
tells [] [] old new each = record {
  more = [];
  sent = Exchanged-nothing old.link new.link (ap (λ (w : Wire). w.link.passed) each) (ap (λ (w : Wire). w.link.left) each);
  given = ap (λ (w : Wire). w.given) each ∙ sym (append-nil old.given);
  answers_are = ap (λ (w : Wire). w.answers) each ∙ sym (append-nil old.answers);
  written = Takes-nothing old.sink new.sink (ap (λ (w : Wire). w.sink.written) each);
}
tells [] (answer ∷ answers) old new each = absurd each
tells (product ∷ products) [] old new each = absurd each
tells (product ∷ products) (answer ∷ answers) old new each =
    let mid = each.0 in
    let told = each.1 in
    let put = told.put in
    let rest = tells products answers mid new each.2 in
    let count : length mid.answers ≡ length old.answers + 1 = omega (arith, ap length put.answers, length-append old.answers (answer ∷ [])) in
    let Q : ℕ → Type 0 = λ n. Exchanged mid.link (calls_of n products) rest.more new.link in
    record {
      more = put.more ++ rest.more;
      sent = Exchanged-then old.link mid.link new.link (call_of product old) put.more (calls_of (length old.answers + 1) products) rest.more
          put.exchanged (subst Q count rest.sent);
      given = rest.given ∙ ap (λ (g : List ℕ). g ++ rest.more) put.given ∙ append_assoc old.given put.more rest.more;
      answers_are = rest.answers_are ∙ ap (λ (a : List PutAnswer). a ++ answers) put.answers ∙ append_assoc old.answers (answer ∷ []) answers;
      written = Takes-then old.sink mid.sink new.sink (put_line answer) (lines_of answers) told.written rest.written;
    }
