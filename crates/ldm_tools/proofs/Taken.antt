-- One file, by what its calls promise.
use Rattle.std.proofs.Common.{◌≡◌, ◌∙◌, ℕ, Bool, true, List, [], ◌∷◌, ◌++◌, refl, sym, ap, subst}
use Rattle.std.specs.Prelude.{Result, Ok, Err}
use Rattle.ldm_outside.specs.declared.store.FileRead.TheVariants as read
use Rattle.ldm_outside.specs.declared.io.SinkFailed.{SinkFailed}
use Rattle.ldm_outside.specs.Clock.{Answers}
use Rattle.ldm_outside.specs.Io as io
use Rattle.ldm_outside.specs.Io.{SinkRecord}
use Rattle.ldm_outside.specs.Store.{ReadsFile, StoreFails}
use Rattle.ldm_relay.specs.declared.message.PutAnswer.{PutAnswer}
use Rattle.ldm_relay.specs.declared.message.PutAnswer.TheVariants as put_answer
use Rattle.ldm_tools.specs.declared.put_fault.PutFault.{PutFault}
use Rattle.ldm_tools.specs.declared.put_fault.PutFault.TheVariants as put_fault
use Rattle.ldm_tools.specs.declared.puts.Puts.{Puts}
use Rattle.ldm_tools.specs.Telling.{IsPut, PutsProduct, wire_of}
use Rattle.ldm_tools.specs.declared.fault.InsertFault.{InsertFault}
use Rattle.ldm_tools.specs.declared.fault.InsertFault.TheVariants as fault
use Rattle.ldm_tools.specs.declared.limits.TheConstants.{LARGEST_FILE}
use Rattle.ldm_tools.specs.Files as files
use Rattle.ldm_tools.specs.Files.{IsBody, Put, TooLong}
use Rattle.ldm_tools.specs.Inserting.{FileAt, Inserting}
use Rattle.ldm_tools.specs.InsertLines.{too_long_line}
use Rattle.ldm_tools.specs.Moments.{Hands, moment}
use Rattle.ldm_tools.specs.Parts.{SentBy, Sends, TakesOne, product_of, putting_of, result_of}

module _ (all : Inserting) (file : FileAt) where
  -- ---- a file that is too long

  pub long_told : (puts : Puts) (old new : Hands) → ReadsFile read.TooLong file.path LARGEST_FILE old.store new.store → io.WritesAll (Ok tt) too_long_line old.sink new.sink
      → new ≡ record old { store = new.store; sink = new.sink } → TakesOne (Ok true) all file puts puts old new
  long_told puts old new found written same = λ given answers has. (
    TooLong,
    given,
    answers,
    record {
      between = moment (record old { store = new.store }) given answers;
      handled = record { found = found; same = refl };
      not_denied = refl;
      written = written;
      same = ap (λ (h : Hands). moment h given answers) same;
    },
    has,
    refl,
  )

  pub long_broken : (failed : SinkFailed) (puts : Puts) (old new : Hands) → ReadsFile read.TooLong file.path LARGEST_FILE old.store new.store
      → io.WritesAll (Err failed) too_long_line old.sink new.sink → new ≡ record old { store = new.store; sink = new.sink } → TakesOne (Err fault.SinkFault) all file puts puts old new
  long_broken failed puts old new found written same = λ given answers has. (
    given,
    answers,
    record {
      step = TooLong;
      between = moment (record old { store = new.store }) given answers;
      handled = record { found = found; same = refl };
      not_denied = refl;
      rose = written.0;
      front = written.1;
      same = ap (λ (h : Hands). moment h given answers) same;
    },
  )

  -- ---- a file that was not read

  pub not_read : (puts : Puts) (old new : Hands) → StoreFails old.store new.store → new ≡ record old { store = new.store } → TakesOne (Err fault.StoreFault) all file puts puts old new
  not_read puts old new fails same = λ given answers has. (given, answers, (fails, ap (λ (h : Hands). moment h given answers) same))

  pub no_memory : (puts : Puts) (old new : Hands) → new ≡ old → TakesOne (Err fault.OutOfMemory) all file puts puts old new
  no_memory puts old new same = λ given answers has. (given, answers, ap (λ (h : Hands). moment h given answers) same)

  -- ---- a file that was read

  abbrev sending : Puts → Hands → SentBy
  sending puts hands = record { puts = puts; link = hands.link; sink = hands.sink; clock = hands.clock }

  module _ (body : List ℕ) (arrival : ℕ) (old_puts new_puts : Puts) (old new : Hands) (is : IsBody body file.path old.store) (asked : Answers arrival old.clock new.clock)
      (same : new ≡ record new { store = old.store }) where
    -- what is between the answer and its line
    handled : (answer : PutAnswer) (given : List ℕ) (answers : List PutAnswer) (new_given : List ℕ)
        → IsPut (product_of all file body arrival) answer (wire_of (putting_of (sending old_puts old)) given answers)
        (wire_of (putting_of (sending new_puts new)) new_given (answers ++ answer ∷ []))
        → files.Puts all file body arrival answer (moment old given answers) (moment (record old { link = new.link; clock = new.clock }) new_given (answers ++ answer ∷ []))
    handled answer given answers new_given put = record {
      body_is = is;
      asked = asked;
      more = put.more;
      exchanged = put.exchanged;
      given = put.given;
      answers = refl;
      says = put.says;
      same = refl;
    }

    told : (put : Result Bool PutFault) → PutsProduct put (product_of all file body arrival) (putting_of (sending old_puts old)) (putting_of (sending new_puts new))
        → TakesOne (result_of put) all file old_puts new_puts old new
    told (Ok refused) puts = λ given answers has.
        let t = puts given answers has in (
          Put body arrival t.0,
          t.1,
          answers ++ t.0 ∷ [],
          record {
            between = moment (record old { link = new.link; clock = new.clock }) t.1 (answers ++ t.0 ∷ []);
            handled = handled t.0 given answers t.1 t.2.put;
            not_denied = t.2.not_denied;
            written = t.2.written;
            same = ap (λ (h : Hands). moment h t.1 (answers ++ t.0 ∷ [])) same;
          },
          t.3,
          t.4,
        )
    told (Err put_fault.SinkFault) puts = λ given answers has.
        let t = puts given answers has in
        let breaks = t.2 in
        let P : List PutAnswer → Type 0 =
        λ a. IsPut (product_of all file body arrival) breaks.answer (wire_of (putting_of (sending old_puts old)) given answers) (wire_of (putting_of (sending new_puts new)) t.0 a) in (
          t.0,
          t.1,
          record {
            step = Put body arrival breaks.answer;
            between = moment (record old { link = new.link; clock = new.clock }) t.0 t.1;
            handled = (let Q : List PutAnswer → Type 0 =
                λ a. files.Puts all file body arrival breaks.answer (moment old given answers) (moment (record old { link = new.link; clock = new.clock }) t.0 a) in
                subst Q (sym breaks.put.answers) (handled breaks.answer given answers t.0 (subst P breaks.put.answers breaks.put)));
            not_denied = breaks.not_denied;
            rose = breaks.rose;
            front = breaks.front;
            same = ap (λ (h : Hands). moment h t.0 t.1) same;
          },
        )
    told (Err put_fault.Denied) puts = λ given answers has.
        let t = puts given answers has in
        let denies = t.2 in
        let P : List PutAnswer → Type 0 =
        λ a. IsPut (product_of all file body arrival) put_answer.Denied (wire_of (putting_of (sending old_puts old)) given answers) (wire_of (putting_of (sending new_puts new)) t.0 a) in
        let Q : List PutAnswer → Type 0 =
        λ a. files.Puts all file body arrival put_answer.Denied (moment old given answers) (moment (record old { link = new.link; clock = new.clock }) t.0 a) in
        let there : record old { link = new.link; clock = new.clock } ≡ new = ap (λ (s : SinkRecord). record new { store = old.store; sink = s }) (sym denies.sink) ∙ sym same in
        let R : Hands → Type 0 = λ h. files.Puts all file body arrival put_answer.Denied (moment old given answers) (moment h t.0 t.1) in (
          t.0,
          t.1,
          record {
            body = body;
            arrival = arrival;
            puts = subst R there (subst Q (sym denies.put.answers) (handled put_answer.Denied given answers t.0 (subst P denies.put.answers denies.put)));
          },
        )
    told (Err (put_fault.NoAnswer why)) puts = λ given answers has.
        let t = puts given answers has in
        let breaks = t.2 in
        let there : new ≡ record old { link = new.link; clock = new.clock } = same ∙ ap (λ (s : SinkRecord). record new { store = old.store; sink = s }) breaks.sink in (
          t.0,
          t.1,
          record {
            body = body;
            arrival = arrival;
            body_is = is;
            asked = asked;
            sent = breaks.sent;
            more = breaks.more;
            exchanged = breaks.exchanged;
            sent_is = breaks.sent_is;
            given = breaks.given;
            says = breaks.says;
            same = ap (λ (h : Hands). moment h t.0 t.1) there ∙ ap (λ (a : List PutAnswer). moment (record old { link = new.link; clock = new.clock }) t.0 a) breaks.answers;
          },
        )

  pub put_told : (result : Result Bool InsertFault) (body : List ℕ) (old_puts new_puts : Puts) (old new : Hands) → IsBody body file.path old.store
      → Sends result all file body (sending old_puts old) (sending new_puts new) → new ≡ record new { store = old.store } → TakesOne result all file old_puts new_puts old new
  put_told result body old_puts new_puts old new is sends same =
      let P : Result Bool InsertFault → Type 0 = λ r. TakesOne r all file old_puts new_puts old new in
      subst P (sym sends.result_is) (told body sends.arrival old_puts new_puts old new is sends.asked same sends.put sends.puts)
