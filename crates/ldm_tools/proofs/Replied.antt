-- A reply that is heard, and a call with its reply, by what their calls promise.
use Rattle.std.proofs.Common.{◌≡◌, ◌∙◌, ℕ, List, [], ◌∷◌, ◌++◌, inl, inr, refl, sym, ap, subst, append_assoc}
use Rattle.std.specs.Prelude.{Result, Ok, Err}
use Rattle.std.proofs.lemmas.List.{append-nil}
use Rattle.ldm_outside.specs.declared.link.LinkFailed.{LinkFailed}
use Rattle.ldm_outside.specs.Count.{Rose}
use Rattle.ldm_outside.specs.Link.{LinkRecord, SendsAll}
use Rattle.ldm_relay.specs.declared.message.TheConstants.{LARGEST_REPLY}
use Rattle.ldm_rpc.specs.Streams.{Placed, at_start, records_in}
use Rattle.ldm_rpc.proofs.Joined.{records-append}
use Rattle.ldm_session.specs.Owed.{hand_given, records_given}
use Rattle.ldm_session.proofs.CallerLemmas.{Exchanged-front, Exchanged-nothing, Exchanged-sent, Exchanged-then_given}
use Rattle.ldm_tools.specs.declared.no_reply.NoReply.{NoReply}
use Rattle.ldm_tools.specs.declared.no_reply.NoReply.TheVariants.{BadFrame, StreamLimit, LinkFault, OutOfMemory}
use Rattle.ldm_tools.specs.declared.reader.LinkReader.{LinkReader}
use Rattle.ldm_tools.specs.declared.reader.NoRecord.{NoRecord}
use Rattle.ldm_tools.specs.declared.reader.NoRecord.TheVariants as no_record
use Rattle.ldm_tools.specs.Hearing.{Heard, HeardNone, HeardSome, Hears, in_reader}
use Rattle.ldm_tools.specs.Replies.{Answers, HearsReply, Replies, SaysNone, no_reply_of}
use Rattle.ldm_tools.specs.Asking.{Asks, sends_all}
use Rattle.ldm_session.specs.Part.{IsPart}

-- whatever waits, these are the first records
pub heard_some : (given : List ℕ) (heard : List Placed) (reader : LinkReader) → Heard given heard reader → HeardSome given heard
heard_some given heard reader h =
    let behind = records_in (hand_given h.seen) reader.waiting in
    (behind, ap records_given h.all ∙ records-append (at_start LARGEST_REPLY) h.seen reader.waiting ∙ ap (λ (x : List Placed). x ++ behind) h.records)

some_of_none : (given : List ℕ) (heard : List Placed) → HeardNone given heard → HeardSome given heard
some_of_none given heard none = ([], none ∙ sym (append-nil heard))

nothing_given : HeardSome [] []
unfolding records_in
nothing_given = ([], refl)

module _ {A : Type 0} (Is : A → List ℕ → Type 0) where
  -- the record that was heard is no reply
  pub other_heard : (old new : LinkReader) (old_link new_link : LinkRecord) (at : ℕ) → at ≡ new.begins → ((answer : A) → ¬ Is answer new.records.content)
      → Hears (Ok tt) old new old_link new_link → HearsReply Is (Err (BadFrame at)) old new old_link new_link
  other_heard old new old_link new_link at at_is is_not hears = record {
    more = hears.more;
    exchanged = hears.exchanged;
    told = λ given heard h.
        let one = hears.told given heard h in
        let some = heard_some (given ++ hears.more) (heard ++ in_reader new ∷ []) new one.0 in
        inr (inr (record { placed = in_reader new; behind = some.0; records = some.1 ∙ append_assoc heard (in_reader new ∷ []) some.0; at_is = at_is; is_not = is_not }));
  }

  -- no record was heard
  none_heard : (old new : LinkReader) (old_link new_link : LinkRecord) (why : NoRecord) → Hears (Err why) old new old_link new_link
      → HearsReply Is (Err (no_reply_of why)) old new old_link new_link
  none_heard old new old_link new_link (no_record.Ended at) hears = record {
    more = hears.more;
    exchanged = hears.exchanged;
    told = λ given heard h.
        let told = hears.told given heard h in
        inl (record { none = told.0; at_is = told.1; rose = hears.cause.0; nothing_left = hears.cause.1 });
  }
  none_heard old new old_link new_link (no_record.TooLong at) hears =
      record { more = hears.more; exchanged = hears.exchanged; told = λ given heard h. inr (inl (hears.told given heard h)) }
  none_heard old new old_link new_link no_record.StreamLimit hears =
      record { more = hears.more; exchanged = hears.exchanged; told = λ given heard h. hears.told given heard h }
  none_heard old new old_link new_link no_record.LinkFault hears = record {
    more = hears.more;
    exchanged = hears.exchanged;
    told = λ given heard h. (some_of_none (given ++ hears.more) heard (hears.told given heard h), hears.cause);
  }
  none_heard old new old_link new_link no_record.OutOfMemory hears =
      record { more = hears.more; exchanged = hears.exchanged; told = λ given heard h. hears.told given heard h }

  pub no_reply_heard : (old new : LinkReader) (old_link new_link : LinkRecord) (why : NoRecord) (no_reply : NoReply) → no_reply ≡ no_reply_of why
      → Hears (Err why) old new old_link new_link → HearsReply Is (Err no_reply) old new old_link new_link
  no_reply_heard old new old_link new_link why no_reply is hears =
      let P : NoReply → Type 0 = λ n. HearsReply Is (Err n) old new old_link new_link in
      subst P (sym is) (none_heard old new old_link new_link why hears)

  -- ---- a call

  pub all_sent : (result : Result A NoReply) (call : List ℕ) → IsPart (sends_all result) call call
  all_sent (Ok answer) call = refl
  all_sent (Err (BadFrame at)) call = refl
  all_sent (Err StreamLimit) call = refl
  all_sent (Err LinkFault) call = ([], append-nil call)
  all_sent (Err OutOfMemory) call = ([], append-nil call)

  -- why there is no reply, to one who looks at the link from its beginning
  pub says_none_from : (why : NoReply) (given : List ℕ) (heard : List Placed) (old mid new : LinkRecord) → mid.ends ≡ old.ends → mid.faults ≡ old.faults
      → SaysNone Is why given heard mid new → SaysNone Is why given heard old new
  says_none_from (BadFrame at) given heard old mid new ends faults (inl ended) =
      let P : ℕ → Type 0 = λ n. Rose n new.ends in
      inl (record { none = ended.none; at_is = ended.at_is; rose = subst P ends ended.rose; nothing_left = ended.nothing_left })
  says_none_from (BadFrame at) given heard old mid new ends faults (inr other) = inr other
  says_none_from StreamLimit given heard old mid new ends faults says = says
  says_none_from LinkFault given heard old mid new ends faults says =
      let P : ℕ → Type 0 = λ n. Rose n new.faults in
      (says.0, subst P faults says.1)
  says_none_from OutOfMemory given heard old mid new ends faults says = says

  -- what the replies say, to one who looks at the link from its beginning
  says_from : (result : Result A NoReply) (given : List ℕ) (heard : List Placed) (reader : LinkReader) (old mid new : LinkRecord) → mid.ends ≡ old.ends → mid.faults ≡ old.faults
      → Replies Is result given heard reader mid new → Answers Is result given heard old new
  says_from (Ok answer) given heard reader old mid new ends faults replies =
      let some = heard_some given (heard ++ in_reader reader ∷ []) reader replies.0.0 in
      record { placed = in_reader reader; behind = some.0; records = some.1 ∙ append_assoc heard (in_reader reader ∷ []) some.0; is = replies.1 }
  says_from (Err why) given heard reader old mid new ends faults replies = says_none_from why given heard old mid new ends faults replies

  -- a call was sent, and what came of it was heard
  pub asks_heard : (result : Result A NoReply) (call : List ℕ) (old_reader new_reader : LinkReader) (old mid new : LinkRecord) → Heard [] [] old_reader → SendsAll (Ok tt) call old mid
      → HearsReply Is result old_reader new_reader mid new → Asks Is result call old new
  asks_heard result call old_reader new_reader old mid new h sent hears = record {
    sent = call;
    given = hears.more;
    exchanged = Exchanged-then_given old mid new call [] hears.more (Exchanged-sent old mid call sent) hears.exchanged;
    sent_is = all_sent result call;
    answers = says_from result hears.more [] new_reader old mid new (ap (λ (link : LinkRecord). link.ends) sent) (ap (λ (link : LinkRecord). link.faults) sent) (hears.told [] [] h);
  }

  -- the link failed before the call was sent
  pub asks_failed : (failed : LinkFailed) (call : List ℕ) (old new : LinkRecord) → SendsAll (Err failed) call old new → Asks Is (Err LinkFault) call old new
  asks_failed failed call old new sent =
      let front = Exchanged-front old new sent.0 sent.3 in
      record { sent = sent.0; given = []; exchanged = front.0; sent_is = (sent.1, sent.2); answers = (nothing_given, front.1) }

  -- there was no memory for it
  pub asks_nothing : (call : List ℕ) (link : LinkRecord) → Asks Is (Err OutOfMemory) call link link
  asks_nothing call link = record { sent = []; given = []; exchanged = Exchanged-nothing link link refl refl; sent_is = (call, refl); answers = nothing_given }
