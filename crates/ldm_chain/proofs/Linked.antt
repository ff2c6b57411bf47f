-- What the queues of a link come to.
use Rattle.std.proofs.Common.{◌≡◌, ℕ, ◌+◌, ◌<◌, ◌≤◌, false, List, [], ◌∷◌, ◌++◌, length, Option, Some, None, inl, inr, refl, ap, sym, subst, ◌∙◌, append_assoc, arith}
use Rattle.std.proofs.lemmas.List.{append-nil, length-append}
use Rattle.std.proofs.lemmas.List.Concat.{flat_map-append}
use Rattle.ldm_types.specs.declared.class.ClassSpec.{ClassSpec}
use Rattle.ldm_types.specs.declared.limits.TheConstants.{LARGEST_ARENA}
use Rattle.ldm_model.specs.declared.event.Entry.{Entry}
use Rattle.ldm_model.specs.State.{State}
use Rattle.ldm_model.specs.History.{after_entries, IsLegalFrom}
use Rattle.ldm_class.specs.Classes.{bad_place}
use Rattle.ldm_class.specs.Access.{feeds_for, first_rule, is_about, or_none, reduce}
use Rattle.ldm_class.specs.declared.answers.Reduced.{Reduced}
use Rattle.ldm_class.specs.declared.answers.Reduced.TheVariants as reduced
use Rattle.ldm_rpc.specs.Streams.{Position}
use Rattle.ldm_relay.specs.Fits.{ClassFits}
use Rattle.ldm_relay.specs.Sent.{Sent}
use Rattle.ldm_relay.specs.Sent as sent
use Rattle.ldm_relay.specs.Spelling.{record_of, written, records_of}
use Rattle.ldm_outside.specs.Link.{bytes_given, bytes_sent}
use Rattle.ldm_shared.specs.Passes.{PassView}
use Rattle.ldm_intake.specs.declared.end.RecvEnd.{RecvEnd}
use Rattle.ldm_intake.specs.Course.{Comes, Leads, then}
use Rattle.ldm_intake.specs.Opening.{request_of}
use Rattle.ldm_intake.specs.Receiving.{Receiving}
use Rattle.ldm_intake.specs.Taken.{Arrival, Taken, taken, taken_none}
use Rattle.ldm_intake.proofs.Courses.{leads-same, leads-then_comes, leads-then_parts}
use Rattle.ldm_intake.proofs.TakenRecords.{goes_on, goes_on_at, in_front, taken-append, taken-from_none}
use Rattle.ldm_sender.specs.declared.end.SendEnd.{SendEnd}
use Rattle.ldm_sender.specs.declared.end.SendEnd.TheVariants.{Stopped, Reclassed}
use Rattle.ldm_sender.specs.Asked.{Asked}
use Rattle.ldm_sender.specs.Opening.{Answered, IsAnswerTo}
use Rattle.ldm_sender.specs.Opening as answered
use Rattle.ldm_session.specs.declared.limits.TheConstants.{LONGEST_STREAM}
use Rattle.ldm_downstream.specs.Pieces.{Piece, arrivals, beginning, hand, joined}
use Rattle.ldm_downstream.specs.Received.{end_behind, received, with_hand}
use Rattle.ldm_downstream.proofs.Arrivals.{arrivals-append, hand-append}
use Rattle.ldm_between_ends.specs.Narrowing.{Narrows}
use Rattle.ldm_between_ends.specs.Passing.{HasAsked, Passing, record_at}
use Rattle.ldm_between_ends.specs.Queue.{passed_all}
use Rattle.ldm_between_ends.proofs.Growing.{comes-made}
use Rattle.ldm_between_ends.specs.OnePass.{IsOnlyPass, state_of}
use Rattle.ldm_between_ends.proofs.OnePass.{fed-opened, seen-by}
use Rattle.ldm_chain.specs.Causes.{most_received}
use Rattle.ldm_chain.specs.Linking.{Fed, FedFewer, Links, asking, request_read}
use Rattle.ldm_chain.specs.MirrorView.{MirrorView, all_read}
use Rattle.ldm_chain.specs.Queues.{IsForAllTimes, fed_from, left_to, products_due}
use Rattle.ldm_chain.specs.Reflecting.{pieces_at}
use Rattle.ldm_chain.proofs.FedWhole.{TookAll, fed-queue, made-legal, made-state, still-only}
use Rattle.ldm_chain.proofs.UsedLaws.{Laws}
use Rattle.ldm_chain.proofs.Moment.{received-same}
use Rattle.ldm_chain.proofs.Narrower.{fewer-from, fewer-names, fewer-other, same-names}
use Rattle.ldm_chain.proofs.Took.{Took, replied-behind, sent-behind, took}

-- ---- records of two feedings

-- what bytes behind them do not end was not ended before
live-before : (q : Position) (end : Option RecvEnd) → end_behind q end ≡ None → end ≡ None
live-before q None is = refl
live-before q (Some end) is = absurd (cc is)

-- What two rows of records lead to: the first ones, and then the others, from where those left the receiving.
record Halves (actor : ℕ) (s : Receiving) (first second : List Arrival) (made : List Entry) (u : Taken) : Type 0 where
  mid : Taken
  before : List Entry
  behind : List Entry
  to : Taken
  all : made ≡ before ++ behind
  firsts : Leads actor (taken (taken_none s) first) before mid
  seconds : Leads actor (taken (taken_none mid.receiving) second) behind to
  is : u ≡ in_front mid.replies mid.notes to

halves : (actor : ℕ) (s : Receiving) (first second : List Arrival) (made : List Entry) (u : Taken)
    → ((mid : Taken) (before : List Entry) → Leads actor (taken (taken_none s) first) before mid → mid.end ≡ None)
    → Leads actor (taken (taken_none s) (first ++ second)) made u → Halves actor s first second made u
halves actor s first second made u live leads =
    let parts = leads-then_parts actor (taken (taken_none s) first) (goes_on second) made u
    (leads-same actor (taken (taken_none s) (first ++ second)) (then (taken (taken_none s) first) (goes_on second)) made u (taken-append (taken_none s) first second refl) leads) in
    by parts.mid parts.made parts.more parts.all parts.first (live parts.mid parts.made parts.first) parts.mid.end refl parts.second
  where
    by : (mid : Taken) (before more : List Entry) → made ≡ before ++ more → Leads actor (taken (taken_none s) first) before mid → mid.end ≡ None → (end : Option RecvEnd) → mid.end ≡ end
        → Leads actor (goes_on_at second mid end) more u → Halves actor s first second made u
    by mid before more all firsts goes_on None open_ later =
        let rest = leads-then_parts actor (taken (taken_none mid.receiving) second) (λ (v : Taken). Comes (in_front mid.replies mid.notes v)) more u
        (leads-same actor (taken mid second) (then (taken (taken_none mid.receiving) second) (λ (v : Taken). Comes (in_front mid.replies mid.notes v))) more u
        (taken-from_none mid second open_) later) in
        let ends = comes-made actor (in_front mid.replies mid.notes rest.mid) rest.more u rest.second in
        record {
          mid = mid;
          before = before;
          behind = rest.made;
          to = rest.mid;
          all = all ∙ ap (λ (x : List Entry). before ++ x) (rest.all ∙ ap (λ (x : List Entry). rest.made ++ x) ends.0 ∙ append-nil rest.made);
          firsts = firsts;
          seconds = rest.first;
          is = sym ends.1;
        }
    by mid before more all firsts goes_on (Some end) over later = absurd (let no : Some end ≡ None = sym over ∙ goes_on in cc no)

module _ (laws : Laws) (asked : Asked) (now : ℕ) (before : PassView) (number : asked.xid ≡ 1) where
  -- the receiver, as it asked first
  abbrev first_asker : Receiving
  first_asker = asking asked.class asked.max_hereis

  abbrev request : List ℕ
  request = records_of (request_of first_asker)

  -- the mirror before its first byte: the request waits
  abbrev at_first_byte : MirrorView
  at_first_byte = record (request_read first_asker before) { passed = []; waiting = request }

  abbrev has-asked : HasAsked asked first_asker
  has-asked = record { again = false; phase_is = refl; xid_is = number; none_pending = refl; no_policy = refl; wanted = λ info is. is }

  -- ---- all of the class is left

  pub took-whole : (why : SendEnd) (old new : PassView) (end : MirrorView) (fed : Fed why asked old new (request_read first_asker before) end) (t : Took first_asker before now end)
      → TookAll asked fed.feeds.sent fed.feeds.given now before.actor t.made end.receiver.end
  took-whole why old new end fed t =
      let feeds = fed.feeds in
      record {
        begins = first_asker;
        at = 0;
        parts = t.parts;
        came_to = t.to;
        asker = has-asked;
        leads = t.leads;
        came = t.came ∙ sent-behind at_first_byte end.passed feeds.sent feeds.given feeds.exchanged.passed;
        few = omega (arith, t.few);
        waiting = end.waiting;
        heard = replied-behind at_first_byte end.passed feeds.sent feeds.given feeds.exchanged.passed end.waiting request (records_of t.to.replies) refl t.out;
        end_is = t.end_is;
      }

  -- ---- a part of it is left

  module _ (old mid : PassView) (told : MirrorView) (fewer : ClassSpec) (first : Fed Reclassed asked old mid (request_read first_asker before) told)
      (left : reduce asked.rules asked.host asked.class ≡ reduced.Fewer fewer) (fits : ClassFits fewer) (meant : bad_place fewer.specs.items ≡ None) where
    is-fewer : first.feeds.feeding.answered ≡ answered.Reclassed fewer
    is-fewer =
        let f = first.feeds in
        let by_rules : reduce asked.rules asked.host asked.class ≡ reduced.Fewer f.cause.0 = subst (IsAnswerTo asked) f.cause.1 f.is_feeding.answered in
        let same : reduced.Fewer f.cause.0 ≡ reduced.Fewer fewer = sym by_rules ∙ left in
        let class : f.cause.0 ≡ fewer = cc same in
        f.cause.1 ∙ ap answered.Reclassed class

    abbrev narrowing_of : (parts : List (List ℕ)) (made : List Entry) (to : Taken) → Passing
    narrowing_of parts made to = record {
      asked = asked;
      feeding = first.feeds.feeding;
      begins = first_asker;
      at = 0;
      pieces = pieces_at now parts;
      actor = before.actor;
      made = made;
      came_to = to;
    }

    narrows-of : (parts : List (List ℕ)) (made : List Entry) (to : Taken) → joined (pieces_at now parts) ≡ first.feeds.sent → length (joined (pieces_at now parts)) < LONGEST_STREAM
        → Leads before.actor (received first_asker beginning (pieces_at now parts)) made to → Narrows (narrowing_of parts made to) fewer
    narrows-of parts made to came few leads = laws.narrows (narrowing_of parts made to) fewer (record {
      is = first.feeds.is_feeding;
      answered = is-fewer;
      fits = fits;
      meant = meant;
      other = fewer-other (feeds_for asked.host asked.rules) (or_none (first_rule (is_about asked.host) asked.rules)) asked.class fewer left;
      asker = has-asked;
      once = refl;
      carries = came ∙ first.feeds.sent_part;
      few = omega (arith, few);
      leads = leads;
    })

    -- the second request
    abbrev again_asked : List Sent
    again_asked = sent.Feedme 2 fewer asked.max_hereis ∷ []

    -- the first feeding was answered by that request alone
    module _ (t : Took first_asker before now told) where
      sent-first : bytes_sent told.passed ≡ first.feeds.sent
      sent-first = sent-behind at_first_byte told.passed first.feeds.sent first.feeds.given first.feeds.exchanged.passed

      out-first : bytes_given told.passed ++ told.waiting ≡ request ++ records_of again_asked
      out-first =
          let n = narrows-of t.parts t.made t.to (t.came ∙ sent-first) t.few t.leads in
          t.out ∙ ap (λ (v : Taken). request ++ records_of v.replies) n.came_to

      module _ (why : SendEnd) (new : PassView) (end : MirrorView) (fed : Fed why (record asked { xid = 2; class = fewer }) mid new (all_read told) end)
          (u : Took first_asker before now end) where
        abbrev one : List ℕ
        one = first.feeds.sent

        abbrev other : List ℕ
        other = fed.feeds.sent

        abbrev one_piece : List Piece
        one_piece = pieces_at now (one ∷ [])

        abbrev other_piece : List Piece
        other_piece = pieces_at now (other ∷ [])

        abbrev both_pieces : List Piece
        both_pieces = pieces_at now (one ∷ other ∷ [])

        sent-both : bytes_sent end.passed ≡ one ++ other
        sent-both = sent-behind told end.passed other fed.feeds.given fed.feeds.exchanged.passed ∙ ap (λ (x : List ℕ). x ++ other) sent-first

        joined-both : joined (pieces_at now u.parts) ≡ joined both_pieces
        joined-both = u.came ∙ sent-both ∙ sym (ap (λ (x : List ℕ). one ++ x) (append-nil other))

        few-both : length one + length other < LONGEST_STREAM
        few-both = omega (arith, u.few, ap length (u.came ∙ sent-both), length-append one other)

        leads-both : Leads before.actor (received first_asker beginning both_pieces) u.made u.to
        leads-both =
            leads-same before.actor (received first_asker beginning (pieces_at now u.parts)) (received first_asker beginning both_pieces) u.made u.to
            (received-same now beginning u.parts (one ∷ other ∷ []) joined-both (omega (arith, u.few)) first_asker) u.leads

        -- what the receiver did of both
        abbrev h0 : Position
        h0 = hand beginning both_pieces

        -- the first feeding ends nothing
        first-live : (mid : Taken) (earlier : List Entry) → Leads before.actor (taken (taken_none first_asker) (arrivals beginning one_piece)) earlier mid → mid.end ≡ None
        first-live mid earlier firsts =
            let h1 = hand beginning one_piece in
            let leads1 = leads-then_comes before.actor (taken (taken_none first_asker) (arrivals beginning one_piece)) (λ (v : Taken). Comes (with_hand h1 v)) earlier mid
            (with_hand h1 mid) firsts refl in
            let n = narrows-of (one ∷ []) earlier (with_hand h1 mid) (append-nil one) (omega (arith, few-both, ap length (append-nil one))) leads1 in
            live-before h1 mid.end (ap (λ (v : Taken). v.end) n.came_to)

        record Split : Type 0 where
          mid_taken : Taken
          behind : List Entry
          to : Taken
          made_is : u.made ≡ behind
          asks : HasAsked (record asked { xid = 2; class = fewer }) mid_taken.receiving
          edge : hand beginning one_piece ≡ record_at (0 + length (joined one_piece))
          leads : Leads before.actor (taken (taken_none mid_taken.receiving) (arrivals (hand beginning one_piece) other_piece)) behind to
          replies : u.to.replies ≡ again_asked ++ to.replies
          end_is : end_behind h0 to.end ≡ u.to.end

        split : Split
        split =
            let actor = before.actor in
            let s = first_asker in
            let parts = leads-then_parts actor (taken (taken_none s) (arrivals beginning both_pieces)) (λ (v : Taken). Comes (with_hand h0 v)) u.made u.to leads-both in
            let ends = comes-made actor (with_hand h0 parts.mid) parts.more u.to parts.second in
            let a1 = arrivals beginning one_piece in
            let h1 = hand beginning one_piece in
            let a2 = arrivals h1 other_piece in
            let half = halves actor s a1 a2 parts.made parts.mid first-live
            (leads-same actor (taken (taken_none s) (arrivals beginning both_pieces)) (taken (taken_none s) (a1 ++ a2)) parts.made parts.mid
            (ap (taken (taken_none s)) (arrivals-append beginning one_piece other_piece)) parts.first) in
            let leads1 = leads-then_comes actor (taken (taken_none s) a1) (λ (v : Taken). Comes (with_hand h1 v)) half.before half.mid (with_hand h1 half.mid) half.firsts refl in
            let n = narrows-of (one ∷ []) half.before (with_hand h1 half.mid) (append-nil one)
            (omega (arith, few-both, ap length (append-nil one))) leads1 in
            record {
              mid_taken = half.mid;
              behind = half.behind;
              to = half.to;
              made_is = parts.all ∙ ap (λ (x : List Entry). parts.made ++ x) ends.0 ∙ append-nil parts.made ∙ half.all ∙ ap (λ (x : List Entry). x ++ half.behind) n.none_made;
              asks = n.asks (record asked { xid = 2; class = fewer }) refl refl;
              edge = n.edge;
              leads = half.seconds;
              replies = sym (ap (λ (v : Taken). v.replies) ends.1) ∙ ap (λ (v : Taken). v.replies) half.is
                  ∙ ap (λ (v : Taken). v.replies ++ half.to.replies) n.came_to;
              end_is = ap (λ (v : Taken). end_behind h0 v.end) (sym half.is) ∙ ap (λ (v : Taken). v.end) ends.1;
            }

        pub took-rest : TookAll (record asked { xid = 2; class = fewer }) fed.feeds.sent fed.feeds.given now before.actor u.made end.receiver.end
        took-rest =
            let actor = before.actor in
            let sp = split in
            let at = 0 + length (joined one_piece) in
            let there : Leads actor (taken (taken_none sp.mid_taken.receiving) (arrivals (record_at at) other_piece)) sp.behind sp.to =
            subst (λ (q : Position). Leads actor (taken (taken_none sp.mid_taken.receiving) (arrivals q other_piece)) sp.behind sp.to) sp.edge sp.leads in
            let h2 = hand (record_at at) other_piece in
            let leads2 : Leads actor (received sp.mid_taken.receiving (record_at at) other_piece) sp.behind (with_hand h2 sp.to) =
            leads-then_comes actor (taken (taken_none sp.mid_taken.receiving) (arrivals (record_at at) other_piece)) (λ (v : Taken). Comes (with_hand h2 v)) sp.behind sp.to
            (with_hand h2 sp.to) there refl in
            let out : bytes_given end.passed ++ end.waiting ≡ (request ++ records_of again_asked) ++ records_of sp.to.replies =
            u.out ∙ ap (λ (x : List Sent). request ++ records_of x) sp.replies
            ∙ ap (λ (x : List ℕ). request ++ x) (flat_map-append (λ (m : Sent). record_of (written m)) again_asked sp.to.replies)
            ∙ sym (append_assoc request (records_of again_asked) (records_of sp.to.replies)) in
            record {
              begins = sp.mid_taken.receiving;
              at = at;
              parts = other ∷ [];
              came_to = with_hand h2 sp.to;
              asker = sp.asks;
              leads = subst (λ (x : List Entry). Leads actor (received sp.mid_taken.receiving (record_at at) other_piece) x (with_hand h2 sp.to)) (sym sp.made_is) leads2;
              came = append-nil other;
              few = omega (arith, few-both, ap length (append-nil one), ap length (append-nil other));
              waiting = end.waiting;
              heard = replied-behind told end.passed other fed.feeds.given fed.feeds.exchanged.passed end.waiting (request ++ records_of again_asked) (records_of sp.to.replies)
                  out-first out;
              end_is = ap (λ (q : Position). end_behind q sp.to.end)
                  (sym (hand-append beginning one_piece other_piece ∙ ap (λ (q : Position). hand q other_piece) sp.edge)) ∙ sp.end_is ∙ u.end_is;
            }

-- ---- both queues of a link

-- What a link leaves.
pub record Leaves (asked : Asked) (now : ℕ) (old new before after : PassView) : Type 0 where
  pub queue : state_of after ≡ fed_from (state_of old) asked now (state_of before)
  pub unchanged : state_of new ≡ state_of old
  pub only : IsOnlyPass after
  pub calls : length after.seen ≤ length before.seen + most_received

module _ (laws : Laws) (asked : Asked) (now : ℕ) (old new before after' : PassView) (links : Links asked now old new before after') (number : asked.xid ≡ 1)
    (only : IsOnlyPass old) (only_next : IsOnlyPass before) (asks : IsForAllTimes asked.class) where
  abbrev feeds_left : ℕ
  feeds_left = feeds_for asked.host asked.rules

  abbrev rule_left : ℕ
  rule_left = or_none (first_rule (is_about asked.host) asked.rules)

  end-took : Took (asking asked.class asked.max_hereis) before now links.end
  end-took = took links.b (asking asked.class asked.max_hereis) before now links.end links.reflects links.first links.moment links.goes_on

  -- what the queue of the node comes to, by what was asked for
  queue-by : (by : Asked) (from : State) → left_to (reduce asked.rules asked.host asked.class) asked ≡ by → from ≡ state_of old → by.max_hereis ≡ asked.max_hereis
      → after_entries (state_of before) end-took.made ≡ passed_all before.actor by.max_hereis now (products_due by from) (state_of before)
      → state_of links.end.pass ≡ fed_from (state_of old) asked now (state_of before)
  queue-by by from left from_is most is =
      made-state laws before links.end.pass end-took.made only_next (end-took.calls links.goes_on)
      ∙ is
      ∙ (λ i. passed_all (only_next.actor i) (most i) now (products_due (sym left i) (from_is i)) (state_of before))

  -- so many calls were made of it
  few-calls : length links.end.pass.seen ≤ length before.seen + most_received
  few-calls =
      let calls = end-took.calls links.goes_on in
      let seen = laws.goes_on before links.end.pass end-took.made (seen-by before links.end.pass end-took.made only_next.has_seen calls) only_next.passes only_next.actor in
      let few = laws.received_few before.actor (asking asked.class asked.max_hereis) beginning (pieces_at now end-took.parts) end-took.made end-took.to end-took.leads in
      omega (arith, few, end-took.few, ap (λ (es : List Entry). length es) seen, length-append before.seen end-took.made)

  with-end : state_of new ≡ state_of old → state_of links.end.pass ≡ fed_from (state_of old) asked now (state_of before) → Leaves asked now old new before after'
  with-end same queue = record {
    queue = subst (λ (p : PassView). state_of p ≡ fed_from (state_of old) asked now (state_of before)) links.pass_is queue;
    unchanged = same;
    only = subst IsOnlyPass links.pass_is (still-only laws before links.end.pass end-took.made only_next (end-took.calls links.goes_on));
    calls = subst (λ (p : PassView). length p.seen ≤ length before.seen + most_received) links.pass_is few-calls;
  }

  legal : IsLegalFrom (state_of before) end-took.made
  legal = made-legal laws before links.end.pass end-took.made only_next (end-took.calls links.goes_on)

  by-whole : Fed Stopped asked old new (request_read (asking asked.class asked.max_hereis) before) links.end → Leaves asked now old new before after'
  by-whole fed =
      let feeds = fed.feeds in
      let opened = fed-opened asked [] old new _ _ feeds in
      let all : reduce asked.rules asked.host asked.class ≡ reduced.Same = (subst (IsAnswerTo asked) opened.2 feeds.is_feeding.answered).0 in
      let names = same-names feeds_left rule_left asked.class asks all in
      with-end (laws.unchanged Stopped asked [] old new _ _ feeds only refl)
      (queue-by asked (state_of old) (ap (λ (r : Reduced). left_to r asked) all) refl refl
      (fed-queue laws asked old new _ _ feeds only links.small asks.from names now before.actor end-took.made links.end.receiver.end
      (took-whole laws asked now before number Stopped old new links.end fed end-took) (state_of before) legal))

  by-rest : FedFewer Stopped links.b asked old new (request_read (asking asked.class asked.max_hereis) before) links.end → Leaves asked now old new before after'
  by-rest part =
      let rest = part.rest in
      let fewer = rest.fewer in
      let narrower : Asked = record asked { xid = 2; class = fewer } in
      let t = took links.b (asking asked.class asked.max_hereis) before now part.told part.so_far links.first links.moment part.goes_on in
      let same = laws.unchanged Reclassed asked [] old part.mid _ _ part.first.feeds only refl in
      let mid_only = still-only laws old part.mid _ only part.first.feeds.made in
      let mid_small : part.mid.arena ≤ LARGEST_ARENA =
      subst (λ (n : ℕ). n ≤ LARGEST_ARENA) (sym (ap (λ (p : PassView). p.arena) part.first.feeds.made.same)) links.small in
      with-end (laws.unchanged Stopped narrower [] part.mid new _ _ rest.fed.feeds mid_only refl ∙ same)
      (queue-by narrower (state_of part.mid) (ap (λ (r : Reduced). left_to r asked) rest.left) same refl
      (fed-queue laws narrower part.mid new _ _ rest.fed.feeds mid_only mid_small (fewer-from feeds_left rule_left asked.class asks fewer rest.left)
      (fewer-names feeds_left rule_left asked.class asks fewer rest.left) now before.actor end-took.made links.end.receiver.end
      (took-rest laws asked now before number old part.mid part.told fewer part.first rest.left rest.fits rest.meant t Stopped new links.end rest.fed end-took) (state_of before) legal))

  pub leaves : Leaves asked now old new before after'
  leaves = elim links.fed [
    | inl fed ↦ by-whole fed
    | inr part ↦ by-rest part
  ]
