-- A stream that is accepted is gathered to its end.
use Rattle.std.proofs.Common.{◌≡◌, ◌∙◌, ℕ, true, false, List, [], ◌∷◌, ◌++◌, Option, Some, None, inl, inr, ◌⊎◌, refl, sym, ap, subst, append_assoc}
use Rattle.std.specs.Prelude.{IfSome}
use Rattle.std.specs.Option.{option_map}
use Rattle.std.proofs.lemmas.List.{append-nil}
use Rattle.std.proofs.lemmas.List.Concat.{flat_map-append}
use Rattle.ldm_model.specs.declared.event.Entry.{Entry}
use Rattle.ldm_outside.specs.Link.{LinkRecord}
use Rattle.ldm_rpc.specs.Streams.{Position}
use Rattle.ldm_intake.specs.declared.end.RecvEnd.{RecvEnd}
use Rattle.ldm_intake.specs.declared.end.RecvEnd.TheVariants.{Ended, Truncated, BadFrame, Refused, LinkFault, LogFault, StreamLimit, Worn, OutOfMemory}
use Rattle.ldm_intake.specs.Course.{Leads}
use Rattle.ldm_intake.specs.Receiving.{Receiving}
use Rattle.ldm_intake.specs.Taken.{Arrival, Taken, taken_none, taken}
use Rattle.ldm_intake.specs.TakesRecord.{Standing, stands}
use Rattle.ldm_intake.proofs.TakenRecords.{in_front, leads-append, leads-from_none}
use Rattle.ldm_downstream.specs.Complete.{Accepts}
use Rattle.ldm_downstream.specs.Pieces.{Piece, arrivals, beginning, hand, joined}
use Rattle.ldm_downstream.specs.Pushing.{ClosesIf, Continues, EndsAt, EndsWhole, Pushes}
use Rattle.ldm_downstream.specs.Received.{at_stream_end, end_behind, is_edge, received, with_hand}
use Rattle.ldm_downstream.specs.ReceiverView.{ReceiverView, before_stream}
use Rattle.ldm_downstream.proofs.Arrivals.{arrivals-append, arrivals-none, hand-append, hand-none}
use Rattle.ldm_gather.specs.declared.end.GatherEnd.{GatherEnd}
use Rattle.ldm_gather.specs.declared.end.GatherEnd.TheVariants as end
use Rattle.ldm_gather.specs.declared.end.Handled.{Handled}
use Rattle.ldm_gather.specs.declared.end.Handled.TheVariants as handled
use Rattle.ldm_gather.specs.Causes.{HasCause}
use Rattle.ldm_gather.specs.Complete.{Completes, IsWhole}
use Rattle.ldm_gather.specs.Gathering.{Asks, BeginsNot, EndsBy, EndsStream, Gathers, GathersAll, GoesOn, TakesPiece}
use Rattle.ldm_gather.specs.Runs.{Gathered}
use Rattle.ldm_gather.specs.Scene.{Lent, GatherMoment, Scene, moment_of}
use Rattle.ldm_gather.proofs.Caused.{caused}
use Rattle.ldm_gather.proofs.Lasting.{by, by-records, ended-more, leads-by, received-leads}
use Rattle.ldm_gather.proofs.Turning.{pushes-live}

-- ---- what was received, from the first byte on

-- The records of these pieces lead to where the receiver stands, and it goes on.
record Led (s : Receiving) (pieces : List Piece) (receiver : ReceiverView) : Type 0 where
  made : List Entry
  to : Taken
  leads : Leads 0 (taken (taken_none s) (arrivals beginning pieces)) made to
  going : to.end ≡ None
  receiving : receiver.receiving ≡ to.receiving
  hand_is : receiver.hand ≡ hand beginning pieces

led-none : (s : Receiving) → Led s [] (before_stream s false)
unfolding taken
led-none s = record {
  made = [];
  to = taken_none s;
  leads = subst (λ (xs : List Arrival). Leads 0 (taken (taken_none s) xs) [] (taken_none s)) (sym (arrivals-none beginning)) refl;
  going = refl;
  receiving = refl;
  hand_is = sym (hand-none beginning);
}

-- The records of pieces and of one more lead there.
record LedOne (s : Receiving) (pieces : List Piece) (piece : Piece) (t : Taken) : Type 0 where
  made : List Entry
  to : Taken
  leads : Leads 0 (taken (taken_none s) (arrivals beginning (pieces ++ piece ∷ []))) made to
  end_is : end_behind (hand beginning (pieces ++ piece ∷ [])) to.end ≡ t.end
  receiving : to.receiving ≡ t.receiving

led-one : (s : Receiving) (pieces : List Piece) (piece : Piece) (receiver : ReceiverView) (actor : ℕ) (made : List Entry) (t : Taken) → Led s pieces receiver
    → Leads actor (received receiver.receiving receiver.hand (piece ∷ [])) made t → LedOne s pieces piece t
led-one s pieces piece receiver actor made t led leads =
    let records = by-records actor receiver.receiving receiver.hand (piece ∷ []) made t leads in
    let behind = arrivals (hand beginning pieces) (piece ∷ []) in
    let mine : Leads 0 (taken (taken_none receiver.receiving) (arrivals receiver.hand (piece ∷ []))) (by 0 made) records.to =
    leads-by actor 0 (taken (taken_none receiver.receiving) (arrivals receiver.hand (piece ∷ []))) made records.to records.leads in
    let here : Leads 0 (taken (taken_none led.to.receiving) behind) (by 0 made) records.to =
    subst (λ (r : Receiving). Leads 0 (taken (taken_none r) behind) (by 0 made) records.to) led.receiving
    (subst (λ (p : Position). Leads 0 (taken (taken_none receiver.receiving) (arrivals p (piece ∷ []))) (by 0 made) records.to) led.hand_is mine) in
    let all = leads-append 0 (taken_none s) refl (arrivals beginning pieces) behind led.made (by 0 made) led.to (in_front led.to.replies led.to.notes records.to) led.leads led.going
    (leads-from_none 0 led.to led.going behind (by 0 made) records.to here) in
    let hand_same : hand receiver.hand (piece ∷ []) ≡ hand beginning (pieces ++ piece ∷ []) =
    ap (λ (p : Position). hand p (piece ∷ [])) led.hand_is ∙ sym (hand-append beginning pieces (piece ∷ [])) in
    record {
      made = led.made ++ by 0 made;
      to = in_front led.to.replies led.to.notes records.to;
      leads =
          subst (λ (xs : List Arrival). Leads 0 (taken (taken_none s) xs) (led.made ++ by 0 made) (in_front led.to.replies led.to.notes records.to))
          (sym (arrivals-append beginning pieces (piece ∷ []))) all;
      end_is = ap (λ (p : Position). end_behind p records.to.end) (sym hand_same) ∙ sym (ap (λ (u : Taken). u.end) records.is);
      receiving = sym (ap (λ (u : Taken). u.receiving) records.is);
    }

no-end : (p : Position) (end : Option RecvEnd) → end_behind p end ≡ None → end ≡ None
no-end p None is = refl
no-end p (Some end) is = absurd (cc is)

led-then : (s : Receiving) (pieces : List Piece) (piece : Piece) (receiver after : ReceiverView) (old new : Standing) → Led s pieces receiver
    → old.receiving ≡ receiver.receiving → new.receiving ≡ after.receiving → Continues (piece ∷ []) receiver.hand after.hand old new → Led s (pieces ++ piece ∷ []) after
led-then s pieces piece receiver after old new led old_is new_is continues =
    let takes = continues.takes in
    let leads = subst (λ (r : Receiving). Leads old.pass.actor (received r receiver.hand (piece ∷ [])) takes.made takes.to) old_is takes.leads in
    let one = led-one s pieces piece receiver old.pass.actor takes.made takes.to led leads in
    record {
      made = one.made;
      to = one.to;
      leads = one.leads;
      going = no-end (hand beginning (pieces ++ piece ∷ [])) one.to.end (one.end_is ∙ takes.end_is);
      receiving = sym new_is ∙ (takes.receiving ∙ sym one.receiving);
      hand_is = continues.hand_is ∙ (ap (λ (p : Position). hand p (piece ∷ [])) led.hand_is ∙ sym (hand-append beginning pieces (piece ∷ [])));
    }

-- ---- what the link gave

-- of what the link had left, these bytes were given, and it has the rest left still
record HasRest (given stream : List ℕ) (left : Option (List ℕ)) : Type 0 where
  rest : List ℕ
  left_is : left ≡ Some rest
  all : given ++ rest ≡ stream

rest-of : (given stream : List ℕ) (old new : Option (List ℕ)) → old ≡ option_map (λ (rest : List ℕ). given ++ rest) new → old ≡ Some stream → HasRest given stream new
rest-of given stream old None gave had = let none : None ≡ Some stream = sym gave ∙ had in absurd (cc none)
rest-of given stream old (Some rest) gave had =
    record { rest = rest; left_is = refl; all = let same : Some (given ++ rest) ≡ Some stream = sym gave ∙ had in cc same }

joined-more : (pieces : List Piece) (rest : List ℕ) → joined (pieces ++ record { now = 0; bytes = rest } ∷ []) ≡ joined pieces ++ rest
joined-more pieces rest =
    flat_map-append (λ (piece : Piece). piece.bytes) pieces (record { now = 0; bytes = rest } ∷ [])
    ∙ ap (λ (xs : List ℕ). joined pieces ++ xs) (append-nil rest)

joined-one : (pieces : List Piece) (piece : Piece) → joined (pieces ++ piece ∷ []) ≡ joined pieces ++ piece.bytes
joined-one pieces piece =
    flat_map-append (λ (p : Piece). p.bytes) pieces (piece ∷ []) ∙ ap (λ (xs : List ℕ). joined pieces ++ xs) (append-nil piece.bytes)

no-both : (t : Taken) (end : RecvEnd) → t.end ≡ Some end → t.end ≡ None → ⊥
no-both t end some none = let same : Some end ≡ None = sym some ∙ none in cc same

module _ {W A B : Type 0} (handles : Handled → Scene W A B → Scene W A B → Type 0) (s : Receiving) (stream : List ℕ) (accepts : Accepts s stream) where
  piece-left : (piece : Piece) (answer : Handled) (old new : GatherMoment W A B) → TakesPiece handles piece answer old new → old.link.left ≡ option_map (λ (rest : List ℕ). piece.bytes ++ rest) new.link.left
  piece-left piece answer old new takes =
      let sent : takes.told.link.left ≡ takes.pushed.link.left = ap (λ (link : LinkRecord). link.left) takes.tells.sent in
      let left : new.link.left ≡ takes.told.link.left = ap (λ (m : GatherMoment W A B). m.link.left) takes.handles_it.others in
      takes.comes.gave.0 ∙ ap (option_map (λ (rest : List ℕ). piece.bytes ++ rest)) (sym (left ∙ sent))

  -- Pieces came, all of them a front of the stream.
  record Far (pieces : List Piece) (now : GatherMoment W A B) : Type 0 where
    led : Led s pieces now.receiver
    live : now.receiver.end ≡ None
    rest : HasRest (joined pieces) stream now.link.left

  rest-then : (pieces : List Piece) (piece : Piece) (answer : Handled) (old new : GatherMoment W A B) → HasRest (joined pieces) stream old.link.left → TakesPiece handles piece answer old new
      → HasRest (joined (pieces ++ piece ∷ [])) stream new.link.left
  rest-then pieces piece answer old new has takes =
      let more = rest-of piece.bytes has.rest old.link.left new.link.left (piece-left piece answer old new takes) has.left_is in
      record {
        rest = more.rest;
        left_is = more.left_is;
        all =
            ap (λ (xs : List ℕ). xs ++ more.rest) (joined-one pieces piece) ∙ (append_assoc (joined pieces) piece.bytes more.rest
            ∙ (ap (λ (xs : List ℕ). joined pieces ++ xs) more.all ∙ has.all));
      }

  -- what the piece that came was pushed to
  pushed-to : (piece : Piece) (answer : Handled) (old new : GatherMoment W A B) → old.receiver.end ≡ None → (takes : TakesPiece handles piece answer old new) → (over : Option RecvEnd)
      → new.receiver.end ≡ over
      → Pushes over piece old.receiver.hand takes.pushed.receiver.hand (stands old.receiver.receiving old.scene.pass [] [])
      (stands takes.pushed.receiver.receiving takes.pushed.scene.pass takes.out takes.notes)
  pushed-to piece answer old new live takes over is =
      let before = stands old.receiver.receiving old.scene.pass [] [] in
      let after = stands takes.pushed.receiver.receiving takes.pushed.scene.pass takes.out takes.notes in
      let same : new.receiver.end ≡ takes.pushed.receiver.end =
      ap (λ (m : GatherMoment W A B). m.receiver.end) takes.handles_it.others ∙ ap (λ (m : GatherMoment W A B). m.receiver.end) takes.tells.others in
      subst (λ (o : Option RecvEnd). Pushes o piece old.receiver.hand takes.pushed.receiver.hand before after) (sym same ∙ is)
      (pushes-live piece old.receiver takes.pushed.receiver before after live takes.comes.pushes)

  far-then : (pieces : List Piece) (piece : Piece) (old new : GatherMoment W A B) → Far pieces old → new.receiver.end ≡ None → TakesPiece handles piece handled.On old new
      → Far (pieces ++ piece ∷ []) new
  far-then pieces piece old new far live takes =
      let continues = pushed-to piece handled.On old new far.live takes None live in
      let same : new.receiver ≡ takes.pushed.receiver =
      ap (λ (m : GatherMoment W A B). m.receiver) takes.handles_it.others ∙ ap (λ (m : GatherMoment W A B). m.receiver) takes.tells.others in
      record {
        led =
            subst (λ (r : ReceiverView). Led s (pieces ++ piece ∷ []) r) (sym same)
            (led-then s pieces piece old.receiver takes.pushed.receiver (stands old.receiver.receiving old.scene.pass [] [])
            (stands takes.pushed.receiver.receiving takes.pushed.scene.pass takes.out takes.notes) far.led refl refl continues);
        live = live;
        rest = rest-then pieces piece handled.On old new far.rest takes;
      }

  -- Pieces came behind others.
  record FarFrom (now : GatherMoment W A B) : Type 0 where
    pieces : List Piece
    far : Far pieces now

  far-goes : (front pieces : List Piece) (old new : GatherMoment W A B) → Far front old → GoesOn handles pieces old new → FarFrom new
  far-goes front [] old new far goes = subst FarFrom (sym goes) (record { pieces = front; far = far })
  far-goes front (piece ∷ pieces) old new far goes =
      far-goes (front ++ piece ∷ []) pieces goes.0 new (far-then front piece old goes.0 far goes.1.live goes.1.takes) goes.2

  -- ---- the ends that do not come

  not-over : (e : RecvEnd) (pieces : List Piece) (piece : Piece) (old new : GatherMoment W A B) → Far pieces old → (takes : TakesPiece handles piece handled.On old new)
      → EndsWhole e (piece ∷ []) old.receiver.hand (stands old.receiver.receiving old.scene.pass [] [])
      (stands takes.pushed.receiver.receiving takes.pushed.scene.pass takes.out takes.notes) → ⊥
  not-over e pieces piece old new far takes whole =
      let one = led-one s pieces piece old.receiver old.scene.pass.actor whole.takes.made whole.takes.to far.led whole.takes.leads in
      let rest = rest-then pieces piece handled.On old new far.rest takes in
      let last : Piece = record { now = 0; bytes = rest.rest } in
      let longer = ended-more 0 s beginning (pieces ++ piece ∷ []) last one.made one.to one.leads e (one.end_is ∙ whole.takes.end_is) in
      let fine = accepts 0 one.made ((pieces ++ piece ∷ []) ++ last ∷ []) longer.to (joined-more (pieces ++ piece ∷ []) rest.rest ∙ rest.all) longer.leads in
      no-both longer.to e longer.end_is fine.0

  not-truncated : (at : ℕ) (pieces : List Piece) (old new : GatherMoment W A B) → Far pieces old → EndsStream (Truncated at) old new → ⊥
  not-truncated at pieces old new far ends = by_close closed.1
    where
      receiver_is : ends.at_end.receiver ≡ old.receiver
      receiver_is = ap (λ (m : GatherMoment W A B). m.receiver) ends.is_at_end.others

      closed : EndsAt None (Truncated at) old.receiver ends.at_end.scene.pass new.scene.pass
      closed =
          subst (λ (o : Option RecvEnd). EndsAt o (Truncated at) old.receiver ends.at_end.scene.pass new.scene.pass) far.live
          (subst (λ (r : ReceiverView). EndsAt r.end (Truncated at) r ends.at_end.scene.pass new.scene.pass) receiver_is ends.ends)

      none : far.rest.rest ≡ []
      none = subst (λ (o : Option (List ℕ)). IfSome o (λ (rest : List ℕ). rest ≡ [])) far.rest.left_is ends.is_at_end.given.1

      all : joined pieces ≡ stream
      all = sym (append-nil (joined pieces)) ∙ (ap (λ (xs : List ℕ). joined pieces ++ xs) (sym none) ∙ far.rest.all)

      edge : is_edge old.receiver.hand old.receiver.receiving ≡ true
      edge =
          let led = far.led in
          let fine = accepts 0 led.made pieces (with_hand (hand beginning pieces) led.to) all (received-leads 0 s beginning pieces led.made led.to led.leads) in
          ap (λ (p : Position). is_edge p old.receiver.receiving) led.hand_is ∙ (ap (is_edge (hand beginning pieces)) led.receiving ∙ fine.1)

      is_ended : at_stream_end old.receiver.hand old.receiver.receiving ≡ Ended
      is_ended = rw edge refl

      by_close : ClosesIf false (at_stream_end old.receiver.hand old.receiver.receiving) (Truncated at) old.receiver.receiving closed.0 ends.at_end.scene.pass new.scene.pass → ⊥
      by_close (inl done) = let same : Truncated at ≡ Ended = done.0 ∙ is_ended in cc same
      by_close (inr kept) = let same : Truncated at ≡ Worn = kept.0 in cc same

  whole-by : (e : GatherEnd) (pieces : List Piece) (old new : GatherMoment W A B) → Far pieces old → EndsBy handles e old new
      → (e ≡ end.Received LinkFault → ⊥) → (e ≡ end.Received LogFault → ⊥) → IsWhole e
  whole-by (end.Received Ended) pieces old new far ends link log = tt
  whole-by (end.Received Worn) pieces old new far ends link log = tt
  whole-by (end.Received OutOfMemory) pieces old new far ends link log = tt
  whole-by end.Enough pieces old new far ends link log = tt
  whole-by end.Stopped pieces old new far ends link log = tt
  whole-by (end.Received (Truncated at)) pieces old new far ends link log = not-truncated at pieces old new far ends
  whole-by (end.Received (BadFrame at)) pieces old new far ends link log =
      not-over (BadFrame at) pieces ends.piece old new far ends.takes (pushed-to ends.piece handled.On old new far.live ends.takes (Some (BadFrame at)) ends.over)
  whole-by (end.Received (Refused answer)) pieces old new far ends link log =
      not-over (Refused answer) pieces ends.piece old new far ends.takes (pushed-to ends.piece handled.On old new far.live ends.takes (Some (Refused answer)) ends.over)
  whole-by (end.Received StreamLimit) pieces old new far ends link log =
      not-over StreamLimit pieces ends.piece old new far ends.takes (pushed-to ends.piece handled.On old new far.live ends.takes (Some StreamLimit) ends.over)
  whole-by (end.Received LinkFault) pieces old new far ends link log = link refl
  whole-by (end.Received LogFault) pieces old new far ends link log = log refl

  begins-whole : (e : GatherEnd) (old new : GatherMoment W A B) → BeginsNot handles e old new → (e ≡ end.Received LinkFault → ⊥) → IsWhole e
  begins-whole (end.Received LinkFault) old new begins link = link refl
  begins-whole _ old new begins link = absurd begins

  all-whole : (e : GatherEnd) (old new : Lent W A B) → GathersAll handles e s old new → old.link.left ≡ Some stream
      → (e ≡ end.Received LinkFault → ⊥) → (e ≡ end.Received LogFault → ⊥) → IsWhole e
  all-whole e old new all had link log = by_begin all.gathers
    where
      first : GatherMoment W A B
      first = moment_of (before_stream s false) old

      last : GatherMoment W A B
      last = moment_of all.receiver new

      by_begin : Asks handles e first last ⊎ BeginsNot handles e first last → IsWhole e
      by_begin (inl asks) =
          let at : GatherMoment W A B = record first { link = asks.asked.link } in
          let gathers : Gathers handles e at last = subst (λ (m : GatherMoment W A B). Gathers handles e m last) asks.others asks.gathers in
          let left : at.link.left ≡ Some stream = ap (λ (link : LinkRecord). link.left) asks.sent ∙ had in
          let far : Far [] at = record { led = led-none s; live = refl; rest = record { rest = stream; left_is = left; all = refl } } in
          let there = far-goes [] gathers.pieces at gathers.last far gathers.goes_on in
          whole-by e there.pieces gathers.last last there.far gathers.ends link log
      by_begin (inr not) = begins-whole e first last not link

pub completes : {W A B : Type 0} (handles : Handled → Scene W A B → Scene W A B → Type 0) (e : GatherEnd) (s : Receiving) (old new : Lent W A B) → GathersAll handles e s old new
    → Completes e s old new
completes {W} {A} {B} handles e s old new all stream had accepts link log =
    let cause = caused handles e s old new all in
    let no_link : e ≡ end.Received LinkFault → ⊥ = λ same. link (subst (λ (x : GatherEnd). HasCause x old new) same cause) in
    let no_log : e ≡ end.Received LogFault → ⊥ = λ same. log (subst (λ (x : GatherEnd). HasCause x old new) same cause) in
    all-whole handles s stream accepts e old new all had no_link no_log

-- all that is said of a gathering
pub gathered : {W A B : Type 0} (handles : Handled → Scene W A B → Scene W A B → Type 0) (e : GatherEnd) (s : Receiving) (old new : Lent W A B) → GathersAll handles e s old new
    → Gathered handles e s old new
gathered handles e s old new all = record { gathers = all; cause = caused handles e s old new all; completes = completes handles e s old new all }
