-- How a receiving over a link ends, by what its last piece came to.
use Rattle.std.proofs.Common.{◌≡◌, ℕ, Bool, true, false, List, [], ◌++◌, Option, Some, None, inl, inr, refl, ap, sym, subst, ◌∙◌, append_assoc}
use Rattle.std.proofs.lemmas.List.{append-nil}
use Rattle.ldm_rpc.specs.Streams.{Position}
use Rattle.ldm_shared.specs.Passes.{PassView}
use Rattle.ldm_intake.specs.declared.end.RecvEnd.{RecvEnd}
use Rattle.ldm_intake.specs.declared.end.RecvEnd.TheVariants.{Ended, Truncated, BadFrame, Refused, LinkFault, LogFault, StreamLimit, Worn, OutOfMemory}
use Rattle.ldm_intake.specs.Course.{Course}
use Rattle.ldm_intake.specs.Notes.{note_lines}
use Rattle.ldm_intake.specs.Receiving.{Receiving}
use Rattle.ldm_relay.specs.Spelling.{records_of}
use Rattle.ldm_intake.specs.Taken.{Arrival, Taken, taken, taken_none}
use Rattle.ldm_intake.specs.TakesRecord.{Standing}
use Rattle.ldm_downstream.specs.Pieces.{Piece, arrivals, hand}
use Rattle.ldm_downstream.specs.Taking.{Takes, BreaksOff, GivesUp}
use Rattle.ldm_downstream.specs.Received.{at_stream_end, end_by_bytes, is_edge, received}
use Rattle.ldm_downstream.specs.Turns.{TakesAll}
use Rattle.ldm_downstream.specs.Pushing.{Continues, EndsWhole, EndsEarly, EndsWorn, Ends, ClosesIf, is_worn}
use Rattle.ldm_downstream.specs.Receives.{EndsStream, Comes}
use Rattle.ldm_downstream.specs.Sessions.{settled}
use Rattle.ldm_downstream.proofs.Followed.{breaks-here, breaks-same, takes-none}
use Rattle.ldm_downstream.proofs.Arrivals.{arrivals-none, hand-none}
use Rattle.ldm_downstream.proofs.PieceEnds.{closed_at, gives-up, worn-of, breaks-received, continues-takes, takes-continues, received-then, hand-both, early-then, worn-then}

-- ---- with what was owed and logged before in front

abbrev pub in_front_of : Standing → Standing → Standing
in_front_of b c = record c { out = b.out ++ c.out; notes = b.notes ++ c.notes }

abbrev pub anew : Standing → Standing
anew b = settled b.receiving b.pass

takes-framed : (course : Course Taken) (end : Option RecvEnd) (b x c : Standing) → Takes course end x c → Takes course end (in_front_of b x) (in_front_of b c)
takes-framed course end b x c takes = record {
  made = takes.made;
  to = takes.to;
  leads = takes.leads;
  end_is = takes.end_is;
  calls = takes.calls;
  receiving = takes.receiving;
  sends = ap (λ (o : List ℕ). b.out ++ o) takes.sends ∙ sym (append_assoc b.out x.out (records_of takes.to.replies));
  logs = ap (λ (o : List ℕ). b.notes ++ o) takes.logs ∙ sym (append_assoc b.notes x.notes (note_lines takes.to.notes));
}

breaks-framed : (xs : List Arrival) (b x c : Standing) → BreaksOff xs x c → BreaksOff xs (in_front_of b x) (in_front_of b c)
breaks-framed xs b x c breaks = record {
  front = breaks.front;
  behind = breaks.behind;
  all = breaks.all;
  between = in_front_of b breaks.between;
  takes = takes-framed (taken (taken_none x.receiving) breaks.front) None b x breaks.between breaks.takes;
  made = breaks.made;
  begins = breaks.begins;
  calls = breaks.calls;
  same = ap (in_front_of b) breaks.same;
}

gives-framed : (b x c : Standing) → GivesUp x c → GivesUp (in_front_of b x) (in_front_of b c)
gives-framed b x c gives = record {
  closes = gives.closes;
  sends = ap (λ (o : List ℕ). b.out ++ o) gives.sends;
  logs = ap (λ (o : List ℕ). b.notes ++ o) gives.logs;
}

-- nothing was owed and logged anew
front-anew : (b : Standing) → in_front_of b (anew b) ≡ b
front-anew b = ap (λ (o : List ℕ). record b { out = o; notes = b.notes ++ [] }) (append-nil b.out) ∙ ap (λ (o : List ℕ). record b { notes = o }) (append-nil b.notes)

module _ (p q : Position) (first second : List Piece) (a b : Standing) (before : Continues first p q a b) where
  takes-anew : (end : Option RecvEnd) (c : Standing) → Takes (received b.receiving q second) end (anew b) c → Takes (received a.receiving p (first ++ second)) end a (in_front_of b c)
  takes-anew end c takes =
      received-then p q first second a b before end (in_front_of b c)
      (subst (λ (v : Standing). Takes (received b.receiving q second) end v (in_front_of b c)) (front-anew b)
      (takes-framed (received b.receiving q second) end b (anew b) c takes))

  pub continues-anew : (r : Position) (c : Standing) → Continues second q r (anew b) c → Continues (first ++ second) p r a (in_front_of b c)
  continues-anew r c later = record { takes = takes-anew None c later.takes; hand_is = later.hand_is ∙ hand-both p q first second a b before }

  whole-anew : (end : RecvEnd) (c : Standing) → EndsWhole end second q (anew b) c → EndsWhole end (first ++ second) p a (in_front_of b c)
  whole-anew end c later = record {
    between = in_front_of b later.between;
    takes = takes-anew (Some end) later.between later.takes;
    gives_up = gives-framed b later.between c later.gives_up;
  }

  stream-anew : (end : RecvEnd) (c : Standing) → EndsStream end second q (anew b) c → EndsStream end (first ++ second) p a (in_front_of b c)
  stream-anew end c later = record {
    between = in_front_of b later.between;
    takes = takes-anew None later.between later.takes;
    gives_up = gives-framed b later.between c later.gives_up;
    end_is = later.end_is ∙ ap (λ (v : Position). at_stream_end v later.between.receiving) (hand-both p q first second a b before);
  }

  breaks-anew : (c : Standing) → BreaksOff (arrivals q second) (anew b) c → BreaksOff (arrivals q second) b (in_front_of b c)
  breaks-anew c breaks =
      subst (λ (v : Standing). BreaksOff (arrivals q second) v (in_front_of b c)) (front-anew b) (breaks-framed (arrivals q second) b (anew b) c breaks)

  early-anew : (c : Standing) → EndsEarly second q (anew b) c → EndsEarly (first ++ second) p a (in_front_of b c)
  early-anew c later =
      early-then p q first second a b before (in_front_of b c)
      (record { between = in_front_of b later.between; breaks = breaks-anew later.between later.breaks; gives_up = gives-framed b later.between c later.gives_up })

  worn-anew : (c : Standing) → EndsWorn second q (anew b) c → EndsWorn (first ++ second) p a (in_front_of b c)
  worn-anew c later = worn-then p q first second a b before (in_front_of b c) (record { breaks = breaks-anew c later.breaks; worn = later.worn })

  pub comes-anew : (end : RecvEnd) (c : Standing) → Comes end second q (anew b) c → Comes end (first ++ second) p a (in_front_of b c)
  comes-anew Ended c later = stream-anew Ended c later
  comes-anew (Truncated at) c later = stream-anew (Truncated at) c later
  comes-anew (BadFrame at) c later = whole-anew (BadFrame at) c later
  comes-anew (Refused answer) c later = whole-anew (Refused answer) c later
  comes-anew StreamLimit c later = whole-anew StreamLimit c later
  comes-anew LinkFault c later = early-anew c later
  comes-anew LogFault c later = early-anew c later
  comes-anew OutOfMemory c later = early-anew c later
  comes-anew Worn c later = worn-anew c later

-- ---- the end of the stream, and a fault

comes-same : (end other : RecvEnd) (pieces : List Piece) (p : Position) (a c : Standing) → end ≡ other → Comes end pieces p a c → Comes other pieces p a c
comes-same end other pieces p a c same comes = subst (λ (e : RecvEnd). Comes e pieces p a c) same comes

-- no piece came
pub continues-none : (p : Position) (a : Standing) → end_by_bytes p ≡ None → Continues [] p p a a
continues-none p a live =
    takes-continues p p [] a a (subst (λ (xs : List Arrival). TakesAll xs a a) (sym (arrivals-none p)) (takes-none a))
    (ap end_by_bytes (hand-none p) ∙ live) (sym (hand-none p))

-- a stream that ends so
edge-comes : (pieces : List Piece) (p q : Position) (a b c : Standing) (edge : Bool) → is_edge (hand p pieces) b.receiving ≡ edge
    → EndsStream (at_stream_end (hand p pieces) b.receiving) pieces p a c → Comes (at_stream_end (hand p pieces) b.receiving) pieces p a c
edge-comes pieces p q a b c true edge stream =
    let is : at_stream_end (hand p pieces) b.receiving ≡ Ended = rw edge refl in
    comes-same Ended (at_stream_end (hand p pieces) b.receiving) pieces p a c (sym is) (subst (λ (e : RecvEnd). EndsStream e pieces p a c) is stream)
edge-comes pieces p q a b c false edge stream =
    let h = hand p pieces in
    let is : at_stream_end h b.receiving ≡ Truncated h.came = rw edge refl in
    comes-same (Truncated h.came) (at_stream_end h b.receiving) pieces p a c (sym is) (subst (λ (e : RecvEnd). EndsStream e pieces p a c) is stream)

end-worn_of : (q : Position) (s : Receiving) (edge : Bool) → is_edge q s ≡ edge → is_worn (at_stream_end q s) ≡ false
end-worn_of q s true edge = rw edge refl
end-worn_of q s false edge = rw edge refl

-- the end of a stream is not that the queue can have no call more
pub end-worn : (q : Position) (s : Receiving) → is_worn (at_stream_end q s) ≡ false
end-worn q s = end-worn_of q s (is_edge q s) refl

module _ (pieces : List Piece) (p q : Position) (a b : Standing) (s : Receiving) (pass : PassView) (before : Continues pieces p q a b) where
  all-taken : BreaksOff (arrivals p pieces) a b
  all-taken = breaks-same (arrivals p pieces ++ []) (arrivals p pieces) a b (append-nil (arrivals p pieces))
      (breaks-here (arrivals p pieces) [] a b (continues-takes p q pieces a b before).0)

  pub comes-stream : (result : RecvEnd) → ClosesIf (is_worn (at_stream_end q b.receiving)) (at_stream_end q b.receiving) result b.receiving s b.pass pass
      → Comes result pieces p a (closed_at b s pass)
  comes-stream result closes =
      let end = at_stream_end q b.receiving in
      let not : ClosesIf false end result b.receiving s b.pass pass = subst (λ (w : Bool). ClosesIf w end result b.receiving s b.pass pass) (end-worn q b.receiving) closes in
      let there : end ≡ at_stream_end (hand p pieces) b.receiving = ap (λ (v : Position). at_stream_end v b.receiving) before.hand_is in
      elim not [
        | inl closed ↦ comes-same (at_stream_end (hand p pieces) b.receiving) result pieces p a (closed_at b s pass) (sym (closed.0 ∙ there))
            (edge-comes pieces p q a b (closed_at b s pass) (is_edge (hand p pieces) b.receiving) refl
            (record { between = b; takes = before.takes; gives_up = gives-up b s pass closed.1; end_is = refl }))
        | inr kept ↦ comes-same Worn result pieces p a (closed_at b s pass) (sym kept.0) (worn-of pieces p a b s pass all-taken kept.1)
      ]

  pub comes-fault : (fault result : RecvEnd) → (EndsEarly pieces p a (closed_at b s pass) → Comes fault pieces p a (closed_at b s pass))
      → ClosesIf false fault result b.receiving s b.pass pass → Comes result pieces p a (closed_at b s pass)
  comes-fault fault result early closes = elim closes [
    | inl closed ↦ comes-same fault result pieces p a (closed_at b s pass) (sym closed.0)
        (early (record { between = b; breaks = all-taken; gives_up = gives-up b s pass closed.1 }))
    | inr kept ↦ comes-same Worn result pieces p a (closed_at b s pass) (sym kept.0) (worn-of pieces p a b s pass all-taken kept.1)
  ]

-- what ended it by bytes ended it
pub comes-ends : (end : RecvEnd) (pieces : List Piece) (p : Position) (a b : Standing) → Ends end pieces p a b → Comes end pieces p a b
comes-ends (BadFrame at) pieces p a b ends = ends
comes-ends (Refused answer) pieces p a b ends = ends
comes-ends StreamLimit pieces p a b ends = ends
comes-ends OutOfMemory pieces p a b ends = ends
comes-ends Worn pieces p a b ends = ends
comes-ends Ended pieces p a b ends = absurd ends
comes-ends (Truncated at) pieces p a b ends = absurd ends
comes-ends LinkFault pieces p a b ends = absurd ends
comes-ends LogFault pieces p a b ends = absurd ends

pub early-whole : (end : RecvEnd) (pieces : List Piece) (p : Position) (a b : Standing) → EndsWhole end pieces p a b → EndsEarly pieces p a b
early-whole end pieces p a b whole =
    record { between = whole.between; breaks = breaks-received p pieces (Some end) a whole.between whole.takes; gives_up = whole.gives_up }
