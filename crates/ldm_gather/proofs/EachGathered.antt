-- What was taken over a whole gathering: piece by piece.
use Rattle.std.proofs.Common.{◌≡◌, ◌∙◌, ℕ, ◌<◌, false, List, [], ◌∷◌, ◌++◌, Option, Some, None, inl, inr, ◌⊎◌, refl, sym, ap, subst, append_assoc}
use Rattle.std.specs.Option.{ForSome}
use Rattle.std.proofs.lemmas.List.{append-nil}
use Rattle.ldm_shared.specs.Passes.{PassView}
use Rattle.ldm_intake.specs.declared.end.RecvEnd.{RecvEnd}
use Rattle.ldm_intake.specs.declared.end.RecvEnd.TheVariants.{Ended, Truncated, BadFrame, Refused, LinkFault, LogFault, StreamLimit, Worn, OutOfMemory}
use Rattle.ldm_intake.specs.Receiving.{Receiving}
use Rattle.ldm_downstream.specs.Pieces.{Piece}
use Rattle.ldm_downstream.specs.ReceiverView.{before_stream}
use Rattle.ldm_gather.specs.declared.end.GatherEnd.{GatherEnd}
use Rattle.ldm_gather.specs.declared.end.GatherEnd.TheVariants as end
use Rattle.ldm_gather.specs.declared.end.Handled.{Handled}
use Rattle.ldm_gather.specs.declared.end.Handled.TheVariants as handled
use Rattle.ldm_gather.specs.Gathering.{Asks, BeginsNot, EndsBy, EndsStream, GathersAll, Gathers, GoesOn, TakesPiece}
use Rattle.ldm_gather.specs.Quiet.{CallsQuietly}
use Rattle.ldm_gather.specs.Scene.{Lent, GatherMoment, Scene, moment_of}
use Rattle.ldm_gather.specs.declared.each.Each.{Each}
use Rattle.ldm_gather.specs.declared.each.Stepped.TheVariants as stepped
use Rattle.ldm_gather.specs.declared.taker.EachStop.{EachStop}
use Rattle.ldm_gather.specs.declared.taker.Taken.{Taken}
use Rattle.ldm_gather.specs.EachCourse.{Gives, Stage, TakesEach, stage_of}
use Rattle.ldm_gather.specs.EachHandling.{EachHandles, tap_in}
use Rattle.ldm_shared.specs.Givens.{Given, Turn, count_of, products_of}
use Rattle.ldm_gather.specs.Stepping.{CountsOff, Sight, StepsBy, Tap, sight_of}
use Rattle.ldm_gather.specs.Taking.{Hands, TakesAll, TakesLast, hands_of}
use Rattle.ldm_gather.proofs.Giving.{closes-none, comes-quiet, gives-quiet, gives-then, gives-uses, live-at, quiet-none, told-end, told-none, told-turns}
use Rattle.ldm_gather.proofs.StepTurns.{counts-enough, counts-none, counts-some, counts-then, took_then}
use Rattle.ldm_shared.proofs.Using.{RowsStay, count_of-append}

module _ {T A : Type 0} (takes : Taken → Given → Hands T A → Hands T A → Type 0) where
  abbrev H : Type 0
  H = Hands T A

  -- ---- what was given and taken

  -- These turns were done, whole.
  record Took (k : ℕ) (left after : Option ℕ) (old new : PassView) (h i : H) : Type 0 where
    turns : List Turn
    gives : Gives k turns old new
    taken : TakesAll takes (products_of turns) h i
    counted : CountsOff left (count_of turns) after

  took-none : (k : ℕ) (left : Option ℕ) (old new : PassView) (h : H) → CallsQuietly old new → ForSome left (λ n. 0 < n) → Took k left left old new h h
  took-none k left old new h quietly some = record { turns = []; gives = gives-quiet k old new quietly; taken = refl; counted = counts-none left some }

  took-then : (law : RowsStay) (k : ℕ) (left mid after : Option ℕ) (a b c : PassView) (h i j : H) → Took k left mid a b h i → Took k mid after b c i j → Took k left after a c h j
  took-then law k left mid after a b c h i j one two = record {
    turns = one.turns ++ two.turns;
    gives = gives-then law k one.turns two.turns a b c one.gives two.gives;
    taken = took_then takes one.turns two.turns h i j one.taken two.taken;
    counted =
        subst (λ (n : ℕ). CountsOff left n after) (sym (count_of-append one.turns two.turns))
        (counts-then left mid after (count_of one.turns) (count_of two.turns) one.counted two.counted);
  }

  took-stepped : (tap : Tap) (turns : List Turn) (a b : Sight T A) → StepsBy takes tap stepped.AtEnd turns a b → Took tap.k a.left b.left a.pass b.pass a.hands b.hands
  took-stepped tap turns a b steps = record {
    turns = turns;
    gives = gives-uses tap.k turns _ a.pass b.pass steps.0.1.does.uses (told-end turns steps.0.0) steps.0.1.does.rows;
    taken = steps.0.1.taken;
    counted = steps.1;
  }

  -- ---- the end

  received-all : (e : RecvEnd) (k : ℕ) (old new : Stage T A) → Took k old.left new.left old.pass new.pass old.hands new.hands → TakesEach takes (end.Received e) k old new
  received-all e k old new took = record {
    turns = took.turns;
    in_hand = [];
    mid = new.hands;
    gives = subst (λ (ts : List Turn). Gives k ts old.pass new.pass) (sym (append-nil took.turns)) took.gives;
    taken = took.taken;
    ends = (refl, refl);
    counted = (new.left, took.counted);
  }

  enough-all : (law : RowsStay) (tap : Tap) (turns : List Turn) (old new : Stage T A) (b c : Sight T A) → c.pass ≡ new.pass → c.hands ≡ new.hands
      → Took tap.k old.left b.left old.pass b.pass old.hands b.hands → StepsBy takes tap stepped.Enough turns b c → TakesEach takes end.Enough tap.k old new
  enough-all law tap turns old new b c pass hands took steps = record {
    turns = took.turns ++ turns;
    in_hand = [];
    mid = c.hands;
    gives =
        subst (λ (p : PassView). Gives tap.k ((took.turns ++ turns) ++ []) old.pass p) pass
        (subst (λ (ts : List Turn). Gives tap.k ts old.pass c.pass) (sym (append-nil (took.turns ++ turns)))
        (gives-then law tap.k took.turns turns old.pass b.pass c.pass took.gives (gives-uses tap.k turns _ b.pass c.pass steps.0.does.uses (told-none turns) steps.0.does.rows)));
    taken = took_then takes took.turns turns old.hands b.hands c.hands took.taken steps.0.taken;
    ends = (refl, sym hands);
    counted =
        counts-enough old.left b.left (count_of took.turns) (count_of turns) took.counted steps.1 ∙ ap (λ (n : ℕ). Some n) (sym (count_of-append took.turns turns));
  }

  stopped-all : (law : RowsStay) (why : EachStop) (tap : Tap) (turns : List Turn) (old new : Stage T A) (b c : Sight T A) → c.pass ≡ new.pass → c.hands ≡ new.hands → new.why ≡ Some why
      → Took tap.k old.left b.left old.pass b.pass old.hands b.hands → StepsBy takes tap (stepped.Stopped why) turns b c → TakesEach takes end.Stopped tap.k old new
  stopped-all law why tap turns old new b c pass hands is_why took steps =
      let broke = steps.0 in
      record {
        turns = took.turns ++ turns;
        in_hand = broke.in_hand;
        mid = broke.mid;
        gives =
            subst (λ (p : PassView). Gives tap.k ((took.turns ++ turns) ++ broke.in_hand) old.pass p) pass
            (subst (λ (ts : List Turn). Gives tap.k ts old.pass c.pass) (sym (append_assoc took.turns turns broke.in_hand))
            (gives-then law tap.k took.turns (turns ++ broke.in_hand) old.pass b.pass c.pass took.gives
            (gives-uses tap.k (turns ++ broke.in_hand) _ b.pass c.pass broke.does.uses (told-turns (turns ++ broke.in_hand)) broke.does.rows)));
        taken = took_then takes took.turns turns old.hands b.hands broke.mid took.taken broke.taken;
        ends = (why, is_why, subst (λ (h : H). TakesLast takes why broke.in_hand broke.mid h) hands broke.last);
        counted = (
          c.left,
          subst (λ (n : ℕ). CountsOff old.left n c.left) (sym (count_of-append took.turns turns))
              (counts-then old.left b.left c.left (count_of took.turns) (count_of turns) took.counted steps.1),
        );
      }

  -- ---- pieces

  abbrev At : Type 0
  At = GatherMoment (Each T) A (Unit {0})

  abbrev hands_at : At → H
  hands_at at = hands_of at.scene.handler.taker at.scene.first

  abbrev stage_at : At → Stage T A
  stage_at at = stage_of at.scene.handler.left (hands_at at) at.scene.handler.why at.scene.pass

  abbrev k_at : At → ℕ
  k_at at = at.scene.handler.reader.k

  -- the scene in which the handler was called
  told-scene : (piece : Piece) (answer : Handled) (old new : At) (took : TakesPiece (EachHandles takes) piece answer old new)
      → took.told.scene ≡ record old.scene { pass = took.pushed.scene.pass; log = took.told.scene.log }
  told-scene piece answer old new took =
      let log = took.told.scene.log in
      ap (λ (m : At). m.scene) took.tells.others ∙ ap (λ (s : Scene (Each T) A (Unit {0})). record s { log = log }) took.comes.others

  piece-handled : (piece : Piece) (answer : Handled) (old new : At) (took : TakesPiece (EachHandles takes) piece answer old new)
      → EachHandles takes answer (record old.scene { pass = took.pushed.scene.pass; log = took.told.scene.log }) new.scene
  piece-handled piece answer old new took =
      subst (λ (s : Scene (Each T) A (Unit {0})). EachHandles takes answer s new.scene) (told-scene piece answer old new took) took.handles_it.handled

  -- Pieces were taken, and it goes on.
  record Went (old new : At) : Type 0 where
    took : Took (k_at old) old.scene.handler.left new.scene.handler.left old.scene.pass new.scene.pass (hands_at old) (hands_at new)
    same : k_at new ≡ k_at old
    some : ForSome new.scene.handler.left (λ n. 0 < n)

  went-piece : (law : RowsStay) (piece : Piece) (old new : At) → old.receiver.end ≡ None → ForSome old.scene.handler.left (λ n. 0 < n) → TakesPiece (EachHandles takes) piece handled.On old new
      → Went old new
  went-piece law piece old new live some took =
      let hands = piece-handled piece handled.On old new took in
      let left = old.scene.handler.left in
      let first = took-none (k_at old) left old.scene.pass took.pushed.scene.pass (hands_at old) (comes-quiet piece took.out took.notes old took.pushed live took.comes) some in
      let second = took-stepped (tap_in old.scene.handler) hands.0.turns (sight_of left (hands_at old) took.pushed.scene.pass took.told.scene.log)
      (sight_of new.scene.handler.left (hands_at new) new.scene.pass new.scene.log) hands.0.steps in
      record {
        took = took-then law (k_at old) left left new.scene.handler.left old.scene.pass took.pushed.scene.pass new.scene.pass (hands_at old) (hands_at old) (hands_at new) first second;
        same = ap (λ (each : Each T). each.reader.k) hands.1;
        some = counts-some left new.scene.handler.left (count_of hands.0.turns) hands.0.steps.1;
      }

  went-then : (law : RowsStay) (old mid new : At) → Went old mid → Went mid new → Went old new
  went-then law old mid new one two =
      let behind : Took (k_at old) mid.scene.handler.left new.scene.handler.left mid.scene.pass new.scene.pass (hands_at mid) (hands_at new) =
      subst (λ (n : ℕ). Took n mid.scene.handler.left new.scene.handler.left mid.scene.pass new.scene.pass (hands_at mid) (hands_at new)) one.same two.took in
      record {
        took =
            took-then law (k_at old) old.scene.handler.left mid.scene.handler.left new.scene.handler.left old.scene.pass mid.scene.pass new.scene.pass (hands_at old) (hands_at mid)
            (hands_at new) one.took behind;
        same = two.same ∙ one.same;
        some = two.some;
      }

  went-none : (old : At) → ForSome old.scene.handler.left (λ n. 0 < n) → Went old old
  went-none old some =
      record { took = took-none (k_at old) old.scene.handler.left old.scene.pass old.scene.pass (hands_at old) (quiet-none old.scene.pass) some; same = refl; some = some }

  went : (law : RowsStay) (pieces : List Piece) (old new : At) → old.receiver.end ≡ None → ForSome old.scene.handler.left (λ n. 0 < n) → GoesOn (EachHandles takes) pieces old new → Went old new
  went law [] old new live some goes = subst (λ (m : At). Went old m) (sym goes) (went-none old some)
  went law (piece ∷ pieces) old new live some goes =
      let one = went-piece law piece old goes.0 live some goes.1.takes in
      went-then law old goes.0 new one (went law pieces goes.0 new goes.1.live one.some goes.2)

  -- ---- the end of all

  abbrev All : GatherEnd → At → At → Type 0
  All e old new = TakesEach takes e (k_at old) (stage_at old) (stage_at new)

  -- nothing more was taken
  quiet-end : (law : RowsStay) (e : RecvEnd) (old last new : At) → Went old last → CallsQuietly last.scene.pass new.scene.pass → hands_at new ≡ hands_at last
      → new.scene.handler.left ≡ last.scene.handler.left → All (end.Received e) old new
  quiet-end law e old last new so_far quietly same same_left =
      let left = last.scene.handler.left in
      let behind : Took (k_at old) left new.scene.handler.left last.scene.pass new.scene.pass (hands_at last) (hands_at new) =
      subst (λ (h : H). Took (k_at old) left new.scene.handler.left last.scene.pass new.scene.pass (hands_at last) h) (sym same)
      (subst (λ (o : Option ℕ). Took (k_at old) left o last.scene.pass new.scene.pass (hands_at last) (hands_at last)) (sym same_left)
      (took-none (k_at old) left last.scene.pass new.scene.pass (hands_at last) quietly so_far.some)) in
      received-all e (k_at old) (stage_at old) (stage_at new)
      (took-then law (k_at old) old.scene.handler.left left new.scene.handler.left old.scene.pass last.scene.pass new.scene.pass (hands_at old) (hands_at last) (hands_at new) so_far.took behind)

  over-end : (law : RowsStay) (e : RecvEnd) (piece : Piece) (old last new : At) → last.receiver.end ≡ None → Went old last → TakesPiece (EachHandles takes) piece handled.On last new
      → All (end.Received e) old new
  over-end law e piece old last new live so_far took =
      let all = went-then law old last new so_far (went-piece law piece last new live so_far.some took) in
      received-all e (k_at old) (stage_at old) (stage_at new) all.took

  stream-end : (law : RowsStay) (e : RecvEnd) (old last new : At) → last.receiver.end ≡ None → Went old last → EndsStream e last new → All (end.Received e) old new
  stream-end law e old last new live so_far ends =
      let scene_is = ap (λ (m : At). m.scene) ends.is_at_end.others in
      let receiver_is = ap (λ (m : At). m.receiver.end) ends.is_at_end.others in
      let quietly = closes-none e ends.at_end.receiver ends.at_end.scene.pass new.scene.pass (receiver_is ∙ live) ends.ends in
      let from : CallsQuietly last.scene.pass new.scene.pass = subst (λ (p : PassView). CallsQuietly p new.scene.pass) (ap (λ (s : Scene (Each T) A (Unit {0})). s.pass) scene_is) quietly in
      let pass = new.scene.pass in
      let whole : new.scene ≡ record last.scene { pass = pass } = ap (λ (m : At). m.scene) ends.others ∙ ap (λ (s : Scene (Each T) A (Unit {0})). record s { pass = pass }) scene_is in
      quiet-end law e old last new so_far from (ap (λ (s : Scene (Each T) A (Unit {0})). hands_of s.handler.taker s.first) whole) (ap (λ (s : Scene (Each T) A (Unit {0})). s.handler.left) whole)

  handled-quiet : (law : RowsStay) (piece : Piece) (answer : Handled) (old last new : At) → last.receiver.end ≡ None → Went old last → (took : TakesPiece (EachHandles takes) piece answer last new)
      → Took (k_at old) old.scene.handler.left last.scene.handler.left old.scene.pass took.pushed.scene.pass (hands_at old) (hands_at last)
  handled-quiet law piece answer old last new live so_far took =
      took-then law (k_at old) old.scene.handler.left last.scene.handler.left last.scene.handler.left old.scene.pass last.scene.pass took.pushed.scene.pass (hands_at old)
      (hands_at last) (hands_at last) so_far.took
      (took-none (k_at old) last.scene.handler.left last.scene.pass took.pushed.scene.pass (hands_at last) (comes-quiet piece took.out took.notes last took.pushed live took.comes) so_far.some)

  ends-all : (law : RowsStay) (e : GatherEnd) (old last new : At) → last.receiver.end ≡ None → Went old last → EndsBy (EachHandles takes) e last new → All e old new
  ends-all law (end.Received Ended) old last new live so_far ends = stream-end law Ended old last new live so_far ends
  ends-all law (end.Received (Truncated at)) old last new live so_far ends = stream-end law (Truncated at) old last new live so_far ends
  ends-all law (end.Received (BadFrame at)) old last new live so_far ends = over-end law (BadFrame at) ends.piece old last new live so_far ends.takes
  ends-all law (end.Received (Refused answer)) old last new live so_far ends = over-end law (Refused answer) ends.piece old last new live so_far ends.takes
  ends-all law (end.Received StreamLimit) old last new live so_far ends = over-end law StreamLimit ends.piece old last new live so_far ends.takes
  ends-all law (end.Received OutOfMemory) old last new live so_far ends = over-end law OutOfMemory ends.piece old last new live so_far ends.takes
  ends-all law (end.Received Worn) old last new live so_far (inl over) = over-end law Worn over.piece old last new live so_far over.takes
  ends-all law (end.Received Worn) old last new live so_far (inr ends) = stream-end law Worn old last new live so_far ends
  ends-all law (end.Received LinkFault) old last new live so_far (inl none) =
      let scene_is = ap (λ (m : At). m.scene) none.others in
      quiet-end law LinkFault old last new so_far
      (subst (λ (s : Scene (Each T) A (Unit {0})). CallsQuietly last.scene.pass s.pass) (sym scene_is) (quiet-none last.scene.pass))
      (ap (λ (s : Scene (Each T) A (Unit {0})). hands_of s.handler.taker s.first) scene_is) (ap (λ (s : Scene (Each T) A (Unit {0})). s.handler.left) scene_is)
  ends-all law (end.Received LinkFault) old last new live so_far (inr fails) =
      let scene_is = ap (λ (m : At). m.scene) fails.sends.others ∙ fails.comes.others in
      let quietly = comes-quiet fails.piece fails.out fails.notes last fails.pushed live fails.comes in
      quiet-end law LinkFault old last new so_far
      (subst (λ (p : PassView). CallsQuietly last.scene.pass p) (sym (ap (λ (m : At). m.scene.pass) fails.sends.others)) quietly)
      (ap (λ (s : Scene (Each T) A (Unit {0})). hands_of s.handler.taker s.first) scene_is) (ap (λ (s : Scene (Each T) A (Unit {0})). s.handler.left) scene_is)
  ends-all law (end.Received LogFault) old last new live so_far fails =
      let pass_is = ap (λ (m : At). m.scene.pass) fails.logs.others in
      let quietly = comes-quiet fails.piece fails.out fails.notes last fails.pushed live fails.comes in
      quiet-end law LogFault old last new so_far
      (subst (λ (p : PassView). CallsQuietly last.scene.pass p) (sym pass_is) quietly)
      (ap (λ (m : At). hands_at m) fails.logs.others ∙ ap (λ (s : Scene (Each T) A (Unit {0})). hands_of s.handler.taker s.first) fails.comes.others)
      (ap (λ (m : At). m.scene.handler.left) fails.logs.others ∙ ap (λ (s : Scene (Each T) A (Unit {0})). s.handler.left) fails.comes.others)
  ends-all law end.Enough old last new live so_far ends =
      let hands = piece-handled ends.piece handled.Enough last new ends.takes in
      let b = sight_of last.scene.handler.left (hands_at last) ends.takes.pushed.scene.pass ends.takes.told.scene.log in
      let c = sight_of new.scene.handler.left (hands_at new) new.scene.pass new.scene.log in
      let took = handled-quiet law ends.piece handled.Enough old last new live so_far ends.takes in
      subst (λ (n : ℕ). TakesEach takes end.Enough n (stage_at old) (stage_at new)) so_far.same
      (enough-all law (tap_in last.scene.handler) hands.0.turns (stage_at old) (stage_at new) b c refl refl
      (subst (λ (n : ℕ). Took n old.scene.handler.left b.left old.scene.pass b.pass (hands_at old) (hands_at last)) (sym so_far.same) took) hands.0.steps)
  ends-all law end.Stopped old last new live so_far ends =
      let hands = piece-handled ends.piece handled.Stopped last new ends.takes in
      let b = sight_of last.scene.handler.left (hands_at last) ends.takes.pushed.scene.pass ends.takes.told.scene.log in
      let c = sight_of new.scene.handler.left (hands_at new) new.scene.pass new.scene.log in
      let took = handled-quiet law ends.piece handled.Stopped old last new live so_far ends.takes in
      subst (λ (n : ℕ). TakesEach takes end.Stopped n (stage_at old) (stage_at new)) so_far.same
      (stopped-all law hands.0 (tap_in last.scene.handler) hands.1.turns (stage_at old) (stage_at new) b c refl refl (ap (λ (each : Each T). each.why) hands.2)
      (subst (λ (n : ℕ). Took n old.scene.handler.left b.left old.scene.pass b.pass (hands_at old) (hands_at last)) (sym so_far.same) took) hands.1.steps)

  same-end : (law : RowsStay) (e : RecvEnd) (old new : At) → ForSome old.scene.handler.left (λ n. 0 < n) → new.scene ≡ old.scene → All (end.Received e) old new
  same-end law e old new some same =
      quiet-end law e old old new (went-none old some) (subst (λ (s : Scene (Each T) A (Unit {0})). CallsQuietly old.scene.pass s.pass) (sym same) (quiet-none old.scene.pass))
      (ap (λ (s : Scene (Each T) A (Unit {0})). hands_of s.handler.taker s.first) same) (ap (λ (s : Scene (Each T) A (Unit {0})). s.handler.left) same)

  begins-not : (law : RowsStay) (e : GatherEnd) (old new : At) → ForSome old.scene.handler.left (λ n. 0 < n) → BeginsNot (EachHandles takes) e old new → All e old new
  begins-not law (end.Received LinkFault) old new some begins = same-end law LinkFault old new some (ap (λ (m : At). m.scene) begins.others)
  begins-not law _ old new some begins = absurd begins

  abbrev pub stage_lent : Lent (Each T) A (Unit {0}) → Stage T A
  stage_lent lent = stage_of lent.scene.handler.left (hands_of lent.scene.handler.taker lent.scene.first) lent.scene.handler.why lent.scene.pass

  -- what was taken over a whole gathering
  pub gathered-all : (law : RowsStay) (e : GatherEnd) (s : Receiving) (old new : Lent (Each T) A (Unit {0})) → ForSome old.scene.handler.left (λ n. 0 < n)
      → GathersAll (EachHandles takes) e s old new → TakesEach takes e old.scene.handler.reader.k (stage_lent old) (stage_lent new)
  gathered-all law e s old new some all = by_begin all.gathers
    where
      first : At
      first = moment_of (before_stream s false) old

      last : At
      last = moment_of all.receiver new

      by_begin : Asks (EachHandles takes) e first last ⊎ BeginsNot (EachHandles takes) e first last → All e first last
      by_begin (inl asks) =
          let at : At = record first { link = asks.asked.link } in
          let gathers : Gathers (EachHandles takes) e at last = subst (λ (m : At). Gathers (EachHandles takes) e m last) asks.others asks.gathers in
          ends-all law e at gathers.last last (live-at (EachHandles takes) gathers.pieces at gathers.last refl gathers.goes_on) (went law gathers.pieces at gathers.last refl some gathers.goes_on) gathers.ends
      by_begin (inr not) = begins-not law e first last some not
