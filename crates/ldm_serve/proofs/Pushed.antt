-- What a receiving of what a host pushes comes to, from its first call to its end: it keeps to the ACCEPT rules.
use Rattle.std.proofs.Common.{◌≡◌, ◌∙◌, ℕ, Bool, true, false, List, [], ◌∷◌, ◌++◌, Option, Some, None, sym, ap, subst, append-nil}
use Rattle.ldm_types.specs.declared.class.ClassSpec.{ClassSpec}
use Rattle.ldm_model.specs.declared.event.Entry.{Entry}
use Rattle.ldm_outside.specs.Session.{SessionRecord}
use Rattle.ldm_relay.specs.Sent.{Sent}
use Rattle.ldm_rpc.specs.Streams.{Position}
use Rattle.ldm_session.specs.Exchange.{Exchanged}
use Rattle.ldm_shared.specs.Passes.{PassView, Calls}
use Rattle.ldm_shared.proofs.Made.{calls_trans}
use Rattle.ldm_intake.specs.declared.end.RecvEnd.{RecvEnd}
use Rattle.ldm_intake.specs.declared.end.RecvEnd.TheVariants.{Ended, Truncated, BadFrame, Refused, LinkFault, LogFault, StreamLimit, Worn, OutOfMemory}
use Rattle.ldm_intake.specs.Course.{Course, Comes, Leads}
use Rattle.ldm_intake.specs.Opening.{accepting}
use Rattle.ldm_intake.specs.Receiving.{Receiving}
use Rattle.ldm_intake.specs.Record.{record_course}
use Rattle.ldm_relay.specs.Spelling.{records_of}
use Rattle.ldm_intake.specs.Taken.{Arrival, Taken, closing, taken, taken_none}
use Rattle.ldm_intake.specs.TakesRecord.{Standing}
use Rattle.ldm_intake.proofs.Courses.{leads-begins}
use Rattle.ldm_downstream.specs.Pieces.{Piece, arrivals, beginning, hand}
use Rattle.ldm_downstream.specs.Taking.{Takes, BeginsNext, BreaksOff, GivesUp}
use Rattle.ldm_downstream.specs.Received.{received, with_hand}
use Rattle.ldm_downstream.specs.Receives as receives
use Rattle.ldm_session.specs.Part.{IsPart}
use Rattle.ldm_serve.specs.Client.{Client}
use Rattle.ldm_serve.specs.Kept.{AllPutIn}
use Rattle.ldm_serve.proofs.MayGo.{AllMayGo}
use Rattle.ldm_serve.proofs.PuttingIn.{AsksOnly, all_put-append, asks-then, begins-asked, leads-asked}
use Rattle.ldm_serve.proofs.HandingIn.{Keeps, StepKeeps, TakenKeeps, accepting-keeps, closing-keeps, record-keeps, taken-keeps}

same_actor : (client : Client) (old new : PassView) (made : List Entry) → old.actor ≡ client.actor → Calls old new made → new.actor ≡ client.actor
same_actor client old new made by calls = ap (λ (pass : PassView). pass.actor) calls.same ∙ by

module _ (client : Client) where
  -- Between two moments a receiving made calls that keep to the rules, behind others, and it owes messages that may go.
  pub record HandsIn (before : List Entry) (old new : Standing) : Type 0 where
    pub made : List Entry
    pub calls : Calls old.pass new.pass made
    pub puts : AllPutIn client before made
    pub replies : List Sent
    pub go : AllMayGo client replies
    pub owed : new.out ≡ old.out ++ records_of replies

  -- the same of a course of records
  record Took (before : List Entry) (old new : Standing) : Type 0 where
    hands : HandsIn before old new
    keeps : Keeps client (before ++ hands.made) new.receiving

  takes-hands : (before : List Entry) (course : Course Taken) (end : Option RecvEnd) (old new : Standing) → old.pass.actor ≡ client.actor
      → AsksOnly client before course (TakenKeeps client) → Takes course end old new → Took before old new
  takes-hands before course end old new by asks takes =
      let leads = subst (λ (actor : ℕ). Leads actor course takes.made takes.to) by takes.leads in
      let such = leads-asked client (TakenKeeps client) before course takes.made takes.to asks leads in
      record {
        hands = record {
          made = takes.made;
          calls = takes.calls;
          puts = begins-asked client (TakenKeeps client) before course takes.made asks (leads-begins client.actor course takes.made takes.to leads);
          replies = takes.to.replies;
          go = such.1;
          owed = takes.sends;
        };
        keeps = subst (λ (s : Receiving). Keeps client (before ++ takes.made) s) (sym takes.receiving) such.0;
      }

  begins-next : (before : List Entry) (s : Receiving) (behind : List Arrival) (made : List Entry) → Keeps client before s → BeginsNext client.actor s behind made → AllPutIn client before made
  begins-next before s [] made keeps begins = subst (λ (calls : List Entry). AllPutIn client before calls) (sym begins) tt
  begins-next before s (arrival ∷ arrivals) made keeps begins =
      begins-asked client (StepKeeps client s) before (record_course s arrival.now arrival.content) made (record-keeps client s arrival.now before arrival.content keeps) begins

  breaks-hands : (before : List Entry) (arrivals : List Arrival) (old new : Standing) → old.pass.actor ≡ client.actor → TakenKeeps client before (taken_none old.receiving)
      → BreaksOff arrivals old new → HandsIn before old new
  breaks-hands before arrivals old new by keeps breaks =
      let took = takes-hands before (taken (taken_none old.receiving) breaks.front) None old breaks.between by
      (taken-keeps client breaks.front before (taken_none old.receiving) keeps) breaks.takes in
      let hands = took.hands in
      record {
        made = hands.made ++ breaks.made;
        calls = calls_trans old.pass breaks.between.pass new.pass hands.made breaks.made hands.calls breaks.calls;
        puts = all_put-append client before hands.made breaks.made hands.puts
            (begins-next (before ++ hands.made) breaks.between.receiving breaks.behind breaks.made took.keeps
            (subst (λ (actor : ℕ). BeginsNext actor breaks.between.receiving breaks.behind breaks.made) by breaks.begins));
        replies = hands.replies;
        go = hands.go;
        owed = ap (λ (s : Standing). s.out) breaks.same ∙ hands.owed;
      }

  closes-hands : (before : List Entry) (old between new : Standing) → old.pass.actor ≡ client.actor → HandsIn before old between → GivesUp between new → HandsIn before old new
  closes-hands before old between new by hands gives =
      let course = closing (taken_none between.receiving) in
      let Any : List Entry → Taken → Type 0 = λ calls t. Unit {0} in
      let actor = same_actor client old.pass between.pass hands.made by hands.calls in
      let leads = subst (λ (who : ℕ). Leads who course gives.closes.made (taken_none new.receiving)) actor gives.closes.leads in
      record {
        made = hands.made ++ gives.closes.made;
        calls = calls_trans old.pass between.pass new.pass hands.made gives.closes.made hands.calls gives.closes.calls;
        puts = all_put-append client before hands.made gives.closes.made hands.puts
            (begins-asked client Any (before ++ hands.made) course gives.closes.made
            (closing-keeps client (before ++ hands.made) (taken_none between.receiving) between.receiving.pending)
            (leads-begins client.actor course gives.closes.made (taken_none new.receiving) leads));
        replies = hands.replies;
        go = hands.go;
        owed = gives.sends ∙ hands.owed;
      }

  received-asks : (before : List Entry) (s : Receiving) (p : Position) (pieces : List Piece) → TakenKeeps client before (taken_none s) → AsksOnly client before (received s p pieces) (TakenKeeps client)
  received-asks before s p pieces keeps =
      asks-then client (TakenKeeps client) (TakenKeeps client) (λ (t : Taken). Comes (with_hand (hand p pieces) t)) (λ calls t is. is)
      before (taken (taken_none s) (arrivals p pieces)) (taken-keeps client (arrivals p pieces) before (taken_none s) keeps)

  module _ (before : List Entry) (pieces : List Piece) (p : Position) (old new : Standing) (by : old.pass.actor ≡ client.actor)
      (keeps : TakenKeeps client before (taken_none old.receiving)) where
    whole-hands : (between : Standing) (end : Option RecvEnd) → Takes (received old.receiving p pieces) end old between → GivesUp between new → HandsIn before old new
    whole-hands between end takes gives =
        closes-hands before old between new by
        (takes-hands before (received old.receiving p pieces) end old between by (received-asks before old.receiving p pieces keeps) takes).hands gives

    early-hands : (between : Standing) → BreaksOff (arrivals p pieces) old between → GivesUp between new → HandsIn before old new
    early-hands between breaks gives = closes-hands before old between new by (breaks-hands before (arrivals p pieces) old between by keeps breaks) gives

    comes-hands : (end : RecvEnd) → receives.Comes end pieces p old new → HandsIn before old new
    comes-hands Ended comes = whole-hands comes.between None comes.takes comes.gives_up
    comes-hands (Truncated at) comes = whole-hands comes.between None comes.takes comes.gives_up
    comes-hands (BadFrame at) comes = whole-hands comes.between (Some (BadFrame at)) comes.takes comes.gives_up
    comes-hands (Refused answer) comes = whole-hands comes.between (Some (Refused answer)) comes.takes comes.gives_up
    comes-hands StreamLimit comes = whole-hands comes.between (Some StreamLimit) comes.takes comes.gives_up
    comes-hands LinkFault comes = early-hands comes.between comes.breaks comes.gives_up
    comes-hands LogFault comes = early-hands comes.between comes.breaks comes.gives_up
    comes-hands OutOfMemory comes = early-hands comes.between comes.breaks comes.gives_up
    comes-hands Worn comes = breaks-hands before (arrivals p pieces) old new by keeps comes.breaks

  -- bytes that are others or a front of them
  front_of : (whole : Bool) (part all : List ℕ) → IsPart whole part all → (rest : List ℕ) × (part ++ rest ≡ all)
  front_of true part all is = ([], append-nil part ∙ is)
  front_of false part all is = is

  -- A whole receiving of what the host pushes.
  pub record Pushes (before : List Entry) (old new : PassView) (earlier later : SessionRecord) : Type 0 where
    pub made : List Entry
    pub calls : Calls old new made
    pub puts : AllPutIn client before made
    pub messages : List Sent
    pub go : AllMayGo client messages
    pub sent : List ℕ
    pub rest : List ℕ
    pub front : sent ++ rest ≡ records_of messages
    pub given : List ℕ
    pub exchanged : Exchanged earlier.link sent given later.link

  pub received-pushes : (before : List Entry) (end : RecvEnd) (last : Option (List ℕ)) (class : ClassSpec) (ahead : List ℕ) (old new : PassView) (earlier later : SessionRecord)
      → old.actor ≡ client.actor → receives.ReceivesAll end last (accepting class client.rules client.host) ahead old new earlier later → Pushes before old new earlier later
  received-pushes before end last class ahead old new earlier later by all =
      let s = accepting class client.rules client.host in
      let goes = all.receives in
      let hands = comes-hands before goes.pieces beginning (receives.at_first s old) all.at_end by (accepting-keeps client before class) end goes.comes in
      let front = front_of (receives.is_whole_end end) goes.sent all.at_end.out goes.sent_is in
      record {
        made = hands.made;
        calls = subst (λ (pass : PassView). Calls old pass hands.made) all.pass_is hands.calls;
        puts = hands.puts;
        messages = hands.replies;
        go = hands.go;
        sent = goes.sent;
        rest = front.0;
        front = front.1 ∙ hands.owed;
        given = goes.passed.given;
        exchanged = goes.passed.exchanged;
      }
