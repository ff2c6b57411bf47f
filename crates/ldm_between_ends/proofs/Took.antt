-- What a receiver took, by its contract, at each of its ends.
use Rattle.std.proofs.Common.{◌≡◌, ◌∙◌, ℕ, Bool, true, false, List, [], ◌∷◌, ◌++◌, Option, Some, None, inl, inr, refl, sym, ap, subst, append_assoc, append-nil}
use mathlib.Core.List.{IsPrefix}
use Rattle.ldm_model.specs.declared.event.Entry.{Entry}
use Rattle.ldm_shared.specs.Passes.{PassView, Calls}
use Rattle.ldm_shared.proofs.Made.{calls_none, calls_trans}
use Rattle.ldm_intake.specs.declared.end.RecvEnd.{RecvEnd}
use Rattle.ldm_intake.specs.declared.end.RecvEnd.TheVariants.{Ended, Truncated, BadFrame, Refused, LinkFault, LogFault, StreamLimit, Worn, OutOfMemory}
use Rattle.ldm_intake.specs.declared.phase.Pending.{Pending}
use Rattle.ldm_intake.specs.Course.{Comes, Leads}
use Rattle.ldm_intake.specs.Receiving.{Receiving}
use Rattle.ldm_relay.specs.Spelling.{records_of}
use Rattle.ldm_intake.specs.Taken.{Arrival, Taken, taken, taken_none, discards}
use Rattle.ldm_intake.specs.TakesRecord.{Standing}
use Rattle.ldm_intake.proofs.Courses.{leads-then_comes}
use Rattle.ldm_downstream.specs.Pieces.{Piece, arrivals, beginning, hand, joined}
use Rattle.ldm_downstream.specs.Pushing.{EndsEarly, EndsWhole, EndsWorn}
use Rattle.ldm_downstream.specs.Received.{received, with_hand}
use Rattle.ldm_downstream.specs.Receives.{Comes as ComesTo, is_whole_end}
use Rattle.ldm_downstream.specs.Taking.{BeginsNext, BreaksOff, GivesUp, Takes}
use Rattle.ldm_between_ends.specs.Meeting.{AsksBehind, IsGivenUp}
use Rattle.ldm_between_ends.specs.Passing.{moments_of}
use Rattle.ldm_between_ends.proofs.CutPieces.{cut-pieces}

-- a reservation that was open is given up
record Closes (actor : ℕ) (old new : Receiving) (made : List Entry) : Type 0 where
  pub given_up : IsGivenUp actor made
  pub same_last : new.last ≡ old.last

closes-by : (actor : ℕ) (pending : Option Pending) (old new : Receiving) (made : List Entry) → Leads actor (discards (taken_none old) pending) made (taken_none new) → Closes actor old new made
closes-by actor None old new [] leads = record { given_up = inl refl; same_last = ap (λ (t : Taken). t.receiving.last) (sym leads) }
closes-by actor None old new (entry ∷ made) leads = absurd leads
closes-by actor (Some pending) old new [] leads = absurd leads
closes-by actor (Some pending) old new (entry ∷ []) leads =
    record { given_up = inr (pending.r, entry.reply, ap (λ (e : Entry). e ∷ []) leads.0); same_last = ap (λ (t : Taken). t.receiving.last) (sym leads.1) }
closes-by actor (Some pending) old new (entry ∷ (other ∷ made)) leads = absurd leads.1

-- whether an end is by what came, and how the receiving then came to it
abbrev pub EndsBy : RecvEnd → Option RecvEnd → Type 0
EndsBy (BadFrame at) by = by ≡ Some (BadFrame at)
EndsBy (Refused answer) by = by ≡ Some (Refused answer)
EndsBy StreamLimit by = by ≡ Some StreamLimit
EndsBy _ by = Unit {0}

-- What it took, and how it then stands. What it asked besides is asked behind that.
pub record Took (end : RecvEnd) (s : Receiving) (pieces : List Piece) (old new : Standing) : Type 0 where
  pub first : List Piece
  pub bytes : IsPrefix (joined first) (joined pieces)
  pub moments : IsPrefix (moments_of first) (moments_of pieces)
  pub behind : List Arrival
  pub records : arrivals beginning pieces ≡ arrivals beginning first ++ behind
  pub whole : is_whole_end end ≡ true → first ≡ pieces
  pub made : List Entry
  pub to : Taken
  pub leads : Leads old.pass.actor (received s beginning first) made to
  pub ends_by : EndsBy end to.end
  pub last_is : to.receiving.last ≡ new.receiving.last
  pub out_is : new.out ≡ old.out ++ records_of to.replies
  pub more : List Entry
  pub calls : Calls old.pass new.pass (made ++ more)
  pub more_is : AsksBehind old.pass.actor to.receiving behind more

-- all pieces were taken, and it ended
took-all : (end : RecvEnd) (by : Option RecvEnd) (s : Receiving) (pieces : List Piece) (old between new : Standing) → s ≡ old.receiving → (takes : Takes (received old.receiving beginning pieces) by old between)
    → GivesUp between new → EndsBy end by → Took end s pieces old new
took-all end by s pieces old between new begins takes gives_up ends =
    let closed = gives_up.closes in
    let same : between.pass.actor ≡ old.pass.actor = ap (λ (p : PassView). p.actor) takes.calls.same in
    let closes = closes-by between.pass.actor between.receiving.pending between.receiving new.receiving closed.made closed.leads in
    record {
      first = pieces;
      bytes = ([], append-nil (joined pieces));
      moments = ([], append-nil (moments_of pieces));
      behind = [];
      records = sym (append-nil (arrivals beginning pieces));
      whole = λ is. refl;
      made = takes.made;
      to = takes.to;
      leads = subst (λ (r : Receiving). Leads old.pass.actor (received r beginning pieces) takes.made takes.to) (sym begins) takes.leads;
      ends_by = subst (EndsBy end) (sym takes.end_is) ends;
      last_is = ap (λ (r : Receiving). r.last) (sym takes.receiving) ∙ sym closes.same_last;
      out_is = gives_up.sends ∙ takes.sends;
      more = closed.made;
      calls = calls_trans old.pass between.pass new.pass takes.made closed.made takes.calls closed.calls;
      more_is = record { begun = []; closed = closed.made; all = refl; begins = refl; closes = subst (λ (n : ℕ). IsGivenUp n closed.made) same closes.given_up };
    }

-- The first records were taken. What was asked besides is given.
module _ (end : RecvEnd) (s : Receiving) (pieces : List Piece) (old between new : Standing) (begins : s ≡ old.receiving) (breaks : BreaksOff (arrivals beginning pieces) old between)
    (partly : is_whole_end end ≡ false) (free : (by : Option RecvEnd) → EndsBy end by) where
  took-some : (closed : List Entry) → new.receiving.last ≡ between.receiving.last → new.out ≡ between.out → Calls between.pass new.pass closed → IsGivenUp old.pass.actor closed
      → Took end s pieces old new
  took-some closed same_last same_out calls given_up =
      let actor = old.pass.actor in
      let at = breaks.between in
      let takes = breaks.takes in
      let cut = cut-pieces beginning pieces breaks.front breaks.behind breaks.all in
      let position = hand beginning cut.first in
      let stood : at.receiving ≡ takes.to.receiving = takes.receiving in
      let then_made = calls_trans old.pass at.pass between.pass takes.made breaks.made takes.calls breaks.calls in
      record {
        first = cut.first;
        bytes = cut.bytes;
        moments = cut.moments;
        behind = breaks.behind;
        records = breaks.all ∙ ap (λ (came : List Arrival). came ++ breaks.behind) (sym cut.gives);
        whole = λ is. absurd (let no : true ≡ false = sym is ∙ partly in cc no);
        made = takes.made;
        to = with_hand position takes.to;
        leads = leads-then_comes actor (taken (taken_none s) (arrivals beginning cut.first)) (λ (t : Taken). Comes (with_hand position t)) takes.made takes.to (with_hand position takes.to)
            (subst (λ (came : List Arrival). Leads actor (taken (taken_none s) came) takes.made takes.to) (sym cut.gives)
            (subst (λ (r : Receiving). Leads actor (taken (taken_none r) breaks.front) takes.made takes.to) (sym begins) takes.leads)) refl;
        ends_by = free (with_hand position takes.to).end;
        last_is = ap (λ (r : Receiving). r.last) (sym stood) ∙ ap (λ (st : Standing). st.receiving.last) (sym breaks.same) ∙ sym same_last;
        out_is = same_out ∙ ap (λ (st : Standing). st.out) breaks.same ∙ takes.sends;
        more = breaks.made ++ closed;
        calls = subst (Calls old.pass new.pass) (append_assoc takes.made breaks.made closed)
            (calls_trans old.pass between.pass new.pass (takes.made ++ breaks.made) closed then_made calls);
        more_is = record {
          begun = breaks.made;
          closed = closed;
          all = refl;
          begins = subst (λ (r : Receiving). BeginsNext actor r breaks.behind breaks.made) stood breaks.begins;
          closes = given_up;
        };
      }

took-early : (end : RecvEnd) (s : Receiving) (pieces : List Piece) (old new : Standing) → s ≡ old.receiving → EndsEarly pieces beginning old new → is_whole_end end ≡ false
    → ((by : Option RecvEnd) → EndsBy end by) → Took end s pieces old new
took-early end s pieces old new begins early partly free =
    let between = early.between in
    let breaks = early.breaks in
    let closed = early.gives_up.closes in
    let same : between.pass.actor ≡ old.pass.actor =
    ap (λ (p : PassView). p.actor) breaks.calls.same ∙ ap (λ (p : PassView). p.actor) breaks.takes.calls.same in
    let closes = closes-by between.pass.actor between.receiving.pending between.receiving new.receiving closed.made closed.leads in
    took-some end s pieces old between new begins breaks partly free closed.made closes.same_last early.gives_up.sends closed.calls
    (subst (λ (n : ℕ). IsGivenUp n closed.made) same closes.given_up)

-- by each end
pub took : (end : RecvEnd) (s : Receiving) (pieces : List Piece) (old new : Standing) → s ≡ old.receiving → ComesTo end pieces beginning old new → Took end s pieces old new
took Ended s pieces old new begins comes = took-all Ended None s pieces old comes.between new begins comes.takes comes.gives_up tt
took (Truncated at) s pieces old new begins comes = took-all (Truncated at) None s pieces old comes.between new begins comes.takes comes.gives_up tt
took (BadFrame at) s pieces old new begins comes = took-all (BadFrame at) (Some (BadFrame at)) s pieces old comes.between new begins comes.takes comes.gives_up refl
took (Refused answer) s pieces old new begins comes = took-all (Refused answer) (Some (Refused answer)) s pieces old comes.between new begins comes.takes comes.gives_up refl
took StreamLimit s pieces old new begins comes = took-all StreamLimit (Some StreamLimit) s pieces old comes.between new begins comes.takes comes.gives_up refl
took LinkFault s pieces old new begins comes = took-early LinkFault s pieces old new begins comes refl (λ by. tt)
took LogFault s pieces old new begins comes = took-early LogFault s pieces old new begins comes refl (λ by. tt)
took OutOfMemory s pieces old new begins comes = took-early OutOfMemory s pieces old new begins comes refl (λ by. tt)
took Worn s pieces old new begins comes =
    took-some Worn s pieces old new new begins comes.breaks refl (λ by. tt) [] refl refl (calls_none new.pass) (inl refl)
