-- A receiving over a link, whole.
use Rattle.std.proofs.Common.{◌≡◌, ℕ, false, List, [], ◌∷◌, Option, None, refl, ap, sym, subst, ◌∙◌}
use Rattle.ldm_types.specs.declared.class.ClassSpec.{ClassSpec}
use Rattle.ldm_class.specs.Rules.{Rules}
use Rattle.ldm_outside.specs.Session.{SessionRecord}
use Rattle.ldm_rpc.specs.Streams.{Position}
use Rattle.ldm_shared.specs.Passes.{PassView}
use Rattle.ldm_shared.proofs.Made.{calls_none}
use Rattle.ldm_intake.specs.declared.end.RecvEnd.{RecvEnd}
use Rattle.ldm_intake.specs.declared.end.RecvEnd.TheVariants.{OutOfMemory}
use Rattle.ldm_intake.specs.Opening.{accepting}
use Rattle.ldm_intake.specs.Receiving.{Receiving}
use Rattle.ldm_intake.specs.TakesRecord.{Standing}
use Rattle.ldm_intake.proofs.TakenRecords.{closing-begins_nothing}
use Rattle.ldm_downstream.specs.Pieces.{Piece, arrivals, beginning}
use Rattle.ldm_downstream.specs.ReceiverView.{ReceiverView, before_stream}
use Rattle.ldm_downstream.specs.Receives.{Comes, Receives, ReceivesAll, at_first}
use Rattle.ldm_downstream.specs.Sessions.{HasCome, RunsOn, RunsOut, settled}
use Rattle.ldm_downstream.proofs.Ending.{anew, continues-none}
use Rattle.ldm_downstream.proofs.Followed.{breaks-here, takes-none}
use Rattle.ldm_downstream.proofs.Linked.{Passed-nothing}
use Rattle.ldm_downstream.proofs.Rounds.{receives-none, receives-piece}
use Rattle.ldm_downstream.proofs.SessionTurns.{nothing-written}

-- it began with that receiving
pub all-received : (end : RecvEnd) (last : Option (List ℕ)) (first receiver : ReceiverView) (s : Receiving) (ahead : List ℕ) (old new : PassView) (before after : SessionRecord)
    → first.receiving ≡ s → last ≡ receiver.receiving.last → RunsOut end ahead receiver new beginning (at_first first.receiving old) before after
    → ReceivesAll end last s ahead old new before after
all-received end last first receiver s ahead old new before after same last_is runs = record {
  at_end = runs.at_end;
  receives = subst (λ (r : Receiving). Receives end ahead beginning (at_first r old) runs.at_end before after) same runs.receives;
  pass_is = runs.pass_is;
  last_is = last_is ∙ ap (λ (r : Receiving). r.last) (sym runs.receiving);
}

-- there is no memory to begin with, whatever came
no-memory : (pieces : List Piece) (p : Position) (a : Standing) → a.receiving.pending ≡ None → Comes OutOfMemory pieces p a a
no-memory pieces p a none = record {
  between = a;
  breaks = breaks-here [] (arrivals p pieces) a a (takes-none a);
  gives_up = record {
    closes = record { made = []; leads = closing-begins_nothing a.pass.actor a.receiving none; calls = calls_none a.pass };
    sends = refl;
    logs = refl;
  };
}

pub none-received : (s : Receiving) (pass : PassView) (outside : SessionRecord) → s.pending ≡ None → ReceivesAll OutOfMemory s.last s [] pass pass outside outside
none-received s pass outside none =
    let a = at_first s pass in
    record {
      at_end = a;
      receives = receives-none beginning a a (anew a) [] [] outside outside (Passed-nothing outside outside refl refl refl refl) OutOfMemory
          (no-memory [] beginning a none) (no-memory [] beginning (anew a) none) refl refl refl (a.out, refl) ([], refl) tt;
      pass_is = refl;
      last_is = refl;
    }

-- ---- what a host pushes

-- before the first piece: nothing is owed, and all that is taken is in hand
pub fresh-runs : (first : ReceiverView) (class : ClassSpec) (rules : Rules) (host : List ℕ) (pass : PassView) (now : SessionRecord) → first ≡ before_stream (accepting class rules host) false
    → RunsOn [] first pass first.hand (settled first.receiving pass) now now
unfolding Passed-nothing
fresh-runs first class rules host pass now is =
    let begun = before_stream (accepting class rules host) false in
    let there : RunsOn [] begun pass beginning (settled begun.receiving pass) now now = record {
      at = settled begun.receiving pass;
      advances = record {
        pieces = [];
        continues = continues-none beginning (settled begun.receiving pass) refl;
        passed = Passed-nothing now now refl refl refl refl;
        first_is = refl;
        in_turn = refl;
      };
      receiving = refl;
      pass_is = refl;
      live = refl;
    } in
    subst (λ (r : ReceiverView). RunsOn [] r pass r.hand (settled r.receiving pass) now now) (sym is) there

-- it was received to that end
pub pushed-received : (end : RecvEnd) (last : Option (List ℕ)) (first receiver : ReceiverView) (class : ClassSpec) (rules : Rules) (host ahead : List ℕ) (old new : PassView)
    (before after : SessionRecord) → first ≡ before_stream (accepting class rules host) false → last ≡ receiver.receiving.last
    → RunsOut end ahead receiver new first.hand (settled first.receiving old) before after → ReceivesAll end last (accepting class rules host) ahead old new before after
pushed-received end last first receiver class rules host ahead old new before after is last_is runs =
    let there = subst (λ (r : ReceiverView). RunsOut end ahead receiver new r.hand (settled r.receiving old) before after) is runs in
    all-received end last (before_stream (accepting class rules host) false) receiver (accepting class rules host) ahead old new before after refl last_is there

-- there is no memory once the clock was asked for the moment of the bytes that came ahead
pub none-behind : (class : ClassSpec) (rules : Rules) (host ahead : List ℕ) (piece : Piece) (pass : PassView) (before after : SessionRecord) → HasCome ahead piece before after
    → ReceivesAll OutOfMemory None (accepting class rules host) ahead pass pass before after
none-behind class rules host ahead piece pass before after come =
    let a = settled (accepting class rules host) pass in
    record {
      at_end = a;
      receives = receives-piece ahead piece beginning (accepting class rules host) pass [] [] before after after come refl (nothing-written after) OutOfMemory a
          (no-memory (piece ∷ []) beginning a refl) ([], refl) ([], refl) tt;
      pass_is = refl;
      last_is = refl;
    }
