-- The counts of a gathering, piece by piece.
use Rattle.std.proofs.Common.{◌≡◌, ◌∙◌, ℕ, ◌≤◌, false, List, [], ◌∷◌, Option, inl, inr, ◌⊎◌, refl, sym, ap, subst, arith}
use Rattle.std.specs.Prelude.{IfSome}
use Rattle.ldm_outside.specs.Count.{Rose}
use Rattle.ldm_outside.specs.Link.{LinkRecord}
use Rattle.ldm_outside.proofs.CallerLemmas.{Rose-later}
use Rattle.ldm_intake.specs.declared.end.RecvEnd.{RecvEnd}
use Rattle.ldm_intake.specs.declared.end.RecvEnd.TheVariants.{Ended, Truncated, BadFrame, Refused, LinkFault, LogFault, StreamLimit, Worn, OutOfMemory}
use Rattle.ldm_intake.specs.Receiving.{Receiving}
use Rattle.ldm_downstream.specs.Pieces.{Piece}
use Rattle.ldm_downstream.specs.ReceiverView.{before_stream}
use Rattle.ldm_gather.specs.declared.end.GatherEnd.{GatherEnd}
use Rattle.ldm_gather.specs.declared.end.GatherEnd.TheVariants as end
use Rattle.ldm_gather.specs.declared.end.Handled.{Handled}
use Rattle.ldm_gather.specs.Causes.{HasCause, LinkHasEnded}
use Rattle.ldm_gather.specs.Gathering.{Asks, BeginsNot, Comes, EndsBy, EndsStream, GathersAll, GoesOn, Handles, TakesPiece, Tells}
use Rattle.ldm_gather.specs.Scene.{Lent, GatherMoment, Scene, moment_of}

module _ {W A B : Type 0} where
  -- No count of the link changed, and that of the log did not fall.
  record Keeps (old new : GatherMoment W A B) : Type 0 where
    faults : new.link.faults ≡ old.link.faults
    ends : new.link.ends ≡ old.link.ends
    log : old.scene.log.faults ≤ new.scene.log.faults

  keeps-then : (a b c : GatherMoment W A B) → Keeps a b → Keeps b c → Keeps a c
  keeps-then a b c one two = record { faults = two.faults ∙ one.faults; ends = two.ends ∙ one.ends; log = omega (arith, one.log, two.log) }

  -- the log is the same still
  log-same : (old new : Scene W A B) → new ≡ record old { pass = new.pass } → old.log.faults ≤ new.log.faults
  log-same old new same = let e : new.log.faults ≡ old.log.faults = ap (λ (s : Scene W A B). s.log.faults) same in omega (arith, e)

  comes-keep : (piece : Piece) (out notes : List ℕ) (old new : GatherMoment W A B) → Comes piece out notes old new → Keeps old new
  comes-keep piece out notes old new comes = record {
    faults = ap (λ (link : LinkRecord). link.faults) comes.gave.1;
    ends = ap (λ (link : LinkRecord). link.ends) comes.gave.1;
    log = log-same old.scene new.scene comes.others;
  }

  tells-keep : (out notes : List ℕ) (old new : GatherMoment W A B) → Tells out notes old new → Keeps old new
  tells-keep out notes old new tells = record {
    faults = ap (λ (link : LinkRecord). link.faults) tells.sent;
    ends = ap (λ (link : LinkRecord). link.ends) tells.sent;
    log = tells.log_kept;
  }

  -- ---- ends

  stream-cause : (e : RecvEnd) (old last new : GatherMoment W A B) → Keeps old last → EndsStream e last new → LinkHasEnded old.link new.link
  stream-cause e old last new keeps ends =
      let link_is : new.link ≡ ends.at_end.link = ap (λ (m : GatherMoment W A B). m.link) ends.others in
      let given = ends.is_at_end.given in
      let left_is : new.link.left ≡ last.link.left = ap (λ (link : LinkRecord). link.left) link_is ∙ ap (λ (link : LinkRecord). link.left) given.2 in
      let ends_are : new.link.ends ≡ ends.at_end.link.ends = ap (λ (link : LinkRecord). link.ends) link_is in (
        subst (λ (n : ℕ). Rose n new.link.ends) keeps.ends (subst (λ (n : ℕ). Rose last.link.ends n) (sym ends_are) given.0),
        subst (λ (left : Option (List ℕ)). IfSome left (λ rest. rest ≡ [])) (sym left_is) given.1,
      )

  fault-later : (old last new : GatherMoment W A B) → Keeps old last → Rose last.link.faults new.link.faults → Rose old.link.faults new.link.faults
  fault-later old last new keeps rose = subst (λ (n : ℕ). Rose n new.link.faults) keeps.faults rose

  module _ (handles : Handled → Scene W A B → Scene W A B → Type 0) where
    handles-keep : (answer : Handled) (old new : GatherMoment W A B) → Handles handles answer old new → Keeps old new
    handles-keep answer old new hands = record {
      faults = ap (λ (m : GatherMoment W A B). m.link.faults) hands.others;
      ends = ap (λ (m : GatherMoment W A B). m.link.ends) hands.others;
      log = hands.log_kept;
    }

    takes-keep : (piece : Piece) (answer : Handled) (old new : GatherMoment W A B) → TakesPiece handles piece answer old new → Keeps old new
    takes-keep piece answer old new takes =
        keeps-then old takes.pushed new (comes-keep piece takes.out takes.notes old takes.pushed takes.comes)
        (keeps-then takes.pushed takes.told new (tells-keep takes.out takes.notes takes.pushed takes.told takes.tells) (handles-keep answer takes.told new takes.handles_it))

    goes-keep : (pieces : List Piece) (old new : GatherMoment W A B) → GoesOn handles pieces old new → Keeps old new
    goes-keep [] old new goes = subst (λ (m : GatherMoment W A B). Keeps old m) (sym goes) (record { faults = refl; ends = refl; log = omega arith })
    goes-keep (piece ∷ pieces) old new goes =
        keeps-then old goes.0 new (takes-keep piece _ old goes.0 goes.1.takes) (goes-keep pieces goes.0 new goes.2)

    -- what stands of the outside from one moment to another
    Stands : GatherEnd → GatherMoment W A B → GatherMoment W A B → Type 0
    Stands e old new =
        HasCause e (record { scene = old.scene; link = old.link; clock = old.clock }) (record { scene = new.scene; link = new.link; clock = new.clock })

    ends-cause : (e : GatherEnd) (old last new : GatherMoment W A B) → Keeps old last → EndsBy handles e last new → Stands e old new
    unfolding Stands
    ends-cause (end.Received Ended) old last new keeps ends = stream-cause Ended old last new keeps ends
    ends-cause (end.Received (Truncated at)) old last new keeps ends = stream-cause (Truncated at) old last new keeps ends
    ends-cause (end.Received LinkFault) old last new keeps (inl none) = fault-later old last new keeps none.failing.0
    ends-cause (end.Received LinkFault) old last new keeps (inr fails) =
        fault-later old fails.pushed new (keeps-then old last fails.pushed keeps (comes-keep fails.piece fails.out fails.notes last fails.pushed fails.comes)) fails.sends.failing.0
    ends-cause (end.Received LogFault) old last new keeps fails =
        let before = keeps-then old last fails.pushed keeps (comes-keep fails.piece fails.out fails.notes last fails.pushed fails.comes) in
        Rose-later old.scene.log.faults fails.pushed.scene.log.faults new.scene.log.faults before.log fails.logs.rose
    ends-cause (end.Received (BadFrame at)) old last new keeps ends = tt
    ends-cause (end.Received (Refused answer)) old last new keeps ends = tt
    ends-cause (end.Received StreamLimit) old last new keeps ends = tt
    ends-cause (end.Received Worn) old last new keeps ends = tt
    ends-cause (end.Received OutOfMemory) old last new keeps ends = tt
    ends-cause end.Enough old last new keeps ends = tt
    ends-cause end.Stopped old last new keeps ends = tt

    begins-cause : (e : GatherEnd) (old new : GatherMoment W A B) → BeginsNot handles e old new → Stands e old new
    unfolding Stands
    begins-cause (end.Received LinkFault) old new begins = begins.failing.0
    begins-cause _ old new begins = absurd begins

    pub caused : (e : GatherEnd) (s : Receiving) (old new : Lent W A B) → GathersAll handles e s old new → HasCause e old new
    unfolding Stands
    caused e s old new all = by_begin all.gathers
      where
        first : GatherMoment W A B
        first = moment_of (before_stream s false) old

        last : GatherMoment W A B
        last = moment_of all.receiver new

        by_begin : Asks handles e first last ⊎ BeginsNot handles e first last → Stands e first last
        by_begin (inl asks) =
            let sent : Keeps first asks.asked = record {
              faults = ap (λ (link : LinkRecord). link.faults) asks.sent;
              ends = ap (λ (link : LinkRecord). link.ends) asks.sent;
              log = (let e : asks.asked.scene.log.faults ≡ first.scene.log.faults = ap (λ (m : GatherMoment W A B). m.scene.log.faults) asks.others in omega (arith, e));
            } in
            let gathers = asks.gathers in
            ends-cause e first gathers.last last (keeps-then first asks.asked gathers.last sent (goes-keep gathers.pieces asks.asked gathers.last gathers.goes_on)) gathers.ends
        by_begin (inr not) = begins-cause e first last not
