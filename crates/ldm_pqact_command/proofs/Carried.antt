-- What a whole gathering does to its handler and to what that is lent: what each call of the handler does, one after another.
use Rattle.std.proofs.Common.{◌≡◌, ◌∙◌, List, [], ◌∷◌, inl, inr, ◌⊎◌, false, sym, ap, subst}
use Rattle.ldm_intake.specs.declared.end.RecvEnd.{RecvEnd}
use Rattle.ldm_intake.specs.declared.end.RecvEnd.TheVariants.{Ended, Truncated, BadFrame, Refused, LinkFault, LogFault, StreamLimit, Worn, OutOfMemory}
use Rattle.ldm_intake.specs.Receiving.{Receiving}
use Rattle.ldm_downstream.specs.Pieces.{Piece}
use Rattle.ldm_downstream.specs.ReceiverView.{before_stream}
use Rattle.ldm_gather.specs.declared.end.GatherEnd.{GatherEnd}
use Rattle.ldm_gather.specs.declared.end.GatherEnd.TheVariants as end
use Rattle.ldm_gather.specs.declared.end.Handled.{Handled}
use Rattle.ldm_gather.specs.Gathering.{Asks, BeginsNot, EndsBy, EndsStream, GathersAll, GoesOn, TakesPiece}
use Rattle.ldm_gather.specs.Scene.{Lent, GatherMoment, Scene, moment_of}

-- the handler, and what it is lent
pub record Parts (W A B : Type 0) : Type 0 where
  pub handler : W
  pub first : A
  pub second : B

abbrev pub parts_of : {W A B : Type 0} → Scene W A B → Parts W A B
parts_of scene = record { handler = scene.handler; first = scene.first; second = scene.second }

module _ {W A B : Type 0} (handles : Handled → Scene W A B → Scene W A B → Type 0) (R : Parts W A B → Parts W A B → Type 0)
    (same : (p : Parts W A B) → R p p)
    (then : (a b c : Parts W A B) → R a b → R b c → R a c)
    (handled : (answer : Handled) (old new : Scene W A B) → handles answer old new → R (parts_of old) (parts_of new)) where
  abbrev At : Type 0
  At = GatherMoment W A B

  abbrev Leads : At → At → Type 0
  Leads old new = R (parts_of old.scene) (parts_of new.scene)

  -- nothing of these was touched
  untouched : (old new : At) → parts_of new.scene ≡ parts_of old.scene → Leads old new
  untouched old new is = subst (λ (p : Parts W A B). R (parts_of old.scene) p) (sym is) (same (parts_of old.scene))

  piece_leads : (piece : Piece) (answer : Handled) (old new : At) → TakesPiece handles piece answer old new → Leads old new
  piece_leads piece answer old new takes =
      let told_is : parts_of takes.told.scene ≡ parts_of old.scene = ap (λ (m : At). parts_of m.scene) takes.tells.others ∙ ap parts_of takes.comes.others in
      subst (λ (p : Parts W A B). R p (parts_of new.scene)) told_is (handled answer takes.told.scene new.scene takes.handles_it.handled)

  pieces_lead : (pieces : List Piece) (old new : At) → GoesOn handles pieces old new → Leads old new
  pieces_lead [] old new goes = untouched old new (ap (λ (m : At). parts_of m.scene) goes)
  pieces_lead (piece ∷ pieces) old new goes =
      then (parts_of old.scene) (parts_of goes.0.scene) (parts_of new.scene) (piece_leads piece _ old goes.0 goes.1.takes) (pieces_lead pieces goes.0 new goes.2)

  stream_leads : (e : RecvEnd) (old new : At) → EndsStream e old new → Leads old new
  stream_leads e old new ends = untouched old new (ap (λ (m : At). parts_of m.scene) ends.others ∙ ap (λ (m : At). parts_of m.scene) ends.is_at_end.others)

  end_leads : (e : GatherEnd) (old new : At) → EndsBy handles e old new → Leads old new
  end_leads (end.Received Ended) old new ends = stream_leads Ended old new ends
  end_leads (end.Received (Truncated at)) old new ends = stream_leads (Truncated at) old new ends
  end_leads (end.Received (BadFrame at)) old new ends = piece_leads ends.piece _ old new ends.takes
  end_leads (end.Received (Refused answer)) old new ends = piece_leads ends.piece _ old new ends.takes
  end_leads (end.Received StreamLimit) old new ends = piece_leads ends.piece _ old new ends.takes
  end_leads (end.Received OutOfMemory) old new ends = piece_leads ends.piece _ old new ends.takes
  end_leads (end.Received Worn) old new (inl over) = piece_leads over.piece _ old new over.takes
  end_leads (end.Received Worn) old new (inr ends) = stream_leads Worn old new ends
  end_leads (end.Received LinkFault) old new (inl none) = untouched old new (ap (λ (m : At). parts_of m.scene) none.others)
  end_leads (end.Received LinkFault) old new (inr fails) =
      untouched old new (ap (λ (m : At). parts_of m.scene) fails.sends.others ∙ ap parts_of fails.comes.others)
  end_leads (end.Received LogFault) old new fails =
      untouched old new (ap (λ (m : At). parts_of m.scene) fails.logs.others ∙ ap parts_of fails.comes.others)
  end_leads end.Enough old new ends = piece_leads ends.piece _ old new ends.takes
  end_leads end.Stopped old new ends = piece_leads ends.piece _ old new ends.takes

  begins_not : (e : GatherEnd) (old new : At) → BeginsNot handles e old new → Leads old new
  begins_not (end.Received LinkFault) old new begins = untouched old new (ap (λ (m : At). parts_of m.scene) begins.others)
  begins_not _ old new begins = absurd begins

  -- a whole gathering
  pub gathered_leads : (e : GatherEnd) (s : Receiving) (old new : Lent W A B) → GathersAll handles e s old new → R (parts_of old.scene) (parts_of new.scene)
  gathered_leads e s old new all = by_begin all.gathers
    where
      first : At
      first = moment_of (before_stream s false) old

      last : At
      last = moment_of all.receiver new

      by_begin : Asks handles e first last ⊎ BeginsNot handles e first last → Leads first last
      by_begin (inl asks) =
          let begun : Leads first asks.asked = untouched first asks.asked (ap (λ (m : At). parts_of m.scene) asks.others) in
          let went = pieces_lead asks.gathers.pieces asks.asked asks.gathers.last asks.gathers.goes_on in
          let ended = end_leads e asks.gathers.last last asks.gathers.ends in
          then (parts_of first.scene) (parts_of asks.asked.scene) (parts_of last.scene) begun
          (then (parts_of asks.asked.scene) (parts_of asks.gathers.last.scene) (parts_of last.scene) went ended)
      by_begin (inr not) = begins_not e first last not
