-- The content of a record, by what responding to it came to.
use Rattle.std.proofs.Common.{◌≡◌, ◌∙◌, ℕ, true, false, List, [], ◌∷◌, length, take, take_all, Option, Some, None, Result, Ok, Err, refl, sym, ap, subst, arith, inl}
use Rattle.std.specs.Prelude.{◌&&◌}
use Rattle.ldm_rpc.specs.Streams.{Placed}
use Rattle.ldm_serve.specs.declared.responded.Responded.{Responded}
use Rattle.ldm_serve.specs.declared.responded.Responded.TheVariants as responded
use Rattle.ldm_rpc.specs.declared.front_records.Front.{Front}
use Rattle.ldm_rpc.specs.Keeping.{IsFrontIn, IsFrontOf}
use Rattle.ldm_serve.specs.Respond.{respond}
use Rattle.ldm_serve.specs.Responds.{IsGiven, Responds, Standing, goes_on}
use Rattle.ldm_serve.specs.declared.responded.RespondFault.{RespondFault}
use Rattle.ldm_serve.specs.declared.responded.RespondFault.TheVariants as fault
use Rattle.ldm_serve.specs.InParts.{with_next}
use Rattle.ldm_serve.specs.Contents.{Finds, FindsEnd, found, stop_of}
use Rattle.ldm_serve.specs.Client.{Client}
use Rattle.ldm_serve.specs.Steps.{is_on}
use Rattle.ldm_serve.specs.Turns.{AnswersAll}
use Rattle.ldm_serve.proofs.Doing.{answers-none, does-given, step_of}

module _ (client : Client) (at : ℕ) (content : List ℕ) (old new : Standing) (by : old.pass.actor ≡ client.actor) where
  -- the session goes on
  content-goes_on : IsGiven (respond client content) old new → responded.GoesOn ≡ goes_on (respond client content) → AnswersAll client (found at (Some content)) old new
  content-goes_on given goes =
      let placed : Placed = record { at = at; content = content } in
      record {
        steps = step_of client placed old new given ∷ [];
        placed = refl;
        outlived = ap (λ (next : Responded). is_on next && true) (sym goes);
        does = does-given client placed old new given by;
      }

  -- it does not
  content-ends : (next : Responded) → IsGiven (respond client content) old new → next ≡ goes_on (respond client content) → is_on next ≡ false
      → FindsEnd client next at at (Some content) old new
  content-ends next given goes over =
      let placed : Placed = record { at = at; content = content } in (
        record {
          step = step_of client placed old new given;
          placed_is = refl;
          does = does-given client placed old new given by;
          next_is = goes;
          over = over;
        },
        refl,
      )

  pub content-found : (done : Result (Unit {0}) RespondFault) (next : Responded) → Responds (with_next done next) (respond client content) old new
      → Finds (stop_of done next at) next client at (Some content) old new
  content-found (Err fault.Worn) next runs = runs
  content-found (Err fault.OutOfMemory) next same = same
  content-found (Ok done) responded.GoesOn given = content-goes_on given.1 given.0
  content-found (Ok done) (responded.Feeds ask) given = content-ends (responded.Feeds ask) given.1 given.0 refl
  content-found (Ok done) (responded.Receives class) given = content-ends (responded.Receives class) given.1 given.0 refl
  content-found (Ok done) (responded.Notifies ask) given = content-ends (responded.Notifies ask) given.1 given.0 refl
  content-found (Ok done) responded.Refused given = content-ends responded.Refused given.1 given.0 refl
  content-found (Ok done) (responded.Denied rule) given = content-ends (responded.Denied rule) given.1 given.0 refl

-- no record is complete
pub none-found : (client : Client) (at : ℕ) (held : Option Front) (content : Option (List ℕ)) (here : Standing) (done : Unit {0}) (next : Responded)
    → here.pass.actor ≡ client.actor → next ≡ responded.GoesOn → held ≡ None → IsFrontIn held content → Finds (stop_of (Ok done) next at) next client at content here here
none-found client at None None here done next by goes is of =
    subst (λ (n : Responded). Finds (stop_of (Ok done) n at) n client at None here here) (sym goes) (answers-none client here by)
none-found client at None (Some content) here done next by goes is of = absurd of
none-found client at (Some held) content here done next by goes is of = absurd (cc is)

same_front : (held front : Front) → Some held ≡ Some front → held ≡ front
same_front held front is = cc

-- a record of which that is kept was responded to
pub some-found : (client : Client) (at : ℕ) (held : Option Front) (front : Front) (content : Option (List ℕ)) (old new : Standing)
    (done : Result (Unit {0}) RespondFault) (next : Responded) → old.pass.actor ≡ client.actor → held ≡ Some front → IsFrontIn held content
    → ((bytes : List ℕ) → IsFrontOf front bytes → Responds (with_next done next) (respond client bytes) old new)
    → Finds (stop_of done next at) next client at content old new
some-found client at None front content old new done next by is of responds = absurd (cc is)
some-found client at (Some held) front None old new done next by is of responds = absurd of
some-found client at (Some held) front (Some content) old new done next by is of responds =
    content-found client at content old new by done next (responds content (subst (λ (f : Front). IsFrontOf f content) (same_front held front is) of))

-- all of a record is kept
pub front-of_all : (held : Front) (content : List ℕ) → held.bytes.now ≡ content → held.len ≡ length content → IsFrontOf held content
front-of_all held content is len = record {
  front = is ∙ sym (ap (λ (bytes : List ℕ). take (length bytes) content) is ∙ take_all (length content) content (omega arith));
  enough = inl is;
  len = len;
}
