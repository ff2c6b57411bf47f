-- What a feeding offers the peer of the products that its cursor is given.
use Rattle.std.proofs.Common.{◌≡◌, ◌∙◌, List, [], ◌∷◌, ◌++◌, refl, sym}
use Rattle.std.proofs.lemmas.List.Elements.{filter-append}
use Rattle.std.specs.List.{flat_map}
use Rattle.ldm_sender.specs.declared.standing.Standing.{Standing}
use Rattle.ldm_sender.specs.Asked.{Asked}
use Rattle.ldm_sender.specs.Due.{is_due}
use Rattle.ldm_upstream.specs.Turn.{Given, Handling, Passed, Whole, Declined, InBlocks, Turn, Lost, Gave, Quiet, Alive, after_turn, IsDue, IsHandled}
use Rattle.ldm_upstream.specs.Turns.{IsTurn, AreTurns, given_in, given_in_turns}
use Rattle.ldm_upstream.specs.Feeding.{Last, GoesOn, Stopped, Unanswered, Feeding, IsFeeding, IsLast, begun, last_given, given_of}
use Rattle.ldm_between_ends.specs.Alone.{due_of, offered, offered_in, offered_of}

module _ (asked : Asked) where
  -- one product that is due, and one that is not
  due-one : (given : Given) → IsDue asked given → given ∷ [] ≡ due_of asked (given ∷ [])
  due-one given due = rw due refl

  offered-one : (given : Given) (handling : Handling) → IsHandled asked given handling → offered given handling ≡ due_of asked (given ∷ [])
  offered-one given Passed not_due = rw not_due refl
  offered-one given (Whole at) h = due-one given h.0
  offered-one given (Declined at) h = due-one given h.0
  offered-one given (InBlocks at blocks_at) h = due-one given h.0

  offered-turn : (standing : Standing) (turn : Turn) → IsTurn asked standing turn → offered_in turn ≡ due_of asked (given_in turn)
  offered-turn standing (Lost count first last) is = refl
  offered-turn standing (Gave given handling) is = offered-one given handling is
  offered-turn standing (Quiet end now) is = refl
  offered-turn standing (Alive end now at) is = refl

  offered-turns : (standing : Standing) (turns : List Turn) → AreTurns asked standing turns → flat_map offered_in turns ≡ due_of asked (given_in_turns turns)
  offered-turns standing [] are = refl
  offered-turns standing (turn ∷ turns) are =
      let first = offered-turn standing turn are.0 in
      let rest = offered-turns (after_turn standing turn) turns are.1 in
      (λ i. first i ++ rest i) ∙ sym (filter-append (λ (given : Given). is_due asked given.time given.product.info) (given_in turn) (given_in_turns turns))

  offered-last : (last : Last) → IsLast asked last → last_given last ≡ due_of asked (last_given last)
  offered-last GoesOn is = refl
  offered-last (Stopped end) is = refl
  offered-last (Unanswered given at) is = due-one given is.0

  pub offered-feeding : (feeding : Feeding) → IsFeeding asked feeding → offered_of feeding ≡ due_of asked (given_of feeding)
  offered-feeding feeding is =
      let turns = offered-turns (begun feeding) feeding.turns is.turns in
      let last = offered-last feeding.last is.last in
      (λ i. turns i ++ last i) ∙ sym (filter-append (λ (given : Given). is_due asked given.time given.product.info) (given_in_turns feeding.turns) (last_given feeding.last))
