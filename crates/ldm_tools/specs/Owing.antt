-- The answers that one who puts products is owed.
use Rattle.std.specs.Prelude.{◌≡◌, ◌⊎◌, Bool, true, false, ◌||◌, cond, List, [], ◌∷◌}
use Rattle.ldm_relay.specs.declared.message.PutAnswer.{PutAnswer}
use Rattle.ldm_status.specs.declared.status.Status.{Status}
use Rattle.ldm_status.specs.declared.status.Status.TheVariants as status
use Rattle.ldm_tools.specs.Lines.{is_denied, is_refused}

-- These are the answers that so many products are owed: one each, or up to the first that denies the insertion.
abbrev pub AreOwed : {A : Type 0} → List A → List PutAnswer → Type 0
AreOwed [] [] = Unit {0}
AreOwed (product ∷ products) (answer ∷ []) = (is_denied answer ≡ true) ⊎ (products ≡ [])
AreOwed (product ∷ products) (answer ∷ next ∷ answers) = (is_denied answer ≡ false) × AreOwed products (next ∷ answers)
AreOwed [] (answer ∷ answers) = ⊥
AreOwed (product ∷ products) [] = ⊥

abbrev pub are_denied : List PutAnswer → Bool
are_denied [] = false
are_denied (answer ∷ answers) = is_denied answer || are_denied answers

abbrev pub answers_refuse : List PutAnswer → Bool
answers_refuse [] = false
answers_refuse (answer ∷ answers) = is_refused answer || answers_refuse answers

-- the status by the answers alone
abbrev pub status_owed : List PutAnswer → Status
status_owed answers = cond (are_denied answers) status.Denied (cond (answers_refuse answers) status.Refused status.Done)
