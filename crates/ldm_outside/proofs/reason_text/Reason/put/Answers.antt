use Rattle.std.proofs.Common.{◌≡◌, ◌-◌, List, ℕ, length, take, false, sym, subst}
use Rattle.std.specs.List.{list_any}
use Rattle.ldm_outside.specs.Reason.{is_control}
use Rattle.ldm_outside.specs.declared.reason.TheConstants.{LONGEST_REASON}
use Rattle.ldm_outside.proofs.Shown.{plain_joined}
use Rattle.ldm_outside.proofs.reason_text.Reason.put.Goals as goal

pub invariant_of-self : goal.invariant_of-self
invariant_of-self c =
    let before = c.self.inside.text.items in
    let more = take (LONGEST_REASON - length before) c.args.text.now in
    subst (λ (text : List ℕ). list_any is_control text ≡ false) (sym c.put_shown.ensures) (plain_joined before more c.self.invariant)
