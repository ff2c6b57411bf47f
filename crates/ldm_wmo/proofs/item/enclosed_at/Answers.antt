use Rattle.std.proofs.Common.{◌≡◌, ◌∙◌, ℕ, List, refl, sym, true}
use Rattle.ldm_wmo.specs.declared.kind.Kind.{Kind}
use Rattle.ldm_wmo.specs.Frames.{is_enclosed}
use Rattle.ldm_wmo.specs.Items.{enclosed_at, message_at}
use Rattle.ldm_wmo.proofs.item.enclosed_at.Goals as goal

enclosed : (at : ℕ) (kind : Kind) (bytes : List ℕ) → is_enclosed bytes ≡ true → message_at at kind bytes ≡ enclosed_at at kind bytes
enclosed at kind bytes is = rw is refl

pub returns-then-is_enclosed : goal.returns-then-is_enclosed
returns-then-is_enclosed c = c.item_at.ensures ∙ enclosed c.args.at c.args.kind c.args.bytes.now (sym c.is_enclosed.ensures ∙ c.if-is_enclosed.true)
