-- Which products an actor put in, or found queued.
use Rattle.std.specs.Prelude.{◌≡◌, ℕ, List, ◌∷◌, ◌++◌}
use Rattle.ldm_model.specs.declared.event.Reply.{Reply}
use Rattle.ldm_model.specs.declared.event.Reply.TheVariants.{Admitted, Committed, Duplicate}
use Rattle.ldm_model.specs.declared.event.Entry.{Entry}

-- a reply names the number of the product that was put in, or was found queued
abbrev pub NamesPut : Reply → ℕ → Type 0
NamesPut (Admitted m time evicted) n = n ≡ m
NamesPut (Committed m time) n = n ≡ m
NamesPut (Duplicate m) n = n ≡ m
NamesPut other n = ⊥

-- In a history an actor put in the product of that number, or found it queued.
pub record HasPut (actor : ℕ) (history : List Entry) (n : ℕ) : Type 0 where
  pub before : List Entry
  pub entry : Entry
  pub since : List Entry
  pub are : before ++ entry ∷ since ≡ history
  pub by : entry.actor ≡ actor
  pub names : NamesPut entry.reply n
