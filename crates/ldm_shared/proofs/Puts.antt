-- What an actor put in.
use Rattle.std.proofs.Common.{ℕ, List, [], ◌∷◌, ◌++◌, refl, ap, sym, ◌∙◌, append_assoc}
use mathlib.Core.List.{IsPrefix}
use Rattle.ldm_model.specs.declared.event.Event.{Event}
use Rattle.ldm_model.specs.declared.event.Reply.{Reply}
use Rattle.ldm_model.specs.declared.event.Entry.{Entry}
use Rattle.ldm_shared.specs.Passes.{PassView, Grows}
use Rattle.ldm_shared.specs.Putting.{HasPut, NamesPut}

-- it is so for a longer history
pub put_later : (actor : ℕ) (seen history : List Entry) (n : ℕ) → IsPrefix seen history → HasPut actor seen n → HasPut actor history n
put_later actor seen history n begins put = record {
  before = put.before;
  entry = put.entry;
  since = put.since ++ begins.0;
  are = sym (append_assoc put.before (put.entry ∷ put.since) begins.0) ∙ (ap (λ (es : List Entry). es ++ begins.0) put.are ∙ begins.1);
  by = put.by;
  names = put.names;
}

-- the call that a pass grew by
pub put_by_call : (old new : PassView) (event : Event) (reply : Reply) (n : ℕ) → Grows old new event reply → NamesPut reply n → HasPut old.actor new.seen n
put_by_call old new event reply n grows names = record {
  before = grows.before;
  entry = record { actor = old.actor; event = event; reply = reply };
  since = [];
  are = sym grows.last;
  by = refl;
  names = names;
}
