-- What the worked examples are made of.
use Rattle.std.specs.Prelude.{ℕ, [], ◌∷◌, codes}
use Rattle.ldm_model.specs.declared.event.Event.TheVariants as event
use Rattle.ldm_script.specs.Order.{Order, Plain, OnCursor}
use Rattle.ldm_script.specs.declared.order.Place.TheVariants.{At}

-- `3 insert 1000000 000000000000000000000000000000e2 0x08000000 0 h x e2`
abbrev pub sample_insertion : Order
sample_insertion = record {
  actor = 3;
  asked = Plain (event.Insert 1000000 (record {
    arrival = 1000000;
    signature = 0 ∷ 0 ∷ 0 ∷ 0 ∷ 0 ∷ 0 ∷ 0 ∷ 0 ∷ 0 ∷ 0 ∷ 0 ∷ 0 ∷ 0 ∷ 0 ∷ 0 ∷ 0xe2 ∷ [];
    origin = codes "h";
    feed = 0x08000000;
    seqno = 0;
    ident = codes "x";
    size = 1;
  }) (0xe2 ∷ []));
}

-- `ACTOR step ACTOR`
abbrev pub step_of : ℕ → Order
step_of actor = record { actor = actor; asked = OnCursor (At actor) (λ k. event.Step k) }

-- `ACTOR read ACTOR 0 64`
abbrev pub read_of : ℕ → Order
read_of actor = record { actor = actor; asked = OnCursor (At actor) (λ k. event.Read k 0 64) }

-- `ACTOR release ACTOR`
abbrev pub release_of : ℕ → Order
release_of actor = record { actor = actor; asked = OnCursor (At actor) (λ k. event.Release k) }
