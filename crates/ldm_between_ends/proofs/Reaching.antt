-- What is left of a feeding that comes to a receiver, and what was passed on of it.
use Rattle.std.proofs.Common.{◌≡◌, ℕ, List, [], ◌∷◌, ◌++◌, Option, Some, None, inl, refl, ap, sym, ◌∙◌, append_assoc}
use Rattle.std.specs.Prelude.{Contains}
use Rattle.ldm_model.specs.declared.event.Entry.{Entry}
use Rattle.ldm_model.specs.Product.{Product}
use Rattle.ldm_relay.specs.Sent.{Sent}
use Rattle.ldm_relay.specs.Spelling.{written}
use Rattle.ldm_session.specs.Owed.{Code}
use Rattle.ldm_intake.specs.Course.{Leads}
use Rattle.ldm_intake.specs.Notes.{Note}
use Rattle.ldm_intake.specs.Receiving.{Wanting, Receiving}
use Rattle.ldm_intake.specs.Taken.{Arrival, Taken, taken}
use Rattle.ldm_between_ends.specs.Codes.{soon_codes}
use Rattle.ldm_between_ends.specs.Handed.{Way, Whole, Declined, InBlocks, Announced, Handed, last_of}
use Rattle.ldm_between_ends.specs.Passing.{PassesOn}
use Rattle.ldm_between_ends.specs.Takings.{Takings, TakesProduct, BeginsBy, BeginsFirst}
use Rattle.ldm_between_ends.proofs.Messages.{fed, so_far}

-- These records are the first of some messages, in order, each complete at one of these moments; those messages are behind them.
abbrev pub First : List ℕ → List Sent → List Arrival → List Sent → Type 0
First moments [] [] behind = behind ≡ []
First moments (m ∷ ms) [] behind = behind ≡ m ∷ ms
First moments [] (a ∷ arrivals) behind = ⊥
First moments (m ∷ ms) (a ∷ arrivals) behind = (a.content ≡ written m) × Contains moments a.now × First moments ms arrivals behind

-- A receiver that stands so gets the first of these messages, and by those entries comes to t.
pub record Reaches (actor : ℕ) (moments : List ℕ) (t : Taken) (s : Receiving) (codes : List Code) (ms behind : List Sent) (made : List Entry) : Type 0 where
  pub replies : List Sent
  pub notes : List Note
  pub arrivals : List Arrival
  pub codes_are : soon_codes replies ≡ codes
  pub first : First moments ms arrivals behind
  pub leads : Leads actor (taken (so_far s replies notes) arrivals) made t

-- What was passed on of these products. `ended`: no reply is owed to the feeder.
pub record Passed (actor : ℕ) (moments : List ℕ) (w : Wanting) (max : ℕ) (t : Taken) (last : Option (List ℕ)) (products : List Handed) (ended : Type 0) (behind : List Sent)
    (made : List Entry) : Type 0 where
  pub live : t.end ≡ None
  pub passes : PassesOn actor moments last t.receiving.last products made
  pub whole : behind ≡ [] → ended → (Takings actor moments products made) × (t.receiving ≡ fed w max (last_of last products))

pub begins-none : (way : Way) (actor : ℕ) (product : Product) → BeginsBy way actor product []
begins-none Whole actor product = refl
begins-none Declined actor product = refl
begins-none InBlocks actor product = inl refl
begins-none Announced actor product = inl refl

pub begins-nothing : (actor : ℕ) (products : List Handed) → BeginsFirst actor products []
begins-nothing actor [] = refl
begins-nothing actor (product ∷ behind) = begins-none product.way actor product.given.product

module _ (actor : ℕ) (moments : List ℕ) (w : Wanting) (max : ℕ) (t : Taken) (last : Option (List ℕ)) where
  -- of the next product some was asked
  pub begun : (product : Handed) (others : List Handed) (ended : Type 0) (behind : List Sent) (made : List Entry)
      → BeginsBy product.way actor product.given.product made → t.end ≡ None → t.receiving.last ≡ last → (behind ≡ [] → ended → ⊥)
      → Passed actor moments w max t last (product ∷ others) ended behind made
  begun product others ended behind made begins live last_is more = record {
    live = live;
    passes = record {
      done = [];
      left = product ∷ others;
      all = refl;
      made_is = record { first = []; second = made; all = refl; is_first = refl; is_second = begins };
      last_is = last_is;
    };
    whole = λ none end. absurd (more none end);
  }

  -- nothing more came
  pub stopped : (products : List Handed) (ended : Type 0) (replies : List Sent) (notes : List Note) (behind : List Sent) (made : List Entry)
      → made ≡ [] → so_far (fed w max last) replies notes ≡ t → (behind ≡ [] → ⊥) → Passed actor moments w max t last products ended behind made
  stopped products ended replies notes behind made none is more = record {
    live = ap (λ (u : Taken). u.end) (sym is);
    passes = record {
      done = [];
      left = products;
      all = refl;
      made_is = record { first = []; second = []; all = none; is_first = refl; is_second = begins-nothing actor products };
      last_is = ap (λ (u : Taken). u.receiving.last) (sym is);
    };
    whole = λ none_left end. absurd (more none_left);
  }

  -- there is nothing more
  pub finished : (ended : Type 0) (replies : List Sent) (notes : List Note) (behind : List Sent) (made : List Entry)
      → made ≡ [] → so_far (fed w max last) replies notes ≡ t → Passed actor moments w max t last [] ended behind made
  finished ended replies notes behind made none is = record {
    live = ap (λ (u : Taken). u.end) (sym is);
    passes = record {
      done = [];
      left = [];
      all = refl;
      made_is = record { first = []; second = []; all = none; is_first = refl; is_second = refl };
      last_is = ap (λ (u : Taken). u.receiving.last) (sym is);
    };
    whole = λ none_left end. (none, ap (λ (u : Taken). u.receiving) (sym is));
  }

  -- a product was taken, and then what was passed on behind it
  pub prepend : (product : Handed) (others : List Handed) (ended : Type 0) (behind : List Sent) (made first more : List Entry)
      → TakesProduct actor moments product first → made ≡ first ++ more
      → Passed actor moments w max t (Some product.given.product.info.signature) others ended behind more
      → Passed actor moments w max t last (product ∷ others) ended behind made
  prepend product others ended behind made first more takes is rest =
      let p = rest.passes in
      record {
        live = rest.live;
        passes = record {
          done = product ∷ p.done;
          left = p.left;
          all = ap (λ (x : List Handed). product ∷ x) p.all;
          made_is = record {
            first = first ++ p.made_is.first;
            second = p.made_is.second;
            all = is ∙ ap (λ (x : List Entry). first ++ x) p.made_is.all ∙ sym (append_assoc first p.made_is.first p.made_is.second);
            is_first = record { first = first; second = p.made_is.first; all = refl; is_first = takes; is_second = p.made_is.is_first };
            is_second = p.made_is.is_second;
          };
          last_is = p.last_is;
        };
        whole = λ none end.
            let w = rest.whole none end in
            (record { first = first; second = more; all = is; is_first = takes; is_second = w.0 }, w.1);
      }
