-- What becomes of the messages of one product.
use Rattle.std.proofs.Common.{◌≡◌, ℕ, true, List, [], ◌∷◌, ◌++◌, Option, Some, refl, sym, ◌∙◌}
use Rattle.ldm_model.specs.declared.event.Event.TheVariants.{Insert}
use Rattle.ldm_model.specs.declared.event.Reply.{Reply}
use Rattle.ldm_model.specs.declared.event.Entry.{Entry}
use Rattle.ldm_relay.specs.Fits.{Fits}
use Rattle.ldm_relay.specs.Sent.{Sent}
use Rattle.ldm_relay.specs.Sent as sent
use Rattle.ldm_session.specs.Owed.{Code}
use Rattle.ldm_intake.specs.Course.{Course, Leads, entry_by}
use Rattle.ldm_intake.specs.Notes.{Note}
use Rattle.ldm_intake.specs.Products.{insert_note}
use Rattle.ldm_intake.specs.Receiving.{Wanting, is_wanted}
use Rattle.ldm_intake.specs.Taken.{Arrival, Taken, taken}
use Rattle.ldm_intake.proofs.Courses.{leads-same}
use Rattle.ldm_upstream.specs.Turn.{Given}
use Rattle.ldm_between_ends.specs.Codes.{soon_codes}
use Rattle.ldm_between_ends.specs.Handed.{Handed, Whole}
use Rattle.ldm_between_ends.proofs.Growing.{none-taken, asks-made, codes-same}
use Rattle.ldm_between_ends.proofs.Messages.{Again, fed, so_far, whole_comes}
use Rattle.ldm_between_ends.proofs.Reaching.{First, Reaches, Passed, stopped, prepend}

pub some-left : (m : Sent) (ms behind : List Sent) → behind ≡ m ∷ ms → behind ≡ [] → ⊥
some-left m ms behind is none = let same : m ∷ ms ≡ [] = sym is ∙ none in cc same

module _ (again : Again) (actor : ℕ) (moments : List ℕ) (w : Wanting) (max : ℕ) (t : Taken) where
  -- ---- a product that comes whole

  module _ (given : Given) (others : List Handed) (ended : Type 0) (last : Option (List ℕ)) (codes : List Code) (next : ℕ) (ms behind : List Sent)
      (fits : Fits (sent.Hereis next given.product.info given.product.body)) (wanted : is_wanted w given.product.info ≡ true)
      (goes_on : (more : List Entry) → Reaches actor moments t (fed w max (Some given.product.info.signature)) codes ms behind more
      → Passed actor moments w max t (Some given.product.info.signature) others ended behind more) where
    whole_by : (made : List Entry) (replies : List Sent) (notes : List Note) (arrivals : List Arrival) → soon_codes replies ≡ codes
        → First moments (sent.Hereis next given.product.info given.product.body ∷ ms) arrivals behind
        → Leads actor (taken (so_far (fed w max last) replies notes) arrivals) made t
        → Passed actor moments w max t last (record { given = given; way = Whole } ∷ others) ended behind made
    whole_by made replies notes [] codes_are first leads =
        let none = none-taken actor (so_far (fed w max last) replies notes) made t leads in
        stopped actor moments w max t last (record { given = given; way = Whole } ∷ others) ended replies notes behind made none.0 none.1
        (some-left (sent.Hereis next given.product.info given.product.body) ms behind first)
    whole_by made replies notes (a ∷ arrivals) codes_are first leads =
        let info = given.product.info in
        let body = given.product.body in
        let comes = whole_comes again w max last replies notes a arrivals next info body fits first.0 wanted in
        let on : Reply → Course Taken = λ reply. taken (so_far (fed w max (Some info.signature)) (replies ++ []) (notes ++ insert_note info reply)) arrivals in
        let asked = asks-made actor (Insert a.now info body) on made t (leads-same actor _ _ made t comes leads) in
        let rest = goes_on asked.more (record {
          replies = replies ++ [];
          notes = notes ++ insert_note info asked.reply;
          arrivals = arrivals;
          codes_are = codes-same replies codes codes_are;
          first = first.2;
          leads = asked.leads;
        }) in
        prepend actor moments w max t last (record { given = given; way = Whole }) others ended behind made
        (entry_by actor (Insert a.now info body) asked.reply ∷ []) asked.more
        (record { now = a.now; reply = asked.reply; moment = first.1; is = refl }) asked.is rest

    pub whole_turn : (made : List Entry) → Reaches actor moments t (fed w max last) codes (sent.Hereis next given.product.info given.product.body ∷ ms) behind made
        → Passed actor moments w max t last (record { given = given; way = Whole } ∷ others) ended behind made
    whole_turn made reaches = whole_by made reaches.replies reaches.notes reaches.arrivals reaches.codes_are reaches.first reaches.leads
