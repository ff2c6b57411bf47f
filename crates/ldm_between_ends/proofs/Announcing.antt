-- What becomes of a product that is announced: the queue is asked for a region.
use Rattle.std.proofs.Common.{◌≡◌, ℕ, ◌<◌, true, List, [], ◌∷◌, ◌++◌, Option, Some, inl, inr, refl, ap, sym, subst, ◌∙◌}
use Rattle.ldm_model.specs.declared.event.Event.TheVariants.{Reserve}
use Rattle.ldm_model.specs.declared.event.Reply.{Reply}
use Rattle.ldm_model.specs.declared.event.Reply.TheVariants.{Reserved}
use Rattle.ldm_model.specs.declared.event.Entry.{Entry}
use Rattle.ldm_relay.specs.declared.message.SoonAnswer.{SoonAnswer}
use Rattle.ldm_relay.specs.declared.message.SoonAnswer.TheVariants as soon
use Rattle.ldm_relay.specs.Fits.{Fits}
use Rattle.ldm_relay.specs.Sent.{Sent}
use Rattle.ldm_relay.specs.Sent as sent
use Rattle.ldm_session.specs.Owed.{Code}
use Rattle.ldm_intake.specs.declared.phase.Pending.{Pending}
use Rattle.ldm_intake.specs.Course.{Course, then, Leads, entry_by}
use Rattle.ldm_intake.specs.Notes.{Note}
use Rattle.ldm_intake.specs.Products.{reserved, reserve_note}
use Rattle.ldm_intake.specs.Receiving.{Wanting, Receiving, is_wanted}
use Rattle.ldm_intake.specs.Taken.{Arrival, Taken, after_step, taken}
use Rattle.ldm_intake.proofs.Courses.{leads-same}
use Rattle.ldm_upstream.specs.Turn.{Given, announcement}
use Rattle.ldm_between_ends.specs.Codes.{Agree, soon_codes}
use Rattle.ldm_between_ends.specs.Handed.{Handed, Declined, Announced}
use Rattle.ldm_between_ends.specs.Takings.{TakesNone}
use Rattle.ldm_between_ends.proofs.Growing.{none-taken, asks-made, grows, heard-code, codes-more}
use Rattle.ldm_between_ends.proofs.Messages.{Again, fed, waiting, so_far, onward, announcement_comes, declined_goes, reserved_goes, reserved_or}
use Rattle.ldm_between_ends.proofs.Reaching.{First, Reaches, Passed, begun, stopped, finished, prepend}
use Rattle.ldm_between_ends.proofs.Taking.{some-left}

-- the reply to an announcement
abbrev pub code_of : ℕ → SoonAnswer → Code
code_of xid answer = record { xid = xid; answer = answer }

-- The queue had no region. Behind that the receiver stands behind the product.
pub record IsDeclined (actor : ℕ) (moments : List ℕ) (w : Wanting) (max : ℕ) (t : Taken) (given : Given) (codes : List Code) (next : ℕ) (ms behind : List Sent) (made : List Entry) : Type 0 where
  pub first : List Entry
  pub more : List Entry
  pub is : made ≡ first ++ more
  pub takes : TakesNone actor given.product first
  pub reaches : Reaches actor moments t (fed w max (Some given.product.info.signature)) (codes ++ code_of next soon.DontSend ∷ []) ms behind more

-- It had one, and the receiver waits for blocks.
pub record IsWaiting (actor : ℕ) (moments : List ℕ) (w : Wanting) (max : ℕ) (t : Taken) (given : Given) (last : Option (List ℕ)) (codes : List Code) (next : ℕ) (ms behind : List Sent)
    (made : List Entry) : Type 0 where
  pub r : ℕ
  pub evicted : ℕ
  pub more : List Entry
  pub is : made ≡ entry_by actor (Reserve given.product.info) (Reserved r evicted) ∷ more
  pub reaches : Reaches actor moments t (waiting w max last (record { info = given.product.info; r = r; blocks = 0 })) (codes ++ code_of next soon.Ok ∷ []) ms behind more

-- The announcement did not come.
pub record IsNotThere (w : Wanting) (max : ℕ) (t : Taken) (last : Option (List ℕ)) (behind : List Sent) (made : List Entry) : Type 0 where
  pub replies : List Sent
  pub notes : List Note
  pub none : made ≡ []
  pub is : so_far (fed w max last) replies notes ≡ t
  pub left : behind ≡ [] → ⊥

-- what was heard of the reply, and what it was
abbrev pub Heard : List Code → List Code → Taken → Code → Code → Type 0
Heard codes later t heard said = Agree (codes ++ heard ∷ later) (soon_codes t.replies) → heard ≡ said

pub data Announces (actor : ℕ) (moments : List ℕ) (w : Wanting) (max : ℕ) (t : Taken) (given : Given) (last : Option (List ℕ)) (codes : List Code) (next : ℕ) (ms behind : List Sent)
    (made : List Entry) : Type 0 where
  not_there : IsNotThere w max t last behind made → Announces actor moments w max t given last codes next ms behind made
  declined : IsDeclined actor moments w max t given codes next ms behind made
      → ((later : List Code) (code : Code) → Heard codes later t code (code_of next soon.DontSend)) → Announces actor moments w max t given last codes next ms behind made
  waits : IsWaiting actor moments w max t given last codes next ms behind made
      → ((later : List Code) (code : Code) → Heard codes later t code (code_of next soon.Ok)) → Announces actor moments w max t given last codes next ms behind made

module _ (again : Again) (actor : ℕ) (moments : List ℕ) (w : Wanting) (max : ℕ) (t : Taken) (given : Given) (last : Option (List ℕ)) (codes : List Code) (next : ℕ) (ms behind : List Sent)
    (fits : Fits (announcement next given)) (wanted : is_wanted w given.product.info ≡ true) (some : 0 < given.product.info.size) where
  by_reply : (made : List Entry) (replies : List Sent) (notes : List Note) (a : Arrival) (arrivals : List Arrival) → soon_codes replies ≡ codes
      → First moments ms arrivals behind → (reply : Reply) (more : List Entry) → made ≡ entry_by actor (Reserve given.product.info) reply ∷ more
      → Leads actor ((then) (reserved (fed w max last) a.now next given.product.info reply) (after_step (so_far (fed w max last) replies notes) a.at (onward arrivals))) more t
      → Announces actor moments w max t given last codes next ms behind made
  by_reply made replies notes a arrivals codes_are first reply more is leads =
      let info = given.product.info in
      elim (reserved_or reply) [
        | inl has ↦
            let course : Reply → Course Taken = λ v. (then) (reserved (fed w max last) a.now next info v) (after_step (so_far (fed w max last) replies notes) a.at (onward arrivals)) in
            let goes = reserved_goes w max last replies notes a.now a.at (onward arrivals) next info has.r has.evicted some in
            let on = leads-same actor _ _ more t (ap course has.is ∙ goes) leads in
            let grown = grows actor (so_far (waiting w max last (record { info = info; r = has.r; blocks = 0 })) (replies ++ sent.ComingsoonReply next soon.Ok ∷ []) (notes ++ [])) arrivals more t on in
            waits (record {
              r = has.r;
              evicted = has.evicted;
              more = more;
              is = is ∙ ap (λ (v : Reply). entry_by actor (Reserve info) v ∷ more) has.is;
              reaches = record {
                replies = replies ++ sent.ComingsoonReply next soon.Ok ∷ [];
                notes = notes ++ [];
                arrivals = arrivals;
                codes_are = codes-more codes [] (code_of next soon.Ok) replies [] next soon.Ok codes_are refl;
                first = first;
                leads = on;
              };
            }) (λ later code agree. heard-code codes later code replies t.replies next soon.Ok codes_are grown agree)
        | inr refused ↦
            let goes = declined_goes w max last replies notes a.now a.at (onward arrivals) next info reply refused in
            let on = leads-same actor _ _ more t goes leads in
            let grown = grows actor (so_far (fed w max (Some info.signature)) (replies ++ sent.ComingsoonReply next soon.DontSend ∷ []) (notes ++ reserve_note info reply)) arrivals more t on in
            declined (record {
              first = entry_by actor (Reserve info) reply ∷ [];
              more = more;
              is = is;
              takes = record { reply = reply; refused = refused; is = refl };
              reaches = record {
                replies = replies ++ sent.ComingsoonReply next soon.DontSend ∷ [];
                notes = notes ++ reserve_note info reply;
                arrivals = arrivals;
                codes_are = codes-more codes [] (code_of next soon.DontSend) replies [] next soon.DontSend codes_are refl;
                first = first;
                leads = on;
              };
            }) (λ later code agree. heard-code codes later code replies t.replies next soon.DontSend codes_are grown agree)
      ]

  by_arrivals : (made : List Entry) (replies : List Sent) (notes : List Note) (arrivals : List Arrival) → soon_codes replies ≡ codes
      → First moments (announcement next given ∷ ms) arrivals behind → Leads actor (taken (so_far (fed w max last) replies notes) arrivals) made t
      → Announces actor moments w max t given last codes next ms behind made
  by_arrivals made replies notes [] codes_are first leads =
      let none = none-taken actor (so_far (fed w max last) replies notes) made t leads in
      not_there (record { replies = replies; notes = notes; none = none.0; is = none.1; left = some-left (announcement next given) ms behind first })
  by_arrivals made replies notes (a ∷ arrivals) codes_are first leads =
      let info = given.product.info in
      let on : Reply → Course Taken = λ reply. (then) (reserved (fed w max last) a.now next info reply) (after_step (so_far (fed w max last) replies notes) a.at (onward arrivals)) in
      let comes = announcement_comes again w max last replies notes a arrivals next info fits first.0 wanted in
      let asked = asks-made actor (Reserve info) on made t (leads-same actor _ _ made t comes leads) in
      by_reply made replies notes a arrivals codes_are first.2 asked.reply asked.more asked.is asked.leads

  pub announces : (made : List Entry) → Reaches actor moments t (fed w max last) codes (announcement next given ∷ ms) behind made
      → Announces actor moments w max t given last codes next ms behind made
  announces made reaches = by_arrivals made reaches.replies reaches.notes reaches.arrivals reaches.codes_are reaches.first reaches.leads

  -- ---- what that is to the feeder

  -- it was declined
  pub declined_turn : (others : List Handed) (ended : Type 0) (later : List Code) → Agree (codes ++ code_of next soon.DontSend ∷ later) (soon_codes t.replies)
      → ((more : List Entry) → Reaches actor moments t (fed w max (Some given.product.info.signature)) (codes ++ code_of next soon.DontSend ∷ []) ms behind more
      → Passed actor moments w max t (Some given.product.info.signature) others ended behind more)
      → (made : List Entry) → Reaches actor moments t (fed w max last) codes (announcement next given ∷ ms) behind made
      → Passed actor moments w max t last (record { given = given; way = Declined } ∷ others) ended behind made
  declined_turn others ended later agree goes_on made reaches =
      elim (announces made reaches) [
        | not_there gone ↦ stopped actor moments w max t last (record { given = given; way = Declined } ∷ others) ended gone.replies gone.notes behind made gone.none gone.is gone.left
        | declined is heard ↦
            prepend actor moments w max t last (record { given = given; way = Declined }) others ended behind made is.first is.more is.takes is.is (goes_on is.more is.reaches)
        | waits is heard ↦ absurd (let other : soon.DontSend ≡ soon.Ok = ap (λ (c : Code). c.answer) (heard later (code_of next soon.DontSend) agree) in cc other)
      ]

  -- no reply came to the feeder: the receiver made one, perhaps
  pub announced_last : (ended : Type 0) → (ended → ⊥) → ms ≡ []
      → (made : List Entry) → Reaches actor moments t (fed w max last) codes (announcement next given ∷ ms) behind made
      → Passed actor moments w max t last (record { given = given; way = Announced } ∷ []) ended behind made
  announced_last ended owed none made reaches =
      let h : Handed = record { given = given; way = Announced } in
      elim (announces made reaches) [
        | not_there gone ↦ stopped actor moments w max t last (h ∷ []) ended gone.replies gone.notes behind made gone.none gone.is gone.left
        | declined is heard ↦
            let rest = at_end (fed w max (Some given.product.info.signature)) is.reaches.replies is.reaches.notes is.reaches.arrivals is.more none is.reaches.first is.reaches.leads in
            prepend actor moments w max t last h [] ended behind made is.first is.more is.takes is.is
            (finished actor moments w max t (Some given.product.info.signature) ended is.reaches.replies is.reaches.notes behind is.more rest.0 rest.1)
        | waits is heard ↦
            let pending : Pending = record { info = given.product.info; r = is.r; blocks = 0 } in
            let rest = at_end (waiting w max last pending) is.reaches.replies is.reaches.notes is.reaches.arrivals is.more none is.reaches.first is.reaches.leads in
            begun actor moments w max t last h [] ended behind made
            (inr (record { r = is.r; evicted = is.evicted; is = is.is ∙ ap (λ (x : List Entry). entry_by actor (Reserve given.product.info) (Reserved is.r is.evicted) ∷ x) rest.0 }))
            (ap (λ (u : Taken). u.end) (sym rest.1)) (ap (λ (u : Taken). u.receiving.last) (sym rest.1)) (λ nothing end. owed end)
      ]
    where
      at_end : (s : Receiving) (replies : List Sent) (notes : List Note) (arrivals : List Arrival) (more : List Entry) → ms ≡ []
          → First moments ms arrivals behind → Leads actor (taken (so_far s replies notes) arrivals) more t → (more ≡ []) × (so_far s replies notes ≡ t)
      at_end s replies notes [] more none first leads = none-taken actor (so_far s replies notes) more t leads
      at_end s replies notes (a ∷ arrivals) more none first leads = absurd (subst (λ (x : List Sent). First moments x (a ∷ arrivals) behind) none first)
