-- Entries that lead through records, one after another, and the replies that are made on the way.
use Rattle.std.proofs.Common.{◌≡◌, ℕ, List, [], ◌∷◌, ◌++◌, refl, ap, sym, subst, ◌∙◌, append_assoc}
use Rattle.std.proofs.lemmas.List.{append-nil}
use Rattle.std.proofs.lemmas.List.Concat.{flat_map-append}
use Rattle.ldm_model.specs.declared.event.Event.{Event}
use Rattle.ldm_model.specs.declared.event.Reply.{Reply}
use Rattle.ldm_model.specs.declared.event.Entry.{Entry}
use Rattle.ldm_relay.specs.declared.message.SoonAnswer.{SoonAnswer}
use Rattle.ldm_relay.specs.Sent.{Sent}
use Rattle.ldm_relay.specs.Sent as sent
use Rattle.ldm_session.specs.Owed.{Code}
use Rattle.ldm_intake.specs.Course.{Course, Comes, Asks, Leads, entry_by}
use Rattle.ldm_intake.specs.Record.{record_course}
use Rattle.ldm_intake.specs.Step.{Step, Goes, Bad, Declined}
use Rattle.ldm_intake.specs.Taken.{Arrival, Taken, after_step, taken}
use Rattle.ldm_intake.proofs.Courses.{leads-then_parts}
use Rattle.ldm_between_ends.specs.Codes.{soon_code, soon_codes, Agree}

pub comes-made : (actor : ℕ) (u : Taken) (made : List Entry) (t : Taken) → Leads actor (Comes u) made t → (made ≡ []) × (u ≡ t)
comes-made actor u [] t leads = (refl, leads)
comes-made actor u (entry ∷ made) t leads = absurd leads

pub none-taken : (actor : ℕ) (u : Taken) (made : List Entry) (t : Taken) → Leads actor (taken u []) made t → (made ≡ []) × (u ≡ t)
unfolding taken
none-taken actor u made t leads = comes-made actor u made t leads

-- The first entry is of the event that is asked, and the others lead on by its reply.
pub record HasAsked (actor : ℕ) (event : Event) (on : Reply → Course Taken) (made : List Entry) (t : Taken) : Type 0 where
  pub reply : Reply
  pub more : List Entry
  pub is : made ≡ entry_by actor event reply ∷ more
  pub leads : Leads actor (on reply) more t

pub asks-made : (actor : ℕ) (event : Event) (on : Reply → Course Taken) (made : List Entry) (t : Taken) → Leads actor (Asks event on) made t → HasAsked actor event on made t
asks-made actor event on [] t leads = absurd leads
asks-made actor event on (entry ∷ made) t leads =
    record { reply = entry.reply; more = made; is = ap (λ (e : Entry). e ∷ made) leads.0; leads = leads.1 }

-- ---- replies

pub record Grows (old new : List Sent) : Type 0 where
  pub more : List Sent
  pub is : new ≡ old ++ more

grows-nothing : (actor : ℕ) (replies : List Sent) (u : Taken) (made : List Entry) (t : Taken) → u.replies ≡ replies → Leads actor (Comes u) made t → Grows replies t.replies
grows-nothing actor replies u made t same leads =
    record { more = []; is = ap (λ (v : Taken). v.replies) (sym (comes-made actor u made t leads).1) ∙ same ∙ sym (append-nil replies) }

-- replies are made behind those that were made
pub grows : (actor : ℕ) (u : Taken) (arrivals : List Arrival) (made : List Entry) (t : Taken) → Leads actor (taken u arrivals) made t → Grows u.replies t.replies
unfolding taken
grows actor u [] made t leads = grows-nothing actor u.replies u made t refl leads
grows actor u (a ∷ arrivals) made t leads =
    let parts = leads-then_parts actor (record_course u.receiving a.now a.content) (after_step u a.at (λ (next : Taken). taken next arrivals)) made t leads in
    (elim parts.mid as (λ (v : Step). Leads actor (after_step u a.at (λ (next : Taken). taken next arrivals) v) parts.more t → Grows u.replies t.replies) [
      | Goes s replies notes ↦ λ later.
          let rest = grows actor (record u { receiving = s; replies = u.replies ++ replies; notes = u.notes ++ notes }) arrivals parts.more t later in
          record { more = replies ++ rest.more; is = rest.is ∙ append_assoc u.replies replies rest.more }
      | Bad ↦ λ later. grows-nothing actor u.replies _ parts.more t refl later
      | Declined answer ↦ λ later. grows-nothing actor u.replies _ parts.more t refl later
    ]) parts.second

-- ---- codes

pub soon_codes-append : (first second : List Sent) → soon_codes (first ++ second) ≡ soon_codes first ++ soon_codes second
soon_codes-append first second = flat_map-append soon_code first second

agree-at : (before : List Code) (x y : Code) (xs ys : List Code) → Agree (before ++ x ∷ xs) (before ++ y ∷ ys) → x ≡ y
agree-at [] x y xs ys agree = agree.0
agree-at (code ∷ before) x y xs ys agree = agree-at before x y xs ys agree.1

module _ (codes later : List Code) (code : Code) (replies total : List Sent) (xid : ℕ) (answer : SoonAnswer) (codes_are : soon_codes replies ≡ codes) where
  told : Code
  told = record { xid = xid; answer = answer }

  -- what is replied is what was heard
  pub heard-code : Grows (replies ++ sent.ComingsoonReply xid answer ∷ []) total → Agree (codes ++ code ∷ later) (soon_codes total) → code ≡ record { xid = xid; answer = answer }
  unfolding told
  heard-code more agree =
      let m : Sent = sent.ComingsoonReply xid answer in
      let all : soon_codes total ≡ codes ++ told ∷ soon_codes more.more =
      ap soon_codes more.is ∙ soon_codes-append (replies ++ m ∷ []) more.more
      ∙ ap (λ (x : List Code). x ++ soon_codes more.more) (soon_codes-append replies (m ∷ []))
      ∙ append_assoc (soon_codes replies) (told ∷ []) (soon_codes more.more)
      ∙ ap (λ (x : List Code). x ++ told ∷ soon_codes more.more) codes_are in
      agree-at codes code told later (soon_codes more.more) (subst (λ (x : List Code). Agree (codes ++ code ∷ later) x) all agree)

  -- and is one code more
  pub codes-more : code ≡ record { xid = xid; answer = answer } → soon_codes (replies ++ sent.ComingsoonReply xid answer ∷ []) ≡ codes ++ code ∷ []
  codes-more same =
      let m : Sent = sent.ComingsoonReply xid answer in
      soon_codes-append replies (m ∷ []) ∙ ap (λ (x : List Code). x ++ soon_codes (m ∷ [])) codes_are ∙ ap (λ (c : Code). codes ++ c ∷ []) (sym same)

pub agree-behind : (codes later : List Code) (code : Code) (total : List Code) → Agree (codes ++ code ∷ later) total → Agree (codes ++ code ∷ [] ++ later) total
agree-behind codes later code total agree = subst (λ (x : List Code). Agree x total) (sym (append_assoc codes (code ∷ []) later)) agree

pub codes-same : (replies : List Sent) (codes : List Code) → soon_codes replies ≡ codes → soon_codes (replies ++ []) ≡ codes
codes-same replies codes is = ap soon_codes (append-nil replies) ∙ is
