-- Courses whose calls all keep to the ACCEPT rules, and the entries that they lead to.
use Rattle.std.proofs.Common.{◌≡◌, ℕ, Bool, true, false, List, [], ◌∷◌, ◌++◌, refl, sym, ap, subst, append_assoc, append-nil}
use Rattle.std.specs.Prelude.{if◌then◌else◌}
use Rattle.std.proofs.lemmas.List.Elements.{Contains-append_left}
use Rattle.ldm_model.specs.declared.event.Reply.{Reply}
use Rattle.ldm_model.specs.declared.event.Reply.TheVariants.{Reserved}
use Rattle.ldm_model.specs.declared.event.Event.{Event}
use Rattle.ldm_model.specs.declared.event.Event.TheVariants.{Reserve}
use Rattle.ldm_model.specs.declared.event.Entry.{Entry}
use Rattle.ldm_intake.specs.Course.{Course, Comes, Asks, then, Leads, Begins, entry_by}
use Rattle.ldm_serve.specs.Client.{Client}
use Rattle.ldm_serve.specs.Kept.{AllPutIn, PutsIn, WasReserved}

module _ (client : Client) where
  -- what one of some calls reserved, one of those calls and others reserved
  pub reserved-more : (calls more : List Entry) (r : ℕ) → WasReserved client calls r → WasReserved client (calls ++ more) r
  reserved-more calls more r was = record {
    info = was.info;
    evicted = was.evicted;
    made = Contains-append_left calls more (entry_by client.actor (Reserve was.info) (Reserved r was.evicted)) was.made;
    may = was.may;
  }

  pub all_put-append : (before calls more : List Entry) → AllPutIn client before calls → AllPutIn client (before ++ calls) more → AllPutIn client before (calls ++ more)
  all_put-append before [] more first second = subst (λ (b : List Entry). AllPutIn client b more) (append-nil before) second
  all_put-append before (call ∷ calls) more first second = (
    first.0,
    all_put-append (before ++ call ∷ []) calls more first.1
        (subst (λ (b : List Entry). AllPutIn client b more) (sym (append_assoc before (call ∷ []) calls)) second),
  )

  -- Each call of the course keeps to the rules, whatever was answered before, and what it comes to is such.
  abbrev pub AsksOnly : {X : Type 0} → (before : List Entry) → Course X → (List Entry → X → Type 0) → Type 0
  AsksOnly before (Comes to) Such = Such before to
  AsksOnly before (Asks event on) Such =
      PutsIn client before event × ((reply : Reply) → AsksOnly (before ++ entry_by client.actor event reply ∷ []) (on reply) Such)

  pub asks-if : {X : Type 0} (Such : List Entry → X → Type 0) (before : List Entry) (b : Bool) (c d : Course X) → (b ≡ true → AsksOnly before c Such) → AsksOnly before d Such
      → AsksOnly before (if b then c else d) Such
  asks-if Such before true c d first second = first refl
  asks-if Such before false c d first second = second

  pub asks-then : {X Y : Type 0} (Such : List Entry → X → Type 0) (Then : List Entry → Y → Type 0) (rest : X → Course Y)
      → ((before : List Entry) (x : X) → Such before x → AsksOnly before (rest x) Then)
      → (before : List Entry) (c : Course X) → AsksOnly before c Such → AsksOnly before ((then) c rest) Then
  asks-then Such Then rest behind before (Comes to) asks = behind before to asks
  asks-then Such Then rest behind before (Asks event on) asks =
      (asks.0, λ (reply : Reply). asks-then Such Then rest behind (before ++ entry_by client.actor event reply ∷ []) (on reply) (asks.1 reply))

  pub begins-asked : {X : Type 0} (Such : List Entry → X → Type 0) (before : List Entry) (c : Course X) (made : List Entry) → AsksOnly before c Such → Begins client.actor c made
      → AllPutIn client before made
  begins-asked Such before (Comes to) [] asks begins = tt
  begins-asked Such before (Comes to) (entry ∷ entries) asks begins = absurd begins
  begins-asked Such before (Asks event on) [] asks begins = tt
  begins-asked Such before (Asks event on) (entry ∷ entries) asks begins =
      let behind = begins-asked Such (before ++ entry_by client.actor event entry.reply ∷ []) (on entry.reply) entries (asks.1 entry.reply) begins.1 in (
        subst (λ (e : Event). PutsIn client before e) (sym (ap (λ (e : Entry). e.event) begins.0)) asks.0,
        subst (λ (e : Entry). AllPutIn client (before ++ e ∷ []) entries) (sym begins.0) behind,
      )

  pub leads-asked : {X : Type 0} (Such : List Entry → X → Type 0) (before : List Entry) (c : Course X) (made : List Entry) (x : X) → AsksOnly before c Such → Leads client.actor c made x
      → Such (before ++ made) x
  leads-asked {X} Such before (Comes to) [] x asks leads =
      subst (λ (y : X). Such (before ++ []) y) leads (subst (λ (b : List Entry). Such b to) (sym (append-nil before)) asks)
  leads-asked Such before (Comes to) (entry ∷ entries) x asks leads = absurd leads
  leads-asked Such before (Asks event on) [] x asks leads = absurd leads
  leads-asked Such before (Asks event on) (entry ∷ entries) x asks leads =
      let behind = leads-asked Such (before ++ entry_by client.actor event entry.reply ∷ []) (on entry.reply) entries x (asks.1 entry.reply) leads.1 in
      let there = subst (λ (b : List Entry). Such b x) (append_assoc before (entry_by client.actor event entry.reply ∷ []) entries) behind in
      subst (λ (e : Entry). Such (before ++ e ∷ entries) x) (sym leads.0) there
