-- Sessions that follow each other, and find the last product that was offered, go on behind it.
use Rattle.std.proofs.Common.{◌≡◌, ◌∙◌, ℕ, true, List, [], ◌∷◌, ◌++◌, Option, Some, None, append_assoc, refl, sym, ap, subst}
use Rattle.std.specs.Prelude.{is_some, slice_get}
use Rattle.std.specs.List.{AllByRecursion}
use Rattle.std.proofs.lemmas.Bool.{false≢true}
use Rattle.std.proofs.lemmas.List.Elements.{All-from_recursion, recursion_from_All, All-take}
use Rattle.std.proofs.lemmas.Option.{same_Some}
use Rattle.ldm_types.specs.Info.{IsSignature}
use Rattle.ldm_types.specs.declared.class.ClassSpec.{ClassSpec}
use Rattle.ldm_model.specs.declared.event.Entry.{Entry}
use Rattle.ldm_model.specs.Product.{Product}
use Rattle.ldm_model.specs.State.{State, Row, place_of_row}
use Rattle.ldm_model.specs.History.{after, IsLegal}
use Rattle.ldm_model.specs.Law.{opening, state_before}
use Rattle.ldm_shared.specs.Staying.{HasRow}
use Rattle.ldm_class.specs.Classes.{resumed}
use Rattle.ldm_class.specs.Asking.{asked_class}
use Rattle.ldm_upstream.specs.Turn.{Given}
use Rattle.ldm_upstream.specs.Feeding.{given_of}
use Rattle.ldm_between_ends.specs.Handed.{Handed, handed, last_of}
use Rattle.ldm_between_ends.specs.Passing.{IsSound}
use Rattle.ldm_between_ends.specs.Session.{Session, IsSession}
use Rattle.ldm_between_ends.specs.Offered.{offered, offered_products, numbers_of, queue_of, count_settled}
use Rattle.ldm_between_ends.specs.Behind.{IsBehind}
use Rattle.ldm_between_ends.specs.Resumed.{last_number, GoesOnBehind, AreResumed}
use Rattle.ldm_between_ends.specs.Following.{CanName, Follows, FollowInTurn, Finds, AllFind}
use Rattle.ldm_between_ends.proofs.Handing.{handed-all}
use Rattle.ldm_between_ends.proofs.Naming.{ReadsLaw, names}
use Rattle.ldm_between_ends.proofs.Reader.{StaysLaw}

-- a product of that number was admitted, and this is its signature
record IsNamed (n : ℕ) (signature : Option (List ℕ)) (queue : State) : Type 0 where
  pub product : Product
  pub time : ℕ
  pub row : HasRow n product time queue
  pub is_signature : IsSignature product.info.signature
  pub named : signature ≡ Some product.info.signature

-- the same, where there is a number
abbrev Names : Option ℕ → Option (List ℕ) → State → Type 0
Names None signature queue = Unit {0}
Names (Some n) signature queue = IsNamed n signature queue

abbrev IsAdmitted : State → Given → Type 0
IsAdmitted queue given = HasRow given.n given.product given.time queue × IsSound given

-- the last of these products
last-named : (queue : State) (products : List Handed) → AllByRecursion (λ (h : Handed). IsAdmitted queue h.given) products
    → (last : Option ℕ) (before : Option (List ℕ)) → Names last before queue → Names (last_number last (numbers_of products)) (last_of before products) queue
last-named queue [] all last before names = names
last-named queue (h ∷ products) all last before names =
    last-named queue products all.1 (Some h.given.n) (Some h.given.product.info.signature)
    (record { product = h.given.product; time = h.given.time; row = all.0.0; is_signature = all.0.1.info.signature; named = refl })

offered-admitted : (s : Session) → IsSession s → AllByRecursion (λ (h : Handed). IsAdmitted (queue_of s) h.given) (offered_products s)
offered-admitted s is =
    let given = given_of s.passing.feeding in
    let all : AllByRecursion (IsAdmitted (queue_of s)) given =
    recursion_from_All (IsAdmitted (queue_of s)) given (λ k d lt. (is.rows k d lt, is.passing.granted.sound k d lt)) in
    let products = handed-all (IsAdmitted (queue_of s)) s.passing.feeding.turns s.passing.feeding.last all in
    recursion_from_All (λ (h : Handed). IsAdmitted (queue_of s) h.given) (offered_products s)
    (All-take (λ (h : Handed). IsAdmitted (queue_of s) h.given) (count_settled s.passing.made) (handed s.passing.feeding)
    (All-from_recursion (λ (h : Handed). IsAdmitted (queue_of s) h.given) (handed s.passing.feeding) products))

-- what a receiver goes on behind
abbrev pub EndsLaw : Type 0
EndsLaw = (s : Session) → IsSession s → s.passing.came_to.receiving.last ≡ last_of s.passing.begins.last (offered_products s)

module _ (stays : StaysLaw) (reads : ReadsLaw) (ends : EndsLaw) (class : ClassSpec) (can : CanName class) where
  -- at the end of a session
  named-behind : (s : Session) → IsSession s → (last : Option ℕ) → Names last s.passing.begins.last (queue_of s)
      → Names (last_number last (offered s)) s.passing.came_to.receiving.last (queue_of s)
  named-behind s is last named =
      subst (λ (signature : Option (List ℕ)). Names (last_number last (offered s)) signature (queue_of s)) (sym (ends s is))
      (last-named (queue_of s) (offered_products s) (offered-admitted s is) last s.passing.begins.last named)

  -- at the beginning of the next one
  row-on : (s t : Session) → IsSession t → Follows class s t → (n : ℕ) (product : Product) (time : ℕ) → HasRow n product time (queue_of s) → HasRow n product time (queue_of t)
  row-on s t is follows n product time row =
      let legal : IsLegal s.pass.arena s.pass.slots (s.pass.seen ++ follows.goes_on.0) =
      coe 0 1 (i. IsLegal (sym follows.same_arena i) (sym follows.same_slots i) (sym follows.goes_on.1 i)) is.has_seen.legal in
      coe 0 1 (i. HasRow n product time (after (follows.same_arena i) (follows.same_slots i) (follows.goes_on.1 i)))
      (stays s.pass.arena s.pass.slots s.pass.seen follows.goes_on.0 legal n product time row)

  named-on : (s t : Session) → IsSession t → Follows class s t → (last : Option ℕ) → Names last s.passing.came_to.receiving.last (queue_of s)
      → Names last t.passing.begins.last (queue_of t)
  named-on s t is follows None named = tt
  named-on s t is follows (Some n) named = record {
    product = named.product;
    time = named.time;
    row = row-on s t is follows n named.product named.time named.row;
    is_signature = named.is_signature;
    named = follows.last ∙ named.named;
  }

  -- a row that stood there as the cursor was opened
  row-opened : (t : Session) → IsSession t → (n : ℕ) (row : Row) → slice_get (state_before t.life).rows n ≡ Some row → HasRow n row.product row.time (queue_of t)
  row-opened t is n row is_row =
      let life = t.life in
      let at = is.has_life.is_point in
      let behind : List Entry = (opening life ∷ life.since) ++ at.rest in
      let whole : life.before ++ behind ≡ t.pass.seen = sym (append_assoc life.before (opening life ∷ life.since) at.rest) ∙ at.front in
      let legal : IsLegal life.arena life.slots (life.before ++ behind) =
      coe 0 1 (i. IsLegal (sym at.same_arena i) (sym at.same_slots i) (sym whole i)) is.has_seen.legal in
      coe 0 1 (i. HasRow n row.product row.time (after (at.same_arena i) (at.same_slots i) (whole i)))
      (stays life.arena life.slots life.before behind legal n row.product row.time (row.place, is_row))

  same-product : (queue : State) (n : ℕ) (one other : Product) (time later : ℕ) → HasRow n one time queue → HasRow n other later queue → one ≡ other
  same-product queue n one other time later h k =
      ap (λ (r : Row). r.product) (same_Some _ _ (sym h.1 ∙ k.1))

  behind-found : (s t : Session) → IsSession t → Follows class s t → (n : ℕ) → IsNamed n t.passing.begins.last (queue_of t) → Finds (Some n) t → IsBehind t n
  behind-found s t is follows n named finds = by_row (slice_get (state_before t.life).rows n) refl finds.1
    where
      by_row : (row : Option Row) → slice_get (state_before t.life).rows n ≡ row → is_some (place_of_row row) ≡ true → IsBehind t n
      by_row None is_row queued = absurd (false≢true queued)
      by_row (Some row) is_row queued =
          let same = same-product (queue_of t) n named.product row.product named.time row.time named.row (row-opened t is n row is_row) in
          record {
            found = finds.0;
            row = row;
            is_row = is_row;
            queued = queued;
            named = ap (λ (c : ClassSpec). resumed c.specs.items) follows.asks
                ∙ ap (λ (signature : Option (List ℕ)). resumed (asked_class class signature).specs.items) named.named
                ∙ names reads class can named.product.info.signature named.is_signature
                ∙ ap (λ (p : Product). Some p.info.signature) same;
          }

  goes-on : (s t : Session) → IsSession t → Follows class s t → (last : Option ℕ) → Names last t.passing.begins.last (queue_of t) → Finds last t → GoesOnBehind last t
  goes-on s t is follows None named finds = tt
  goes-on s t is follows (Some n) named finds = behind-found s t is follows n named finds

  all-resumed : (s : Session) (later : List Session) (last : Option ℕ) → FollowInTurn class (s ∷ later) → GoesOnBehind last s
      → Names last s.passing.begins.last (queue_of s) → AllFind (last_number last (offered s)) later → AreResumed last (s ∷ later)
  all-resumed s [] last are goes_on named finds = (are.0, goes_on, tt)
  all-resumed s (t ∷ later) last are goes_on named finds =
      let after_it = last_number last (offered s) in
      let named_there = named-on s t are.2.0 are.1 after_it (named-behind s are.0 last named) in
      let goes_on_there = goes-on s t are.2.0 are.1 after_it named_there finds.0 in
      (are.0, goes_on, all-resumed t later after_it are.2 goes_on_there named_there finds.1)

  pub are-resumed : (sessions : List Session) → FollowInTurn class sessions → AllFind None sessions → AreResumed None sessions
  are-resumed [] are finds = tt
  are-resumed (s ∷ later) are finds = all-resumed s later None are tt tt finds.1
