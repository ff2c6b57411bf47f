-- What a cursor was given, by the calls of its owner: each number came with a call, and what was given before a call was given.
use Rattle.std.proofs.Common.{◌≡◌, ◌∙◌, ℕ, Bool, true, false, cond, List, [], ◌∷◌, ◌++◌, refl, sym, ap, subst, inl, inr, append_assoc, append-nil, All}
use Rattle.std.specs.Prelude.{◌⊎◌, ◌&&◌}
use Rattle.std.proofs.lemmas.List.Elements.{All-nil, All-cons, All-head, All-tail}
use Rattle.ldm_types.specs.Info.{Metadata}
use Rattle.ldm_model.specs.declared.event.Reply.{Reply}
use Rattle.ldm_model.specs.declared.event.Reply.TheVariants as reply
use Rattle.ldm_model.specs.declared.event.Entry.{Entry}
use Rattle.ldm_model.specs.Law.{Point, IsPointOf, at_entries, opening, is_own, is_close, over_replies, with_given, given}
use Rattle.ldm_model.proofs.Ascending.{IsAmong, among-none, among-left, among-push}

-- A call of the owner gave the product of that number.
pub record Gives (p : Point) (entries : List Entry) (m : ℕ) : Type 0 where
  pub front : List Entry
  pub call : Entry
  pub behind : List Entry
  pub are : entries ≡ front ++ call ∷ behind
  pub is_call : is_own p call ≡ true
  pub time : ℕ
  pub info : Metadata
  pub gave : call.reply ≡ reply.Product m time info

module _ (p : Point) where
  abbrev over : List ℕ → List Entry → List Entry → List ℕ
  over ns so_far entries = over_replies p (λ at ms r. with_given ms r) ns so_far entries

  later-gives : (entry : Entry) (entries : List Entry) (m : ℕ) → Gives p entries m → Gives p (entry ∷ entries) m
  later-gives entry entries m g = record {
    front = entry ∷ g.front;
    call = g.call;
    behind = g.behind;
    are = ap (λ (es : List Entry). entry ∷ es) g.are;
    is_call = g.is_call;
    time = g.time;
    info = g.info;
    gave = g.gave;
  }

  -- what a reply gives
  reply-gives : (entry : Entry) (entries : List Entry) (m : ℕ) (ns : List ℕ) → is_own p entry ≡ true → (r : Reply) → entry.reply ≡ r → IsAmong (with_given ns r) m
      → IsAmong ns m ⊎ Gives p (entry ∷ entries) m
  reply-gives entry entries m ns own (reply.Product n time info) is there = elim (among-push ns n m there) [
    | inl before ↦ inl before
    | inr same ↦ inr (record {
      front = [];
      call = entry;
      behind = entries;
      are = refl;
      is_call = own;
      time = time;
      info = info;
      gave = is ∙ ap (λ (i : ℕ). reply.Product i time info) same;
    })
  ]
  reply-gives entry entries m ns own r is there = inl there

  entry-gives : (entry : Entry) (entries : List Entry) (m : ℕ) (ns : List ℕ) (b : Bool) → is_own p entry ≡ b → IsAmong (cond b (with_given ns entry.reply) ns) m
      → IsAmong ns m ⊎ Gives p (entry ∷ entries) m
  entry-gives entry entries m ns true own there = reply-gives entry entries m ns own entry.reply refl there
  entry-gives entry entries m ns false own there = inl there

  over-gives : (ns : List ℕ) (so_far entries : List Entry) (m : ℕ) → IsAmong (over ns so_far entries) m → IsAmong ns m ⊎ Gives p entries m
  over-gives ns so_far [] m there = inl there
  over-gives ns so_far (entry ∷ entries) m there =
      elim (over-gives (cond (is_own p entry) (with_given ns entry.reply) ns) (so_far ++ entry ∷ []) entries m there) [
        | inl before ↦ entry-gives entry entries m ns (is_own p entry) refl before
        | inr later ↦ inr (later-gives entry entries m later)
      ]

  pub given-gives : (m : ℕ) → IsAmong (given p) m → Gives p p.since m
  given-gives m there = elim (over-gives [] [] p.since m there) [ inl none ↦ absurd (among-none m none) | inr g ↦ g ]

  -- ---- what was given stays given

  reply-grows : (m : ℕ) (ns : List ℕ) (r : Reply) → IsAmong ns m → IsAmong (with_given ns r) m
  reply-grows m ns (reply.Product n time info) there = among-left ns (n ∷ []) m there
  reply-grows m ns r there = there

  entry-grows : (m : ℕ) (ns : List ℕ) (r : Reply) (b : Bool) → IsAmong ns m → IsAmong (cond b (with_given ns r) ns) m
  entry-grows m ns r true there = reply-grows m ns r there
  entry-grows m ns r false there = there

  over-grows : (ns : List ℕ) (so_far entries : List Entry) (m : ℕ) → IsAmong ns m → IsAmong (over ns so_far entries) m
  over-grows ns so_far [] m there = there
  over-grows ns so_far (entry ∷ entries) m there =
      over-grows (cond (is_own p entry) (with_given ns entry.reply) ns) (so_far ++ entry ∷ []) entries m (entry-grows m ns entry.reply (is_own p entry) there)

  over-append : (ns : List ℕ) (so_far front behind : List Entry) → over ns so_far (front ++ behind) ≡ over (over ns so_far front) (so_far ++ front) behind
  over-append ns so_far [] behind = ap (λ (es : List Entry). over ns es behind) (sym (append-nil so_far))
  over-append ns so_far (entry ∷ front) behind =
      let ms : List ℕ = cond (is_own p entry) (with_given ns entry.reply) ns in
      over-append ms (so_far ++ entry ∷ []) front behind
      ∙ ap (λ (es : List Entry). over (over ms (so_far ++ entry ∷ []) front) es behind) (append_assoc so_far (entry ∷ []) front)

  -- the entries of the point itself do not matter
  over-at : (since : List Entry) (ns : List ℕ) (so_far entries : List Entry)
      → over_replies (at_entries p since) (λ at ms r. with_given ms r) ns so_far entries ≡ over ns so_far entries
  over-at since ns so_far [] = refl
  over-at since ns so_far (entry ∷ entries) = over-at since (cond (is_own p entry) (with_given ns entry.reply) ns) (so_far ++ entry ∷ []) entries

  pub given-still : (front behind : List Entry) → p.since ≡ front ++ behind → (m : ℕ) → IsAmong (given (at_entries p front)) m → IsAmong (given p) m
  given-still front behind are m there =
      subst (λ (ns : List ℕ). IsAmong ns m) (sym (ap (over [] []) are ∙ over-append [] [] front behind))
      (over-grows (over [] [] front) front behind m (subst (λ (ns : List ℕ). IsAmong ns m) (over-at front [] [] front) there))

-- ---- an earlier point of the life

pub All-front : (P : Entry → Type 0) (front behind : List Entry) → All P (front ++ behind) → All P front
All-front P [] behind all = All-nil P
All-front P (entry ∷ front) behind all =
    All-cons P entry front (All-head P entry (front ++ behind) all) (All-front P front behind (All-tail P entry (front ++ behind) all))

unfoldable pub earlier-point : (arena slots : ℕ) (history : List Entry) (p : Point) → IsPointOf arena slots history p → (front behind : List Entry) → p.since ≡ front ++ behind
    → IsPointOf arena slots history (at_entries p front)
earlier-point arena slots history p at front behind are = record {
  same_arena = at.same_arena;
  same_slots = at.same_slots;
  rest = behind ++ at.rest;
  front = sym (append_assoc (p.before ++ opening p ∷ front) behind at.rest)
      ∙ (ap (λ (es : List Entry). es ++ at.rest) (append_assoc p.before (opening p ∷ front) behind)
      ∙ (ap (λ (es : List Entry). (p.before ++ opening p ∷ es) ++ at.rest) (sym are) ∙ at.front));
  not_closed = All-front (λ (entry : Entry). (is_own p entry && is_close entry.event) ≡ false) front behind
      (subst (All (λ (entry : Entry). (is_own p entry && is_close entry.event) ≡ false)) are at.not_closed);
}
