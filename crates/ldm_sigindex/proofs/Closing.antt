-- An entry is taken out: those behind it that a search would no longer come to move into the hole.
use Rattle.std.proofs.Common.{◌≡◌, ℕ, ◌<◌, ◌^◌, inl, inr, List, length, set, slice_get, Some, None, refl, sym, ap, ◌∙◌, subst, arith}
use Rattle.std.proofs.lemmas.Bool.{cases_eq}
use Rattle.std.proofs.lemmas.List.{get_or-set_other, get_or-set_same, length-set}
use Rattle.ldm_sigindex.specs.declared.entries.Entry.{Entry}
use Rattle.ldm_sigindex.specs.declared.entries.TheConstants.{END}
use Rattle.ldm_sigindex.specs.Entries.{HasSignature, IsKept, IsOnWay, after_of, entry_at, free, free_of, home_of, slot_at}
use Rattle.ldm_sigindex.specs.Index.{Table, IsOneToOne}
use Rattle.ldm_sigindex.proofs.Occupied.{free_is_free, inside, slot_inside}
use Rattle.ldm_sigindex.proofs.Round.{after_apart, after_inside, either_on_way, next_apart, next_further, next_on_way, none_on_way, on_way_after, on_way_before, on_way_behind, way, way_falls}
use Rattle.ldm_sigindex.proofs.Tables.{get-set_other, get-set_same, one_to_one-left, was_left}

-- the place of the entry of a slot, which is not the hole
pub record HasOther (entries : List Entry) (hole slot : ℕ) : Type 0 where
  pub place : ℕ
  pub apart : place ≡ hole → ⊥
  pub at : slot_at entries place ≡ slot

-- the table is kept, but that the entry in the hole counts for nothing
pub record IsOpen (key : ℕ) (entries : List Entry) (table : Table) (hole : ℕ) : Type 0 where
  pub told : (place : ℕ) → (place ≡ hole → ⊥) → (slot_at entries place ≡ END → ⊥) → HasSignature key (entry_at entries place) table
  pub listed : (slot : ℕ) (signature : List ℕ) → slice_get table slot ≡ Some (Some signature) → HasOther entries hole slot
  pub once : (place other : ℕ) → (place ≡ hole → ⊥) → (other ≡ hole → ⊥) → (slot_at entries place ≡ END → ⊥) → slot_at entries other ≡ slot_at entries place → other ≡ place
  pub reached : (place before : ℕ) → (slot_at entries place ≡ END → ⊥) → before < length entries → IsOnWay (home_of (length entries) (entry_at entries place).mark) before place →
      slot_at entries before ≡ END → ⊥
  pub one_to_one : IsOneToOne table
  pub within : length table < 2 ^ 32
  pub roomy : length table < length entries

-- ---- the entry of a slot that has no signature any more is in the hole

pub opened : (key : ℕ) (entries : List Entry) (table : Table) (hole : ℕ) → (slot_at entries hole ≡ END → ⊥) → IsKept key entries table → IsOpen key entries (set table (slot_at entries hole) None) hole
opened key entries table hole taken kept =
    let slot = slot_at entries hole in
    let lt : slot < length table = slot_inside key entries table kept hole taken in
    record {
      told = λ place apart taken'.
          let has = kept.told place taken' in
          record {
            signature = has.signature;
            told = record {
              held = get-set_other table slot (slot_at entries place) None (λ same. apart (kept.once hole place taken same)) ∙ has.told.held;
              mark = has.told.mark;
            };
          };
      listed = λ number signature held.
          let was = was_left table slot number signature held in
          let old = kept.listed number signature was in
          record {
            place = old.place;
            apart = λ here.
                let same : slot ≡ number = ap (slot_at entries) (sym here) ∙ old.at in
                let none : slice_get (set table slot None) number ≡ Some None = ap (slice_get (set table slot None)) (sym same) ∙ get-set_same table slot None lt in
                absurd cc;
            at = old.at;
          };
      once = λ place other apart apart' taken' same. kept.once place other taken' same;
      reached = kept.reached;
      one_to_one = one_to_one-left table slot kept.one_to_one;
      within = omega (arith, length-set table slot None, kept.within);
      roomy = omega (arith, length-set table slot None, kept.roomy);
    }

-- ---- an entry moves into the hole, and its place is the hole then

module _ (key : ℕ) (entries : List Entry) (table : Table) (hole at : ℕ) (open_at : IsOpen key entries table hole) (hole_inside : hole < length entries)
    (taken : slot_at entries at ≡ END → ⊥) (apart : at ≡ hole → ⊥) (on : IsOnWay (home_of (length entries) (entry_at entries at).mark) hole at) where
  abbrev entries' : List Entry
  entries' = set entries hole (entry_at entries at)

  same : entry_at entries' hole ≡ entry_at entries at
  same = get_or-set_same entries hole (entry_at entries at) free hole_inside

  other : (one : ℕ) → (one ≡ hole → ⊥) → entry_at entries' one ≡ entry_at entries one
  other one away = get_or-set_other entries hole one (entry_at entries at) free away

  len : length entries' ≡ length entries
  len = length-set entries hole (entry_at entries at)

  stays : (one : ℕ) → (slot_at entries one ≡ END → ⊥) → slot_at entries' one ≡ END → ⊥
  stays one was ended =
      elim (cases_eq one hole) [
        | inl here ↦ taken (ap (λ (e : Entry). e.slot) (sym (ap (entry_at entries') here ∙ same)) ∙ ended)
        | inr away ↦ was (ap (λ (e : Entry). e.slot) (sym (other one away)) ∙ ended)
      ]

  was : (one : ℕ) → (one ≡ hole → ⊥) → (slot_at entries' one ≡ END → ⊥) → slot_at entries one ≡ END → ⊥
  was one away taken' ended = taken' (ap (λ (e : Entry). e.slot) (other one away) ∙ ended)

  moved_slot : (one : ℕ) → one ≡ hole → slot_at entries' one ≡ slot_at entries at
  moved_slot one here = ap (slot_at entries') here ∙ ap (λ (e : Entry). e.slot) same

  kept_slot : (one : ℕ) → (one ≡ hole → ⊥) → slot_at entries' one ≡ slot_at entries one
  kept_slot one away = ap (λ (e : Entry). e.slot) (other one away)

  pub moved : IsOpen key entries' table at
  moved = record {
    told = λ place away taken'.
        elim (cases_eq place hole) [
          | inl here ↦ subst (λ (e : Entry). HasSignature key e table) (sym (ap (entry_at entries') here ∙ same)) (open_at.told at apart taken)
          | inr off ↦ subst (λ (e : Entry). HasSignature key e table) (sym (other place off)) (open_at.told place off (was place off taken'))
        ];
    listed = λ slot signature held.
        let old = open_at.listed slot signature held in
        elim (cases_eq old.place at) [
          | inl here ↦ record { place = hole; apart = λ back. apart (sym back); at = moved_slot hole refl ∙ ap (slot_at entries) (sym here) ∙ old.at }
          | inr away ↦ record { place = old.place; apart = away; at = kept_slot old.place old.apart ∙ old.at }
        ];
    once = λ place two away away' taken' equal.
        elim (cases_eq place hole) [
          | inl here ↦ elim (cases_eq two hole) [
            | inl here' ↦ here' ∙ sym here
            | inr off' ↦ absurd (away' (open_at.once at two apart off' taken (sym (kept_slot two off') ∙ equal ∙ moved_slot place here)))
          ]
          | inr off ↦ elim (cases_eq two hole) [
            | inl here' ↦ absurd (away (open_at.once at place apart off taken (sym (kept_slot place off) ∙ sym equal ∙ moved_slot two here')))
            | inr off' ↦ open_at.once place two off off' (was place off taken') (sym (kept_slot two off') ∙ equal ∙ kept_slot place off)
          ]
        ];
    reached = λ place before taken' lt on_way.
        elim (cases_eq place hole) [
          | inl here ↦
              let home : home_of (length entries') (entry_at entries' place).mark ≡ home_of (length entries) (entry_at entries at).mark =
              ap (λ n. home_of n (entry_at entries' place).mark) len ∙ ap (λ (e : Entry). home_of (length entries) e.mark) (ap (entry_at entries') here ∙ same) in
              let to_hole : IsOnWay (home_of (length entries) (entry_at entries at).mark) before hole =
              subst (λ h. IsOnWay h before hole) home (subst (IsOnWay (home_of (length entries') (entry_at entries' place).mark) before) here on_way) in
              stays before (open_at.reached at before taken (omega (arith, len, lt)) (on_way_before (home_of (length entries) (entry_at entries at).mark) hole before at on to_hole))
          | inr off ↦
              let home : home_of (length entries') (entry_at entries' place).mark ≡ home_of (length entries) (entry_at entries place).mark =
              ap (λ n. home_of n (entry_at entries' place).mark) len ∙ ap (λ (e : Entry). home_of (length entries) e.mark) (other place off) in
              stays before (open_at.reached place before (was place off taken') (omega (arith, len, lt)) (subst (λ h. IsOnWay h before place) home on_way))
        ];
    one_to_one = open_at.one_to_one;
    within = open_at.within;
    roomy = omega (arith, len, open_at.roomy);
  }

-- ---- the hole becomes free

-- no entry from behind the hole up to a place is sought over the hole
abbrev pub IsBehind : (entries : List Entry) (hole at : ℕ) → Type 0
IsBehind entries hole at =
    (place : ℕ) → place < length entries → (place ≡ hole → ⊥) → IsOnWay hole place at → IsOnWay (home_of (length entries) (entry_at entries place).mark) hole place → ⊥

module _ (key : ℕ) (entries : List Entry) (table : Table) (hole at : ℕ) (open_at : IsOpen key entries table hole) (hole_inside : hole < length entries) (at_inside : at < length entries)
    (ended : slot_at entries at ≡ END) (behind : IsBehind entries hole at) where
  abbrev entries'' : List Entry
  entries'' = set entries hole free

  freed : slot_at entries'' hole ≡ END
  freed = ap (λ (e : Entry). e.slot) (get_or-set_same entries hole free free hole_inside)

  rest : (one : ℕ) → (one ≡ hole → ⊥) → entry_at entries'' one ≡ entry_at entries one
  rest one away = get_or-set_other entries hole one free free away

  rest_slot : (one : ℕ) → (one ≡ hole → ⊥) → slot_at entries'' one ≡ slot_at entries one
  rest_slot one away = ap (λ (e : Entry). e.slot) (rest one away)

  off : (one : ℕ) → (slot_at entries'' one ≡ END → ⊥) → one ≡ hole → ⊥
  off one taken here = taken (ap (slot_at entries'') here ∙ freed)

  was' : (one : ℕ) → (slot_at entries'' one ≡ END → ⊥) → slot_at entries one ≡ END → ⊥
  was' one taken gone = taken (rest_slot one (off one taken) ∙ gone)

  len' : length entries'' ≡ length entries
  len' = length-set entries hole free

  -- no entry is sought over the hole
  not_over : (place : ℕ) → (slot_at entries place ≡ END → ⊥) → (place ≡ hole → ⊥) → IsOnWay (home_of (length entries) (entry_at entries place).mark) hole place → ⊥
  not_over place taken away on =
      elim (either_on_way hole place at (λ same. taken (ap (slot_at entries) same ∙ ended))) [
        | inl earlier ↦ behind place (inside entries place taken) away earlier on
        | inr later ↦ open_at.reached place at taken at_inside (on_way_behind (home_of (length entries) (entry_at entries place).mark) hole at place on later) ended
      ]

  pub closed : IsKept key entries'' table
  closed = record {
    told = λ place taken. subst (λ (e : Entry). HasSignature key e table) (sym (rest place (off place taken))) (open_at.told place (off place taken) (was' place taken));
    listed = λ slot signature held. let old = open_at.listed slot signature held in record { place = old.place; at = rest_slot old.place old.apart ∙ old.at };
    once = λ place two taken equal.
        let two_taken : slot_at entries'' two ≡ END → ⊥ = λ gone. taken (sym equal ∙ gone) in
        open_at.once place two (off place taken) (off two two_taken) (was' place taken) (sym (rest_slot two (off two two_taken)) ∙ equal ∙ rest_slot place (off place taken));
    reached = λ place before taken lt on gone.
        let home : home_of (length entries'') (entry_at entries'' place).mark ≡ home_of (length entries) (entry_at entries place).mark =
        ap (λ n. home_of n (entry_at entries'' place).mark) len' ∙ ap (λ (e : Entry). home_of (length entries) e.mark) (rest place (off place taken)) in
        let on' = subst (λ h. IsOnWay h before place) home on in
        elim (cases_eq before hole) [
          | inl here ↦ not_over place (was' place taken) (off place taken) (subst (λ b. IsOnWay (home_of (length entries) (entry_at entries place).mark) b place) here on')
          | inr away ↦ open_at.reached place before (was' place taken) (omega (arith, len', lt)) on' (sym (rest_slot before away) ∙ gone)
        ];
    one_to_one = open_at.one_to_one;
    within = open_at.within;
    roomy = omega (arith, len', open_at.roomy);
  }

-- ---- the turns

-- A turn begins: the place that is looked at is behind the hole, and no further than a place that stays free.
pub record IsClosing (began entries : List Entry) (place hole at : ℕ) : Type 0 where
  pub len : length entries ≡ length began
  pub hole_inside : hole < length entries
  pub at_inside : at < length entries
  pub hole_taken : slot_at entries hole ≡ END → ⊥
  pub stays_free : slot_at entries (free_of began) ≡ END
  pub apart : at ≡ hole → ⊥
  pub short_of : (at ≡ free_of began → ⊥) → IsOnWay hole at (free_of began)
  pub behind : IsBehind entries hole at
  pub kept : (key : ℕ) (table : Table) → IsKept key began table → IsOpen key entries (set table (slot_at began place) None) hole

none_behind : (entries : List Entry) (at : ℕ) → at < length entries → IsBehind entries at (after_of (length entries) at)
none_behind entries at at_inside place lt away on over =
    elim (on_way_after (length entries) at place at at_inside lt on) [
      | inl here ↦ away here
      | inr before ↦ none_on_way at place before
    ]

pub closing_first : (entries : List Entry) (place : ℕ) → (slot_at entries place ≡ END → ⊥) → free_of entries < length entries → IsClosing entries entries place place (after_of (length entries) place)
closing_first entries place taken free_inside =
    let lt = inside entries place taken in
    let off : place ≡ free_of entries → ⊥ = λ same. taken (ap (slot_at entries) same ∙ free_is_free entries) in
    record {
      len = refl;
      hole_inside = lt;
      at_inside = after_inside (length entries) place lt;
      hole_taken = taken;
      stays_free = free_is_free entries;
      apart = after_apart (length entries) place (free_of entries) lt free_inside off;
      short_of = next_on_way (length entries) place (free_of entries) lt free_inside off;
      behind = none_behind entries place lt;
      kept = λ key table kept. opened key entries table place taken kept;
    }

module _ (began entries : List Entry) (place hole at : ℕ) (free_inside : free_of began < length began) (turn : IsClosing began entries place hole at) (taken : slot_at entries at ≡ END → ⊥) where
  short : at ≡ free_of began → ⊥
  short same = taken (ap (slot_at entries) same ∙ turn.stays_free)

  hole_off : hole ≡ free_of began → ⊥
  hole_off same = turn.hole_taken (ap (slot_at entries) same ∙ turn.stays_free)

  kept_slot_of : (one : ℕ) → (one ≡ hole → ⊥) → slot_at (set entries hole (entry_at entries at)) one ≡ slot_at entries one
  kept_slot_of one away = ap (λ (e : Entry). e.slot) (get_or-set_other entries hole one (entry_at entries at) free away)

  free_lt : free_of began < length entries
  free_lt = omega (arith, turn.len)

  pub closing_shorter : way (length began) (after_of (length began) at) (free_of began) < way (length began) at (free_of began)
  closing_shorter = way_falls (length began) at (free_of began) (omega (arith, turn.len, turn.at_inside)) free_inside short

  -- the entry stays where it is
  pub closing_past : (IsOnWay (home_of (length entries) (entry_at entries at).mark) hole at → ⊥) → IsClosing began entries place hole (after_of (length entries) at)
  closing_past not_over = record {
    len = turn.len;
    hole_inside = turn.hole_inside;
    at_inside = after_inside (length entries) at turn.at_inside;
    hole_taken = turn.hole_taken;
    stays_free = turn.stays_free;
    apart = next_apart (length entries) hole at (free_of began) turn.at_inside free_lt turn.hole_inside hole_off (turn.short_of short);
    short_of = next_further (length entries) hole at (free_of began) turn.at_inside free_lt (turn.short_of short);
    behind = λ one lt away on over.
        elim (on_way_after (length entries) hole one at turn.at_inside lt on) [
          | inl here ↦ not_over (subst (λ p. IsOnWay (home_of (length entries) (entry_at entries p).mark) hole p) here over)
          | inr before ↦ turn.behind one lt away before over
        ];
    kept = turn.kept;
  }

  -- the entry moves into the hole
  pub closing_moved : IsOnWay (home_of (length entries) (entry_at entries at).mark) hole at →
      IsClosing began (set entries hole (entry_at entries at)) place at (after_of (length entries) at)
  closing_moved over =
      let table_len : length (set entries hole (entry_at entries at)) ≡ length entries = length-set entries hole (entry_at entries at) in
      record {
        len = table_len ∙ turn.len;
        hole_inside = omega (arith, table_len, turn.at_inside);
        at_inside = omega (arith, table_len, after_inside (length entries) at turn.at_inside);
        hole_taken = λ ended. taken (sym (kept_slot_of at turn.apart) ∙ ended);
        stays_free = kept_slot_of (free_of began) (λ same. hole_off (sym same)) ∙ turn.stays_free;
        apart = after_apart (length entries) at (free_of began) turn.at_inside free_lt short;
        short_of = next_on_way (length entries) at (free_of began) turn.at_inside free_lt short;
        behind = subst (λ n. IsBehind (set entries hole (entry_at entries at)) at (after_of n at)) table_len (none_behind (set entries hole (entry_at entries at)) at (omega (arith, table_len, turn.at_inside)));
        kept = λ key table kept. moved key entries (set table (slot_at began place) None) hole at (turn.kept key table kept) turn.hole_inside taken turn.apart over;
      }

pub closing_end : (key : ℕ) (began entries : List Entry) (place hole at : ℕ) (table : Table) → IsClosing began entries place hole at → slot_at entries at ≡ END → IsKept key began table →
    IsKept key (set entries hole free) (set table (slot_at began place) None)
closing_end key began entries place hole at table turn ended kept =
    closed key entries (set table (slot_at began place) None) hole at (turn.kept key table kept) turn.hole_inside turn.at_inside ended turn.behind

-- the same, in the words of the code
pub turn_past : (began entries after : List Entry) (place hole hole_then at next home : ℕ) → free_of began < length began → IsClosing began entries place hole at →
    (slot_at entries at ≡ END → ⊥) → home ≡ home_of (length entries) (entry_at entries at).mark → after ≡ entries → hole_then ≡ hole → next ≡ after_of (length after) at →
    (IsOnWay home hole at → ⊥) → IsClosing began after place hole_then next
turn_past began entries after place hole hole_then at next home free_inside turn taken is_home same same_hole is_next not_over =
    let next_is : next ≡ after_of (length entries) at = is_next ∙ ap (λ (list : List Entry). after_of (length list) at) same in
    subst (λ (list : List Entry). IsClosing began list place hole_then next) (sym same)
    (subst (λ h. IsClosing began entries place h next) (sym same_hole)
    (subst (IsClosing began entries place hole) (sym next_is)
    (closing_past began entries place hole at free_inside turn taken (λ over. not_over (subst (λ h. IsOnWay h hole at) (sym is_home) over)))))

pub turn_moved : (began entries after : List Entry) (place hole hole_then at next home : ℕ) → free_of began < length began → IsClosing began entries place hole at →
    (slot_at entries at ≡ END → ⊥) → home ≡ home_of (length entries) (entry_at entries at).mark → after ≡ set entries hole (entry_at entries at) → hole_then ≡ at →
    next ≡ after_of (length after) at → IsOnWay home hole at → IsClosing began after place hole_then next
turn_moved began entries after place hole hole_then at next home free_inside turn taken is_home moved same_hole is_next over =
    let next_is : next ≡ after_of (length entries) at =
    is_next ∙ ap (λ (list : List Entry). after_of (length list) at) moved ∙ ap (λ n. after_of n at) (length-set entries hole (entry_at entries at)) in
    subst (λ (list : List Entry). IsClosing began list place hole_then next) (sym moved)
    (subst (λ h. IsClosing began (set entries hole (entry_at entries at)) place h next) (sym same_hole)
    (subst (IsClosing began (set entries hole (entry_at entries at)) place at) (sym next_is)
    (closing_moved began entries place hole at free_inside turn taken (subst (λ h. IsOnWay h hole at) is_home over))))
