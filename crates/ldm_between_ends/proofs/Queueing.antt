-- What a queue comes to that takes products.
use Rattle.std.proofs.Common.{◌≡◌, ℕ, ◌<◌, ◌≤◌, Bool, false, List, [], ◌∷◌, ◌++◌, refl, ap, sym, subst, ◌∙◌}
use Rattle.std.specs.Prelude.{All, if◌then◌else◌}
use Rattle.std.specs.List.{flat_map, AllByRecursion}
use Rattle.std.proofs.lemmas.Bool.{le-leb, lt-leb}
use Rattle.ldm_model.specs.declared.event.Event.TheVariants.{Insert, Reserve, Fill, Commit}
use Rattle.ldm_model.specs.declared.event.Reply.{Reply}
use Rattle.ldm_model.specs.declared.event.Reply.TheVariants.{Reserved}
use Rattle.ldm_model.specs.declared.event.Entry.{Entry}
use Rattle.ldm_model.specs.Product.{Product}
use Rattle.ldm_model.specs.State.{State}
use Rattle.ldm_model.specs.Next.{next}
use Rattle.ldm_model.specs.History.{after_entries, next_entry, IsLegalFrom}
use Rattle.ldm_model.proofs.Appended.{after_entries-append, IsLegalFrom-append}
use Rattle.ldm_intake.specs.Course.{entry_by}
use Rattle.ldm_sender.specs.declared.standing.Standing.{Standing}
use Rattle.ldm_sender.specs.Asked.{Asked}
use Rattle.ldm_upstream.specs.Blocks.{blocks}
use Rattle.ldm_upstream.specs.Turn.{Turn, Lost, Gave, Quiet, Alive, after_turn}
use Rattle.ldm_upstream.specs.Turn as turn
use Rattle.ldm_upstream.specs.Turns.{AreTurns}
use Rattle.ldm_upstream.specs.Feeding.{Last, GoesOn, Stopped, Unanswered, IsLast}
use Rattle.ldm_between_ends.specs.Handed.{Way, Whole, Declined, InBlocks, Announced, Handed, handed_in, handed_last}
use Rattle.ldm_between_ends.specs.Queue.{filled, reserved_so, announced, passed, passed_all, products_of}
use Rattle.ldm_between_ends.specs.Takings.{Fills, TakesBy, TakesNone, TakesBlocks, Takings, is_reserved}
use Rattle.ldm_between_ends.proofs.Moments.{moment-is}

-- What goes so has such a size.
abbrev pub HasSize : ℕ → Way → ℕ → Type 0
HasSize max Whole size = size ≤ max
HasSize max Declined size = max < size
HasSize max InBlocks size = max < size
HasSize max Announced size = max < size

abbrev pub HaveSizes : ℕ → List Handed → Type 0
HaveSizes max products = AllByRecursion (λ (h : Handed). HasSize max h.way h.given.product.info.size) products

last-sizes : (asked : Asked) (last : Last) → IsLast asked last → HaveSizes asked.max_hereis (handed_last last)
last-sizes asked GoesOn is = tt
last-sizes asked (Stopped end) is = tt
last-sizes asked (Unanswered given at) is = (is.1, tt)

pub sizes-handed : (asked : Asked) (turns : List Turn) (standing : Standing) (last : Last) → AreTurns asked standing turns → IsLast asked last
    → HaveSizes asked.max_hereis (flat_map handed_in turns ++ handed_last last)
sizes-handed asked [] standing last are is = last-sizes asked last is
sizes-handed asked (Lost count first final ∷ turns) standing last are is = sizes-handed asked turns standing last are.1 is
sizes-handed asked (Quiet end now ∷ turns) standing last are is = sizes-handed asked turns standing last are.1 is
sizes-handed asked (Alive end now at ∷ turns) standing last are is = sizes-handed asked turns (after_turn standing (Alive end now at)) last are.1 is
sizes-handed asked (Gave given turn.Passed ∷ turns) standing last are is = sizes-handed asked turns standing last are.1 is
sizes-handed asked (Gave given (turn.Whole at) ∷ turns) standing last are is =
    (are.0.1, sizes-handed asked turns (after_turn standing (Gave given (turn.Whole at))) last are.1 is)
sizes-handed asked (Gave given (turn.Declined at) ∷ turns) standing last are is =
    (are.0.1, sizes-handed asked turns (after_turn standing (Gave given (turn.Declined at))) last are.1 is)
sizes-handed asked (Gave given (turn.InBlocks at blocks_at) ∷ turns) standing last are is =
    (are.0.1, sizes-handed asked turns (after_turn standing (Gave given (turn.InBlocks at blocks_at))) last are.1 is)

pub sizes-front : (max : ℕ) (done left : List Handed) → HaveSizes max (done ++ left) → HaveSizes max done
sizes-front max [] left sizes = tt
sizes-front max (h ∷ done) left sizes = (sizes.0, sizes-front max done left sizes.1)

-- ---- one product

after-fills : (actor r : ℕ) (parts : List (List ℕ)) (made : List Entry) (s : State) → Fills actor r parts made → after_entries s made ≡ filled actor r parts s
after-fills actor r [] [] s fills = refl
after-fills actor r [] (entry ∷ made) s fills = absurd fills
after-fills actor r (block ∷ parts) [] s fills = absurd fills
after-fills actor r (block ∷ parts) (entry ∷ made) s fills =
    ap (λ (e : Entry). after_entries (next_entry s e).state made) fills.0 ∙ after-fills actor r parts made (next s actor (Fill r block)).state fills.1

none-reserved : (actor now : ℕ) (product : Product) (reply : Reply) (s : State) → is_reserved reply ≡ false → reserved_so actor now product reply s ≡ s
none-reserved actor now product (Reserved r evicted) s refused = absurd (cc refused)
none-reserved actor now product reply s refused = refl

module _ (actor max now : ℕ) (moments : List ℕ) (at : All (λ (n : ℕ). n ≡ now) moments) where
  passed-announced : (product : Product) (s : State) → max < product.info.size → passed actor max now product s ≡ announced actor now product s
  passed-announced product s large =
      ap (λ (b : Bool). if b then (next s actor (Insert now product.info product.body)).state else announced actor now product s) (lt-leb product.info.size max large)

  after-none : (product : Product) (made : List Entry) (s : State) → max < product.info.size → TakesNone actor product made → IsLegalFrom s made
      → after_entries s made ≡ passed actor max now product s
  after-none product made s large takes legal =
      let event = Reserve product.info in
      let there : IsLegalFrom s (entry_by actor event takes.reply ∷ []) = subst (λ (x : List Entry). IsLegalFrom s x) takes.is legal in
      let refused : is_reserved (next s actor event).reply ≡ false = ap is_reserved (sym there.0.reply) ∙ takes.refused in
      ap (after_entries s) takes.is
      ∙ sym (passed-announced product s large ∙ none-reserved actor now product (next s actor event).reply (next s actor event).state refused)

  after-blocks : (product : Product) (made : List Entry) (s : State) → max < product.info.size → TakesBlocks actor moments product made → IsLegalFrom s made
      → after_entries s made ≡ passed actor max now product s
  after-blocks product made s large takes legal =
      let event = Reserve product.info in
      let behind = takes.fills ++ entry_by actor (Commit takes.r takes.now) takes.reply ∷ [] in
      let there : IsLegalFrom s (entry_by actor event (Reserved takes.r takes.evicted) ∷ behind) = subst (λ (x : List Entry). IsLegalFrom s x) takes.is legal in
      let after = (next s actor event).state in
      ap (after_entries s) takes.is
      ∙ after_entries-append takes.fills (entry_by actor (Commit takes.r takes.now) takes.reply ∷ []) after
      ∙ ap (λ (v : State). (next v actor (Commit takes.r takes.now)).state) (after-fills actor takes.r (blocks product.body) takes.fills after takes.filled)
      ∙ ap (λ (n : ℕ). (next (filled actor takes.r (blocks product.body) after) actor (Commit takes.r n)).state) (moment-is now actor moments at takes.now takes.moment)
      ∙ ap (λ (reply : Reply). reserved_so actor now product reply after) there.0.reply
      ∙ sym (passed-announced product s large)

  after-one : (way : Way) (product : Product) (made : List Entry) (s : State) → HasSize max way product.info.size → TakesBy way actor moments product made → IsLegalFrom s made
      → after_entries s made ≡ passed actor max now product s
  after-one Whole product made s size takes legal =
      ap (after_entries s) takes.is
      ∙ ap (λ (n : ℕ). (next s actor (Insert n product.info product.body)).state) (moment-is now actor moments at takes.now takes.moment)
      ∙ sym (ap (λ (b : Bool). if b then (next s actor (Insert now product.info product.body)).state else announced actor now product s) (le-leb product.info.size max size))
  after-one Declined product made s size takes legal = after-none product made s size takes legal
  after-one InBlocks product made s size takes legal = after-blocks product made s size takes legal
  after-one Announced product made s size takes legal = after-none product made s size takes legal

  -- ---- products, one after another

  pub after-takings : (products : List Handed) (made : List Entry) (s : State) → HaveSizes max products → Takings actor moments products made → IsLegalFrom s made
      → after_entries s made ≡ passed_all actor max now (products_of products) s
  after-takings [] made s sizes takings legal = ap (after_entries s) takings
  after-takings (h ∷ products) made s sizes takings legal =
      let there : IsLegalFrom s (takings.first ++ takings.second) = subst (λ (x : List Entry). IsLegalFrom s x) takings.all legal in
      let both = (IsLegalFrom-append takings.first takings.second s).0 there in
      ap (after_entries s) takings.all
      ∙ after_entries-append takings.first takings.second s
      ∙ after-takings products takings.second (after_entries s takings.first) sizes.1 takings.is_second both.1
      ∙ ap (passed_all actor max now (products_of products)) (after-one h.way h.given.product takings.first s sizes.0 takings.is_first both.0)
