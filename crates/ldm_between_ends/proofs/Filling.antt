-- What becomes of a product whose body comes in blocks.
use Rattle.std.proofs.Common.{◌≡◌, ℕ, zero, suc, ◌+◌, ◌-◌, ◌*◌, ◌^◌, ◌<◌, ◌≤◌, min, true, List, [], ◌∷◌, ◌++◌, length, take, drop, Option, Some, None, inl, inr, refl, ap, sym, subst, ◌∙◌, append_assoc, arith, length-drop}
use Rattle.std.specs.Prelude.{◌⊎◌, Contains}
use Rattle.std.proofs.lemmas.Bool.{cases_lt}
use Rattle.std.proofs.lemmas.List.{length-take}
use Rattle.ldm_types.specs.Info.{Metadata}
use Rattle.ldm_model.specs.declared.event.Event.TheVariants.{Reserve, Fill, Commit}
use Rattle.ldm_model.specs.declared.event.Reply.{Reply}
use Rattle.ldm_model.specs.declared.event.Reply.TheVariants.{Reserved}
use Rattle.ldm_model.specs.declared.event.Entry.{Entry}
use Rattle.ldm_relay.specs.declared.message.SoonAnswer.TheVariants as soon
use Rattle.ldm_relay.specs.declared.message.TheConstants.{LARGEST_BLOCK}
use Rattle.ldm_relay.specs.Fits.{Fits}
use Rattle.ldm_relay.specs.Sent.{Sent}
use Rattle.ldm_relay.specs.Sent as sent
use Rattle.ldm_session.specs.Owed.{Code}
use Rattle.ldm_intake.specs.declared.phase.Pending.{Pending}
use Rattle.ldm_intake.specs.Course.{Course, then, Leads, entry_by}
use Rattle.ldm_intake.specs.Notes.{Note}
use Rattle.ldm_intake.specs.Products.{filled_in, commit_note}
use Rattle.ldm_intake.specs.Receiving.{Wanting, is_wanted, left_of}
use Rattle.ldm_intake.specs.Taken.{Arrival, Taken, after_step, taken}
use Rattle.ldm_intake.proofs.Courses.{leads-same}
use Rattle.ldm_upstream.specs.Blocks.{cut, count_blocks, blocks}
use Rattle.ldm_upstream.specs.Turn.{Given, announcement, block_messages}
use Rattle.ldm_sender.specs.Calls.{later_call}
use Rattle.ldm_between_ends.specs.Codes.{Agree, soon_codes}
use Rattle.ldm_between_ends.specs.Handed.{Handed, InBlocks}
use Rattle.ldm_between_ends.specs.Takings.{Fills}
use Rattle.ldm_between_ends.proofs.Growing.{none-taken, asks-made, codes-same}
use Rattle.ldm_between_ends.proofs.Messages.{Again, fed, waiting, so_far, onward, block_comes, last_block, next_block}
use Rattle.ldm_between_ends.proofs.Reaching.{First, Reaches, Passed, begun, stopped, prepend}
use Rattle.ldm_between_ends.proofs.Taking.{some-left}
use Rattle.ldm_between_ends.proofs.Announcing.{code_of, announces, not_there, declined, waits}

-- a product of which so many blocks came
abbrev pub pending_at : Metadata → ℕ → ℕ → Pending
pending_at info r i = record { info = info; r = r; blocks = i }

-- Not all of these blocks came.
pub record IsFilling (actor : ℕ) (t : Taken) (r : ℕ) (last : Option (List ℕ)) (all_blocks : List (List ℕ)) (behind : List Sent) (made : List Entry) : Type 0 where
  pub front : List (List ℕ)
  pub others : List (List ℕ)
  pub all : front ++ others ≡ all_blocks
  pub more : others ≡ [] → ⊥
  pub filled : Fills actor r front made
  pub live : t.end ≡ None
  pub last_is : t.receiving.last ≡ last
  pub left : behind ≡ [] → ⊥

-- All of them came, and then others messages.
pub record IsFilled (actor : ℕ) (moments : List ℕ) (w : Wanting) (max : ℕ) (t : Taken) (r : ℕ) (info : Metadata) (codes : List Code) (all_blocks : List (List ℕ))
    (ms behind : List Sent) (made : List Entry) : Type 0 where
  pub fills : List Entry
  pub filled : Fills actor r all_blocks fills
  pub now : ℕ
  pub moment : Contains moments now
  pub reply : Reply
  pub more : List Entry
  pub is : made ≡ fills ++ entry_by actor (Commit r now) reply ∷ more
  pub reaches : Reaches actor moments t (fed w max (Some info.signature)) codes ms behind more

cut-none : (count : ℕ) (body : List ℕ) → count ≡ 0 → cut count body ≡ []
cut-none count body none = ap (λ n. cut n body) none

cut-some : (count : ℕ) (body : List ℕ) → cut (suc count) body ≡ [] → ⊥
cut-some count body none = cc none

module _ (again : Again) (actor : ℕ) (moments : List ℕ) (w : Wanting) (max : ℕ) (t : Taken) (info : Metadata) (r : ℕ) (last : Option (List ℕ)) (codes : List Code)
    (ms behind : List Sent) (signed : length info.signature ≡ 16) (sized : info.size < 2 ^ 32) where
  -- so many blocks from here on, of which i came before
  pub record AreLeft (count i : ℕ) (rest : List ℕ) : Type 0 where
    pub before : length rest + i * LARGEST_BLOCK ≡ info.size
    pub some : 0 < length rest
    pub enough : length rest ≤ count * LARGEST_BLOCK
    pub no_more : count * LARGEST_BLOCK < length rest + LARGEST_BLOCK

  abbrev pub Outcome : List (List ℕ) → List Entry → Type 0
  Outcome all_blocks made = IsFilling actor t r last all_blocks behind made ⊎ IsFilled actor moments w max t r info codes all_blocks ms behind made

  -- the block is filled in, and what follows it
  with_one : (block : List ℕ) (all_blocks : List (List ℕ)) (reply : Reply) (made more : List Entry) → made ≡ entry_by actor (Fill r block) reply ∷ more
      → Outcome all_blocks more → Outcome (block ∷ all_blocks) made
  with_one block all_blocks reply made more is outcome =
      let entry = entry_by actor (Fill r block) reply in
      elim outcome [
        | inl part ↦ inl (record {
          front = block ∷ part.front;
          others = part.others;
          all = ap (λ (x : List (List ℕ)). block ∷ x) part.all;
          more = part.more;
          filled = subst (λ (x : List Entry). Fills actor r (block ∷ part.front) x) (sym is) (refl, part.filled);
          live = part.live;
          last_is = part.last_is;
          left = part.left;
        })
        | inr whole ↦ inr (record {
          fills = entry ∷ whole.fills;
          filled = (refl, whole.filled);
          now = whole.now;
          moment = whole.moment;
          reply = whole.reply;
          more = whole.more;
          is = is ∙ ap (λ (x : List Entry). entry ∷ x) whole.is;
          reaches = whole.reaches;
        })
      ]

  -- with the last block it is committed
  committed : (block : List ℕ) (others : List (List ℕ)) (i : ℕ) (replies : List Sent) (notes : List Note) (a : Arrival) (arrivals : List Arrival) (reply : Reply) (made more : List Entry)
      → soon_codes replies ≡ codes → others ≡ [] → First moments ms arrivals behind → Contains moments a.now → left_of (pending_at info r i) ≤ length block
      → made ≡ entry_by actor (Fill r block) reply ∷ more
      → Leads actor ((then) (filled_in (waiting w max last (pending_at info r i)) a.now (pending_at info r i) (length block))
      (after_step (so_far (waiting w max last (pending_at info r i)) replies notes) a.at (onward arrivals))) more t
      → Outcome (block ∷ others) made
  committed block others i replies notes a arrivals reply made more codes_are none first moment le is leads =
      let p = pending_at info r i in
      let goes = last_block w max last replies notes a.now a.at (onward arrivals) p (length block) le in
      let on : Reply → Course Taken = λ v. taken (so_far (fed w max (Some info.signature)) (replies ++ []) (notes ++ commit_note info v)) arrivals in
      let asked = asks-made actor (Commit r a.now) on more t (leads-same actor _ _ more t goes leads) in
      let entry = entry_by actor (Fill r block) reply in
      let filled : Fills actor r (block ∷ others) (entry ∷ []) = (refl, subst (λ (x : List (List ℕ)). Fills actor r x []) (sym none) tt) in
      inr (record {
        fills = entry ∷ [];
        filled = filled;
        now = a.now;
        moment = moment;
        reply = asked.reply;
        more = asked.more;
        is = is ∙ ap (λ (x : List Entry). entry ∷ x) asked.is;
        reaches = record {
          replies = replies ++ [];
          notes = notes ++ commit_note info asked.reply;
          arrivals = arrivals;
          codes_are = codes-same replies codes codes_are;
          first = first;
          leads = asked.leads;
        };
      })

  nothing_came : (count i xid : ℕ) (rest : List ℕ) (replies : List Sent) (notes : List Note) (made : List Entry)
      → behind ≡ block_messages xid info.signature i (cut (suc count) rest) ++ ms
      → Leads actor (taken (so_far (waiting w max last (pending_at info r i)) replies notes) []) made t → Outcome (cut (suc count) rest) made
  nothing_came count i xid rest replies notes made behind_is leads =
      let none = none-taken actor (so_far (waiting w max last (pending_at info r i)) replies notes) made t leads in
      inl (record {
        front = [];
        others = cut (suc count) rest;
        all = refl;
        more = cut-some count rest;
        filled = subst (λ (x : List Entry). Fills actor r [] x) (sym none.0) tt;
        live = ap (λ (u : Taken). u.end) (sym none.1);
        last_is = ap (λ (u : Taken). u.receiving.last) (sym none.1);
        left = some-left (sent.Blkdata xid info.signature i (take LARGEST_BLOCK rest))
            (block_messages (later_call xid 1) info.signature (i + 1) (cut count (drop LARGEST_BLOCK rest)) ++ ms) behind behind_is;
      })

  pub blocks_come : (count i xid : ℕ) (rest : List ℕ) (replies : List Sent) (notes : List Note) (arrivals : List Arrival) (made : List Entry)
      → xid < 2 ^ 32 → AreLeft count i rest → soon_codes replies ≡ codes → First moments (block_messages xid info.signature i (cut count rest) ++ ms) arrivals behind
      → Leads actor (taken (so_far (waiting w max last (pending_at info r i)) replies notes) arrivals) made t
      → Outcome (cut count rest) made
  blocks_come zero i xid rest replies notes arrivals made number left codes_are first leads = absurd (omega (arith, left.some, left.enough))
  blocks_come (suc count) i xid rest replies notes [] made number left codes_are first leads = nothing_came count i xid rest replies notes made first leads
  blocks_come (suc count) i xid rest replies notes (a ∷ arrivals) made number left codes_are first leads =
      let p = pending_at info r i in
      let block = take LARGEST_BLOCK rest in
      let others = cut count (drop LARGEST_BLOCK rest) in
      let len : length block ≡ min LARGEST_BLOCK (length rest) = length-take LARGEST_BLOCK rest in
      let left_is : left_of p ≡ length rest = omega (arith, left.before) in
      let fits : Fits (sent.Blkdata xid info.signature i block) = (number, signed, omega (arith, left.before, left.some, sized), omega (arith, len)) in
      let comes = block_comes again w max last replies notes a arrivals p xid block fits first.0 (len ∙ ap (min LARGEST_BLOCK) (sym left_is)) in
      let on : Reply → Course Taken = λ reply. (then) (filled_in (waiting w max last p) a.now p (length block)) (after_step (so_far (waiting w max last p) replies notes) a.at (onward arrivals)) in
      let asked = asks-made actor (Fill r block) on made t (leads-same actor _ _ made t comes leads) in
      elim (cases_lt (length block) (left_of p)) [
        | inl lt ↦
            let goes = next_block w max last replies notes a.now a.at (onward arrivals) p (length block) lt in
            let rest_len : length (drop LARGEST_BLOCK rest) ≡ length rest - LARGEST_BLOCK = length-drop LARGEST_BLOCK rest in
            with_one block others asked.reply made asked.more asked.is
            (blocks_come count (i + 1) (later_call xid 1) (drop LARGEST_BLOCK rest) (replies ++ []) (notes ++ []) arrivals asked.more (omega arith)
            (record {
              before = omega (arith, rest_len, left.before, len, left_is, lt);
              some = omega (arith, rest_len, len, left_is, lt);
              enough = omega (arith, rest_len, left.enough, len, left_is, lt);
              no_more = omega (arith, rest_len, left.no_more, len, left_is, lt);
            })
            (codes-same replies codes codes_are) first.2 (leads-same actor _ _ asked.more t goes asked.leads))
        | inr le ↦
            let none : count ≡ 0 = omega (arith, left.no_more, len, left_is, le) in
            let no_blocks : others ≡ [] = cut-none count (drop LARGEST_BLOCK rest) none in
            committed block others i replies notes a arrivals asked.reply made asked.more codes_are no_blocks
            (subst (λ (x : List (List ℕ)). First moments (block_messages (later_call xid 1) info.signature (i + 1) x ++ ms) arrivals behind) no_blocks first.2)
            first.1 le asked.is asked.leads
      ]

module _ (again : Again) (actor : ℕ) (moments : List ℕ) (w : Wanting) (max : ℕ) (t : Taken) (given : Given) (last : Option (List ℕ)) (codes later : List Code) (next : ℕ)
    (ms behind : List Sent) (fits : Fits (announcement next given)) (wanted : is_wanted w given.product.info ≡ true) (some : 0 < given.product.info.size)
    (signed : length given.product.info.signature ≡ 16) (sized : given.product.info.size < 2 ^ 32) (long : length given.product.body ≡ given.product.info.size) where
  -- its body went in blocks
  pub blocks_turn : (others : List Handed) (ended : Type 0) → Agree (codes ++ code_of next soon.Ok ∷ later) (soon_codes t.replies)
      → ((more : List Entry) → Reaches actor moments t (fed w max (Some given.product.info.signature)) (codes ++ code_of next soon.Ok ∷ []) ms behind more
      → Passed actor moments w max t (Some given.product.info.signature) others ended behind more)
      → (made : List Entry)
      → Reaches actor moments t (fed w max last) codes
      (announcement next given ∷ (block_messages (later_call next 1) given.product.info.signature 0 (blocks given.product.body) ++ ms)) behind made
      → Passed actor moments w max t last (record { given = given; way = InBlocks } ∷ others) ended behind made
  blocks_turn others ended agree goes_on made reaches =
      let h : Handed = record { given = given; way = InBlocks } in
      let info = given.product.info in
      let body = given.product.body in
      let all_messages = block_messages (later_call next 1) info.signature 0 (blocks body) ++ ms in
      let told = codes ++ code_of next soon.Ok ∷ [] in
      elim (announces again actor moments w max t given last codes next all_messages behind fits wanted some made reaches) [
        | not_there gone ↦ stopped actor moments w max t last (h ∷ others) ended gone.replies gone.notes behind made gone.none gone.is gone.left
        | declined is heard ↦ absurd (let other : soon.Ok ≡ soon.DontSend = ap (λ (c : Code). c.answer) (heard later (code_of next soon.Ok) agree) in cc other)
        | waits is heard ↦
            elim (blocks_come again actor moments w max t info is.r last told ms behind signed sized (count_blocks (length body)) 0 (later_call next 1) body
            is.reaches.replies is.reaches.notes is.reaches.arrivals is.more (omega arith)
            (record { before = omega (arith, long); some = omega (arith, long, some); enough = omega arith; no_more = omega (arith, long, some) })
            is.reaches.codes_are is.reaches.first is.reaches.leads) [
              | inl part ↦
                  begun actor moments w max t last h others ended behind made
                  (inr (record { r = is.r; evicted = is.evicted; front = part.front; behind = part.others; all = part.all; more = part.more; fills = is.more; filled = part.filled; is = is.is }))
                  part.live part.last_is (λ none end. part.left none)
              | inr filled ↦
                  let reserve = entry_by actor (Reserve info) (Reserved is.r is.evicted) in
                  let commit = entry_by actor (Commit is.r filled.now) filled.reply in
                  prepend actor moments w max t last h others ended behind made (reserve ∷ (filled.fills ++ commit ∷ [])) filled.more
                  (record { r = is.r; evicted = is.evicted; fills = filled.fills; filled = filled.filled; now = filled.now; reply = filled.reply; moment = filled.moment; is = refl })
                  (is.is ∙ ap (λ (x : List Entry). reserve ∷ x) (filled.is ∙ sym (append_assoc filled.fills (commit ∷ []) filled.more)))
                  (goes_on filled.more filled.reaches)
            ]
      ]
