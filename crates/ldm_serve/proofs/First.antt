-- The first record in some bytes.
use Rattle.std.proofs.Common.{◌≡◌, ◌∙◌, ℕ, ◌+◌, ◌<◌, ◌≤◌, length, Bool, true, false, List, Option, Some, None, Result, Ok, Err, refl, sym, ap, subst}
use Rattle.std.specs.Prelude.{IfOk, is_some, if◌then◌else◌}
use Rattle.ldm_rpc.specs.declared.fault.RpcFault.{RpcFault}
use Rattle.ldm_rpc.specs.declared.stage.Stage.TheVariants.{Faulty}
use Rattle.ldm_rpc.specs.Reading.{Reading, after, begun, bytes_taken, is_faulty, is_faulty_at, is_whole, is_whole_at, next_of, whole_of}
use Rattle.ldm_rpc.specs.Streams.{Placed, Position, forgets, given}
use Rattle.ldm_rpc.specs.declared.front_records.Front.{Front}
use Rattle.ldm_serve.specs.declared.responded.Responded.{Responded}
use Rattle.ldm_serve.specs.declared.responded.Responded.TheVariants as responded
use Rattle.ldm_serve.specs.declared.responded.RespondFault.{RespondFault}
use Rattle.ldm_serve.specs.declared.responded.RespondFault.TheVariants as fault
use Rattle.ldm_rpc.specs.Keeping.{IsFrontIn}
use Rattle.ldm_serve.specs.declared.serving.Answered.{Answered}
use Rattle.ldm_serve.specs.declared.serving.Answered.TheVariants as answered
use Rattle.ldm_serve.specs.Client.{Client}
use Rattle.ldm_serve.specs.Contents.{Finds, FindsEnd, found, stop_of}
use Rattle.ldm_serve.specs.Responds.{Standing}
use Rattle.ldm_serve.specs.Turns.{AnswersAll, Reads, RunsOutAt, TurnsOver, Turns, behind, first_of, turned}

found-of : (begins : ℕ) (r : Reading) (b : Bool) → is_whole r ≡ b → found begins (whole_of r) ≡ given begins r
found-of begins r true whole = rw whole refl
found-of begins r false not = rw not refl

pub found-first : (p : Position) (bytes : List ℕ) → found p.begins (whole_of (after p.reading bytes)) ≡ first_of p bytes
found-first p bytes = found-of p.begins (after p.reading bytes) (is_whole (after p.reading bytes)) refl

-- bytes that begin a record that is too long
pub too_long-behind : (p : Position) (bytes : List ℕ) (fault : RpcFault) → (after p.reading bytes).stage ≡ Faulty fault → is_faulty (behind p bytes).reading ≡ true
too_long-behind p bytes fault faulty =
    let r = after p.reading bytes in
    let not : is_whole r ≡ false = ap is_whole_at faulty in
    let is : is_faulty r ≡ true = ap is_faulty_at faulty in
    rw not is

-- `next` leaves no complete record
next-ready_of : (r : Reading) (b : Bool) → is_whole r ≡ b → is_whole (next_of r) ≡ false
next-ready_of r true whole = rw whole refl
next-ready_of r false not = rw not not

pub next-ready : (r : Reading) → is_whole (next_of r) ≡ false
next-ready r = next-ready_of r (is_whole r) refl

next-sound_of : (r : Reading) (b : Bool) → is_whole r ≡ b → is_faulty r ≡ false → is_faulty (next_of r) ≡ false
next-sound_of r true whole sound = rw whole refl
next-sound_of r false not sound = rw not sound

pub next-sound : (r : Reading) → is_faulty r ≡ false → is_faulty (next_of r) ≡ false
next-sound r sound = next-sound_of r (is_whole r) refl sound

-- ---- what answering it came to

module _ (client : Client) (next : Responded) (p : Position) (bytes : List ℕ) (n : ℕ) (q : Position) (reads : Reads p bytes n q) (old new : Standing)
    (content : Option (List ℕ)) (is : whole_of (after p.reading bytes) ≡ content) where
  first-is : found p.begins content ≡ first_of p bytes
  first-is = ap (found p.begins) (sym is) ∙ found-first p bytes

  first-over : (place : ℕ) (whole : Option (List ℕ)) → content ≡ whole → FindsEnd client next place p.begins whole old new
      → TurnsOver client next place p bytes n q old new
  first-over place None same finds = absurd finds
  first-over place (Some whole) same finds =
      let placed : Placed = record { at = p.begins; content = whole } in
      record {
        reads = reads;
        placed = placed;
        first = sym first-is ∙ ap (found p.begins) same;
        at_is = finds.1;
        ends = finds.0;
      }

  pub first-found : (stop : Answered) → Finds stop next client p.begins content old new → Turns (turned n stop) next client p bytes q old new
  first-found answered.On finds = record { reads = reads; answers = subst (λ (xs : List Placed). AnswersAll client xs old new) first-is finds }
  first-found (answered.Over place) finds = (n, first-over place content refl finds)
  first-found (answered.TooLong place) finds = absurd finds
  first-found answered.Worn finds = subst (λ (xs : List Placed). RunsOutAt client xs old new) first-is finds
  first-found answered.OutOfMemory finds = finds

-- ---- a record that lies whole in the bytes

pub record LiesIn (p : Position) (bytes content : List ℕ) (n : ℕ) : Type 0 where
  pub whole : whole_of (after p.reading bytes) ≡ Some content
  pub count : n ≡ bytes_taken p.reading bytes
  pub most : n ≤ length bytes
  pub some : 0 < n
  pub stays : next_of (after p.reading bytes) ≡ p.reading

no_content : (content : List ℕ) → None ≡ Some content → ⊥
no_content content e = cc

has_content : (r : Reading) (b : Bool) (content : List ℕ) → is_whole r ≡ b → whole_of r ≡ Some content → is_whole r ≡ true
has_content r true content whole is = whole
has_content r false content not is =
    let none : whole_of r ≡ None = rw not refl in
    absurd (no_content content (sym none ∙ is))

-- where a reader stands behind it
abbrev pub passed-in_place : Position → ℕ → Position
passed-in_place p n = record { reading = p.reading; begins = p.came + n; came = p.came + n }

pub reads-in_place : (p : Position) (bytes content : List ℕ) (n : ℕ) → LiesIn p bytes content n → Reads p bytes n (passed-in_place p n)
reads-in_place p bytes content n lies =
    let r = after p.reading bytes in
    let whole : is_whole r ≡ true = has_content r (is_whole r) content refl lies.whole in
    let next : next_of r ≡ begun r.limit = rw whole refl in
    let begins : p.reading ≡ begun r.limit = sym lies.stays ∙ next in
    record {
      count = lies.count;
      some = lies.some;
      most = lies.most;
      hand_is = ap (λ (s : Reading). record { reading = s; begins = p.came + n; came = p.came + n }) begins ∙ rw (whole, lies.count) refl;
      sound = ap is_faulty begins;
    }

-- where it stands behind a record that was pushed, or behind all of the bytes
pub reads-pushed : (p : Position) (bytes : List ℕ) (n : ℕ) (r : Reading) (q : Position) → r ≡ after p.reading bytes → is_faulty r ≡ false → n ≡ bytes_taken p.reading bytes
    → n ≤ length bytes → 0 < n → q ≡ forgets p.begins (p.came + n) r → Reads p bytes n q
reads-pushed p bytes n r q after_is sound count most some hand = record {
  count = count;
  some = some;
  most = most;
  hand_is = hand ∙ ap (λ (k : ℕ). forgets p.begins (p.came + k) r) count
      ∙ ap (λ (s : Reading). forgets p.begins (p.came + bytes_taken p.reading bytes) s) after_is;
  sound = ap (λ (v : Position). is_faulty v.reading) hand ∙ next-sound r sound;
}

whole_some : (r : Reading) → is_whole r ≡ true → whole_of r ≡ Some r.content
whole_some r whole = rw whole refl

whole_none : (r : Reading) → is_whole r ≡ false → whole_of r ≡ None
whole_none r not = rw not refl

some-whole : (held : Option Front) (r : Reading) (b : Bool) → is_whole r ≡ b → IsFrontIn held (whole_of r) → is_some held ≡ is_whole r
some-whole None r true whole of = absurd (subst (λ (o : Option (List ℕ)). IsFrontIn None o) (whole_some r whole) of)
some-whole None r false not of = sym not
some-whole (Some held) r true whole of = sym whole
some-whole (Some held) r false not of = absurd (subst (λ (o : Option (List ℕ)). IsFrontIn (Some held) o) (whole_none r not) of)

-- a reader that was pushed, forgets a complete record, and then stands there
pub hand-pushed : (p : Position) (n : ℕ) (r : Reading) (held : Option Front) (is_held : Bool) (s : Reading) (begins : ℕ) → IsFrontIn held (whole_of r)
    → is_held ≡ is_some held → s ≡ next_of r → begins ≡ (if is_held then p.came + n else p.begins)
    → record { reading = s; begins = begins; came = p.came + n } ≡ forgets p.begins (p.came + n) r
hand-pushed p n r held is_held s begins of held_is next begins_is =
    let whole : is_held ≡ is_whole r = held_is ∙ some-whole held r (is_whole r) refl of in
    ap (λ (t : Reading). record { reading = t; begins = begins; came = p.came + n }) next
    ∙ ap (λ (b : ℕ). record { reading = next_of r; begins = b; came = p.came + n }) (begins_is ∙ ap (λ (w : Bool). if w then p.came + n else p.begins) whole)

-- the next record is read, where that record does not end the session
pub going-turned : (n : ℕ) (done : Result (Unit {0}) RespondFault) (next : Responded) (at : ℕ) → IfOk (turned n (stop_of done next at)) (λ _. next ≡ responded.GoesOn)
going-turned n (Err fault.Worn) next at = tt
going-turned n (Err fault.OutOfMemory) next at = tt
going-turned n (Ok done) responded.GoesOn at = refl
going-turned n (Ok done) (responded.Feeds ask) at = tt
going-turned n (Ok done) (responded.Receives class) at = tt
going-turned n (Ok done) (responded.Notifies ask) at = tt
going-turned n (Ok done) responded.Refused at = tt
going-turned n (Ok done) (responded.Denied rule) at = tt
