-- Lines that are read one after another and dealt out to their actors.
use Rattle.std.proofs.Common.{◌≡◌, ◌≢◌, ℕ, ◌+◌, ◌<◌, ◌==◌, Bool, cond, List, [], ◌∷◌, ◌++◌, length, map, filter, set, get_or, Option, Some, None, Result, Ok, Err, IsOk, refl, sym, ap, subst, ◌∙◌, inl, inr, arith, append_assoc, append-nil, eq-eqb, ne_eqb}
use Rattle.std.specs.List.{All, range_with_len}
use Rattle.std.proofs.lemmas.Bool.{cases_lt, false≢true}
use Rattle.std.proofs.lemmas.List.{map-append, map-set, map_push, length-map, length-set, length_push, get_or-map, get_or_append_left, get_or_push, get_or-set_same, get_or-set_other}
use Rattle.std.proofs.lemmas.List.Elements.{filter-append}
use Rattle.std.proofs.lemmas.List.FromFn.{length-map-range_with_len, get_or-map-range_with_len, map-range_with_len_more, fill_by_all}
use mathlib.Core.Logic.{dite}
use native.Mathlib.Decide.{ℕ_discrete}
use Rattle.ldm_script.specs.Lines.{Cut, last_line, lines_of}
use Rattle.ldm_script.specs.Order.{Order, Asked}
use Rattle.ldm_script.specs.Grammar.{read_line}
use Rattle.ldm_script.proofs.SplitLemmas.{Lacks}
use Rattle.ldm_script.proofs.CutLemmas.{cut-line, cut-plain}
use Rattle.ldm_crowd.specs.declared.orders.OrdersFault.{OrdersFault}
use Rattle.ldm_crowd.specs.declared.orders.OrdersFault.TheVariants as fault
use Rattle.ldm_crowd.specs.Script.{with_line, orders_from, asked_by, by_actor, dealt, script_of}
use Rattle.ldm_crowd.specs.OrdersView.{ActorLinesView, AreDealt, IsFaultOf, IsFaultOfLine, asked_in, asked_lines, asked_of_reading, orders_in, orders_of_reading, script_in}

-- the lines of a text that begins with a whole line
pub lines_of-line : (line behind : List ℕ) → Lacks 10 line → lines_of (line ++ 10 ∷ behind) ≡ line ∷ lines_of behind
lines_of-line line behind lacks = ap (λ (c : Cut). c.lines ++ last_line c.unfinished) (cut-line [] line behind lacks)

-- the lines of a text without a newline
pub lines_of-plain : (text : List ℕ) → Lacks 10 text → lines_of text ≡ last_line text
lines_of-plain text lacks = ap (λ (c : Cut). c.lines ++ last_line c.unfinished) (cut-plain text lacks)

-- orders that were read, in front of what is read behind them
abbrev pub in_front : List Order → Result (List Order) OrdersFault → Result (List Order) OrdersFault
in_front done (Ok orders) = Ok (done ++ orders)
in_front done (Err f) = Err f

pub in_front-nil : (r : Result (List Order) OrdersFault) → in_front [] r ≡ r
in_front-nil (Ok orders) = refl
in_front-nil (Err f) = refl

in_front-append : (done more : List Order) (r : Result (List Order) OrdersFault) → in_front done (in_front more r) ≡ in_front (done ++ more) r
in_front-append done more (Ok orders) = ap (λ (os : List Order). Ok os) (sym (append_assoc done more orders))
in_front-append done more (Err f) = refl

with_line-read : (number : ℕ) (r : Result (Option Order) ℕ) (behind : Result (List Order) OrdersFault) → IsOk r → with_line number r behind ≡ in_front (orders_of_reading r) behind
with_line-read number (Ok None) behind ok = sym (in_front-nil behind)
with_line-read number (Ok (Some order)) (Ok orders) ok = refl
with_line-read number (Ok (Some order)) (Err f) ok = refl
with_line-read number (Err column) behind ok = absurd (false≢true ok)

-- what is read so far, and what is left
abbrev pub IsReadTo : ℕ → List ℕ → List Order → ℕ → List ℕ → Type 0
IsReadTo actors text done number rest = orders_from actors 1 (lines_of text) ≡ in_front done (orders_from actors number (lines_of rest))

module _ (actors : ℕ) (text : List ℕ) (done : List Order) (number : ℕ) (rest : List ℕ) (so_far : IsReadTo actors text done number rest) where
  -- the next line is the first of these
  module _ (line : List ℕ) (lines : List (List ℕ)) (is : lines_of rest ≡ line ∷ lines) where
    next : orders_from actors 1 (lines_of text) ≡ in_front done (with_line number (read_line actors line) (orders_from actors (number + 1) lines))
    next = so_far ∙ ap (λ (ls : List (List ℕ)). in_front done (orders_from actors number ls)) is

    pub read_on : IsOk (read_line actors line) → orders_from actors 1 (lines_of text) ≡ in_front (done ++ orders_in actors line) (orders_from actors (number + 1) lines)
    read_on ok =
        next ∙ ap (in_front done) (with_line-read number (read_line actors line) (orders_from actors (number + 1) lines) ok)
        ∙ in_front-append done (orders_in actors line) (orders_from actors (number + 1) lines)

    bad_line : (at column : ℕ) → at ≡ number → read_line actors line ≡ Err column → script_of actors text ≡ Err (fault.BadLine at column)
    bad_line at column here bad =
        ap (dealt actors) (next ∙ ap (λ (r : Result (Option Order) ℕ). in_front done (with_line number r (orders_from actors (number + 1) lines))) bad)
        ∙ ap (λ (n : ℕ). Err (fault.BadLine n column)) (sym here)

    -- a fault of the next line is one of the text
    pub fault_on : (f : OrdersFault) → IsFaultOfLine actors number line f → IsFaultOf actors text f
    fault_on (fault.BadLine at column) bad = bad_line at column bad.0 bad.1
    fault_on fault.OutOfMemory bad = tt

-- a text that was read to its end
pub read_whole : (actors : ℕ) (text : List ℕ) (done : List Order) (number : ℕ) → orders_from actors 1 (lines_of text) ≡ in_front done (orders_from actors number []) → orders_from actors 1 (lines_of text) ≡ Ok done
read_whole actors text done number so_far = so_far ∙ ap (λ (os : List Order). Ok os) (append-nil done)

pub last_line-some : (text : List ℕ) → 0 < length text → last_line text ≡ text ∷ []
last_line-some [] some = absurd (omega arith)
last_line-some (byte ∷ bytes) some = refl

pub last_line-none : (text : List ℕ) → length text ≡ 0 → last_line text ≡ []
last_line-none [] none = refl
last_line-none (byte ∷ bytes) none = absurd (omega arith)

asked-more : (actor : ℕ) (done : List Order) (order : Order) → asked_by actor (done ++ order ∷ []) ≡ asked_by actor done ++ map (λ (o : Order). o.asked) (cond (order.actor == actor) (order ∷ []) [])
asked-more actor done order =
    ap (λ (os : List Order). map (λ (o : Order). o.asked) os) (filter-append (λ (o : Order). o.actor == actor) done (order ∷ []))
    ∙ map-append (λ (o : Order). o.asked) (filter (λ (o : Order). o.actor == actor) done) (cond (order.actor == actor) (order ∷ []) [])

asked-own : (actor : ℕ) (done : List Order) (order : Order) → order.actor ≡ actor → asked_by actor (done ++ order ∷ []) ≡ asked_by actor done ++ order.asked ∷ []
asked-own actor done order is =
    asked-more actor done order ∙ ap (λ (b : Bool). asked_by actor done ++ map (λ (o : Order). o.asked) (cond b (order ∷ []) [])) (eq-eqb order.actor actor is)

asked-other : (actor : ℕ) (done : List Order) (order : Order) → order.actor ≢ actor → asked_by actor (done ++ order ∷ []) ≡ asked_by actor done
asked-other actor done order other =
    asked-more actor done order ∙ ap (λ (b : Bool). asked_by actor done ++ map (λ (o : Order). o.asked) (cond b (order ∷ []) [])) (ne_eqb order.actor actor other) ∙ append-nil (asked_by actor done)

-- an order that is appended to those of its actor
by_actor-more : (actors : ℕ) (done : List Order) (order : Order) → order.actor < actors
    → set (by_actor actors done) order.actor (asked_by order.actor done ++ order.asked ∷ []) ≡ by_actor actors (done ++ order ∷ [])
by_actor-more actors done order less =
    let old = by_actor actors done in
    let mine = asked_by order.actor done ++ order.asked ∷ [] in
    let size = length-map-range_with_len (λ a. asked_by a done) 0 actors in
    fill_by_all (λ a. asked_by a (done ++ order ∷ [])) (set old order.actor mine) actors [] (length-set old order.actor mine ∙ size)
    (λ k below. dite (ℕ_discrete order.actor k)
    (λ same.
    ap (λ (i : ℕ). get_or (set old order.actor mine) i []) (sym same) ∙ get_or-set_same old order.actor mine [] (omega (arith, size))
    ∙ sym (asked-own order.actor done order refl) ∙ ap (λ (a : ℕ). asked_by a (done ++ order ∷ [])) same)
    (λ other.
    get_or-set_other old order.actor k mine [] (λ e. other (sym e)) ∙ get_or-map-range_with_len (λ a. asked_by a done) 0 actors k k [] below (omega arith)
    ∙ sym (asked-other k done order other)))

pub length-dealt : (actors : ℕ) (done : List Order) (parts : List ActorLinesView) → AreDealt actors done parts → length parts ≡ actors
length-dealt actors done parts dealt = sym (length-map parts asked_lines) ∙ ap length dealt.script ∙ length-map-range_with_len (λ a. asked_by a done) 0 actors

-- a line that is appended to those of its actor
pub dealt-more : (actors : ℕ) (done : List Order) (parts : List ActorLinesView) (line : List ℕ) (order : Order) (d part : ActorLinesView) → AreDealt actors done parts
    → read_line actors line ≡ Ok (Some order) → order.actor < actors → part ≡ record (get_or parts order.actor d) { lines = (get_or parts order.actor d).lines ++ line ∷ [] }
    → AreDealt actors (done ++ orders_in actors line) (set parts order.actor part)
dealt-more actors done parts line order d part dealt is less part_is =
    let old = get_or parts order.actor d in
    let size = length-dealt actors done parts dealt in
    let same : old.actors ≡ actors = dealt.same order.actor d (omega (arith, size)) in
    let asked : asked_in actors line ≡ order.asked = ap asked_of_reading is in
    let before : asked_lines old ≡ asked_by order.actor done =
    sym (get_or-map asked_lines parts order.actor d [] (omega (arith, size))) ∙ ap (λ (s : List (List Asked)). get_or s order.actor []) dealt.script
    ∙ get_or-map-range_with_len (λ a. asked_by a done) 0 actors order.actor order.actor [] less (omega arith) in
    let now : asked_lines part ≡ asked_by order.actor done ++ order.asked ∷ [] =
    ap asked_lines part_is ∙ map_push (λ l. asked_in old.actors l) old.lines line ∙ ap (λ (a : ℕ). asked_lines old ++ asked_in a line ∷ []) same
    ∙ ap (λ (a : Asked). asked_lines old ++ a ∷ []) asked ∙ ap (λ (before : List Asked). before ++ order.asked ∷ []) before in
    record {
      same = λ k e below.
          dite (ℕ_discrete order.actor k)
          (λ here.
          ap (λ (i : ℕ). (get_or (set parts order.actor part) i e).actors) (sym here)
          ∙ ap (λ (p : ActorLinesView). p.actors) (get_or-set_same parts order.actor part e (omega (arith, size)) ∙ part_is) ∙ same)
          (λ other. ap (λ (p : ActorLinesView). p.actors) (get_or-set_other parts order.actor k part e (λ x. other (sym x))) ∙ dealt.same k e (omega (arith, length-set parts order.actor part)));
      script =
          map-set asked_lines parts order.actor part ∙ ap (λ (s : List (List Asked)). set s order.actor (asked_lines part)) dealt.script
          ∙ ap (set (by_actor actors done) order.actor) now ∙ by_actor-more actors done order less
          ∙ ap (λ (r : Result (Option Order) ℕ). by_actor actors (done ++ orders_of_reading r)) (sym is);
    }

-- a line that asks for nothing
pub dealt-same : (actors : ℕ) (done : List Order) (parts : List ActorLinesView) (line : List ℕ) → AreDealt actors done parts → read_line actors line ≡ Ok None → AreDealt actors (done ++ orders_in actors line) parts
dealt-same actors done parts line dealt is =
    subst (λ (os : List Order). AreDealt actors os parts) (sym (ap (λ (r : Result (Option Order) ℕ). done ++ orders_of_reading r) is ∙ append-nil done)) dealt

-- no lines yet, for some actors
pub record AreUnread (actors : ℕ) (parts : List ActorLinesView) : Type 0 where
  pub same : All (λ (part : ActorLinesView). part.actors ≡ actors) parts
  pub empty : script_in parts ≡ map (λ (_ : ℕ). []) (range_with_len 0 (length parts))

pub unread-none : (actors : ℕ) → AreUnread actors []
unread-none actors = record { same = λ k d less. absurd (omega arith); empty = refl }

pub unread-more : (actors : ℕ) (parts : List ActorLinesView) → AreUnread actors parts → AreUnread actors (parts ++ record { actors = actors; lines = [] } ∷ [])
unread-more actors parts unread =
    let new : ActorLinesView = record { actors = actors; lines = [] } in
    record {
      same = λ k d less.
          elim (cases_lt k (length parts)) [
            | inl below ↦ ap (λ (p : ActorLinesView). p.actors) (get_or_append_left parts (new ∷ []) d k below) ∙ unread.same k d below
            | inr above ↦ ap (λ (p : ActorLinesView). p.actors) (get_or_push parts new d k (omega (arith, length_push parts new)))
          ];
      empty =
          map_push asked_lines parts new ∙ ap (λ (s : List (List Asked)). s ++ [] ∷ []) unread.empty
          ∙ sym (map-range_with_len_more (λ (_ : ℕ). []) 0 (length parts) (length parts) (omega arith))
          ∙ ap (λ (n : ℕ). map (λ (_ : ℕ). []) (range_with_len 0 n)) (sym (length_push parts new));
    }

pub dealt-none : (actors : ℕ) (parts : List ActorLinesView) → AreUnread actors parts → length parts ≡ actors → AreDealt actors [] parts
dealt-none actors parts unread size = record { same = unread.same; script = unread.empty ∙ ap (λ (n : ℕ). map (λ (_ : ℕ). []) (range_with_len 0 n)) size }
