-- A body that is read from the queue part by part, and gathered.
use Rattle.std.proofs.Common.{◌≡◌, ◌∙◌, ℕ, ◌+◌, ◌≤◌, List, [], ◌∷◌, ◌++◌, length, drop, Some, refl, sym, ap, subst}
use Rattle.std.proofs.Common.{append_assoc}
use Rattle.ldm_model.specs.declared.event.Entry.{Entry}
use Rattle.ldm_model.specs.declared.event.Event.TheVariants.{Read}
use Rattle.ldm_model.specs.declared.event.Reply.TheVariants.{Bytes}
use Rattle.ldm_outside.proofs.CallerLemmas.{Rose-later}
use Rattle.ldm_outside.specs.Clock.{ClockRecord}
use Rattle.ldm_outside.specs.Link.{LinkRecord, IsNotClosed}
use Rattle.ldm_shared.specs.Passes.{PassView, Makes, Calls, Grows}
use Rattle.ldm_shared.proofs.Made.{calls_none, calls_some}
use Rattle.ldm_shared.specs.Reader.{HasCursor}
use Rattle.ldm_session.specs.Gathering as gathering
use Rattle.ldm_session.proofs.CallerLemmas.{AnsweredAll-nothing}
use Rattle.ldm_sender.specs.declared.end.SendEnd.{SendEnd}
use Rattle.ldm_sender.specs.declared.end.SendEnd.TheVariants as end
use Rattle.ldm_upstream.specs.Blocks.{blocks, reads}
use Rattle.ldm_upstream.specs.Turn.{Given}
use Rattle.ldm_sender.specs.Deeds.{Deed, no_deed}
use Rattle.ldm_upstream.specs.ProductDeeds.{part_of, read_entry, reading_all}
use Rattle.ldm_sender.specs.Does.{SendingMoment, moment_of}
use Rattle.ldm_upstream.specs.Giving.{HoldsGiven, BreaksOff, GoesOn, AppendsPart, FailsToRead}
use Rattle.ldm_upstream.proofs.Blocks.{IsBlockAt, reads_from, rest_of_body, nothing_left, no_blocks}
use Rattle.ldm_sender.proofs.Doing.{Toward, toward_then, toward_same, all_done, breaks_then, nothing_done, some_sent}
use Rattle.ldm_sender.proofs.Doing.{send_failed, keeps_link, exchanged_nothing}

-- ---- a part that is read behind what is gathered

-- the call that read it
pub part_read : (old new : PassView) (k offset len : ℕ) (part : List ℕ) → length part ≡ len
    → Grows old new (Read k offset len) (Bytes part)
    → Makes old new (read_entry old.actor k offset part ∷ [])
part_read old new k offset len part size grows =
    let reads : ℕ → Entry = λ n. record { actor = old.actor; event = Read k offset n; reply = Bytes part } in
    subst (λ (n : ℕ). Makes old new (reads n ∷ [])) (sym size) grows.makes

-- ---- what is left of a body

-- a body is read from a place on
abbrev pub reading_from : ℕ → ℕ → List ℕ → ℕ → Deed
reading_from actor k body at =
    record { entries = reads actor k at (blocks (drop at body)); bytes = drop at body; instants = [] }

pub nothing_to_read : (actor k : ℕ) (body : List ℕ) (at : ℕ) → length body ≤ at → reading_from actor k body at ≡ no_deed
nothing_to_read actor k body at behind =
    ap (λ (bs : List (List ℕ)). record { entries = reads actor k at bs; bytes = drop at body; instants = [] })
    (no_blocks body at behind)
    ∙ ap (λ (x : List ℕ). record { entries = []; bytes = x; instants = [] }) (nothing_left body at behind)

-- a part was read and gathered: what is left comes behind it
pub part_gathered : (old new : PassView) (link : LinkRecord) (clock : ClockRecord) (out out' : List ℕ) (actor k : ℕ)
    (given : Given) (at len : ℕ)
    → IsNotClosed link → old.actor ≡ actor → IsBlockAt given.product.body at len
    → AppendsPart k given at (part_of at len given.product.body) old new out out'
    → Toward [] (moment_of old link clock out) (moment_of new link clock out')
    (reading_from actor k given.product.body (at + len)) (reading_from actor k given.product.body at)
part_gathered old new link clock out out' actor k given at len unclosed by is appends =
    let body = given.product.body in
    let part = part_of at len body in
    record {
      made = read_entry actor k at part ∷ [];
      calls = subst (λ a. Calls old new (read_entry a k at part ∷ [])) by (calls_some old new _ appends.makes);
      entries = sym (reads_from actor k body at len is);
      sent = [];
      exchanged = exchanged_nothing link;
      bytes =
          ap (λ (x : List ℕ). x ++ drop (at + len) body) appends.appended ∙ append_assoc out part (drop (at + len) body)
          ∙ ap (λ (x : List ℕ). out ++ x) (rest_of_body body at len);
      asked = [];
      answered = AnsweredAll-nothing clock;
      instants = refl;
      link = keeps_link link unclosed;
    }

-- ---- where the reading breaks off

-- no call could be made, or memory is missing
pub reading_fails : (why : SendEnd) (old : SendingMoment) (mid_pass new_pass : PassView) (link : LinkRecord)
    (clock : ClockRecord) (mid_out new_out : List ℕ) (k : ℕ) (given : Given) (left all : Deed) → IsNotClosed link
    → HoldsGiven mid_pass k given → FailsToRead why mid_pass new_pass
    → Toward [] old (moment_of mid_pass link clock mid_out) left all
    → BreaksOff why k old (moment_of new_pass link clock new_out) all
reading_fails end.Worn old mid_pass new_pass link clock mid_out new_out k given left all unclosed holds fails toward =
    let mid = moment_of mid_pass link clock mid_out in
    let new = moment_of new_pass link clock new_out in
    record {
      breaks =
          breaks_then [] [] old mid new left all toward
          (nothing_done mid new left unclosed (calls_some mid_pass new_pass [] fails.0) refl refl);
      cause = fails.1;
      cursor = tt;
    }
reading_fails end.OutOfMemory old mid_pass new_pass link clock mid_out new_out k given left all unclosed holds fails
    toward =
    let mid = moment_of mid_pass link clock mid_out in
    let new = moment_of new_pass link clock new_out in
    record {
      breaks =
          breaks_then [] [] old mid new left all toward
          (nothing_done mid new left unclosed (subst (λ (p : PassView). Calls mid_pass p []) (sym fails)
          (calls_none mid_pass)) refl refl);
      cause = tt;
      cursor = (Some given.n, subst (λ (p : PassView). HasCursor p k (Some given.n)) (sym fails) holds.cursor);
    }
reading_fails end.Stopped old mid_pass new_pass link clock mid_out new_out k given left all unclosed holds fails
    toward = absurd fails
reading_fails end.Reclassed old mid_pass new_pass link clock mid_out new_out k given left all unclosed holds fails
    toward = absurd fails
reading_fails (end.Denied rule) old mid_pass new_pass link clock mid_out new_out k given left all unclosed holds fails
    toward = absurd fails
reading_fails (end.PeerEnd at) old mid_pass new_pass link clock mid_out new_out k given left all unclosed holds fails
    toward = absurd fails
reading_fails end.LinkFault old mid_pass new_pass link clock mid_out new_out k given left all unclosed holds fails
    toward = absurd fails
reading_fails end.LogFault old mid_pass new_pass link clock mid_out new_out k given left all unclosed holds fails
    toward = absurd fails
reading_fails (end.BadReply at) old mid_pass new_pass link clock mid_out new_out k given left all unclosed holds fails
    toward = absurd fails
reading_fails end.AllBusy old mid_pass new_pass link clock mid_out new_out k given left all unclosed holds fails
    toward = absurd fails

-- the link failed
pub sending_fails : (old : SendingMoment) (pass : PassView) (link new_link : LinkRecord) (clock : ClockRecord)
    (out new_out : List ℕ) (k : ℕ) (given : Given) (left all : Deed)
    → IsNotClosed link → link.faults ≤ new_link.faults → HoldsGiven pass k given → gathering.Breaks out link new_link
    → Toward [] old (moment_of pass link clock out) left all
    → BreaksOff end.LinkFault k old (moment_of pass new_link clock new_out) all
sending_fails old pass link new_link clock out new_out k given left all unclosed faults holds failed toward = record {
  breaks =
      breaks_then [] [] old (moment_of pass link clock out) (moment_of pass new_link clock new_out) left all toward
      (send_failed pass clock out new_out link new_link left unclosed faults failed);
  cause = Rose-later old.link.faults link.faults new_link.faults toward.link.faults failed.failing.0;
  cursor = (Some given.n, holds.cursor);
}

-- the link took some of what was gathered
pub sends_on : (old : SendingMoment) (pass : PassView) (link new_link : LinkRecord) (clock : ClockRecord)
    (out new_out : List ℕ) (left all : Deed)
    → IsNotClosed link → gathering.MovesOn out link new_out new_link
    → Toward [] old (moment_of pass link clock out) left all
    → Toward [] old (moment_of pass new_link clock new_out) left all
sends_on old pass link new_link clock out new_out left all unclosed moves toward =
    toward_then [] [] old (moment_of pass link clock out) (moment_of pass new_link clock new_out) left left all toward
    (some_sent pass clock out new_out link new_link left unclosed moves)

-- a part was read and gathered, and the link took some of what was gathered
pub part_goes_on : (first : SendingMoment) (old new : PassView) (link new_link : LinkRecord) (clock : ClockRecord)
    (out out' new_out : List ℕ) (actor k : ℕ) (given : Given) (at len : ℕ) (all : Deed)
    → IsNotClosed link → old.actor ≡ actor → IsBlockAt given.product.body at len
    → AppendsPart k given at (part_of at len given.product.body) old new out out'
    → gathering.MovesOn out' link new_out new_link
    → Toward [] first (moment_of old link clock out) (reading_from actor k given.product.body at) all
    → Toward [] first (moment_of new new_link clock new_out) (reading_from actor k given.product.body (at + len)) all
part_goes_on first old new link new_link clock out out' new_out actor k given at len all unclosed by is appends moves
    toward =
    let body = given.product.body in
    sends_on first new link new_link clock out' new_out (reading_from actor k body (at + len)) all unclosed moves
    (toward_then [] [] first (moment_of old link clock out) (moment_of new link clock out')
    (reading_from actor k body (at + len)) (reading_from actor k body at) all toward
    (part_gathered old new link clock out out' actor k given at len unclosed by is appends))

-- the whole body was read
pub body_read : (first new : SendingMoment) (actor k : ℕ) (given : Given) (at : ℕ) → length given.product.body ≤ at
    → HoldsGiven new.pass k given
    → Toward [] first new (reading_from actor k given.product.body at) (reading_all actor k given.product.body)
    → GoesOn k given first new (reading_all actor k given.product.body)
body_read first new actor k given at behind holds toward =
    let body = given.product.body in
    record {
      does =
          all_done [] first new (reading_all actor k body)
          (toward_same [] first new (reading_from actor k body at) no_deed (reading_all actor k body)
          (nothing_to_read actor k body at behind) toward);
      holds = holds;
    }
