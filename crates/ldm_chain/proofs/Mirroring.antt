-- What a mirror keeps, from its beginning and over its calls.
use Rattle.std.proofs.Common.{◌≡◌, ◌≤◌, ◌<◌, ℕ, ◌+◌, Bool, true, false, List, [], ◌∷◌, ◌++◌, length, take, drop, Option, Some, None, inl, inr, refl, ap, sym, subst, ◌∙◌, append_assoc, arith}
use Rattle.std.specs.Prelude.{is_some, nat_le}
use Rattle.std.proofs.lemmas.Bool.{cases_lt, le-leb}
use Rattle.std.proofs.lemmas.List.{append-nil, take-append-drop, drop-drop, drop-append-le, length-append}
use Rattle.std.proofs.lemmas.List.Concat.{flat_map-append}
use Rattle.ldm_rpc.specs.Streams.{Position}
use Rattle.ldm_outside.specs.declared.link.Passed.{Passed}
use Rattle.ldm_outside.specs.declared.link.Way.TheVariants as way
use Rattle.ldm_outside.specs.Link.{bytes_sent, bytes_given, passed_all, passed_piece, then_all, then_piece}
use Rattle.ldm_outside.proofs.LinkLemmas.{bytes_given-append, bytes_given-more, bytes_sent-append, bytes_sent-more, given-none, sent-piece}
use Rattle.ldm_shared.specs.Passes.{SharedView, PassView, IsPassOf, IsSamePass}
use Rattle.ldm_intake.specs.declared.end.RecvEnd.{RecvEnd}
use Rattle.ldm_intake.specs.Opening.{request_of}
use Rattle.ldm_intake.specs.Receiving.{Receiving}
use Rattle.ldm_relay.specs.Spelling.{records_of}
use Rattle.ldm_intake.specs.TakesRecord.{Standing, stands}
use Rattle.ldm_session.specs.declared.limits.TheConstants.{LONGEST_STREAM}
use Rattle.ldm_downstream.specs.Pieces.{Piece, beginning, joined}
use Rattle.ldm_downstream.specs.Pushing.{Continues, Pushes, PushesAt}
use Rattle.ldm_downstream.specs.Receives.{at_first}
use Rattle.ldm_downstream.specs.ReceiverView.{ReceiverView, before_stream}
use Rattle.ldm_downstream.proofs.Ending.{continues-none}
use Rattle.ldm_chain.specs.Beginning.{Beginning}
use Rattle.ldm_chain.specs.MirrorView.{MirrorView}
use Rattle.ldm_chain.specs.Reflecting.{pieces_at, Went, Reflects, mirror_of}
use Rattle.ldm_chain.proofs.Reframing.{Moves}
use Rattle.ldm_chain.proofs.Pushed.{pushes-moves, went-then}

-- ---- bytes one way and the other

bytes_given-sent : (bytes : List ℕ) (passed : List Passed) → bytes_given (then_all way.Sent bytes passed) ≡ bytes_given passed
bytes_given-sent bytes passed =
    bytes_given-append passed (passed_all way.Sent bytes) ∙ ap (λ (x : List ℕ). bytes_given passed ++ x) (given-none bytes) ∙ append-nil (bytes_given passed)

pub bytes_sent-given : (bytes : List ℕ) (passed : List Passed) → bytes_sent (then_piece bytes passed) ≡ bytes_sent passed
bytes_sent-given bytes passed =
    bytes_sent-append passed (passed_piece bytes) ∙ ap (λ (x : List ℕ). bytes_sent passed ++ x) (sent-piece bytes) ∙ append-nil (bytes_sent passed)

-- how many bytes were sent, where more are sent or given
pub sent-more : (piece : List ℕ) (old new : List Passed) → new ≡ then_all way.Sent piece old → length (bytes_sent new) ≡ length (bytes_sent old) + length piece
sent-more piece old new told = ap (λ (ps : List Passed). length (bytes_sent ps)) told ∙ ap length (bytes_sent-more piece old) ∙ length-append (bytes_sent old) piece

pub sent-kept : (bytes : List ℕ) (old new : List Passed) → new ≡ then_piece bytes old → length (bytes_sent new) ≡ length (bytes_sent old)
sent-kept bytes old new told = ap (λ (ps : List Passed). length (bytes_sent ps)) told ∙ ap length (bytes_sent-given bytes old)

-- there is room for a piece
pub room-left : (sent len : ℕ) → nat_le LONGEST_STREAM (sent + len) ≡ false → sent + len < LONGEST_STREAM
room-left sent len is = elim (cases_lt (sent + len) LONGEST_STREAM) [
  | inl less ↦ less
  | inr most ↦ absurd (let never : true ≡ false = sym (le-leb LONGEST_STREAM (sent + len) most) ∙ is in cc never)
]

-- ---- its beginning

went-none : (first a : Standing) (out : List ℕ) (end : Option RecvEnd) (hand : Position) → first ≡ a → end ≡ None → hand ≡ beginning → out ≡ a.out
    → Went end [] hand first (record a { out = out })
went-none first a out end hand first_is live hand_is out_is =
    subst (λ (e : Option RecvEnd). Went e [] hand first (record a { out = out })) (sym live)
    (subst (λ (h : Position). Continues [] beginning h first (record a { out = out })) (sym hand_is)
    (subst (λ (s : Standing). Continues [] beginning beginning s (record a { out = out })) (sym first_is)
    (subst (λ (o : List ℕ). Continues [] beginning beginning a (record a { out = o })) (sym out_is) (continues-none beginning a refl))))

pub begins : (b : Beginning) (receiver : ReceiverView) (pass : PassView) (passed : List Passed) (request : List ℕ) → receiver ≡ before_stream receiver.receiving false
    → request ≡ records_of (request_of receiver.receiving) → b.first ≡ at_first receiver.receiving pass → passed ≡ []
    → Reflects b (mirror_of passed 0 false 0 request receiver pass)
begins b receiver pass passed request before asks first none =
    subst (λ (ps : List Passed). Reflects b (mirror_of ps 0 false 0 request receiver pass)) (sym none)
    (record {
      parts = [];
      sent_is = refl;
      notes = [];
      went = went-none b.first (at_first receiver.receiving pass) request receiver.end receiver.hand first
          (ap (λ (r : ReceiverView). r.end) before) (ap (λ (r : ReceiverView). r.hand) before) asks;
    })

-- ---- replies are read

reads : (b : Beginning) (m : MirrorView) (front rest : List ℕ) → m.waiting ≡ front ++ rest → Reflects b m
    → Reflects b (record m { passed = then_piece front m.passed; waiting = rest })
reads b m front rest split r =
    let out : bytes_given m.passed ++ m.waiting ≡ bytes_given (then_piece front m.passed) ++ rest =
    ap (λ (w : List ℕ). bytes_given m.passed ++ w) split ∙ sym (append_assoc (bytes_given m.passed) front rest)
    ∙ sym (ap (λ (g : List ℕ). g ++ rest) (bytes_given-more front m.passed)) in
    record {
      parts = r.parts;
      sent_is = r.sent_is ∙ sym (bytes_sent-given front m.passed);
      notes = r.notes;
      went = subst (λ (o : List ℕ). Went m.receiver.end (pieces_at b.now r.parts) m.receiver.hand b.first (stands m.receiver.receiving m.pass o r.notes)) out r.went;
    }

module _ (b : Beginning) (passed : List Passed) (faults : ℕ) (closed : Bool) (read : ℕ) (replies : List ℕ) (receiver : ReceiverView) (pass : PassView) where
  abbrev was : MirrorView
  was = mirror_of passed faults closed read replies receiver pass

  -- some from the front
  pub reads-front : (after : List Passed) (n : ℕ) → after ≡ then_piece (take n (drop read replies)) passed → Reflects b was
      → Reflects b (mirror_of after faults closed (read + n) replies receiver pass)
  reads-front after n told r =
      subst (λ (ps : List Passed). Reflects b (mirror_of ps faults closed (read + n) replies receiver pass)) (sym told)
      (reads b was (take n (drop read replies)) (drop (read + n) replies)
      (sym (take-append-drop n (drop read replies)) ∙ ap (λ (xs : List ℕ). take n (drop read replies) ++ xs) (drop-drop n read replies)) r)

  -- all
  pub reads-all : (after : List Passed) (none : List ℕ) → after ≡ then_piece (drop read replies) passed → none ≡ [] → Reflects b was
      → Reflects b (mirror_of after faults closed 0 none receiver pass)
  reads-all after none told empty r =
      subst (λ (ps : List Passed). Reflects b (mirror_of ps faults closed 0 none receiver pass)) (sym told)
      (subst (λ (xs : List ℕ). Reflects b (mirror_of (then_piece (drop read replies) passed) faults closed 0 xs receiver pass)) (sym empty)
      (reads b was (drop read replies) [] (sym (append-nil (drop read replies))) r))

-- ---- a piece is pushed

pub none_of : (end : Option RecvEnd) → is_some end ≡ false → end ≡ None
none_of None is = refl
none_of (Some end) is = absurd (cc)

pub of-same : (shared : SharedView) (old new : PassView) → IsPassOf shared old → IsSamePass old new → IsPassOf shared new
of-same shared old new of same =
    subst (λ (p : PassView). IsPassOf shared p) (sym same) (record { queue = of.queue; arena = of.arena; slots = of.slots; passes = of.passes })

-- a pass is the one that it was
pub same-begun : (b : Beginning) (s : Receiving) (pass : PassView) → b.first ≡ at_first s pass → IsSamePass b.first.pass pass
same-begun b s pass first = subst (λ (f : Standing). IsSamePass f.pass pass) (sym first) refl

pub same-then : (old mid new : PassView) → IsSamePass old mid → IsSamePass mid new → IsSamePass old new
same-then old mid new before later = later ∙ ap (λ (p : PassView). record p { seen = new.seen }) before

pieces-more : (now : ℕ) (parts : List (List ℕ)) (part : List ℕ) → pieces_at now (parts ++ part ∷ []) ≡ pieces_at now parts ++ record { now = now; bytes = part } ∷ []
pieces-more now [] part = refl
pieces-more now (first ∷ parts) part = ap (λ (others : List Piece). record { now = now; bytes = first } ∷ others) (pieces-more now parts part)

joined-more : (pieces : List Piece) (piece : Piece) → joined (pieces ++ piece ∷ []) ≡ joined pieces ++ piece.bytes
joined-more pieces piece =
    flat_map-append (λ (p : Piece). p.bytes) pieces (piece ∷ []) ∙ ap (λ (x : List ℕ). joined pieces ++ x) (append-nil piece.bytes)

-- Replies were read up to a place, and what waits there is what waited.
pub record Sending (m : MirrorView) (read : ℕ) (before : List ℕ) : Type 0 where
  pub within : read ≤ length before
  pub waits : drop read before ≡ m.waiting
  pub live : m.receiver.end ≡ None

-- what a push leaves
pub record Sends (b : Beginning) (read : ℕ) (after : List ℕ) (new : MirrorView) : Type 0 where
  pub within : read ≤ length after
  pub reflects : Reflects b new

pub sends : (b : Beginning) (m : MirrorView) (passed : List Passed) (faults : ℕ) (closed : Bool) (read now : ℕ) (piece before notes after lines : List ℕ) (receiver : ReceiverView)
    (pass : PassView) → Sending m read before → now ≡ b.now → passed ≡ then_all way.Sent piece m.passed
    → PushesAt m.receiver.end (record { now = now; bytes = piece }) m.receiver receiver (stands m.receiver.receiving m.pass before notes) (stands receiver.receiving pass after lines)
    → Reflects b m → Sends b read after (mirror_of passed faults closed read after receiver pass)
sends b m passed faults closed read now piece before notes after lines receiver pass at now_is told pushed r =
    let came : Piece = record { now = b.now; bytes = piece } in
    let x : Standing = stands m.receiver.receiving m.pass before notes in
    let c : Standing = stands receiver.receiving pass after lines in
    let all : List ℕ = bytes_given m.passed ++ m.waiting in
    let there : PushesAt m.receiver.end came m.receiver receiver x c =
    subst (λ (t : ℕ). PushesAt m.receiver.end (record { now = t; bytes = piece }) m.receiver receiver x c) now_is pushed in
    let here : PushesAt None came m.receiver receiver x c = subst (λ (e : Option RecvEnd). PushesAt e came m.receiver receiver x c) at.live there in
    let moves : Moves all r.notes (Pushes receiver.end came m.receiver.hand receiver.hand) x c =
    pushes-moves all r.notes receiver.end came m.receiver.hand receiver.hand x c here.0 in
    let went : Went None (pieces_at b.now r.parts) m.receiver.hand b.first (stands m.receiver.receiving m.pass all r.notes) =
    subst (λ (e : Option RecvEnd). Went e (pieces_at b.now r.parts) m.receiver.hand b.first (stands m.receiver.receiving m.pass all r.notes)) at.live r.went in
    let goes : Went receiver.end (pieces_at b.now r.parts ++ came ∷ []) receiver.hand b.first (stands receiver.receiving pass (all ++ moves.more) (r.notes ++ moves.lines)) =
    went-then receiver.end (pieces_at b.now r.parts) came m.receiver.hand receiver.hand b.first (stands m.receiver.receiving m.pass all r.notes)
    (stands receiver.receiving pass (all ++ moves.more) (r.notes ++ moves.lines)) went moves.moved in
    let waits : drop read after ≡ m.waiting ++ moves.more =
    ap (λ (xs : List ℕ). drop read xs) moves.owed ∙ drop-append-le read before moves.more at.within ∙ ap (λ (xs : List ℕ). xs ++ moves.more) at.waits in
    let out : all ++ moves.more ≡ bytes_given passed ++ drop read after =
    append_assoc (bytes_given m.passed) m.waiting moves.more ∙ sym (ap (λ (w : List ℕ). bytes_given m.passed ++ w) waits)
    ∙ sym (ap (λ (g : List ℕ). g ++ drop read after) (ap bytes_given told ∙ bytes_given-sent piece m.passed)) in
    let P : List Piece → List ℕ → Type 0 = λ ps o. Went receiver.end ps receiver.hand b.first (stands receiver.receiving pass o (r.notes ++ moves.lines)) in
    record {
      within = omega (arith, ap length moves.owed, length-append before moves.more, at.within);
      reflects = record {
        parts = r.parts ++ piece ∷ [];
        sent_is = ap joined (pieces-more b.now r.parts piece) ∙ joined-more (pieces_at b.now r.parts) came ∙ ap (λ (s : List ℕ). s ++ piece) r.sent_is
            ∙ sym (ap bytes_sent told ∙ bytes_sent-more piece m.passed);
        notes = r.notes ++ moves.lines;
        went = subst (λ (ps : List Piece). P ps (bytes_given passed ++ drop read after)) (sym (pieces-more b.now r.parts piece))
            (subst (λ (o : List ℕ). P (pieces_at b.now r.parts ++ came ∷ []) o) out goes);
      };
    }
