-- The items of all pieces, and what is told of items.
use Rattle.std.proofs.Common.{◌≡◌, ◌∙◌, ℕ, List, [], ◌∷◌, ◌++◌, length, refl, sym, ap, subst, arith}
use Rattle.ldm_outside.specs.Io.{Gives, SinkRecord}
use Rattle.ldm_outside.specs.Io as io
use Rattle.ldm_outside.proofs.CallerLemmas.{Gives-nothing, Gives-then, Takes-nothing, Takes-then}
use Rattle.ldm_tools.specs.Telling.{AreTold, Wire}
use Rattle.ldm_tools.proofs.Told.{tells}
use Rattle.ldm_wmo.specs.declared.framing.Framing.{Framing}
use Rattle.ldm_wmo.specs.Items.{Found, Bulletin, Bad}
use Rattle.ldm_wmo.specs.Scanning.{Scanning, begun}
use Rattle.ldm_wmo.specs.Streams.{in_hand, items_in, items_of}
use Rattle.ldm_wmo.proofs.Joined.{in_hand-append, items-append}
use Rattle.ldm_wmo.specs.Ingesting.{Ingesting, reports_of}
use Rattle.ldm_wmo.specs.IngestLines.{bad_line, bad_lines}
use Rattle.ldm_wmo.specs.Moments.{IngestMoment, Span}
use Rattle.ldm_wmo.specs.Outcomes.{Step, Put, Logged, first_of, outcome_in, owed_of, then_of}
use Rattle.ldm_wmo.specs.Runs.{AreTurns, Turn, bytes_of, items_behind, steps_of}
use Rattle.ldm_wmo.specs.IngestTaking.{AreTaken}
use Rattle.ldm_wmo.specs.Told.{Told, answers_of, products_of}
use Rattle.ldm_wmo.proofs.Taken.{taken_append}

-- the items of a piece come behind those of the bytes before it
pub items_joined : (framing : Framing) (seen piece : List ℕ) → items_of framing (seen ++ piece) ≡ items_of framing seen ++ items_behind framing seen piece
items_joined framing seen piece = items-append (begun framing) seen piece

-- the items of all bytes behind some
items_all : (framing : Framing) (seen piece rest : List ℕ) → items_behind framing seen (piece ++ rest) ≡ items_behind framing seen piece ++ items_behind framing (seen ++ piece) rest
items_all framing seen piece rest =
    items-append (in_hand (begun framing) seen) piece rest
    ∙ ap (λ (s : Scanning). items_in (in_hand (begun framing) seen) piece ++ items_in s rest) (sym (in_hand-append (begun framing) seen piece))

module _ (all : Ingesting) where
  pub record Joined (seen : List ℕ) (turns : List Turn) (old new : Span) : Type 0 where
    pub read : Gives old.source (bytes_of turns) new.source
    pub taken : AreTaken all (items_behind all.framing seen (bytes_of turns)) (steps_of turns) old.moment new.moment

  none_behind : (s : Scanning) → items_in s [] ≡ []
  unfolding items_in
  none_behind s = refl

  pub joined : (seen : List ℕ) (turns : List Turn) (old new : Span) → AreTurns all seen turns old new → Joined seen turns old new
  joined seen [] old new each =
      let P : List Found → Type 0 = λ items. AreTaken all items [] old.moment new.moment in
      record { read = Gives-nothing old.source new.source (ap (λ (s : Span). s.source.left) each); taken = subst P (sym (none_behind (in_hand (begun all.framing) seen))) (ap (λ (s : Span). s.moment) each) }
  joined seen (turn ∷ turns) old new each =
      let mid = each.0 in
      let one = each.1 in
      let rest = joined (seen ++ turn.piece) turns mid new each.2 in
      let P : List Found → Type 0 = λ items. AreTaken all items (turn.steps ++ steps_of turns) old.moment new.moment in
      record {
        read = Gives-then old.source mid.source new.source turn.piece (bytes_of turns) one.read rest.read;
        taken = subst P (sym (items_all all.framing seen turn.piece (bytes_of turns)))
            (taken_append all (items_behind all.framing seen turn.piece) (items_behind all.framing (seen ++ turn.piece) (bytes_of turns)) turn.steps (steps_of turns) old.moment mid.moment new.moment one.taken rest.taken);
      }

  from_begin : (bytes : List ℕ) → items_behind all.framing [] bytes ≡ items_of all.framing bytes
  unfolding in_hand
  from_begin bytes = refl

  pub record Whole (turns : List Turn) (old new : Span) : Type 0 where
    pub read : Gives old.source (bytes_of turns) new.source
    pub taken : AreTaken all (items_of all.framing (bytes_of turns)) (steps_of turns) old.moment new.moment

  pub whole : (turns : List Turn) (old new : Span) → AreTurns all [] turns old new → Whole turns old new
  whole turns old new each =
      let j = joined [] turns old new each in
      let P : List Found → Type 0 = λ items. AreTaken all items (steps_of turns) old.moment new.moment in
      record { read = j.read; taken = subst P (from_begin (bytes_of turns)) j.taken }

  -- ---- the bulletins of items that were taken

  -- These items were taken, and their bulletins put.
  pub record Projected (items : List Found) (steps : List Step) (old new : IngestMoment) : Type 0 where
    pub told : AreTold (products_of all items steps) (answers_of steps) old.wire new.wire
    pub count : length (products_of all items steps) ≡ length (reports_of items)
    pub owed : owed_of items (answers_of steps) ≡ first_of steps
    pub logged : io.Takes old.log (bad_lines items) new.log

  pub projected : (items : List Found) (steps : List Step) (old new : IngestMoment) → AreTaken all items steps old new → Projected items steps old new
  projected [] [] old new each = record {
    told = ap (λ (m : IngestMoment). m.wire) each;
    count = refl;
    owed = refl;
    logged = Takes-nothing old.log new.log (ap (λ (m : IngestMoment). m.log.written) each);
  }
  projected [] (step ∷ steps) old new each = absurd each
  projected (item ∷ items) [] old new each = absurd each
  projected (Bulletin at seqno heading bytes ∷ items) (Put arrival answer ∷ steps) old new each =
      let rest = projected items steps each.0 new each.2 in
      let P : SinkRecord → Type 0 = λ l. io.Takes l (bad_lines items) new.log in
      record {
        told = (each.0.wire, each.1.told, rest.told);
        count = (let n = rest.count in omega arith);
        owed = ap (then_of (outcome_in (Put arrival answer))) rest.owed;
        logged = subst P each.1.log rest.logged;
      }
  projected (Bulletin at seqno heading bytes ∷ items) (Logged ∷ steps) old new each = absurd each.1
  projected (Bad at ∷ items) (Put arrival answer ∷ steps) old new each = absurd each.1
  projected (Bad at ∷ items) (Logged ∷ steps) old new each =
      let mid = each.0 in
      let rest = projected items steps mid new each.2 in
      let P : Wire → Type 0 = λ w. AreTold (products_of all items steps) (answers_of steps) w new.wire in
      record {
        told = subst P (ap (λ (m : IngestMoment). m.wire) each.1.same) rest.told;
        count = rest.count;
        owed = refl;
        logged = Takes-then old.log mid.log new.log (bad_line at) (bad_lines items) each.1.written rest.logged;
      }

  pub told : (items : List Found) (steps : List Step) (old new : IngestMoment) → AreTaken all items steps old new → Told all items steps old new
  told items steps old new each =
      let p = projected items steps old new each in
      let t = tells (products_of all items steps) (answers_of steps) old.wire new.wire p.told in
      record { more = t.more; sent = t.sent; given = t.given; answers = t.answers_are; written = t.written; logged = p.logged }
