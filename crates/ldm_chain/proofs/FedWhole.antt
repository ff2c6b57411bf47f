-- A feeding that came whole to a receiver makes of its queue what the law of a link says.
use Rattle.std.proofs.Common.{◌≡◌, ℕ, ◌+◌, ◌<◌, ◌≤◌, List, [], ◌++◌, length, Option, None, refl, ap, sym, subst, ◌∙◌}
use Rattle.std.specs.Prelude.{map}
use Rattle.std.proofs.lemmas.List.{append-nil}
use Rattle.ldm_types.specs.declared.limits.TheConstants.{LARGEST_ARENA}
use Rattle.ldm_model.specs.declared.event.Entry.{Entry}
use Rattle.ldm_model.specs.Product.{Product}
use Rattle.ldm_model.specs.State.{State, empty}
use Rattle.ldm_model.specs.History.{after_entries, IsLegalFrom}
use Rattle.ldm_model.proofs.Appended.{after_entries-append, IsLegalFrom-append}
use Rattle.ldm_class.specs.Classes.{resumed}
use Rattle.ldm_outside.specs.Session.{SessionRecord}
use Rattle.ldm_shared.specs.Passes.{PassView, Calls, Makes}
use Rattle.ldm_intake.specs.declared.end.RecvEnd.{RecvEnd}
use Rattle.ldm_intake.specs.Course.{Leads}
use Rattle.ldm_intake.specs.Receiving.{Receiving}
use Rattle.ldm_relay.specs.Spelling.{records_of}
use Rattle.ldm_intake.specs.Taken.{Taken}
use Rattle.ldm_sender.specs.declared.end.SendEnd.TheVariants.{Stopped}
use Rattle.ldm_sender.specs.Asked.{Asked}
use Rattle.ldm_upstream.specs.Turn.{Given}
use Rattle.ldm_upstream.specs.Feeding.{Last, bytes_of, given_of}
use Rattle.ldm_upstream.specs.Feeding as feeding
use Rattle.ldm_upstream.specs.Feeds.{Feeds}
use Rattle.ldm_session.specs.declared.limits.TheConstants.{LONGEST_STREAM}
use Rattle.ldm_downstream.specs.Pieces.{joined}
use Rattle.ldm_downstream.specs.Received.{received}
use Rattle.ldm_between_ends.specs.Passing.{Carries, HasAsked, IsAnswered, IsGranted, IsPassing, Passing, record_at}
use Rattle.ldm_between_ends.specs.Queue.{passed_all}
use Rattle.ldm_between_ends.specs.OnePass.{IsOnlyPass, state_of}
use Rattle.ldm_between_ends.proofs.OnePass.{fed-makes, fed-opened, seen-by, seen-legal, seen-state, whole_entries}
use Rattle.ldm_chain.specs.Queues.{products_due}
use Rattle.ldm_chain.specs.Reflecting.{pieces_at}
use Rattle.ldm_chain.proofs.UsedLaws.{Laws}
use Rattle.ldm_chain.proofs.Moment.{all-at}
use Rattle.ldm_chain.proofs.Products.{handed-offered, rows-sound}

-- A receiver that asked for it took all its bytes, at one moment, and that is how it ended, if it did.
pub record TookAll (asked : Asked) (sent given : List ℕ) (now actor : ℕ) (made : List Entry) (end : Option RecvEnd) : Type 0 where
  pub begins : Receiving
  pub at : ℕ
  pub parts : List (List ℕ)
  pub came_to : Taken
  pub asker : HasAsked asked begins
  pub leads : Leads actor (received begins (record_at at) (pieces_at now parts)) made came_to
  pub came : joined (pieces_at now parts) ≡ sent
  pub few : at + length (joined (pieces_at now parts)) < LONGEST_STREAM
  pub waiting : List ℕ
  pub heard : given ++ waiting ≡ records_of came_to.replies
  pub end_is : came_to.end ≡ end

stopped-answered : (last : Last) (end : ℕ) → last ≡ feeding.Stopped end → IsAnswered last
stopped-answered last end is = subst IsAnswered (sym is) tt

module _ (laws : Laws) (asked : Asked) (old new : PassView) (before after' : SessionRecord) (feeds : Feeds Stopped asked [] old new before after') (only : IsOnlyPass old)
    (small : old.arena ≤ LARGEST_ARENA) (from : asked.class.from ≡ 0) (names : resumed asked.class.specs.items ≡ None)
    (now actor : ℕ) (made : List Entry) (end : Option RecvEnd) (all : TookAll asked feeds.sent feeds.given now actor made end) where
  abbrev passing : Passing
  passing = record {
    asked = asked;
    feeding = feeds.feeding;
    begins = all.begins;
    at = all.at;
    pieces = pieces_at now all.parts;
    actor = actor;
    made = made;
    came_to = all.came_to;
  }

  makes : Makes old new (whole_entries old.actor asked feeds.feeding)
  makes = fed-makes Stopped asked [] old new before after' feeds only refl

  granted : IsGranted asked feeds.feeding
  granted =
      let opened = fed-opened asked [] old new before after' feeds in
      let small_too : new.arena ≤ LARGEST_ARENA = subst (λ (n : ℕ). n ≤ LARGEST_ARENA) (sym (ap (λ (p : PassView). p.arena) makes.same)) small in
      record {
        is = feeds.is_feeding;
        missed = opened.0;
        k = opened.1;
        opened = opened.2;
        sound = rows-sound laws new makes.has_seen small_too (given_of feeds.feeding) feeds.rows;
      }

  carries-all : joined (pieces_at now all.parts) ≡ bytes_of asked feeds.feeding
  carries-all = all.came ∙ feeds.sent_part

  carries : Carries passing
  carries = record { rest = []; is = append-nil (joined (pieces_at now all.parts)) ∙ carries-all; few = all.few }

  is-passing : IsPassing passing
  is-passing =
      record {
        granted = granted;
        asker = all.asker;
        carries = carries;
        leads = all.leads;
        heard = laws.read passing feeds.given all.waiting feeds.says.behind granted all.asker carries all.leads feeds.says.said all.heard;
      }

  -- the queue comes to what was due
  pub fed-queue : (queue : State) → IsLegalFrom queue made → after_entries queue made ≡ passed_all actor asked.max_hereis now (products_due asked (state_of old)) queue
  fed-queue queue legal =
      laws.passed passing now queue is-passing carries-all (stopped-answered feeds.feeding.last feeds.last.0 feeds.last.1) (all-at now all.parts) legal
      ∙ ap (λ (ps : List Product). passed_all actor asked.max_hereis now ps queue)
      (handed-offered feeds.feeding.turns feeds.feeding.last
      ∙ ap (map (λ (given : Given). given.product)) (laws.offered asked [] old new before after' feeds only from names))

-- ---- calls of the only pass of a queue

module _ (laws : Laws) (before after' : PassView) (made : List Entry) (only : IsOnlyPass before) (calls : Calls before after' made) where
  made-by : Makes before after' made
  made-by = seen-by before after' made only.has_seen calls

  seen : after'.seen ≡ before.seen ++ made
  seen = laws.goes_on before after' made made-by only.passes only.actor

  pub made-state : state_of after' ≡ after_entries (state_of before) made
  made-state = seen-state before after' made made-by seen ∙ after_entries-append before.seen made (empty before.arena before.slots)

  pub made-legal : IsLegalFrom (state_of before) made
  made-legal = ((IsLegalFrom-append before.seen made (empty before.arena before.slots)).0 (seen-legal before after' made made-by seen)).1

  pub still-only : IsOnlyPass after'
  still-only = record {
    passes = ap (λ (p : PassView). p.passes) calls.same ∙ only.passes;
    actor = ap (λ (p : PassView). p.actor) calls.same ∙ only.actor;
    has_seen = made-by.has_seen;
  }
