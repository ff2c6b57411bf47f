-- A chain that breaks leaves the queue of the feeder as it was, but for cursor places.
use Rattle.std.proofs.Common.{◌≡◌, ◌∙◌, ℕ, Bool, true, false, List, [], ◌∷◌, ◌++◌, Option, Some, None, inl, inr, refl, ap, sym, subst}
use Rattle.std.specs.Prelude.{◌⊎◌, All}
use Rattle.std.proofs.lemmas.List.Elements.{All-append, All-nil}
use Rattle.ldm_model.specs.declared.event.Entry.{Entry}
use Rattle.ldm_model.specs.State.{State}
use Rattle.ldm_model.specs.History.{after_entries}
use Rattle.ldm_outside.specs.Session.{SessionRecord}
use Rattle.ldm_shared.specs.Passes.{PassView}
use Rattle.ldm_sender.specs.declared.end.SendEnd.{SendEnd}
use Rattle.ldm_sender.specs.declared.end.SendEnd.TheVariants as feed
use Rattle.ldm_sender.specs.Acts.{is_whole}
use Rattle.ldm_sender.specs.Asked.{Asked}
use Rattle.ldm_sender.specs.Calls.{MayBeUnmade}
use Rattle.ldm_sender.specs.Ending.{closing_of}
use Rattle.ldm_sender.specs.Opening.{Answered, closing_entries}
use Rattle.ldm_upstream.specs.Feeding.{Feeding, entries_of}
use Rattle.ldm_upstream.specs.Feeds.{Feeds}
use Rattle.ldm_between_ends.specs.OnePass.{IsOnlyPass, state_of}
use Rattle.ldm_between_ends.specs.Reading.{KeepsProducts, OnlyReads}
use Rattle.ldm_between_ends.proofs.Entries.{all-behind, all-front}
use Rattle.ldm_between_ends.proofs.FedFew.{missing-of}
use Rattle.ldm_chain.specs.declared.node.Break.{Break}
use Rattle.ldm_chain.specs.declared.node.Break.TheVariants as broken
use Rattle.ldm_chain.specs.declared.node.ChainEnd.{ChainEnd}
use Rattle.ldm_chain.specs.Beginning.{Beginning}
use Rattle.ldm_chain.specs.Breaking.{Breaks, BreaksAt, BreaksSo, Came}
use Rattle.ldm_chain.specs.Linking.{FedFewer}
use Rattle.ldm_chain.specs.MirrorView.{MirrorView}
use Rattle.ldm_chain.proofs.FedWhole.{made-state, still-only}
use Rattle.ldm_chain.proofs.UsedLaws.{Laws}

-- the laws of calls that only read
pub record ReadLaws : Type 0 where
  pub only_reads : (actor : ℕ) (asked : Asked) (feeding : Feeding) → All OnlyReads (entries_of actor asked feeding ++ closing_entries actor feeding.answered)
  pub keeps : (s : State) (entries : List Entry) → All OnlyReads entries → KeepsProducts s (after_entries s entries)

pub all-kept : (one other : State) → other ≡ one → KeepsProducts one other
all-kept one other same = record {
  arena = ap (λ (s : State). s.arena) same;
  slots = ap (λ (s : State). s.slots) same;
  rows = ap (λ (s : State). s.rows) same;
  reservations = ap (λ (s : State). s.reservations) same;
}

keeps-then : (one two three : State) → KeepsProducts one two → KeepsProducts two three → KeepsProducts one three
keeps-then one two three first second = record {
  arena = second.arena ∙ first.arena;
  slots = second.slots ∙ first.slots;
  rows = second.rows ∙ first.rows;
  reservations = second.reservations ∙ first.reservations;
}

-- the call that closes the cursor only reads
closing-reads : (actor : ℕ) (why : SendEnd) (answered : Answered) → All OnlyReads (closing_entries actor answered) → All OnlyReads (closing_of actor why answered)
closing-reads actor feed.Worn answered reads = All-nil OnlyReads
closing-reads actor why answered reads = reads

module _ (laws : Laws) (reads : ReadLaws) where
  feeds-keep : (why : SendEnd) (asked : Asked) (old new : PassView) (before after' : SessionRecord) → Feeds why asked [] old new before after' → IsOnlyPass old
      → KeepsProducts (state_of old) (state_of new)
  feeds-keep why asked old new before after' feeds only =
      let actor = old.actor in
      let answered = feeds.feeding.answered in
      let closing = closing_of actor why answered in
      let part = missing-of MayBeUnmade (is_whole why) feeds.called (entries_of actor asked feeds.feeding) feeds.called_part in
      let all = reads.only_reads actor asked feeds.feeding in
      let entries = all-front OnlyReads (entries_of actor asked feeds.feeding) (closing_entries actor answered) all in
      let closes = all-behind OnlyReads (entries_of actor asked feeds.feeding) (closing_entries actor answered) all in
      let called = all-front OnlyReads feeds.called part.missing (subst (λ (es : List Entry). All OnlyReads es) (sym part.all) entries) in
      let calls = All-append OnlyReads feeds.called closing called (closing-reads actor why answered closes) in
      subst (KeepsProducts (state_of old)) (sym (made-state laws old new (feeds.called ++ closing) only feeds.made)) (reads.keeps (state_of old) (feeds.called ++ closing) calls)

  module _ (asked : Asked) (old new before after : PassView) (only : IsOnlyPass old) where
    fewer-keep : (why : SendEnd) (b : Beginning) (m m' : MirrorView) → FedFewer why b asked old new m m' → KeepsProducts (state_of old) (state_of new)
    fewer-keep why b m m' part =
        let mid_only = still-only laws old part.mid _ only part.first.feeds.made in
        keeps-then (state_of old) (state_of part.mid) (state_of new) (feeds-keep feed.Reclassed asked old part.mid _ _ part.first.feeds only)
        (feeds-keep why _ part.mid new _ _ part.rest.fed.feeds mid_only)

    came-keeps : (fed : Option Break) (b : Beginning) (m m' : MirrorView) → Came fed b asked old new m m' → KeepsProducts (state_of old) (state_of new)
    came-keeps None b m m' (inl fed) = feeds-keep feed.Stopped asked old new _ _ fed.feeds only
    came-keeps None b m m' (inr part) = fewer-keep feed.Stopped b m m' part
    came-keeps (Some (broken.Feed why)) b m m' came = elim came.1 [
      | inl first ↦ feeds-keep why asked old new _ _ first.fed.feeds only
      | inr part ↦ fewer-keep why b m m' part
    ]
    came-keeps (Some (broken.Receive end)) b m m' came = feeds-keep feed.Reclassed asked old new _ _ came.1.fed.feeds only
    came-keeps (Some broken.OutOfMemory) b m m' came = feeds-keep feed.Reclassed asked old new _ _ came.fed.feeds only

    so-keeps : (why : Break) → BreaksSo why asked old new before after → KeepsProducts (state_of old) (state_of new)
    so-keeps why so = came-keeps so.fed so.b _ so.end so.came

    by-why : (why : Break) → Breaks why asked old new before after → KeepsProducts (state_of old) (state_of new)
    by-why (broken.Feed end) (inl unasked) = absurd unasked
    by-why (broken.Receive end) (inl unasked) = absurd unasked
    by-why broken.OutOfMemory (inl unasked) = all-kept (state_of old) (state_of new) (ap state_of unasked.0)
    by-why why (inr so) = so-keeps why so

    pub keeps : (end : ChainEnd) → BreaksAt end asked old new before after → KeepsProducts (state_of old) (state_of new)
    keeps end breaks = by-why breaks.why breaks.breaks
