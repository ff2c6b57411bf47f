-- How far a worker came, after one line more and at its end.
use Rattle.std.proofs.Common.{◌≡◌, ℕ, suc, ◌+◌, ◌<◌, ◌≤◌, List, [], ◌∷◌, ◌++◌, length, take, get_or, append-nil, sym, ap, subst, ◌∙◌, arith}
use Rattle.std.proofs.lemmas.List.{take_more, take_all}
use Rattle.ldm_outside.specs.declared.gate.GateCall.{GateCall}
use Rattle.ldm_outside.specs.declared.gate.GateCall.TheVariants.{Before}
use Rattle.ldm_outside.specs.Gate.{GateRecord, HasCalls}
use Rattle.ldm_outside.proofs.CallerLemmas.{Rose-later}
use Rattle.ldm_outside.proofs.GateLemmas.{HasCalls-then}
use Rattle.ldm_model.specs.declared.event.Event.TheVariants as event
use Rattle.ldm_model.specs.declared.event.Reply.{Reply}
use Rattle.ldm_model.specs.declared.event.Entry.{Entry}
use Rattle.ldm_script.specs.Order.{Asked, Plain}
use Rattle.ldm_script.specs.declared.order.LastPlaces.{LastPlaces}
use Rattle.ldm_script.specs.Resolve.{no_places, resolved, unresolved, last_after}
use Rattle.ldm_shared.specs.Own.{own}
use Rattle.ldm_shared.specs.Passes.{PassView, IsSamePass}
use Rattle.ldm_crowd.specs.declared.outcome.CrowdEnd.{CrowdEnd}
use Rattle.ldm_crowd.specs.declared.outcome.CrowdEnd.TheVariants as crowd_end
use Rattle.ldm_crowd.specs.declared.player.Player.{Player}
use Rattle.ldm_crowd.specs.Calls.{GrowsBy}
use Rattle.ldm_crowd.specs.Lines.{AreEntriesOf, last_of}
use Rattle.ldm_crowd.specs.Interleaving.{actor_text, crowd_line}
use Rattle.ldm_crowd.specs.Parts.{Played, passing, passings, passings_and_one}
use Rattle.ldm_crowd.specs.Players.{HasPlayed, PlayerEnds, PlaysLine, LineFails, part_seen}
use Rattle.ldm_crowd.proofs.OneMore.{made_at, made_for, said, entries-more, last-more, text-more, said-is, own-grows, own-worn}

-- the entries of the same pass's actor
own-same : (old new : PassView) → IsSamePass old new → own new.actor new.seen ≡ own old.actor new.seen
own-same old new same = ap (λ (p : PassView). own p.actor new.seen) same

-- nothing was played yet
pub played_none : (lines : List Asked) (pass : PassView) (last : LastPlaces) (answers : List ℕ) → pass.seen ≡ [] → last ≡ no_places → answers ≡ [] → HasPlayed lines 0 pass last answers
played_none lines pass last answers unseen unopened unanswered =
    let none : own pass.actor pass.seen ≡ [] = ap (own pass.actor) unseen in
    record { within = omega arith; made = none; last_is = unopened; answered = unanswered }

module _ (lines : List Asked) (count : ℕ) (less : count < length lines) (asked : Asked) (is : asked ≡ get_or lines count (Plain event.Stat))
    (old new : PassView) (last : LastPlaces) (text : List ℕ) (played : HasPlayed lines count old last text) (same : IsSamePass old new) where
  more : take (count + 1) lines ≡ take count lines ++ asked ∷ []
  more = take_more lines count (Plain event.Stat) less ∙ ap (λ (a : Asked). take count lines ++ a ∷ []) (sym is)

  -- the call of the line was made
  module _ (reply : Reply) (grows : GrowsBy (unresolved asked) (resolved last asked) reply old new) where
    whole : own new.actor new.seen ≡ own old.actor old.seen ++ made_at asked old.actor reply (last_of no_places (take count lines) (own old.actor old.seen))
    whole =
        own-same old new same ∙ own-grows (unresolved asked) (resolved last asked) reply old new grows
        ∙ ap (λ (l : LastPlaces). own old.actor old.seen ++ made_for old.actor (resolved l asked) reply) played.last_is

    reply-is : said (unresolved asked) (resolved (last_of no_places (take count lines) (own old.actor old.seen)) asked) reply ≡ reply
    reply-is = ap (λ (l : LastPlaces). said (unresolved asked) (resolved l asked) reply) (sym played.last_is) ∙ said-is (unresolved asked) (resolved last asked) reply old new grows

    -- the entries are those of one line more
    pub made_more : AreEntriesOf no_places (take (count + 1) lines) (own new.actor new.seen)
    made_more =
        subst (λ (ls : List Asked). AreEntriesOf no_places ls (own new.actor new.seen)) (sym more)
        (subst (λ (es : List Entry). AreEntriesOf no_places (take count lines ++ asked ∷ []) es) (sym whole)
        (entries-more asked old.actor reply no_places (take count lines) (own old.actor old.seen) played.made))

    -- one line more was played
    pub played_more : (new_last : LastPlaces) (new_text : List ℕ) → new_last ≡ last_after last reply → new_text ≡ text ++ crowd_line old.actor reply → HasPlayed lines (count + 1) new new_last new_text
    played_more new_last new_text noted written = record {
      within = omega arith;
      made = made_more;
      last_is =
          noted ∙ ap (λ (l : LastPlaces). last_after l reply) played.last_is
          ∙ ap (last_after (last_of no_places (take count lines) (own old.actor old.seen))) (sym reply-is)
          ∙ sym (last-more asked old.actor reply no_places (take count lines) (own old.actor old.seen) played.made)
          ∙ ap (λ (es : List Entry). last_of no_places (take count lines ++ asked ∷ []) es) (sym whole)
          ∙ ap (λ (ls : List Asked). last_of no_places ls (own new.actor new.seen)) (sym more);
      answered =
          written ∙ ap (λ (t : List ℕ). t ++ crowd_line old.actor reply) played.answered
          ∙ ap (λ (r : Reply). actor_text old.actor (take count lines) (own old.actor old.seen) ++ crowd_line old.actor r) (sym reply-is)
          ∙ sym (text-more asked old.actor reply old.actor (take count lines) (own old.actor old.seen) played.made)
          ∙ ap (λ (es : List Entry). actor_text old.actor (take count lines ++ asked ∷ []) es) (sym whole)
          ∙ ap (λ (ls : List Asked). actor_text old.actor ls (own new.actor new.seen)) (sym more)
          ∙ ap (λ (p : PassView). actor_text p.actor (take (count + 1) lines) (own new.actor new.seen)) (sym same);
    }

-- a player that played the line after these
pub plays_on : {G : Type 0} (tells : G → GateRecord) (lines : List Asked) (count i : ℕ) → count < length lines → (asked : Asked) → asked ≡ get_or lines count (Plain event.Stat)
    → (old_pass : PassView) (old : Player G) (new_pass : PassView) (new : Player G)
    → HasPlayed lines count old_pass old.last old.answers.items → IsSamePass old_pass new_pass → PlaysLine tells i asked old_pass old new_pass new → HasPlayed lines (count + 1) new_pass new.last new.answers.items
plays_on tells lines count i less asked is old_pass old new_pass new played same line =
    played_more lines count less asked is old_pass new_pass old.last old.answers.items played same line.reply line.grows new.last new.answers.items line.last_is line.answered

-- the gate was asked and told of one line more
pub asked_on : (actor by count : ℕ) (first mid new : GateRecord) → by ≡ actor → HasCalls (passings actor count) first mid → HasCalls (passing by count) mid new → HasCalls (passings actor (count + 1)) first new
asked_on actor by count first mid new is before now =
    let next : count + 1 ≡ suc count = omega arith in
    subst (λ (n : ℕ). HasCalls (passings actor n) first new) (sym next)
    (HasCalls-then first mid new (passings actor count) (passing actor count) before (subst (λ (a : ℕ). HasCalls (passing a count) mid new) is now))

-- the lines that were played, of a pass with the same entries
module _ (lines : List Asked) (count : ℕ) (old new : PassView) (last : LastPlaces) (text new_text : List ℕ) (first now : GateRecord)
    (played : HasPlayed lines count old last text) (actor_is : new.actor ≡ old.actor) (own_is : own new.actor new.seen ≡ own old.actor old.seen) (same_text : new_text ≡ text) where
  pub stays : (calls : ℕ → List GateCall) → HasCalls (calls count) first now → Played calls new.actor lines (part_seen new new_text first now)
  stays calls asked = record {
    front = record { count = count; within = played.within; made = subst (AreEntriesOf no_places (take count lines)) (sym own_is) played.made };
    answered =
        same_text ∙ played.answered ∙ ap (λ (es : List Entry). actor_text old.actor (take count lines) es) (sym own_is)
        ∙ ap (λ (a : ℕ). actor_text a (take count lines) (own new.actor new.seen)) (sym actor_is);
    asked = asked;
  }

-- the calls of the lines that were played, and then these
more_calls : {G : Type 0} (tells : G → GateRecord) (count : ℕ) (first : GateRecord) (actor by : ℕ) (old new : Player G) → by ≡ actor → (more : List GateCall)
    → HasCalls (passings actor count) first (tells old.gate) → HasCalls more (tells old.gate) (tells new.gate) → HasCalls (passings by count ++ more) first (tells new.gate)
more_calls tells count first actor by old new is more asked then =
    subst (λ (a : ℕ). HasCalls (passings a count ++ more) first (tells new.gate)) (sym is)
    (HasCalls-then first (tells old.gate) (tells new.gate) (passings actor count) more asked then)

-- a player at which the line after these failed
pub fails_on : {G : Type 0} (tells : G → GateRecord) (lines : List Asked) (count : ℕ) (first : GateRecord) (old_pass : PassView) (old : Player G) (new_pass : PassView) (new : Player G)
    → first.stops ≤ (tells old.gate).stops → HasPlayed lines count old_pass old.last old.answers.items → HasCalls (passings old_pass.actor count) first (tells old.gate)
    → IsSamePass old_pass new_pass → new.answers.items ≡ old.answers.items → (end : CrowdEnd) → LineFails tells end count old_pass old new_pass new
    → PlayerEnds end lines new_pass new.answers.items first (tells new.gate)
fails_on tells lines count first old_pass old new_pass new kept played asked same unanswered crowd_end.Done failed = absurd failed
fails_on tells lines count first old_pass old new_pass new kept played asked same unanswered crowd_end.Stopped failed =
    let actor_is : new_pass.actor ≡ old_pass.actor = ap (λ (p : PassView). p.actor) failed.0 in
    let own_is : own new_pass.actor new_pass.seen ≡ own old_pass.actor old_pass.seen = ap (λ (p : PassView). own p.actor p.seen) failed.0 in
    let calls = more_calls tells count first old_pass.actor new_pass.actor old new actor_is [] asked failed.1 in (
      Rose-later first.stops (tells old.gate).stops (tells new.gate).stops kept failed.2,
      stays lines count old_pass new_pass old.last old.answers.items new.answers.items first (tells new.gate) played actor_is own_is unanswered (passings new_pass.actor)
          (subst (λ (cs : List GateCall). HasCalls cs first (tells new.gate)) (append-nil (passings new_pass.actor count)) calls),
    )
fails_on tells lines count first old_pass old new_pass new kept played asked same unanswered crowd_end.Worn failed =
    let worn = failed.0.1 in
    let actor_is : new_pass.actor ≡ old_pass.actor = ap (λ (p : PassView). p.actor) same in
    let own_is : own new_pass.actor new_pass.seen ≡ own old_pass.actor old_pass.seen = own-same old_pass new_pass same ∙ own-worn old_pass new_pass failed.0.0 worn in
    let one = subst (λ (a : ℕ). HasCalls (Before a count ∷ []) (tells old.gate) (tells new.gate)) (sym actor_is) failed.1 in
    let calls = more_calls tells count first old_pass.actor new_pass.actor old new actor_is (Before new_pass.actor count ∷ []) asked one in (
      worn.long ∙ worn.turns_are,
      stays lines count old_pass new_pass old.last old.answers.items new.answers.items first (tells new.gate) played actor_is own_is unanswered (passings_and_one new_pass.actor) calls,
    )
fails_on tells lines count first old_pass old new_pass new kept played asked same unanswered crowd_end.OutOfMemory failed =
    let actor_is : new_pass.actor ≡ old_pass.actor = ap (λ (p : PassView). p.actor) failed.0 in
    let own_is : own new_pass.actor new_pass.seen ≡ own old_pass.actor old_pass.seen = ap (λ (p : PassView). own p.actor p.seen) failed.0 in
    let calls = more_calls tells count first old_pass.actor new_pass.actor old new actor_is [] asked failed.1 in
    stays lines count old_pass new_pass old.last old.answers.items new.answers.items first (tells new.gate) played actor_is own_is unanswered (passings new_pass.actor)
    (subst (λ (cs : List GateCall). HasCalls cs first (tells new.gate)) (append-nil (passings new_pass.actor count)) calls)

-- all lines were played
pub played_all : (lines : List Asked) (count : ℕ) → length lines ≤ count → (pass : PassView) (last : LastPlaces) (text : List ℕ) (old new : GateRecord) → HasPlayed lines count pass last text
    → HasCalls (passings pass.actor count) old new → PlayerEnds crowd_end.Done lines pass text old new
played_all lines count all pass last text old new played asked =
    let whole : take count lines ≡ lines = take_all count lines all in
    let is : count ≡ length lines = let within = played.within in omega arith in
    record {
      made = subst (λ (ls : List Asked). AreEntriesOf no_places ls (own pass.actor pass.seen)) whole played.made;
      answered = played.answered ∙ ap (λ (ls : List Asked). actor_text pass.actor ls (own pass.actor pass.seen)) whole;
      asked = subst (λ (n : ℕ). HasCalls (passings pass.actor n) old new) is asked;
    }
