-- How many calls a feeding over a mirror makes: its gate stops it at the first idle call, so it never waits.
use Rattle.std.proofs.Common.{◌≡◌, ◌∙◌, ℕ, ◌+◌, ◌≤◌, List, [], ◌∷◌, ◌++◌, length, refl, sym, subst, arith}
use Rattle.ldm_types.specs.declared.limits.TheConstants.{LARGEST_ARENA}
use Rattle.ldm_outside.specs.declared.gate.Go.{Go}
use Rattle.ldm_outside.specs.declared.gate.Go.TheVariants as go
use Rattle.ldm_outside.specs.Gate.{GateRecord, Idles}
use Rattle.ldm_session.specs.Exchange.{IdledAll}
use Rattle.ldm_shared.specs.Passes.{PassView}
use Rattle.ldm_sender.specs.declared.end.SendEnd.{SendEnd}
use Rattle.ldm_sender.specs.Acts.{IsStop, is_whole}
use Rattle.ldm_sender.specs.Asked.{Asked}
use Rattle.ldm_sender.specs.Does.{Each}
use Rattle.ldm_upstream.specs.Turn.{Turn, Lost, Gave, Quiet, Alive}
use Rattle.ldm_upstream.specs.Turns.{goes_of_turns}
use Rattle.ldm_upstream.specs.Feeding.{goes_of, last_goes}
use Rattle.ldm_between_ends.specs.Counts.{most_fed}
use Rattle.ldm_between_ends.specs.OnePass.{IsOnlyPass}
use Rattle.ldm_between_ends.proofs.FedFew.{missing-of}
use Rattle.ldm_chain.specs.Linking.{Fed}
use Rattle.ldm_chain.specs.MirrorView.{MirrorView}
use Rattle.ldm_chain.specs.Outside.{stopping}
use Rattle.ldm_chain.proofs.UsedLaws.{EndLaws}

-- at each wait the gate said to go on
all-on : (turns : List Turn) → Each (λ (answer : Go). answer ≡ go.On) (goes_of_turns turns)
all-on [] = tt
all-on (Lost count first last ∷ turns) = all-on turns
all-on (Gave given handling ∷ turns) = all-on turns
all-on (Quiet end now ∷ turns) = (refl, all-on turns)
all-on (Alive end now at ∷ turns) = (refl, all-on turns)

-- this gate never does
no-waits : (stops : ℕ) (after : GateRecord) (waits rest goes missing : List Go) → Each (λ (answer : Go). answer ≡ go.On) waits → goes ++ missing ≡ waits ++ rest → Each IsStop missing
    → IdledAll goes (stopping stops) after → length waits ≡ 0
no-waits stops after [] rest goes missing on same only idled = refl
no-waits stops after (wait ∷ waits) rest [] missing on same only idled =
    let stop : wait ≡ go.Stop = (subst (Each IsStop) same only).0 in
    let no : go.On ≡ go.Stop = sym on.0 ∙ stop in
    absurd (cc no)
no-waits stops after (wait ∷ waits) rest (first ∷ goes) missing on same only idled =
    let is : first ≡ wait = cc same in
    let went : Idles go.On (stopping stops) idled.0 = subst (λ (answer : Go). Idles answer (stopping stops) idled.0) (is ∙ on.0) idled.1 in
    absurd (omega (arith, went.0))

pub fed-over : (more : EndLaws) (why : SendEnd) (asked : Asked) (old new : PassView) (before after : MirrorView) → Fed why asked old new before after → IsOnlyPass old
    → old.arena ≤ LARGEST_ARENA → length new.seen ≤ length old.seen + most_fed 0 old.slots
fed-over more why asked old new before after fed only small =
    let feeds = fed.feeds in
    let turns = feeds.feeding.turns in
    let part = missing-of IsStop (is_whole why) feeds.goes (goes_of feeds.feeding) feeds.goes_part in
    let none = no-waits 0 (stopping fed.stops) (goes_of_turns turns) (last_goes feeds.feeding.last) feeds.goes part.missing (all-on turns) part.all part.only feeds.idled in
    subst (λ (waits : ℕ). length new.seen ≤ length old.seen + most_fed waits old.slots) none (more.fed why asked [] old new _ _ feeds only small)
