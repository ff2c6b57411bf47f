-- One action on the product that is held, and then others.
use Rattle.std.proofs.Common.{◌≡◌, ◌∙◌, ℕ, length, Bool, false, List, [], ◌∷◌, ◌++◌, Option, Some, Result, Ok, Err, refl, sym, ap, subst, append_assoc, append-nil, arith}
use Rattle.std.specs.Option.{IsSome}
use Rattle.ldm_outside.specs.Io.{SinkRecord}
use Rattle.ldm_outside.proofs.CallerLemmas.{Takes-nothing}
use Rattle.ldm_shared.specs.Passes.{PassView, IsSamePass}
use Rattle.ldm_shared.specs.Reader.{HasCursor}
use Rattle.ldm_pqact_match.specs.declared.chosen.Chosen.{Chosen}
use Rattle.ldm_actions.specs.declared.answers.Begun.{Begun}
use Rattle.ldm_actions.specs.declared.answers.Done.{Done}
use Rattle.ldm_actions.specs.declared.answers.Done.TheVariants as done
use Rattle.ldm_actions.specs.Effects.{Action, InHand, in_hand}
use Rattle.ldm_actions.specs.Outputs.{Begins, Finishes, Gives, HasHand, KeepsUnlessSpent, Standing}
use Rattle.ldm_pqact.specs.declared.end.ActEnd.{ActEnd}
use Rattle.ldm_pqact.specs.declared.end.ActEnd.TheVariants as end
use Rattle.ldm_pqact.specs.declared.holding.Holding.{Holding}
use Rattle.ldm_pqact.specs.Acting.{Breaks, Does, LogCount}
use Rattle.ldm_pqact.specs.Carried.{BreaksOff, DoesBy, IsOfOutputs, Stands}
use Rattle.ldm_pqact.specs.Handling.{ActsWith, Bodied, DoesAll, DoesHeld, Giving, IsHeld, Lent, ReadsAll, ReadsPart, WritesNoLog, begun_result, bodied, done_result, lent, takes_body, with_log}
use Rattle.ldm_pqact.specs.Turns.{deed_by, deeds_by}
use Rattle.ldm_shared.specs.Uses.{Uses}
use Rattle.ldm_pqact.specs.Work.{only_in_hand, product_work}
use Rattle.ldm_pqact.proofs.Acts.{breaks_before, breaks_behind, does_none, does_then, front_none}
use Rattle.ldm_pqact.proofs.Carrying.{Deed}
use Rattle.ldm_pqact.proofs.Giving.{BeganResult, Began, GivesResult, Whole, begins, breaks_in_body, finishes, gives_no_body, gives_piece, has_body}
use Rattle.ldm_shared.proofs.Using.{same_then, uses_none}

-- what was done with files and programs, and the log was left alone
done_so : (k : ℕ) (old new : Lent) (deeds : List Deed) (log : SinkRecord) → Uses k old.pass new.pass [] → Stands deeds old.standing new.standing
    → Does k (product_work deeds []) (with_log old log) (with_log new log)
done_so k old new deeds log uses stands = record { uses = uses; carried = stands; logged = Takes-nothing log log refl; log_faults = omega arith }

-- and where that broke off
broke_so : (why : ActEnd) (k n : ℕ) (old new : Lent) (deeds : List Deed) (log : SinkRecord) → IsOfOutputs why → Uses k old.pass new.pass []
    → BreaksOff why [] deeds old.standing new.standing → HasCursor new.pass k (Some n)
    → Breaks why k (only_in_hand (product_work deeds [])) (with_log old log) (with_log new log)
broke_so end.StoreFault k n old new deeds log of uses off has =
    record { uses = uses; carried = off; logged = front_none log log [] refl; log_count = omega arith; cause = tt; cursor = (Some n, has) }
broke_so end.LaunchFault k n old new deeds log of uses off has =
    record { uses = uses; carried = off; logged = front_none log log [] refl; log_count = omega arith; cause = tt; cursor = (Some n, has) }
broke_so end.OutOfMemory k n old new deeds log of uses off has =
    record { uses = uses; carried = off; logged = front_none log log [] refl; log_count = omega arith; cause = tt; cursor = (Some n, has) }
broke_so end.Stopped k n old new deeds log of uses off has = absurd of
broke_so end.LogFault k n old new deeds log of uses off has = absurd of
broke_so end.AllBusy k n old new deeds log of uses off has = absurd of
broke_so end.Worn k n old new deeds log of uses off has = absurd of

-- an action on the body
abbrev pub one_deed : Action → Bodied → List Deed
one_deed action it = (action, it.body) ∷ []

-- the action in hand is this one
abbrev pub giving_by : Action → Bodied → Giving
giving_by action it = record { of = it; hand = in_hand action }

-- it could not be begun
pub not_begun : (why : ActEnd) (result : Begun) (it : Bodied) (action : Action) (pass : PassView) (a b : Standing) → begun_result result ≡ Err why
    → Begins result action a b → IsHeld pass it.holding it.body → DoesAll (Err why) it (one_deed action it) (lent pass a) (lent pass b)
not_begun why result it action pass a b is began holds log =
    let k = it.holding.reader.k in
    let ended = subst (λ (r : Result (Unit {0}) ActEnd). BeganResult r action a b) is (begins result action a b began) in
    broke_so why k it.holding.held.n (lent pass a) (lent pass b) (one_deed action it) log ended.0 (uses_none k pass) (ended.1 it.body) holds.cursor

pub has_begun : (result : Begun) (action : Action) (a b : Standing) → begun_result result ≡ Ok tt → Begins result action a b → Began action a b
has_begun result action a b is it = subst (λ (r : Result (Unit {0}) ActEnd). BeganResult r action a b) is (begins result action a b it)

-- the log was not written
unlogged_count : (why : ActEnd) (log : SinkRecord) → WritesNoLog why → LogCount why log log
unlogged_count end.LogFault log none = absurd none
unlogged_count why log none = omega arith

-- its body was not given whole
pub not_given : (why : ActEnd) (it : Bodied) (action : Action) (a : Standing) (b c : Lent) → Began action a b.standing
    → ReadsPart why (giving_by action it) it.body b c → DoesAll (Err why) it (one_deed action it) (lent b.pass a) c
not_given why it action a b c one two log = record {
  uses = two.uses;
  carried = breaks_in_body why action it.body a b.standing c.standing one two.gives;
  logged = front_none log log [] refl;
  log_count = unlogged_count why log two.no_log;
  cause = two.cause;
  cursor = two.cursor;
}

-- it was given the body, or writes none
pub record HasBody (it : Bodied) (action : Action) (old new : Lent) : Type 0 where
  pub uses : Uses it.holding.reader.k old.pass new.pass []
  pub holds : IsHeld new.pass it.holding it.body
  pub whole : Whole action it.body old.standing new.standing

pub body_read : (it : Bodied) (action : Action) (a : Standing) (b c : Lent) → Began action a b.standing → ReadsAll (giving_by action it) it.body b c
    → HasBody it action (lent b.pass a) c
body_read it action a b c one two = record { uses = two.uses; holds = two.holds; whole = has_body action it.body a b.standing c.standing one two.gives }

pub body_left : (it : Bodied) (action : Action) (pass : PassView) (a b : Standing) (takes : Bool) → takes ≡ takes_body action → takes ≡ false → Began action a b
    → IsHeld pass it.holding it.body → HasBody it action (lent pass a) (lent pass b)
body_left it action pass a b takes is left one holds = record {
  uses = uses_none it.holding.reader.k pass;
  holds = holds;
  whole = has_body action it.body a b b one (gives_no_body action it.body b (sym is ∙ left) one.in_hand);
}

some_hand : (hand hand' : Option InHand) → hand ≡ hand' → IsSome hand' → IsSome hand
some_hand hand hand' is some = subst IsSome (sym is) some

-- an action is in hand
pub has_hand : (it : Bodied) (action : Action) (old new : Lent) → HasBody it action old new → HasHand new.standing.outputs
has_hand it action old new has unspent = some_hand new.standing.outputs.hand (Some (in_hand action)) has.whole.hand_now.in_hand refl

-- it was finished, or not
pub finished_by : (result : Done) (it : Bodied) (action : Action) (a b : Lent) (c : Standing) → HasBody it action a b → Finishes result b.standing c
    → DoesAll (done_result result) it (one_deed action it) a (lent b.pass c)
finished_by done.Ok it action a b c has finish = record {
  does = λ log.
      done_so it.holding.reader.k a (lent b.pass c) (one_deed action it) log has.uses (finishes done.Ok action it.body a.standing b.standing c has.whole finish);
  holds = has.holds;
}
finished_by done.StoreFault it action a b c has finish =
    let ended = finishes done.StoreFault action it.body a.standing b.standing c has.whole finish in
    λ log. broke_so end.StoreFault it.holding.reader.k it.holding.held.n a (lent b.pass c) (one_deed action it) log ended.0 has.uses ended.1 has.holds.cursor
finished_by done.LaunchFault it action a b c has finish =
    let ended = finishes done.LaunchFault action it.body a.standing b.standing c has.whole finish in
    λ log. broke_so end.LaunchFault it.holding.reader.k it.holding.held.n a (lent b.pass c) (one_deed action it) log ended.0 has.uses ended.1 has.holds.cursor

-- ---- one after another

-- nothing was done
pub does_nothing : (it : Bodied) (now : Lent) → IsHeld now.pass it.holding it.body → DoesHeld it [] now now
does_nothing it now holds = record { does = λ log. does_none it.holding.reader.k (with_log now log); holds = holds }

-- what was chosen in front was done, and this is left
pub record KeepsChosen (holding : Holding) (all rest : List Chosen) (old new : Lent) : Type 0 where
  pub same : IsSamePass old.pass new.pass
  pub keeps : KeepsUnlessSpent new.standing
  pub does : (body : List ℕ) → IsHeld old.pass holding body
      → (deeds : List Deed) × (deeds ++ deeds_by body rest ≡ deeds_by body all) × DoesHeld (bodied holding body) deeds old new

pub chosen_begins : (holding : Holding) (all rest : List Chosen) (now : Lent) → rest ≡ all → KeepsUnlessSpent now.standing → KeepsChosen holding all rest now now
chosen_begins holding all rest now is keeps = record {
  same = refl;
  keeps = keeps;
  does = λ body holds. ([], ap (deeds_by body) is, does_nothing (bodied holding body) now holds);
}

-- one more was done
pub chosen_goes_on : (holding : Holding) (all rest : List Chosen) (it : Chosen) (a b c : Lent) → KeepsChosen holding all (it ∷ rest) a b → IsSamePass b.pass c.pass
    → KeepsUnlessSpent c.standing → ((body : List ℕ) → IsHeld b.pass holding body → DoesHeld (bodied holding body) (deed_by body it.decision) b c)
    → KeepsChosen holding all rest a c
chosen_goes_on holding all rest it a b c so_far same keeps step = record {
  same = same_then a.pass b.pass c.pass so_far.same same;
  keeps = keeps;
  does = λ body holds.
      let one = so_far.does body holds in
      let two = step body one.2.holds in
      let deeds = deed_by body it.decision in (
        one.0 ++ deeds,
        append_assoc one.0 deeds (deeds_by body rest) ∙ one.1,
        record {
          does = λ log.
              does_then holding.reader.k (product_work one.0 []) (product_work deeds []) (with_log a log) (with_log b log) (with_log c log) (one.2.does log) (two.does log);
          holds = two.holds;
        },
      );
}

-- one that broke off
pub chosen_breaks : (why : ActEnd) (holding : Holding) (all rest : List Chosen) (it : Chosen) (a b c : Lent) → KeepsChosen holding all (it ∷ rest) a b
    → ((body : List ℕ) → IsHeld b.pass holding body → DoesAll (Err why) (bodied holding body) (deed_by body it.decision) b c)
    → (body : List ℕ) → IsHeld a.pass holding body → DoesAll (Err why) (bodied holding body) (deeds_by body all) a c
chosen_breaks why holding all rest it a b c so_far step body holds log =
    let one = so_far.does body holds in
    let here = with_log a log in
    let there = with_log c log in
    let deeds = deed_by body it.decision in
    subst (λ (ds : List Deed). Breaks why holding.reader.k (only_in_hand (product_work ds [])) here there) one.1
    (breaks_behind why holding.reader.k (product_work one.0 []) (product_work (deeds ++ deeds_by body rest) []) here (with_log b log) there (one.2.does log)
    (breaks_before why holding.reader.k deeds (deeds_by body rest) (with_log b log) there (step body one.2.holds log)))

-- nothing is left
pub chosen_whole : (holding : Holding) (all rest : List Chosen) (old new : Lent) → length rest ≡ 0 → KeepsChosen holding all rest old new
    → (body : List ℕ) → IsHeld old.pass holding body → DoesHeld (bodied holding body) (deeds_by body all) old new
chosen_whole holding all [] old new empty so_far body holds =
    let one = so_far.does body holds in
    subst (λ (ds : List Deed). DoesHeld (bodied holding body) ds old new) (sym (append-nil one.0) ∙ one.1) one.2
chosen_whole holding all (it ∷ rest) old new empty so_far body holds = absurd (omega arith)

-- ---- bytes that are at hand

of_outputs : (why : ActEnd) (result : Done) → done_result result ≡ Err why → IsOfOutputs why
of_outputs why done.Ok is = absurd cc
of_outputs why done.StoreFault is = let same : end.StoreFault ≡ why = cc is in subst IsOfOutputs same tt
of_outputs why done.LaunchFault is = let same : end.LaunchFault ≡ why = cc is in subst IsOfOutputs same tt

-- the action could not be begun
pub unbegun : (why : ActEnd) (result : Begun) (action : Action) (bytes : List ℕ) (a b : Standing) → begun_result result ≡ Err why → Begins result action a b
    → ActsWith (Err why) action bytes a b
unbegun why result action bytes a b is began =
    let ended = subst (λ (r : Result (Unit {0}) ActEnd). BeganResult r action a b) is (begins result action a b began) in (ended.0, ended.1 bytes)

pub began_hand : (action : Action) (a b : Standing) → Began action a b → HasHand b.outputs
began_hand action a b began unspent = some_hand b.outputs.hand (Some (in_hand action)) began.in_hand.in_hand refl

-- it was not given all bytes
pub ungiven : (why : ActEnd) (result : Done) (action : Action) (bytes : List ℕ) (a b c : Standing) → done_result result ≡ Err why → Began action a b
    → Gives result bytes b c → ActsWith (Err why) action bytes a c
ungiven why result action bytes a b c is began gives = (
  of_outputs why result is,
  breaks_in_body why action bytes a b c began
      (subst (λ (r : Result (Unit {0}) ActEnd). GivesResult r (in_hand action) bytes b c) is (gives_piece result (in_hand action) bytes b c began.in_hand gives)),
)

pub given_whole : (result : Done) (action : Action) (bytes : List ℕ) (a b c : Standing) → done_result result ≡ Ok tt → Began action a b → Gives result bytes b c
    → Whole action bytes a c
given_whole result action bytes a b c is began gives =
    has_body action bytes a b c began
    (subst (λ (r : Result (Unit {0}) ActEnd). GivesResult r (in_hand action) bytes b c) is (gives_piece result (in_hand action) bytes b c began.in_hand gives))

pub whole_hand : (action : Action) (bytes : List ℕ) (a b : Standing) → Whole action bytes a b → HasHand b.outputs
whole_hand action bytes a b whole unspent = some_hand b.outputs.hand (Some (in_hand action)) whole.hand_now.in_hand refl

-- it was finished, or not
pub finished_with : (result : Done) (action : Action) (bytes : List ℕ) (a b c : Standing) → Whole action bytes a b → Finishes result b c
    → ActsWith (done_result result) action bytes a c
finished_with done.Ok action bytes a b c whole finish = finishes done.Ok action bytes a b c whole finish
finished_with done.StoreFault action bytes a b c whole finish = finishes done.StoreFault action bytes a b c whole finish
finished_with done.LaunchFault action bytes a b c whole finish = finishes done.LaunchFault action bytes a b c whole finish

-- by how it ended
pub does_by : (why : ActEnd) (action : Action) (bytes : List ℕ) (a b : Standing) → ActsWith (Err why) action bytes a b → DoesBy why ((action, bytes) ∷ []) a b
does_by end.Stopped action bytes a b does = absurd does.0
does_by end.StoreFault action bytes a b does = does
does_by end.LaunchFault action bytes a b does = does
does_by end.LogFault action bytes a b does = does
does_by end.AllBusy action bytes a b does = does
does_by end.Worn action bytes a b does = does
does_by end.OutOfMemory action bytes a b does = does
