-- A product that is held: its lines are logged, its actions done, and it is let go.
use Rattle.std.proofs.Common.{◌≡◌, ◌∙◌, ℕ, List, [], ◌++◌, Some, None, Err, refl, sym, ap, subst, append-nil, arith}
use Rattle.ldm_model.specs.declared.event.Event.TheVariants as event
use Rattle.ldm_model.specs.declared.event.Reply.TheVariants as reply
use Rattle.ldm_outside.specs.Io.{SinkRecord}
use Rattle.ldm_outside.proofs.CallerLemmas.{Takes-nothing}
use Rattle.ldm_shared.specs.Passes.{PassView, FindsWorn, Grows}
use Rattle.ldm_shared.specs.Reader.{HasCursor}
use Rattle.ldm_pqact_conf.specs.Entries.{EntryView}
use Rattle.ldm_pqact_match.specs.declared.chosen.Chosen.{Chosen}
use Rattle.ldm_pqact.specs.declared.end.ActEnd.{ActEnd}
use Rattle.ldm_pqact.specs.declared.end.ActEnd.TheVariants as end
use Rattle.ldm_pqact.specs.declared.holding.Holding.{Holding}
use Rattle.ldm_pqact.specs.Acting.{Breaks, Does, LetsGo}
use Rattle.ldm_pqact.specs.Handling.{DoesAll, DoesHeld, IsHeld, Lent, Noted, NotedInPart, bodied, lent, lines_for, with_log, work_for}
use Rattle.ldm_pqact.specs.Turns.{deeds_by}
use Rattle.ldm_pqact.specs.Work.{Work, no_work, only_in_hand, product_work, work_then}
use Rattle.ldm_pqact.proofs.Acts.{breaks_behind, does_then, front_none, front_of}
use Rattle.ldm_pqact.proofs.Carrying.{Deed, breaks_off_here, stands_none}
use Rattle.ldm_shared.proofs.Using.{uses_none, uses_release, uses_worn}

-- its lines were not logged, or in part; and nothing else was done
pub handled_unnoted : (why : ActEnd) (entries : List EntryView) (holding : Holding) (body : List ℕ) (now : Lent) (log log' : SinkRecord) → IsHeld now.pass holding body
    → NotedInPart why entries holding.held log log'
    → Breaks why holding.reader.k (only_in_hand (work_for entries holding.held body)) (with_log now log) (with_log now log')
handled_unnoted end.OutOfMemory entries holding body now log log' holds same =
    let k = holding.reader.k in
    let work = only_in_hand (work_for entries holding.held body) in
    subst (λ (l : SinkRecord). Breaks end.OutOfMemory k work (with_log now log) (with_log now l)) (sym same)
    (record {
      uses = uses_none k now.pass;
      carried = breaks_off_here end.OutOfMemory work.in_hand.deeds now.standing refl refl;
      logged = front_none log log work.in_hand.lines refl;
      log_count = omega arith;
      cause = tt;
      cursor = (Some holding.held.n, holds.cursor);
    })
handled_unnoted end.LogFault entries holding body now log log' holds failed =
    let work = work_for entries holding.held body in
    record {
      uses = uses_none holding.reader.k now.pass;
      carried = breaks_off_here end.LogFault work.deeds now.standing refl refl;
      logged = front_of log log' work.lines failed.1;
      log_count = failed.0;
      cause = tt;
      cursor = (Some holding.held.n, holds.cursor);
    }
handled_unnoted end.Stopped entries holding body now log log' holds none = absurd none
handled_unnoted end.StoreFault entries holding body now log log' holds none = absurd none
handled_unnoted end.LaunchFault entries holding body now log log' holds none = absurd none
handled_unnoted end.AllBusy entries holding body now log log' holds none = absurd none
handled_unnoted end.Worn entries holding body now log log' holds none = absurd none

module _ (entries : List EntryView) (holding : Holding) (body : List ℕ) (chosen : List Chosen) (log log' : SinkRecord) (noted : Noted entries holding.held chosen log log') where
  abbrev k : ℕ
  k = holding.reader.k

  abbrev lines : List ℕ
  lines = lines_for entries holding.held

  abbrev work : Work
  work = work_for entries holding.held body

  -- what was chosen is what the entries choose
  abbrev deeds : List Deed
  deeds = deeds_by body chosen

  deeds_are : product_work deeds lines ≡ work
  deeds_are = ap (λ (them : List Chosen). product_work (deeds_by body them) lines) noted.chosen_are

  -- lines were logged, and nothing else was done
  does_log : (now : Lent) → Does k (product_work [] lines) (with_log now log) (with_log now log')
  does_log now = record { uses = uses_none k now.pass; carried = stands_none now.standing; logged = noted.takes; log_faults = noted.faults }

  -- an action broke off
  pub handled_broken : (why : ActEnd) (a b : Lent) → DoesAll (Err why) (bodied holding body) deeds a b → Breaks why k (only_in_hand work) (with_log a log) (with_log b log')
  handled_broken why a b broke =
      subst (λ (w : Work). Breaks why k (only_in_hand w) (with_log a log) (with_log b log'))
      (ap (λ (ls : List ℕ). product_work deeds ls) (append-nil lines) ∙ deeds_are)
      (breaks_behind why k (product_work [] lines) (product_work deeds []) (with_log a log) (with_log a log') (with_log b log') (does_log a) (broke log'))

  -- all were done
  does_held : (a b : Lent) → DoesHeld (bodied holding body) deeds a b → Does k work (with_log a log) (with_log b log')
  does_held a b done =
      subst (λ (w : Work). Does k w (with_log a log) (with_log b log')) (ap (λ (ls : List ℕ). product_work deeds ls) (append-nil lines) ∙ deeds_are)
      (does_then k (product_work [] lines) (product_work deeds []) (with_log a log) (with_log a log') (with_log b log') (does_log a) (done.does log'))

  -- no work behind it
  work_alone : work_then work no_work ≡ work
  work_alone =
      ap (λ (ds : List Deed). product_work ds (lines ++ [])) (append-nil work.deeds) ∙ ap (λ (ls : List ℕ). product_work work.deeds ls) (append-nil lines)

  -- it was let go
  pub handled_gone : (a b : Lent) (new : PassView) → DoesHeld (bodied holding body) deeds a b → Grows b.pass new (event.Release k) (reply.Released holding.held.n)
      → HasCursor new k None → LetsGo k work (with_log a log) (with_log (lent new b.standing) log')
  handled_gone a b new done grows cursor =
      let gone = with_log (lent new b.standing) log' in
      let last : Does k no_work (with_log b log') gone = record {
        uses = uses_release k b.pass new (reply.Released holding.held.n) grows;
        carried = stands_none b.standing;
        logged = Takes-nothing log' log' refl;
        log_faults = omega arith;
      } in
      record {
        does =
            subst (λ (w : Work). Does k w (with_log a log) gone) work_alone
            (does_then k work no_work (with_log a log) (with_log b log') gone (does_held a b done) last);
        cursor = cursor;
      }

  -- the queue had had all its calls
  pub handled_worn : (a b : Lent) (new : PassView) (turns : ℕ) → DoesHeld (bodied holding body) deeds a b → FindsWorn b.pass new turns
      → Breaks end.Worn k (only_in_hand work) (with_log a log) (with_log (lent new b.standing) log')
  handled_worn a b new turns done worn =
      let gone = with_log (lent new b.standing) log' in
      let last : Breaks end.Worn k (only_in_hand no_work) (with_log b log') gone = record {
        uses = uses_worn k turns b.pass new worn;
        carried = breaks_off_here end.Worn [] b.standing refl refl;
        logged = front_none log' log' [] refl;
        log_count = omega arith;
        cause = worn.long ∙ worn.turns_are;
        cursor = tt;
      } in
      subst (λ (w : Work). Breaks end.Worn k (only_in_hand w) (with_log a log) gone) work_alone
      (breaks_behind end.Worn k work no_work (with_log a log) (with_log b log') gone (does_held a b done) last)
