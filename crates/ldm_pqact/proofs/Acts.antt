-- What was done one after another, and where it broke off.
use Rattle.std.proofs.Common.{◌≡◌, ◌∙◌, ℕ, ◌≤◌, List, [], ◌++◌, refl, sym, ap, subst, append_assoc, arith}
use Rattle.ldm_model.specs.declared.event.Reply.{Reply}
use Rattle.ldm_outside.specs.Io.{SinkRecord, Takes, WritesFront}
use Rattle.ldm_outside.proofs.CallerLemmas.{Rose-later, Takes-nothing, Takes-then}
use Rattle.ldm_pqact.specs.declared.end.ActEnd.{ActEnd}
use Rattle.ldm_pqact.specs.declared.end.ActEnd.TheVariants as end
use Rattle.ldm_pqact.specs.Acting.{Breaks, Does, EndsSo, LogCount, LogsFront, Sight}
use Rattle.ldm_shared.specs.Uses.{Uses}
use Rattle.ldm_pqact.specs.Work.{Parted, Work, no_work, only_in_hand, product_work, replies_of, work_then}
use Rattle.ldm_pqact.proofs.Carrying.{Deed, breaks_off_before, breaks_off_behind, breaks_off_then, stands_then, stands_none}
use Rattle.ldm_shared.proofs.Using.{uses_none, uses_then}

pub does_none : (k : ℕ) (now : Sight) → Does k no_work now now
does_none k now = record {
  uses = uses_none k now.pass;
  carried = stands_none now.standing;
  logged = Takes-nothing now.log now.log refl;
  log_faults = omega arith;
}

pub does_then : (k : ℕ) (one two : Work) (a b c : Sight) → Does k one a b → Does k two b c → Does k (work_then one two) a c
does_then k one two a b c first second = record {
  uses = uses_then k a.pass b.pass c.pass one.answers two.answers first.uses second.uses;
  carried = stands_then one.deeds two.deeds a.standing b.standing c.standing first.carried second.carried;
  logged = Takes-then a.log b.log c.log one.lines two.lines first.logged second.logged;
  log_faults = omega (arith, first.log_faults, second.log_faults);
}

-- the earlier lines are more
front_then : (a b c : SinkRecord) (ls earlier ms : List ℕ) → Takes a ls b → LogsFront earlier ms b c → LogsFront (ls ++ earlier) ms a c
front_then a b c ls earlier ms one two = record {
  front = two.front;
  rest = two.rest;
  are = two.are;
  logged = subst (λ (x : List ℕ). Takes a x c) (sym (append_assoc ls earlier two.front)) (Takes-then a b c ls (earlier ++ two.front) one two.logged);
}

-- the first of the lines in hand were written
front_behind : (a b c : SinkRecord) (ls ms : List ℕ) → Takes a ls b → LogsFront [] ms b c → LogsFront [] (ls ++ ms) a c
front_behind a b c ls ms one two = record {
  front = ls ++ two.front;
  rest = two.rest;
  are = append_assoc ls two.front two.rest ∙ ap (λ (x : List ℕ). ls ++ x) two.are;
  logged = Takes-then a b c ls two.front one two.logged;
}

-- nothing was written
pub front_none : (a b : SinkRecord) (ls : List ℕ) → b.written ≡ a.written → LogsFront [] ls a b
front_none a b ls same = record { front = []; rest = ls; are = refl; logged = Takes-nothing a b same }

pub front_of : (a b : SinkRecord) (ls : List ℕ) → WritesFront a ls b → LogsFront [] ls a b
front_of a b ls wrote = record { front = wrote.0; rest = wrote.1; are = wrote.2; logged = wrote.3 }

log_count_then : (why : ActEnd) (a b c : SinkRecord) → a.faults ≤ b.faults → LogCount why b c → LogCount why a c
log_count_then end.Stopped a b c one two = omega (arith, one, two)
log_count_then end.StoreFault a b c one two = omega (arith, one, two)
log_count_then end.LaunchFault a b c one two = omega (arith, one, two)
log_count_then end.LogFault a b c one two = Rose-later a.faults b.faults c.faults one two
log_count_then end.AllBusy a b c one two = omega (arith, one, two)
log_count_then end.Worn a b c one two = omega (arith, one, two)
log_count_then end.OutOfMemory a b c one two = omega (arith, one, two)

-- the earlier work is more
pub breaks_then : (why : ActEnd) (k : ℕ) (first : Work) (work : Parted) (a b c : Sight) → Does k first a b → Breaks why k work b c
    → Breaks why k (record { whole = work_then first work.whole; in_hand = work.in_hand }) a c
breaks_then why k first work a b c one two = record {
  uses =
      subst (λ (xs : List Reply). Uses k a.pass c.pass xs) (sym (append_assoc first.answers work.whole.answers work.in_hand.answers))
      (uses_then k a.pass b.pass c.pass first.answers (replies_of work) one.uses two.uses);
  carried = breaks_off_then why first.deeds work.whole.deeds work.in_hand.deeds a.standing b.standing c.standing one.carried two.carried;
  logged = front_then a.log b.log c.log first.lines work.whole.lines work.in_hand.lines one.logged two.logged;
  log_count = log_count_then why a.log b.log c.log one.log_faults two.log_count;
  cause = two.cause;
  cursor = two.cursor;
}

-- the first of the work in hand was done
pub breaks_behind : (why : ActEnd) (k : ℕ) (first second : Work) (a b c : Sight) → Does k first a b → Breaks why k (only_in_hand second) b c
    → Breaks why k (only_in_hand (work_then first second)) a c
breaks_behind why k first second a b c one two = record {
  uses = uses_then k a.pass b.pass c.pass first.answers second.answers one.uses two.uses;
  carried = breaks_off_behind why first.deeds second.deeds a.standing b.standing c.standing one.carried two.carried;
  logged = front_behind a.log b.log c.log first.lines second.lines one.logged two.logged;
  log_count = log_count_then why a.log b.log c.log one.log_faults two.log_count;
  cause = two.cause;
  cursor = two.cursor;
}

-- more actions were to come
pub breaks_before : (why : ActEnd) (k : ℕ) (first second : List Deed) (a b : Sight) → Breaks why k (only_in_hand (product_work first [])) a b
    → Breaks why k (only_in_hand (product_work (first ++ second) [])) a b
breaks_before why k first second a b one = record {
  uses = one.uses;
  carried = breaks_off_before why first second a.standing b.standing one.carried;
  logged = one.logged;
  log_count = one.log_count;
  cause = one.cause;
  cursor = one.cursor;
}

-- an end at which it broke off
pub broken : (why : ActEnd) (k : ℕ) (work : Parted) (a b : Sight) → Breaks why k work a b → EndsSo why k work a b
broken end.Stopped k work a b one = absurd one.cause
broken end.StoreFault k work a b one = one
broken end.LaunchFault k work a b one = one
broken end.LogFault k work a b one = one
broken end.AllBusy k work a b one = one
broken end.Worn k work a b one = one
broken end.OutOfMemory k work a b one = one
