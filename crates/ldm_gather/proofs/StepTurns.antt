-- Turns, one after another, and where they end.
use Rattle.std.proofs.Common.{◌≡◌, ◌∙◌, ℕ, ◌+◌, ◌<◌, ◌≤◌, List, [], ◌∷◌, ◌++◌, length, map, Option, Some, None, inl, inr, refl, sym, ap, subst, append_assoc, arith, length-append}
use Rattle.std.specs.Option.{ForSome}
use Rattle.std.proofs.lemmas.List.{append-nil, map-append}
use Rattle.std.proofs.lemmas.List.Concat.{flat_map-append}
use Rattle.ldm_model.specs.declared.event.Event.TheVariants as event
use Rattle.ldm_model.specs.declared.event.Reply.{Reply}
use Rattle.ldm_model.specs.declared.event.Reply.TheVariants as reply
use Rattle.ldm_outside.specs.Count.{Rose}
use Rattle.ldm_outside.specs.Io.{SinkRecord, Takes, WritesFront}
use Rattle.ldm_outside.proofs.CallerLemmas.{Rose-later, Takes-nothing, Takes-then}
use Rattle.ldm_session.specs.declared.gaps.TheConstants.{LONGEST_NAME}
use Rattle.ldm_shared.specs.declared.steps.TheConstants.{MOST_TURNS}
use Rattle.ldm_shared.specs.Passes.{PassView, FindsWorn, Grows, IsSamePass}
use Rattle.ldm_shared.specs.Reader.{HasCursor}
use Rattle.ldm_gather.specs.declared.taker.Taken.{Taken}
use Rattle.ldm_gather.specs.declared.taker.Taken.TheVariants as taken
use Rattle.ldm_gather.specs.declared.taker.EachStop.{EachStop}
use Rattle.ldm_gather.specs.declared.taker.EachStop.TheVariants.{ByTaker, LogFault, Worn}
use Rattle.ldm_gather.specs.declared.each.Each.{Each}
use Rattle.ldm_gather.specs.declared.each.Stepped.{Stepped}
use Rattle.ldm_gather.specs.declared.each.Stepped.TheVariants.{On, AtEnd, Enough, Stopped}
use Rattle.ldm_gather.specs.EachHandling.{IsGoing, IsSameEach, tap_in}
use Rattle.ldm_shared.specs.Givens.{Gave, Given, Lost, Turn, count_of, products_of, turn_product, turn_reply}
use Rattle.ldm_gather.specs.Losses.{lines_of, turn_lines}
use Rattle.ldm_gather.specs.Stepping.{Breaks, CountsOff, CountsOne, Does, DoesAll, IsEnd, Sight, Steps, StepsBy, StopCause, Tap, sight_of}
use Rattle.ldm_gather.specs.Taking.{Hands, TakesAll}
use Rattle.ldm_shared.specs.Uses.{Uses}
use Rattle.ldm_shared.proofs.Using.{HasRowIn, RowsStay, count_of-append, row_stays, rows_then, same_then, uses_none, uses_release, uses_step, uses_then, uses_worn}

-- ---- counts

pub counts-then : (left mid after : Option ℕ) (n m : ℕ) → CountsOff left n mid → CountsOff mid m after → CountsOff left (n + m) after
counts-then None None None n m one two = tt
counts-then None None (Some a) n m one two = absurd two
counts-then None (Some x) after n m one two = absurd one
counts-then (Some l) None after n m one two = absurd one
counts-then (Some l) (Some x) None n m one two = absurd two
counts-then (Some l) (Some x) (Some a) n m one two = (omega (arith, one.0, two.0), two.1)

pub counts-enough : (left mid : Option ℕ) (n m : ℕ) → CountsOff left n mid → mid ≡ Some m → left ≡ Some (n + m)
counts-enough None None n m one two = absurd (cc two)
counts-enough None (Some x) n m one two = absurd one
counts-enough (Some l) None n m one two = absurd one
counts-enough (Some l) (Some x) n m one two =
    let same : x ≡ m = cc two in
    let sum : l ≡ n + m = omega (arith, one.0, same) in
    ap (λ (i : ℕ). Some i) sum

pub counts-none : (left : Option ℕ) → ForSome left (λ n. 0 < n) → CountsOff left 0 left
counts-none None some = tt
counts-none (Some l) some = (omega arith, some l refl)

pub counts-some : (left after : Option ℕ) (n : ℕ) → CountsOff left n after → ForSome after (λ m. 0 < m)
counts-some None None n counts x is = absurd (cc is)
counts-some None (Some a) n counts x is = absurd counts
counts-some (Some l) None n counts x is = absurd counts
counts-some (Some l) (Some a) n counts x is = let same : a ≡ x = cc is in subst (λ (m : ℕ). 0 < m) same counts.1

count_then : (left mid after : Option ℕ) (first second : List Turn) → CountsOff left (count_of first) mid → CountsOff mid (count_of second) after → CountsOff left (count_of (first ++ second)) after
count_then left mid after first second one two =
    subst (λ (n : ℕ). CountsOff left n after) (sym (count_of-append first second)) (counts-then left mid after (count_of first) (count_of second) one two)

answers_then : (first second : List Turn) (more : List Reply) → (map turn_reply first ++ []) ++ (map turn_reply second ++ more) ≡ map turn_reply (first ++ second) ++ more
answers_then first second more =
    ap (λ (xs : List Reply). xs ++ (map turn_reply second ++ more)) (append-nil (map turn_reply first))
    ∙ (sym (append_assoc (map turn_reply first) (map turn_reply second) more) ∙ ap (λ (xs : List Reply). xs ++ more) (sym (map-append turn_reply first second)))

behind : (first second front : List ℕ) (both : List ℕ) → first ++ second ≡ both → first ++ (second ++ front) ≡ both ++ front
behind first second front both is = sym (append_assoc first second front) ∙ ap (λ (xs : List ℕ). xs ++ front) is

pub is_end : (stepped : Stepped) → (stepped ≡ On → ⊥) → IsEnd stepped
is_end On not_on = not_on refl
is_end AtEnd not_on = tt
is_end Enough not_on = tt
is_end (Stopped why) not_on = tt

module _ {T A : Type 0} where
  -- ---- what is done, one after another

  does_none : (tap : Tap) (now : Sight T A) → Does tap [] [] [] now now
  does_none tap now = record { uses = uses_none tap.k now.pass; logged = Takes-nothing now.log now.log refl; rows = tt; log_kept = omega arith }

  does_same : (tap : Tap) (xs ys : List Reply) (ts us : List Turn) (ls ms : List ℕ) (a b : Sight T A) → xs ≡ ys → ts ≡ us → ls ≡ ms → Does tap xs ts ls a b → Does tap ys us ms a b
  does_same tap xs ys ts us ls ms a b x t l does =
      subst (λ (o : List Reply). Does tap o us ms a b) x
      (subst (λ (o : List Turn). Does tap xs o ms a b) t (subst (λ (o : List ℕ). Does tap xs ts o a b) l does))

  does_then : (law : RowsStay) (tap : Tap) (xs ys : List Reply) (ts us : List Turn) (ls ms : List ℕ) (a b c : Sight T A) → Does tap xs ts ls a b → Does tap ys us ms b c
      → Does tap (xs ++ ys) (ts ++ us) (ls ++ ms) a c
  does_then law tap xs ys ts us ls ms a b c one two = record {
    uses = uses_then tap.k a.pass b.pass c.pass xs ys one.uses two.uses;
    logged = Takes-then a.log b.log c.log ls ms one.logged two.logged;
    rows = rows_then law b.pass c.pass two.uses.called ts us two.uses.calls one.rows two.rows;
    log_kept = omega (arith, one.log_kept, two.log_kept);
  }

  cause_later : (why : EachStop) (a b c : Sight T A) → a.log.faults ≤ b.log.faults → StopCause why b c → StopCause why a c
  cause_later ByTaker a b c log cause = tt
  cause_later LogFault a b c log cause = Rose-later a.log.faults b.log.faults c.log.faults log cause
  cause_later Worn a b c log cause = cause

module _ {T A : Type 0} (takes : Taken → Given → Hands T A → Hands T A → Type 0) where
  takes_then : (first second : List Given) (a b c : Hands T A) → TakesAll takes first a b → TakesAll takes second b c → TakesAll takes (first ++ second) a c
  takes_then [] second a b c one two = subst (λ (h : Hands T A). TakesAll takes second h c) one two
  takes_then (given ∷ first) second a b c one two = (one.0, one.1, takes_then first second one.0 b c one.2 two)

  pub took_then : (first second : List Turn) (a b c : Hands T A) → TakesAll takes (products_of first) a b → TakesAll takes (products_of second) b c
      → TakesAll takes (products_of (first ++ second)) a c
  took_then first second a b c one two =
      subst (λ (gs : List Given). TakesAll takes gs a c) (sym (flat_map-append turn_product first second)) (takes_then (products_of first) (products_of second) a b c one two)

  -- ---- turns behind others

  all_then : (law : RowsStay) (tap : Tap) (first second : List Turn) (more : List Reply) (a b c : Sight T A) → DoesAll takes tap first [] a b → DoesAll takes tap second more b c
      → DoesAll takes tap (first ++ second) more a c
  all_then law tap first second more a b c one two = record {
    does =
        does_same tap _ (map turn_reply (first ++ second) ++ more) _ (first ++ second) _ (lines_of tap.name (first ++ second)) a c
        (answers_then first second more) refl (sym (flat_map-append (turn_lines tap.name) first second))
        (does_then law tap (map turn_reply first ++ []) (map turn_reply second ++ more) first second (lines_of tap.name first) (lines_of tap.name second) a b c one.does two.does);
    taken = took_then first second a.hands b.hands c.hands one.taken two.taken;
  }

  breaks_then : (law : RowsStay) (tap : Tap) (why : EachStop) (first second : List Turn) (a b c : Sight T A) → DoesAll takes tap first [] a b → Breaks takes tap why second b c
      → Breaks takes tap why (first ++ second) a c
  breaks_then law tap why first second a b c one two =
      let last = two.in_hand in
      let whole = append_assoc first second last in
      record {
        in_hand = last;
        mid = two.mid;
        lines = two.lines;
        are_front = two.are_front;
        does =
            does_same tap _ (map turn_reply ((first ++ second) ++ last)) _ ((first ++ second) ++ last) _ (lines_of tap.name (first ++ second) ++ two.lines) a c
            (ap (λ (xs : List Reply). xs ++ map turn_reply (second ++ last)) (append-nil (map turn_reply first))
            ∙ (sym (map-append turn_reply first (second ++ last)) ∙ ap (map turn_reply) (sym whole)))
            (sym whole)
            (behind (lines_of tap.name first) (lines_of tap.name second) two.lines (lines_of tap.name (first ++ second)) (sym (flat_map-append (turn_lines tap.name) first second)))
            (does_then law tap (map turn_reply first ++ []) (map turn_reply (second ++ last)) first (second ++ last) (lines_of tap.name first)
            (lines_of tap.name second ++ two.lines) a b c one.does two.does);
        taken = took_then first second a.hands b.hands two.mid one.taken two.taken;
        last = two.last;
        cause = cause_later why a b c one.does.log_kept two.cause;
      }

  pub steps_then : (law : RowsStay) (tap : Tap) (stepped : Stepped) (first second : List Turn) (a b c : Sight T A) → StepsBy takes tap On first a b
      → StepsBy takes tap stepped second b c → StepsBy takes tap stepped (first ++ second) a c
  steps_then law tap On first second a b c one two =
      (all_then law tap first second [] a b c one.0 two.0, count_then a.left b.left c.left first second one.1 two.1, two.2)
  steps_then law tap AtEnd first second a b c one two =
      ((two.0.0, all_then law tap first second (reply.End two.0.0 ∷ []) a b c one.0 two.0.1), count_then a.left b.left c.left first second one.1 two.1, two.2)
  steps_then law tap Enough first second a b c one two = (
    all_then law tap first second [] a b c one.0 two.0,
    counts-enough a.left b.left (count_of first) (count_of second) one.1 two.1 ∙ ap (λ (n : ℕ). Some n) (sym (count_of-append first second)),
  )
  steps_then law tap (Stopped why) first second a b c one two =
      (breaks_then law tap why first second a b c one.0 two.0, count_then a.left b.left c.left first second one.1 two.1)

  -- ---- one turn

  stepped_so : (tap : Tap) (left after : Option ℕ) (hands hands' : Hands T A) (old new : PassView) (log : SinkRecord) (answer : Reply) → Grows old new (event.Step tap.k) answer
      → Does tap (answer ∷ []) [] [] (sight_of left hands old log) (sight_of after hands' new log)
  stepped_so tap left after hands hands' old new log answer grows =
      record { uses = uses_step tap.k old new answer grows; logged = Takes-nothing log log refl; rows = tt; log_kept = omega arith }

  pub lost : (tap : Tap) (count first last : ℕ) (left : Option ℕ) (hands : Hands T A) (old new : PassView) (log log' : SinkRecord) → Grows old new (event.Step tap.k) (reply.Gap count first last)
      → Takes log (turn_lines tap.name (Lost count first last)) log' → log.faults ≤ log'.faults → HasCursor new tap.k None → ForSome left (λ n. 0 < n)
      → Steps takes tap On (sight_of left hands old log) (sight_of left hands new log')
  lost tap count first last left hands old new log log' grows line kept cursor some = record {
    turns = Lost count first last ∷ [];
    steps = (
      record {
        does = record {
          uses = uses_step tap.k old new (reply.Gap count first last) grows;
          logged = subst (λ (ls : List ℕ). Takes log ls log') (sym (append-nil (turn_lines tap.name (Lost count first last)))) line;
          rows = tt;
          log_kept = kept;
        };
        taken = refl;
      },
      counts-none left some,
      cursor,
    );
  }

  pub unlogged : (tap : Tap) (count first last : ℕ) (left : Option ℕ) (hands : Hands T A) (old new : PassView) (log log' : SinkRecord) → Grows old new (event.Step tap.k) (reply.Gap count first last)
      → Rose log.faults log'.faults → WritesFront log (turn_lines tap.name (Lost count first last)) log' → log.faults ≤ log'.faults → ForSome left (λ n. 0 < n)
      → Steps takes tap (Stopped LogFault) (sight_of left hands old log) (sight_of left hands new log')
  unlogged tap count first last left hands old new log log' grows rose front kept some = record {
    turns = [];
    steps = (
      record {
        in_hand = Lost count first last ∷ [];
        mid = hands;
        lines = front.0;
        are_front = record { rest = front.1; is = front.2 ∙ sym (append-nil (turn_lines tap.name (Lost count first last))) };
        does = record { uses = uses_step tap.k old new (reply.Gap count first last) grows; logged = front.3; rows = tt; log_kept = kept };
        taken = refl;
        last = refl;
        cause = rose;
      },
      counts-none left some,
    );
  }

  pub at_end : (tap : Tap) (at : ℕ) (left : Option ℕ) (hands : Hands T A) (old new : PassView) (log : SinkRecord) → Grows old new (event.Step tap.k) (reply.End at) → HasCursor new tap.k None
      → ForSome left (λ n. 0 < n) → Steps takes tap AtEnd (sight_of left hands old log) (sight_of left hands new log)
  at_end tap at left hands old new log grows cursor some = record {
    turns = [];
    steps = ((at, record { does = stepped_so tap left left hands hands old new log (reply.End at) grows; taken = refl }), counts-none left some, cursor);
  }

  pub unstepped : (tap : Tap) (turns : ℕ) (left : Option ℕ) (hands : Hands T A) (old new : PassView) (log : SinkRecord) → FindsWorn old new turns → ForSome left (λ n. 0 < n)
      → Steps takes tap (Stopped Worn) (sight_of left hands old log) (sight_of left hands new log)
  unstepped tap turns left hands old new log worn some = record {
    turns = [];
    steps = (
      record {
        in_hand = [];
        mid = hands;
        lines = [];
        are_front = record { rest = []; is = refl };
        does = record { uses = uses_worn tap.k turns old new worn; logged = Takes-nothing log log refl; rows = tt; log_kept = omega arith };
        taken = refl;
        last = refl;
        cause = worn.long ∙ worn.turns_are;
      },
      counts-none left some,
    );
  }

  -- the calls that a product takes: a step, what the taker does, and perhaps a release
  uses_product : (tap : Tap) (given : Given) (old mid took new : PassView) → Grows old mid (event.Step tap.k) (turn_reply (Gave given)) → Uses tap.k mid took [] → Uses tap.k took new []
      → Uses tap.k old new (turn_reply (Gave given) ∷ [])
  uses_product tap given old mid took new grows one two =
      uses_then tap.k old mid new (turn_reply (Gave given) ∷ []) [] (uses_step tap.k old mid (turn_reply (Gave given)) grows) (uses_then tap.k mid took new [] [] one two)

  gave_does : (law : RowsStay) (tap : Tap) (given : Given) (left after : Option ℕ) (hands hands' : Hands T A) (old mid took new : PassView) (log : SinkRecord)
      → Grows old mid (event.Step tap.k) (turn_reply (Gave given)) → HasRowIn mid given.n given.product given.time → Uses tap.k mid took [] → Uses tap.k took new []
      → Does tap (turn_reply (Gave given) ∷ []) (Gave given ∷ []) [] (sight_of left hands old log) (sight_of after hands' new log)
  gave_does law tap given left after hands hands' old mid took new log grows row one two = record {
    uses = uses_product tap given old mid took new grows one two;
    logged = Takes-nothing log log refl;
    rows =
        (row_stays law mid new (uses_then tap.k mid took new [] [] one two).called given.n given.product given.time (uses_then tap.k mid took new [] [] one two).calls row, tt);
    log_kept = omega arith;
  }

  pub gave : (law : RowsStay) (tap : Tap) (stepped : Stepped) (given : Given) (left after : Option ℕ) (hands hands' : Hands T A) (old mid took new : PassView) (log : SinkRecord) (released : Reply)
      → Grows old mid (event.Step tap.k) (turn_reply (Gave given)) → HasRowIn mid given.n given.product given.time → Uses tap.k mid took [] → takes taken.On given hands hands'
      → Grows took new (event.Release tap.k) released → HasCursor new tap.k None → CountsOne stepped left after
      → Steps takes tap stepped (sight_of left hands old log) (sight_of after hands' new log)
  gave law tap On given left after hands hands' old mid took new log released grows row uses takes_it gone cursor counts = record {
    turns = Gave given ∷ [];
    steps = (
      record {
        does = gave_does law tap given left after hands hands' old mid took new log grows row uses (uses_release tap.k took new released gone);
        taken = (hands', takes_it, refl);
      },
      counts,
      cursor,
    );
  }
  gave law tap Enough given left after hands hands' old mid took new log released grows row uses takes_it gone cursor counts = record {
    turns = Gave given ∷ [];
    steps = (
      record {
        does = gave_does law tap given left after hands hands' old mid took new log grows row uses (uses_release tap.k took new released gone);
        taken = (hands', takes_it, refl);
      },
      counts,
    );
  }
  gave law tap AtEnd given left after hands hands' old mid took new log released grows row uses takes_it gone cursor counts = absurd counts
  gave law tap (Stopped why) given left after hands hands' old mid took new log released grows row uses takes_it gone cursor counts = absurd counts

  -- the product was taken, and could not be let go
  pub kept_worn : (law : RowsStay) (tap : Tap) (turns : ℕ) (given : Given) (left : Option ℕ) (hands hands' : Hands T A) (old mid took new : PassView) (log : SinkRecord)
      → Grows old mid (event.Step tap.k) (turn_reply (Gave given)) → HasRowIn mid given.n given.product given.time → Uses tap.k mid took [] → takes taken.On given hands hands'
      → FindsWorn took new turns → ForSome left (λ n. 0 < n) → Steps takes tap (Stopped Worn) (sight_of left hands old log) (sight_of left hands' new log)
  kept_worn law tap turns given left hands hands' old mid took new log grows row uses takes_it worn some = record {
    turns = [];
    steps = (
      record {
        in_hand = Gave given ∷ [];
        mid = hands;
        lines = [];
        are_front = record { rest = []; is = refl };
        does = gave_does law tap given left left hands hands' old mid took new log grows row uses (uses_worn tap.k turns took new worn);
        taken = refl;
        last = inl takes_it;
        cause = worn.long ∙ worn.turns_are;
      },
      counts-none left some,
    );
  }

  -- the taker was stopped at the product
  pub gave_part : (law : RowsStay) (tap : Tap) (given : Given) (left : Option ℕ) (hands hands' : Hands T A) (old mid new : PassView) (log : SinkRecord)
      → Grows old mid (event.Step tap.k) (turn_reply (Gave given)) → HasRowIn mid given.n given.product given.time → Uses tap.k mid new [] → takes taken.Stopped given hands hands'
      → ForSome left (λ n. 0 < n) → Steps takes tap (Stopped ByTaker) (sight_of left hands old log) (sight_of left hands' new log)
  gave_part law tap given left hands hands' old mid new log grows row uses takes_it some = record {
    turns = [];
    steps = (
      record {
        in_hand = Gave given ∷ [];
        mid = hands;
        lines = [];
        are_front = record { rest = []; is = refl };
        does = gave_does law tap given left left hands hands' old mid new new log grows row uses (uses_none tap.k new);
        taken = refl;
        last = takes_it;
        cause = tt;
      },
      counts-none left some,
    );
  }

  -- the taker was stopped at the product, since the queue has had all its calls
  pub gave_worn : (law : RowsStay) (tap : Tap) (given : Given) (left : Option ℕ) (hands hands' : Hands T A) (old mid new : PassView) (log : SinkRecord)
      → Grows old mid (event.Step tap.k) (turn_reply (Gave given)) → HasRowIn mid given.n given.product given.time → Uses tap.k mid new [] → takes taken.Worn given hands hands'
      → length new.seen ≡ MOST_TURNS → ForSome left (λ n. 0 < n) → Steps takes tap (Stopped Worn) (sight_of left hands old log) (sight_of left hands' new log)
  gave_worn law tap given left hands hands' old mid new log grows row uses takes_it long some = record {
    turns = [];
    steps = (
      record {
        in_hand = Gave given ∷ [];
        mid = hands;
        lines = [];
        are_front = record { rest = []; is = refl };
        does = gave_does law tap given left left hands hands' old mid new new log grows row uses (uses_none tap.k new);
        taken = refl;
        last = inr takes_it;
        cause = long;
      },
      counts-none left some,
    );
  }

  -- ---- the loop

  -- turns were done since the beginning, and it goes on
  pub record KeepsOn (tap : Tap) (old new : Sight T A) : Type 0 where
    pub same : IsSamePass old.pass new.pass
    pub log_kept : old.log.faults ≤ new.log.faults
    pub some : ForSome new.left (λ n. 0 < n)
    pub turns : List Turn
    pub steps : StepsBy takes tap On turns old new

  pub keeps_on : (tap : Tap) (now : Sight T A) → HasCursor now.pass tap.k None → ForSome now.left (λ n. 0 < n) → KeepsOn tap now now
  keeps_on tap now cursor some = record {
    same = refl;
    log_kept = omega arith;
    some = some;
    turns = [];
    steps = (record { does = does_none tap now; taken = refl }, counts-none now.left some, cursor);
  }

  pub goes_on : (law : RowsStay) (tap : Tap) (a b c : Sight T A) → KeepsOn tap a b → IsSamePass b.pass c.pass → b.log.faults ≤ c.log.faults → Steps takes tap On b c → KeepsOn tap a c
  goes_on law tap a b c so_far same kept step = record {
    same = same_then a.pass b.pass c.pass so_far.same same;
    log_kept = omega (arith, so_far.log_kept, kept);
    some = counts-some b.left c.left (count_of step.turns) step.steps.1;
    turns = so_far.turns ++ step.turns;
    steps = steps_then law tap On so_far.turns step.turns a b c so_far.steps step.steps;
  }

  pub ends_so : (law : RowsStay) (tap : Tap) (stepped : Stepped) (a b c : Sight T A) → KeepsOn tap a b → Steps takes tap stepped b c → Steps takes tap stepped a c
  ends_so law tap stepped a b c so_far step =
      record { turns = so_far.turns ++ step.turns; steps = steps_then law tap stepped so_far.turns step.turns a b c so_far.steps step.steps }

  -- the same with the tap of the handler before
  pub tap_before : (stepped : Stepped) (x y : Each T) (b c : Sight T A) → IsSameEach x y → Steps takes (tap_in y) stepped b c → Steps takes (tap_in x) stepped b c
  tap_before stepped x y b c same steps = subst (λ (t : Tap). Steps takes t stepped b c) (ap (λ (e : Each T). tap_in e) same) steps

-- ---- the handler

module _ {T : Type 0} where
  pub same_each : (a b c : Each T) → IsSameEach a b → IsSameEach b c → IsSameEach a c
  same_each a b c one two = two ∙ ap (λ (e : Each T). record e { left = c.left; taker = c.taker }) one

  pub still_going : (a b : Each T) → IsSameEach a b → IsGoing a → ForSome b.left (λ n. 0 < n) → IsGoing b
  still_going a b same going some = record {
    goes = ap (λ (e : Each T). e.why) same ∙ going.goes;
    some = some;
    named = subst (λ (name : List ℕ). length name ≤ LONGEST_NAME) (sym (ap (λ (e : Each T). e.asking.name.now) same)) going.named;
  }

  pub cursor_after : (a b : Each T) (pass : PassView) → IsSameEach a b → HasCursor pass a.reader.k None → HasCursor pass b.reader.k None
  cursor_after a b pass same cursor = subst (λ (k : ℕ). HasCursor pass k None) (sym (ap (λ (e : Each T). e.reader.k) same)) cursor
